-- What the clauses of private functions say of the words of a line.
use Rattle.std.specs.Prelude.{◌≡◌, ◌⊎◌, ℕ, ◌≤◌, List, [], ◌∷◌, Option, None, Some, Result, Ok, Err, codes, decimal}
use Rattle.std.specs.List.{AllByRecursion}
use Rattle.std.specs.Borrow.{Bor}
use Rattle.pim_request.specs.declared.command.WordsFault.{WordsFault}
use Rattle.pim_request.specs.declared.command.Command.{Command}
use Rattle.pim_request.specs.Commands.{usages, forms_in, IsFaultOf, AreCommand}
use Rattle.pim_request.specs.Forms.{Slot, number, pieces_of, Fits, IsWord, IsWrongBy}

-- The pieces of a text that is left, none where no text is left.
abbrev pub pieces_left : ℕ → Option (Bor (List ℕ)) → List (List ℕ)
pieces_left separator None = []
pieces_left separator (Some text) = pieces_of separator text.now

-- The words that are left.
abbrev pub words_left : Option (Bor (List ℕ)) → List (List ℕ)
words_left left = pieces_left 32 left

-- What is wrong where the first of these words doesn't fit the slot, or is missing.
abbrev pub IsSlotFault : Slot → List ℕ → List (List ℕ) → WordsFault → Type 0
IsSlotFault slot command [] fault = IsWord command fault
IsSlotFault slot command (word ∷ words) fault =
    (Fits slot word → ⊥) × IsWrongBy (λ expected. slot ≡ expected) word fault

-- What is wrong where the words don't begin with words that fit these slots, one by one.
abbrev pub IsFrontFault : List Slot → List ℕ → List (List ℕ) → WordsFault → Type 0
IsFrontFault [] command words fault = ⊥
IsFrontFault (slot ∷ slots) command [] fault = IsWord command fault
IsFrontFault (slot ∷ slots) command (word ∷ words) fault =
    ((Fits slot word → ⊥) × IsWrongBy (λ expected. slot ≡ expected) word fault)
    ⊎ (Fits slot word × IsFrontFault slots command words fault)

-- These words begin with a holdtime in seconds, and the others follow; or they begin with another
-- word, or with none, and the holdtime is 210.
abbrev pub IsHoldtime : ℕ → List (List ℕ) → List (List ℕ) → Type 0
IsHoldtime n words others =
    ((words ≡ others) × (n ≡ 210) × ((rest : List (List ℕ)) → words ≡ codes "holdtime" ∷ rest → ⊥))
    ⊎ ((words ≡ codes "holdtime" ∷ decimal n ∷ others) × (99 ≤ n) × (n ≤ 65535))

-- What is wrong with the number after `holdtime`.
abbrev pub IsHoldtimeFault : List ℕ → List (List ℕ) → WordsFault → Type 0
IsHoldtimeFault command words fault =
    (others : List (List ℕ)) × (words ≡ codes "holdtime" ∷ others)
    × IsSlotFault (number 99 65535) command others fault

-- The text is none of these.
abbrev pub IsNone : List ℕ → List (List ℕ) → Type 0
IsNone text names = AllByRecursion (λ name. text ≡ name → ⊥) names

-- ---- commands by their names

-- The names of the commands of configuration.
abbrev pub names_of_setup : List (List ℕ)
names_of_setup =
    codes "port" ∷ codes "rp" ∷ codes "via" ∷ codes "limit" ∷ codes "start" ∷ codes "reset" ∷ []

-- The names of the commands on messages and on what is kept.
abbrev pub names_of_kept : List (List ℕ)
names_of_kept = codes "messages" ∷ codes "keep" ∷ codes "change" ∷ codes "same" ∷ []

-- The names of the other commands on a router.
abbrev pub names_of_router : List (List ℕ)
names_of_router =
    codes "packet" ∷ codes "run" ∷ codes "now" ∷ codes "next" ∷ codes "state" ∷ codes "wants"
    ∷ codes "neighbours" ∷ []

-- What was read of this command and the words after it: the command that they state, or what is
-- wrong with them.
abbrev pub IsReading : List ℕ → List (List ℕ) → Result Command WordsFault → Type 0
IsReading command words (Ok read) = AreCommand (command ∷ words) read
IsReading command words (Err fault) = IsFaultOf (forms_in usages command) command words fault
