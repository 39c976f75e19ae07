-- What a line asks for has what the calls of a router require.
use Rattle.pim_session.proofs.Words.{◌≡◌, ℕ, suc, ◌≤◌, ◌==◌, Bool, true, false, List, [], ◌∷◌, length, refl, subst, ◌∙◌, ap}
use Rattle.pim_session.proofs.Words.{arith, codes, decimal, Port, Rp, Via, Limit, Start, Run, Packet, Now, Next, State, Wants}
use Rattle.pim_session.proofs.Words.{Neighbours, Messages, Keep, Change, Same, Reset, States, line_limit, IsFitCommand}
use Rattle.std.specs.List.{slice_split, onto_first}
use Rattle.pim_request.specs.declared.command.Command.{Command}
use Rattle.pim_request.specs.Forms.{words_of}

-- each of these words has at most so many bytes
abbrev AreShort : ℕ → List (List ℕ) → Type 0
AreShort most [] = Unit {0}
AreShort most (word ∷ words) = (length word ≤ most) × AreShort most words

one_longer : (most : ℕ) (words : List (List ℕ)) → AreShort most words → AreShort (suc most) words
one_longer most [] short = tt
one_longer most (word ∷ words) short = (let first = short.0 in omega arith, one_longer most words short.1)

first_longer : (most byte : ℕ) (words : List (List ℕ)) → AreShort most words → AreShort (suc most) (onto_first byte words)
first_longer most byte [] short = (omega arith, tt)
first_longer most byte (word ∷ words) short = (let first = short.0 in omega arith, one_longer most words short.1)

by_test : (test : ℕ → Bool) (byte : ℕ) (text : List ℕ) (b : Bool) → test byte ≡ b → AreShort (length text) (slice_split test text) → AreShort (suc (length text)) (slice_split test (byte ∷ text))
by_test test byte text true is short = rw is (omega arith, one_longer (length text) (slice_split test text) short)
by_test test byte text false is short = rw is (first_longer (length text) byte (slice_split test text) short)

-- the words of a text are no longer than the text
short_words : (test : ℕ → Bool) (text : List ℕ) → AreShort (length text) (slice_split test text)
short_words test [] = (omega arith, tt)
short_words test (byte ∷ text) = by_test test byte text (test byte) refl (short_words test text)

-- the last of five words
last_short : (line a b c d e : List ℕ) (others : List (List ℕ)) → length line ≤ line_limit → words_of line ≡ a ∷ others → others ≡ b ∷ c ∷ d ∷ e ∷ [] → length e ≤ line_limit
last_short line a b c d e others short is words =
    let all : words_of line ≡ a ∷ b ∷ c ∷ d ∷ e ∷ [] = is ∙ ap (λ (l : List (List ℕ)). a ∷ l) words in
    let least : AreShort (length line) (a ∷ b ∷ c ∷ d ∷ e ∷ []) = subst (AreShort (length line)) all (short_words (λ byte. byte == 32) line) in
    let last : length e ≤ length line = least.1.1.1.1.0 in
    omega (arith, last, short)

-- a command that a line states
pub line_fits : (line : List ℕ) (command : Command) → length line ≤ line_limit → States line command → IsFitCommand command
line_fits line (Packet packet) short (others, is, (source, destination, words, port, from, to, hex)) =
    (hex, last_short line (codes "packet") (decimal packet.port) source destination packet.hex.now others short is words)
line_fits line (Run moment) short (others, is, (words, low, high)) = omega arith
line_fits line (Port row) short states = tt
line_fits line (Rp row) short states = tt
line_fits line (Via row) short states = tt
line_fits line (Limit n) short states = tt
line_fits line Start short states = tt
line_fits line Now short states = tt
line_fits line Next short states = tt
line_fits line State short states = tt
line_fits line Wants short states = tt
line_fits line Neighbours short states = tt
line_fits line (Messages writing) short states = tt
line_fits line (Keep kept) short states = tt
line_fits line (Change comparison) short states = tt
line_fits line (Same comparison) short states = tt
line_fits line Reset short states = tt
