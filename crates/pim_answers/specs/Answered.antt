-- What a command does: a relation between the text of its answer and the state after it. And what
-- was written of such a text.
use Rattle.std.specs.Prelude.{◌≡◌, ◌⊎◌, ℕ, Bool, true, false, List, [], ◌∷◌, Option, Result, MatchResult}
use Rattle.std.specs.Io.KnownBytes.{Appends}
use Rattle.pim_device.specs.Device.{AppendsFront, AppendsAll}
use Rattle.pim_answers.specs.Lines.{ok_line, fault_line, memory_line}

module _ {S : Type 0} where
  -- A command is refused by these words, and nothing changes.
  abbrev pub Refused : List ℕ → S → List ℕ → S → Type 0
  Refused words state text after = (text ≡ fault_line words) × (after ≡ state)

  -- Where the test holds, the command is refused by these words. Else it does this.
  abbrev pub RefusedIf : Bool → List ℕ → S → (List ℕ → S → Type 0) → List ℕ → S → Type 0
  RefusedIf true words state Does text after = Refused words state text after
  RefusedIf false words state Does text after = Does text after

  -- The command is refused by the first of these words. Without any it does this.
  abbrev pub RefusedBy : List (List ℕ) → S → (List ℕ → S → Type 0) → List ℕ → S → Type 0
  RefusedBy [] state Does text after = Does text after
  RefusedBy (first ∷ others) state Does text after = Refused first state text after

  -- The command does this, or memory is refused, and nothing changes.
  abbrev pub OrMemory : S → (List ℕ → S → Type 0) → List ℕ → S → Type 0
  OrMemory state Does text after = Does text after ⊎ (text ≡ memory_line) × (after ≡ state)

  -- The same, where memory is refused only if this holds.
  abbrev pub OrMemoryIf : Type 0 → S → (List ℕ → S → Type 0) → List ℕ → S → Type 0
  OrMemoryIf May state Does text after =
      Does text after ⊎ May × (text ≡ memory_line) × (after ≡ state)

  -- The command is done by `ok` alone, and this is the state after it.
  abbrev pub Done : S → List ℕ → S → Type 0
  Done end text after = (text ≡ ok_line) × (after ≡ end)

  -- ---- what was written

  -- A whole answer was written, and the state is that after it.
  pub record Whole (Does : List ℕ → S → Type 0) (old new : Option (List ℕ)) (after : S) : Type 0 where
    pub text : List ℕ
    pub does : Does text after
    pub written : Appends old new text

  -- A front of an answer was written.
  pub record Part (Does : List ℕ → S → Type 0) (old new : Option (List ℕ)) : Type 0 where
    pub text : List ℕ
    pub after : S
    pub does : Does text after
    pub written : AppendsFront old new text

  -- At Ok the whole answer was written, and the state is that after it. At Err a front of it was.
  abbrev pub Answered : {A E : Type 0} → (List ℕ → S → Type 0) → Option (List ℕ) → Option (List ℕ) → Result A E →
      (A → S) → Type 0
  Answered Does old new result after =
      MatchResult result (λ value. Whole Does old new (after value)) (λ _. Part Does old new)

-- The answer of a command that changes nothing: a text for which `Says` holds. At Ok it was
-- written, at Err a front of it.
pub record Wrote {A E : Type 0} (Says : List ℕ → Type 0) (old new : Option (List ℕ)) (result : Result A E) : Type 0 where
  pub text : List ℕ
  pub says : Says text
  pub written : AppendsAll old new result text
