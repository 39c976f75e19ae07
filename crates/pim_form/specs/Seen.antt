-- How a contract sees a writer: its addresses as lists of bytes.
use Rattle.std.specs.Prelude.{ℕ, List}
use Rattle.pim_form.specs.Messages.{Writing}

module _ {A : Type 0} (bytes_of : A → List ℕ) where
  -- The parameters of a writer whose addresses are of type `A`.
  abbrev pub writing_seen : A → A → ℕ → ℕ → Writing
  writing_seen upstream own holdtime budget = record {
    upstream = bytes_of upstream;
    own = bytes_of own;
    holdtime = holdtime;
    budget = budget;
  }
