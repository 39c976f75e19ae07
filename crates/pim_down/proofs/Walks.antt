-- The records as they are walked: the first, and then the others.
use Rattle.pim_down.proofs.Words.{◌≡◌, ℕ, List, ◌∷◌, refl, Held, record_after, record_seen, shown}

pub shown_first : {A : Type 0} (bytes_of : A → List ℕ) (now : ℕ) (held : Held A) (records : List (Held A)) → shown bytes_of now (held ∷ records) ≡ record_after now (record_seen bytes_of held) ∷ shown bytes_of now records
shown_first bytes_of now held records = refl
