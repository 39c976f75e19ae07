-- The line of a message, found by its number.
use Rattle.pim_report.proofs.Words.{◌≡◌, ℕ, zero, suc, ◌+◌, List, [], ◌∷◌, ◌++◌, drop, refl, subst, add-one, flat_map}
use Rattle.pim_report.proofs.Words.{slice_get, message_line, message_line_of}

-- The lines from one message on are its line, if it is there, and those from the next one on.
pub split_at : (messages : List (List ℕ)) (index : ℕ) →
    flat_map message_line (drop index messages) ≡ message_line_of (slice_get messages index) ++ flat_map message_line (drop (index + 1) messages)
split_at [] zero = refl
split_at [] (suc index) = rw (add-one (suc index)) refl
split_at (message ∷ messages) zero = refl
split_at (message ∷ messages) (suc index) = rw (add-one (suc index)) (subst
    (λ n. flat_map message_line (drop index messages) ≡ message_line_of (slice_get messages index) ++ flat_map message_line (drop n messages)) (add-one index) (split_at messages index))
