-- The files that follow the one that is read.
use Rattle.pim_merge.proofs.Words.{◌≡◌, ◌≤◌, ◌<◌, ◌+◌, ℕ, List, [], ◌∷◌, length, get_or, set, drop, Option, None, Some}
use Rattle.pim_merge.proofs.Words.{refl, ap, arith, option_map, drop_all, drop_more, drop-set-lt, Choice, known_too}
use Rattle.pim_merge.proofs.Words.{all_known, answers_by, answers_of_files}

module _ {R : Type 0} (remaining : R → Option (List ℕ)) (others : List R) (read : ℕ) where
  pub none_follow : length others ≤ read → all_known remaining (drop read others) ≡ Some []
  none_follow over = ap (all_known remaining) (drop_all read others over)

  pub one_follows : (device : R) → read < length others → all_known remaining (drop read others)
      ≡ known_too (remaining (get_or others read device)) (all_known remaining (drop (read + 1) others))
  one_follows device below = ap (all_known remaining) (drop_more others read device below)

  pub others_follow : (device : R) → all_known remaining (drop (read + 1) (set others read device))
      ≡ all_known remaining (drop (read + 1) others)
  others_follow device = ap (all_known remaining) (drop-set-lt (read + 1) others read device (omega arith))

-- those of one file
pub one_file : {R : Type 0} (remaining : R → Option (List ℕ)) (choice : Choice) (device : R) →
    option_map (answers_of_files choice) (all_known remaining (device ∷ [])) ≡ option_map (answers_by choice) (remaining device)
one_file remaining choice device = by (remaining device)
  where
    by : (file : Option (List ℕ)) →
        option_map (answers_of_files choice) (known_too file (Some [])) ≡ option_map (answers_by choice) file
    by None = refl
    by (Some file) = refl
