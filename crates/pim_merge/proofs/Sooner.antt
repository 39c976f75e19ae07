-- The first of several heads of least rank.
use Rattle.pim_merge.proofs.Words.{◌≡◌, ◌∷◌, ◌<◌, ◌≤◌, ◌+◌, ◌∙◌, ℕ, Bool, suc, List, Option, None, Some, length, get_or, drop}
use Rattle.pim_merge.proofs.Words.{map, refl, ap, arith, add-one, nat_tests, drop_more, drop_all, sooner, numbered}
use Rattle.pim_merge.proofs.Words.{earliest_from, LaneState, head_rank}

sooner_once_more : (a b c : Option (ℕ × ℕ)) → sooner (sooner a b) c ≡ sooner a (sooner b c)
sooner_once_more None b c = refl
sooner_once_more (Some a) None c = refl
sooner_once_more (Some a) (Some b) None = grind (arith, nat_tests)
sooner_once_more (Some a) (Some b) (Some c) = grind (arith, nat_tests)

-- the head of this number is the earliest so far, or isn't
pub one_head_more : (past : ℕ → Bool) (lanes : List LaneState) (i : ℕ) (d : LaneState) (found : Option (ℕ × ℕ)) →
    i < length lanes
    → sooner (sooner found (numbered i (head_rank past (get_or lanes i d)))) (earliest_from (i + 1) (map (head_rank
    past) (drop (i + 1) lanes)))
    ≡ sooner found (earliest_from i (map (head_rank past) (drop i lanes)))
unfolding earliest_from
one_head_more past lanes i d found below =
    let split : drop i lanes ≡ get_or lanes i d ∷ drop (suc i) lanes = drop_more lanes i d below ∙ ap (λ n. get_or lanes i d ∷ drop n lanes) (add-one i) in
    rw (add-one i, split) (sooner_once_more found (numbered i (head_rank past (get_or lanes i d))) (earliest_from
    (suc i) (map (head_rank past) (drop (suc i) lanes))))

pub no_head_more : (past : ℕ → Bool) (lanes : List LaneState) (i : ℕ) (found : Option (ℕ × ℕ)) → length lanes ≤ i →
    sooner found (earliest_from i (map (head_rank past) (drop i lanes))) ≡ found
unfolding earliest_from
no_head_more past lanes i None over = ap (λ rest. earliest_from i (map (head_rank past) rest)) (drop_all i lanes over)
no_head_more past lanes i (Some found) over = ap (λ rest. sooner (Some found) (earliest_from i (map (head_rank past)
    rest))) (drop_all i lanes over)
