-- The size of a star alone.
use Rattle.pim_form.proofs.Words.{◌≡◌, ◌∙◌, ℕ, ◌+◌, ◌*◌, Bool, true, false, ◌&&◌, List, [], ◌∷◌, Option, None, Some}
use Rattle.pim_form.proofs.Words.{length, nat_le, is_some, refl, sym, ap, arith, false≢true, AddressFamily, star_unit}
use Rattle.pim_form.proofs.Words.{run_entries, groups_behind, run_groups, run_size, empty_message_size, empty_set_size}
use Rattle.pim_form.proofs.Words.{entry_size, most_groups, exceptions_of, star_fits}

and_true : (b : Bool) → b ≡ b && true
and_true true = refl
and_true false = refl

alone_groups : (group : List ℕ) (xs : List (List ℕ)) → run_groups (star_unit group xs ∷ []) ≡ 1
unfolding groups_behind
alone_groups group xs = refl

alone_entries : (group : List ℕ) (xs : List (List ℕ)) → run_entries (star_unit group xs ∷ []) ≡ 1 + length xs
unfolding run_entries
alone_entries group xs = omega arith

pub star_fits_by : (family : AddressFamily) (budget size count : ℕ) (group : List ℕ) (star : Option (List (List ℕ))) → is_some star ≡ true → count ≡ length (exceptions_of star)
    → size ≡ empty_message_size family + 1 * empty_set_size family + (1 + count) * entry_size family → nat_le size budget ≡ star_fits family budget group star
star_fits_by family budget size count group None some counted is = absurd (false≢true some)
star_fits_by family budget size count group (Some xs) some counted is =
    let groups = alone_groups group xs in
    let entries = alone_entries group xs in
    let sized : size ≡ run_size family (star_unit group xs ∷ []) =
    is
    ∙ ap (λ n. empty_message_size family + 1 * empty_set_size family + (1 + n) * entry_size family) counted
    ∙ ap (λ n. empty_message_size family + 1 * empty_set_size family + n * entry_size family) (sym entries)
    ∙ ap (λ n. empty_message_size family + n * empty_set_size family + run_entries (star_unit group xs ∷ []) * entry_size family) (sym groups) in
    ap (λ n. nat_le n budget) sized ∙ and_true (nat_le (run_size family (star_unit group xs ∷ [])) budget)
    ∙ ap (λ n. nat_le (run_size family (star_unit group xs ∷ [])) budget && nat_le n most_groups) (sym groups)
