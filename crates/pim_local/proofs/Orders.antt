-- The order of joins.
use Rattle.pim_local.proofs.Words.{◌≡◌, ◌∙◌, ℕ, false, List, Option, None, Some, refl, sym, ap}
use Rattle.pim_local.proofs.Words.{IsTotalOrder, nat_list_cmp_total, on_total, then_total, options_total, eq_by_cmp_equiv}
use Rattle.pim_local.proofs.Words.{Ordering, Less, Equal, Greater, is_eq, is_lt, ordering_reverse, ordering_then, nat_cmp}
use Rattle.pim_local.proofs.Words.{slice_cmp, pointwise, nat_eq, texts_ties, both_tied, option_eq, option_cmp, false≢true}
use Rattle.pim_local.proofs.Words.{Join, join_cmp, same_join}

pub join_total : IsTotalOrder join_cmp
unfolding join_cmp
join_total = then_total (on_total (λ (join : Join). join.group) nat_list_cmp_total) (on_total (λ (join : Join). join.source) (options_total nat_list_cmp_total))

pub back : (p q : Join) (r : Ordering) → join_cmp p q ≡ r → join_cmp q p ≡ ordering_reverse r
back p q r e = join_total.antisymm q p ∙ ap ordering_reverse e

source_ties : (p q : Option (List ℕ)) → option_eq (pointwise nat_eq) p q ≡ is_eq (option_cmp (slice_cmp nat_cmp) p q)
source_ties None None = refl
source_ties None (Some y) = refl
source_ties (Some x) None = refl
source_ties (Some x) (Some y) = texts_ties x y

-- joins are the same exactly if the order doesn't tell them apart
pub ties : (p q : Join) → same_join p q ≡ is_eq (join_cmp p q)
unfolding join_cmp
ties p q = both_tied (pointwise nat_eq p.group q.group) (option_eq (pointwise nat_eq) p.source q.source) (slice_cmp nat_cmp p.group q.group)
    (option_cmp (slice_cmp nat_cmp) p.source q.source) (texts_ties p.group q.group) (source_ties p.source q.source)

-- what is the same as one of two like joins is the same as the other
pub alike : (other p q : Join) → join_cmp p q ≡ Equal → same_join other p ≡ same_join other q
alike other p q same =
    ties other p ∙ (eq_by_cmp_equiv join_total).symm other p ∙ ap is_eq (join_total.congr p q other same) ∙ (eq_by_cmp_equiv join_total).symm q other ∙ sym (ties other q)

-- groups don't fall
then_less : (r s : Ordering) → ordering_then r s ≡ Less → is_lt (ordering_reverse r) ≡ false
then_less Less s e = refl
then_less Equal s e = refl
then_less Greater s e = absurd (false≢true (ap is_lt e))

pub groups_rise : (p q : Join) → join_cmp p q ≡ Less → is_lt (slice_cmp nat_cmp q.group p.group) ≡ false
unfolding join_cmp
groups_rise p q e = ap is_lt (nat_list_cmp_total.antisymm q.group p.group) ∙ then_less (slice_cmp nat_cmp p.group q.group) (option_cmp (slice_cmp nat_cmp) p.source q.source) e
