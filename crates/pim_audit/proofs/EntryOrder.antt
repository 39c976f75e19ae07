-- The order of entries is total.
use Rattle.pim_audit.proofs.Words.{◌≡◌, ◌∙◌, List, [], ◌∷◌, ap, sym, ordering_reverse, AllByRecursion, Less, Equal}
use Rattle.pim_audit.proofs.Words.{nat_cmp_total, nat_list_cmp_total, on_total, then_total, Event, what_cmp, rank, source_of}
use Rattle.pim_audit.proofs.Words.{entry_rank, entry_cmp}
use Rattle.std.specs.Cmp.{IsTotalOrder}
use Rattle.std.specs.declared.cmp.Ordering.{Ordering}

pub entry_total : IsTotalOrder entry_cmp
unfolding entry_cmp what_cmp
entry_total =
    then_total
    (then_total (on_total (λ (e : Event). e.group) nat_list_cmp_total) (on_total entry_rank nat_cmp_total))
    (on_total (λ (e : Event). e.what) (then_total (on_total rank nat_cmp_total) (on_total source_of nat_list_cmp_total)))

-- the same two entries the other way round
pub turned : (a b : Event) (order : Ordering) → entry_cmp a b ≡ order → entry_cmp b a ≡ ordering_reverse order
turned a b order is = entry_total.antisymm b a ∙ ap ordering_reverse is

-- what stands after an entry stands after a lesser one
pub all_after : (a b : Event) (es : List Event) → entry_cmp a b ≡ Less → AllByRecursion (λ e. entry_cmp b e ≡ Less) es
    → AllByRecursion (λ e. entry_cmp a e ≡ Less) es
all_after a b [] less after = tt
all_after a b (e ∷ es) less after = (entry_total.trans a b e less after.0, all_after a b es less after.1)

-- what stands after an entry stands after an equal one
pub all_after_equal : (a b : Event) (es : List Event) → entry_cmp a b ≡ Equal → AllByRecursion (λ e. entry_cmp a e ≡ Less) es
    → AllByRecursion (λ e. entry_cmp b e ≡ Less) es
all_after_equal a b [] equal after = tt
all_after_equal a b (e ∷ es) equal after =
    (sym (entry_total.congr a b e equal) ∙ after.0, all_after_equal a b es equal after.1)
