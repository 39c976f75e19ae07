-- The timers of records as contracts see them: their order is total, and they are in it.
use Rattle.pim_down.proofs.Words.{◌≡◌, ℕ, List, [], ◌∷◌, Option, Some, None, refl, ap, Equal, nat_cmp, ordering_then, is_eq, IsTotalOrder, nat_cmp-IsAntisymmetric, nat_cmp_total, on_total, then_total, false≢true, Deadline, TimerKind, PendingTimer, ExpiryTimer, Key, Record, key_cmp, IsInOrder, timer_rank, deadline_cmp, end_of, with_end, timers_of}
use Rattle.pim_down.proofs.Order.{key_total, both_equal, equal_keys}
use Rattle.pim_down.proofs.InOrder.{order_placed}

-- ---- the order

pub deadline_total : IsTotalOrder deadline_cmp
unfolding deadline_cmp
deadline_total =
    then_total
    (then_total (on_total (λ (d : Deadline (List ℕ)). d.ends_at) nat_cmp_total) (on_total (λ (d : Deadline (List ℕ)). timer_rank d.timer) nat_cmp_total))
    (on_total (λ (d : Deadline (List ℕ)). d.key) key_total)

same_timer : (a b : TimerKind) → nat_cmp (timer_rank a) (timer_rank b) ≡ Equal → a ≡ b
same_timer PendingTimer PendingTimer e = refl
same_timer PendingTimer ExpiryTimer e = absurd (false≢true (ap is_eq e))
same_timer ExpiryTimer PendingTimer e = absurd (false≢true (ap is_eq e))
same_timer ExpiryTimer ExpiryTimer e = refl

pub same_deadline : (a b : Deadline (List ℕ)) → deadline_cmp a b ≡ Equal → a ≡ b
unfolding deadline_cmp
same_deadline a b e =
    let whole = both_equal (ordering_then (nat_cmp a.ends_at b.ends_at) (nat_cmp (timer_rank a.timer) (timer_rank b.timer))) (key_cmp a.key b.key) e in
    let front = both_equal (nat_cmp a.ends_at b.ends_at) (nat_cmp (timer_rank a.timer) (timer_rank b.timer)) whole.0 in
    let ends = nat_cmp-IsAntisymmetric a.ends_at b.ends_at front.0 in
    let timers = same_timer a.timer b.timer front.1 in
    let keys = equal_keys a.key b.key whole.1 in
    λ i. record { ends_at = ends i; timer = timers i; key = keys i }

abbrev Timers : Type 0
Timers = List (Deadline (List ℕ))

abbrev Ordered : Timers → Type 0
Ordered = IsInOrder deadline_cmp

-- ---- the timers of records

pub order_end : (timer : TimerKind) (key : Key (List ℕ)) (end : Option ℕ) (ds : Timers) → Ordered ds → Ordered (with_end timer key end ds)
order_end timer key None ds ordered = ordered
order_end timer key (Some ends) ds ordered = order_placed deadline_cmp deadline_total same_deadline _ ds ordered

pub order_timers : (records : List (Record (List ℕ))) → Ordered (timers_of records)
unfolding timers_of IsInOrder
order_timers [] = tt
order_timers (held ∷ records) = order_end PendingTimer held.key (end_of PendingTimer held.machine) _ (order_end ExpiryTimer held.key (end_of ExpiryTimer held.machine) (timers_of records) (order_timers records))
