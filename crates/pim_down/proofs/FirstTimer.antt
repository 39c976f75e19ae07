-- The timer that fires first, in records in key order.
use Rattle.pim_down.proofs.Words.{◌≡◌, ℕ, zero, suc, ◌<◌, ◌≤◌, Bool, true, false, cond, List, [], ◌∷◌, Option, Some, None, min, length, get_or, ltb, eqb, refl, sym, ap, subst, ◌∙◌, arith, Less, Equal, nat_cmp, ordering_then, is_gt, AllByRecursion, position, slice_get, nat_cmp_total, tied_itself, false≢true, ltb-true, eqb-true, nat_tests, Place, Listed, at, IsItem, Deadline, TimerKind, PendingTimer, ExpiryTimer, Held, Key, Machine, Pending, Record, key_cmp, same_key, IsBelow, IsAscending, machine_at, StandsAt, WouldStandAt, record_after, pending_after, expiry_after, pending_due, expiry_due, ppt_due, et_due, sooner, pending_end, first_end, placed, IsLow, IsInOrder, timer_rank, deadline_cmp, end_of, with_end, timers_of, key_seen, record_seen, records_seen, NoneBefore}
use Rattle.pim_down.proofs.Order.{same_keys, same_itself, less_back}
use Rattle.pim_down.proofs.Map.{none_below}
use Rattle.pim_down.proofs.Lists.{map_at}
use Rattle.pim_down.proofs.Looking.{first_here, none_here}
use Rattle.pim_down.proofs.Rpts.{same_default}
use Rattle.pim_down.proofs.Searched.{rise_at}
use Rattle.pim_down.proofs.Sought.{element}
use Rattle.pim_down.proofs.InOrder.{le_itself, le_other, low_parts}
use Rattle.pim_down.proofs.Deadlines.{deadline_total, same_deadline, order_timers}

abbrev Timers : Type 0
Timers = List (Deadline (List ℕ))

abbrev Le : Deadline (List ℕ) → Deadline (List ℕ) → Type 0
Le a b = is_gt (deadline_cmp a b) ≡ false

-- the first of some timers
pub first_of : (ds : Timers) (d : Deadline (List ℕ)) → slice_get ds 0 ≡ Some d → (rest : Timers) × (ds ≡ d ∷ rest)
first_of [] d e = absurd (never e)
  where
    never : ◌≡◌ {A = Option (Deadline (List ℕ))} None (Some d) → ⊥
    never f = cc
first_of (x ∷ ds) d e = let same : x ≡ d = cc in (ds, λ i. same i ∷ ds)

-- ---- when it ends

pub ends_le : (a b : Deadline (List ℕ)) → Le a b → a.ends_at ≤ b.ends_at
unfolding deadline_cmp
ends_le a b le = by (ltb a.ends_at b.ends_at) refl (eqb a.ends_at b.ends_at) refl
  where
    by : (t : Bool) → ltb a.ends_at b.ends_at ≡ t → (u : Bool) → eqb a.ends_at b.ends_at ≡ u → a.ends_at ≤ b.ends_at
    by true e u f = omega (arith, ltb-true a.ends_at b.ends_at e)
    by false e true f = omega (arith, eqb-true a.ends_at b.ends_at f)
    by false e false f = let big : is_gt (deadline_cmp a b) ≡ true = rw (e, f) refl in absurd (false≢true (sym le ∙ big))

abbrev pub end_first : Timers → Option ℕ
end_first [] = None
end_first (d ∷ ds) = Some d.ends_at

end_placed : (d : Deadline (List ℕ)) (ds : Timers) → end_first (placed deadline_cmp d ds) ≡ sooner (Some d.ends_at) (end_first ds)
unfolding placed
end_placed d [] = refl
end_placed d (x ∷ ds) = by (is_gt (deadline_cmp d x)) refl
  where
    by : (b : Bool) → is_gt (deadline_cmp d x) ≡ b → end_first (cond b (x ∷ placed deadline_cmp d ds) (d ∷ x ∷ ds)) ≡ Some (min d.ends_at x.ends_at)
    by true e = let le = ends_le x d (le_other deadline_cmp deadline_total same_deadline d x e) in ap (λ n. Some n) (omega (arith, le))
    by false e = let le = ends_le d x e in ap (λ n. Some n) (omega (arith, le))

end_with : (timer : TimerKind) (key : Key (List ℕ)) (end : Option ℕ) (ds : Timers) → end_first (with_end timer key end ds) ≡ sooner end (end_first ds)
end_with timer key None ds = refl
end_with timer key (Some ends) ds = end_placed (record { ends_at = ends; timer = timer; key = key }) ds

min_assoc : (a b c : ℕ) → min (min a b) c ≡ min a (min b c)
min_assoc a b c = omega arith

sooner_assoc : (a b c : Option ℕ) → sooner (sooner a b) c ≡ sooner a (sooner b c)
sooner_assoc None b c = refl
sooner_assoc (Some a) None c = refl
sooner_assoc (Some a) (Some b) None = refl
sooner_assoc (Some a) (Some b) (Some c) = ap (λ n. Some n) (min_assoc a b c)

sooner_back : (a b : Option ℕ) → sooner a b ≡ sooner b a
sooner_back None None = refl
sooner_back None (Some b) = refl
sooner_back (Some a) None = refl
sooner_back (Some a) (Some b) = ap (λ n. Some n) (omega arith)

pub first_end_is : (records : List (Record (List ℕ))) → first_end records ≡ end_first (timers_of records)
unfolding first_end timers_of
first_end_is [] = refl
first_end_is (held ∷ records) =
    let pending = pending_end held.machine.pending in
    let expiry = held.machine.expires_in in
    let rest = timers_of records in
    ap (λ e. sooner (sooner expiry pending) e) (first_end_is records)
    ∙ ap (λ e. sooner e (end_first rest)) (sooner_back expiry pending)
    ∙ sooner_assoc pending expiry (end_first rest)
    ∙ ap (sooner pending) (sym (end_with ExpiryTimer held.key expiry rest))
    ∙ sym (end_with PendingTimer held.key pending (with_end ExpiryTimer held.key expiry rest))

pub first_end_some : (records : List (Record (List ℕ))) (d : Deadline (List ℕ)) → slice_get (timers_of records) 0 ≡ Some d → first_end records ≡ Some d.ends_at
first_end_some records d e = first_end_is records ∙ ap end_first (first_of (timers_of records) d e).1

pub first_end_none : (records : List (Record (List ℕ))) → slice_get (timers_of records) 0 ≡ None → first_end records ≡ None
first_end_none records e = first_end_is records ∙ by (timers_of records) e
  where
    by : (ds : Timers) → slice_get ds 0 ≡ None → end_first ds ≡ None
    by [] e = refl
    by (x ∷ ds) e = absurd (never e)
      where
        never : ◌≡◌ {A = Option (Deadline (List ℕ))} (Some x) None → ⊥
        never f = cc

-- ---- whose it is

abbrev Owner : List (Record (List ℕ)) → Deadline (List ℕ) → Type 0
Owner records d = (machine : Machine) × (machine_at d.key records ≡ Some machine) × (end_of d.timer machine ≡ Some d.ends_at)

all_placed : (P : Deadline (List ℕ) → Type 0) (d : Deadline (List ℕ)) (ds : Timers) → P d → AllByRecursion P ds → AllByRecursion P (placed deadline_cmp d ds)
unfolding placed
all_placed P d [] p ps = (p, tt)
all_placed P d (x ∷ ds) p ps =
    elim (is_gt (deadline_cmp d x)) as (λ b. AllByRecursion P (cond b (x ∷ placed deadline_cmp d ds) (d ∷ x ∷ ds))) [
      | true ↦ (ps.0, all_placed P d ds p ps.1)
      | false ↦ (p, ps)
    ]

all_with : (P : Deadline (List ℕ) → Type 0) (timer : TimerKind) (key : Key (List ℕ)) (end : Option ℕ) (ds : Timers) → ((ends : ℕ) → end ≡ Some ends → P (record { ends_at = ends; timer = timer; key = key })) → AllByRecursion P ds → AllByRecursion P (with_end timer key end ds)
all_with P timer key None ds p ps = ps
all_with P timer key (Some ends) ds p ps = all_placed P (record { ends_at = ends; timer = timer; key = key }) ds (p ends refl) ps

all_weaker : (P Q : Deadline (List ℕ) → Type 0) (ds : Timers) → ((d : Deadline (List ℕ)) → P d → Q d) → AllByRecursion P ds → AllByRecursion Q ds
all_weaker P Q [] f ps = tt
all_weaker P Q (d ∷ ds) f ps = (f d ps.0, all_weaker P Q ds f ps.1)

owner_behind : (held : Record (List ℕ)) (records : List (Record (List ℕ))) → IsBelow held.key records → (d : Deadline (List ℕ)) → Owner records d → Owner (held ∷ records) d
unfolding machine_at
owner_behind held records below d owner = by (same_key d.key held.key) refl
  where
    by : (b : Bool) → same_key d.key held.key ≡ b → Owner (held ∷ records) d
    by true e =
        let gone : ◌≡◌ {A = Option Machine} None (Some owner.0) = sym (none_below held.key records below) ∙ ap (λ k. machine_at k records) (sym (same_keys d.key held.key e)) ∙ owner.1 in
        absurd (never gone)
      where
        never : ◌≡◌ {A = Option Machine} None (Some owner.0) → ⊥
        never f = cc
    by false e = (owner.0, rw e owner.1, owner.2)

owner_here : (held : Record (List ℕ)) (records : List (Record (List ℕ))) (timer : TimerKind) (ends : ℕ) → end_of timer held.machine ≡ Some ends → Owner (held ∷ records) (record { ends_at = ends; timer = timer; key = held.key })
unfolding machine_at
owner_here held records timer ends e = (held.machine, rw (same_itself held.key) refl, e)

owners : (records : List (Record (List ℕ))) → IsAscending records → AllByRecursion (Owner records) (timers_of records)
unfolding timers_of IsAscending
owners [] a = tt
owners (held ∷ records) a =
    let rest = all_weaker (Owner records) (Owner (held ∷ records)) (timers_of records) (owner_behind held records a.0) (owners records a.1) in
    all_with (Owner (held ∷ records)) PendingTimer held.key (end_of PendingTimer held.machine) (with_end ExpiryTimer held.key (end_of ExpiryTimer held.machine) (timers_of records)) (owner_here held records PendingTimer)
    (all_with (Owner (held ∷ records)) ExpiryTimer held.key (end_of ExpiryTimer held.machine) (timers_of records) (owner_here held records ExpiryTimer) rest)

pub owner_first : (records : List (Record (List ℕ))) (d : Deadline (List ℕ)) → IsAscending records → slice_get (timers_of records) 0 ≡ Some d → Owner records d
owner_first records d a e =
    let first = first_of (timers_of records) d e in
    (subst (AllByRecursion (Owner records)) first.1 (owners records a)).0

pub never_missing : (records : List (Record (List ℕ))) (d : Deadline (List ℕ)) (place : ℕ) → IsAscending records → slice_get (timers_of records) 0 ≡ Some d → WouldStandAt d.key records place → ⊥
never_missing records d place a e would = let owner = owner_first records d a e in never owner.0 (sym (would.machine a) ∙ owner.1)
  where
    never : (m : Machine) → ◌≡◌ {A = Option Machine} None (Some m) → ⊥
    never m f = cc

-- ---- no other is before it

low_with : (d : Deadline (List ℕ)) (timer : TimerKind) (key : Key (List ℕ)) (end : Option ℕ) (ds : Timers) → IsLow deadline_cmp d (with_end timer key end ds) → ((ends : ℕ) → end ≡ Some ends → Le d (record { ends_at = ends; timer = timer; key = key })) × IsLow deadline_cmp d ds
low_with d timer key None ds low = (λ ends e. absurd (never ends e), low)
  where
    never : (ends : ℕ) → ◌≡◌ {A = Option ℕ} None (Some ends) → ⊥
    never ends f = cc
low_with d timer key (Some n) ds low =
    let parts = low_parts deadline_cmp deadline_total same_deadline d (record { ends_at = n; timer = timer; key = key }) ds low in
    (λ ends e. let same : n ≡ ends = cc in subst (λ m. Le d (record { ends_at = m; timer = timer; key = key })) same parts.0, parts.1)

module _ {A : Type 0} (bytes_of : A → List ℕ) (d : Deadline (List ℕ)) where
  lowest : (items : List (Held A)) → IsLow deadline_cmp d (timers_of (records_seen bytes_of items)) → (k : ℕ) (x : Held A) → k < length items → (timer : TimerKind) (ends : ℕ) → end_of timer (record_seen bytes_of (get_or items k x)).machine ≡ Some ends → Le d (record { ends_at = ends; timer = timer; key = key_seen bytes_of (get_or items k x).key })
  unfolding timers_of
  lowest [] low k x w timer ends e = absurd (omega arith)
  lowest (held ∷ items) low k x w timer ends e =
      let machine = (record_seen bytes_of held).machine in
      let key = key_seen bytes_of held.key in
      let rest = timers_of (records_seen bytes_of items) in
      let pending = low_with d PendingTimer key (end_of PendingTimer machine) (with_end ExpiryTimer key (end_of ExpiryTimer machine) rest) low in
      let expiry = low_with d ExpiryTimer key (end_of ExpiryTimer machine) rest pending.1 in
      by k w timer e pending.0 expiry.0 (lowest items expiry.1)
    where
      by : (k : ℕ) → k < suc (length items) → (timer : TimerKind) → end_of timer (record_seen bytes_of (get_or (held ∷ items) k x)).machine ≡ Some ends →
          ((n : ℕ) → end_of PendingTimer (record_seen bytes_of held).machine ≡ Some n → Le d (record { ends_at = n; timer = PendingTimer; key = key_seen bytes_of held.key })) →
          ((n : ℕ) → end_of ExpiryTimer (record_seen bytes_of held).machine ≡ Some n → Le d (record { ends_at = n; timer = ExpiryTimer; key = key_seen bytes_of held.key })) →
          ((k : ℕ) (x : Held A) → k < length items → (timer : TimerKind) (ends : ℕ) → end_of timer (record_seen bytes_of (get_or items k x)).machine ≡ Some ends → Le d (record { ends_at = ends; timer = timer; key = key_seen bytes_of (get_or items k x).key })) →
          Le d (record { ends_at = ends; timer = timer; key = key_seen bytes_of (get_or (held ∷ items) k x).key })
      by zero w PendingTimer e p t rest = p ends e
      by zero w ExpiryTimer e p t rest = t ends e
      by (suc k) w timer e p t rest = rest k x (omega arith) timer ends e

-- ---- it is the one that is due

abbrev pub due_of : TimerKind → Record (List ℕ) → Bool
due_of PendingTimer held = ppt_due held
due_of ExpiryTimer held = et_due held

due_at : (now : ℕ) (timer : TimerKind) (held : Record (List ℕ)) → end_of timer held.machine ≡ Some now → due_of timer (record_after now held) ≡ true
due_at now PendingTimer held e = by held.machine.pending e
  where
    by : (p : Option Pending) → pending_end p ≡ Some now → pending_due (pending_after now p) ≡ true
    by None f = absurd (never f)
      where
        never : ◌≡◌ {A = Option ℕ} None (Some now) → ⊥
        never f = cc
    by (Some timer) f = let same : timer.ends_in ≡ now = cc in grind (arith, nat_tests)
due_at now ExpiryTimer held e = by held.machine.expires_in e
  where
    by : (p : Option ℕ) → p ≡ Some now → expiry_due (expiry_after now p) ≡ true
    by None f = absurd (never f)
      where
        never : ◌≡◌ {A = Option ℕ} None (Some now) → ⊥
        never f = cc
    by (Some ends) f = let same : ends ≡ now = cc in grind (arith, nat_tests)

due_is : (now : ℕ) (timer : TimerKind) (held : Record (List ℕ)) → due_of timer (record_after now held) ≡ true → (ends : ℕ) × (end_of timer held.machine ≡ Some ends) × (ends ≤ now)
due_is now PendingTimer held e = by held.machine.pending e
  where
    by : (p : Option Pending) → pending_due (pending_after now p) ≡ true → (ends : ℕ) × (pending_end p ≡ Some ends) × (ends ≤ now)
    by None f = absurd (false≢true f)
    by (Some timer) f = (timer.ends_in, refl, grind (arith, nat_tests))
due_is now ExpiryTimer held e = by held.machine.expires_in e
  where
    by : (p : Option ℕ) → expiry_due (expiry_after now p) ≡ true → (ends : ℕ) × (p ≡ Some ends) × (ends ≤ now)
    by None f = absurd (false≢true f)
    by (Some ends) f = (ends, refl, grind (arith, nat_tests))

-- what ends no later than the first ends with it, and is not of a lesser kind, nor of a lesser key
same_moment : (n e : ℕ) (timer other : TimerKind) (key key2 : Key (List ℕ)) → Le (record { ends_at = n; timer = timer; key = key }) (record { ends_at = e; timer = other; key = key2 }) → e ≤ n → is_gt (ordering_then (nat_cmp (timer_rank timer) (timer_rank other)) (key_cmp key key2)) ≡ false
unfolding deadline_cmp
same_moment n e timer other key key2 le by_now =
    let from = ends_le (record { ends_at = n; timer = timer; key = key }) (record { ends_at = e; timer = other; key = key2 }) le in
    let same : e ≡ n = omega (arith, from, by_now) in
    let tied : nat_cmp n e ≡ Equal = subst (λ m. nat_cmp n m ≡ Equal) (sym same) (tied_itself nat_cmp_total n) in
    subst (λ r. is_gt (ordering_then (ordering_then r (nat_cmp (timer_rank timer) (timer_rank other))) (key_cmp key key2)) ≡ false) tied le

not_less : (timer : TimerKind) (key key2 : Key (List ℕ)) → key_cmp key2 key ≡ Less → is_gt (ordering_then (nat_cmp (timer_rank timer) (timer_rank timer)) (key_cmp key key2)) ≡ true
not_less PendingTimer key key2 less = ap is_gt (less_back key2 key less)
not_less ExpiryTimer key key2 less = ap is_gt (less_back key2 key less)

module _ {A : Type 0} (bytes_of : A → List ℕ) (list : Listed (Held A)) (ascending : IsAscending (records_seen bytes_of list.items)) (d : Deadline (List ℕ)) (first : slice_get (timers_of (records_seen bytes_of list.items)) 0 ≡ Some d) where
  abbrev test : TimerKind → Held A → Bool
  test timer held = due_of timer (record_after d.ends_at (record_seen bytes_of held))

  low : IsLow deadline_cmp d (timers_of (records_seen bytes_of list.items))
  unfolding IsLow IsInOrder
  low =
      let split = first_of (timers_of (records_seen bytes_of list.items)) d first in
      let order : IsInOrder deadline_cmp (d ∷ split.0) = subst (IsInOrder deadline_cmp) split.1 (order_timers (records_seen bytes_of list.items)) in
      subst (IsLow deadline_cmp d) (sym split.1) (le_itself deadline_cmp deadline_total same_deadline d, order.0)

  after : (k : ℕ) (x : Held A) → k < length list.items → (timer : TimerKind) → test timer (get_or list.items k x) ≡ true → is_gt (ordering_then (nat_cmp (timer_rank d.timer) (timer_rank timer)) (key_cmp d.key (key_seen bytes_of (get_or list.items k x).key))) ≡ false
  after k x w timer due =
      let end = due_is d.ends_at timer (record_seen bytes_of (get_or list.items k x)) due in
      same_moment d.ends_at end.0 d.timer timer d.key (key_seen bytes_of (get_or list.items k x).key) (lowest bytes_of d list.items low k x w timer end.0 end.1) end.2

  module _ (place : Place) (item : IsItem list place) (stands : StandsAt d.key (records_seen bytes_of list.items) (at list place)) where
    here_due : (x : Held A) → x ≡ get_or list.items (at list place) x → test d.timer x ≡ true
    here_due x here =
        let seen = record_seen bytes_of x in
        let owner = owner_first (records_seen bytes_of list.items) d ascending first in
        let same : owner.0 ≡ seen.machine = some_same (sym owner.1 ∙ stands.machine seen ∙ ap (λ (r : Record (List ℕ)). Some r.machine) (map_at (record_seen bytes_of) list.items (at list place) x item.1 here seen)) in
        due_at d.ends_at d.timer seen (ap (end_of d.timer) (sym same) ∙ owner.2)
      where
        some_same : {m n : Machine} → Some m ≡ Some n → m ≡ n
        some_same e = cc

    before_not : NoneBefore (test d.timer) list.items (at list place)
    before_not k x lt w = by (test d.timer (get_or list.items k x)) refl
      where
        by : (b : Bool) → test d.timer (get_or list.items k x) ≡ b → b ≡ false
        by false e = refl
        by true e =
            let one = element list.items (at list place) item.1 in
            let seen = record_seen bytes_of one.0 in
            let key : key_seen bytes_of (get_or list.items (at list place) x).key ≡ d.key = ap (λ (h : Held A). key_seen bytes_of h.key) (same_default list.items (at list place) x one.0 item.1 ∙ sym one.1) ∙ ap (λ (r : Record (List ℕ)). r.key) (sym (map_at (record_seen bytes_of) list.items (at list place) one.0 item.1 one.1 seen)) ∙ stands.here seen in
            let less = subst (λ c. key_cmp (key_seen bytes_of (get_or list.items k x).key) c ≡ Less) key (rise_at bytes_of list.items ascending k (at list place) x lt item.1) in
            absurd (false≢true (sym (after k x w d.timer e) ∙ not_less d.timer d.key (key_seen bytes_of (get_or list.items k x).key) less))

    -- it stands first among those whose timer of its kind is due
    pub fires_here : IsItem list place × (position (test d.timer) list.items ≡ Some (at list place))
    fires_here = let one = element list.items (at list place) item.1 in first_here (test d.timer) list place one.0 item one.1 (here_due one.0 one.1) before_not

  -- where it is an expiry timer, no prune-pending timer is due
  pub none_pending : d.timer ≡ ExpiryTimer → position (test PendingTimer) list.items ≡ None
  none_pending is = none_here (test PendingTimer) list.items (length list.items) (omega arith) (λ k x lt w. by k x w (test PendingTimer (get_or list.items k x)) refl)
    where
      by : (k : ℕ) (x : Held A) → k < length list.items → (b : Bool) → test PendingTimer (get_or list.items k x) ≡ b → b ≡ false
      by k x w false e = refl
      by k x w true e =
          let behind : is_gt (ordering_then (nat_cmp (timer_rank ExpiryTimer) (timer_rank PendingTimer)) (key_cmp d.key (key_seen bytes_of (get_or list.items k x).key))) ≡ false = subst (λ t. is_gt (ordering_then (nat_cmp (timer_rank t) (timer_rank PendingTimer)) (key_cmp d.key (key_seen bytes_of (get_or list.items k x).key))) ≡ false) is (after k x w PendingTimer e) in
          absurd (false≢true (sym behind))
