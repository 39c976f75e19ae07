-- What the port of local joins wants, and that it is sound.
use Rattle.pim_audit.proofs.GatherWords.{◌≡◌, ◌∙◌, ℕ, suc, ◌+◌, ◌≤◌, Bool, true, false, ◌&&◌, ◌||◌, not, cond, List, []}
use Rattle.pim_audit.proofs.GatherWords.{◌∷◌, map, length, Option, None, Some, refl, sym, ap, arith, AllByRecursion, IsStrictlySortedBy}
use Rattle.pim_audit.proofs.GatherWords.{both_tied, pointwise, nat_eq, slice_cmp, texts_ties, nat_cmp, option_cmp, option_eq, Ordering}
use Rattle.pim_audit.proofs.GatherWords.{Less, Equal, Greater, is_eq, ordering_then, AddressFamily, key_cmp, what_cmp, address_cmp}
use Rattle.pim_audit.proofs.GatherWords.{same_key, state_of, state_of_machine, machine_at, IsAscending, IsBelow, count_on, IsSettled}
use Rattle.pim_audit.proofs.GatherWords.{HasSource, has_state, IsReal, IsSound, ◌==◌, Key, Star, Source, Rpt, Machine, Joined}
use Rattle.pim_audit.proofs.GatherWords.{is_joined, is_pruned, state_on, wants, some_below, Shared, SourceTree, AreJoins, AreInOrder}
use Rattle.pim_audit.proofs.GatherWords.{Join, IsValidJoin, IsValidSource, same_join, star, source_join, is_joined_locally, join_cmp}
use Rattle.pim_audit.specs.Local.{what_of, joined, local_port}
use Rattle.pim_audit.specs.Sides.{has_star}

-- ---- keys

what_ties : (s t : Option (List ℕ)) → option_eq (pointwise nat_eq) s t ≡ is_eq (what_cmp (what_of s) (what_of t))
unfolding what_cmp
what_ties None None = refl
what_ties None (Some y) = refl
what_ties (Some x) None = refl
what_ties (Some x) (Some y) = texts_ties x y

abbrev key_for : Join → Key (List ℕ)
key_for join = record { port = 0; group = join.group; what = what_of join.source }

key_ties : (p q : Join) → same_join p q ≡ same_key (key_for p) (key_for q)
unfolding key_cmp
key_ties p q = both_tied (pointwise nat_eq p.group q.group) (option_eq (pointwise nat_eq) p.source q.source) (slice_cmp nat_cmp p.group q.group)
    (what_cmp (what_of p.source) (what_of q.source)) (texts_ties p.group q.group) (what_ties p.source q.source)

-- a comparison that ends with Greater finds no tie
no_tie : (r : Ordering) → is_eq (ordering_then r Greater) ≡ false
no_tie Less = refl
no_tie Equal = refl
no_tie Greater = refl

rpt_apart : (r : Ordering) (source : List ℕ) (other : Option (List ℕ)) → is_eq (ordering_then r (what_cmp (Rpt source) (what_of other))) ≡ false
unfolding what_cmp
rpt_apart r source None = no_tie r
rpt_apart r source (Some other) = no_tie r

-- ---- states

held_step : (b : Bool) (machine : Machine) (m : Option Machine) (r : Bool) → machine.state ≡ Joined → is_joined (state_of_machine m) ≡ r
    → is_joined (state_of_machine (cond b (Some machine) m)) ≡ (b || r)
held_step true machine m r is e = ap (λ s. is_joined (Some s)) is
held_step false machine m r is e = e

-- the machine of a join is joined exactly if the join is listed
joined_at : (join : Join) (local : List Join) → is_joined (state_of (key_for join) (map joined local)) ≡ is_joined_locally join local
unfolding machine_at
joined_at join [] = refl
joined_at join (first ∷ others) =
    ap (λ b. is_joined (state_of_machine (cond b (Some (joined first).machine) (machine_at (key_for join) (map joined others))))) (sym (key_ties join first))
    ∙ held_step (same_join join first) (joined first).machine (machine_at (key_for join) (map joined others)) (is_joined_locally join others) refl (joined_at join others)

-- no (S,G,rpt) machine is held
no_rpt : (port : ℕ) (group source : List ℕ) (local : List Join) → state_on (map joined local) port group (Rpt source) ≡ None
unfolding machine_at key_cmp
no_rpt port group source [] = refl
no_rpt port group source (first ∷ others) =
    rw (rpt_apart (ordering_then (nat_cmp port 0) (address_cmp group first.group)) source first.source) (no_rpt port group source others)

or_false : (b : Bool) → (b || false) ≡ b
or_false true = refl
or_false false = refl

one_port : (test : ℕ → Bool) → some_below 1 test ≡ test 0
unfolding some_below
one_port test = or_false (test 0)

and_true : (b c : Bool) → c ≡ false → (b && not c) ≡ b
and_true true c e = ap not e
and_true false c e = refl

-- the star is joined exactly if it is listed
pub local_star : (local : List Join) (group : List ℕ) → has_star (local_port local) group ≡ is_joined_locally (star group) local
local_star local group = one_port (λ port. is_joined (state_on (map joined local) port group Star)) ∙ joined_at (star group) local

-- every source is wanted on the shared tree of a listed star
pub local_shared : (local : List Join) (source group : List ℕ) → wants (local_port local) source group Shared ≡ is_joined_locally (star group) local
local_shared local source group =
    one_port (λ port. is_joined (state_on (map joined local) port group Star) && not (is_pruned (state_on (map joined local) port group (Rpt source))))
    ∙ and_true (is_joined (state_on (map joined local) 0 group Star)) (is_pruned (state_on (map joined local) 0 group (Rpt source))) (ap is_pruned (no_rpt 0 group source local))
    ∙ joined_at (star group) local

-- a source is wanted on its own tree exactly if it is listed
pub local_source : (local : List Join) (source group : List ℕ) → wants (local_port local) source group SourceTree ≡ is_joined_locally (source_join source group) local
local_source local source group =
    one_port (λ port. is_joined (state_on (map joined local) port group (Source source))) ∙ joined_at (source_join source group) local

-- ---- the port is sound

what_order : (s t : Option (List ℕ)) → what_cmp (what_of s) (what_of t) ≡ option_cmp (slice_cmp nat_cmp) s t
unfolding what_cmp
what_order None None = refl
what_order None (Some y) = refl
what_order (Some x) None = refl
what_order (Some x) (Some y) = refl

key_order : (p q : Join) → key_cmp (key_for p) (key_for q) ≡ join_cmp p q
unfolding key_cmp join_cmp
key_order p q = ap (ordering_then (slice_cmp nat_cmp p.group q.group)) (what_order p.source q.source)

below : (join : Join) (local : List Join) → AllByRecursion (λ other. join_cmp join other ≡ Less) local → IsBelow (key_for join) (map joined local)
unfolding IsBelow
below join [] all = tt
below join (first ∷ others) all = (key_order join first ∙ all.0, below join others all.1)

ascending : (local : List Join) → AreInOrder local → IsAscending (map joined local)
unfolding IsAscending IsStrictlySortedBy
ascending [] up = tt
ascending (first ∷ others) up = (below first others up.0, ascending others up.1)

settled : (local : List Join) → IsSettled (map joined local)
unfolding IsSettled
settled [] = tt
settled (first ∷ others) = (refl, settled others)

source_of_join : (family : AddressFamily) (source : Option (List ℕ)) → IsValidSource family source → HasSource family (what_of source)
source_of_join family None valid = tt
source_of_join family (Some source) valid = valid

state_of_join : (source : Option (List ℕ)) → has_state (what_of source) Joined ≡ true
state_of_join None = refl
state_of_join (Some source) = refl

real_join : (family : AddressFamily) (join : Join) → IsValidJoin family join → IsReal family 1 (joined join)
real_join family join valid = record {
  port = omega arith;
  group = valid.group;
  source = source_of_join family join.source valid.source;
  state = state_of_join join.source;
  timer = refl;
}

real : (family : AddressFamily) (local : List Join) → AllByRecursion (IsValidJoin family) local → AllByRecursion (IsReal family 1) (map joined local)
real family [] valid = tt
real family (first ∷ others) valid = (real_join family first valid.0, real family others valid.1)

few : (port : ℕ) (local : List Join) → count_on port (map joined local) ≤ length local
unfolding count_on
few port [] = omega arith
few port (first ∷ others) = by (0 == port) (few port others)
  where
    by : (b : Bool) → count_on port (map joined others) ≤ length others → cond b 1 0 + count_on port (map joined others) ≤ suc (length others)
    by true e = omega (arith, e)
    by false e = omega (arith, e)

pub local_is_sound : (family : AddressFamily) (local : List Join) → AreJoins family local → IsSound family (local_port local)
local_is_sound family local are = record {
  ports = omega arith;
  limit = omega arith;
  moment = omega arith;
  ascending = ascending local are.ascending;
  settled = settled local;
  real = real family local are.valid;
  within = λ port. omega (arith, few port local, are.limit);
}
