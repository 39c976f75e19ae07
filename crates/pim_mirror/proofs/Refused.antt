-- A delivery that a router refuses: what was heard before it.
use Rattle.pim_mirror.proofs.Words.{◌≡◌, ◌∙◌, ℕ, List, [], ◌∷◌, ◌++◌, map, Option, None, Some, Result, Ok, Err, IfErr, OnErr}
use Rattle.pim_mirror.proofs.Words.{refl, sym, ap, subst, flat_map, AddressFamily, Content, hello, join_prune, other, content}
use Rattle.pim_mirror.proofs.Words.{Delivery, runs_to, CourseGoesOn, EveryListHasACourse, Packet, causes, body_heard, unless}
use Rattle.pim_mirror.proofs.Words.{received, Receives, RouterState, Verdict, delivery_seen, delivery_inputs, delivery_packet}
use Rattle.pim_mirror.proofs.Words.{needed_by, outcome_if, outcome_of, IsRefused, StopsAt, Passes, HasReached, MirrorFault}
use Rattle.pim_router.specs.declared.verdict.Verdict.TheVariants as verdict
use Rattle.pim_router.specs.declared.verdict.Store.{Store}
use Rattle.pim_router.specs.declared.verdict.Store.TheVariants as store
use Rattle.pim_mirror.specs.declared.config.Delivery as code
use Rattle.pim_mirror.specs.declared.mirroring.MirrorFault.TheVariants as fault
use Rattle.pim_mirror.proofs.Ways.{reached_passes, then_passes}

-- ---- a packet

abbrev Done : Type 0
Done = Result (Unit {0}) MirrorFault

ok_or_err : (why : MirrorFault) → ◌≡◌ {A = Done} (Ok tt) (Err why) → ⊥
ok_or_err why e = cc

why_is : (why that : MirrorFault) → ◌≡◌ {A = Done} (Err why) (Err that) → why ≡ that
why_is why that e = cc

none_or_some : (needed : ℕ) → ◌≡◌ {A = Option ℕ} None (Some needed) → ⊥
none_or_some needed e = cc

same_number : (one two : ℕ) → ◌≡◌ {A = Option ℕ} (Some one) (Some two) → one ≡ two
same_number one two e = cc

full_of : (given : Verdict) (needed : ℕ) → needed_by given ≡ Some needed → given ≡ verdict.Full (store.Records needed)
full_of (verdict.Full (store.Records count)) needed e = ap (λ (k : ℕ). verdict.Full (store.Records k)) (same_number count needed e)
full_of (verdict.Full store.Neighbours) needed e = absurd (none_or_some needed e)
full_of verdict.Mine needed e = absurd (none_or_some needed e)
full_of (verdict.Malformed why) needed e = absurd (none_or_some needed e)
full_of (verdict.OtherType type) needed e = absurd (none_or_some needed e)
full_of (verdict.HelloTaken heard) needed e = absurd (none_or_some needed e)
full_of verdict.UnknownNeighbour needed e = absurd (none_or_some needed e)
full_of verdict.NotForUs needed e = absurd (none_or_some needed e)
full_of verdict.Applied needed e = absurd (none_or_some needed e)

-- what is taken is no `Full`
taken_not_full : (family : AddressFamily) (port : ℕ) (source : List ℕ) (state : RouterState) (body : Content) (of : Store) → (body_heard family port source state body).0 ≡ verdict.Full of → ⊥
taken_not_full family port source state (other type) of e = cc
taken_not_full family port source state (hello body) of e = cc
taken_not_full family port source state (join_prune body) of e = cc

full_unless : (all : List Verdict) (state : RouterState) (taken : Verdict × RouterState) (of : Store) → (taken.0 ≡ verdict.Full of → ⊥) → (unless all state taken).0 ≡ verdict.Full of → (unless all state taken).1 ≡ state
full_unless [] state taken of never is = absurd (never is)
full_unless (cause ∷ others) state taken of never is = refl

-- a packet that is `Full` changes nothing
full_keeps : (family : AddressFamily) (packet : Packet) (state : RouterState) (of : Store) → (received family packet state).0 ≡ verdict.Full of → (received family packet state).1 ≡ state
full_keeps family packet state of is =
    full_unless (causes family packet state) state (body_heard family packet.port packet.source state (content packet.bytes)) of
    (taken_not_full family packet.port packet.source state (content packet.bytes) of) is

told_full : (family : AddressFamily) (packet : Packet) (old now : RouterState) (given : Verdict) (why : MirrorFault) (needed : Option ℕ) → needed_by given ≡ needed
    → (given, now) ≡ received family packet old → outcome_if needed ≡ Err why → (now ≡ old) × IsRefused family packet old why
told_full family packet old now given why None is same e = absurd (ok_or_err why e)
told_full family packet old now given why (Some needed) is same e =
    let full : (received family packet old).0 ≡ verdict.Full (store.Records needed) = sym (ap (λ (end : Verdict × RouterState). end.0) same) ∙ full_of given needed is in
    subst (λ (w : MirrorFault). (now ≡ old) × IsRefused family packet old w) (why_is (fault.Full needed) why e)
    (ap (λ (end : Verdict × RouterState). end.1) same ∙ full_keeps family packet old (store.Records needed) full, full)

refused_by : {E : Type 0} (family : AddressFamily) (packet : Packet) (old now : RouterState) (of_packet : Result Verdict E) (why : MirrorFault)
    → Receives (causes family packet old) (received family packet old) old of_packet now → outcome_of of_packet ≡ Err why → (now ≡ old) × IsRefused family packet old why
refused_by family packet old now (Ok given) why is e = told_full family packet old now given why (needed_by given) refl is e
refused_by family packet old now (Err refused) why is e =
    subst (λ (w : MirrorFault). (now ≡ old) × IsRefused family packet old w) (why_is fault.Memory why e) (is.1, is.0)

module _ {E : Type 0} (family : AddressFamily) (packet : Packet) (old now : RouterState) (of_packet : Result Verdict E)
    (receives : Receives (causes family packet old) (received family packet old) old of_packet now) where
  pub refusal_keeps : (result : Done) → result ≡ outcome_of of_packet → OnErr result (now ≡ old)
  refusal_keeps (Ok done) same = tt
  refusal_keeps (Err why) same = (refused_by family packet old now of_packet why receives (sym same)).0

  pub is_refused : (result : Done) → result ≡ outcome_of of_packet → IfErr result (IsRefused family packet old)
  is_refused (Ok done) same = tt
  is_refused (Err why) same = (refused_by family packet old now of_packet why receives (sym same)).1

-- ---- a delivery

module _ (family : AddressFamily) (messages : List (List ℕ)) (sender : List ℕ) (delivery : Delivery) where
  -- where the packet is refused the router is as it came to the moment
  pub stays_reached : (old between now : RouterState) (result : Done) → HasReached delivery.moment old between → OnErr result (now ≡ between) → OnErr result (HasReached delivery.moment old now)
  stays_reached old between now (Ok done) reached same = tt
  stays_reached old between now (Err why) reached same = subst (HasReached delivery.moment old) (sym same) reached

  pub refused_there : (packet : Packet) (between now : RouterState) (result : Done) → packet ≡ delivery_packet family messages sender delivery → OnErr result (now ≡ between)
      → IfErr result (IsRefused family packet between) → IfErr result (IsRefused family (delivery_packet family messages sender delivery) now)
  refused_there packet between now (Ok done) is same refused = tt
  refused_there packet between now (Err why) is same refused =
      subst (λ (state : RouterState). IsRefused family (delivery_packet family messages sender delivery) state why) (sym same)
      (subst (λ (p : Packet). IsRefused family p between why) is refused)

-- ---- deliveries in a row

module _ (goes_on : CourseGoesOn) (every : EveryListHasACourse) (family : AddressFamily) (messages : List (List ℕ)) (sender : List ℕ) where
  -- the first of those that are left is refused
  pub stops_here : (left behind : List code.Delivery) (delivery : code.Delivery) (old now : RouterState) (why : MirrorFault) → left ≡ delivery ∷ behind
      → HasReached delivery.moment old now → IsRefused family (delivery_packet family messages sender (delivery_seen delivery)) now why
      → StopsAt family messages sender (map delivery_seen left) old why now
  stops_here left behind delivery old now why split reached refused = record {
    earlier = [];
    refused = delivery_seen delivery;
    later = map delivery_seen behind;
    split = ap (map delivery_seen) split;
    before = reached_passes family delivery.moment old now reached;
    refuses = refused;
  }

  -- the first of those that are left is heard, and one behind it is refused
  pub stops_behind : (left behind : List code.Delivery) (delivery : code.Delivery) (old between now : RouterState) (why : MirrorFault) → left ≡ delivery ∷ behind
      → Passes family (delivery_inputs family messages sender (delivery_seen delivery)) old (Ok tt) between → StopsAt family messages sender (map delivery_seen behind) between why now
      → StopsAt family messages sender (map delivery_seen left) old why now
  stops_behind left behind delivery old between now why split one stops = record {
    earlier = delivery_seen delivery ∷ stops.earlier;
    refused = stops.refused;
    later = stops.later;
    split = ap (map delivery_seen) split ∙ ap (λ (l : List Delivery). delivery_seen delivery ∷ l) stops.split;
    before = then_passes goes_on every family (delivery_inputs family messages sender (delivery_seen delivery))
        (flat_map (delivery_inputs family messages sender) stops.earlier ++ runs_to stops.refused.moment ∷ []) old between now (Ok tt) one stops.before;
    refuses = stops.refuses;
  }
