-- Hellos without an Address List: they are short, and the router never wants room for records at them.
use Rattle.pim_mirror.proofs.Words.{◌≡◌, ◌≤◌, ◌∙◌, ℕ, Bool, true, false, List, [], ◌∷◌, ◌++◌, length, map, Option, None, Some}
use Rattle.pim_mirror.proofs.Words.{Result, Ok, Err, refl, sym, ap, subst, arith, AllByRecursion, nat_eq, pointwise, fault_if}
use Rattle.pim_mirror.proofs.Words.{AddressFamily, Content, hello, content, frame_faults, all_routers, IsSealed, SealedOpens}
use Rattle.pim_mirror.proofs.Words.{spelling_of, ParametersFit, is_full, hello_of, Verdict, CourseGoesOn, EveryListHasACourse}
use Rattle.pim_mirror.proofs.Words.{Packet, neighbours_on, own_address, body_causes, body_heard, unless, received, Port, Setup}
use Rattle.pim_mirror.proofs.Words.{RouterState, new_router, length-map, Neighbour, IsHelloOf, AreHellosOf, needed_by, or_later}
use Rattle.pim_mirror.proofs.Words.{first_needed, PassesHello, PassesHellos}
use Rattle.pim_frame.specs.declared.frame.MessageType.TheVariants as message_type
use Rattle.pim_hello.specs.Faults.{faults as hello_faults}
use Rattle.pim_hello.specs.Hello.{Delays, Hello}
use Rattle.pim_router.specs.Config.{IsMadeUnless}
use Rattle.pim_router.specs.declared.config.ConfigFault.{ConfigFault}
use Rattle.pim_router.specs.declared.verdict.Malformed.{Malformed}
use Rattle.pim_router.specs.declared.verdict.Malformed.TheVariants as malformed
use Rattle.pim_router.specs.declared.verdict.Store.TheVariants as store
use Rattle.pim_router.specs.declared.verdict.Verdict.TheVariants as verdict
use Rattle.pim_router.specs.Course.{takes, verdict as carries, IsCourse}
use Rattle.pim_mirror.proofs.Ways.{then_passes, nothing_passes}

-- ---- how long

short : (holdtime : Option ℕ) (lan : Option Delays) (priority generation : Option ℕ) (family : AddressFamily) →
    length (spelling_of family (record {
      parameters = record { holdtime = holdtime; lan = lan; priority = priority; generation = generation };
      addresses = [];
    })) ≤ 32
short None None None None family = omega (arith)
short None None None (Some g) family = omega (arith)
short None None (Some p) None family = omega (arith)
short None None (Some p) (Some g) family = omega (arith)
short None (Some l) None None family = omega (arith)
short None (Some l) None (Some g) family = omega (arith)
short None (Some l) (Some p) None family = omega (arith)
short None (Some l) (Some p) (Some g) family = omega (arith)
short (Some h) None None None family = omega (arith)
short (Some h) None None (Some g) family = omega (arith)
short (Some h) None (Some p) None family = omega (arith)
short (Some h) None (Some p) (Some g) family = omega (arith)
short (Some h) (Some l) None None family = omega (arith)
short (Some h) (Some l) None (Some g) family = omega (arith)
short (Some h) (Some l) (Some p) None family = omega (arith)
short (Some h) (Some l) (Some p) (Some g) family = omega (arith)

pub hello_is_short : (family : AddressFamily) (said : Hello) → said.addresses ≡ [] → length (spelling_of family said) ≤ 32
hello_is_short family said none =
    subst (λ (addresses : List (List ℕ)). length (spelling_of family (record { parameters = said.parameters; addresses = addresses })) ≤ 32) (sym none)
    (short said.parameters.holdtime said.parameters.lan said.parameters.priority said.parameters.generation family)

-- ---- no room is wanted for records

abbrev NeedNothing : List Verdict → Type 0
NeedNothing verdicts = AllByRecursion (λ (of_packet : Verdict). needed_by of_packet ≡ None) verdicts

both_need_nothing : (xs ys : List Verdict) → NeedNothing xs → NeedNothing ys → NeedNothing (xs ++ ys)
both_need_nothing [] ys front back = back
both_need_nothing (x ∷ xs) ys front back = (front.0, both_need_nothing xs ys front.1 back)

if_needs_nothing : (b : Bool) (of_packet : Verdict) → needed_by of_packet ≡ None → NeedNothing (fault_if b of_packet)
if_needs_nothing true of_packet none = (none, tt)
if_needs_nothing false of_packet none = tt

faults_need_nothing : {X : Type 0} (reported : X → Malformed) (faults : List X) → NeedNothing (map (λ fault. verdict.Malformed (reported fault)) faults)
faults_need_nothing reported [] = tt
faults_need_nothing reported (fault ∷ faults) = (refl, faults_need_nothing reported faults)

unless_needs_nothing : (all : List Verdict) (state : RouterState) (taken : Verdict × RouterState) → NeedNothing all →
    needed_by taken.0 ≡ None → needed_by (unless all state taken).0 ≡ None
unless_needs_nothing [] state taken all none = none
unless_needs_nothing (cause ∷ others) state taken all none = all.0

hello_needs : (family : AddressFamily) (port : ℕ) (source : List ℕ) (state : RouterState) (body : List ℕ) → NeedNothing (body_causes family port source state (hello body))
hello_needs family port source state body =
    both_need_nothing (map (λ fault. verdict.Malformed (malformed.Hello fault)) (hello_faults body))
    (fault_if (is_full source (hello_of family body).parameters (neighbours_on port state)) (verdict.Full store.Neighbours))
    (faults_need_nothing malformed.Hello (hello_faults body))
    (if_needs_nothing (is_full source (hello_of family body).parameters (neighbours_on port state)) (verdict.Full store.Neighbours) refl)

pub hello_wants_no_room : (family : AddressFamily) (packet : Packet) (state : RouterState) (body : List ℕ) → content packet.bytes ≡ hello body →
    needed_by (received family packet state).0 ≡ None
hello_wants_no_room family packet state body holds =
    subst (λ (c : Content). needed_by (unless (
    fault_if (pointwise nat_eq packet.source (own_address packet.port state)) verdict.Mine
    ++ map (λ fault. verdict.Malformed (malformed.Frame fault)) (frame_faults family packet.source packet.destination packet.bytes)
    ++ body_causes family packet.port packet.source state c) state (body_heard family packet.port packet.source state c)).0 ≡ None) (sym holds)
    (unless_needs_nothing (
    fault_if (pointwise nat_eq packet.source (own_address packet.port state)) verdict.Mine
    ++ map (λ fault. verdict.Malformed (malformed.Frame fault)) (frame_faults family packet.source packet.destination packet.bytes)
    ++ body_causes family packet.port packet.source state (hello body)) state (body_heard family packet.port packet.source state (hello body))
    (both_need_nothing (
    fault_if (pointwise nat_eq packet.source (own_address packet.port state)) verdict.Mine
    ++ map (λ fault. verdict.Malformed (malformed.Frame fault)) (frame_faults family packet.source packet.destination packet.bytes))
    (body_causes family packet.port packet.source state (hello body))
    (both_need_nothing (fault_if (pointwise nat_eq packet.source (own_address packet.port state)) verdict.Mine)
    (map (λ fault. verdict.Malformed (malformed.Frame fault)) (frame_faults family packet.source packet.destination packet.bytes))
    (if_needs_nothing (pointwise nat_eq packet.source (own_address packet.port state)) verdict.Mine refl)
    (faults_need_nothing malformed.Frame (frame_faults family packet.source packet.destination packet.bytes)))
    (hello_needs family packet.port packet.source state body)) refl)

-- ---- one Hello, and then others

pub hello_passes : (family : AddressFamily) (neighbour : Neighbour) (packet : Packet) (old now : RouterState) (given : Verdict) (body : List ℕ) →
    IsHelloOf family neighbour packet → content packet.bytes ≡ hello body → (given, now) ≡ received family packet old → PassesHello family neighbour old now
unfolding IsCourse first_needed
hello_passes family neighbour packet old now given body is_hello holds same = record {
  packet = packet;
  is_hello = is_hello;
  passes = record {
    reported = carries (received family packet old).0 ∷ [];
    after = (received family packet old).1;
    course = record {
      before = carries (received family packet old).0 ∷ [];
      behind = [];
      between = (received family packet old).1;
      joined = refl;
      begins = (refl, refl);
      goes_on = (refl, refl);
    };
    passed = (ap (λ o. or_later o None) (hello_wants_no_room family packet old body holds), ap (λ (end : Verdict × RouterState). end.1) same);
  };
}

pub hello_met : (opens : SealedOpens) (family : AddressFamily) (neighbour : Neighbour) (destination bytes : List ℕ) (said : Hello) (old now : RouterState)
    (given : Verdict) → destination ≡ all_routers family → said ≡ record { parameters = neighbour.hello; addresses = [] } →
    IsSealed family neighbour.address (all_routers family) message_type.Hello (spelling_of family said) bytes → ParametersFit said.parameters →
    (given, now) ≡ received family (record { port = 0; source = neighbour.address; destination = destination; bytes = bytes }) old →
    PassesHello family neighbour old now
hello_met opens family neighbour destination bytes said old now given to same sealed fit taken =
    let body = spelling_of family (record { parameters = neighbour.hello; addresses = [] }) in
    let of_neighbour : IsSealed family neighbour.address (all_routers family) message_type.Hello body bytes =
    subst (λ (h : Hello). IsSealed family neighbour.address (all_routers family) message_type.Hello (spelling_of family h) bytes) same sealed in
    hello_passes family neighbour (record { port = 0; source = neighbour.address; destination = destination; bytes = bytes }) old now given body
    (record { port = refl; source = refl; destination = to; fit = subst (λ (h : Hello). ParametersFit h.parameters) same fit; sealed = of_neighbour })
    (opens family neighbour.address message_type.Hello body bytes of_neighbour).1 taken

pub no_hellos : (family : AddressFamily) (state : RouterState) → PassesHellos family [] state state
unfolding AreHellosOf
no_hellos family state = record { hellos = []; are_hellos = tt; passes = nothing_passes family state }

module _ (goes_on : CourseGoesOn) (every : EveryListHasACourse) (family : AddressFamily) where
  pub hello_then : (neighbour : Neighbour) (others : List Neighbour) (old between now : RouterState) → PassesHello family neighbour old between →
      PassesHellos family others between now → PassesHellos family (neighbour ∷ others) old now
  unfolding AreHellosOf
  hello_then neighbour others old between now first more = record {
    hellos = first.packet ∷ more.hellos;
    are_hellos = (first.is_hello, more.are_hellos);
    passes = then_passes goes_on every family (takes first.packet ∷ []) (map (λ packet. takes packet) more.hellos) old between now (Ok tt) first.passes more.passes;
  }

  -- the Hello of this neighbour, who stands first of those that are left
  pub more_met : {X : Type 0} (seen : X → Neighbour) (left behind : List X) (other : X) (old between now : RouterState) → left ≡ other ∷ behind →
      PassesHello family (seen other) old between → PassesHellos family (map seen behind) between now → PassesHellos family (map seen left) old now
  more_met seen left behind other old between now split first more =
      subst (λ (all : List _). PassesHellos family (map seen all) old now) (sym split) (hello_then (seen other) (map seen behind) old between now first more)

  -- the sender's Hello, and then those of the others, at a router as it is made
  pub all_met : (sender said : Neighbour) (others : List Neighbour) (start made met now : RouterState) → made ≡ start → said ≡ sender →
      PassesHello family said made met → PassesHellos family others met now → PassesHellos family (sender ∷ others) start now
  all_met sender said others start made met now same_state same first more =
      hello_then sender others start met now
      (subst (λ (s : RouterState). PassesHello family sender s met) same_state (subst (λ (n : Neighbour). PassesHello family n made met) same first)) more

-- ---- the router at first

pub made_is : {A : Type 0} (faults : List ConfigFault) (value made : A) → IsMadeUnless faults value (Ok made) → made ≡ value
made_is [] value made same = same
made_is (first ∷ others) value made same = absurd (no_fault same)
  where
    no_fault : ◌≡◌ {A = Result _ ConfigFault} (Ok made) (Err first) → ⊥
    no_fault e = cc

pub one_port : {A : Type 0} (seen : A → Port) (ports : List A) (faults : List ConfigFault) (setup : Setup) (made : RouterState) → setup.ports ≡ map seen ports →
    length ports ≡ 1 → IsMadeUnless faults (new_router setup) (Ok made) → length made.ports ≡ 1
one_port seen ports faults setup made seen_ports one is =
    ap (λ (s : RouterState). length s.ports) (made_is faults (new_router setup) made is) ∙ ap length seen_ports ∙ rw length-map one
