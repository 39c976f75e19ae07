-- Each step touches the machines whose states change.
use Rattle.std.proofs.Common.{◌≡◌, ℕ, true, List, None, Some, refl, sym, subst}
use Rattle.std.specs.Prelude.{Result, Ok, Err, OnOk}
use Rattle.pim_addr.specs.declared.family.AddressFamily.{AddressFamily}
use Rattle.pim_down.specs.Laws.{HearingActsAtEachKey}
use Rattle.pim_down.specs.Sound.{IsSound}
use Rattle.pim_router.specs.declared.verdict.Verdict.{Verdict}
use Rattle.pim_router.specs.Reading.{Reading, read_hello, read_message, read_other, read_fault, read_received}
use Rattle.pim_down.specs.declared.machines.step.Firing.{Firing}
use Rattle.pim_down.specs.Firing.{FiresTo}
use Rattle.pim_down.specs.Time.{Downstream}
use Rattle.pim_router.specs.Happening.{FiresTo as RouterFiresTo}
use Rattle.pim_router.specs.State.{RouterState}
use Rattle.pim_audit.specs.Touched.{TouchedMachines, is_touched, Grows, TouchesReading, SameStates, OthersStay}
use Rattle.pim_audit.proofs.OneMachine.{apart_from, grows_not, untouched_before}
use Rattle.pim_audit.proofs.Staying.{same_states_refl, same_states_trans, quiet_stays, firing_stays}
use Rattle.pim_audit.proofs.StayingTaken.{message_stays, other_keeps_machines}
use Rattle.pim_audit.proofs.StayingRouter.{router_quiet_stays, router_firing_stays}

pub none_stirred : (touched : TouchedMachines) (state : Downstream) → OthersStay touched state state
none_stirred touched state group what apart = same_states_refl group what state

pub stays_then : (touched touched' : TouchedMachines) (first middle last : Downstream) → Grows touched touched' → OthersStay touched first middle
    → OthersStay touched' middle last → OthersStay touched' first last
stays_then touched touched' first middle last grows stays more group what apart =
    same_states_trans group what first middle last
    (stays group what (untouched_before group what touched touched' grows apart)) (more group what apart)

-- what holds anyway holds at Ok
pub on_ok_if : {T E P : Type 0} (r : Result T E) → P → OnOk r P
on_ok_if (Ok x) holds = holds
on_ok_if (Err e) holds = tt

-- ---- what was asked

pub fires_more : (moment : ℕ) (touched touched' : TouchedMachines) (first state after : Downstream) (fired : Firing (List ℕ))
    → OthersStay touched first state → Grows touched touched' → is_touched fired.before.key.group fired.before.key.what touched' ≡ true
    → FiresTo moment state (Some fired) after → OthersStay touched' first after
fires_more moment touched touched' first state after fired stays grows has fires =
    stays_then touched touched' first state after grows stays
    (λ group what apart. firing_stays moment state after fired fires group what
    (apart_from group fired.before.key.group what fired.before.key.what touched' has apart))

pub fires_no_more : (moment : ℕ) (touched : TouchedMachines) (first state after : Downstream) → OthersStay touched first state
    → FiresTo moment state None after → OthersStay touched first after
fires_no_more moment touched first state after stays fires =
    stays_then touched touched first state after (grows_not touched) stays
    (λ group what apart. quiet_stays moment state after fires group what)

-- ---- the router

pub router_fires_more : (moment : ℕ) (touched touched' : TouchedMachines) (first : Downstream) (router after : RouterState) (fired : Firing (List ℕ))
    → OthersStay touched first router.machines → Grows touched touched' → is_touched fired.before.key.group fired.before.key.what touched' ≡ true
    → RouterFiresTo moment router (Some fired) after → OthersStay touched' first after.machines
router_fires_more moment touched touched' first router after fired stays grows has fires =
    stays_then touched touched' first router.machines after.machines grows stays
    (λ group what apart. router_firing_stays moment router after fired fires group what
    (apart_from group fired.before.key.group what fired.before.key.what touched' has apart))

pub router_fires_no_more : (moment : ℕ) (touched : TouchedMachines) (first : Downstream) (router after : RouterState)
    → OthersStay touched first router.machines → RouterFiresTo moment router None after → OthersStay touched first after.machines
router_fires_no_more moment touched first router after stays fires =
    stays_then touched touched first router.machines after.machines (grows_not touched) stays
    (λ group what apart. router_quiet_stays moment router after fires group what)

-- ---- messages

-- what a port takes changes no machine that isn't touched
pub taking_stays : HearingActsAtEachKey → (family : AddressFamily) (port : ℕ) (source : List ℕ) (router next : RouterState) (verdict : Verdict)
    (reading : Reading) (touched : TouchedMachines) → (verdict, next) ≡ read_received family port source router reading
    → IsSound family router.machines → TouchesReading port reading router.machines touched → OthersStay touched router.machines next.machines
taking_stays law family port source router next verdict (read_message message) touched is sound touches group what apart =
    message_stays family port source router next verdict law message touched is sound touches group what apart
taking_stays law family port source router next verdict (read_hello said) touched is sound touches group what apart =
    subst (λ (m : Downstream). SameStates group what router.machines m)
    (sym (other_keeps_machines family port source router next verdict (read_hello said) refl is)) (same_states_refl group what router.machines)
taking_stays law family port source router next verdict (read_other type) touched is sound touches group what apart =
    subst (λ (m : Downstream). SameStates group what router.machines m)
    (sym (other_keeps_machines family port source router next verdict (read_other type) refl is)) (same_states_refl group what router.machines)
taking_stays law family port source router next verdict (read_fault fault) touched is sound touches group what apart =
    subst (λ (m : Downstream). SameStates group what router.machines m)
    (sym (other_keeps_machines family port source router next verdict (read_fault fault) refl is)) (same_states_refl group what router.machines)
