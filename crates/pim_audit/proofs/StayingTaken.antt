-- What a port that takes what it read leaves of a machine, and of the router.
use Rattle.pim_audit.proofs.Words.{◌≡◌, ℕ, Bool, true, false, List, [], ◌∷◌, refl, sym, ap, subst, false≢true}
use Rattle.pim_audit.proofs.Words.{RouterState}
use Rattle.pim_addr.specs.declared.family.AddressFamily.{AddressFamily}
use Rattle.pim_addr.specs.Routes.{rp_of}
use Rattle.pim_jp.specs.Message.{Message}
use Rattle.pim_down.specs.declared.machines.key.What.{What}
use Rattle.pim_down.specs.Laws.{HearingActsAtEachKey}
use Rattle.pim_down.specs.Sound.{IsSound}
use Rattle.pim_router.specs.declared.verdict.Verdict.{Verdict}
use Rattle.pim_router.specs.Packets.{timing_on, unless}
use Rattle.pim_router.specs.Reading.{Reading, read_causes, read_fault, read_hello, read_message, read_other, read_received}
use Rattle.pim_router.specs.Reading.{read_taken}
use Rattle.pim_audit.specs.Touched.{TouchedMachines, is_touched, Touches, SameStates}
use Rattle.pim_audit.proofs.Staying.{same_states_refl}
use Rattle.pim_audit.proofs.StayingHeard.{heard_stays}

-- It is a Join/Prune message.
abbrev pub is_message : Reading → Bool
is_message (read_hello said) = false
is_message (read_message message) = true
is_message (read_other type) = false
is_message (read_fault fault) = false

-- what holds of both holds of the one that is left
either_left : (P : RouterState → Type 0) (causes : List Verdict) (router next : RouterState) (verdict : Verdict)
    (taken : Verdict × RouterState) → (verdict, next) ≡ unless causes router taken → P router → P taken.1 → P next
either_left P [] router next verdict taken is refused took =
    subst P (sym (ap (λ (p : Verdict × RouterState). p.1) is)) took
either_left P (cause ∷ causes) router next verdict taken is refused took =
    subst P (sym (ap (λ (p : Verdict × RouterState). p.1) is)) refused

module _ (family : AddressFamily) (port : ℕ) (source : List ℕ) (router next : RouterState) (verdict : Verdict) where
  kept_by : (P : RouterState → Type 0) (reading : Reading) → (verdict, next) ≡ read_received family port source router reading
      → P router → P (read_taken family port source router reading).1 → P next
  kept_by P reading is =
      either_left P (read_causes family port source router reading) router next verdict
      (read_taken family port source router reading) is

  -- a Join/Prune message that doesn't touch the machine
  pub message_stays : HearingActsAtEachKey → (message : Message) (touched : TouchedMachines)
      → (verdict, next) ≡ read_received family port source router (read_message message) → IsSound family router.machines
      → Touches port message router.machines touched → (group : List ℕ) (what : What (List ℕ)) → is_touched group what touched ≡ false
      → SameStates group what router.machines next.machines
  message_stays law message touched is sound touches group what apart =
      kept_by (λ (r : RouterState). SameStates group what router.machines r.machines) (read_message message) is
      (same_states_refl group what router.machines)
      (heard_stays law family port message (rp_of family router.routes) (timing_on port router) router.machines touched sound touches
      group what apart)

  -- any other message leaves the machines
  pub other_keeps_machines : (reading : Reading) → is_message reading ≡ false
      → (verdict, next) ≡ read_received family port source router reading → next.machines ≡ router.machines
  other_keeps_machines reading none is =
      kept_by (λ (r : RouterState). r.machines ≡ router.machines) reading is refl (taken reading none)
    where
      taken : (r : Reading) → is_message r ≡ false → (read_taken family port source router r).1.machines ≡ router.machines
      taken (read_hello said) e = refl
      taken (read_message message) e = absurd (false≢true (sym e))
      taken (read_other type) e = refl
      taken (read_fault fault) e = refl
