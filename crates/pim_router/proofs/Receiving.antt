-- What is told of a packet: the first cause, or else that it is taken.
use Rattle.pim_router.proofs.Words.{◌≡◌, ◌∙◌, ◌-◌, ℕ, List, Result, Ok, Err, nat_lt, refl, sym, ap, subst, OnOk, OnErr, IsTrue}
use Rattle.pim_router.proofs.Words.{arith, lt-ltb, le-ltb, AddressFamily, RouteTable, rp_of, Table, Message, AllocError}
use Rattle.pim_router.proofs.Words.{Downstream, PortConfig, Verdict, Receives, unless, room_causes, message_heard, needed_by}
use Rattle.pim_router.proofs.Words.{new_by, timing_on, message_verdict, router_seen, RouterState, with_machines}
use Rattle.pim_down.specs.declared.machines.event.Timing.{Timing}
use Rattle.pim_down.specs.Heard.{heard, IsWithin, MayWantMemory}
use Rattle.pim_down.specs.declared.machines.fault.HearFault.{HearFault}
use Rattle.pim_down.specs.declared.machines.fault.HearFault.TheVariants as machines
use Rattle.pim_router.specs.declared.verdict.Verdict.TheVariants as verdict
use Rattle.pim_router.specs.declared.verdict.Store.TheVariants as store

-- ---- a Join/Prune that the machines hear

wants_memory : (new : ℕ) (result : Result (Unit {0}) HearFault) → MayWantMemory new result → OnErr (message_verdict result) (IsTrue (nat_lt 0 new))
wants_memory new (Ok done) wants = tt
wants_memory new (Err (machines.Full needed)) wants = tt
wants_memory new (Err machines.Memory) wants = lt-ltb 0 new (omega (arith, wants))

module _ (family : AddressFamily) (port : ℕ) (message : Message) (old : RouterState) where
  abbrev Applies : Result (Unit {0}) HearFault → Downstream → Type 0
  Applies result after = Receives (room_causes family port old message)
      (unless (room_causes family port old message) old (message_heard family port old message)) old
      (message_verdict result) (with_machines old after)

  pub applies : (result : Result (Unit {0}) HearFault) (after : Downstream) →
      OnOk result (after ≡ heard port message (rp_of family old.routes) (timing_on port old) old.machines) →
      OnErr result (after ≡ old.machines) →
      IsWithin old.machines.limit (needed_by family port message old) result → Applies result after
  applies (Ok done) after ok err room =
      rw (le-ltb old.machines.limit (needed_by family port message old) room) (ap (λ d. (verdict.Applied, with_machines old d)) ok)
  applies (Err (machines.Full needed)) after ok err room =
      rw (lt-ltb old.machines.limit (needed_by family port message old) room.0)
      (ap (λ n. (verdict.Full (store.Records n), with_machines old after)) room.1 ∙ ap (λ d. (verdict.Full (store.Records (needed_by family port message old)), with_machines old d)) err)
  applies (Err machines.Memory) after ok err room =
      (rw (le-ltb old.machines.limit (needed_by family port message old) room) refl, ap (with_machines old) err)

  -- none of it takes time
  pub at_once : (result : Result (Unit {0}) HearFault) (after : Downstream) →
      OnOk result (after ≡ heard port message (rp_of family old.routes) (timing_on port old) old.machines) →
      OnErr result (after ≡ old.machines) → after.moment ≡ old.machines.moment
  at_once (Ok done) after ok err = ap (λ (d : Downstream). d.moment) ok
  at_once (Err fault) after ok err = ap (λ (d : Downstream). d.moment) err

module _ {A : Type 0} (bytes_of : A → List ℕ) (ports : List (PortConfig A)) (routes : RouteTable) (machines : Downstream) (tables : List Table) (next : ℕ) where
  abbrev seen : RouterState
  seen = router_seen bytes_of ports routes machines tables next

  same_time : (after : Downstream) → after.moment ≡ machines.moment → with_machines seen after ≡ router_seen bytes_of ports routes after tables next
  same_time after same = ap (λ (moment : ℕ). record { ports = seen.ports; routes = routes; machines = after; tables = tables; refresh = next - moment }) (sym same)

  module _ (family : AddressFamily) (port : ℕ) (message : Message) where
    abbrev Applied : RouterState → Result Verdict AllocError → RouterState → Type 0
    Applied now reported after = Receives (room_causes family port now message)
        (unless (room_causes family port now message) now (message_heard family port now message)) now reported after

    applied_seen : (timing : Timing) → timing ≡ timing_on port seen → (result : Result (Unit {0}) HearFault) (after : Downstream) →
        OnOk result (after ≡ heard port message (rp_of family routes) timing machines) → OnErr result (after ≡ machines) →
        IsWithin machines.limit (needed_by family port message seen) result →
        Applied seen (message_verdict result) (router_seen bytes_of ports routes after tables next)
    applied_seen timing is result after ok err room =
        let done = subst (λ t. OnOk result (after ≡ heard port message (rp_of family routes) t machines)) is ok in
        subst (λ end. Applied seen (message_verdict result) end) (same_time after (at_once family port message seen result after done err))
        (applies family port message seen result after done err room)

    pub applied_now : (now : RouterState) → seen ≡ now → (timing : Timing) → timing ≡ timing_on port now → (result : Result (Unit {0}) HearFault) (after : Downstream) →
        OnOk result (after ≡ heard port message (rp_of family routes) timing machines) → OnErr result (after ≡ machines) →
        IsWithin machines.limit (needed_by family port message seen) result → (reported : Result Verdict AllocError) → reported ≡ message_verdict result →
        Applied now reported (router_seen bytes_of ports routes after tables next)
    applied_now now same timing is result after ok err room reported says =
        subst (λ t. Applied now t (router_seen bytes_of ports routes after tables next)) (sym says)
        (subst (λ n. timing ≡ timing_on port n → Applied n (message_verdict result) (router_seen bytes_of ports routes after tables next)) same
        (λ here. applied_seen timing here result after ok err room) is)

    -- memory is wanting only where it makes a record
    pub applied_wants : (now : RouterState) → seen ≡ now → (result : Result (Unit {0}) HearFault) →
        MayWantMemory (new_by family port message seen) result → (reported : Result Verdict AllocError) → reported ≡ message_verdict result →
        OnErr reported (IsTrue (nat_lt 0 (new_by family port message now)))
    applied_wants now same result wants reported says =
        subst (λ t. OnErr t (IsTrue (nat_lt 0 (new_by family port message now)))) (sym says)
        (subst (λ n. OnErr (message_verdict result) (IsTrue (nat_lt 0 (new_by family port message n)))) same
        (wants_memory (new_by family port message seen) result wants))
