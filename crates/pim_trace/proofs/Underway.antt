-- The turns that a run took, as those of a trace.
use Rattle.pim_trace.proofs.Words.{◌≡◌, ◌⊎◌, ◌∙◌, ℕ, length, List, [], ◌∷◌, ◌++◌, Option, Err, refl, sym, ap, subst, inl, inr}
use Rattle.pim_trace.proofs.Words.{append_assoc, append-nil, length-replicate, AddressFamily, End, Takes, AreFirst, Taken}
use Rattle.pim_trace.proofs.Words.{MergeState, IsTallied, EveryStateGoesOn, RouterState, RunFault, Capture, Output, Memory}
use Rattle.pim_trace.proofs.Words.{Occurrence, Ledger, PassesTime, events_in, after_all, HasWritten, HasBegun, WritesTurns}
use Rattle.pim_trace.proofs.Words.{ledger_for, RunsOut, Wrote, WroteFront, HasSome, StopsAt, WritesTurn, HasAll}
use Rattle.pim_merge.specs.declared.merge.MergeFault.{MergeFault}
use Rattle.pim_merge.specs.Tally.{tallies_after}
use Rattle.pim_run.specs.Run.{AreTaken, RunsThrough, StopsAt as StopsRun, BreaksOff, Runs}
use Rattle.pim_trace.proofs.Pieces.{none_told, all_told, happens_then, told_begun, begun_longer}

-- the events of one turn more
tells_more : (family : AddressFamily) (taken : List Taken) (next : Taken) (events one : List Occurrence) (ledger ledger_then ledger' : Ledger) (state between after : RouterState) → WritesTurns family taken ledger state events ledger_then between
    → WritesTurn family next ledger_then between one ledger' after → WritesTurns family (taken ++ next ∷ []) ledger state (events ++ one) ledger' after
unfolding WritesTurns
tells_more family [] next events one ledger ledger_then ledger' state between after (none, kept, same) wrote = (
  one,
  [],
  ledger',
  after,
  subst (λ s. WritesTurn family next ledger s one ledger' after) same (subst (λ l. WritesTurn family next l between one ledger' after) kept wrote),
  (refl, refl, refl),
  ap (λ (xs : List Occurrence). xs ++ one) none ∙ sym (append-nil one),
)
tells_more family (first ∷ others) next events one ledger ledger_then ledger' state between after (a, b, l, s, tells_first, tells_others, is) wrote =
    (a, b ++ one, l, s, tells_first, tells_more family others next b one l ledger_then ledger' s between after tells_others wrote, ap (λ (xs : List Occurrence). xs ++ one) is ∙ append_assoc a b one)

-- no turn was taken
pub untaken : (end : End) (start : MergeState) → IsTallied end start start
unfolding Takes tallies_after
untaken end start = record {
  taken = [];
  first = λ captures coming. record { clock_then = start.clock; rest = captures; takes_them = (refl, refl); is_rest = tt };
  tallies = refl;
}

-- turns, and then what is still due
runs_out : (family : AddressFamily) (state : RouterState) (taken : List Taken) (turns way : List Occurrence) (ledger ledger' : Ledger) (between after : RouterState) (moment : ℕ)
    → WritesTurns family taken (ledger_for state) state turns ledger between → moment ≡ between.machines.moment → PassesTime moment ledger between way ledger' after
    → RunsOut family state taken (turns ++ way) ledger' after
runs_out family state taken turns way ledger ledger' between after moment wrote here passes = record {
  turns = turns;
  ledger_then = ledger;
  between = between;
  wrote = wrote;
  way = way;
  passes = subst (λ (m : ℕ). PassesTime m ledger between way ledger' after) here passes;
  events_are = refl;
}

-- some first turns, of whose events a front was written
pub begun_first : EveryStateGoesOn → (line : Occurrence → List ℕ) (family : AddressFamily) (end : End) (start : MergeState) (state : RouterState) (old new : Option (List ℕ)) (taken : List Taken) (turns : List Occurrence) (ledger : Ledger) (after : RouterState)
    → AreFirst end start taken → WritesTurns family taken (ledger_for state) state turns ledger after → WroteFront line old new turns
    → HasSome line family end start state old new
begun_first goes_on line family end start state old new taken turns ledger after first wrote written =
    let due = goes_on after.machines.moment after in
    let way = events_in ledger due.reported in
    record {
      events = turns ++ way;
      wrote = record {
        taken = taken;
        are = first;
        ledger = after_all ledger due.reported;
        after = due.after;
        runs =
            runs_out family state taken turns way ledger (after_all ledger due.reported) after due.after after.machines.moment wrote refl
            (record { happened = due.reported; happens = due.happens; events_are = refl; ledger_is = refl });
      };
      written = begun_longer line old new turns way written;
    }

-- each port has a count of records and a place for its Generation ID
pub new_frames : (ledger : Ledger) (state : RouterState) → ledger ≡ ledger_for state → length ledger.frames ≡ length state.ports
new_frames ledger state new = ap (λ (l : Ledger). length l.frames) new ∙ length-replicate (length state.ports) _

pub new_own : (ledger : Ledger) (state : RouterState) → ledger ≡ ledger_for state → length ledger.own ≡ length state.ports
new_own ledger state new = ap (λ (l : Ledger). length l.own) new ∙ length-replicate (length state.ports) _

-- ---- the turns of a run, where `seen` shows what is kept as a ledger

module _ {K : Type 0} (seen : K → Ledger) (line : Occurrence → List ℕ) (family : AddressFamily) where
  abbrev By : Taken → K → RouterState → Option (List ℕ) → K → RouterState → Option (List ℕ) → Type 0
  By turn kept state old kept' after new = HasWritten line (WritesTurn family turn (seen kept) state) (seen kept') after old new

  abbrev Only : Taken → K → RouterState → Option (List ℕ) → Option (List ℕ) → Type 0
  Only turn kept state old new = HasBegun line (WritesTurn family turn (seen kept) state) old new

  record EventSeen (taken : List Taken) (ledger : Ledger) (state : RouterState) (old : Option (List ℕ)) (ledger' : Ledger) (after : RouterState) (new : Option (List ℕ)) : Type 0 where
    events : List Occurrence
    wrote : WritesTurns family taken ledger state events ledger' after
    written : Wrote line old new events

  turns_told : (taken : List Taken) (kept kept' : K) (state after : RouterState) (old new : Option (List ℕ)) → AreTaken By Only taken kept state old kept' after new
      → EventSeen taken (seen kept) state old (seen kept') after new
  unfolding AreTaken WritesTurns
  turns_told [] kept kept' state after old new (same, stays, device) = record {
    events = [];
    wrote = (refl, ap seen same, stays);
    written = subst (λ (n : Option (List ℕ)). Wrote line old n []) (sym device) (none_told line old);
  }
  turns_told (turn ∷ turns) kept kept' state after old new (next, between, mid, one, rest) =
      let others = turns_told turns next kept' between after mid new rest in
      record {
        events = one.events ++ others.events;
        wrote = (one.events, others.events, seen next, between, one.are, others.wrote, refl);
        written = happens_then line old mid new one.events others.events one.written others.written;
      }

  module _ (end : End) (start : MergeState) (kept : K) (state : RouterState) (old : Option (List ℕ)) (fresh : seen kept ≡ ledger_for state) where
    from_new : (taken : List Taken) (kept' : K) (after : RouterState) (new : Option (List ℕ)) → AreTaken By Only taken kept state old kept' after new
        → EventSeen taken (ledger_for state) state old (seen kept') after new
    from_new taken kept' after new turns =
        subst (λ l. EventSeen taken l state old (seen kept') after new) fresh (turns_told taken kept kept' state after old new turns)

    -- the run went through
    pub has_all : (merge : MergeState) (kept' : K) (now : RouterState) (new : Option (List ℕ)) → RunsThrough By Only end start merge kept state old kept' now new
        → HasAll line family end start state old merge (seen kept') now new
    has_all merge kept' now new r =
        let turns = from_new r.taken kept' now new r.turns in
        record { taken = r.taken; events = turns.events; are = r.are; clock = r.clock; tallies = r.tallies; wrote = turns.wrote; written = turns.written }

    -- memory was refused, or the device failed
    module _ (goes_on : EveryStateGoesOn) (merge : MergeState) (new : Option (List ℕ)) (b : BreaksOff By Only end start merge kept state old new) where
      so_far : EventSeen b.taken (ledger_for state) state old (seen b.kept') b.between b.mid
      so_far = from_new b.taken b.kept' b.between b.mid b.turns

      pub broken : HasSome line family end start state old new
      broken = by b.last
        where
          by : (AreFirst end start b.taken × (new ≡ b.mid))
              ⊎ (next : Taken) × AreFirst end start (b.taken ++ next ∷ []) × Only next b.kept' b.between b.mid new
              → HasSome line family end start state old new
          by (inl (first, same)) =
              subst (λ (n : Option (List ℕ)). HasSome line family end start state old n) (sym same)
              (begun_first goes_on line family end start state old b.mid b.taken so_far.events (seen b.kept') b.between first so_far.wrote (all_told line old b.mid so_far.events so_far.written))
          by (inr (next, first, begun)) =
              begun_first goes_on line family end start state old new (b.taken ++ next ∷ []) (so_far.events ++ begun.events) begun.ledger begun.after first
              (tells_more family b.taken next so_far.events begun.events (ledger_for state) (seen b.kept') begun.ledger state b.between begun.after so_far.wrote begun.are)
              (told_begun line old b.mid new so_far.events begun.events so_far.written begun.written)

    pub broken_off : EveryStateGoesOn → (merge : MergeState) (kept' : K) (after : RouterState) (new : Option (List ℕ)) (fault : RunFault) → (fault ≡ Output) ⊎ (fault ≡ Memory)
        → Runs By Only end start merge kept state old {A = Unit {0}} kept' after new (Err fault) → HasSome line family end start state old new
    broken_off goes_on merge kept' after new fault (inl is) runs =
        broken goes_on merge new (subst (λ (f : RunFault). Runs By Only end start merge kept state old {A = Unit {0}} kept' after new (Err f)) is runs)
    broken_off goes_on merge kept' after new fault (inr is) runs =
        broken goes_on merge new (subst (λ (f : RunFault). Runs By Only end start merge kept state old {A = Unit {0}} kept' after new (Err f)) is runs)

    pub stops_at : (merge : MergeState) (kept' : K) (after : RouterState) (new : Option (List ℕ)) (fault : RunFault) (reported : MergeFault) → fault ≡ Capture reported
        → Runs By Only end start merge kept state old {A = Unit {0}} kept' after new (Err fault) → StopsRun By Only end start merge kept state old reported kept' after new
    stops_at merge kept' after new fault reported is runs = subst (λ (f : RunFault). Runs By Only end start merge kept state old {A = Unit {0}} kept' after new (Err f)) is runs

    -- a capture has a fault, and what is still due happens before it
    module _ (merge : MergeState) (reported : MergeFault) (kept' : K) (now : RouterState) (new newer : Option (List ℕ)) (s : StopsRun By Only end start merge kept state old reported kept' now new)
        (moment : ℕ) (here : moment ≡ now.machines.moment) where
      before : EventSeen s.taken (ledger_for state) state old (seen kept') now new
      before = from_new s.taken kept' now new s.turns

      -- the device failed at it
      pub failed_on_the_way : HasBegun line (PassesTime moment (seen kept') now) new newer → HasSome line family end start state old newer
      failed_on_the_way way = record {
        events = before.events ++ way.events;
        wrote = record {
          taken = s.taken;
          are = s.first;
          ledger = way.ledger;
          after = way.after;
          runs = runs_out family state s.taken before.events way.events (seen kept') way.ledger now way.after moment before.wrote here way.are;
        };
        written = told_begun line old new newer before.events way.events before.written way.written;
      }

      pub stopped : (ledger : Ledger) (after : RouterState) → HasWritten line (PassesTime moment (seen kept') now) ledger after new newer → StopsAt line family end start state merge reported old newer
      stopped ledger after way = record {
        taken = s.taken;
        are = s.are;
        events = before.events ++ way.events;
        ledger = ledger;
        after = after;
        runs = runs_out family state s.taken before.events way.events (seen kept') ledger now after moment before.wrote here way.are;
        written = happens_then line old new newer before.events way.events before.written way.written;
        no_memory = s.no_memory;
        cause = s.cause;
        tallies = s.tallies;
        numbered = s.numbered;
      }
