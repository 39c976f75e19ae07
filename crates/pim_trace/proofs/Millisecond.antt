-- What is told of the next millisecond: the neighbours whose time is over, then the timers that fire.
use Rattle.pim_trace.proofs.Words.{◌≡◌, ◌≤◌, ◌+◌, ℕ, max, List, [], ◌∷◌, ◌++◌, Option, refl, arith, Appends, AppendsFront, Firing}
use Rattle.pim_trace.proofs.Words.{FiringSaysMore, Happening, timer_fired, gone_between, Passes, Happens, FiresAfter}
use Rattle.pim_trace.proofs.Words.{FiringPasses, HappeningGoesOn, EveryStateGoesOn, RouterState, rests, turn, Occurrence, Ledger}
use Rattle.pim_trace.proofs.Words.{events_in, after_all, PassesTime, time_outs, HasWritten, HasBegun}
use Rattle.pim_trace.proofs.Fires.{ends_next, fires_next, they_go}
use Rattle.pim_trace.proofs.Listed as listed
use Rattle.pim_trace.proofs.OnTheWay.{said, IsOnTheWay, begin, further, stopped}

module _ (line : Occurrence → List ℕ) (go : HappeningGoesOn) (every : EveryStateGoesOn) (end : ℕ) (state : RouterState)
    (next : state.machines.moment + 1 ≡ end) (quiet : turn state.machines.moment state ≡ rests) (first : Ledger) (old : Option (List ℕ)) where
  abbrev gone : List (ℕ × Happening)
  gone = time_outs end state.tables

  -- a front of the neighbours that go was told
  pub gone_begun : FiringSaysMore → (newer : Option (List ℕ)) → AppendsFront old newer (said line first gone) → HasBegun line (PassesTime end first state) old newer
  gone_begun more newer front =
      let they = they_go end state next quiet more in
      stopped line end first state old go first state old (begin line end first state old) end (omega arith) gone they.after they.passes newer every front

  -- they were told, and no timer fires
  pub gone_only : (ledger' : Ledger) (after : RouterState) (newer : Option (List ℕ)) → after.machines.moment ≡ end → Happens end state (gone_between state after) after →
      (ledger' ≡ after_all first gone) × Appends old newer (said line first gone) → HasWritten line (PassesTime end first state) ledger' after old newer
  gone_only ledger' after newer there happens t = record {
    events = events_in first gone;
    are = record { happened = gone; happens = ends_next end state next quiet after there happens; events_are = refl; ledger_is = t.0 };
    written = t.1;
  }

  module _ (law : FiringPasses) (after : RouterState) (reported : Firing (List ℕ)) (within : after.machines.moment ≤ max state.machines.moment end) (f : FiresAfter end state reported after)
      (ledger1 : Ledger) (new1 : Option (List ℕ)) (t1 : (ledger1 ≡ after_all first gone) × Appends old new1 (said line first gone)) where
    abbrev one : List (ℕ × Happening)
    one = (end, timer_fired reported) ∷ []

    passes : Passes end state (gone ++ one) after
    passes = fires_next end state next quiet law after reported within f

    so_far : listed.IsTelling line first (gone ++ one) old ledger1 one new1
    so_far = listed.part_told line first (gone ++ one) old first (gone ++ one) old (listed.begin line first (gone ++ one) old) gone one refl ledger1 new1 t1

    -- a front of the first timer was told
    pub fired_begun : (newer : Option (List ℕ)) → AppendsFront new1 newer (said line ledger1 one) → HasBegun line (PassesTime end first state) old newer
    fired_begun newer front =
        stopped line end first state old go first state old (begin line end first state old) end (omega arith) (gone ++ one) after passes newer every
        (listed.part_begun line first (gone ++ one) old ledger1 one new1 so_far one [] refl newer front)

    -- the first timer was told
    pub fired_way : (ledger2 : Ledger) (new2 : Option (List ℕ)) → (ledger2 ≡ after_all ledger1 one) × Appends new1 new2 (said line ledger1 one) → IsOnTheWay line end first state old ledger2 after new2
    fired_way ledger2 new2 t2 =
        let all = listed.all_told line first (gone ++ one) old ledger2 [] new2
        (listed.part_told line first (gone ++ one) old ledger1 one new1 so_far one [] refl ledger2 new2 t2) refl in
        further line end first state old go first state old (begin line end first state old) end (omega arith) (gone ++ one) after passes new2 ledger2 all.0 all.1
