-- On the way to a moment, run by run.
use Rattle.pim_replay.proofs.Words.{◌≡◌, ◌≤◌, ◌+◌, ◌∙◌, ℕ, zero, suc, min, List, [], ◌∷◌, Option, refl, sym, ap, subst}
use Rattle.pim_replay.proofs.Words.{arith, Appends, Appends-nil, AddressFamily, AppendsFront, top_count, What, Counts}
use Rattle.pim_replay.proofs.Words.{Echo, Reached, RunsPast, RouterReport, echo, refresh, verdict, runs_to, Reaches}
use Rattle.pim_replay.proofs.Words.{IsCourse, RouterState, EveryListHasACourse, Event, Account, nothing, of_event}
use Rattle.pim_replay.proofs.Words.{of_refreshes, joined, HasWritten, HasBegun, Passes, PassesTime}
use Rattle.pim_router.specs.declared.step.Step.{Step}
use Rattle.pim_router.specs.Time.{Runs}
use Rattle.pim_replay.specs.declared.event.ReplayEvent.TheVariants as event
use Rattle.pim_replay.proofs.Told.{nothing_first, regroup, refresh_first, made_counts, same_counts, text, one_text, told_more, begun_more}
use Rattle.pim_replay.proofs.Written.{front-longer}

module _ (moment : ℕ) where
  -- what comes on the way from `now` comes after `done` on the way from `start`
  abbrev pub GoesOn : RouterState → Account → RouterState → Type 0
  GoesOn start done now = (account : Account) (after : RouterState) → PassesTime moment now account after → PassesTime moment start (joined done account) after

  start_goes_on : (start : RouterState) → GoesOn start nothing start
  start_goes_on start account after passes = subst (λ (a : Account). PassesTime moment start a after) (sym (nothing_first account)) passes

  -- an echo, and then the rest of the way
  echo_first : (port : ℕ) (group : List ℕ) (what : What (List ℕ)) (now between : RouterState) → Runs moment now (Echo port group what) between
      → GoesOn now (of_event (event.Echo between.machines.moment port group what)) between
  unfolding Passes
  echo_first port group what now between runs account after passes = record { reported = echo port group what ∷ passes.reported; passes = (between, account, runs, refl, passes.passes) }

  pub arrived : (now after : RouterState) → Runs moment now Reached after → PassesTime moment now nothing after
  unfolding Passes
  arrived now after runs = record { reported = []; passes = (runs, refl) }

  -- a run past Refreshes tells them, and then runs to its end
  record Comes (count : ℕ) (now : RouterState) (answer : Step (List ℕ)) (after : RouterState) : Type 0 where
    between : RouterState
    runs : Runs moment between answer after
    goes_on : GoesOn now (of_refreshes count) between

  comes : (count : ℕ) (now : RouterState) (answer : Step (List ℕ)) (after : RouterState) → RunsPast count moment now answer after → Comes count now answer after
  unfolding RunsPast Passes
  comes zero now answer after runs = record { between = now; runs = runs; goes_on = start_goes_on now }
  comes (suc count) now answer after (between, runs, past) =
      let rest = comes count between answer after past in
      record {
        between = rest.between;
        runs = rest.runs;
        goes_on = λ account end passes. (
            let others = rest.goes_on account end passes in
            record { reported = refresh ∷ others.reported; passes = (between, joined (of_refreshes count) account, runs, refresh_first count account, others.passes) });
      }

  -- from each state there is a way
  pub record SomeWay (state : RouterState) : Type 0 where
    pub account : Account
    pub after : RouterState
    pub passes : PassesTime moment state account after

  some_told : (reported : List RouterReport) (state after : RouterState) → Reaches moment reported state after → (account : Account) × PassesTime moment state account after
  unfolding Reaches Passes
  some_told [] state after reaches = (nothing, arrived state after reaches)
  some_told (echo port group what ∷ more) state after (between, runs, reaches) =
      let rest = some_told more between after reaches in
      (joined (of_event (event.Echo between.machines.moment port group what)) rest.0, echo_first port group what state between runs rest.0 after rest.1)
  some_told (refresh ∷ more) state after (between, runs, reaches) =
      let rest = some_told more between after reaches in
      (joined (of_refreshes 1) rest.0, record { reported = refresh ∷ rest.1.reported; passes = (between, rest.0, runs, refl, rest.1.passes) })
  some_told (verdict of_packet ∷ more) state after reaches = absurd reaches

  some_way : EveryListHasACourse → (family : AddressFamily) (state : RouterState) → SomeWay state
  unfolding IsCourse
  some_way law family state =
      let course = law family (runs_to moment ∷ []) state in
      let reported = some_told course.course.before state course.course.between course.course.begins in
      record { account = reported.0; after = course.course.between; passes = reported.1 }

  -- ---- the way so far, and the next run on it

  -- what was written on the way to this router, where this number of Refreshes is counted
  abbrev pub IsOnTheWay : (Event → List ℕ) → RouterState → Option (List ℕ) → Counts → RouterState → Option (List ℕ) → ℕ → Type 0
  IsOnTheWay line start old counts now new count = HasWritten line (GoesOn start) now old new counts (made_counts counts.skipped count)

  module _ (line : Event → List ℕ) (start : RouterState) (old : Option (List ℕ)) (counts : Counts) (few : counts.skipped ≤ top_count) where
    abbrev Way : RouterState → Option (List ℕ) → ℕ → Type 0
    Way = IsOnTheWay line start old counts

    pub begin : counts.refreshes ≤ top_count → Way start old counts.refreshes
    begin small = record {
      account = nothing;
      wrote = start_goes_on start;
      written = Appends-nil old;
      is_counted = same_counts _ _ _ _ (omega (arith, few)) (omega (arith, small));
    }

    module _ (now after : RouterState) (new newer : Option (List ℕ)) (count refreshes more : ℕ) (w : Way now new count) (is : more ≡ min (count + refreshes) top_count) where
      -- the Refreshes, and then the rest of the way
      refreshed : (between : RouterState) → GoesOn now (of_refreshes refreshes) between → (first rest : Account) (last : RouterState) → PassesTime moment between (joined first rest) last
          → PassesTime moment start (joined (joined w.account (joined (of_refreshes refreshes) first)) rest) last
      refreshed between goes_on first rest last passes =
          subst (λ (a : Account). PassesTime moment start a last)
          (ap (joined w.account) (sym (regroup (of_refreshes refreshes) first rest)) ∙ sym (regroup w.account (joined (of_refreshes refreshes) first) rest))
          (w.wrote (joined (of_refreshes refreshes) (joined first rest)) last (goes_on (joined first rest) last passes))

      more_counted : made_counts counts.skipped more ≡ made_counts (min (counts.skipped + 0) top_count) (min (count + (refreshes + 0)) top_count)
      more_counted = same_counts _ _ _ _ (omega (arith, few)) (omega (arith, is))

      module _ (port : ℕ) (group : List ℕ) (what : What (List ℕ)) (runs : RunsPast refreshes moment now (Echo port group what) after) where
        abbrev fallen : Event
        fallen = event.Echo after.machines.moment port group what

        pub echoed : Appends new newer (line fallen) → Way after newer more
        echoed written =
            let come = comes refreshes now (Echo port group what) after runs in
            told_more line (GoesOn start) (GoesOn start) now old new newer counts (made_counts counts.skipped count) w (joined (of_refreshes refreshes) (of_event fallen)) after (made_counts counts.skipped more)
            (λ rest last passes. refreshed come.between come.goes_on (of_event fallen) rest last (echo_first port group what come.between after come.runs rest last passes))
            (subst (λ (t : List ℕ). Appends new newer t) (one_text line fallen) written) more_counted

        pub stopped : EveryListHasACourse → AddressFamily → AppendsFront new newer (line fallen) → HasBegun line (PassesTime moment start) old newer
        stopped law family written =
            let come = comes refreshes now (Echo port group what) after runs in
            let way = some_way law family after in
            let all = joined (of_event fallen) way.account in
            begun_more line (GoesOn start) (PassesTime moment start) now old new newer counts (made_counts counts.skipped count) w (joined (of_refreshes refreshes) all) way.after
            (w.wrote (joined (of_refreshes refreshes) all) way.after (come.goes_on all way.after (echo_first port group what come.between after come.runs way.account way.after way.passes)))
            (front-longer new newer (line fallen) (text line way.account) written)

      pub reached : RunsPast refreshes moment now Reached after → HasWritten line (PassesTime moment start) after old new counts (made_counts counts.skipped more)
      reached runs =
          let come = comes refreshes now Reached after runs in
          let all = joined (of_refreshes refreshes) nothing in
          told_more line (GoesOn start) (PassesTime moment start) now old new new counts (made_counts counts.skipped count) w all after (made_counts counts.skipped more)
          (w.wrote all after (come.goes_on nothing after (arrived come.between after come.runs))) (Appends-nil new) more_counted
