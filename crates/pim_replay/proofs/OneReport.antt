-- A replay has one account, and a report has one text.
use Rattle.pim_replay.proofs.Words.{◌≡◌, ◌∙◌, ℕ, Bool, List, [], ◌∷◌, ◌++◌, Option, None, Some, refl, sym, ap, subst}
use Rattle.pim_replay.proofs.Words.{append_assoc, flat_map-append, AddressFamily, Answer, What, EventSeen, End, Taken, IsMergeBy}
use Rattle.pim_replay.proofs.Words.{ending, takes, clock_after, moment_of, event_time, after_turn, MergeState, last_of}
use Rattle.pim_replay.proofs.Words.{end_moment, clock_of, Takes, Echo, Refresh, Reached, RouterReport, echo, refresh, verdict}
use Rattle.pim_replay.proofs.Words.{RunHasOneEnd, RouterState, text_with, Account, nothing, of_event, of_refreshes, joined}
use Rattle.pim_replay.proofs.Words.{counted, Follows, Passes, PassesTime, TakesRecord, WritesTurn, WritesTurns, PassesToEnd}
use Rattle.pim_replay.proofs.Words.{WritesFirst, WritesAll, none_yet, event_line, lines_of, IsReport}
use Rattle.pim_form.specs.Laws.{OneNormalForm}
use Rattle.pim_form.specs.NormalForm.{GroupForm, IsFormOf}
use Rattle.pim_form.specs.Wants.{wants}
use Rattle.pim_merge.specs.Laws.{MergeByHasOneEnd}
use Rattle.pim_merge.specs.Lane.{IsComing}
use Rattle.pim_capture.specs.declared.fault.CaptureFault.{CaptureFault}
use Rattle.pim_time.specs.declared.reading.Time.{Time}
use Rattle.pim_merge.specs.declared.clock.Clock.{Clock}
use Rattle.pim_replay.specs.declared.event.ReplayEvent.TheVariants as event
use Rattle.pim_replay.specs.Laws.{BeginsWith, BeginsWithItsLines}
use Rattle.pim_replay.proofs.Told.{nothing_first, nothing_last, regroup, both}

echo_port : (p q : ℕ) (g h : List ℕ) (w v : What (List ℕ)) → Echo p g w ≡ Echo q h v → p ≡ q
echo_port p q g h w v same = cc

echo_group : (p q : ℕ) (g h : List ℕ) (w v : What (List ℕ)) → Echo p g w ≡ Echo q h v → g ≡ h
echo_group p q g h w v same = cc

echo_what : (p q : ℕ) (g h : List ℕ) (w v : What (List ℕ)) → Echo p g w ≡ Echo q h v → w ≡ v
echo_what p q g h w v same = cc

-- ---- first turns are a front of all

takes_capture : (c d : ℕ) (t u : EventSeen) → takes c t ≡ takes d u → c ≡ d
takes_capture c d t u same = cc

takes_told : (c d : ℕ) (t u : EventSeen) → takes c t ≡ takes d u → t ≡ u
takes_told c d t u same = cc

ends_or_takes : (fault : Option (ℕ × CaptureFault)) (c : ℕ) (t : EventSeen) → ending fault ≡ takes c t → ⊥
ends_or_takes None c t same = cc
ends_or_takes (Some (n, f)) c t same = cc

abbrev made : ℕ → ℕ → EventSeen → Taken
made c m t = record { capture = c; moment = m; reported = t }

same_taken : (a b : Taken) → a.capture ≡ b.capture → a.moment ≡ b.moment → a.reported ≡ b.reported → a ≡ b
same_taken a b capture moment reported =
    ap (λ c. made c a.moment a.reported) capture ∙ (ap (λ m. made b.capture m a.reported) moment ∙ ap (λ t. made b.capture b.moment t) reported)

record Front (taken all : List Taken) : Type 0 where
  more : List Taken
  is : all ≡ taken ++ more

front_of_all : (last : Option Time) (clock : Option Clock) (captures : List (List Answer)) (taken : List Taken) (clock' : Option Clock) (rest : List (List Answer)) (all : List Taken) (fault : Option (ℕ × CaptureFault))
    → Takes last clock captures taken clock' rest → IsMergeBy last clock captures all fault → Front taken all
unfolding Takes IsMergeBy
front_of_all last clock captures [] clock' rest all fault takes_them merge = record { more = all; is = refl }
front_of_all last clock captures (first ∷ others) clock' rest [] fault (one, at, goes_on) merge = absurd (ends_or_takes fault first.capture first.reported (sym merge ∙ one))
front_of_all last clock captures (first ∷ others) clock' rest (second ∷ seconds) fault (one, at, goes_on) (two, at', merge) =
    let capture = takes_capture second.capture first.capture second.reported first.reported (sym two ∙ one) in
    let same = takes_told second.capture first.capture second.reported first.reported (sym two ∙ one) in
    let moment = at' ∙ (ap (λ t. moment_of (clock_after clock (event_time t))) same ∙ sym at) in
    let rest_of = front_of_all last (clock_after clock (event_time first.reported)) (after_turn first.capture captures) others clock' rest seconds fault goes_on
    (subst (λ t. IsMergeBy last (clock_after clock (event_time t)) (after_turn first.capture captures) seconds fault) same
    (subst (λ c. IsMergeBy last (clock_after clock (event_time second.reported)) (after_turn c captures) seconds fault) capture merge)) in
    record { more = rest_of.more; is = ap (λ t. t ∷ seconds) (same_taken second first capture moment same) ∙ ap (λ l. first ∷ l) rest_of.is }

-- a part with one account, which leads to one router
abbrev IsOne : (Account → RouterState → Type 0) → Type 0
IsOne Part = (a b : Account) (s t : RouterState) → Part a s → Part b t → (a ≡ b) × (s ≡ t)

follows_one : (One : Account → RouterState → Type 0) (Next : RouterState → Account → RouterState → Type 0) → IsOne One → ((s : RouterState) → IsOne (Next s)) → IsOne (Follows One Next)
follows_one One Next first next a b s t p q =
    let begin = first p.first q.first p.between q.between p.begins q.begins in
    let rest = next q.between p.second q.second s t (subst (λ m. Next m p.second s) begin.1 p.goes_on) q.goes_on in
    (p.account_is ∙ (ap (λ x. joined x p.second) begin.0 ∙ (ap (joined q.first) rest.0 ∙ sym q.account_is)), rest.1)

-- ---- first turns and further ones

pub split : (family : AddressFamily) (taken more : List Taken) (state : RouterState) (account : Account) (after : RouterState) → WritesTurns family (taken ++ more) state account after
    → Follows (WritesTurns family taken state) (WritesTurns family more) account after
unfolding WritesTurns
split family [] more state account after reported =
    record { first = nothing; between = state; begins = (refl, refl); second = account; goes_on = reported; account_is = sym (nothing_first account) }
split family (first ∷ others) more state account after reported =
    let r = split family others more reported.between reported.second after reported.goes_on in
    record {
      first = joined reported.first r.first;
      between = r.between;
      begins = both (WritesTurn family first state) (WritesTurns family others) reported.first r.first reported.between r.between reported.begins r.begins;
      second = r.second;
      goes_on = r.goes_on;
      account_is = reported.account_is ∙ (ap (joined reported.first) r.account_is ∙ sym (regroup reported.first r.first r.second));
    }

module _ (merges : MergeByHasOneEnd) (runs : RunHasOneEnd) (forms : OneNormalForm) (family : AddressFamily) where
  passes_one : (moment : ℕ) (reported said : List RouterReport) (state : RouterState) (a b : Account) (after other : RouterState) → Passes moment reported state a after → Passes moment said state b other
      → (a ≡ b) × (after ≡ other)
  unfolding Passes
  passes_one moment [] [] state a b after other (run, none) (run', none') = (none ∙ sym none', (runs moment state after other Reached Reached run run').1)
  passes_one moment [] (echo p g w ∷ said) state a b after other (run, none) (between, others, run', is, passes) =
      absurd (let same = (runs moment state after between Reached (Echo p g w) run run').0 in cc)
  passes_one moment [] (refresh ∷ said) state a b after other (run, none) (between, others, run', is, passes) =
      absurd (let same = (runs moment state after between Reached Refresh run run').0 in cc)
  passes_one moment [] (verdict v ∷ said) state a b after other reported passes = absurd passes
  passes_one moment (verdict v ∷ reported) said state a b after other passes other_passes = absurd passes
  passes_one moment (echo p g w ∷ reported) [] state a b after other (between, others, run, is, passes) (run', none) =
      absurd (let same = (runs moment state between other (Echo p g w) Reached run run').0 in cc)
  passes_one moment (echo p g w ∷ reported) (refresh ∷ said) state a b after other (between, others, run, is, passes) (between', others', run', is', passes') =
      absurd (let same = (runs moment state between between' (Echo p g w) Refresh run run').0 in cc)
  passes_one moment (echo p g w ∷ reported) (verdict v ∷ said) state a b after other one passes = absurd passes
  passes_one moment (echo p g w ∷ reported) (echo q h v ∷ said) state a b after other (between, others, run, is, passes) (between', others', run', is', passes') =
      let same = runs moment state between between' (Echo p g w) (Echo q h v) run run' in
      let rest = passes_one moment reported said between others others' after other passes (subst (λ s. Passes moment said s others' other) (sym same.1) passes') in (
        is
            ∙ (ap (λ (s : RouterState). joined (of_event (event.Echo s.machines.moment p g w)) others) same.1
            ∙ (ap (λ n. joined (of_event (event.Echo between'.machines.moment n g w)) others) (echo_port p q g h w v same.0)
            ∙ (ap (λ l. joined (of_event (event.Echo between'.machines.moment q l w)) others) (echo_group p q g h w v same.0)
            ∙ (ap (λ l. joined (of_event (event.Echo between'.machines.moment q h l)) others) (echo_what p q g h w v same.0)
            ∙ (ap (joined (of_event (event.Echo between'.machines.moment q h v))) rest.0 ∙ sym is'))))),
        rest.1,
      )
  passes_one moment (refresh ∷ reported) [] state a b after other (between, others, run, is, passes) (run', none) =
      absurd (let same = (runs moment state between other Refresh Reached run run').0 in cc)
  passes_one moment (refresh ∷ reported) (echo p g w ∷ said) state a b after other (between, others, run, is, passes) (between', others', run', is', passes') =
      absurd (let same = (runs moment state between between' Refresh (Echo p g w) run run').0 in cc)
  passes_one moment (refresh ∷ reported) (verdict v ∷ said) state a b after other one passes = absurd passes
  passes_one moment (refresh ∷ reported) (refresh ∷ said) state a b after other (between, others, run, is, passes) (between', others', run', is', passes') =
      let same = runs moment state between between' Refresh Refresh run run' in
      let rest = passes_one moment reported said between others others' after other passes (subst (λ s. Passes moment said s others' other) (sym same.1) passes') in
      (is ∙ (ap (joined (of_refreshes 1)) rest.0 ∙ sym is'), rest.1)

  time_one : (moment : ℕ) (state : RouterState) → IsOne (PassesTime moment state)
  time_one moment state a b s t p q = passes_one moment p.reported q.reported state a b s t p.passes q.passes

  turn_one : (this : Taken) (state : RouterState) → IsOne (WritesTurn family this state)
  turn_one this state =
      follows_one (PassesTime this.moment state) (TakesRecord family this) (time_one this.moment state)
      (λ between a b s t p q. let same = p ∙ sym q in (ap (λ (x : Account × RouterState). x.0) same, ap (λ (x : Account × RouterState). x.1) same))

  turns_one : (taken : List Taken) (state : RouterState) → IsOne (WritesTurns family taken state)
  unfolding WritesTurns
  turns_one [] state a b s t p q = (p.0 ∙ sym q.0, p.1 ∙ sym q.1)
  turns_one (first ∷ others) state a b s t p q =
      follows_one (WritesTurn family first state) (WritesTurns family others) (turn_one first state) (turns_one others) a b s t p q

  form_is : (state other : RouterState) (one two : List GroupForm) → state ≡ other → IsFormOf family (wants state.machines) one → IsFormOf family (wants other.machines) two → one ≡ two
  form_is state other one two same p q =
      let q' = subst (λ s. IsFormOf family (wants s.machines) two) (sym same) q in
      forms family one two p.normal q'.normal (λ source group tree s g. sym (p.wants source group tree s g) ∙ q'.wants source group tree s g)

  module _ (shows_via : Bool) (end : End) (merge : MergeState) (captures : List (List Answer)) (state : RouterState) (coming : IsComing merge.lanes captures) where
    all_one : IsOne (WritesAll family end merge state)
    all_one a b s t one two =
        let same = (merges (last_of end) merge.clock captures one.taken two.taken None None (one.are captures coming) (two.are captures coming)).0 in
        follows_one (WritesTurns family two.taken state) (PassesToEnd end (clock_of merge.clock two.taken)) (turns_one two.taken state)
        (λ between. time_one (end_moment end (clock_of merge.clock two.taken) between.machines.moment) between) a b s t
        (subst (λ taken. Follows (WritesTurns family taken state) (PassesToEnd end (clock_of merge.clock taken)) a s) same one.wrote) two.wrote

    pub one_report : (one other : RouterState) (text more : List ℕ) → IsReport family shows_via end merge state one text → IsReport family shows_via end merge state other more
        → (text ≡ more) × (one ≡ other)
    one_report one other text more this that =
        let all = all_one this.account that.account one other this.wrote that.wrote in
        let form = form_is one other this.form that.form all.1 this.demand that.demand in (
          this.text_is
              ∙ (ap (λ (a : Account). lines_of family a.events ++ text_with family shows_via one this.form (counted none_yet a)) all.0
              ∙ (ap (λ s. lines_of family that.account.events ++ text_with family shows_via s this.form (counted none_yet that.account)) all.1
              ∙ (ap (λ f. lines_of family that.account.events ++ text_with family shows_via other f (counted none_yet that.account)) form ∙ sym that.text_is))),
          all.1,
        )

    -- a report begins with the lines of the first of its parts
    begins : (after : RouterState) (text : List ℕ) (this : IsReport family shows_via end merge state after text) (account rest : Account) → this.account ≡ joined account rest
        → BeginsWith text (lines_of family account.events)
    begins after text this account rest is =
        let state_text = text_with family shows_via after this.form (counted none_yet this.account) in
        record {
          rest = lines_of family rest.events ++ state_text;
          is = this.text_is
              ∙ (ap (λ (a : Account). lines_of family a.events ++ state_text) is
              ∙ (ap (λ l. l ++ state_text) (flat_map-append (event_line family) account.events rest.events)
              ∙ append_assoc (lines_of family account.events) (lines_of family rest.events) state_text));
        }

    first_begin : (after : RouterState) (text : List ℕ) → IsReport family shows_via end merge state after text → (account : Account) (between : RouterState)
        → WritesFirst family end merge state account between → BeginsWith text (lines_of family account.events)
    first_begin after text this account between first =
        let all = this.wrote in
        let turns = all.wrote in
        let g = first.are captures coming in
        let front = front_of_all (last_of end) merge.clock captures first.taken g.clock_then g.rest all.taken None g.takes_them (all.are captures coming) in
        let s = split family first.taken front.more state turns.first turns.between (subst (λ t. WritesTurns family t state turns.first turns.between) front.is turns.begins) in
        let same = (turns_one first.taken state s.first account s.between between s.begins first.wrote).0 in
        begins after text this account (joined s.second turns.second)
        (turns.account_is ∙ (ap (λ x. joined x turns.second) (s.account_is ∙ ap (λ x. joined x s.second) same) ∙ regroup account s.second turns.second))

    all_begin : (after : RouterState) (text : List ℕ) → IsReport family shows_via end merge state after text → (account : Account) (between : RouterState)
        → WritesAll family end merge state account between → BeginsWith text (lines_of family account.events)
    all_begin after text this account between reported =
        begins after text this account nothing ((all_one this.account account after between this.wrote reported).0 ∙ sym (nothing_last account))

    pub begins_so : (after : RouterState) (text : List ℕ) → IsReport family shows_via end merge state after text → BeginsWithItsLines family end merge state text
    begins_so after text this = record { first = first_begin after text this; all = all_begin after text this }
