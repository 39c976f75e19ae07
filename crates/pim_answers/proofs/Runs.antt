-- On the way to a moment, run by run.
use Rattle.pim_answers.proofs.Words.{◌≡◌, ℕ, List, [], ◌∷◌, ◌++◌, Option, Result, Ok, Err, IsErr, refl, sym, subst, ap}
use Rattle.pim_answers.proofs.Words.{append_assoc, append-nil, Appends, Appends-nil, Appends-trans, AddressFamily, AppendsFront}
use Rattle.pim_answers.proofs.Words.{AppendsAll, Step, Echo, Refresh, Reached, RouterReport, echo, refresh, verdict, runs_to}
use Rattle.pim_answers.proofs.Words.{Reaches, IsCourse, step_seen, RouterState, Runs, EveryListHasACourse, echo_line}
use Rattle.pim_answers.proofs.Words.{refresh_line, Answered, ok_line, Passes, AnswersRun, step_line}
use Rattle.pim_down.specs.declared.machines.key.What.{What}
use Rattle.pim_answers.proofs.Wrote.{answered_text}
use Rattle.pim_answers.proofs.Written.{front-longer, front-more, both}

-- Some way on from a state.
pub record SomeWay (family : AddressFamily) (moment : ℕ) (state : RouterState) : Type 0 where
  pub reported : List RouterReport
  pub lines : List ℕ
  pub after : RouterState
  pub passes : Passes family moment reported lines state after

-- What is told on the way from here is told on the way from the start, after what was told so far.
pub record IsOnTheWay (family : AddressFamily) (moment : ℕ) (start now : RouterState) (old new : Option (List ℕ)) : Type 0 where
  pub done : List ℕ
  pub goes_on : (way : SomeWay family moment now) → (reported : List RouterReport) × Passes family moment reported (done ++ way.lines) start way.after
  pub written : Appends old new done

-- One line that is told on the way from a state, to the state after it.
pub record IsStep (family : AddressFamily) (moment : ℕ) (now : RouterState) (line : List ℕ) (between : RouterState) : Type 0 where
  pub one : RouterReport
  pub goes_on : (way : SomeWay family moment between) → Passes family moment (one ∷ way.reported) (line ++ way.lines) now way.after

-- a run that stopped early
pub not_reached : {A : Type 0} (bytes_of : A → List ℕ) (step : Step A) → (step ≡ Reached → ⊥) → step_seen bytes_of step ≡ Reached → ⊥
not_reached bytes_of (Echo port group what) never is = cc
not_reached bytes_of Refresh never is = cc
not_reached bytes_of Reached never is = never refl

module _ (family : AddressFamily) (moment : ℕ) where
  -- a run of the router tells its lines
  tells_lines : (reported : List RouterReport) (state after : RouterState) → Reaches moment reported state after → (lines : List ℕ) × Passes family moment reported lines state after
  unfolding Reaches Passes
  tells_lines [] state after reaches = ([], (reaches, refl))
  tells_lines (echo port group what ∷ more) state after (between, runs, reaches) =
      let rest = tells_lines more between after reaches in
      (echo_line family between.machines.moment port group what ++ rest.0, (between, rest.0, runs, refl, rest.1))
  tells_lines (refresh ∷ more) state after (between, runs, reaches) =
      let rest = tells_lines more between after reaches in
      (refresh_line between.machines.moment ++ rest.0, (between, rest.0, runs, refl, rest.1))
  tells_lines (verdict of_packet ∷ more) state after reaches = absurd reaches

  -- from each state there is some way
  pub some_way : EveryListHasACourse → (state : RouterState) → SomeWay family moment state
  unfolding IsCourse
  some_way law state =
      let course = law family (runs_to moment ∷ []) state in
      let reported = tells_lines course.course.before state course.course.between course.course.begins in
      record { reported = course.course.before; lines = reported.0; after = course.course.between; passes = reported.1 }

  -- an echo and a refresh are steps
  echoes : (now between : RouterState) (port : ℕ) (group : List ℕ) (what : What (List ℕ)) → Runs moment now (Echo port group what) between → IsStep family moment now (echo_line family between.machines.moment port group what) between
  unfolding Passes
  echoes now between port group what runs = record { one = echo port group what; goes_on = λ way. (between, way.lines, runs, refl, way.passes) }

  refreshes : (now between : RouterState) → Runs moment now Refresh between → IsStep family moment now (refresh_line between.machines.moment) between
  unfolding Passes
  refreshes now between runs = record { one = refresh; goes_on = λ way. (between, way.lines, runs, refl, way.passes) }

  -- each end of a run but the last is a step
  pub steps : (now between : RouterState) (step : Step (List ℕ)) → Runs moment now step between → (step ≡ Reached → ⊥) → IsStep family moment now (step_line family between.machines.moment step) between
  steps now between (Echo port group what) runs never = echoes now between port group what runs
  steps now between Refresh runs never = refreshes now between runs
  steps now between Reached runs never = absurd (never refl)

  -- the way after a step
  abbrev more_way : (now between : RouterState) (line : List ℕ) (s : IsStep family moment now line between) → SomeWay family moment between → SomeWay family moment now
  more_way now between line s way = record { reported = s.one ∷ way.reported; lines = line ++ way.lines; after = way.after; passes = s.goes_on way }

  module _ (start : RouterState) (old : Option (List ℕ)) where
    pub begin : IsOnTheWay family moment start start old old
    begin = record { done = []; goes_on = λ way. (way.reported, way.passes); written = Appends-nil old }

    module _ (now : RouterState) (new : Option (List ℕ)) (w : IsOnTheWay family moment start now old new) where
      -- a step whose line was written
      pub stepped : (line : List ℕ) (between : RouterState) (newer : Option (List ℕ)) → IsStep family moment now line between → Appends new newer line → IsOnTheWay family moment start between old newer
      stepped line between newer s written = record {
        done = w.done ++ line;
        goes_on = λ way. let g = w.goes_on (more_way now between line s way) in
            (g.0, subst (λ (l : List ℕ). Passes family moment g.0 l start way.after) (sym (append_assoc w.done line way.lines)) g.1);
        written = Appends-trans old new newer w.done line w.written written;
      }

      -- a step whose line was written in part
      pub stopped : {A E : Type 0} (line : List ℕ) (between : RouterState) (newer : Option (List ℕ)) (r : Result A E) (after : A → RouterState) → EveryListHasACourse → IsStep family moment now line between → IsErr r → AppendsFront new newer line
          → Answered (AnswersRun family moment start) old newer r after
      stopped line between newer (Ok x) after law s is front = absurd cc
      stopped line between newer (Err e) after law s is front =
          let way = some_way law between in
          let g = w.goes_on (more_way now between line s way) in
          let lines : List ℕ = w.done ++ (line ++ way.lines) in
          record {
            text = lines ++ ok_line;
            after = way.after;
            does = record { reported = g.0; lines = lines; passes = g.1; text_is = refl };
            written = front-longer old newer lines ok_line (front-more old new newer w.done (line ++ way.lines) w.written (front-longer new newer line way.lines front));
          }

      -- the end of the way
      pub arrived : {A E : Type 0} (after : RouterState) (newer : Option (List ℕ)) (r : Result A E) → Runs moment now Reached after → AppendsAll new newer r ok_line → Answered (AnswersRun family moment start) old newer r (λ _. after)
      unfolding Passes
      arrived after newer r runs written =
          let way : SomeWay family moment now = record { reported = []; lines = []; after = after; passes = (runs, refl) } in
          let g = w.goes_on way in
          answered_text (AnswersRun family moment start) old newer r after (w.done ++ ok_line)
          (record { reported = g.0; lines = w.done ++ []; passes = g.1; text_is = ap (λ (l : List ℕ). l ++ ok_line) (sym (append-nil w.done)) })
          (both old new newer r w.done ok_line w.written written)
