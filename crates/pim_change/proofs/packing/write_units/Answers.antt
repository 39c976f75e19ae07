use Rattle.pim_change.proofs.Words.{◌≡◌, ◌∙◌, ◌++◌, ◌∷◌, ℕ, true, List, [], take, drop, subst, ap, arith, rp_of, fits}
use Rattle.pim_change.proofs.Words.{StopsBefore, Unit, units_seen, too_big, weights}
use Rattle.pim_change.proofs.RunCounts.{fits_behind}
use Rattle.pim_change.proofs.Packed.{goes_on, goes_to}
use Rattle.pim_change.proofs.packing.write_units.Goals as goal

pub run_length-length-requires-clause-alone : goal.run_length-length-requires-clause-alone
run_length-length-requires-clause-alone g c =
    let bytes_of = g.F.Family.bytes_of in
    ap (λ (l : List (Unit _)). too_big g.F.Family.family c.budget.result (units_seen bytes_of l)) c.split_at.ensures.back
    ∙ fits_behind bytes_of g.F.Family.family c.budget.result c.args.units.now c.loop-start.start
    (ap (λ (n : ℕ). too_big g.F.Family.family n (units_seen bytes_of c.args.units.now)) c.budget.ensures ∙ c.requires)

pub loop-start-preserved : goal.loop-start-preserved
loop-start-preserved g c =
    let family = g.F.Family.family in
    let bytes_of = g.F.Family.bytes_of in
    let length = c.run_length-length.result in
    let left = c.split_at.result.1.now in
    let fitting : fits family c.args.writer.now.budget (weights (units_seen bytes_of (take length left))) ≡ true =
    subst (λ (n : ℕ). fits family n (weights (units_seen bytes_of (take length left))) ≡ true) c.budget.ensures
    c.run_length-length.ensures.fits in
    let stops : StopsBefore family c.args.writer.now.budget (weights (units_seen bytes_of (take length left)))
    (weights (units_seen bytes_of (drop length left))) =
    subst (λ (n : ℕ). StopsBefore family n (weights (units_seen bytes_of (take length left)))
    (weights (units_seen bytes_of (drop length left)))) c.budget.ensures c.run_length-length.ensures.stops in
    record {
      within = omega (arith, c.run_length-length.ensures.within, c.split_at.ensures.back_len, c.loop-start-test.true);
      goes = goes_on family c.args.writer.now (rp_of family c.args.routes.now) bytes_of c.args.units.now
          c.loop-start.start length left c.split_at-in-loop-start.result.0.now c.loop-start.messages c.push.new.self
          c.in_ok-bytes.bytes.items c.split_at.ensures.back c.split_at-in-loop-start.ensures.front
          c.loop-start-test.true c.run_length-length.ensures.some fitting stops c.in_ok-bytes.ensures
          (c.in_ok-push.ensures.ok ∙ ap (λ (l : List ℕ). c.loop-start.messages ++ l ∷ []) c.deref.ensures.value)
          c.loop-start.invariant.goes;
    }

pub returns : goal.returns
returns g c =
    goes_to g.F.Family.family c.args.writer.now (rp_of g.F.Family.family c.args.routes.now) g.F.Family.bytes_of
    c.args.units.now c.loop-start.start c.loop-start.messages (omega (arith, c.loop-start-test.false))
    c.loop-start.invariant.goes
