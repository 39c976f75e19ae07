use Rattle.pim_change.proofs.Words.{length, ap, subst, arith, AllByRecursion, rp_of, IsShort}
use Rattle.pim_change.proofs.SetSteps.{step, one_longer, one_appended, no_sets, none_longer, none_appended}
use Rattle.pim_change.proofs.message.append_sets.Goals as goal

pub append_set-requires : goal.append_set-requires
append_set-requires g c =
    let rps = rp_of g.F.Family.family c.args.routes.now in
    let is = step g.F.Family.bytes_of rps c.args.units.now c.loop-start.start c.front_length-length.result
    c.index-units-start.result c.split_at.result.1.now c.split_at-in-loop-start.result.1.now
    c.split_at-in-loop-start-2.result.0.now (omega (arith, c.loop-start-test.true)) c.split_at.ensures.back
    c.split_at-in-loop-start.ensures.back c.split_at-in-loop-start-2.ensures.front
    c.front_length-length.ensures.cut in
    (subst (AllByRecursion IsShort) is c.loop-start.invariant.short).0

pub overflow_add-count : goal.overflow_add-count
overflow_add-count g c =
    let rps = rp_of g.F.Family.family c.args.routes.now in
    let is = step g.F.Family.bytes_of rps c.args.units.now c.loop-start.start c.front_length-length.result
    c.index-units-start.result c.split_at.result.1.now c.split_at-in-loop-start.result.1.now
    c.split_at-in-loop-start-2.result.0.now (omega (arith, c.loop-start-test.true)) c.split_at.ensures.back
    c.split_at-in-loop-start.ensures.back c.split_at-in-loop-start-2.ensures.front
    c.front_length-length.ensures.cut in
    omega (arith, ap length is, c.loop-start.invariant.counted, c.requires.groups)

pub loop-start-preserved : goal.loop-start-preserved
loop-start-preserved g c =
    let family = g.F.Family.family in
    let rps = rp_of family c.args.routes.now in
    let is = step g.F.Family.bytes_of rps c.args.units.now c.loop-start.start c.front_length-length.result
    c.index-units-start.result c.split_at.result.1.now c.split_at-in-loop-start.result.1.now
    c.split_at-in-loop-start-2.result.0.now (omega (arith, c.loop-start-test.true)) c.split_at.ensures.back
    c.split_at-in-loop-start.ensures.back c.split_at-in-loop-start-2.ensures.front
    c.front_length-length.ensures.cut in
    record {
      within = omega (
        arith,
        c.front_length-length.ensures.within,
        c.split_at-in-loop-start.ensures.back_len,
        c.loop-start-test.true,
      );
      short = (subst (AllByRecursion IsShort) is c.loop-start.invariant.short).1;
      counted = omega (arith, ap length is, c.loop-start.invariant.counted);
      longer = one_longer family _ _ _ _ _ _ is c.loop-start.invariant.longer c.in_ok-append_set.ensures.longer;
      appended = one_appended family _ _ _ _ _ _ is c.loop-start.invariant.appended
          c.in_ok-append_set.ensures.appended;
    }

pub returns-clause-appended : goal.returns-clause-appended
returns-clause-appended g c =
    none_appended g.F.Family.family _ _ _
    (no_sets g.F.Family.bytes_of (rp_of g.F.Family.family c.args.routes.now) c.args.units.now c.loop-start.start
    (omega (arith, c.loop-start-test.false))) c.loop-start.invariant.appended

pub returns-clause-longer : goal.returns-clause-longer
returns-clause-longer g c =
    none_longer g.F.Family.family _ _ _
    (no_sets g.F.Family.bytes_of (rp_of g.F.Family.family c.args.routes.now) c.args.units.now c.loop-start.start
    (omega (arith, c.loop-start-test.false))) c.loop-start.invariant.longer

pub returns-clause-counted : goal.returns-clause-counted
returns-clause-counted g c =
    let none = no_sets g.F.Family.bytes_of (rp_of g.F.Family.family c.args.routes.now) c.args.units.now
    c.loop-start.start (omega (arith, c.loop-start-test.false)) in
    omega (arith, ap length none, c.loop-start.invariant.counted)
