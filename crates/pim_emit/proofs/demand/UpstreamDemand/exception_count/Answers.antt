use Rattle.pim_emit.proofs.Words.{List, ℕ, Some, length, ap, arith, DemandSeen, above, exceptions_in}
use Rattle.pim_emit.proofs.AskedSources.{asked_as_seen}
use Rattle.pim_emit.proofs.AskedExceptions.{few_exceptions, one_exception_fewer, none_above}
use Rattle.pim_emit.proofs.demand.UpstreamDemand.exception_count.Goals as goal

pub loop-exception-init : goal.loop-exception-init
loop-exception-init g c = record { count = omega (arith, ap (λ (l : List (List ℕ)). length l) c.rpts-rpts.ensures.all); rpts = c.rpts-rpts.ensures.rpts }

pub overflow_add-count : goal.overflow_add-count
overflow_add-count g c =
    let family = g.F.Family.family in
    let bytes_of = g.F.Family.bytes_of in
    let table = c.self.inside.routes.now in
    let upstream = bytes_of c.self.inside.upstream in
    let state = c.self.inside.ports in
    let form = c.args.self.now.form in
    omega (
      arith,
      c.loop-exception.invariant.count,
      few_exceptions family table upstream state form
          (asked_as_seen c.form_of_demand_toward.ensures family table upstream state form c.is_sound.ensures (ap (λ (s : DemandSeen). s.form) c.self.view_is))
          (bytes_of c.args.group) c.requires.group,
    )

pub loop-exception-smaller : goal.loop-exception-smaller
loop-exception-smaller g c =
    let family = g.F.Family.family in
    let bytes_of = g.F.Family.bytes_of in
    let table = c.self.inside.routes.now in
    let upstream = bytes_of c.self.inside.upstream in
    let state = c.self.inside.ports in
    let form = c.args.self.now.form in
    omega (
      arith,
      ap (λ (e : List ℕ). length (above (Some e) (exceptions_in (bytes_of c.args.group) form))) c.in-Some.ensures.bound,
      one_exception_fewer family table upstream state form
          (asked_as_seen c.form_of_demand_toward.ensures family table upstream state form c.is_sound.ensures (ap (λ (s : DemandSeen). s.form) c.self.view_is))
          (bytes_of c.args.group) c.requires.group (Some c.loop-exception.rpts.bound) (bytes_of c.in-Some._exception) c.in-Some.ensures.exception,
    )

pub loop-exception-preserved : goal.loop-exception-preserved
loop-exception-preserved g c =
    let family = g.F.Family.family in
    let bytes_of = g.F.Family.bytes_of in
    let table = c.self.inside.routes.now in
    let upstream = bytes_of c.self.inside.upstream in
    let state = c.self.inside.ports in
    let form = c.args.self.now.form in
    record {
      count = omega (
        arith,
        ap (λ (e : List ℕ). length (above (Some e) (exceptions_in (bytes_of c.args.group) form))) c.in-Some.ensures.bound,
        c.loop-exception.invariant.count,
        one_exception_fewer family table upstream state form
            (asked_as_seen c.form_of_demand_toward.ensures family table upstream state form c.is_sound.ensures (ap (λ (s : DemandSeen). s.form) c.self.view_is))
            (bytes_of c.args.group) c.requires.group (Some c.loop-exception.rpts.bound) (bytes_of c.in-Some._exception) c.in-Some.ensures.exception,
      );
      rpts = c.in-Some.ensures.rpts;
    }

pub returns : goal.returns
returns g c =
    let family = g.F.Family.family in
    let bytes_of = g.F.Family.bytes_of in
    let table = c.self.inside.routes.now in
    let upstream = bytes_of c.self.inside.upstream in
    let state = c.self.inside.ports in
    let form = c.args.self.now.form in
    omega (
      arith,
      c.loop-exception.invariant.count,
      none_above family table upstream state form
          (asked_as_seen c.form_of_demand_toward.ensures family table upstream state form c.is_sound.ensures (ap (λ (s : DemandSeen). s.form) c.self.view_is))
          (bytes_of c.args.group) c.requires.group (Some c.loop-exception.rpts.bound) c.in_default.ensures.exception,
    )
