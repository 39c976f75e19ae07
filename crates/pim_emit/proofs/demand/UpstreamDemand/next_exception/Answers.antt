use Rattle.pim_emit.proofs.Words.{◌∙◌, ◌<◌, List, ℕ, ap, refl, sym, subst, Some, Record, source_of, DemandSeen}
use Rattle.pim_emit.proofs.Words.{next_above, exceptions_in}
use Rattle.pim_emit.proofs.CountAbove.{count_above}
use Rattle.pim_emit.proofs.ListedAbove.{answered}
use Rattle.pim_emit.proofs.AskedSources.{asked_as_seen}
use Rattle.pim_emit.proofs.AskedExceptions.{stars_inside, first_of_stars, some_port_has_star, on_first, of_first, rpts_inside, no_exception_left, unwanted_next, wanted_passed, fewer_rpts}
use Rattle.pim_emit.proofs.demand.UpstreamDemand.next_exception.Goals as goal

pub returns-in_err-port-clause-exception : goal.returns-in_err-port-clause-exception
returns-in_err-port-clause-exception g c =
    let family = g.F.Family.family in
    let bytes_of = g.F.Family.bytes_of in
    let table = c.self.inside.routes.now in
    let upstream = bytes_of c.self.inside.upstream in
    let state = c.self.inside.ports in
    let form = c.args.self.now.form in
    let group = bytes_of c.args.group in
    let stars = stars_inside c.args.self.now.machines state group c.args.stars.now (ap (λ (s : DemandSeen). s.machines) c.self.view_is) c.requires.stars in
    absurd (some_port_has_star family table upstream state form
    (asked_as_seen c.form_of_demand_toward.ensures family table upstream state form c.is_sound.ensures (ap (λ (s : DemandSeen). s.form) c.self.view_is))
    group c.requires.group c.args.stars.now.first stars.least c.requires.star c.in_err-port.was)

pub loop-held-init : goal.loop-held-init
loop-held-init g c = record {
  next = refl;
  rpts = rpts_inside c.self.inside.ports c.args.self.now.machines (g.F.Family.bytes_of c.args.group) c.args.stars.now.first c.args.rpts.now (ap (λ (s : DemandSeen). s.machines) c.self.view_is) c.requires.rpts;
}

pub wants_shared-requires : goal.wants_shared-requires
wants_shared-requires g c =
    let bytes_of = g.F.Family.bytes_of in
    let state = c.self.inside.ports in
    let group = bytes_of c.args.group in
    let stars = stars_inside c.args.self.now.machines state group c.args.stars.now (ap (λ (s : DemandSeen). s.machines) c.self.view_is) c.requires.stars in
    record {
      stars = stars;
      first = first_of_stars state group c.args.stars.now (Some c.in_ok-port.port) stars c.in_ok-port.was;
      state = c.in-Some.ensures.state c.in_ok-port.port group
          (on_first state group c.in_ok-port.port c.args.stars.now.first c.loop-held.rpts c.in_ok-port.was c.loop-held.invariant.rpts);
    }

pub returns-then-not-wants_shared-clause-exception : goal.returns-then-not-wants_shared-clause-exception
returns-then-not-wants_shared-clause-exception g c =
    let family = g.F.Family.family in
    let bytes_of = g.F.Family.bytes_of in
    let table = c.self.inside.routes.now in
    let upstream = bytes_of c.self.inside.upstream in
    let state = c.self.inside.ports in
    let form = c.args.self.now.form in
    let group = bytes_of c.args.group in
    let stars = stars_inside c.args.self.now.machines state group c.args.stars.now (ap (λ (s : DemandSeen). s.machines) c.self.view_is) c.requires.stars in
    let first = first_of_stars state group c.args.stars.now (Some c.in_ok-port.port) stars c.in_ok-port.was in
    let mine = on_first state group c.in_ok-port.port c.args.stars.now.first c.loop-held.rpts c.in_ok-port.was c.loop-held.invariant.rpts in
    answered (Some c.loop-held.rpts.bound) (Some c.args.rpts.now.bound) (exceptions_in group form)
    (unwanted_next family table upstream state form
    (asked_as_seen c.form_of_demand_toward.ensures family table upstream state form c.is_sound.ensures (ap (λ (s : DemandSeen). s.form) c.self.view_is))
    group c.requires.group c.keys_are_distinct.ensures c.is_sound.ensures c.requires.star c.in_ok-port.port first.0 first.1
    (Some c.loop-held.rpts.bound) (bytes_of c.in-Some.held.source) (c.in-Some.ensures.least c.in_ok-port.port group mine) c.if-not-wants_shared.ensures) c.loop-held.invariant.next

pub loop-held-smaller : goal.loop-held-smaller
loop-held-smaller g c =
    let family = g.F.Family.family in
    let bytes_of = g.F.Family.bytes_of in
    let table = c.self.inside.routes.now in
    let upstream = bytes_of c.self.inside.upstream in
    let state = c.self.inside.ports in
    let form = c.args.self.now.form in
    let group = bytes_of c.args.group in
    let stars = stars_inside c.args.self.now.machines state group c.args.stars.now (ap (λ (s : DemandSeen). s.machines) c.self.view_is) c.requires.stars in
    let first = first_of_stars state group c.args.stars.now (Some c.in_ok-port.port) stars c.in_ok-port.was in
    let mine = on_first state group c.in_ok-port.port c.args.stars.now.first c.loop-held.rpts c.in_ok-port.was c.loop-held.invariant.rpts in
    let behind = c.in-Some.ensures.bound in
    subst (λ (e : List ℕ). count_above (λ (held : Record (List ℕ)). source_of held.key.what) (Some e) state.records < count_above (λ (held : Record (List ℕ)). source_of held.key.what) (Some c.loop-held.rpts.bound) state.records)
    (sym behind)
    (fewer_rpts family table upstream state form
    (asked_as_seen c.form_of_demand_toward.ensures family table upstream state form c.is_sound.ensures (ap (λ (s : DemandSeen). s.form) c.self.view_is))
    group c.requires.group c.keys_are_distinct.ensures c.is_sound.ensures c.requires.star c.in_ok-port.port first.0 first.1
    (Some c.loop-held.rpts.bound) (bytes_of c.in-Some.held.source) (c.in-Some.ensures.least c.in_ok-port.port group mine))

pub loop-held-preserved : goal.loop-held-preserved
loop-held-preserved g c =
    let family = g.F.Family.family in
    let bytes_of = g.F.Family.bytes_of in
    let table = c.self.inside.routes.now in
    let upstream = bytes_of c.self.inside.upstream in
    let state = c.self.inside.ports in
    let form = c.args.self.now.form in
    let group = bytes_of c.args.group in
    let stars = stars_inside c.args.self.now.machines state group c.args.stars.now (ap (λ (s : DemandSeen). s.machines) c.self.view_is) c.requires.stars in
    let first = first_of_stars state group c.args.stars.now (Some c.in_ok-port.port) stars c.in_ok-port.was in
    let mine = on_first state group c.in_ok-port.port c.args.stars.now.first c.loop-held.rpts c.in_ok-port.was c.loop-held.invariant.rpts in
    record {
      next = ap (λ (e : List ℕ). next_above (Some e) (exceptions_in group form)) c.in-Some.ensures.bound ∙ answered (Some c.loop-held.rpts.bound) (Some c.args.rpts.now.bound) (exceptions_in group form)
          (wanted_passed family table upstream state form
          (asked_as_seen c.form_of_demand_toward.ensures family table upstream state form c.is_sound.ensures (ap (λ (s : DemandSeen). s.form) c.self.view_is))
          group c.requires.group c.keys_are_distinct.ensures c.is_sound.ensures c.requires.star c.in_ok-port.port first.0 first.1
          (Some c.loop-held.rpts.bound) (bytes_of c.in-Some.held.source) (c.in-Some.ensures.least c.in_ok-port.port group mine) c.if-not-wants_shared.ensures) c.loop-held.invariant.next;
      rpts = of_first state group c.in_ok-port.port c.args.stars.now.first c.next_rpt.new.rpts c.in_ok-port.was (c.in-Some.ensures.left c.in_ok-port.port group mine);
    }

pub returns-clause-exception : goal.returns-clause-exception
returns-clause-exception g c =
    let family = g.F.Family.family in
    let bytes_of = g.F.Family.bytes_of in
    let table = c.self.inside.routes.now in
    let upstream = bytes_of c.self.inside.upstream in
    let state = c.self.inside.ports in
    let form = c.args.self.now.form in
    let group = bytes_of c.args.group in
    let stars = stars_inside c.args.self.now.machines state group c.args.stars.now (ap (λ (s : DemandSeen). s.machines) c.self.view_is) c.requires.stars in
    let first = first_of_stars state group c.args.stars.now (Some c.in_ok-port.port) stars c.in_ok-port.was in
    let mine = on_first state group c.in_ok-port.port c.args.stars.now.first c.loop-held.rpts c.in_ok-port.was c.loop-held.invariant.rpts in
    answered (Some c.loop-held.rpts.bound) (Some c.args.rpts.now.bound) (exceptions_in group form)
    (no_exception_left family table upstream state form
    (asked_as_seen c.form_of_demand_toward.ensures family table upstream state form c.is_sound.ensures (ap (λ (s : DemandSeen). s.form) c.self.view_is))
    group c.requires.group c.keys_are_distinct.ensures c.is_sound.ensures c.requires.star c.in_ok-port.port first.0 first.1
    (Some c.loop-held.rpts.bound) (c.in_default.ensures.least c.in_ok-port.port group mine)) c.loop-held.invariant.next

pub returns-then-not-wants_shared-clause-rpts : goal.returns-then-not-wants_shared-clause-rpts
returns-then-not-wants_shared-clause-rpts g c =
    let state = c.self.inside.ports in
    let group = g.F.Family.bytes_of c.args.group in
    let mine = on_first state group c.in_ok-port.port c.args.stars.now.first c.loop-held.rpts c.in_ok-port.was c.loop-held.invariant.rpts in
    rpts_inside c.args.self.now.machines state group c.args.stars.now.first c.next_rpt.new.rpts (sym (ap (λ (s : DemandSeen). s.machines) c.self.view_is))
    (of_first state group c.in_ok-port.port c.args.stars.now.first c.next_rpt.new.rpts c.in_ok-port.was (c.in-Some.ensures.left c.in_ok-port.port group mine))
