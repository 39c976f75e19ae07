use Rattle.pim_emit.proofs.Words.{◌∙◌, ap, subst, refl, sym, Some, option_map, true, false, arith, Downstream}
use Rattle.pim_emit.proofs.Words.{DemandSeen, sources_in, AreNext}
use Rattle.pim_emit.proofs.ListedAbove.{answered}
use Rattle.pim_emit.proofs.AskedSources.{asked_as_seen, no_source_left, reached_next, unreached_passed, fewer_sources, is_via}
use Rattle.pim_emit.proofs.demand.UpstreamDemand.next_ahead.Goals as goal

pub loop-source-init : goal.loop-source-init
loop-source-init g c =
    let bytes_of = g.F.Family.bytes_of in
    record {
      source = refl;
      next = λ places.
          subst (λ (d : Downstream). AreNext d (bytes_of c.args.group) (option_map bytes_of c.args.bound) c.args.nexts.now)
          (sym (ap (λ (s : DemandSeen). s.machines) c.self.view_is))
          (c.requires.next (omega (arith, places, ap (λ (s : DemandSeen). s.machines.ports) c.self.view_is)));
      long = refl;
    }

pub returns-then-is_neighbour-clause-source : goal.returns-then-is_neighbour-clause-source
returns-then-is_neighbour-clause-source g c =
    let family = g.F.Family.family in
    let bytes_of = g.F.Family.bytes_of in
    let table = c.self.inside.routes.now in
    let upstream = bytes_of c.self.inside.upstream in
    let state = c.self.inside.ports in
    let form = c.args.self.now.form in
    let group = bytes_of c.args.group in
    let bound = option_map bytes_of c.loop-source.bound in
    let source = bytes_of c.in-Some.source in
    answered bound (option_map bytes_of c.args.bound) (sources_in group form)
    (reached_next c.keys_are_distinct.ensures family table upstream state c.is_sound.ensures form
    (asked_as_seen c.form_of_demand_toward.ensures family table upstream state form c.is_sound.ensures (ap (λ (s : DemandSeen). s.form) c.self.view_is))
    group c.requires.group bound source c.in-Some.ensures.least
    (is_via family table upstream source (option_map bytes_of c.via.result) c.is_neighbour.result true c.via.ensures c.is_neighbour.ensures c.if-is_neighbour.true)) c.loop-source.invariant.source

pub returns-then-is_neighbour-clause-next : goal.returns-then-is_neighbour-clause-next
returns-then-is_neighbour-clause-next g c =
    let bytes_of = g.F.Family.bytes_of in
    λ places.
    subst (λ (d : Downstream). AreNext d (bytes_of c.args.group) (Some (bytes_of c.in-Some.source)) c.take_next.new.nexts)
    (ap (λ (s : DemandSeen). s.machines) c.self.view_is)
    (c.in-Some.ensures.next (omega (arith, places, c.loop-source.invariant.long, ap (λ (s : DemandSeen). s.machines.ports) c.self.view_is)))

pub loop-source-smaller : goal.loop-source-smaller
loop-source-smaller g c =
    let family = g.F.Family.family in
    let bytes_of = g.F.Family.bytes_of in
    let table = c.self.inside.routes.now in
    let upstream = bytes_of c.self.inside.upstream in
    let state = c.self.inside.ports in
    let form = c.args.self.now.form in
    let group = bytes_of c.args.group in
    let bound = option_map bytes_of c.loop-source.bound in
    fewer_sources c.keys_are_distinct.ensures family table upstream state c.is_sound.ensures form
    (asked_as_seen c.form_of_demand_toward.ensures family table upstream state form c.is_sound.ensures (ap (λ (s : DemandSeen). s.form) c.self.view_is))
    group c.requires.group bound (bytes_of c.in-Some.source) c.in-Some.ensures.least

pub loop-source-preserved : goal.loop-source-preserved
loop-source-preserved g c =
    let family = g.F.Family.family in
    let bytes_of = g.F.Family.bytes_of in
    let table = c.self.inside.routes.now in
    let upstream = bytes_of c.self.inside.upstream in
    let state = c.self.inside.ports in
    let form = c.args.self.now.form in
    let group = bytes_of c.args.group in
    let bound = option_map bytes_of c.loop-source.bound in
    let source = bytes_of c.in-Some.source in
    record {
      source = answered bound (option_map bytes_of c.args.bound) (sources_in group form)
          (unreached_passed c.keys_are_distinct.ensures family table upstream state c.is_sound.ensures form
          (asked_as_seen c.form_of_demand_toward.ensures family table upstream state form c.is_sound.ensures (ap (λ (s : DemandSeen). s.form) c.self.view_is))
          group c.requires.group bound source c.in-Some.ensures.least
          (is_via family table upstream source (option_map bytes_of c.via.result) c.is_neighbour.result false c.via.ensures c.is_neighbour.ensures c.if-is_neighbour.false)) c.loop-source.invariant.source;
      next = λ places. c.in-Some.ensures.next (omega (arith, places, c.take_next.ensures.length));
      long = c.take_next.ensures.length ∙ c.loop-source.invariant.long;
    }

pub returns-clause-source : goal.returns-clause-source
returns-clause-source g c =
    let family = g.F.Family.family in
    let bytes_of = g.F.Family.bytes_of in
    let table = c.self.inside.routes.now in
    let upstream = bytes_of c.self.inside.upstream in
    let state = c.self.inside.ports in
    let form = c.args.self.now.form in
    let group = bytes_of c.args.group in
    let bound = option_map bytes_of c.loop-source.bound in
    answered bound (option_map bytes_of c.args.bound) (sources_in group form)
    (no_source_left c.keys_are_distinct.ensures family table upstream state c.is_sound.ensures form
    (asked_as_seen c.form_of_demand_toward.ensures family table upstream state form c.is_sound.ensures (ap (λ (s : DemandSeen). s.form) c.self.view_is))
    group c.requires.group bound c.in_default.ensures.least) c.loop-source.invariant.source
