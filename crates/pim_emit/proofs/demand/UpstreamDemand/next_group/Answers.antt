use Rattle.pim_emit.proofs.Words.{ap, option_map, groups_of, DemandSeen}
use Rattle.pim_emit.proofs.ListedAbove.{answered}
use Rattle.pim_emit.proofs.AskedSources.{asked_as_seen}
use Rattle.pim_emit.proofs.AskedGroups.{found_group, no_group_left, something_next, nothing_passed, fewer_groups}
use Rattle.pim_emit.proofs.demand.UpstreamDemand.next_group.Goals as goal

pub has_any-requires : goal.has_any-requires
has_any-requires g c =
    let family = g.F.Family.family in
    let bytes_of = g.F.Family.bytes_of in
    let table = c.self.inside.routes.now in
    let upstream = bytes_of c.self.inside.upstream in
    let state = c.self.inside.ports in
    let form = c.args.self.now.form in
    found_group c.keys_are_distinct.ensures family table upstream state c.is_sound.ensures form
    (asked_as_seen c.form_of_demand_toward.ensures family table upstream state form c.is_sound.ensures (ap (λ (s : DemandSeen). s.form) c.self.view_is))
    (option_map bytes_of c.loop-group.bound) (bytes_of c.in-Some.group) c.in-Some.ensures

pub returns-then-has_any : goal.returns-then-has_any
returns-then-has_any g c =
    let family = g.F.Family.family in
    let bytes_of = g.F.Family.bytes_of in
    let table = c.self.inside.routes.now in
    let upstream = bytes_of c.self.inside.upstream in
    let state = c.self.inside.ports in
    let form = c.args.self.now.form in
    answered (option_map bytes_of c.loop-group.bound) (option_map bytes_of c.args.bound) (groups_of form)
    (something_next c.keys_are_distinct.ensures family table upstream state c.is_sound.ensures form
    (asked_as_seen c.form_of_demand_toward.ensures family table upstream state form c.is_sound.ensures (ap (λ (s : DemandSeen). s.form) c.self.view_is))
    (option_map bytes_of c.loop-group.bound) (bytes_of c.in-Some.group) c.has_any.result c.in-Some.ensures c.has_any.ensures c.if-has_any.true) c.loop-group.invariant

pub loop-group-smaller : goal.loop-group-smaller
loop-group-smaller g c =
    let family = g.F.Family.family in
    let bytes_of = g.F.Family.bytes_of in
    let table = c.self.inside.routes.now in
    let upstream = bytes_of c.self.inside.upstream in
    let state = c.self.inside.ports in
    let form = c.args.self.now.form in
    fewer_groups c.keys_are_distinct.ensures family table upstream state c.is_sound.ensures form
    (asked_as_seen c.form_of_demand_toward.ensures family table upstream state form c.is_sound.ensures (ap (λ (s : DemandSeen). s.form) c.self.view_is))
    (option_map bytes_of c.loop-group.bound) (bytes_of c.in-Some.group) c.in-Some.ensures

pub loop-group-preserved : goal.loop-group-preserved
loop-group-preserved g c =
    let family = g.F.Family.family in
    let bytes_of = g.F.Family.bytes_of in
    let table = c.self.inside.routes.now in
    let upstream = bytes_of c.self.inside.upstream in
    let state = c.self.inside.ports in
    let form = c.args.self.now.form in
    answered (option_map bytes_of c.loop-group.bound) (option_map bytes_of c.args.bound) (groups_of form)
    (nothing_passed c.keys_are_distinct.ensures family table upstream state c.is_sound.ensures form
    (asked_as_seen c.form_of_demand_toward.ensures family table upstream state form c.is_sound.ensures (ap (λ (s : DemandSeen). s.form) c.self.view_is))
    (option_map bytes_of c.loop-group.bound) (bytes_of c.in-Some.group) c.has_any.result c.in-Some.ensures c.has_any.ensures c.if-has_any.false) c.loop-group.invariant

pub returns : goal.returns
returns g c =
    let family = g.F.Family.family in
    let bytes_of = g.F.Family.bytes_of in
    let table = c.self.inside.routes.now in
    let upstream = bytes_of c.self.inside.upstream in
    let state = c.self.inside.ports in
    let form = c.args.self.now.form in
    answered (option_map bytes_of c.loop-group.bound) (option_map bytes_of c.args.bound) (groups_of form)
    (no_group_left c.keys_are_distinct.ensures family table upstream state c.is_sound.ensures form
    (asked_as_seen c.form_of_demand_toward.ensures family table upstream state form c.is_sound.ensures (ap (λ (s : DemandSeen). s.form) c.self.view_is))
    (option_map bytes_of c.loop-group.bound) c.in_default.ensures) c.loop-group.invariant
