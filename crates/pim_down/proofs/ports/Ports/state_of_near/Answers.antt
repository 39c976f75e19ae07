use Rattle.pim_down.proofs.Words.{ap, sym, subst, ◌∙◌, Some, None, Downstream, state_of_machine, IsSound, timed_seen, machine_seen, key_seen, records_seen}
use Rattle.pim_down.proofs.Kept.{ascending_back, state_seen}
use Rattle.pim_down.proofs.Real.{none_on}
use Rattle.pim_down.proofs.ports.Ports.state_of_near.Goals as goal

pub machine_near-machine-requires : goal.machine_near-machine-requires
machine_near-machine-requires g c = (ascending_back c.self.inside.moment (records_seen g.F.Family.bytes_of c.self.inside.records.items) c.self.invariant.0.ascending)

pub returns-in-None-clause-state : goal.returns-in-None-clause-state
returns-in-None-clause-state g c =
    let at = sym (ap machine_seen c.in-None.is) ∙ c.machine_near-machine.ensures in
    state_seen c.self.inside.moment (key_seen g.F.Family.bytes_of (record { port = c.args.port; group = c.args.group; what = c.args.what })) (records_seen g.F.Family.bytes_of c.self.inside.records.items) c.args.self.now None (ap (λ (s : Downstream). s.records) (sym c.self.view_is)) at

pub returns-in-Some-clause-state : goal.returns-in-Some-clause-state
returns-in-Some-clause-state g c =
    let at = sym (ap machine_seen c.in-Some.is) ∙ c.machine_near-machine.ensures in
    state_seen c.self.inside.moment (key_seen g.F.Family.bytes_of (record { port = c.args.port; group = c.args.group; what = c.args.what })) (records_seen g.F.Family.bytes_of c.self.inside.records.items) c.args.self.now (Some (timed_seen c.in-Some.machine)) (ap (λ (s : Downstream). s.records) (sym c.self.view_is)) at

pub returns-in-Some-clause-absent : goal.returns-in-Some-clause-absent
returns-in-Some-clause-absent g c past =
    let key = key_seen g.F.Family.bytes_of (record { port = c.args.port; group = c.args.group; what = c.args.what }) in
    let sound = subst (IsSound g.F.Family.family) c.self.view_is c.self.invariant.0 in
    returns-in-Some-clause-state g c ∙ ap state_of_machine (none_on g.F.Family.family c.args.self.now.ports key past c.args.self.now.records sound.real)
