use Rattle.pim_report.proofs.Words.{List, ℕ, refl, subst, rules, flat_map, AppendsAll, record_line, moment_line}
use Rattle.pim_report.proofs.States.{machines_are}
use Rattle.pim_report.proofs.Written.{both, stopped_first}
use Rattle.pim_report.proofs.state_text.write_machines.Goals as goal

pub returns-in_err-write_moment-clause-bytes : goal.returns-in_err-write_moment-clause-bytes
returns-in_err-write_moment-clause-bytes g c =
    let lines = flat_map (record_line g.F.Family.family) c.args.machines.now.records in
    subst (λ (text : List ℕ). AppendsAll (g.W.Drain.contents c.args.writer.now) (g.W.Drain.contents c.write_moment.new.writer) c.from_residual.result text)
    (machines_are g.F.Family.family c.args.machines.now c.now.result c.args.machines.now.records c.now.ensures refl)
    (stopped_first _ _ c.from_residual.result (moment_line c.now.result) lines c.from_residual.ensures.0 c.in_err-write_moment.ensures.bytes)

pub returns-clause-bytes : goal.returns-clause-bytes
returns-clause-bytes g c =
    subst (λ (text : List ℕ). AppendsAll (g.W.Drain.contents c.args.writer.now) (g.W.Drain.contents c.write_records.new.writer) c.write_records.result text)
    (machines_are g.F.Family.family c.args.machines.now c.now.result c.records.result c.now.ensures (search rules))
    (both _ _ _ c.write_records.result (moment_line c.now.result) (flat_map (record_line g.F.Family.family) c.records.result) c.in_ok-write_moment.ensures.bytes c.write_records.ensures.bytes)
