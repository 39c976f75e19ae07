use Rattle.pim_audit.proofs.AddedMachine.{touches_pushed, grows_pushed}
use Rattle.pim_audit.proofs.touched.Touched.touch.Goals as goal

pub returns-clause-touches : goal.returns-clause-touches
returns-clause-touches g c =
    touches_pushed g.F.Family.bytes_of c.self.inside.machines.items c.push.new.self.items (record { group = c.args.group; what = c.args.what })
    c.push.result c.is_err-self-inside.result (c.is_err-self-inside.ensures.value, c.push.ensures.items)

pub returns-clause-grows : goal.returns-clause-grows
returns-clause-grows g c =
    grows_pushed g.F.Family.bytes_of c.self.inside.machines.items c.push.new.self.items (record { group = c.args.group; what = c.args.what })
    c.push.result c.is_err-self-inside.result (c.is_err-self-inside.ensures.value, c.push.ensures.items)
    c.args.self.now c.self.inside.is_all c.self.view_is c.if-self.false
