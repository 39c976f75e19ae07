use Rattle.pim_form.proofs.Words.{subst, IfOk-weaker, IsFormOf, wants_from}
use Rattle.pim_form.proofs.AllPorts.{all_ports}
use Rattle.pim_form.proofs.form.NormalForm.of.Goals as goal

pub returns : goal.returns
returns g c =
    IfOk-weaker c.form_from.result _ _ (λ form is. all_ports g.F.Family.family c.args.ports.now form
    (subst (λ count. IsFormOf g.F.Family.family (wants_from 0 count c.args.ports.now) form) c.port_count.ensures is)) c.form_from.ensures
