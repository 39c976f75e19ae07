use Rattle.pim_down.proofs.Words.{subst, Downstream, IsNextDue}
use Rattle.pim_down.proofs.Jumps.{next_is}
use Rattle.pim_down.proofs.ports.Ports.next_due.Goals as goal

pub returns : goal.returns
returns g c =
    let p = c.self.inside in
    subst (λ (s : Downstream). IsNextDue s c.next_end.result) c.self.view_is (next_is g.F.Family.bytes_of p.ports p.limit p.moment p.records.items c.next_end.result c.next_end.ensures c.self.invariant.1)
