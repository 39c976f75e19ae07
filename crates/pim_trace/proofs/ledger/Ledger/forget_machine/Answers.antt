use Rattle.pim_trace.proofs.Words.{refl, None, ledger_seen}
use Rattle.pim_trace.proofs.Maps.{causes_put}
use Rattle.pim_trace.proofs.ledger.Ledger.forget_machine.Goals as goal

pub returns : goal.returns
returns g c = λ i. record (ledger_seen g.F.Family.bytes_of c.args.self.now) {
  causes = causes_put g.F.Family.bytes_of c.args.self.now.causes.items c.remove.new.self.items c.args.key.now None None refl c.remove.ensures i;
}
