use Rattle.pim_trace.proofs.Words.{Some, ledger_seen}
use Rattle.pim_trace.proofs.Maps.{hello_put}
use Rattle.pim_trace.proofs.ledger.Ledger.hear_hello.Goals as goal

pub returns-clause-heard : goal.returns-clause-heard
returns-clause-heard g c = λ i. record (ledger_seen g.F.Family.bytes_of c.args.self.now) {
  hellos = hello_put g.F.Family.bytes_of g.F.Family.address_of g.met.F.Family.put_of_take g.F.Addr.Ord.cmp g.met.F.Family.order_of_bytes
      c.args.self.now.hellos.entries c.insert.new.self.entries c.args.port c.args.from (Some c.args.sent) c.in_ok-insert.ensures.updates.0 i;
}
