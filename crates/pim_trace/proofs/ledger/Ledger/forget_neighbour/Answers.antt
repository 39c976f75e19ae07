use Rattle.pim_trace.proofs.Words.{◌∙◌, None, ap, sym, ledger_seen, sent_or_none, unwrap_or}
use Rattle.pim_capture.specs.declared.incomplete.RecordPlace.{RecordPlace}
use Rattle.pim_trace.specs.declared.ledger.Sent.{Sent}
use Rattle.pim_trace.proofs.Maps.{hello_found, hello_put}
use Rattle.pim_trace.proofs.ledger.Ledger.forget_neighbour.Goals as goal

pub returns-clause-ledger : goal.returns-clause-ledger
returns-clause-ledger g c = λ i. record (ledger_seen g.F.Family.bytes_of c.args.self.now) {
  hellos = hello_put g.F.Family.bytes_of g.F.Family.address_of g.met.F.Family.put_of_take g.F.Addr.Ord.cmp g.met.F.Family.order_of_bytes
      c.args.self.now.hellos.entries c.remove.new.self.entries c.args.port c.args.address None c.remove.ensures.updates.0 i;
}

-- a Hello in this record
abbrev sent_in : RecordPlace → Sent
sent_in place = record { frame = place; ms = 0 }

pub returns-clause-sent : goal.returns-clause-sent
returns-clause-sent g c = c.unwrap_or.ensures ∙ ap (λ (it : RecordPlace). unwrap_or c.remove.result (sent_in it)) c.no_place.ensures ∙ ap sent_or_none (c.remove.ensures.value
    ∙ sym (hello_found g.F.Family.bytes_of g.F.Family.address_of g.met.F.Family.put_of_take g.F.Addr.Ord.cmp g.met.F.Family.order_of_bytes
    c.args.self.now.hellos.entries c.args.port c.args.address))
