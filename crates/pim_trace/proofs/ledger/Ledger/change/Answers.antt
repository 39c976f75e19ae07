use Rattle.pim_trace.proofs.Words.{◌∙◌, None, Some, sym, ap, cause_seen, key_seen, ledger_seen, caused, causes_of}
use Rattle.pim_trace.proofs.Maps.{causes_put}
use Rattle.pim_trace.proofs.ledger.Ledger.change.Goals as goal

pub returns-in_default-clause-changed : goal.returns-in_default-clause-changed
returns-in_default-clause-changed g c = λ i. record (ledger_seen g.F.Family.bytes_of c.args.self.now) {
  causes = causes_put g.F.Family.bytes_of c.args.self.now.causes.items c.remove.new.self.items c.args.change.now.key None
      (caused (cause_seen g.F.Family.bytes_of c.args.packet) (causes_of (key_seen g.F.Family.bytes_of c.args.change.now.key) (ledger_seen g.F.Family.bytes_of c.args.self.now))
      c.args.change.now.before c.args.change.now.after)
      (sym (ap (λ m. caused (cause_seen g.F.Family.bytes_of c.args.packet) (causes_of (key_seen g.F.Family.bytes_of c.args.change.now.key) (ledger_seen g.F.Family.bytes_of c.args.self.now))
      c.args.change.now.before m) c.in_default.is))
      c.remove.ensures i;
}

pub returns-clause-changed : goal.returns-clause-changed
returns-clause-changed g c = λ i. record (ledger_seen g.F.Family.bytes_of c.args.self.now) {
  causes = causes_put g.F.Family.bytes_of c.args.self.now.causes.items c.put.new.self.items c.args.change.now.key (Some c.caused-causes.result)
      (caused (cause_seen g.F.Family.bytes_of c.args.packet) (causes_of (key_seen g.F.Family.bytes_of c.args.change.now.key) (ledger_seen g.F.Family.bytes_of c.args.self.now))
      c.args.change.now.before c.args.change.now.after)
      (c.caused-causes.ensures
      ∙ sym (ap (λ m. caused (cause_seen g.F.Family.bytes_of c.args.packet) (causes_of (key_seen g.F.Family.bytes_of c.args.change.now.key) (ledger_seen g.F.Family.bytes_of c.args.self.now))
      c.args.change.now.before m) c.in-Some.is))
      c.in_ok-put.ensures.put i;
}
