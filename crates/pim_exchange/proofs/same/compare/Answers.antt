use Rattle.pim_exchange.proofs.Words.{subst, Appends, AppendsFront}
use Rattle.pim_exchange.proofs.same.compare.Goals as goal

pub returns-in_default-clause-compares : goal.returns-in_default-clause-compares
returns-in_default-clause-compares g c = record {
  same = c.in-Ok.same;
  is_so = c.in-Ok.ensures.wants;
  written = subst (λ l. AppendsFront (g.W.Drain.contents c.args.writer.now) (g.W.Drain.contents c.write_all.new.drain) l) c.same_line.ensures c.in_default.ensures.bytes;
}

pub returns-clause-compares : goal.returns-clause-compares
returns-clause-compares g c = record {
  same = c.in-Ok.same;
  is_so = c.in-Ok.ensures.wants;
  written = (c.answer_status.ensures, subst (λ l. Appends (g.W.Drain.contents c.args.writer.now) (g.W.Drain.contents c.write_all.new.drain) l) c.same_line.ensures c.in-Ok-write_all.ensures.bytes);
}
