use Rattle.std.proofs.Common.{sym, arith}
use Rattle.pim_addr.proofs.Pieces.{Wrote-more, Wrote-is, length-separator-le, groups_more}
use Rattle.pim_addr.proofs.text.write_groups.Goals as goal

pub loop-index-preserved : goal.loop-index-preserved
loop-index-preserved c = record {
  written = Wrote-is (sym (groups_more c.args.bytes.now c.loop-index.index (omega arith)))
      (Wrote-more (Wrote-more (Wrote-more c.loop-index.invariant.written c.write_separator-end.ensures) c.write_hex_pair-end.ensures)
      c.write_hex_pair-end-in-loop-index.ensures);
  short = omega (arith, length-separator-le 58 c.loop-index.index);
}
