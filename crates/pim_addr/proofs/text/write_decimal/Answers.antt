use Rattle.pim_addr.proofs.Words.{sym, arith, decimal_digit}
use Rattle.pim_addr.proofs.Pieces.{Wrote-more, Wrote-is, decimal_two, decimal_three}
use Rattle.pim_addr.proofs.text.write_decimal.Goals as goal

pub returns-then-byte-lt10-clause-piece : goal.returns-then-byte-lt10-clause-piece
returns-then-byte-lt10-clause-piece c = Wrote-is (grind (arith, decimal_digit c.args.byte)) c.write_byte.ensures

pub returns-then-byte-lt100-clause-piece : goal.returns-then-byte-lt100-clause-piece
returns-then-byte-lt100-clause-piece c =
    Wrote-is (grind (arith, decimal_two c.args.byte)) (Wrote-more c.write_byte-end.ensures c.write_byte-then-byte-lt100.ensures)

pub returns-clause-piece : goal.returns-clause-piece
returns-clause-piece c =
    Wrote-is (sym (decimal_three c.args.byte (omega arith) (omega arith)))
    (Wrote-more (Wrote-more c.write_byte-end-2.ensures c.write_byte-end-3.ensures) c.write_byte-2.ensures)
