use Rattle.std.specs.Prelude.{codes, decimal}
use Rattle.pim_text.specs.HelloText.{bit}
use Rattle.pim_text.proofs.Lines.{line_of_three}
use Rattle.pim_text.proofs.hello_lines.push_delays_line.Goals as goal

pub returns : goal.returns
returns c =
    rw (← c.from.ensures, ← c.from-2.ensures)
    (line_of_three c.args.text.now.items c.push_bit.new.text.items c.push_number.new.text.items c.push_number-2.new.text.items c.extend_from_slice.new.self.items
    (codes "lan-prune-delay t ") (bit c.args.delays.t) (codes " propagation ") (decimal c.from.result) (codes " override ") (decimal c.from-2.result)
    c.in_ok-push_bit.ensures c.in_ok-push_number.ensures c.in_ok-push_number-2.ensures c.in_ok-extend_from_slice.ensures.items)
