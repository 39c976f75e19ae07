use Rattle.std.specs.Prelude.{codes, decimal}
use Rattle.pim_addr.specs.Text.{address_text}
use Rattle.pim_text.proofs.Lines.{line_of_three}
use Rattle.pim_text.proofs.join_prune_lines.push_head_line.Goals as goal

pub returns : goal.returns
returns g c =
    rw (← c.from.ensures, ← c.from-2.ensures)
    (line_of_three c.args.text.now.items c.push_address.new.text.items c.push_number.new.text.items c.push_number-2.new.text.items c.extend_from_slice.new.self.items
    (codes "join/prune upstream ") (address_text g.F.Family.family (g.F.Family.bytes_of c.args.upstream)) (codes " holdtime ") (decimal c.from.result) (codes " sets ") (decimal c.from-2.result)
    c.in_ok-push_address.ensures c.in_ok-push_number.ensures c.in_ok-push_number-2.ensures c.in_ok-extend_from_slice.ensures.items)
