use Rattle.pim_text.proofs.Words.{◌∙◌, sym, ap, ◌++◌, List, ℕ, append-nil, arith, refl}
use Rattle.pim_text.proofs.Fronts.{front_cut, front_written}
use Rattle.pim_text.proofs.partial_lines.push_message.Goals as goal

pub returns-then-front-head_length : goal.returns-then-front-head_length
returns-then-front-head_length g c =
    let start = c.args.text.now.items in
    let none = front_cut g.F.Family.family c.args.front.now (omega (arith, c.if-front-head_length.true, c.head_length.ensures)) in
    sym (append-nil start) ∙ ap (λ (l : List ℕ). start ++ l) (sym none)

pub returns : goal.returns
returns g c =
    front_written g.F.Family.family c.args.front.now c.args.text.now.items c.push_head_line.new.text.items c.push_sets.new.text.items
    (g.F.Family.bytes_of c.take.result) c.split_at-2.result.1.now c.split_at-4.result.1.now c.read_u16.result _
    (omega (arith, c.if-front-head_length.false, c.head_length.ensures))
    (rw c.split_at.ensures.back at c.take.ensures.bytes) (rw c.unicast_length.ensures at c.split_at-2.ensures.back)
    (rw c.split_at-3.ensures.back at c.read_u16.ensures) refl c.split_at-4.ensures.back
    c.in_ok-push_head_line.ensures c.in_ok-push_sets.ensures
