use Rattle.pim_text.proofs.Words.{◌∙◌, sym, ap, ◌++◌, List, ℕ, append-nil, arith}
use Rattle.pim_jp.specs.Message.{set_of}
use Rattle.pim_text.proofs.Fronts.{set_cut, set_written}
use Rattle.pim_text.proofs.partial_lines.push_set.Goals as goal

pub returns-then-bytes-size-clause-text : goal.returns-then-bytes-size-clause-text
returns-then-bytes-size-clause-text g c =
    let start = c.args.text.now.items in
    let none = set_cut g.F.Family.family (set_of g.F.Family.family c.args.bytes.now) c.args.bytes.now (omega (arith, c.if-bytes-size.true, c.group_length-size.ensures)) in
    sym (append-nil start) ∙ ap (λ (l : List ℕ). start ++ l) (sym none)

pub returns-clause-text : goal.returns-clause-text
returns-clause-text g c =
    set_written g.F.Family.family c.args.bytes.now c.args.text.now.items c.push_counts_line.new.text.items c.push_list.new.text.items c.push_list-2.new.text.items
    (g.F.Family.bytes_of c.take.result) c.split_at-2.result.1.now c.split_at-3.result.1.now c.split_at-4.result.1.now c.in_ok-pruned.pruned.now
    c.read_u16-joined_count.result c.read_u16-pruned_count.result
    (omega (arith, c.if-bytes-size.false, c.group_length-size.ensures))
    (rw c.split_at.ensures.back at c.take.ensures.bytes) (rw c.group_length-size.ensures at c.split_at-2.ensures.back) c.split_at-3.ensures.back c.split_at-4.ensures.back
    c.read_u16-joined_count.ensures c.read_u16-pruned_count.ensures c.in_ok-pruned.ensures.after
    c.in_ok-push_counts_line.ensures c.in_ok-pruned.ensures.text c.in_ok-after.ensures.text
