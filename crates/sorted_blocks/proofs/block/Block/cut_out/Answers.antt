use Rattle.sorted_blocks.proofs.Words.{◌+◌, ◌≤◌, length, ap, ◌∙◌, arith, cut, length-drop}
use Rattle.sorted_blocks.proofs.Cuts.{cut_moved, cut_later}
use Rattle.sorted_blocks.proofs.block.Block.cut_out.Goals as goal

pub returns-then-at-len : goal.returns-then-at-len
returns-then-at-len g c =
    let start = c.self.inside.start in
    let xs = c.self.inside.items.items in
    let within : start + (c.args.at + c.args.count) ≤ length xs = omega (arith, c.requires, ap length c.self.view_is, length-drop start xs, c.self.invariant.begins) in
    rw c.copy_within.ensures.items (cut_moved start c.args.at c.args.count xs within ∙ ap (λ ys. cut ys c.args.at c.args.count) c.self.view_is)

pub returns : goal.returns
returns g c =
    let start = c.self.inside.start in
    let xs = c.self.inside.items.items in
    let within : start + (c.args.at + c.args.count) ≤ length xs = omega (arith, c.requires, ap length c.self.view_is, length-drop start xs, c.self.invariant.begins) in
    rw c.cut_out.ensures.items (cut_later start c.args.at c.args.count xs within ∙ ap (λ ys. cut ys c.args.at c.args.count) c.self.view_is)
