use Rattle.sorted_blocks.proofs.Words.{◌≡◌, ◌-◌, ◌≤◌, ◌++◌, length, take, drop, ap, ◌∙◌, arith, length-append, take_at, spliced}
use Rattle.sorted_blocks.proofs.Splices.{over_end, length-spliced}
use Rattle.sorted_blocks.proofs.block.put_all.Goals as goal

pub returns-clause-items : goal.returns-clause-items
returns-clause-items g c =
    let xs = c.args.items.now.items in
    let run = c.args.run.now in
    let at = c.args.at in
    let longer = c.extend_from_slice.new.self in
    let row = c.put_over.new.row in
    let within : at ≤ length xs = omega (arith, c.requires.within, c.args.items.now.ok.0) in
    let appended : longer.items ≡ xs ++ run = rw c.if-is_err.ensures.negation at c.extend_from_slice.ensures.items in
    let all = c.as_mut_slice.ensures.value ∙ appended in
    let is : row ≡ spliced xs at run = c.put_over.ensures ∙ (λ k. take at (all k) ++ (run ++ take (length (all k) - at - length run) (drop at (all k)))) ∙ over_end xs run at within in
    let long : length row ≡ longer.len = omega (arith, ap length is, length-spliced xs at run within, ap length appended, length-append xs run, longer.ok.0) in
    take_at row (drop (length row) longer.items) longer.len long ∙ is
