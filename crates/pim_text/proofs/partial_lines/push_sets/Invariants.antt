use Rattle.pim_text.proofs.Words.{◌≡◌, ◌-◌, ◌++◌, length}
use Rattle.pim_jp.specs.Message.{sets_of}
use Rattle.pim_text.specs.PartialText.{lines_by, placed_sets}
use Rattle.pim_text.proofs.partial_lines.push_sets.Given as goal

-- what is there, with the lines of the sets that are left, is all
abbrev pub invariant-loop : goal.invariant-loop
invariant-loop g l =
    l.text.items ++ lines_by (length l.left) (placed_sets g.F.Family.family 0 (sets_of g.F.Family.family (l.fn.count - l.counter) l.left))
    ≡ l.fn.text.items ++ lines_by (length l.fn.bytes) (placed_sets g.F.Family.family 0 (sets_of g.F.Family.family l.fn.count l.fn.bytes))
