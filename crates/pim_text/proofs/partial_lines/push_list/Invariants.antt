use Rattle.pim_text.proofs.Words.{◌≡◌, ◌*◌, ◌-◌, ◌++◌, length, drop, source_length}
use Rattle.pim_jp.specs.Message.{entries_of}
use Rattle.pim_text.specs.PartialText.{lines_by, placed_entries}
use Rattle.pim_text.proofs.partial_lines.push_list.Given as goal

-- what is there, with the lines of the entries that are left, is all
abbrev pub invariant-loop : goal.invariant-loop
invariant-loop g l =
    record {
      text : l.text.items ++ lines_by (length l.left) (placed_entries g.F.Family.family l.list 0 (entries_of g.F.Family.family (l.fn.count - l.counter) l.left))
          ≡ l.fn.text.items ++ lines_by (length l.fn.bytes) (placed_entries g.F.Family.family l.list 0 (entries_of g.F.Family.family l.fn.count l.fn.bytes));
      place : l.left ≡ drop (l.counter * source_length g.F.Family.family) l.fn.bytes;
    }
