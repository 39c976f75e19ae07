use Rattle.pim_form.proofs.Words.{◌≡◌, ◌+◌, length, map, drop, AllByRecursion, IsFitting, runs_size, AreEnds, parts_from, run_of}
use Rattle.pim_form.proofs.packing.total_length.Given as goal

-- the bytes counted and those of the messages that are left are all
abbrev pub invariant-loop-end : goal.invariant-loop-end
invariant-loop-end g l = record {
  ends : AreEnds l.start (length l.plan.pieces.items) (drop l.end-index l.plan.ends.items);
  parts : AllByRecursion (IsFitting g.F.Family.bytes_of g.F.Family.family l.writer.budget l.row) (parts_from l.start (drop l.end-index l.plan.ends.items) l.plan.pieces.items);
  counted : l.total + runs_size g.F.Family.family (map (run_of g.F.Family.bytes_of l.row) (parts_from l.start (drop l.end-index l.plan.ends.items) l.plan.pieces.items))
      ≡ runs_size g.F.Family.family (map (run_of g.F.Family.bytes_of l.row) (parts_from 0 l.plan.ends.items l.plan.pieces.items));
}
