use Rattle.pim_form.proofs.Words.{ℕ, List, ◌++◌, length, map, drop, AllByRecursion, rp_of, CarryRuns, IsFitting}
use Rattle.pim_form.proofs.Words.{PartHasRps, AreEnds, parts_from, run_of}
use Rattle.pim_form.proofs.packing.write_plan.Given as goal

-- whatever tells the runs that are left tells all of them behind the messages that are there
abbrev pub invariant-loop-end : goal.invariant-loop-end
invariant-loop-end g l = record {
  ends : AreEnds l.start (length l.plan.pieces.items) (drop l.end-index l.plan.ends.items);
  parts : AllByRecursion (IsFitting g.F.Family.bytes_of g.F.Family.family l.writer.budget l.row) (parts_from l.start (drop l.end-index l.plan.ends.items) l.plan.pieces.items);
  rps : AllByRecursion (PartHasRps g.F.Family.bytes_of g.F.Family.family (rp_of g.F.Family.family l.routes) l.row) (parts_from l.start (drop l.end-index l.plan.ends.items) l.plan.pieces.items);
  reported : (others : List (List ℕ)) → CarryRuns g.F.Family.family l.writer (rp_of g.F.Family.family l.routes) (map (run_of g.F.Family.bytes_of l.row) (parts_from l.start (drop l.end-index l.plan.ends.items) l.plan.pieces.items)) others
      → CarryRuns g.F.Family.family l.writer (rp_of g.F.Family.family l.routes) (map (run_of g.F.Family.bytes_of l.row) (parts_from 0 l.plan.ends.items l.plan.pieces.items)) (l.messages ++ others);
}
