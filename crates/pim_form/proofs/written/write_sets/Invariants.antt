use Rattle.pim_form.proofs.Words.{◌≡◌, ◌+◌, ◌++◌, length, map, take, AllByRecursion, flat_map, rp_of, IsMessageSet}
use Rattle.pim_form.proofs.Words.{canonical_set, canonical_sets_length, HaveRps, written_set}
use Rattle.pim_form.proofs.written.write_sets.Given as goal

-- what is written and the sets of the groups that are left are the sets of all
abbrev pub invariant-loop-group : goal.invariant-loop-group
invariant-loop-group g l = record {
  rps : HaveRps g.F.Family.family (rp_of g.F.Family.family l.routes) l.group-iterator;
  sets : AllByRecursion (IsMessageSet g.F.Family.family) (map (written_set (rp_of g.F.Family.family l.routes)) l.group-iterator);
  room : l.at + canonical_sets_length g.F.Family.family (map (written_set (rp_of g.F.Family.family l.routes)) l.group-iterator) ≡ length l.bytes;
  long : length l.bytes ≡ length l.initial.bytes;
  written : take l.at l.bytes ++ flat_map (canonical_set g.F.Family.family) (map (written_set (rp_of g.F.Family.family l.routes)) l.group-iterator)
      ≡ flat_map (canonical_set g.F.Family.family) (map (written_set (rp_of g.F.Family.family l.routes)) l.fn.groups);
}
