use Rattle.pim_jp.proofs.Words.{◌≡◌, ◌*◌, length, take, flat_map, source_length, canonical_entry, entry_seen}
use Rattle.pim_jp.proofs.writing.put_entries.Given as goal

abbrev pub invariant-loop-index : goal.invariant-loop-index
invariant-loop-index g l = record {
  long : length l.bytes ≡ length l.initial.bytes;
  written : take (l.index * source_length g.F.Family.family) l.bytes ≡ flat_map (λ entry. canonical_entry g.F.Family.family (entry_seen g.F.Family.bytes_of entry)) (take l.index l.entries);
}
