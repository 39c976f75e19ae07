use Rattle.pim_form.proofs.Words.{◌≡◌, ◌*◌, length, take, flat_map, source_length, canonical_source_entry}
use Rattle.pim_form.proofs.written.write_sources.Given as goal

abbrev pub invariant-loop-index : goal.invariant-loop-index
invariant-loop-index g l = record {
  long : length l.bytes ≡ length l.initial.bytes;
  written : take (l.index * source_length g.F.Family.family) l.bytes ≡ flat_map (λ address. canonical_source_entry g.F.Family.family (g.F.Family.bytes_of address)) (take l.index l.sources);
}
