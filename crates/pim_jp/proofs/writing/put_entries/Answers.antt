use Rattle.pim_jp.proofs.Words.{arith, source_length, canonical_entry, entry_seen}
use Rattle.pim_jp.proofs.EntryPlaces.{items_written}
use Rattle.pim_jp.proofs.writing.put_entries.Goals as goal

pub returns : goal.returns
returns g c =
    items_written (canonical_entry g.F.Family.family) (entry_seen g.F.Family.bytes_of) c.args.entries.now c.loop-index.index (source_length g.F.Family.family)
    c.args.bytes.now c.loop-index.bytes (omega arith) c.loop-index.invariant.long c.requires c.loop-index.invariant.written
