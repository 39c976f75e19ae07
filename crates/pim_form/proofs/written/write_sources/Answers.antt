use Rattle.pim_form.proofs.Words.{arith, source_length, canonical_source_entry}
use Rattle.pim_form.proofs.EntriesWritten.{items_written}
use Rattle.pim_form.proofs.written.write_sources.Goals as goal

pub returns : goal.returns
returns g c =
    items_written (canonical_source_entry g.F.Family.family) g.F.Family.bytes_of c.args.sources.now c.loop-index.index (source_length g.F.Family.family)
    c.args.bytes.now c.loop-index.bytes (omega arith) c.loop-index.invariant.long c.requires c.loop-index.invariant.written
