use Rattle.pim_addr.specs.Seen.{source_seen}
use Rattle.pim_addr.proofs.Words.{canonical_source, ◌≡◌}
use Rattle.pim_addr.proofs.ReadBack.{source_spelled}
use Rattle.pim_addr.proofs.written.put_source.Goals as goal

pub returns-clause-written : goal.returns-clause-written
returns-clause-written g c = cc

pub returns-clause-spelled : goal.returns-clause-spelled
returns-clause-spelled g c =
    let written : c.put_masked.new.bytes ≡ canonical_source g.F.Family.family (source_seen g.F.Family.bytes_of c.args.source) = cc in
    source_spelled g.F.Family.family (source_seen g.F.Family.bytes_of c.args.source) c.put_masked.new.bytes c.put_masked.ensures.address written
