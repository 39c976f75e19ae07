use Rattle.std.proofs.Common.{drop}
use Rattle.pim_frame.proofs.Seals.{complement_IsSealed}
use Rattle.pim_frame.proofs.frame.seal.Goals as goal

pub returns-clause-sealed : goal.returns-clause-sealed
returns-clause-sealed g c =
    complement_IsSealed g.F.Family.family (g.F.Family.bytes_of c.args.src) (g.F.Family.bytes_of c.args.dst) c.args.message_type c.complement-checksum.result
    (drop 4 c.args.bytes.now) c.put_header.new.bytes c.put_header-2.new.bytes c.put_header.ensures c.put_header-2.ensures
    c.complement-checksum.ensures.whole c.complement-checksum.ensures.sum
