use Rattle.std.proofs.Common.{rules}
use Rattle.pim_capture.specs.Seen.{ip_seen}
use Rattle.pim_merge.proofs.Contents.{of_other, of_family}
use Rattle.pim_merge.proofs.content.datagram_in.Goals as goal

pub returns-in_default-clause-content : goal.returns-in_default-clause-content
returns-in_default-clause-content g c =
    of_other g.F.Family.bytes_of g.F.Family.family (ip_seen c.args.bytes.now c.args.ip.now) c.ends_of.result
    (c.ends_of.ensures c.args.bytes.now) c.in_default.is

pub returns-clause-content : goal.returns-clause-content
returns-clause-content g c =
    of_family g.F.Family.bytes_of g.F.Family.family (ip_seen c.args.bytes.now c.args.ip.now) c.ends_of.result
    (c.ends_of.ensures c.args.bytes.now) c.in-Some.ends c.payload.result.now (search rules) c.payload.ensures
