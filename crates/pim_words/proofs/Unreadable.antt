-- Words that aren't read, behind options that are.
use Rattle.pim_words.proofs.Words.{◌≡◌, inr, true, false, List, codes, Option, None, Some, IfSome, Row, Text, first_of}
use Rattle.pim_words.proofs.Words.{AnyAddress, CommandFault, Memory, CommandKind, Replay, Trace, Audit, Same, Mirror, Emit}
use Rattle.pim_words.proofs.Words.{Change, IsRead, are_both_given, has_two_ends, AreRead, ReadsAddressOption}
use Rattle.pim_words.proofs.Words.{IsUnreadable, IsWrongRun, IsWrongRunOf, IsWrongTrace, AreAudited, AreWritten, OrMemory}
use Rattle.pim_words.specs.declared.reading.AddressList.{AddressList}
use Rattle.pim_words.specs.declared.reading.AuditAddresses.{AuditAddresses}
use Rattle.pim_words.specs.Given.{address_texts, has_writer}

wrong_run : (kind : CommandKind) (rows : List Row) (fault : CommandFault) → has_two_ends kind rows ≡ false → AreRead (address_texts kind rows) → OrMemory (IsWrongRunOf kind rows) fault
    → IsUnreadable kind rows fault
wrong_run kind rows Memory one read is = tt
wrong_run kind rows fault one read is = inr (one, inr (read, is))

module _ (rows : List Row) (addresses : AddressList) (fault : CommandFault) (one : are_both_given rows ≡ false) (written : AreWritten rows addresses) where
  read : AreRead (address_texts Same rows)
  read = ((addresses.rp, written.rp), ((addresses.upstream, written.upstream), ((addresses.own, written.own), tt)))

  pub of_written : (kind : CommandKind) → has_writer kind ≡ true → OrMemory (IsWrongRun kind rows) fault → IsUnreadable kind rows fault
  of_written Same writes is = wrong_run Same rows fault one read is
  of_written Mirror writes is = wrong_run Mirror rows fault one read is
  of_written Emit writes is = wrong_run Emit rows fault one read is
  of_written Change writes is = wrong_run Change rows fault one read is
  of_written other writes is = absurd cc

-- ---- commands whose RP may lack

named_read : (given : Option Text) (found : Option AnyAddress) → ReadsAddressOption given found → IfSome given IsRead
named_read None found is = tt
named_read (Some text) None is = absurd is
named_read (Some text) (Some address) is = (address, is)

module _ (rows : List Row) (rp : Option AnyAddress) (one : are_both_given rows ≡ false) (named : ReadsAddressOption (first_of (codes "rp") rows) rp) where
  pub of_replay : (fault : CommandFault) → OrMemory (IsWrongRun Replay rows) fault → IsUnreadable Replay rows fault
  of_replay fault is = wrong_run Replay rows fault one (named_read (first_of (codes "rp") rows) rp named, tt) is

  pub of_trace : (fault : CommandFault) → OrMemory (IsWrongTrace Trace rows) fault → IsUnreadable Trace rows fault
  of_trace fault is = wrong_run Trace rows fault one (named_read (first_of (codes "rp") rows) rp named, tt) is

-- ---- an audit

pub of_audit : (rows : List Row) (addresses : AuditAddresses) → are_both_given rows ≡ false → AreAudited rows addresses → (fault : CommandFault) → OrMemory (IsWrongTrace Audit rows) fault → IsUnreadable Audit rows fault
of_audit rows addresses one audited fault is =
    wrong_run Audit rows fault one ((addresses.upstream, audited.upstream), (named_read (first_of (codes "rp") rows) addresses.rp audited.rp, tt)) is
