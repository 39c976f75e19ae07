-- Which writers there are, and why others are refused.
use Rattle.std.specs.Prelude.{Bool, ◌||◌, not, List, ◌++◌, nat_lt}
use Rattle.pim_addr.specs.declared.family.AddressFamily.{AddressFamily}
use Rattle.pim_addr.specs.Address.{is_source}
use Rattle.pim_addr.specs.Faults.{fault_if}
use Rattle.pim_form.specs.declared.writer.WriterFault.{WriterFault}
use Rattle.pim_form.specs.declared.writer.WriterFault.TheVariants.{Address, Holdtime, Budget}
use Rattle.pim_form.specs.NormalForm.{same_address}
use Rattle.pim_form.specs.Messages.{Writing}

-- An address isn't a valid source, or both are the same.
abbrev pub has_bad_address : AddressFamily → Writing → Bool
has_bad_address family writing =
    not (is_source family writing.upstream) || not (is_source family writing.own)
    || same_address writing.own writing.upstream

-- The faults, in the order of their report. The holdtime must exceed the longest
-- J/P_Override_Interval(I), 98,302 ms. The budget must hold an IPv6 message with one star and stay
-- below the size of an IP packet.
abbrev pub writer_faults : AddressFamily → Writing → List WriterFault
writer_faults family writing =
    fault_if (has_bad_address family writing) Address
    ++ fault_if (nat_lt writing.holdtime 99) Holdtime
    ++ fault_if (nat_lt writing.budget 70 || nat_lt 65000 writing.budget) Budget
