-- The families of the addresses of a message.
use Rattle.std.specs.Prelude.{Bool, true, List}
use Rattle.std.specs.List.{list_all}
use Rattle.pim_addr.specs.declared.family.AddressFamily.{AddressFamily}
use Rattle.pim_jp.specs.declared.entry.Entry.{Entry}
use Rattle.pim_jp.specs.declared.entry.Entry.TheVariants.{Star, Source, Rpt}
use Rattle.pim_lines.specs.declared.either.AnyAddress.{AnyAddress}
use Rattle.pim_lines.specs.AnyAddress.{is_in}
use Rattle.pim_text.specs.declared.line.Line.{Line}
use Rattle.pim_text.specs.declared.line.Line.TheVariants.{Secondary, Head, Set, Join, Prune}
use Rattle.pim_text.specs.Value.{TextValue, value_lines}

-- The address of the entry is of this family.
abbrev pub entry_is_in : AddressFamily → Entry AnyAddress → Bool
entry_is_in family (Star rp) = is_in family rp
entry_is_in family (Source source) = is_in family source
entry_is_in family (Rpt source) = is_in family source

-- The address of the line, if it has one, is of this family.
abbrev pub line_is_in : AddressFamily → Line → Bool
line_is_in family (Secondary address) = is_in family address
line_is_in family (Head h) = is_in family h.upstream
line_is_in family (Set s) = is_in family s.group
line_is_in family (Join entry) = entry_is_in family entry
line_is_in family (Prune entry) = entry_is_in family entry
line_is_in family line = true

-- Each address of these lines is of this family.
abbrev pub all_in : AddressFamily → List Line → Bool
all_in family lines = list_all (line_is_in family) lines

-- Each address of the message is of this family.
abbrev pub value_is_in : AddressFamily → TextValue → Bool
value_is_in family value = all_in family (value_lines value)
