-- The families of the addresses of a command.
use Rattle.std.specs.Prelude.{ℕ, Bool, not, List, codes}
use Rattle.std.specs.List.{list_all}
use Rattle.pim_addr.specs.declared.family.AddressFamily.{AddressFamily}
use Rattle.pim_lines.specs.declared.either.AnyAddress.{AnyAddress}
use Rattle.pim_lines.specs.AnyAddress.{is_in}

-- Some of these addresses isn't of the family.
abbrev pub differ_from : AddressFamily → List AnyAddress → Bool
differ_from family addresses = not (list_all (is_in family) addresses)

-- The words of a command with an address of another family.
abbrev pub family_words : List ℕ
family_words = codes "family"
