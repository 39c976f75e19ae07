use Rattle.pim_addr.specs.TextForms.{WrittenTextNames}
use Rattle.pim_addr.specs.declared.family.AddressFamily.TheVariants.{Ipv4, Ipv6}
use Rattle.pim_lines.specs.ShortText.{ShortTextNames}
use Rattle.pim_lines.proofs.ShortTexts.{ipv6_named}
use Rattle.pim_lines.proofs.short_text.short_text_names.Goals as goal

short_named : WrittenTextNames → ShortTextNames
short_named law Ipv4 address is_address = law Ipv4 address is_address
short_named law Ipv6 address is_address = ipv6_named address is_address.0 is_address.1

pub returns : goal.returns
returns c = short_named c.written_text_names.ensures
