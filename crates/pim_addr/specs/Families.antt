-- Address families: a packet or a form of the other one is not a router's.
use Rattle.std.specs.Prelude.{Bool, true, false}
use Rattle.pim_addr.specs.declared.family.AddressFamily.{AddressFamily}
use Rattle.pim_addr.specs.declared.family.AddressFamily.TheVariants.{Ipv4, Ipv6}

-- Whether two address families are the same.
abbrev pub is_same : AddressFamily → AddressFamily → Bool
is_same Ipv4 Ipv4 = true
is_same Ipv4 Ipv6 = false
is_same Ipv6 Ipv4 = false
is_same Ipv6 Ipv6 = true
