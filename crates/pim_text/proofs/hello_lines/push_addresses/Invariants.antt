use Rattle.pim_text.proofs.Words.{◌≡◌, ◌++◌, flat_map, addresses_seen, address_line}
use Rattle.pim_text.proofs.hello_lines.push_addresses.Given as goal

-- what is there, with the lines of the addresses that are left, is all
abbrev pub invariant-loop-address : goal.invariant-loop-address
invariant-loop-address g l =
    l.text.items ++ flat_map (address_line g.F.Family.family) (addresses_seen g.F.Family.family l.address-iterator)
    ≡ l.fn.text.items ++ flat_map (address_line g.F.Family.family) (addresses_seen g.F.Family.family l.fn.addresses)
