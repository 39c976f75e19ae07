-- The route table that the options of a command give.
use Rattle.std.specs.Prelude.{ℕ, List, Option, Some, None}
use Rattle.pim_addr.specs.RouteLaws.{all_addresses, all_groups}
use Rattle.pim_addr.specs.Routes.{RouteTable, no_routes, with_rp, with_via}
use Rattle.pim_addr.specs.declared.family.AddressFamily.{AddressFamily}

-- The table with one row that maps all groups to the RP, if one is given.
abbrev pub with_given_rp : AddressFamily → Option (List ℕ) → RouteTable → RouteTable
with_given_rp family None table = table
with_given_rp family (Some rp) table = with_rp (all_groups family) rp table

-- The table with one row that leads all addresses to the upstream neighbour, if one is given.
abbrev pub with_given_via : AddressFamily → Option (List ℕ) → RouteTable → RouteTable
with_given_via family None table = table
with_given_via family (Some upstream) table = with_via (all_addresses family) upstream table

-- The table of the two rows.
abbrev pub given_table : AddressFamily → Option (List ℕ) → Option (List ℕ) → RouteTable
given_table family rp upstream = with_given_via family upstream (with_given_rp family rp no_routes)
