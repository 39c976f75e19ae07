use Rattle.pim_commands.proofs.Words.{◌≡◌, ◌++◌, drop, map, is_in, config_of}
use Rattle.std.specs.List.{filter}
use Rattle.pim_commands.proofs.routers.configs.Given as goal

-- what is there, with what the ports that are left give, is all
abbrev pub invariant-loop-port : goal.invariant-loop-port
invariant-loop-port g l = l.configs.items ++ map config_of (filter (is_in l.side) (drop l.port-index l.ports)) ≡ map config_of (filter (is_in l.side) l.ports)
