use Rattle.pim_commands.proofs.Words.{◌≡◌, ◌++◌, drop, names_of}
use Rattle.pim_commands.proofs.tracing.names_of.Given as goal

abbrev pub invariant-loop-port : goal.invariant-loop-port
invariant-loop-port l = l.names.items ++ names_of l.port (drop l.port l.given) ≡ names_of 0 l.given
