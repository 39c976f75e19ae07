use Rattle.pim_words.proofs.Words.{◌≡◌, drop, has_name}
use Rattle.pim_words.proofs.label.has_name.Given as goal

-- one of the ports that are left has the name exactly where one of all has
abbrev pub invariant-loop-port : goal.invariant-loop-port
invariant-loop-port l = has_name (drop l.port-index l.names) l.name ≡ has_name l.names l.name
