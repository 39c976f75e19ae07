use Rattle.pim_words.proofs.Words.{◌≡◌, ◌++◌, drop, with_links}
use Rattle.pim_words.proofs.links.linked.Given as goal

abbrev pub invariant-loop-number : goal.invariant-loop-number
invariant-loop-number l = l.made.items ++ with_links l.links l.number (drop l.number l.ports) ≡ with_links l.links 0 l.ports
