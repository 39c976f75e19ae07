use Rattle.pim_text.proofs.Words.{map, parameters_seen}
use Rattle.pim_text.proofs.WrittenHello.{Gathering}
use Rattle.pim_text.proofs.spelling_hello.spell_hello.Given as goal

-- the lines before those that are left were gathered
abbrev pub invariant-loop-line : goal.invariant-loop-line
invariant-loop-line g l = Gathering g.F.Family.family l.text l.line-iterator l.expected (parameters_seen l.parameters) (map g.F.Family.bytes_of l.addresses.items)
