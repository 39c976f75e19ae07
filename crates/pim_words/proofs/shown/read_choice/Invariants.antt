use Rattle.std.proofs.Common.{drop}
use Rattle.pim_words.proofs.Further.{texts}
use Rattle.pim_words.proofs.Choosing.{IsLeft}
use Rattle.pim_words.proofs.shown.read_choice.Given as goal

abbrev pub invariant-loop-text : goal.invariant-loop-text
invariant-loop-text l = IsLeft (texts l.texts) (texts (drop l.text-index l.texts)) l.addresses.items
