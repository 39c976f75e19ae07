use Rattle.std.proofs.Common.{drop}
use Rattle.pim_words.proofs.Further.{texts}
use Rattle.pim_words.proofs.Labelling.{IsLeft}
use Rattle.pim_words.proofs.port_word.read_labelled.Given as goal

abbrev pub invariant-loop-word : goal.invariant-loop-word
invariant-loop-word l =
    IsLeft l.kind l.is_any (texts l.words) (texts (drop l.word-index l.words)) l.labelled.ports.items l.labelled.names.items l.labelled.more.items
