use Rattle.pim_words.proofs.Words.{None, Some, refl, lit<, split_parts}
use Rattle.pim_words.proofs.port.cut_text.Goals as goal

pub returns-in-Some : goal.returns-in-Some
returns-in-Some c = (refl, split_parts 64 c.args.text.now (Some (c.in-Some.address, c.in-Some.file)) c.in-Some.ensures.cases (lit< tt))

pub returns-in-None : goal.returns-in-None
returns-in-None c = split_parts 64 c.args.text.now None c.in-None.ensures.cases (lit< tt)
