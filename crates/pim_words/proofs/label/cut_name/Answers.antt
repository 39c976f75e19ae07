use Rattle.pim_words.proofs.Words.{◌∙◌, None, Some, refl, sym, subst, lit<, false≢true, contains_char, split_after}
use Rattle.pim_words.proofs.Words.{split_parts, Text, LacksAtSign}
use Rattle.pim_words.proofs.label.cut_name.Goals as goal

pub returns-in_default : goal.returns-in_default
returns-in_default c =
    (refl, λ name more named. split_after 61 c.args.word.now name more None c.in_default.ensures.cases (lit< tt) named.0 named.1)

pub returns-then-contains : goal.returns-then-contains
returns-then-contains c = (
  refl,
  λ name more named.
      let same = split_after 61 c.args.word.now name more (Some (c.in-Some.name, c.in-Some.text)) c.in-Some.ensures.cases (lit< tt) named.0 named.1 in
      let found = (contains_char 64 c.in-Some.name.now c.contains.result c.contains.ensures.cases (lit< tt)).0 c.if-contains.true in
      subst (λ (text : Text). LacksAtSign text) (sym same.0) named.2 found.0 found.1 found.2,
)

pub returns : goal.returns
returns c =
    let parts = split_parts 61 c.args.word.now (Some (c.in-Some.name, c.in-Some.text)) c.in-Some.ensures.cases (lit< tt) in
    let found = (contains_char 64 c.in-Some.name.now c.contains.result c.contains.ensures.cases (lit< tt)).1 in
    (parts.0, parts.1, λ place inside is. false≢true (sym c.if-contains.false ∙ found place inside is))
