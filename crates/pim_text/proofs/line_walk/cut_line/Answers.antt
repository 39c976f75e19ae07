use Rattle.pim_text.proofs.Words.{◌∙◌, sym, ap, ℕ, List, ◌∷◌, lines}
use Rattle.pim_text.proofs.LineCuts.{cut_at, cut_nowhere, lines_of_none}
use Rattle.pim_text.proofs.line_walk.cut_line.Goals as goal

pub returns-in-Some : goal.returns-in-Some
returns-in-Some c =
    let front = sym c.split_at.ensures.front in
    let back = sym c.split_at.ensures.back in
    cut_at c.args.text.now c.in-Some.place (sym c.first_feed.ensures ∙ c.in-Some.is) ∙ (λ i. front i ∷ lines (back i))

pub returns-in-None : goal.returns-in-None
returns-in-None c =
    cut_nowhere c.args.text.now c.requires (sym c.first_feed.ensures ∙ c.in-None.is)
    ∙ ap (λ (l : List (List ℕ)). c.args.text.now ∷ l) (sym lines_of_none)
