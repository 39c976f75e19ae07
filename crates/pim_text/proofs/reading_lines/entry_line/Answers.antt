use Rattle.pim_text.proofs.Words.{◌≡◌, ◌∙◌, sym, subst, ℕ, List, append_cancel_left, IsEntry}
use Rattle.pim_text.proofs.reading_lines.entry_line.Goals as goal

pub returns-clause-only : goal.returns-clause-only
returns-clause-only c entry (rest, is, entered) =
    let same : rest ≡ c.in_ok-entry.entry.now = append_cancel_left c.args.list.now rest c.in_ok-entry.entry.now (sym is ∙ c.in_ok-entry.ensures) in
    c.read_entry.ensures.only entry (subst (λ (l : List ℕ). IsEntry entry l) same entered)
