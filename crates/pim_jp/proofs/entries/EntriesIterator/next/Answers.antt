use Rattle.std.proofs.Common.{◌≡◌, [], sym, ◌∙◌}
use Rattle.pim_jp.proofs.Walks.{entries_end}
use Rattle.pim_jp.proofs.entries.EntriesIterator.next.Goals as goal

pub returns-then-self-eq0-clause-steps : goal.returns-then-self-eq0-clause-steps
returns-then-self-eq0-clause-steps g c =
    let none : c.args.self.now ≡ [] = sym c.self.view_is ∙ entries_end _ _ _ c.if-self-eq0.true in (none, none)
