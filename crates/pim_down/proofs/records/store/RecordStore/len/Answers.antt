use Rattle.pim_down.proofs.Words.{◌+◌, ◌*◌, ◌≤◌, length, subst, arith, Listed, Held}
use Rattle.pim_down.proofs.records.store.RecordStore.len.Goals as goal

pub returns-clause-small : goal.returns-clause-small
returns-clause-small g c =
    subst (λ (l : Listed (Held g.row.A.Denot)). 2 * length l.items + 2 ≤ 18446744073709551615) c.self.view_is
    (omega (arith, c.self.invariant.1.fits, c.self.invariant.1.small))
