use Rattle.std.proofs.Common.{ap, sym, subst, ◌∙◌}
use Rattle.std.specs.BTreeMap.{is_at}
use Rattle.std.specs.Map.{remove_entry}
use Rattle.pim_audit.proofs.Keys.{removed_keyed, removed_seen, seen}
use Rattle.pim_audit.proofs.KeyOrder.{tied}
use Rattle.pim_audit.specs.Keyed.{key_cmp, AreKeyed}
use Rattle.pim_audit.specs.declared.entry_key.EntryKey.{EntryKey}
use Rattle.pim_audit.proofs.dues.Dues.remove.Goals as goal

pub invariant_of-self : goal.invariant_of-self
invariant_of-self g c =
    let bytes_of = g.F.Family.bytes_of in
    let cmp = key_cmp g.F.Addr.Ord.cmp in
    let tie = tied bytes_of g.F.Addr.Ord.cmp g.met.F.Family.order_of_bytes in
    let es = c.self.inside.kept.entries.entries in
    subst (AreKeyed bytes_of) (sym c.remove.ensures) (removed_keyed bytes_of cmp tie (is_at (cmp c.key_of.result)) es c.self.invariant)

pub returns : goal.returns
returns g c =
    let bytes_of = g.F.Family.bytes_of in
    let cmp = key_cmp g.F.Addr.Ord.cmp in
    let tie = tied bytes_of g.F.Addr.Ord.cmp g.met.F.Family.order_of_bytes in
    let es = c.self.inside.kept.entries.entries in
    rw (← c.self.view_is) (ap (seen bytes_of cmp tie) (c.remove.ensures
    ∙ ap (λ (k : EntryKey g.row.F-Addr.Denot). remove_entry (is_at (cmp k)) es) c.key_of.ensures)
    ∙ removed_seen bytes_of cmp tie c.args.entry.now es c.self.inside.kept.ascending c.self.invariant)
