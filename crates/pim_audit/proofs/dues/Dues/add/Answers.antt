use Rattle.std.proofs.Common.{ap, sym, subst, false, ◌∙◌}
use Rattle.std.specs.BTreeMap.{get, insert_entry}
use Rattle.pim_audit.proofs.Keys.{added_keyed, added_seen, none_found, seen}
use Rattle.pim_audit.proofs.KeyOrder.{tied}
use Rattle.pim_audit.specs.Keyed.{key_cmp, AreKeyed}
use Rattle.pim_audit.specs.declared.due.Due.{Due}
use Rattle.pim_audit.specs.declared.entry_key.EntryKey.{EntryKey}
use Rattle.pim_audit.proofs.dues.Dues.add.Goals as goal

pub add-requires-clause-absent : goal.add-requires-clause-absent
add-requires-clause-absent g c =
    let bytes_of = g.F.Family.bytes_of in
    let cmp = key_cmp g.F.Addr.Ord.cmp in
    let tie = tied bytes_of g.F.Addr.Ord.cmp g.met.F.Family.order_of_bytes in
    let es = c.self.inside.kept.entries.entries in
    ap (get cmp c.self.inside.kept.entries) c.key_of.ensures
    ∙ none_found bytes_of cmp tie c.args.entry es c.self.invariant (rw c.self.view_is c.requires)

pub invariant_of-self-2 : goal.invariant_of-self-2
invariant_of-self-2 g c =
    let bytes_of = g.F.Family.bytes_of in
    let cmp = key_cmp g.F.Addr.Ord.cmp in
    let tie = tied bytes_of g.F.Addr.Ord.cmp g.met.F.Family.order_of_bytes in
    let es = c.self.inside.kept.entries.entries in
    let due : Due g.row.F-Addr.Denot = record { entry = c.args.entry; since = c.args.moment; is_reported = false } in
    let added = c.in_ok-add.ensures.added ∙ ap (λ (k : EntryKey g.row.F-Addr.Denot). insert_entry cmp es k due) c.key_of.ensures in
    subst (AreKeyed bytes_of) (sym added)
    (added_keyed bytes_of cmp tie due es (none_found bytes_of cmp tie c.args.entry es c.self.invariant (rw c.self.view_is c.requires))
    c.self.invariant)

pub returns-clause-added : goal.returns-clause-added
returns-clause-added g c =
    let bytes_of = g.F.Family.bytes_of in
    let cmp = key_cmp g.F.Addr.Ord.cmp in
    let tie = tied bytes_of g.F.Addr.Ord.cmp g.met.F.Family.order_of_bytes in
    let es = c.self.inside.kept.entries.entries in
    let due : Due g.row.F-Addr.Denot = record { entry = c.args.entry; since = c.args.moment; is_reported = false } in
    let added = c.in_ok-add.ensures.added ∙ ap (λ (k : EntryKey g.row.F-Addr.Denot). insert_entry cmp es k due) c.key_of.ensures in
    rw (← c.self.view_is) (ap (seen bytes_of cmp tie) added ∙ added_seen bytes_of cmp tie due es c.self.invariant)
