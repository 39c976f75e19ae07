use Rattle.std.proofs.Common.{ap, sym, ◌∙◌}
use Rattle.std.specs.Option.{option_map}
use Rattle.std.specs.BTreeMap.{get}
use Rattle.pim_audit.proofs.Keys.{find_seen}
use Rattle.pim_audit.proofs.KeyOrder.{tied}
use Rattle.pim_audit.specs.Keyed.{key_cmp}
use Rattle.pim_audit.specs.Seen.{due_seen}
use Rattle.pim_audit.proofs.dues.Dues.get.Goals as goal

pub returns : goal.returns
returns g c =
    let bytes_of = g.F.Family.bytes_of in
    let cmp = key_cmp g.F.Addr.Ord.cmp in
    let tie = tied bytes_of g.F.Addr.Ord.cmp g.met.F.Family.order_of_bytes in
    let es = c.self.inside.kept.entries.entries in
    rw (← c.self.view_is) (ap (option_map (due_seen bytes_of)) (c.get.ensures ∙ ap (get cmp c.self.inside.kept.entries) c.key_of.ensures)
    ∙ sym (find_seen bytes_of cmp tie c.args.entry.now es c.self.invariant))
