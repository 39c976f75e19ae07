use Rattle.std.proofs.Common.{ap, ◌∙◌, None}
use Rattle.std.specs.BTreeMap.Range.{range_contains}
use Rattle.std.specs.declared.ops.Bound.TheVariants.{Included, Excluded}
use Rattle.pim_audit.proofs.Keys.{filter_seen, seen}
use Rattle.pim_audit.proofs.KeyOrder.{exceptions_between, tied}
use Rattle.pim_audit.specs.Keyed.{key_cmp}
use Rattle.pim_audit.specs.Dued.{is_exception_of}
use Rattle.pim_audit.proofs.dues.Dues.exceptions_of.Goals as goal

pub returns : goal.returns
returns g c =
    let bytes_of = g.F.Family.bytes_of in
    let cmp = key_cmp g.F.Addr.Ord.cmp in
    let tie = tied bytes_of g.F.Addr.Ord.cmp g.met.F.Family.order_of_bytes in
    let es = c.self.inside.kept.entries.entries in
    let group = c.args.group in
    rw (← c.self.view_is) (ap (seen bytes_of cmp tie) c.range.ensures
    ∙ filter_seen bytes_of cmp tie (range_contains cmp (Included (record { group = group; rank = 2; source = None }))
    (Excluded (record { group = group; rank = 4; source = None })))
    (is_exception_of (bytes_of group)) (exceptions_between bytes_of g.F.Addr.Ord.cmp g.met.F.Family.order_of_bytes group) es
    c.self.invariant)
