use Rattle.std.proofs.Common.{ap, sym, subst, ◌∙◌}
use Rattle.std.specs.BTreeMap.{is_at}
use Rattle.pim_audit.proofs.Keys.{ascend_seen, held_seen, key_tests, none_late_seen, reported_keyed, reported_seen, seen}
use Rattle.pim_audit.proofs.KeyOrder.{key_total, tied}
use Rattle.pim_audit.specs.Keyed.{AreKeyed, key_cmp}
use Rattle.pim_audit.proofs.dues.Dues.take_late.Goals as goal

pub returns-in_err-key-clause-none : goal.returns-in_err-key-clause-none
returns-in_err-key-clause-none g c =
    let bytes_of = g.F.Family.bytes_of in
    let cmp = key_cmp g.F.Addr.Ord.cmp in
    let tie = tied bytes_of g.F.Addr.Ord.cmp g.met.F.Family.order_of_bytes in
    let es = c.self.inside.kept.entries.entries in
    rw (c.from_residual.ensures, ← c.self.view_is) (none_late_seen bytes_of cmp tie c.args.moment c.args.grace es c.in_err-key.ensures.none)

pub returns-in_err-key-clause-order : goal.returns-in_err-key-clause-order
returns-in_err-key-clause-order g c =
    let bytes_of = g.F.Family.bytes_of in
    let cmp = key_cmp g.F.Addr.Ord.cmp in
    let tie = tied bytes_of g.F.Addr.Ord.cmp g.met.F.Family.order_of_bytes in
    let es = c.self.inside.kept.entries.entries in
    rw (← c.self.view_is) (ascend_seen bytes_of cmp tie es c.self.inside.kept.ascending c.self.invariant)

pub invariant_of-self-2 : goal.invariant_of-self-2
invariant_of-self-2 g c =
    let bytes_of = g.F.Family.bytes_of in
    let cmp = key_cmp g.F.Addr.Ord.cmp in
    let tie = tied bytes_of g.F.Addr.Ord.cmp g.met.F.Family.order_of_bytes in
    let es = c.self.inside.kept.entries.entries in
    let key = c.in_ok-key.key in
    let held = c.in_ok-held.held in
    let total = key_total g.met.F.Addr.Ord.total in
    let found = sym c.in_ok-held.ensures.held in
    subst (AreKeyed bytes_of) (sym c.in_ok-held.ensures.entries)
    (reported_keyed bytes_of cmp tie (is_at (cmp key)) held (key_tests bytes_of cmp tie total key held es c.self.invariant found) es
    c.self.invariant found)

pub returns-clause-held : goal.returns-clause-held
returns-clause-held g c =
    let bytes_of = g.F.Family.bytes_of in
    let cmp = key_cmp g.F.Addr.Ord.cmp in
    let tie = tied bytes_of g.F.Addr.Ord.cmp g.met.F.Family.order_of_bytes in
    let es = c.self.inside.kept.entries.entries in
    let key = c.in_ok-key.key in
    let held = c.in_ok-held.held in
    let total = key_total g.met.F.Addr.Ord.total in
    let found = sym c.in_ok-held.ensures.held in
    rw (← c.self.view_is) (held_seen bytes_of cmp tie total key held es c.self.invariant found)

pub returns-clause-reported : goal.returns-clause-reported
returns-clause-reported g c =
    let bytes_of = g.F.Family.bytes_of in
    let cmp = key_cmp g.F.Addr.Ord.cmp in
    let tie = tied bytes_of g.F.Addr.Ord.cmp g.met.F.Family.order_of_bytes in
    let es = c.self.inside.kept.entries.entries in
    let key = c.in_ok-key.key in
    let held = c.in_ok-held.held in
    let total = key_total g.met.F.Addr.Ord.total in
    let found = sym c.in_ok-held.ensures.held in
    rw (← c.self.view_is) (ap (seen bytes_of cmp tie) c.in_ok-held.ensures.entries
    ∙ reported_seen bytes_of cmp tie (is_at (cmp key)) held (key_tests bytes_of cmp tie total key held es c.self.invariant found)
    es c.self.inside.kept.ascending c.self.invariant found)

pub returns-clause-order : goal.returns-clause-order
returns-clause-order g c =
    let bytes_of = g.F.Family.bytes_of in
    let cmp = key_cmp g.F.Addr.Ord.cmp in
    let tie = tied bytes_of g.F.Addr.Ord.cmp g.met.F.Family.order_of_bytes in
    let es = c.self.inside.kept.entries.entries in
    rw (← c.self.view_is) (ascend_seen bytes_of cmp tie es c.self.inside.kept.ascending c.self.invariant)
