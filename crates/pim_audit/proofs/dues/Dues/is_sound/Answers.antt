use Rattle.pim_audit.proofs.Keys.{ascend_seen}
use Rattle.pim_audit.proofs.KeyOrder.{tied}
use Rattle.pim_audit.specs.Keyed.{key_cmp}
use Rattle.pim_audit.proofs.dues.Dues.is_sound.Goals as goal

pub returns : goal.returns
returns g c =
    let cmp = g.F.Addr.Ord.cmp in
    let bytes_of = g.F.Family.bytes_of in
    rw (← c.self.view_is) (ascend_seen bytes_of (key_cmp cmp) (tied bytes_of cmp g.met.F.Family.order_of_bytes)
    c.self.inside.kept.entries.entries c.self.inside.kept.ascending c.self.invariant)
