use Rattle.pim_down.proofs.Words.{is_up_to, key_seen}
use Rattle.pim_down.proofs.Searched.{parted, machines_fall}
use Rattle.pim_down.proofs.records.group.GroupMachines.behind.Goals as goal

pub first_behind-place-requires : goal.first_behind-place-requires
first_behind-place-requires g c =
    let bytes_of = g.F.Family.bytes_of in
    let bound = key_seen bytes_of c.args.key in
    parted bytes_of (is_up_to bound) (machines_fall bound) c.args.records.now.items c.requires
