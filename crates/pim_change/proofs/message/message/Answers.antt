use Rattle.pim_change.proofs.Words.{length, ap, arith, rp_of, units_seen}
use Rattle.pim_change.proofs.RunSizes.{sets_short, few_sets, small_sets, small_head}
use Rattle.pim_change.proofs.message.message.Goals as goal

pub append_sets-requires-clause-short : goal.append_sets-requires-clause-short
append_sets-requires-clause-short g c =
    sets_short g.F.Family.family c.args.writer.now.budget (rp_of g.F.Family.family c.args.routes.now)
    (units_seen g.F.Family.bytes_of c.args.units.now) c.is_writing.ensures.most c.requires

pub append_sets-requires-clause-groups : goal.append_sets-requires-clause-groups
append_sets-requires-clause-groups g c =
    few_sets g.F.Family.family c.args.writer.now.budget (rp_of g.F.Family.family c.args.routes.now)
    (units_seen g.F.Family.bytes_of c.args.units.now) c.is_writing.ensures.most c.requires

pub seal_message-requires-clause-counted : goal.seal_message-requires-clause-counted
seal_message-requires-clause-counted g c =
    let sets = small_sets g.F.Family.family c.args.writer.now.budget (rp_of g.F.Family.family c.args.routes.now)
    (units_seen g.F.Family.bytes_of c.args.units.now) c.is_writing.ensures.most c.requires in
    omega (
      arith,
      sets,
      small_head g.F.Family.family,
      ap length c.deref_mut.ensures.value,
      c.in_ok-sets.ensures.longer,
      c.in_ok-bytes.bytes.ok.0,
      c.in_ok-bytes.ensures.len,
      c.head_length.ensures,
    )
