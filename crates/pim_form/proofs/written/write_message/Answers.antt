use Rattle.pim_form.proofs.Words.{◌∙◌, arith, length-map, rp_of, written_set}
use Rattle.pim_form.proofs.PartMessage.{message_is, message_room, sealed_is}
use Rattle.pim_form.proofs.written.write_message.Goals as goal

pub overflow_cast-count : goal.overflow_cast-count
overflow_cast-count g c =
    let is = message_is g.F.Family.family c.args.writer.now (rp_of g.F.Family.family c.args.routes.now) c.args.part c.requires.normal c.requires.rps c.requires.fitting c.is_writing.ensures in
    omega (arith, is.2, c.count_left-count.ensures, length-map c.args.part (written_set (rp_of g.F.Family.family c.args.routes.now)))

pub write_sets-requires-clause-sets : goal.write_sets-requires-clause-sets
write_sets-requires-clause-sets g c =
    (message_is g.F.Family.family c.args.writer.now (rp_of g.F.Family.family c.args.routes.now) c.args.part c.requires.normal c.requires.rps c.requires.fitting c.is_writing.ensures).3

pub write_sets-requires-clause-length : goal.write_sets-requires-clause-length
write_sets-requires-clause-length g c =
    let room = message_room g.F.Family.family c.args.writer.now (rp_of g.F.Family.family c.args.routes.now) c.args.part c.requires.normal c.requires.rps c.requires.fitting in
    omega (arith, room, c.requires.length, c.split_at_mut-body.ensures.back_len, c.split_at_mut-sets.ensures.back_len, c.head_length.ensures)

pub returns : goal.returns
returns g c =
    sealed_is g.F.Family.family c.args.writer.now (rp_of g.F.Family.family c.args.routes.now) c.args.part c.requires.normal c.requires.rps c.requires.fitting
    c.count_left-count.result c.split_at_mut-body.result.0.now c.split_at_mut-sets.result.0.now c.write_sets.new.bytes c.seal_message.new.bytes
    c.split_at_mut-body.ensures.front_len (c.split_at_mut-sets.ensures.front_len ∙ c.head_length.ensures) c.count_left-count.ensures c.write_sets.ensures c.seal_message.ensures.sealed
