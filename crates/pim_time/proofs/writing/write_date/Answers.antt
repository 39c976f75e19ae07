use Rattle.pim_time.proofs.Texts.{date_pieces}
use Rattle.pim_time.proofs.writing.write_date.Goals as goal

pub returns : goal.returns
returns c =
    date_pieces c.args.millis c.date_of.result _ _ _ _ _ c.date_of.ensures.date c.write_day.ensures c.copy_from_slice.ensures.after c.write_clock.ensures c.write_millis.ensures c.copy_from_slice-2.ensures.after
