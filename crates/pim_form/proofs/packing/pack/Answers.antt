use Rattle.pim_form.specs.Toward.{via_of}
use Rattle.pim_form.proofs.TableRps.{have_rps}
use Rattle.pim_form.proofs.packing.pack.Goals as goal

pub packed-requires-clause-rps : goal.packed-requires-clause-rps
packed-requires-clause-rps g c =
    have_rps g.F.Family.family c.args.routes.now c.is_sound.ensures (via_of g.F.Family.family c.args.routes.now) c.args.writer.now.upstream c.args.normal.now c.requires
