use Rattle.pim_warnings.proofs.Words.{◌-◌, arith, with_more}
use Rattle.pim_warnings.proofs.Named.{later_name}
use Rattle.pim_warnings.proofs.naming.name_at.Goals as goal

pub loop-one-init : goal.loop-one-init
loop-one-init g c = later_name (with_more c.args.at c.args.further.now c.args.port.now) c.args.file (c.args.file - 1) (omega arith)
