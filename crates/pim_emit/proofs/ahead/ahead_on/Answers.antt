use Rattle.pim_emit.proofs.Words.{◌∙◌, ap, option_map, machines_behind}
use Rattle.pim_emit.proofs.ahead.ahead_on.Goals as goal

pub returns-in_err-next : goal.returns-in_err-next
returns-in_err-next g c =
    let bytes_of = g.F.Family.bytes_of in
    let group = bytes_of c.args.group in
    let was = c.machines_after-left.ensures ∙ ap (machines_behind c.args.ports.now c.args.port group) c.passed.ensures in
    rw c.from_residual.ensures (record { next = (c.in_err-next.ensures c.args.ports.now c.args.port group (option_map bytes_of c.args.bound) c.is_sound.ensures was).0; left = tt })

pub returns : goal.returns
returns g c =
    let bytes_of = g.F.Family.bytes_of in
    let group = bytes_of c.args.group in
    let was = c.machines_after-left.ensures ∙ ap (machines_behind c.args.ports.now c.args.port group) c.passed.ensures in
    let reported = c.in_ok-next.ensures c.args.ports.now c.args.port group (option_map bytes_of c.args.bound) c.is_sound.ensures was in
    record { next = reported.0; left = reported.1 }
