use Rattle.pim_router.proofs.Words.{rules, ◌≡◌, false, nat_eq, pointwise, own_address, reading_seen, message_refusals, read_taken}
use Rattle.pim_router.specs.declared.verdict.Verdict.TheVariants.{Mine}
use Rattle.pim_router.proofs.Setups.{reading_keeps}
use Rattle.pim_router.proofs.Unless.{not_first}
use Rattle.pim_router.proofs.router.Router.take_read.Goals as goal

pub returns-clause-reported : goal.returns-clause-reported
returns-clause-reported g c =
    let family = g.F.Family.family in
    let source = g.F.Family.bytes_of c.args.src in
    let reading = reading_seen family c.args.message.now in
    let mine : pointwise nat_eq source (own_address c.args.port c.args.self.now) ≡ false = search rules in
    not_first (pointwise nat_eq source (own_address c.args.port c.args.self.now)) Mine (message_refusals family c.args.port source c.args.self.now reading) c.args.self.now
    (read_taken family c.args.port source c.args.self.now reading) mine _ _ c.take_message_from.ensures.reported

pub returns-clause-setup : goal.returns-clause-setup
returns-clause-setup g c =
    let family = g.F.Family.family in
    let source = g.F.Family.bytes_of c.args.src in
    let reading = reading_seen family c.args.message.now in
    let mine : pointwise nat_eq source (own_address c.args.port c.args.self.now) ≡ false = search rules in
    reading_keeps family c.args.port source c.args.self.now reading c.take_message_from.result c.take_message_from.new.self
    (not_first (pointwise nat_eq source (own_address c.args.port c.args.self.now)) Mine (message_refusals family c.args.port source c.args.self.now reading) c.args.self.now
    (read_taken family c.args.port source c.args.self.now reading) mine _ _ c.take_message_from.ensures.reported)
