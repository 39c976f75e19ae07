use Rattle.std.proofs.lemmas.Result.{err_from_is_err_and}
use Rattle.pim_commands.proofs.Builds.{refused_input, written_front, written_whole}
use Rattle.pim_commands.proofs.build.build_into.Goals as goal

pub returns-in_err-message-clause-builds : goal.returns-in_err-message-clause-builds
returns-in_err-message-clause-builds g c =
    let p = err_from_is_err_and c.from_residual-in_err-message.result c.from_residual-in_err-message.ensures.1 in
    rw (p.1, p.2)
    (refused_input g.F.Family.family (g.F.Family.bytes_of c.args.src) (g.F.Family.bytes_of c.args.dst) (g.R.Feed.remaining c.args.reader.now) c.in_ok-text.text.items c.deref.result.now c.in_ok-text.ensures.text c.deref.ensures.value
    (g.W.Drain.contents c.args.writer.now) c.in_err-message.field-0.0 c.in_err-message.ensures.fault)

pub returns-in-Ok-clause-builds : goal.returns-in-Ok-clause-builds
returns-in-Ok-clause-builds g c =
    written_whole g.F.Family.family (g.F.Family.bytes_of c.args.src) (g.F.Family.bytes_of c.args.dst) (g.R.Feed.remaining c.args.reader.now) c.in_ok-text.text.items c.deref.result.now c.in_ok-text.ensures.text c.deref.ensures.value
    c.in_ok-message.message.items c.deref-2.result.now c.in_ok-message.ensures.built c.deref-2.ensures.value (g.W.Drain.contents c.args.writer.now) (g.W.Drain.contents c.write_all.new.drain) c.in-Ok.ensures.bytes

pub returns-clause-builds : goal.returns-clause-builds
returns-clause-builds g c =
    written_front g.F.Family.family (g.F.Family.bytes_of c.args.src) (g.F.Family.bytes_of c.args.dst) (g.R.Feed.remaining c.args.reader.now) c.in_ok-text.text.items c.deref.result.now c.in_ok-text.ensures.text c.deref.ensures.value
    c.in_ok-message.message.items c.deref-2.result.now c.in_ok-message.ensures.built c.deref-2.ensures.value (g.W.Drain.contents c.args.writer.now) (g.W.Drain.contents c.write_all.new.drain) c.in-Err.ensures.bytes
