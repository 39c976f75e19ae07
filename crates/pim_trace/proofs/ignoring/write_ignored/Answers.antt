use Rattle.pim_trace.proofs.Words.{refl, subst, ◌∙◌, rp_of, ignored_in, ledger_seen}
use Rattle.pim_trace.proofs.Loops.{told_of, item_told, item_begun}
use Rattle.pim_trace.proofs.Writing.{IsWriting, start_writing, stopped}
use Rattle.pim_trace.proofs.ignoring.write_ignored.Goals as goal

pub loop-set-init : goal.loop-set-init
loop-set-init g c =
    let says = ignored_in c.args.packet.now.frame (g.F.Family.bytes_of c.args.packet.now.source) (rp_of g.F.Family.family c.args.router.now.routes) in
    let reported = told_of (g.T.EventWriter.line c.args.event_writer.now) (ledger_seen g.F.Family.bytes_of c.args.ledger.now) c.args.router.now.machines.moment c.args.packet.now.port says in (
      subst (λ whole. IsWriting (g.T.EventWriter.contents c.args.device.now) (g.T.EventWriter.contents c.args.device.now) (reported c.into_iter-set-iterator.result) (reported whole)) c.into_iter-set-iterator.ensures.into_iter_gives
          (start_writing _ _),
      refl,
    )

pub loop-set-preserved : goal.loop-set-preserved
loop-set-preserved g c =
    let bytes_of = g.F.Family.bytes_of in
    let says = ignored_in c.args.packet.now.frame (bytes_of c.args.packet.now.source) (rp_of g.F.Family.family c.args.router.now.routes) in (
      item_told (g.T.EventWriter.line c.args.event_writer.now) (ledger_seen bytes_of c.args.ledger.now) c.args.router.now.machines.moment c.args.packet.now.port says _ _ _ _ _ _ _ _ c.loop-set.invariant.0 c.in-Some.ensures.steps
          refl c.in_ok-write_ignored_in.ensures.bytes,
      c.in_ok-write_ignored_in.ensures.count ∙ c.loop-set.invariant.1,
    )

pub returns-in_err-write_ignored_in-clause-bytes : goal.returns-in_err-write_ignored_in-clause-bytes
returns-in_err-write_ignored_in-clause-bytes g c =
    let bytes_of = g.F.Family.bytes_of in
    let says = ignored_in c.args.packet.now.frame (bytes_of c.args.packet.now.source) (rp_of g.F.Family.family c.args.router.now.routes) in
    stopped _ _ c.from_residual.result _ c.from_residual.ensures.0
    (item_begun (g.T.EventWriter.line c.args.event_writer.now) (ledger_seen bytes_of c.args.ledger.now) c.args.router.now.machines.moment c.args.packet.now.port says _ _ _ _ _ _ _ _ c.loop-set.invariant.0 c.in-Some.ensures.steps
    refl c.in_err-write_ignored_in.ensures.bytes)
