use Rattle.pim_trace.proofs.Words.{refl, subst, ◌∙◌, AppendsFront, rp_of, ignored_entry, ignored_in, ledger_seen, text_on}
use Rattle.pim_trace.proofs.Loops.{told_of, item_told, item_begun}
use Rattle.pim_trace.proofs.Writing.{IsWriting, start_writing, stopped}
use Rattle.pim_trace.proofs.ignoring.write_ignored_in.Goals as goal

pub loop-entry-init : goal.loop-entry-init
loop-entry-init g c =
    let says = ignored_entry c.args.packet.now.frame (g.F.Family.bytes_of c.args.packet.now.source) (rp_of g.F.Family.family c.args.router.now.routes) (g.F.Family.bytes_of c.group-group.result) in
    let reported = told_of (g.T.EventWriter.line c.args.event_writer.now) (ledger_seen g.F.Family.bytes_of c.args.ledger.now) c.now-ms.result c.args.packet.now.port says in (
      subst (λ whole. IsWriting (g.T.EventWriter.contents c.args.device.now) (g.T.EventWriter.contents c.args.device.now) (reported c.into_iter-entry-iterator.result) (reported whole))
          (c.into_iter-entry-iterator.ensures.into_iter_gives ∙ c.joined-entry-items.ensures) (start_writing _ _),
      refl,
    )

pub loop-entry-preserved : goal.loop-entry-preserved
loop-entry-preserved g c =
    let bytes_of = g.F.Family.bytes_of in
    let says = ignored_entry c.args.packet.now.frame (bytes_of c.args.packet.now.source) (rp_of g.F.Family.family c.args.router.now.routes) (bytes_of c.group-group.result) in (
      item_told (g.T.EventWriter.line c.args.event_writer.now) (ledger_seen bytes_of c.args.ledger.now) c.now-ms.result c.args.packet.now.port says _ _ _ _ _ _ _ _ c.loop-entry.invariant.0 c.in-Some.ensures.steps
          c.ignored_by-ignored.ensures c.in_ok-write_if_ignored.ensures.bytes,
      c.in_ok-write_if_ignored.ensures.count ∙ c.loop-entry.invariant.1,
    )

pub returns-in_err-write_if_ignored-clause-bytes : goal.returns-in_err-write_if_ignored-clause-bytes
returns-in_err-write_if_ignored-clause-bytes g c =
    let bytes_of = g.F.Family.bytes_of in
    let says = ignored_entry c.args.packet.now.frame (bytes_of c.args.packet.now.source) (rp_of g.F.Family.family c.args.router.now.routes) in
    let line = g.T.EventWriter.line c.args.event_writer.now in
    let ledger = ledger_seen bytes_of c.args.ledger.now in
    stopped _ _ c.from_residual.result _ c.from_residual.ensures.0
    (subst (λ ms. AppendsFront (g.T.EventWriter.contents c.args.device.now) (g.T.EventWriter.contents c.write_if_ignored.new.device) (text_on line ledger ms c.args.packet.now.port (ignored_in c.args.packet.now.frame (bytes_of c.args.packet.now.source) (rp_of g.F.Family.family c.args.router.now.routes) c.args.set.now)))
    c.now-ms.ensures
    (subst (λ group. AppendsFront (g.T.EventWriter.contents c.args.device.now) (g.T.EventWriter.contents c.write_if_ignored.new.device) (told_of line ledger c.now-ms.result c.args.packet.now.port (says group) c.args.set.now.joined))
    c.group-group.ensures
    (item_begun line ledger c.now-ms.result c.args.packet.now.port (says (bytes_of c.group-group.result)) _ _ _ _ _ _ _ _ c.loop-entry.invariant.0 c.in-Some.ensures.steps c.ignored_by-ignored.ensures c.in_err-write_if_ignored.ensures.bytes)))
