use Rattle.pim_emit.proofs.Words.{◌∙◌, ◌++◌, List, ℕ, take, drop, refl, sym, subst, all_routers, IsSealed, JoinPrune}
use Rattle.pim_emit.proofs.Words.{canonical_head, body_start, draft_seen, IsDraft, IsMessage, position_seen}
use Rattle.pim_emit.proofs.NextMessage.{draft_begins, nothing_left, message_made, front_alone}
use Rattle.pim_emit.proofs.message.next_message.Goals as goal

pub loop-draft-init : goal.loop-draft-init
loop-draft-init g c =
    let family = g.F.Family.family in
    let bytes_of = g.F.Family.bytes_of in
    let budget = c.args.writer.now.budget in
    let position = position_seen bytes_of c.args.position.now in
    record {
      made = subst (λ d. IsDraft family budget c.args.demand.now position d c.split_at_mut-bytes.result.0.now) (λ i. draft_seen bytes_of (sym c.empty_draft-draft.ensures i))
          (draft_begins family budget c.args.demand.now position c.split_at_mut-bytes.result.0.now c.requires.position c.is_writing.ensures.least);
      room = c.split_at_mut-bytes.ensures.front_len ∙ c.budget.ensures;
      start = refl;
    }

pub returns-then-draft-eq0-clause-next : goal.returns-then-draft-eq0-clause-next
returns-then-draft-eq0-clause-next g c =
    nothing_left g.F.Family.family c.args.writer.now.budget c.args.demand.now (position_seen g.F.Family.bytes_of c.args.position.now) (draft_seen g.F.Family.bytes_of c.loop-draft.draft) c.loop-draft.bytes
    c.groups_are_counted.ensures c.is_writing.ensures.least c.requires.fits c.loop-draft.invariant.made c.loop-draft-test.false c.if-draft-eq0.true

pub returns-clause-next : goal.returns-clause-next
returns-clause-next g c =
    let family = g.F.Family.family in
    let bytes_of = g.F.Family.bytes_of in
    let writing = c.args.writer.now in
    let from = position_seen bytes_of c.args.position.now in
    let draft = draft_seen bytes_of c.loop-draft.draft in
    let front = front_alone c.loop-draft.draft.end c.seal_message.new.bytes c.split_at_mut-message.result.1.now c.split_at_mut-bytes.result.1.now (c.seal_message.ensures.length ∙ c.split_at_mut-message.ensures.front_len) in
    let sealed : IsSealed family writing.own (all_routers family) JoinPrune (canonical_head family writing.upstream c.loop-draft.draft.groups writing.holdtime ++ drop (body_start family) (take c.loop-draft.draft.end c.loop-draft.bytes)) c.seal_message.new.bytes =
    subst (λ (b : List ℕ). IsSealed family writing.own (all_routers family) JoinPrune (canonical_head family writing.upstream c.loop-draft.draft.groups writing.holdtime ++ drop (body_start family) b) c.seal_message.new.bytes)
    c.split_at_mut-message.ensures.front c.seal_message.ensures.sealed in
    subst (IsMessage family writing c.args.demand.now from draft.position) (sym front)
    (message_made family writing c.args.demand.now from draft c.loop-draft.bytes c.seal_message.new.bytes c.loop-draft.draft.groups c.groups_are_counted.ensures c.loop-draft.invariant.made c.loop-draft-test.false
    c.if-draft-eq0.false refl sealed)
