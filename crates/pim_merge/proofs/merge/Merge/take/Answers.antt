use Rattle.pim_merge.proofs.Words.{◌≤◌, ◌∙◌, length, IfSome, ap, subst, most_captured, PayloadLiesIn, LaneState, MergeState}
use Rattle.pim_merge.proofs.Taking.{lane_there, head_of_lane, bytes_of_lane}
use Rattle.pim_merge.proofs.merge.Merge.take.Goals as goal

pub returns-clause-head : goal.returns-clause-head
returns-clause-head g c =
    let same = lane_there c.self.inside.lanes.items c.args.self.now.lanes c.args.capture c.index_mut.result.now c.requires
    c.index_mut.ensures.value (ap (λ (m : MergeState). m.lanes) c.self.view_is) in
    head_of_lane _ c.index_mut.result.now c.take.new.self c.take.result same c.take.ensures.head c.take.ensures.rest

pub returns-clause-payload : goal.returns-clause-payload
returns-clause-payload g c =
    let same = lane_there c.self.inside.lanes.items c.args.self.now.lanes c.args.capture c.index_mut.result.now c.requires
    c.index_mut.ensures.value (ap (λ (m : MergeState). m.lanes) c.self.view_is) in
    subst (λ bytes. IfSome c.take.result (PayloadLiesIn bytes))
    (bytes_of_lane _ c.index_mut.result.now c.take.new.self same c.take.ensures.rest) c.take.ensures.payload

pub returns-clause-bytes : goal.returns-clause-bytes
returns-clause-bytes g c =
    let same = lane_there c.self.inside.lanes.items c.args.self.now.lanes c.args.capture c.index.result.now c.requires
    c.index.ensures (ap (λ (m : MergeState). m.lanes) c.self.view_is) in
    subst (λ bytes. length bytes ≤ most_captured) (c.bytes-bytes.ensures.bytes ∙ ap (λ (l : LaneState). l.bytes) same)
    c.bytes-bytes.ensures.length
