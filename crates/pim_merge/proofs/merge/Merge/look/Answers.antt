use Rattle.pim_merge.proofs.Words.{◌≡◌, ◌∙◌, ℕ, List, ap, arith, IfOk, IfErr, AllByRecursion, Answer, turn, fails}
use Rattle.pim_merge.proofs.Words.{IsComing, IsLooked, KeepRooms, FailsAt, tallies_of, MergeState, with_fault}
use Rattle.pim_merge.proofs.Words.{CountsFailures, IsFailed, IsNumbered}
use Rattle.pim_merge.proofs.Repeating.{put_back}
use Rattle.pim_merge.proofs.merge.Merge.look.Goals as goal

pub returns-clause-coming : goal.returns-clause-coming
returns-clause-coming g c =
    put_back (λ old new. IfOk c.look_at_all.result (λ x. (captures : List (List Answer)) → IsComing old captures → IsComing new captures))
    c.deref_mut.result.now c.args.self.now.lanes c.look_at_all.new.lanes c.self.inside.lanes.items c.self.inside.lanes.len
    (c.deref_mut.ensures.value ∙ ap (λ (m : MergeState). m.lanes) c.self.view_is) (omega (arith, c.deref_mut.ensures.len, c.look_at_all.auto.lanes)) c.look_at_all.ensures.coming

pub returns-clause-looked : goal.returns-clause-looked
returns-clause-looked g c =
    put_back (λ old new. IfOk c.look_at_all.result (λ x. AllByRecursion IsLooked new))
    c.deref_mut.result.now c.args.self.now.lanes c.look_at_all.new.lanes c.self.inside.lanes.items c.self.inside.lanes.len
    (c.deref_mut.ensures.value ∙ ap (λ (m : MergeState). m.lanes) c.self.view_is) (omega (arith, c.deref_mut.ensures.len, c.look_at_all.auto.lanes)) c.look_at_all.ensures.looked

pub returns-clause-fault : goal.returns-clause-fault
returns-clause-fault g c =
    put_back (λ old new. IfErr c.look_at_all.result (λ reported. (captures : List (List Answer)) → IsComing old captures → turn (with_fault reported captures) ≡ fails reported.capture reported.fault))
    c.deref_mut.result.now c.args.self.now.lanes c.look_at_all.new.lanes c.self.inside.lanes.items c.self.inside.lanes.len
    (c.deref_mut.ensures.value ∙ ap (λ (m : MergeState). m.lanes) c.self.view_is) (omega (arith, c.deref_mut.ensures.len, c.look_at_all.auto.lanes)) c.look_at_all.ensures.fault

pub returns-clause-reads : goal.returns-clause-reads
returns-clause-reads g c =
    put_back (λ old new. CountsFailures old c.look_at_all.result new)
    c.deref_mut.result.now c.args.self.now.lanes c.look_at_all.new.lanes c.self.inside.lanes.items c.self.inside.lanes.len
    (c.deref_mut.ensures.value ∙ ap (λ (m : MergeState). m.lanes) c.self.view_is) (omega (arith, c.deref_mut.ensures.len, c.look_at_all.auto.lanes)) c.look_at_all.ensures.reads

pub returns-clause-rooms : goal.returns-clause-rooms
returns-clause-rooms g c =
    put_back KeepRooms
    c.deref_mut.result.now c.args.self.now.lanes c.look_at_all.new.lanes c.self.inside.lanes.items c.self.inside.lanes.len
    (c.deref_mut.ensures.value ∙ ap (λ (m : MergeState). m.lanes) c.self.view_is) (omega (arith, c.deref_mut.ensures.len, c.look_at_all.auto.lanes)) c.look_at_all.ensures.rooms

pub returns-clause-over : goal.returns-clause-over
returns-clause-over g c =
    put_back (λ old new. IfErr c.look_at_all.result (λ reported. FailsAt reported.capture new))
    c.deref_mut.result.now c.args.self.now.lanes c.look_at_all.new.lanes c.self.inside.lanes.items c.self.inside.lanes.len
    (c.deref_mut.ensures.value ∙ ap (λ (m : MergeState). m.lanes) c.self.view_is) (omega (arith, c.deref_mut.ensures.len, c.look_at_all.auto.lanes)) c.look_at_all.ensures.over

pub returns-clause-repeated : goal.returns-clause-repeated
returns-clause-repeated g c =
    put_back (λ old new. (number : ℕ) → FailsAt number old → IsFailed number c.look_at_all.result)
    c.deref_mut.result.now c.args.self.now.lanes c.look_at_all.new.lanes c.self.inside.lanes.items c.self.inside.lanes.len
    (c.deref_mut.ensures.value ∙ ap (λ (m : MergeState). m.lanes) c.self.view_is) (omega (arith, c.deref_mut.ensures.len, c.look_at_all.auto.lanes)) c.look_at_all.ensures.repeated

pub returns-clause-tallies : goal.returns-clause-tallies
returns-clause-tallies g c =
    put_back (λ old new. tallies_of new ≡ tallies_of old)
    c.deref_mut.result.now c.args.self.now.lanes c.look_at_all.new.lanes c.self.inside.lanes.items c.self.inside.lanes.len
    (c.deref_mut.ensures.value ∙ ap (λ (m : MergeState). m.lanes) c.self.view_is) (omega (arith, c.deref_mut.ensures.len, c.look_at_all.auto.lanes)) c.look_at_all.ensures.tallies

pub returns-clause-record : goal.returns-clause-record
returns-clause-record g c =
    put_back (λ old new. IfErr c.look_at_all.result (IsNumbered (tallies_of old)))
    c.deref_mut.result.now c.args.self.now.lanes c.look_at_all.new.lanes c.self.inside.lanes.items c.self.inside.lanes.len
    (c.deref_mut.ensures.value ∙ ap (λ (m : MergeState). m.lanes) c.self.view_is) (omega (arith, c.deref_mut.ensures.len, c.look_at_all.auto.lanes)) c.look_at_all.ensures.record
