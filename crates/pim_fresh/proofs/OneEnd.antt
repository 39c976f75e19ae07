-- Deliveries have one end.
use Rattle.pim_fresh.proofs.Words.{◌≡◌, [], ◌∷◌, sym, subst, Reached, Downstream, Runs, RunHasOneEnd, fresh}
use Rattle.pim_fresh.proofs.Words.{after_message, Leaves, HearingHasOneEnd}

pub one_end : RunHasOneEnd → HearingHasOneEnd
unfolding Leaves
one_end once exchange ports limit [] moment one other this that = (once moment (fresh ports limit) one other Reached Reached this that).1
one_end once exchange ports limit (delivery ∷ earlier) moment one other this that =
    let before : this.before ≡ that.before = one_end once exchange ports limit earlier delivery.moment this.before that.before this.was that.was in
    let runs : Runs moment (after_message exchange delivery.message this.before) Reached other = subst (λ (state : Downstream). Runs moment (after_message exchange delivery.message state) Reached other) (sym before) that.runs in
    (once moment (after_message exchange delivery.message this.before) one other Reached Reached this.runs runs).1
