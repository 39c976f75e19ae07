use Rattle.pim_down.proofs.Words.{◌≡◌, Some, sym, subst, fired, shown, firing_seen}
use Rattle.pim_down.proofs.FirstDue.{fired_with}
use Rattle.pim_down.proofs.running.timers.fire_first.Goals as goal

pub returns-clause-fired : goal.returns-clause-fired
returns-clause-fired g c =
    let bytes_of = g.F.Family.bytes_of in
    let now = c.args.first.ends_at in
    let left = shown bytes_of now c.fire_timer-fired.new.records.items in
    let fires = fired_with (shown bytes_of now c.args.records.now.items) left (firing_seen bytes_of c.fire_timer-fired.result.0) c.fire_timer-fired.ensures.fires in
    subst (λ s. fired (shown bytes_of now c.args.records.now.items) ≡ Some (s, left)) (sym (c.step_of.ensures bytes_of)) fires
