use Rattle.pim_mirror.proofs.Words.{◌≡◌, RouterState, turns_left, HasReached}
use Rattle.pim_mirror.proofs.mirroring.reach.Given as goal

-- what is reached from here is reached from the start
abbrev pub invariant-loop-moment : goal.invariant-loop-moment
invariant-loop-moment g l =
    ((after : RouterState) → HasReached l.fn.moment l.router after → HasReached l.fn.moment l.fn.router after)
    × (l.router.ports ≡ l.fn.router.ports)

-- each run that tells something comes nearer to the moment
abbrev pub decreases-loop-moment : goal.decreases-loop-moment
decreases-loop-moment g l = turns_left l.fn.moment l.router
