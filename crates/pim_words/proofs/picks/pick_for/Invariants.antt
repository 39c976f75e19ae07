use Rattle.pim_words.proofs.Words.{◌≡◌, drop, pick_for}
use Rattle.pim_words.proofs.picks.pick_for.Given as goal

abbrev pub invariant-loop-pick : goal.invariant-loop-pick
invariant-loop-pick l = pick_for l.port (drop l.pick-index l.picks) ≡ pick_for l.port l.picks
