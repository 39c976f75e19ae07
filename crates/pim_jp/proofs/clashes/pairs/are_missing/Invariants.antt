use Rattle.pim_jp.proofs.Words.{◌≡◌, ◌*◌, ◌<◌, ℕ, false, get_or, is_among}
use Rattle.pim_jp.proofs.clashes.pairs.are_missing.Given as goal

abbrev pub invariant-loop-pair : goal.invariant-loop-pair
invariant-loop-pair g l = record {
  missing : (index : ℕ) (other : g.row.F-Number.Denot) → index < 2 * l.pair → is_among g.F.Family.value_of l.fn.sorted (g.F.Family.value_of (get_or l.fn.numbers index other)) ≡ false;
}
