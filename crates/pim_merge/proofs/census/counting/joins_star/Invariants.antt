use Rattle.pim_merge.proofs.Words.{◌≡◌, list_any, is_star}
use Rattle.pim_merge.proofs.census.counting.joins_star.Given as goal

-- a star is joined just if one is among the entries that are left
abbrev pub invariant-loop-entry : goal.invariant-loop-entry
invariant-loop-entry g l = list_any is_star l.entry-iterator ≡ list_any is_star l.set.joined
