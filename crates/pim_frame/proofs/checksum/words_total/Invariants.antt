use Rattle.std.proofs.Common.{◌≡◌, ◌+◌, ◌*◌, ◌≤◌, ◌^◌, drop}
use Rattle.pim_frame.specs.Folded.{wide_total}
use Rattle.pim_frame.proofs.checksum.words_total.Given as goal

-- the words that are left bring the sum to that of all
abbrev pub invariant-loop-word : goal.invariant-loop-word
invariant-loop-word l = record {
  small : l.sum ≤ 2 ^ 32 * l.word-index;
  total : l.sum + wide_total (drop l.word-index l.words) ≡ wide_total l.words;
}
