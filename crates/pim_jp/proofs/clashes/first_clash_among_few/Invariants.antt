use Rattle.pim_jp.proofs.Words.{◌≡◌, ◌*◌, drop, source_length, AreApart}
use Rattle.pim_jp.proofs.clashes.first_clash_among_few.Given as goal

abbrev pub invariant-loop-place : goal.invariant-loop-place
invariant-loop-place g l = record {
  left : l.rest ≡ drop (l.place * source_length g.F.Family.family) l.fn.bytes;
  apart : AreApart g.F.Family.family l.fn.joined l.place l.fn.bytes;
}
