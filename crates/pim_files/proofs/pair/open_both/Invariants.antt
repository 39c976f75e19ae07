use Rattle.pim_files.proofs.Words.{◌≡◌, ◌+◌, drop, take, length, IsUntaken, filter, A, B, RequestsFor, all_files}
use Rattle.pim_files.proofs.Words.{files_from, names_of, of_router, CanOpen, HoldFiles, is_of}
use Rattle.pim_files.proofs.pair.open_both.Given as goal

-- of each router the captures of its ports before this one, of which nothing was taken
abbrev pub invariant-loop-port : goal.invariant-loop-port
invariant-loop-port g l = record {
  at : l.number ≡ l.port-index;
  each_of_a : length l.pair.a.lanes + length (filter (is_of A) (drop l.port-index l.ports)) ≡ length (filter (is_of A) l.ports);
  each_of_b : length l.pair.b.lanes + length (filter (is_of B) (drop l.port-index l.ports)) ≡ length (filter (is_of B) l.ports);
  untaken_of_a : IsUntaken l.pair.a;
  untaken_of_b : IsUntaken l.pair.b;
  requested : RequestsFor (g.O.Opener.known l.initial.opener) (g.O.Opener.known l.opener) (names_of (all_files (take l.port-index (files_from 0 l.further l.ports))));
  present : CanOpen (g.O.Opener.known l.initial.opener).files (all_files (take l.port-index (files_from 0 l.further l.ports)));
  held_of_a : HoldFiles (g.O.Opener.known l.initial.opener).files (of_router A (take l.port-index (files_from 0 l.further l.ports))) l.pair.a.lanes;
  held_of_b : HoldFiles (g.O.Opener.known l.initial.opener).files (of_router B (take l.port-index (files_from 0 l.further l.ports))) l.pair.b.lanes;
}
