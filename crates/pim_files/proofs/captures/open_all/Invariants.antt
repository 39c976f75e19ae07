use Rattle.pim_files.proofs.Words.{◌≡◌, ◌+◌, drop, take, length, IsUntaken, RequestsFor, all_files, files_from}
use Rattle.pim_files.proofs.Words.{names_of, CanOpen, HoldFiles}
use Rattle.pim_files.proofs.captures.open_all.Given as goal

-- the captures of the ports before this one, of which nothing was taken
abbrev pub invariant-loop-port : goal.invariant-loop-port
invariant-loop-port g l = record {
  at : l.number ≡ l.port-index;
  each : length l.merge.lanes + length (drop l.port-index l.ports) ≡ length l.ports;
  untaken : IsUntaken l.merge;
  requested : RequestsFor (g.O.Opener.known l.initial.opener) (g.O.Opener.known l.opener) (names_of (all_files (take l.port-index (files_from 0 l.further l.ports))));
  present : CanOpen (g.O.Opener.known l.initial.opener).files (all_files (take l.port-index (files_from 0 l.further l.ports)));
  held : HoldFiles (g.O.Opener.known l.initial.opener).files (take l.port-index (files_from 0 l.further l.ports)) l.merge.lanes;
}
