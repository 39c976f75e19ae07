use Rattle.pim_warnings.proofs.Words.{◌≡◌, ◌≤◌, filter, files_from, file_at, are_in}
use Rattle.pim_warnings.proofs.Named.{left_from}
use Rattle.pim_warnings.proofs.naming.file_at.Given as goal

-- the port that is sought among those that are left
abbrev pub invariant-loop-port : goal.invariant-loop-port
invariant-loop-port g l = record {
  few : l.at ≤ l.port-index;
  sought : file_at (left_from l.side l.further l.at l.port-index l.ports) l.left l.file ≡ file_at (filter (are_in l.side) (files_from 0 l.further l.ports)) l.number l.file;
}
