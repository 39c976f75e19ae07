use Rattle.pim_warnings.proofs.Words.{◌≡◌, drop, filter, map, slice_index_or, More, is_further, with_more, name_at}
use Rattle.pim_warnings.proofs.naming.name_at.Given as goal

-- the file that is sought among those that are left
abbrev pub invariant-loop-one : goal.invariant-loop-one
invariant-loop-one g l = slice_index_or (map (λ (one : More). one.file) (filter (is_further l.at l.port) (drop l.one-index l.further))) l.left l.port.file ≡ name_at (with_more l.at l.further l.port) l.file
