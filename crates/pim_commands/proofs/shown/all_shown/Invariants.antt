use Rattle.pim_commands.proofs.Words.{◌≡◌, ℕ, List, ◌++◌, map, drop, filter, More, is_further, with_more}
use Rattle.std.specs.Borrow.{Bor}
use Rattle.pim_commands.specs.Shown.{all_shown, shown_name}
use Rattle.pim_commands.proofs.shown.all_shown.Given as goal

-- the names that were added and those that are left are all
abbrev pub invariant-loop-one : goal.invariant-loop-one
invariant-loop-one g l =
    l.names ++ map (λ (name : Bor (List ℕ)). shown_name l.json name.now) (map (λ (one : More). one.file) (filter (is_further l.at l.port) (drop l.one-index l.further)))
    ≡ all_shown l.json (with_more l.at l.further l.port)
