-- Room for records while the events of a message act, one after another.
use Rattle.std.specs.Prelude.{ℕ, ◌≤◌, List, [], ◌∷◌, length}
use Rattle.pim_down.specs.Tables.{Start}
use Rattle.pim_down.specs.declared.machines.machine.Record.{Record}
use Rattle.pim_down.specs.Hearing.{Event}
use Rattle.pim_down.specs.Hearing.{act}

-- After each of the events there are at most `room` records.
unfoldable pub HasRoom : ℕ → Start → ℕ → List Event → List (Record (List ℕ)) → Type 0
HasRoom port start room [] records = Unit {0}
HasRoom port start room (event ∷ events) records =
    (length (act port start event records) ≤ room) × HasRoom port start room events (act port start event records)
