-- How contracts see what is kept of a neighbour.
use Rattle.std.specs.Prelude.{ℕ, ◌-◌, List, map, option_map}
use Rattle.pim_hello.specs.Hello.{Parameters}
use Rattle.pim_hello.specs.Neighbours.{Neighbour, Table}
use Rattle.pim_hello.specs.Delays.{delays_seen}
use Rattle.pim_hello.specs.declared.parameters.Parameters.{Parameters as Sent}
use Rattle.pim_hello.specs.declared.parameters.Kept.{Kept}

-- The options of a Hello, except the Address List, with their numbers.
abbrev pub parameters_seen : Sent → Parameters
parameters_seen hello = record {
  holdtime = hello.holdtime;
  lan = option_map delays_seen hello.lan;
  priority = hello.priority;
  generation = hello.generation;
}

-- A neighbour at this moment, with the end of its time as the time left until then.
abbrev pub kept_seen : ℕ → Kept → Neighbour
kept_seen moment kept =
    record { parameters = parameters_seen kept.parameters; left = option_map (λ end. end - moment) kept.end }

-- An address as its bytes, and what is kept of it.
abbrev pub entry_seen : {A : Type 0} → (A → List ℕ) → ℕ → A × Kept → List ℕ × Neighbour
entry_seen bytes_of moment entry = (bytes_of entry.0, kept_seen moment entry.1)

-- The neighbours of a port at this moment.
abbrev pub table_seen : {A : Type 0} → (A → List ℕ) → ℕ → List (A × Kept) → Table
table_seen bytes_of moment entries = record { moment = moment; entries = map (entry_seen bytes_of moment) entries }

-- What the last accepted Hello of the neighbour said.
abbrev pub hello_of_kept : Kept → Parameters
hello_of_kept kept = parameters_seen kept.parameters
