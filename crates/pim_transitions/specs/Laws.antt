-- Laws of the definitions. Each is proved, as the `ensures` of a function of `src/laws.rt`.
use Rattle.std.specs.Prelude.{◌≡◌, ℕ, List}
use Rattle.pim_down.specs.declared.machines.key.Key.{Key}
use Rattle.pim_down.specs.declared.machines.machine.Record.{Record}
use Rattle.pim_down.specs.Records.{IsAscending, machine_at}
use Rattle.pim_down.specs.Tables.{Start}
use Rattle.pim_down.specs.Hearing.{Event, hearing, effects, at_end}
use Rattle.pim_down.specs.Sound.{IsSettled}
use Rattle.pim_transitions.specs.declared.transition.Transition.{Transition}
use Rattle.pim_transitions.specs.declared.candidate.Candidate.{Candidate}
use Rattle.pim_transitions.specs.Transitions.{AreTransitions}
use Rattle.pim_transitions.specs.Affected.{IsAffected, transitions_to}

-- The candidates that differ after a message are its transitions, where records are in key order
-- and no machine is in a Tmp state.
abbrev pub CandidatesShowTransitions : Type 0
CandidatesShowTransitions =
    (port : ℕ) (start : Start) (events : List Event) (records : List (Record (List ℕ)))
    (candidates : List (Candidate (List ℕ))) →
    IsAscending records → IsSettled records → IsAffected port events records candidates →
    AreTransitions port start events records (hearing port start events records)
    (transitions_to (hearing port start events records) candidates)

-- A message has one list of transitions.
abbrev pub TransitionsAreOneList : Type 0
TransitionsAreOneList =
    (port : ℕ) (start : Start) (events : List Event) (before after : List (Record (List ℕ)))
    (one other : List (Transition (List ℕ))) →
    AreTransitions port start events before after one →
    AreTransitions port start events before after other → one ≡ other

-- A message has a list of transitions, whatever records there are before it and after.
abbrev pub TransitionsAreThere : Type 0
TransitionsAreThere =
    (port : ℕ) (start : Start) (events : List Event) (before after : List (Record (List ℕ))) →
    (items : List (Transition (List ℕ))) × AreTransitions port start events before after items

-- Each transition is a path of rows of the tables: the machine after it is what the message's
-- events make of the machine before it, one after the other, and End of Message after them.
abbrev pub TransitionsArePaths : Type 0
TransitionsArePaths =
    (port : ℕ) (start : Start) (events : List Event)
    (records : List (Record (List ℕ))) (key : Key (List ℕ)) → IsAscending records →
    machine_at key (hearing port start events records)
    ≡ at_end port key (effects port start events key (machine_at key records))
