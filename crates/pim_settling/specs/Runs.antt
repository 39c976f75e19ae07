-- The messages of a change as what a port hears: one message for each run of its units.
use Rattle.std.specs.Prelude.{◌≡◌, ℕ, zero, suc, ◌<◌, true, List, [], ◌∷◌, length, Option}
use Rattle.std.specs.Option.{is_some}
use Rattle.std.specs.List.{flat_map}
use Rattle.pim_addr.specs.declared.family.AddressFamily.{AddressFamily}
use Rattle.pim_jp.specs.Message.{Message}
use Rattle.pim_down.specs.Hearing.{Event, set_events, events_of}
use Rattle.pim_form.specs.Laws.{IsReadAs}
use Rattle.pim_form.specs.NormalForm.{GroupForm}
use Rattle.pim_form.specs.Settled.{group_in}
use Rattle.pim_change.specs.Change.{ChangeUnit}
use Rattle.pim_change.specs.Written.{written_sets}
use Rattle.pim_fresh.specs.Exchange.{Exchange}
use Rattle.pim_fresh.specs.Deliveries.{Delivery, is_delivered}

-- The events of the message of a run, for a port that knows the same RPs.
abbrev pub run_events : (List ℕ → Option (List ℕ)) → List ChangeUnit → List Event
run_events rps run = flat_map (set_events rps) (written_sets rps run)

-- The run of this number; an empty one after the last run.
unfoldable pub run_at : ℕ → List (List ChangeUnit) → List ChangeUnit
run_at number [] = []
run_at zero (run ∷ runs) = run
run_at (suc number) (run ∷ runs) = run_at number runs

-- Each message has the events of its run.
abbrev pub AreHeard : (List ℕ → Option (List ℕ)) → List (List ChangeUnit) → Exchange → Type 0
AreHeard rps runs exchange = (number : ℕ) → exchange.messages number ≡ run_events rps (run_at number runs)

-- The message of each run came.
abbrev pub AllCame : List (List ChangeUnit) → List Delivery → Type 0
AllCame runs deliveries = (number : ℕ) → number < length runs → is_delivered number deliveries ≡ true

-- An RP is known for the group of each star in the form.
abbrev pub KnowRps : (List ℕ → Option (List ℕ)) → List GroupForm → Type 0
KnowRps rps form = (group : List ℕ) → is_some (group_in group form).star ≡ true → is_some (rps group) ≡ true

-- ---- from the bytes

-- The events of each message are those of what its bytes, sent from this source, are read as.
unfoldable pub AreEventsOf : AddressFamily → List ℕ → (List ℕ → Option (List ℕ)) → List (List ℕ) → (ℕ → List Event) → Type 0
AreEventsOf family source rps [] events = (number : ℕ) → events number ≡ []
AreEventsOf family source rps (bytes ∷ messages) events =
    ((said : Message) → IsReadAs family source bytes said → events 0 ≡ events_of rps said)
    × AreEventsOf family source rps messages (λ number. events (suc number))

-- Each message came.
abbrev pub EachCame : List (List ℕ) → List Delivery → Type 0
EachCame messages deliveries = (number : ℕ) → number < length messages → is_delivered number deliveries ≡ true
