-- Where machines end that hear messages: the laws in `src/laws.rt`.
use Rattle.std.specs.Prelude.{◌≡◌, ℕ, ◌≤◌, List, Option}
use Rattle.std.specs.List.{flat_map}
use Rattle.pim_addr.specs.declared.family.AddressFamily.{AddressFamily}
use Rattle.pim_down.specs.declared.machines.key.Key.{Key}
use Rattle.pim_down.specs.Records.{IsAscending, machine_at}
use Rattle.pim_down.specs.Sound.{IsSound}
use Rattle.pim_down.specs.Time.{Downstream}
use Rattle.pim_form.specs.Messages.{Writing, IsWriting, HaveRps}
use Rattle.pim_form.specs.NormalForm.{GroupForm, IsNormal, IsFormOf}
use Rattle.pim_form.specs.Settled.{IsSettledAt}
use Rattle.pim_form.specs.Wants.{wants}
use Rattle.pim_change.specs.Change.{ChangeUnit, change}
use Rattle.pim_change.specs.Written.{CarryChange}
use Rattle.pim_fresh.specs.Exchange.{Exchange}
use Rattle.pim_fresh.specs.Deliveries.{Delivery, final_moment}
use Rattle.pim_settling.specs.Course.{Course, IsOn, IsPast}
use Rattle.pim_settling.specs.Hearing.{Hears, course_of}
use Rattle.pim_settling.specs.Runs.{AreHeard, AllCame, KnowRps, AreEventsOf, EachCame}
use Rattle.pim_settling.specs.Carrying.{CarriesChange}

-- Each machine goes the course that the deliveries make of its own course.
abbrev pub CoursesAreKept : Type 0
CoursesAreKept = (exchange : Exchange) (start after : Downstream) (deliveries : List Delivery) (moment : ℕ)
    (courses : Key (List ℕ) → Course) → IsAscending start.records →
    ((key : Key (List ℕ)) → IsOn key.what start.moment (courses key) (machine_at key start.records)) →
    Hears exchange start deliveries moment after →
    (after.moment ≡ moment)
    × ((key : Key (List ℕ)) → IsPast key.what moment (course_of exchange key (courses key) deliveries)
    (machine_at key after.records))

-- A port is settled at one form and hears messages that say exactly the change to another form, in
-- any order and any number of times. From the final moment of these deliveries on it is settled at
-- the other form.
abbrev pub ChangeSettles : Type 0
ChangeSettles = (family : AddressFamily) (exchange : Exchange) (old new : List GroupForm) (start after : Downstream)
    (deliveries : List Delivery) (moment : ℕ) → IsSound family start → IsSettledAt exchange.port old start.records →
    CarriesChange exchange old new deliveries → Hears exchange start deliveries moment after →
    final_moment exchange.timing.override_ms deliveries ≤ moment →
    (after.moment ≡ moment) × IsSettledAt exchange.port new after.records

-- If each message of a change came and the RPs of all stars are known, the messages say exactly
-- that change, cut into any runs.
abbrev pub RunsCarryTheChange : Type 0
RunsCarryTheChange = (rps : List ℕ → Option (List ℕ)) (old new : List GroupForm) (runs : List (List ChangeUnit)) (exchange : Exchange)
    (deliveries : List Delivery) → flat_map (λ run. run) runs ≡ change old new → KnowRps rps old → KnowRps rps new →
    AreHeard rps runs exchange → AllCame runs deliveries → CarriesChange exchange old new deliveries

-- A port is settled at one normal form and hears the messages of the change to another one. Their
-- bytes are read, each comes at least once and nothing else, and no Expiry Timer ends. From the
-- final moment of these deliveries on it is settled at the other form.
abbrev pub WrittenChangeSettles : Type 0
WrittenChangeSettles = (family : AddressFamily) (writing : Writing) (rps : List ℕ → Option (List ℕ)) (old new : List GroupForm)
    (messages : List (List ℕ)) (exchange : Exchange) (start after : Downstream) (deliveries : List Delivery)
    (moment : ℕ) → IsWriting family writing → IsNormal family old → IsNormal family new →
    HaveRps family rps old → HaveRps family rps new → CarryChange family writing rps old new messages →
    AreEventsOf family writing.own rps messages exchange.messages → EachCame messages deliveries →
    IsSound family start → IsSettledAt exchange.port old start.records →
    Hears exchange start deliveries moment after → final_moment exchange.timing.override_ms deliveries ≤ moment →
    (after.moment ≡ moment) × IsSettledAt exchange.port new after.records

-- A router of one port that is settled at a normal form wants exactly what the form means.
abbrev pub SettledWants : Type 0
SettledWants = (family : AddressFamily) (form : List GroupForm) (state : Downstream) → IsNormal family form →
    state.ports ≡ 1 → IsSettledAt 0 form state.records → IsFormOf family (wants state) form
