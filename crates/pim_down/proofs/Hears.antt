-- What a call that hears a message leaves, whose records count from the moment 0.
use Rattle.pim_down.proofs.Words.{◌≡◌, ◌≢◌, ◌<◌, ℕ, List, Option, Result, Ok, Err, OnOk, OnErr, map, sym, ap, subst, ◌∙◌, arith, AddressFamily, Message, IsMessage, Held, Key, Start, Record, Timing, HearFault, IsAscending, machine_at, hearing, events_of, start_of, needed, count_new, Downstream, record_after, IsSound, heard, needed_for, new_for, IsWithin, MayWantMemory, records_seen, shown, downstream_at, start_after, ◌≤◌}
use Rattle.pim_down.proofs.Origin.{hearing_later, count_on_later, count_new_later}
use Rattle.pim_down.proofs.Heard.{hearing_elsewhere, settled_hearing, within_hearing}
use Rattle.pim_down.proofs.Act.{IsAscending-hearing}
use Rattle.pim_down.proofs.Real.{real_events, real_hearing}

-- it keeps the machines sound
pub sound_heard : (family : AddressFamily) (port : ℕ) (message : Message) (known : List ℕ → Option (List ℕ)) (timing : Timing) (state : Downstream) → IsSound family state → port < state.ports → IsMessage family message → needed_for port message known state ≤ state.limit → IsSound family (heard port message known timing state)
sound_heard family port message known timing state sound there legal room =
    let start = start_of message.holdtime timing in
    let events = events_of known message in
    record {
      ports = sound.ports;
      limit = sound.limit;
      moment = sound.moment;
      ascending = IsAscending-hearing port start events state.records sound.ascending;
      settled = settled_hearing port start events state.records sound.settled;
      real = real_hearing family state.ports port there start events (real_events family known message legal) state.records sound.settled sound.real;
      within = λ other. within_hearing port other state.limit start events state.records sound.ascending room (sound.within other);
    }

module _ {A : Type 0} (bytes_of : A → List ℕ) (ports limit moment port : ℕ) (message : Message) (known : List ℕ → Option (List ℕ)) (timing : Timing) where
  pub heard_is : (start : Start) (old new : List (Held A)) (state : Downstream) → start_after moment start ≡ start_of message.holdtime timing → downstream_at bytes_of ports limit moment old ≡ state → records_seen bytes_of new ≡ hearing port start (events_of known message) (records_seen bytes_of old) → downstream_at bytes_of ports limit moment new ≡ heard port message known timing state
  heard_is start old new state starts view is =
      let events = events_of known message in
      let later : shown bytes_of moment new ≡ hearing port (start_of message.holdtime timing) events (shown bytes_of moment old) =
      ap (λ (rs : List (Record (List ℕ))). map (record_after moment) rs) is
      ∙ hearing_later moment port start events (records_seen bytes_of old)
      ∙ ap (λ (s : Start). hearing port s events (shown bytes_of moment old)) starts in
      let whole : downstream_at bytes_of ports limit moment new ≡ heard port message known timing (downstream_at bytes_of ports limit moment old) =
      ap (λ (rs : List (Record (List ℕ))). record { ports = ports; limit = limit; moment = moment; records = rs }) later in
      whole ∙ ap (heard port message known timing) view

  needed_is : (old : List (Held A)) → needed port (records_seen bytes_of old) (events_of known message) ≡ needed_for port message known (downstream_at bytes_of ports limit moment old)
  needed_is old =
      let held = count_on_later moment port (records_seen bytes_of old) in
      let new = count_new_later moment port (events_of known message) (records_seen bytes_of old) in
      omega arith

  pub within_is : {T : Type 0} (r : Result T HearFault) (old : List (Held A)) (state : Downstream) → downstream_at bytes_of ports limit moment old ≡ state → IsWithin limit (needed port (records_seen bytes_of old) (events_of known message)) r → IsWithin state.limit (needed_for port message known state) r
  within_is r old state view within =
      subst (λ (s : Downstream). IsWithin s.limit (needed_for port message known s) r) view (subst (λ (n : ℕ). IsWithin limit n r) (needed_is old) within)

  pub memory_is : {T : Type 0} (r : Result T HearFault) (old : List (Held A)) (state : Downstream) → downstream_at bytes_of ports limit moment old ≡ state → MayWantMemory (count_new port (records_seen bytes_of old) (events_of known message)) r → MayWantMemory (new_for port message known state) r
  memory_is r old state view may =
      subst (λ (s : Downstream). MayWantMemory (new_for port message known s) r) view
      (subst (λ (n : ℕ). MayWantMemory n r) (sym (count_new_later moment port (events_of known message) (records_seen bytes_of old))) may)

  pub others_are : {T : Type 0} (r : Result T HearFault) (old new : Downstream) → IsAscending old.records → OnOk r (new ≡ heard port message known timing old) → OnErr r (new ≡ old) → (key : Key (List ℕ)) → key.port ≢ port → machine_at key new.records ≡ machine_at key old.records
  others_are (Ok x) old new ascending ok err key differs =
      ap (λ (s : Downstream). machine_at key s.records) ok
      ∙ hearing_elsewhere port (start_of message.holdtime timing) (events_of known message) old.records key ascending differs
  others_are (Err x) old new ascending ok err key differs = ap (λ (s : Downstream). machine_at key s.records) err

  pub sound_is : {T : Type 0} (family : AddressFamily) (r : Result T HearFault) (old new : Downstream) → IsSound family old → port < old.ports → IsMessage family message → OnOk r (new ≡ heard port message known timing old) → OnErr r (new ≡ old) → IsWithin old.limit (needed_for port message known old) r → IsSound family new
  sound_is family (Ok x) old new sound there legal ok err within = subst (IsSound family) (sym ok) (sound_heard family port message known timing old sound there legal within)
  sound_is family (Err x) old new sound there legal ok err within = subst (IsSound family) (sym err) sound

pub on_err : {T E P Q : Type 0} (r : Result T E) → (P → Q) → OnErr r P → OnErr r Q
on_err (Ok x) f p = p
on_err (Err x) f p = f p
