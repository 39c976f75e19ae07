-- What a packet or a fragment gives by the judgment of its origin.
use Rattle.std.proofs.Common.{◌≡◌, ◌⊎◌, ◌<◌, ◌∙◌, ℕ, Bool, true, false, List, Option, Some, Result, Ok, Err, IfOk}
use Rattle.std.proofs.Common.{ap, subst, sym, refl, inl, ◌&&◌, length, if◌then◌else◌}
use Rattle.pim_addr.specs.Faults.{Answers}
use Rattle.pim_capture.specs.declared.event.Event.{Event}
use Rattle.pim_capture.specs.declared.fault.CaptureFault.{CaptureFault}
use Rattle.pim_capture.specs.declared.fault.CaptureFault.TheVariants.{Memory}
use Rattle.pim_capture.specs.declared.fault.CaptureFault.TheVariants as fault
use Rattle.pim_capture.specs.declared.incomplete.RecordPlace.{RecordPlace}
use Rattle.pim_capture.specs.Capture.{Answer, EventSeen, packet}
use Rattle.pim_capture.specs.Frame.{Datagram}
use Rattle.pim_capture.specs.Next.{OnMemory, event_seen}
use Rattle.pim_container.specs.declared.choice.Mixed.{Mixed}
use Rattle.pim_container.specs.declared.choice.Mixed.TheVariants.{Names, Numbers, Vlans}
use Rattle.pim_container.specs.declared.event.Origin.{Origin}
use Rattle.pim_container.specs.EventSeen as any
use Rattle.pim_fragments.specs.declared.headers.Fragment.{Fragment}
use Rattle.pim_fragments.specs.Packets.{whole_after, kept_after, asks_after}
use Rattle.pim_fragments.specs.Pieces.{piece_of}
use Rattle.pim_merge.specs.declared.taker.FragmentKey.{FragmentKey}
use Rattle.pim_merge.specs.Source.{IsLonger}
use Rattle.pim_merge.specs.Taker.{TakerState, same_key, key_of, carrying, whole_given, fragment_given, taken_given}
use Rattle.pim_merge.proofs.Needing.{memory_of}
use Rattle.pim_merge.specs.Taker.{asks_to_hold, is_taken, origin_given, mixed_fault, judged_by, packet_after, holding, state_after}

-- ---- the judgment of an origin

module _ (taken untaken : EventSeen) where
  -- a fault of the judgment is what the record gives
  pub fault_given : (judged : Result Bool Mixed) (f : CaptureFault) → origin_given judged ≡ Err f →
      taken_given judged taken untaken ≡ Err f
  fault_given (Ok true) f is = absurd cc
  fault_given (Ok false) f is = absurd cc
  fault_given (Err mixed) f is = let same : mixed_fault mixed ≡ f = cc in ap Err same

  pub taken_is : (judged : Result Bool Mixed) → origin_given judged ≡ Ok true →
      taken_given judged taken untaken ≡ Ok taken
  taken_is (Ok true) is = refl
  taken_is (Ok false) is = absurd cc
  taken_is (Err mixed) is = absurd cc

  pub untaken_is : (judged : Result Bool Mixed) → origin_given judged ≡ Ok false →
      taken_given judged taken untaken ≡ Ok untaken
  untaken_is (Ok true) is = absurd cc
  untaken_is (Ok false) is = refl
  untaken_is (Err mixed) is = absurd cc

-- that fault doesn't say that memory was refused
pub never_memory : (judged : Result Bool Mixed) (f : CaptureFault) (fact : Type 0) → origin_given judged ≡ Err f →
    OnMemory {A = Event} (Err f) fact
never_memory (Ok true) f fact is = absurd cc
never_memory (Ok false) f fact is = absurd cc
never_memory (Err (Names first other)) f fact is =
    let same : mixed_fault (Names first other) ≡ f = cc in subst (λ g. OnMemory {A = Event} (Err g) fact) same tt
never_memory (Err (Numbers first other)) f fact is =
    let same : mixed_fault (Numbers first other) ≡ f = cc in subst (λ g. OnMemory {A = Event} (Err g) fact) same tt
never_memory (Err (Vlans first other)) f fact is =
    let same : mixed_fault (Vlans first other) ≡ f = cc in subst (λ g. OnMemory {A = Event} (Err g) fact) same tt

is_taken_by : (judged : Result Bool Mixed) → origin_given judged ≡ Ok true → is_taken judged ≡ true
is_taken_by (Ok true) is = refl
is_taken_by (Ok false) is = absurd cc
is_taken_by (Err mixed) is = absurd cc

module _ (taken untaken : TakerState) where
  state_taken : (judged : Result Bool Mixed) → origin_given judged ≡ Ok true →
      taken ≡ (if is_taken judged then taken else untaken)
  state_taken (Ok true) is = refl
  state_taken (Ok false) is = absurd cc
  state_taken (Err mixed) is = absurd cc

  pub state_untaken : (judged : Result Bool Mixed) → origin_given judged ≡ Ok false →
      untaken ≡ (if is_taken judged then taken else untaken)
  state_untaken (Ok true) is = absurd cc
  state_untaken (Ok false) is = refl
  state_untaken (Err mixed) is = absurd cc

-- room is asked for, if memory was refused
pub if_memory : (f : CaptureFault) (P : Type 0) → P → OnMemory {A = Event} (Err f) P
if_memory fault.Memory P p = p
if_memory fault.Magic P p = tt
if_memory fault.LinkType P p = tt
if_memory fault.Truncated P p = tt
if_memory fault.TooLong P p = tt
if_memory fault.Read P p = tt
if_memory fault.Failed P p = tt
if_memory fault.Block P p = tt
if_memory fault.Time P p = tt
if_memory (fault.Vlans one other) P p = tt
if_memory (fault.Interfaces one other) P p = tt
if_memory (fault.InterfaceNames one other) P p = tt
if_memory (fault.LinkNumber number) P p = tt
if_memory fault.Gzip P p = tt

-- ---- a packet that is taken

module _ (result : Result Event CaptureFault) (millis : ℕ) (message : List ℕ) (datagram : Datagram) (given : Answer)
    (same : message ≡ datagram.payload) (is : given ≡ Ok (packet millis datagram.payload datagram)) where
  pub packet_answers : (items : List ℕ) →
      (result ≡ Err Memory)
      ⊎ Answers (event_seen items) result (Ok (packet millis message (carrying message datagram))) →
      (result ≡ Err Memory) ⊎ Answers (event_seen items) result given
  packet_answers items answers =
      subst (λ g. (result ≡ Err Memory) ⊎ Answers (event_seen items) result g)
      (ap (λ m. Ok (packet millis m (carrying m datagram))) same ∙ sym is) answers

  pub packet_longer : (room : ℕ) → OnMemory result (room < length message) →
      OnMemory result (IsLonger room (Some given))
  packet_longer room longer =
      subst (λ g. OnMemory result (IsLonger room (Some g)))
      (ap (λ m. Ok (packet millis m (carrying m datagram))) same ∙ sym is) longer

-- ---- a fragment that is taken

pub always : {A : Type 0} (result : Result A CaptureFault) {P : Type 0} → P → IfOk result (λ _. P)
always (Ok value) p = p
always (Err f) p = tt

module _ (state after : TakerState) (millis : ℕ) (origin : Origin) (datagram : Datagram) (part : Fragment)
    (bytes : List ℕ) (key : FragmentKey) (place : RecordPlace)
    (judged : origin_given (judged_by state origin) ≡ Ok true) (after_is : after ≡ packet_after state origin)
    (key_is : key ≡ key_of datagram part origin) (place_is : place ≡ state.place) where
  by_those : {X : Type 0} (f : TakerState → FragmentKey → RecordPlace → X) →
      f after key place ≡ f (packet_after state origin) (key_of datagram part origin) state.place
  by_those f = λ i. f (after_is i) (key_is i) (place_is i)

  pub fragment_gives : (whole : Option (List ℕ)) (untaken : EventSeen) →
      whole ≡ whole_after same_key key place millis (piece_of part bytes) after.kept →
      taken_given (judged_by state origin) (fragment_given state millis origin (carrying bytes datagram) part) untaken
      ≡ Ok (whole_given millis datagram part.protocol whole)
  fragment_gives whole untaken is =
      taken_is (fragment_given state millis origin (carrying bytes datagram) part) untaken (judged_by state origin) judged
      ∙ ap (λ w. Ok (whole_given millis datagram part.protocol w))
      (sym (is ∙ by_those (λ a k p. whole_after same_key k p millis (piece_of part bytes) a.kept)))

  pub fragment_holds : (new : TakerState) →
      new ≡ holding (kept_after same_key key place millis (piece_of part bytes) after.kept) after →
      new ≡ state_after state (any.fragment millis origin (carrying bytes datagram) part)
  fragment_holds new is =
      is ∙ by_those (λ a k p. holding (kept_after same_key k p millis (piece_of part bytes) a.kept) a)
      ∙ state_taken _ (packet_after state origin) (judged_by state origin) judged

  pub fragment_asks : asks_after same_key key place millis (piece_of part bytes) after.kept ≡ true →
      asks_to_hold state (any.fragment millis origin (carrying bytes datagram) part) ≡ true
  fragment_asks asks =
      ap (λ (taken : Bool). taken && asks_after same_key (key_of datagram part origin) state.place millis (piece_of
      part bytes) state.kept) (is_taken_by (judged_by state origin) judged)
      ∙ sym (by_those (λ a k p. asks_after same_key k p millis (piece_of part bytes) a.kept)) ∙ asks

  pub fragment_longer : (result : Result Event CaptureFault) (whole : Option (List ℕ)) (untaken : EventSeen)
      (room : ℕ) (asks : Type 0) → whole ≡ whole_after same_key key place millis (piece_of part bytes) after.kept →
      OnMemory result (IsLonger room (Some (Ok (whole_given millis datagram part.protocol whole)))) →
      OnMemory result (IsLonger room (Some (taken_given (judged_by state origin) (fragment_given state millis origin
      (carrying bytes datagram) part) untaken)) ⊎ asks)
  fragment_longer result whole untaken room asks is longer =
      memory_of result _ _ (λ more. inl (subst (λ g. IsLonger room (Some g)) (sym (fragment_gives whole untaken is))
      more)) longer
