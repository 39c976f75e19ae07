-- What a verdict tells of the packet, and what the packet tells of its verdict.
use Rattle.pim_trace.proofs.Words.{◌≡◌, ℕ, Bool, true, false, not, nat_eq, nat_lt, List, [], ◌∷◌, ◌++◌, map, Some, Result, Ok}
use Rattle.pim_trace.proofs.Words.{Err, IfOk, refl, sym, ap, ◌∙◌, AllByRecursion, pointwise, false≢true, AddressFamily, fault_if}
use Rattle.pim_trace.proofs.Words.{judged, Content, hello, join_prune, other, content, frame_faults, FrameFault, Hello, Heard}
use Rattle.pim_trace.proofs.Words.{JpFault, Message, message_of, Verdict, Packet, Receives, received, unless, causes, body_causes}
use Rattle.pim_trace.proofs.Words.{message_causes, hello_causes, room_causes, body_heard, message_heard, knows, own_address}
use Rattle.pim_trace.proofs.Words.{needed_by, RouterState, Reading, read_hello, read_message, read_other, read_fault, hello_by}
use Rattle.pim_trace.proofs.Words.{message_by, read_by, packet_read, read_causes, read_received, IsTakenAsRead, message_in}
use Rattle.pim_hello.specs.Faults.{faults as hello_faults}
use Rattle.pim_hello.specs.declared.fault.HelloFault.{HelloFault}
use Rattle.pim_hello.specs.Value.{hello_of}
use Rattle.pim_jp.specs.Faults.{faults as join_prune_faults}
use Rattle.pim_router.specs.declared.verdict.Verdict.TheVariants as verdict
use Rattle.pim_router.specs.declared.verdict.Malformed.TheVariants as malformed
use Rattle.pim_router.specs.declared.verdict.Store.TheVariants as store

-- ---- lists of causes

nil_parts : {A : Type 0} (xs ys : List A) → xs ++ ys ≡ [] → (xs ≡ []) × (ys ≡ [])
nil_parts [] ys e = (refl, e)
nil_parts (x ∷ xs) ys e = absurd cc

map_nil : {A B : Type 0} (f : A → B) (xs : List A) → map f xs ≡ [] → xs ≡ []
map_nil f [] e = refl
map_nil f (x ∷ xs) e = absurd cc

-- a verdict that refuses the packet
pub refuses : Verdict → Bool
refuses verdict.Mine = true
refuses (verdict.Malformed fault) = true
refuses (verdict.OtherType type) = true
refuses (verdict.HelloTaken heard) = false
refuses verdict.UnknownNeighbour = true
refuses verdict.NotForUs = true
refuses (verdict.Full full) = true
refuses verdict.Applied = false

abbrev Refuse : List Verdict → Type 0
Refuse reported = AllByRecursion (λ v. refuses v ≡ true) reported

refuse_append : (xs ys : List Verdict) → Refuse xs → Refuse ys → Refuse (xs ++ ys)
refuse_append [] ys a b = b
refuse_append (x ∷ xs) ys a b = (a.0, refuse_append xs ys a.1 b)

refuse_if : (b : Bool) (v : Verdict) → refuses v ≡ true → Refuse (fault_if b v)
refuse_if true v e = (e, tt)
refuse_if false v e = tt

refuse_map : {A : Type 0} (f : A → Verdict) → ((x : A) → refuses (f x) ≡ true) → (xs : List A) → Refuse (map f xs)
refuse_map f each [] = tt
refuse_map f each (x ∷ xs) = (each x, refuse_map f each xs)

module _ (family : AddressFamily) (state : RouterState) where
  body_refuse : (port : ℕ) (source : List ℕ) (body : Content) → Refuse (body_causes family port source state body)
  unfolding refuses
  body_refuse port source (other type) = (refl, tt)
  body_refuse port source (hello body) =
      refuse_append (map (λ (fault : HelloFault). verdict.Malformed (malformed.Hello fault)) (hello_faults body)) (hello_causes port source state (hello_of family body).parameters)
      (refuse_map (λ (fault : HelloFault). verdict.Malformed (malformed.Hello fault)) (λ fault. refl) (hello_faults body)) (refuse_if _ (verdict.Full store.Neighbours) refl)
  body_refuse port source (join_prune body) =
      let message = message_of family body in
      refuse_append (map (λ (fault : JpFault). verdict.Malformed (malformed.JoinPrune fault)) (join_prune_faults family body)) (message_causes family port source state message)
      (refuse_map (λ (fault : JpFault). verdict.Malformed (malformed.JoinPrune fault)) (λ fault. refl) (join_prune_faults family body))
      (refuse_append
      (fault_if (not (knows port source state)) verdict.UnknownNeighbour ++ fault_if (not (pointwise nat_eq message.upstream (own_address port state))) verdict.NotForUs)
      (room_causes family port state message)
      (refuse_append (fault_if (not (knows port source state)) verdict.UnknownNeighbour) (fault_if (not (pointwise nat_eq message.upstream (own_address port state))) verdict.NotForUs)
      (refuse_if (not (knows port source state)) verdict.UnknownNeighbour refl) (refuse_if (not (pointwise nat_eq message.upstream (own_address port state))) verdict.NotForUs refl))
      (refuse_if (nat_lt state.machines.limit (needed_by family port message state)) (verdict.Full (store.Records (needed_by family port message state))) refl))

  abbrev own_cause : Packet → List Verdict
  own_cause packet = fault_if (pointwise nat_eq packet.source (own_address packet.port state)) verdict.Mine

  abbrev frame_causes : Packet → List Verdict
  frame_causes packet = map (λ (fault : FrameFault). verdict.Malformed (malformed.Frame fault)) (frame_faults family packet.source packet.destination packet.bytes)

  all_refuse : (packet : Packet) → Refuse (causes family packet state)
  unfolding refuses
  all_refuse packet =
      refuse_append (own_cause packet ++ frame_causes packet) (body_causes family packet.port packet.source state (content packet.bytes))
      (refuse_append (own_cause packet) (frame_causes packet) (refuse_if (pointwise nat_eq packet.source (own_address packet.port state)) verdict.Mine refl)
      (refuse_map (λ (fault : FrameFault). verdict.Malformed (malformed.Frame fault)) (λ fault. refl) (frame_faults family packet.source packet.destination packet.bytes)))
      (body_refuse packet.port packet.source (content packet.bytes))

  -- a packet is refused by a cause, or it has none and is taken
  by_unless : (P : Verdict × RouterState → Type 0) (reported : List Verdict) (taken : Verdict × RouterState) → Refuse reported → ((v : Verdict) → refuses v ≡ true → P (v, state)) → (reported ≡ [] → P taken)
      → P (unless reported state taken)
  by_unless P [] taken all refused takes = takes refl
  by_unless P (v ∷ others) taken all refused takes = refused v all.0

  pub by_causes : (packet : Packet) (P : Verdict × RouterState → Type 0) → ((v : Verdict) → refuses v ≡ true → P (v, state))
      → (frame_faults family packet.source packet.destination packet.bytes ≡ [] → body_causes family packet.port packet.source state (content packet.bytes) ≡ []
      → P (body_heard family packet.port packet.source state (content packet.bytes)))
      → P (received family packet state)
  by_causes packet P refused takes =
      by_unless P (causes family packet state) (body_heard family packet.port packet.source state (content packet.bytes)) (all_refuse packet) refused none
    where
      none : causes family packet state ≡ [] → P (body_heard family packet.port packet.source state (content packet.bytes))
      none e =
          let parts = nil_parts (own_cause packet ++ frame_causes packet) (body_causes family packet.port packet.source state (content packet.bytes)) e in
          let first = nil_parts (own_cause packet) (frame_causes packet) parts.0 in
          takes (map_nil (λ (fault : FrameFault). verdict.Malformed (malformed.Frame fault)) (frame_faults family packet.source packet.destination packet.bytes) first.1) parts.1

-- ---- a Hello that was taken

taken_refuses : (v : Verdict) (heard : Heard) → refuses v ≡ true → v ≡ verdict.HelloTaken heard → ⊥
unfolding refuses
taken_refuses v heard e is = false≢true (sym (ap refuses is) ∙ e)

applied_refuses : (v : Verdict) → refuses v ≡ true → v ≡ verdict.Applied → ⊥
unfolding refuses
applied_refuses v e is = false≢true (sym (ap refuses is) ∙ e)

pub record ReadsHello (family : AddressFamily) (packet : Packet) : Type 0 where
  pub said : Hello
  pub is : packet_read family packet ≡ read_hello said

-- a Hello is taken only if the packet reads as one
pub taken_reads : (family : AddressFamily) (packet : Packet) (state : RouterState) (heard : Heard) → (received family packet state).0 ≡ verdict.HelloTaken heard → ReadsHello family packet
taken_reads family packet state heard =
    by_causes family state packet (λ (end : Verdict × RouterState). end.0 ≡ verdict.HelloTaken heard → ReadsHello family packet)
    (λ v e is. absurd (taken_refuses v heard e is)) (λ frames bodies is. record { said = (reads frames (content packet.bytes) bodies is).0; is = (reads frames (content packet.bytes) bodies is).1 })
  where
    reads : {faults : List FrameFault} → faults ≡ [] → (body : Content) → body_causes family packet.port packet.source state body ≡ [] → (body_heard family packet.port packet.source state body).0 ≡ verdict.HelloTaken heard
        → (said : Hello) × (read_by family (judged faults body) ≡ read_hello said)
    reads {faults = faults} none (other type) bodies is = absurd cc
    reads {faults = faults} none (hello body) bodies is =
        let parts = nil_parts (map (λ (fault : HelloFault). verdict.Malformed (malformed.Hello fault)) (hello_faults body)) (hello_causes packet.port packet.source state (hello_of family body).parameters) bodies in
        let no_faults = map_nil (λ (fault : HelloFault). verdict.Malformed (malformed.Hello fault)) (hello_faults body) parts.0 in (
          hello_of family body,
          ap (λ fs. read_by family (judged fs (hello body))) none ∙ ap (λ fs. hello_by (judged fs (hello_of family body))) no_faults,
        )
    reads {faults = faults} none (join_prune body) bodies is = absurd cc

-- ---- a message

-- what has this message reads as it
pub reads_as : (reading : Reading) (message : Message) → message_in reading ≡ Some message → reading ≡ read_message message
reads_as (read_hello said) message e = absurd cc
reads_as (read_message said) message e = cc
reads_as (read_other type) message e = absurd cc
reads_as (read_fault fault) message e = absurd cc

-- the message is the body of the packet
record IsBody (family : AddressFamily) (faults : List FrameFault) (body : Content) (message : Message) : Type 0 where
  bytes : List ℕ
  sound : faults ≡ []
  body_is : body ≡ join_prune bytes
  is : message_of family bytes ≡ message

message_is : (family : AddressFamily) (faults : List FrameFault) (body : Content) (message : Message) → read_by family (judged faults body) ≡ read_message message → IsBody family faults body message
message_is family (fault ∷ faults) body message e = absurd cc
message_is family [] (other type) message e = absurd cc
message_is family [] (hello body) message e = absurd (by (judged (hello_faults body) (hello_of family body)) e)
  where
    by : (r : Result Hello HelloFault) → hello_by r ≡ read_message message → ⊥
    by (Ok said) e = cc
    by (Err fault) e = cc
message_is family [] (join_prune body) message e = by (join_prune_faults family body) e
  where
    by : (faults : List JpFault) → message_by (judged faults (message_of family body)) ≡ read_message message → IsBody family [] (join_prune body) message
    by [] e = record { bytes = body; sound = refl; body_is = refl; is = cc }
    by (fault ∷ faults) e = absurd cc

module _ (family : AddressFamily) (packet : Packet) (state : RouterState) (message : Message) (read : packet_read family packet ≡ read_message message) where
  body_of : IsBody family (frame_faults family packet.source packet.destination packet.bytes) (content packet.bytes) message
  body_of = message_is family (frame_faults family packet.source packet.destination packet.bytes) (content packet.bytes) message read

  -- a message that was applied leaves the router that the message makes
  pub applied_leaves : (received family packet state).0 ≡ verdict.Applied → (received family packet state).1 ≡ (message_heard family packet.port state message).1
  applied_leaves =
      by_causes family state packet (λ (end : Verdict × RouterState). end.0 ≡ verdict.Applied → end.1 ≡ (message_heard family packet.port state message).1)
      (λ v e is. absurd (applied_refuses v e is))
      (λ frames bodies is.
      ap (λ (body : Content). (body_heard family packet.port packet.source state body).1) body_of.body_is ∙ ap (λ (m : Message). (message_heard family packet.port state m).1) body_of.is)

  -- a message to another router isn't applied
  pub other_is_refused : pointwise nat_eq message.upstream (own_address packet.port state) ≡ false → (received family packet state).0 ≡ verdict.Applied → ⊥
  other_is_refused other_name =
      by_causes family state packet (λ (end : Verdict × RouterState). end.0 ≡ verdict.Applied → ⊥)
      (λ v e is. applied_refuses v e is)
      (λ frames bodies is. refused (sym (ap (body_causes family packet.port packet.source state) body_of.body_is) ∙ bodies))
    where
      refused : body_causes family packet.port packet.source state (join_prune body_of.bytes) ≡ [] → ⊥
      refused e =
          let said = message_of family body_of.bytes in
          let first = nil_parts (map (λ (fault : JpFault). verdict.Malformed (malformed.JoinPrune fault)) (join_prune_faults family body_of.bytes)) (message_causes family packet.port packet.source state said) e in
          let unknown = fault_if (not (knows packet.port packet.source state)) verdict.UnknownNeighbour in
          let elsewhere = fault_if (not (pointwise nat_eq said.upstream (own_address packet.port state))) verdict.NotForUs in
          let second = nil_parts (unknown ++ elsewhere) (room_causes family packet.port state said) first.1 in
          let third = nil_parts unknown elsewhere second.0 in
          let name : pointwise nat_eq said.upstream (own_address packet.port state) ≡ false =
          ap (λ (m : Message). pointwise nat_eq m.upstream (own_address packet.port state)) body_of.is ∙ other_name in
          let one : verdict.NotForUs ∷ [] ≡ [] = sym (ap (λ b. fault_if (not b) verdict.NotForUs) name) ∙ third.1 in
          cc

-- ---- what stays

unless_moment : (reported : List Verdict) (state : RouterState) (taken : Verdict × RouterState) → taken.1.machines.moment ≡ state.machines.moment → (unless reported state taken).1.machines.moment ≡ state.machines.moment
unless_moment [] state taken e = e
unless_moment (cause ∷ others) state taken e = refl

body_moment : (family : AddressFamily) (port : ℕ) (source : List ℕ) (state : RouterState) (body : Content) → (body_heard family port source state body).1.machines.moment ≡ state.machines.moment
body_moment family port source state (other type) = refl
body_moment family port source state (hello body) = refl
body_moment family port source state (join_prune body) = refl

-- a packet takes no time
pub packet_moment : (family : AddressFamily) (packet : Packet) (state : RouterState) → (received family packet state).1.machines.moment ≡ state.machines.moment
packet_moment family packet state =
    unless_moment (causes family packet state) state (body_heard family packet.port packet.source state (content packet.bytes)) (body_moment family packet.port packet.source state (content packet.bytes))

-- ---- the call that receives a packet

-- of a packet, as of what it reads as
pub received_ok : {E : Type 0} (family : AddressFamily) (packet : Packet) (state : RouterState) → IsTakenAsRead family packet state → (reading : Reading) → packet_read family packet ≡ reading →
    (r : Result Verdict E) (new : RouterState) →
    Receives (read_causes family packet.port packet.source state reading) (read_received family packet.port packet.source state reading) state r new →
    IfOk r (λ v. (v, new) ≡ received family packet state)
received_ok family packet state law reading is (Ok v) new takes = takes ∙ (ap (read_received family packet.port packet.source state) (sym is) ∙ law.received_is)
received_ok family packet state law reading is (Err e) new takes = tt

pub received_moment : {E : Type 0} (family : AddressFamily) (packet : Packet) (reported : List Verdict) (end : Verdict × RouterState) (old new : RouterState) (r : Result Verdict E) → Receives reported end old r new
    → IfOk r (λ v. (v, new) ≡ received family packet old) → new.machines.moment ≡ old.machines.moment
received_moment family packet reported end old new (Ok v) p is = ap (λ (end : Verdict × RouterState). end.1.machines.moment) is ∙ packet_moment family packet old
received_moment family packet reported end old new (Err e) p is = ap (λ (s : RouterState). s.machines.moment) p.1
