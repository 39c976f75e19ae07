-- A packet whose bytes are read as a message is heard, and so is that of a canonical message.
use Rattle.pim_mirror.proofs.Words.{◌≡◌, ◌∙◌, ℕ, zero, suc, ◌<◌, Bool, true, false, not, nat_lt, List, [], ◌∷◌, ◌++◌, map, get_or}
use Rattle.pim_mirror.proofs.Words.{length, refl, sym, ap, subst, arith, Option, lt-ltb, le-ltb, fault_if, AddressFamily, content}
use Rattle.pim_mirror.proofs.Words.{frame_faults, all_routers, FrameFault, Message, message_of, Timing, Event, events_of}
use Rattle.pim_mirror.proofs.Words.{start_of, hearing, needed, rp_of, with_records, GroupForm, same_address, Writing, IsWriting}
use Rattle.pim_mirror.proofs.Words.{written_message, IsReadAs, Exchange, after_message, Verdict, Packet, causes, received}
use Rattle.pim_mirror.proofs.Words.{own_address, knows, timing_on, unless, body_causes, message_causes, room_causes, body_heard}
use Rattle.pim_mirror.proofs.Words.{message_heard, RouterState, with_machines, message_in, events_at, AreReadAs, HearsWriter}
use Rattle.pim_mirror.proofs.Words.{heard_exchange, needed_records, IsHeard, CanonicalMessagesCarryParts, MessagesAreRead}
use Rattle.pim_mirror.proofs.Words.{CanonicalPacketIsHeard, ReadPacketIsHeard}
use Rattle.pim_jp.specs.declared.fault.JpFault.{JpFault}
use Rattle.pim_router.specs.declared.verdict.Verdict.TheVariants as verdict
use Rattle.pim_router.specs.declared.verdict.Malformed.TheVariants as malformed
use Rattle.pim_router.specs.declared.verdict.Store.TheVariants as store
use Rattle.pim_mirror.proofs.SameAddresses.{same_itself, same_is}
use Rattle.pim_mirror.proofs.ReadBack.{read_message}

-- ---- the message of a number

record IsMessageOf (family : AddressFamily) (writing : Writing) (rps : List ℕ → Option (List ℕ)) (messages : List (List ℕ)) (i : ℕ) : Type 0 where
  part : List GroupForm
  read : IsReadAs family writing.own (get_or messages i []) (written_message writing rps part)
  events : events_at rps (map (message_in family) messages) i ≡ events_of rps (written_message writing rps part)

message_at : (family : AddressFamily) (writing : Writing) (rps : List ℕ → Option (List ℕ)) (messages : List (List ℕ)) (parts : List (List GroupForm)) (i : ℕ) → AreReadAs family writing.own messages (map (written_message writing rps) parts)
    → i < length messages → IsMessageOf family writing rps messages i
unfolding AreReadAs
message_at family writing rps [] parts i are within = absurd (omega (arith, within))
message_at family writing rps (bytes ∷ messages) [] i are within = absurd are
message_at family writing rps (bytes ∷ messages) (part ∷ parts) zero are within = record {
  part = part;
  read = are.0;
  events = ap (events_of rps) (read_message family writing.own bytes (written_message writing rps part) are.0);
}
message_at family writing rps (bytes ∷ messages) (part ∷ parts) (suc i) are within =
    let later = message_at family writing rps messages parts i are.1 (omega (arith, within)) in
    record { part = later.part; read = later.read; events = later.events }

-- ---- why a packet is refused

apart : (a b : List ℕ) → (a ≡ b → ⊥) → same_address a b ≡ false
apart a b differ = by (same_address a b) refl
  where
    by : (t : Bool) → same_address a b ≡ t → t ≡ false
    by false e = refl
    by true e = absurd (differ (same_is a b e))

module _ (family : AddressFamily) (port : ℕ) (source : List ℕ) (state : RouterState) (said : Message) where
  abbrev room : List Verdict
  room = room_causes family port state said

  known_causes : knows port source state ≡ true → same_address said.upstream (own_address port state) ≡ true → message_causes family port source state said ≡ room
  known_causes knows_it for_us =
      ap (λ k. (fault_if (not k) verdict.UnknownNeighbour ++ fault_if (not (same_address said.upstream (own_address port state))) verdict.NotForUs) ++ room) knows_it
      ∙ ap (λ k. fault_if (not k) verdict.NotForUs ++ room) for_us

  body_is : (bytes : List ℕ) (is : IsReadAs family source bytes said) → knows port source state ≡ true → same_address said.upstream (own_address port state) ≡ true
      → body_causes family port source state (content bytes) ≡ room
  body_is bytes is knows_it for_us =
      ap (body_causes family port source state) is.holds
      ∙ ap (λ (fs : List JpFault). map (λ fault. verdict.Malformed (malformed.JoinPrune fault)) fs ++ message_causes family port source state (message_of family is.body)) is.legal
      ∙ ap (message_causes family port source state) is.reads
      ∙ known_causes knows_it for_us

  causes_are : (bytes : List ℕ) (is : IsReadAs family source bytes said) → same_address source (own_address port state) ≡ false → knows port source state ≡ true → same_address said.upstream (own_address port state) ≡ true
      → causes family (record { port = port; source = source; destination = all_routers family; bytes = bytes }) state ≡ room
  causes_are bytes is not_mine knows_it for_us =
      ap (λ m. (fault_if m verdict.Mine ++ map (λ fault. verdict.Malformed (malformed.Frame fault)) (frame_faults family source (all_routers family) bytes)) ++ body_causes family port source state (content bytes)) not_mine
      ∙ ap (λ (fs : List FrameFault). map (λ fault. verdict.Malformed (malformed.Frame fault)) fs ++ body_causes family port source state (content bytes)) is.opened
      ∙ body_is bytes is knows_it for_us

  taken_is : (bytes : List ℕ) (is : IsReadAs family source bytes said) → body_heard family port source state (content bytes) ≡ message_heard family port state said
  taken_is bytes is = ap (body_heard family port source state) is.holds ∙ ap (message_heard family port state) is.reads

  received_is : (bytes : List ℕ) (is : IsReadAs family source bytes said) → same_address source (own_address port state) ≡ false → knows port source state ≡ true → same_address said.upstream (own_address port state) ≡ true
      → received family (record { port = port; source = source; destination = all_routers family; bytes = bytes }) state ≡ unless room state (message_heard family port state said)
  received_is bytes is not_mine knows_it for_us =
      ap (λ (cs : List Verdict). unless cs state (body_heard family port source state (content bytes))) (causes_are bytes is not_mine knows_it for_us)
      ∙ ap (unless room state) (taken_is bytes is)

-- ---- what becomes of it

module _ (family : AddressFamily) (writing : Writing) (exchange : Exchange) (i : ℕ) (bytes : List ℕ) (said : Message) (state : RouterState) (is_writing : IsWriting family writing) (read : IsReadAs family writing.own bytes said)
    (to_us : said.upstream ≡ writing.upstream) (time : said.holdtime ≡ exchange.holdtime) (events : exchange.messages i ≡ events_of (rp_of family state.routes) said) (hears : HearsWriter writing exchange.port exchange.timing state) where
  abbrev count : ℕ
  count = needed_records exchange i state

  abbrev packet : Packet
  packet = record { port = exchange.port; source = writing.own; destination = all_routers family; bytes = bytes }

  abbrev taken : Verdict × RouterState
  taken = (verdict.Applied, with_machines state (after_message exchange i state.machines))

  not_mine : same_address writing.own (own_address exchange.port state) ≡ false
  not_mine = apart writing.own (own_address exchange.port state) (λ e. is_writing.apart (e ∙ hears.own))

  for_us : same_address said.upstream (own_address exchange.port state) ≡ true
  for_us = ap (λ (upstream : List ℕ). same_address upstream (own_address exchange.port state)) to_us ∙ ap (same_address writing.upstream) hears.own ∙ same_itself writing.upstream

  room_is : room_causes family exchange.port state said ≡ fault_if (nat_lt state.machines.limit count) (verdict.Full (store.Records count))
  room_is = ap (λ (es : List Event). fault_if (nat_lt state.machines.limit (needed exchange.port state.machines.records es)) (verdict.Full (store.Records (needed exchange.port state.machines.records es)))) (sym events)

  abbrev heard_as : ℕ → Timing → List Event → Verdict × RouterState
  heard_as holdtime timing es = (verdict.Applied, with_machines state (with_records state.machines (hearing exchange.port (start_of holdtime timing) es state.machines.records)))

  applied_is : message_heard family exchange.port state said ≡ taken
  applied_is =
      ap (λ (holdtime : ℕ). heard_as holdtime (timing_on exchange.port state) (events_of (rp_of family state.routes) said)) time
      ∙ ap (λ (timing : Timing). heard_as exchange.holdtime timing (events_of (rp_of family state.routes) said)) (sym hears.timing_is)
      ∙ ap (heard_as exchange.holdtime exchange.timing) (sym events)

  ends_as : received family packet state ≡ unless (fault_if (nat_lt state.machines.limit count) (verdict.Full (store.Records count))) state taken
  ends_as =
      received_is family exchange.port writing.own state said bytes read not_mine hears.known for_us
      ∙ ap (λ (cs : List Verdict). unless cs state (message_heard family exchange.port state said)) room_is
      ∙ ap (unless (fault_if (nat_lt state.machines.limit count) (verdict.Full (store.Records count))) state) applied_is

  abbrev Ends : Bool → Type 0
  Ends full = received family packet state ≡ unless (fault_if full (verdict.Full (store.Records count))) state taken

  heard : IsHeard family exchange i packet state
  heard = record {
    only_room = causes_are family exchange.port writing.own state said bytes read not_mine hears.known for_us ∙ room_is;
    applied = λ room. subst Ends (le-ltb state.machines.limit count room) ends_as;
    full = λ little. subst Ends (lt-ltb state.machines.limit count little) ends_as;
  }

pub read_heard : ReadPacketIsHeard
read_heard family writing exchange i bytes said state is_writing read to_us time events hears =
    heard family writing exchange i bytes said state is_writing read to_us time events hears

pub packet_heard : CanonicalMessagesCarryParts → MessagesAreRead → ReadPacketIsHeard → CanonicalPacketIsHeard
packet_heard parts_of read packet_read family writing form messages i port timing state is_writing is have are within hears =
    let known = rp_of family state.routes in
    let found = parts_of family writing known form messages is have are in
    let these = read family writing known form messages found.0 is_writing found.1 in
    let this = message_at family writing known messages found.0 i these within in
    packet_read family writing (heard_exchange family writing port timing messages state) i (get_or messages i []) (written_message writing known this.part) state is_writing this.read refl refl this.events hears
