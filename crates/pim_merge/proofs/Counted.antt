-- What a census holds of the messages that it counted.
use Rattle.pim_merge.proofs.Words.{◌≡◌, ◌∙◌, ◌<◌, ◌+◌, ℕ, Bool, true, false, ◌&&◌, ◌||◌, not, cond, List, []}
use Rattle.pim_merge.proofs.Words.{◌∷◌, length, take, drop, Option, None, Some, ap, sym, refl, subst, bytes_eq}
use Rattle.pim_merge.proofs.Words.{if◌then◌else◌, get_or-drop, replicate, ◌==◌, list_any, cons_option}
use Rattle.pim_merge.proofs.Words.{AllByRecursion, false≢true, take_at, bytes_eq-Decides, AddressFamily, is_same}
use Rattle.pim_merge.proofs.Words.{judged, RouteTable, rp_of, GroupSet, Message, message_of, Spells, Datagram}
use Rattle.pim_merge.proofs.Words.{added, field_of, no_names, sound, content_message, opened_message}
use Rattle.pim_merge.proofs.Words.{message_in, message_of_others, joins_star, groups_with, groups_after, with_message}
use Rattle.pim_merge.proofs.Words.{first_without_rp}
use Rattle.std.specs.Prelude.{⊤}
use Rattle.pim_addr.specs.declared.family.AddressFamily.TheVariants.{Ipv4, Ipv6}
use Rattle.pim_addr.specs.Address.{address_length, AreBytes}
use Rattle.pim_frame.specs.declared.frame.FrameFault.{FrameFault}
use Rattle.pim_frame.specs.Frame.{Content, hello, join_prune, other, content, frame_faults, message_type}
use Rattle.pim_jp.specs.declared.fault.JpFault.{JpFault}
use Rattle.pim_jp.specs.Faults.{faults}
use Rattle.pim_jp.specs.Canonical.{IsMessage, IsMessageSet}
use Rattle.pim_merge.specs.declared.census.Census.{Census}
use Rattle.pim_merge.specs.Census.{with_own, with_other}
use Rattle.pim_merge.specs.Missing.{is_taken, misses, unless_served, group_without_rp, first_of, without_rp}
use Rattle.pim_merge.specs.CensusLaws.{census_over, census_of, message_counted, messages_counted, is_for, joins_group, are_for_others}

-- ---- the messages that count

-- the census after a message that is for the own address, or isn't
abbrev after : Bool → Census → Message → Census
after b census message = cond b (with_own census message) (with_other census (field_of message.upstream))

-- the census after these messages, for a router with this address
unfoldable over : List ℕ → Census → List Message → Census
over own census [] = census
over own census (message ∷ messages) = over own (after (is_for own message) census message) messages

same_family_after : (b : Bool) (census : Census) (message : Message) → (after b census message).family ≡ census.family
same_family_after true census message = refl
same_family_after false census message = refl

same_own_after : (b : Bool) (census : Census) (message : Message) → (after b census message).own ≡ census.own
same_own_after true census message = refl
same_own_after false census message = refl

module _ (family : AddressFamily) (own : List ℕ) where
  -- what is left to count
  abbrev Counts : List Datagram → List Message → Type 0
  Counts packets messages = (c : Census) → c.family ≡ family → c.own ≡ field_of own → census_over c packets ≡ over own c messages

  one_message : (b : Bool) (census : Census) (message : Message) (packets : List Datagram) (messages : List Message) → b ≡ is_for own message → census.family ≡ family → census.own ≡ field_of own → Counts packets messages
      → census_over (after b census message) packets ≡ over own census (message ∷ messages)
  unfolding over
  one_message b census message packets messages is f o k =
      k (after b census message) (same_family_after b census message ∙ f) (same_own_after b census message ∙ o) ∙ ap (λ it. over own (after it census message) messages) is

  one_packet : (b : Bool) (counts : Option Message) (census : Census) (packets : List Datagram) (messages : List Message) → census.family ≡ family → census.own ≡ field_of own → Counts packets messages
      → census_over (cond b (with_message census counts) census) packets ≡ over own census (cons_option (if b then counts else None) messages)
  one_packet true None census packets messages f o k = k census f o
  one_packet true (Some message) census packets messages f o k =
      one_message (bytes_eq census.own (field_of message.upstream)) census message packets messages (ap (λ it. bytes_eq it (field_of message.upstream)) o) f o k
  one_packet false counts census packets messages f o k = k census f o

  as_messages : (packets : List Datagram) → Counts packets (messages_counted family own packets)
  unfolding census_over over
  as_messages [] census f o = refl
  as_messages (packet ∷ packets) census f o =
      let rest = messages_counted family own packets in
      one_packet (is_same census.family packet.family) (message_of_others census.own packet.family packet.source packet.destination packet.payload) census packets rest f o (as_messages packets)
      ∙ ap (λ (it : AddressFamily). over own census (cons_option (if is_same it packet.family then message_of_others census.own packet.family packet.source packet.destination packet.payload else None) rest)) f
      ∙ ap (λ (it : List ℕ). over own census (cons_option (if is_same family packet.family then message_of_others it packet.family packet.source packet.destination packet.payload else None) rest)) o

-- ---- whether a message names the own address

or_false : (a : Bool) → a ≡ (a || false)
or_false true = refl
or_false false = refl

or_later : (a b c : Bool) → ((a || b) || c) ≡ (a || (b || c))
or_later true b c = refl
or_later false b c = refl

or_true : (a : Bool) → true ≡ (a || true)
or_true true = refl
or_true false = refl

named_after : (b : Bool) (census : Census) (message : Message) → (after b census message).is_named ≡ (census.is_named || b)
named_after true census message = or_true census.is_named
named_after false census message = or_false census.is_named

named_over : (own : List ℕ) (messages : List Message) (census : Census) → (over own census messages).is_named ≡ (census.is_named || list_any (is_for own) messages)
unfolding over
named_over own [] census = or_false census.is_named
named_over own (message ∷ messages) census =
    named_over own messages (after (is_for own message) census message)
    ∙ ap (λ b. b || list_any (is_for own) messages) (named_after (is_for own message) census message)
    ∙ or_later census.is_named (is_for own message) (list_any (is_for own) messages)

-- ---- whether a message names another upstream neighbour

taken_added : (item : List ℕ) (slots : List (Option (List ℕ))) → is_taken 0 slots ≡ true → is_taken 0 (added bytes_eq item slots) ≡ true
unfolding added
taken_added item [] e = e
taken_added item (None ∷ slots) e = refl
taken_added item (Some held ∷ slots) e = refl

taken_after : (b : Bool) (census : Census) (message : Message) → is_taken 0 census.upstreams ≡ true → is_taken 0 (after b census message).upstreams ≡ true
taken_after true census message e = e
taken_after false census message e = taken_added (field_of message.upstream) census.upstreams e

taken_over : (own : List ℕ) (messages : List Message) (census : Census) → is_taken 0 census.upstreams ≡ true → is_taken 0 (over own census messages).upstreams ≡ true
unfolding over
taken_over own [] census e = e
taken_over own (message ∷ messages) census e = taken_over own messages (after (is_for own message) census message) (taken_after (is_for own message) census message e)

first_taken : (family : AddressFamily) (own : List ℕ) (b : Bool) (message : Message) → b ≡ false → is_taken 0 (after b (no_names family own) message).upstreams ≡ true
unfolding added
first_taken family own true message e = absurd (false≢true (sym e))
first_taken family own false message e = refl

neither : (b c : Bool) → (b || c) ≡ false → b ≡ false
neither true c e = absurd (false≢true (sym e))
neither false c e = refl

unless_named : (taken named : Bool) → (named ≡ false → taken ≡ true) → (taken && not named) ≡ not named
unless_named true named k = refl
unless_named false true k = refl
unless_named false false k = k refl

for_others : (family : AddressFamily) (own : List ℕ) (messages : List Message) → misses (over own (no_names family own) messages) ≡ are_for_others own messages
unfolding over
for_others family own [] = refl
for_others family own (message ∷ messages) =
    let census = over own (no_names family own) (message ∷ messages) in
    ap (λ b. is_taken 0 census.upstreams && not b) (named_over own (message ∷ messages) (no_names family own))
    ∙ unless_named (is_taken 0 census.upstreams) (list_any (is_for own) (message ∷ messages))
    (λ none. taken_over own messages (after (is_for own message) (no_names family own) message)
    (first_taken family own (is_for own message) message (neither (is_for own message) (list_any (is_for own) messages) none)))

pub missed : (family : AddressFamily) (packets : List Datagram) (own : List ℕ) → misses (census_of family own packets) ≡ are_for_others own (messages_counted family own packets)
missed family packets own =
    ap misses (as_messages family own packets (no_names family own) refl refl) ∙ for_others family own (messages_counted family own packets)

-- ---- Joins(*,G)

-- each item in a slot
unfoldable AllHeld : {A : Type 0} → (A → Type 0) → List (Option A) → Type 0
AllHeld P [] = ⊤
AllHeld P (None ∷ slots) = AllHeld P slots
AllHeld P (Some held ∷ slots) = P held × AllHeld P slots

none_held : (P : List ℕ → Type 0) → AllHeld P (replicate 64 None)
unfolding AllHeld
none_held P = tt

held_if : {A : Type 0} (P : A → Type 0) (b : Bool) (xs ys : List (Option A)) → AllHeld P xs → AllHeld P ys → AllHeld P (if b then xs else ys)
held_if P true xs ys h k = h
held_if P false xs ys h k = k

held_added : (P : List ℕ → Type 0) (item : List ℕ) (slots : List (Option (List ℕ))) → P item → AllHeld P slots → AllHeld P (added bytes_eq item slots)
unfolding added AllHeld
held_added P item [] p h = tt
held_added P item (None ∷ slots) p h = (p, h)
held_added P item (Some held ∷ slots) p h = (h.0, held_if P (bytes_eq item held) slots (added bytes_eq item slots) h.1 (held_added P item slots p h.1))

held_joined : (P : List ℕ → Type 0) (b : Bool) (item : List ℕ) (slots : List (Option (List ℕ))) → (b ≡ true → P item) → AllHeld P slots → AllHeld P (cond b (added bytes_eq item slots) slots)
held_joined P true item slots k h = held_added P item slots (k refl) h
held_joined P false item slots k h = h

-- what holds of the group of each set that joins (*,G)
abbrev OfSets : (List ℕ → Type 0) → List GroupSet → Type 0
OfSets P sets = AllByRecursion (λ (set : GroupSet). joins_star set ≡ true → P (field_of set.group)) sets

held_with : (P : List ℕ → Type 0) (sets : List GroupSet) (slots : List (Option (List ℕ))) → OfSets P sets → AllHeld P slots → AllHeld P (groups_with sets slots)
unfolding groups_with
held_with P [] slots each h = h
held_with P (set ∷ sets) slots each h =
    held_with P sets (groups_after slots set) each.1 (held_joined P (joins_star set) (field_of set.group) slots each.0 h)

held_after : (P : List ℕ → Type 0) (b : Bool) (census : Census) (message : Message) → (b ≡ true → OfSets P message.sets) → AllHeld P census.groups → AllHeld P (after b census message).groups
held_after P true census message k h = held_with P message.sets census.groups (k refl) h
held_after P false census message k h = h

held_over : (P : List ℕ → Type 0) (own : List ℕ) (messages : List Message) (census : Census) → AllByRecursion (λ (message : Message). is_for own message ≡ true → OfSets P message.sets) messages → AllHeld P census.groups
    → AllHeld P (over own census messages).groups
unfolding over
held_over P own [] census each h = h
held_over P own (message ∷ messages) census each h =
    held_over P own messages (after (is_for own message) census message) each.1 (held_after P (is_for own message) census message each.0 h)

some_is : (x y : List ℕ) → Some x ≡ Some y → x ≡ y
some_is x y e = cc

none_is : {A : Type 0} (x : A) → None ≡ Some x → ⊥
none_is x e = cc

-- the conditions of a group without an RP
split : (x group : List ℕ) (rp : Option (List ℕ)) → unless_served x rp ≡ Some group → (rp ≡ None) × (x ≡ group)
split x group None e = (refl, some_is x group e)
split x group (Some rp) e = absurd (none_is group e)

either_of : (G : Type 0) (group : List ℕ) (one later : Option (List ℕ)) → (one ≡ Some group → G) → (later ≡ Some group → G) → first_of one later ≡ Some group → G
either_of G group None later k l e = l e
either_of G group (Some x) later k l e = k e

right : (b c : Bool) → c ≡ true → (b || c) ≡ true
right true c e = refl
right false c e = e

left : (b c : Bool) → b ≡ true → (b || c) ≡ true
left b c e = ap (λ it. it || c) e

both : (b c : Bool) → b ≡ true → c ≡ true → (b && c) ≡ true
both true c e f = f
both false c e f = absurd (false≢true e)

module _ (family : AddressFamily) (table : RouteTable) (own group : List ℕ) (G : Type 0) where
  -- what a group that is named gives
  abbrev Named : List ℕ → Type 0
  Named field = group_without_rp family table (Some field) ≡ Some group → G

  named : (groups : List (Option (List ℕ))) → AllHeld Named groups → first_without_rp family table groups ≡ Some group → G
  unfolding AllHeld first_without_rp
  named [] h e = absurd (none_is group e)
  named (None ∷ groups) h e = named groups h e
  named (Some field ∷ groups) h e =
      either_of G group (group_without_rp family table (Some field)) (first_without_rp family table groups) h.0 (named groups h.1) e

  served : (it : List ℕ) → length it ≡ address_length family → group_without_rp family table (Some (field_of it)) ≡ Some group → (group ≡ it) × (rp_of family table group ≡ None)
  served it wide e =
      let p = split (take (address_length family) (field_of it)) group (rp_of family table (take (address_length family) (field_of it))) e in
      (sym p.1 ∙ take_at it _ (address_length family) wide, ap (λ x. rp_of family table x) (sym p.1) ∙ p.0)

  of_sets : (sets : List GroupSet) → AllByRecursion (IsMessageSet family) sets
      → (list_any (λ (set : GroupSet). bytes_eq group set.group && joins_star set) sets ≡ true → rp_of family table group ≡ None → G) → OfSets Named sets
  of_sets [] are k = tt
  of_sets (set ∷ sets) are k =
      let later = list_any (λ (s : GroupSet). bytes_eq group s.group && joins_star s) sets in
      let test = bytes_eq group set.group && joins_star set in (
        (λ joins e. let p = served set.group are.0.0.0 e in
            k (left test later (both (bytes_eq group set.group) (joins_star set) ((bytes_eq-Decides group set.group).1 p.0) joins)) p.1),
        of_sets sets are.1 (λ there none. k (right test later there) none),
      )

  of_messages : (messages : List Message) → AllByRecursion (IsMessage family) messages → (list_any (joins_group own group) messages ≡ true → rp_of family table group ≡ None → G)
      → AllByRecursion (λ (message : Message). is_for own message ≡ true → OfSets Named message.sets) messages
  of_messages [] are k = tt
  of_messages (message ∷ messages) are k =
      let later = list_any (joins_group own group) messages in
      let test = joins_group own group message in (
        (λ for. of_sets message.sets are.0.3
            (λ there none. k (left test later (both (is_for own message) (list_any (λ (set : GroupSet). bytes_eq group set.group && joins_star set) message.sets) for there)) none)),
        of_messages messages are.1 (λ there none. k (right test later there) none),
      )

-- ---- messages without a fault

sound_is : (found : List JpFault) (value message : Message) → sound (judged found value) ≡ Some message → (found ≡ []) × (value ≡ message)
sound_is [] value message e = (refl, cc)
sound_is (fault ∷ others) value message e = absurd (none_is message e)

opened_is : (family : AddressFamily) (found : List FrameFault) (held : Content) (message : Message) → opened_message family (judged found held) ≡ Some message → content_message family held ≡ Some message
opened_is family [] held message e = e
opened_is family (fault ∷ others) held message e = absurd (none_is message e)

body_is : (a b : Bool) (rest body : List ℕ) (type : ℕ) → (if a then hello rest else (if b then join_prune rest else other type)) ≡ join_prune body → rest ≡ body
body_is true b rest body type e = absurd cc
body_is false true rest body type e = cc
body_is false false rest body type e = absurd cc

same_family : (one it : AddressFamily) → is_same one it ≡ true → it ≡ one
same_family Ipv4 Ipv4 e = refl
same_family Ipv4 Ipv6 e = absurd (false≢true e)
same_family Ipv6 Ipv4 e = absurd (false≢true e)
same_family Ipv6 Ipv6 e = refl

if_some : (b : Bool) (counts : Option Message) (message : Message) → (if b then counts else None) ≡ Some message → (b ≡ true) × (counts ≡ Some message)
if_some true counts message e = (refl, e)
if_some false counts message e = absurd (none_is message e)

not_own : (b : Bool) (counts : Option Message) (message : Message) → cond b None counts ≡ Some message → counts ≡ Some message
not_own true counts message e = absurd (none_is message e)
not_own false counts message e = e

bytes_after : (bytes : List ℕ) (n : ℕ) → AreBytes bytes → AreBytes (drop n bytes)
bytes_after bytes n are i = subst (λ b. b < 256) (sym (get_or-drop n bytes i 0)) (are (n + i))

module _ (legal : (family : AddressFamily) (body : List ℕ) → AreBytes body → faults family body ≡ [] → Spells family (message_of family body) body)
    (ranged : (family : AddressFamily) (message : Message) (body : List ℕ) → AreBytes body → Spells family message body → IsMessage family message) where
  in_content : (family : AddressFamily) (held : Content) (message : Message) → ((body : List ℕ) → held ≡ join_prune body → AreBytes body) → content_message family held ≡ Some message → IsMessage family message
  in_content family (hello body) message are e = absurd (none_is message e)
  in_content family (other type) message are e = absurd (none_is message e)
  in_content family (join_prune body) message are e =
      let p = sound_is (faults family body) (message_of family body) message e in
      subst (IsMessage family) p.1 (ranged family (message_of family body) body (are body refl) (legal family body (are body refl) p.0))

  in_packet : (family : AddressFamily) (own : List ℕ) (packet : Datagram) (message : Message) → AreBytes packet.payload → message_counted family own packet ≡ Some message → IsMessage family message
  in_packet family own packet message are e =
      let p = if_some (is_same family packet.family) (message_of_others (field_of own) packet.family packet.source packet.destination packet.payload) message e in
      let counts = not_own (bytes_eq (field_of own) (field_of packet.source)) (message_in packet.family packet.source packet.destination packet.payload) message p.1 in
      let held = opened_is packet.family (frame_faults packet.family packet.source packet.destination packet.payload) (content packet.payload) message counts in
      subst (λ it. IsMessage it message) (same_family family packet.family p.0)
      (in_content packet.family (content packet.payload) message
      (λ body is. subst AreBytes (body_is (message_type packet.payload == 0) (message_type packet.payload == 3) (drop 4 packet.payload) body (message_type packet.payload) is) (bytes_after packet.payload 4 are)) held)

  add_one : (family : AddressFamily) (counts : Option Message) (messages : List Message) → ((message : Message) → counts ≡ Some message → IsMessage family message) → AllByRecursion (IsMessage family) messages
      → AllByRecursion (IsMessage family) (cons_option counts messages)
  add_one family None messages k are = are
  add_one family (Some message) messages k are = (k message refl, are)

  are_messages : (family : AddressFamily) (own : List ℕ) (packets : List Datagram) → AllByRecursion (λ (packet : Datagram). AreBytes packet.payload) packets → AllByRecursion (IsMessage family) (messages_counted family own packets)
  are_messages family own [] are = tt
  are_messages family own (packet ∷ packets) are =
      add_one family (message_counted family own packet) (messages_counted family own packets) (λ message e. in_packet family own packet message are.0 e) (are_messages family own packets are.1)

  pub unserved : (family : AddressFamily) (table : RouteTable) (packets : List Datagram) (own group : List ℕ) → AllByRecursion (λ (packet : Datagram). AreBytes packet.payload) packets
      → without_rp family table (census_of family own packets) ≡ Some group
      → (rp_of family table group ≡ None) × (list_any (joins_group own group) (messages_counted family own packets) ≡ true)
  unserved family table packets own group are e =
      let messages = messages_counted family own packets in
      let G = (rp_of family table group ≡ None) × (list_any (joins_group own group) messages ≡ true) in
      let each = of_messages family table own group G messages (are_messages family own packets are) (λ there none. (none, there)) in
      named family table own group G (over own (no_names family own) messages).groups (held_over (Named family table own group G) own messages (no_names family own) each (none_held (Named family table own group G)))
      (subst (λ (c : Census). without_rp family table c ≡ Some group) (as_messages family own packets (no_names family own) refl refl) e)
