-- One more fragment, and packets whose time is over.
use Rattle.std.proofs.Common.{◌≡◌, ◌∙◌, ℕ, zero, suc, ◌<◌, ◌≤◌, ◌+◌, ◌-◌, Bool, true, false, List, [], ◌∷◌, ◌++◌, length, take, refl, sym, ap, arith}
use Rattle.std.proofs.Common.{ltb-true, ltb-false, lt-ltb, le-ltb}
use Rattle.std.proofs.lemmas.Bool.{false≢true}
use Rattle.std.proofs.lemmas.List.{length-append}
use Rattle.std.proofs.lemmas.List.Elements.{filter-append}
use Rattle.std.proofs.Math.Seq.{take-append_seam}
use Rattle.std.specs.Prelude.{Option, Some, is_some, nat_lt, not, filter, ◌&&◌, ◌||◌}
use Rattle.std.specs.List.{list_any}
use Rattle.pim_fragments.specs.declared.fragments.PartialPacket.{PartialPacket}
use Rattle.pim_capture.specs.declared.incomplete.Incomplete.{Incomplete}
use Rattle.pim_capture.specs.declared.incomplete.RecordPlace.{RecordPlace}
use Rattle.pim_fragments.specs.Pieces.{Piece, Next, taken}
use Rattle.pim_fragments.specs.Packets.{Kept, is_over, passed, with_all, without_oldest, with_room, left_of, packets_with, whole_with, has_key, kept_after, whole_after, new_packet, most_packets, asks_with, asks_after}
use Rattle.pim_fragments.specs.Places.{within_most, packets_at, whole_at, kept_at, begun_with, is_added_at}
use Rattle.pim_fragments.proofs.Places.{IsFirst, AreNone}

append_nil : {A : Type 0} (xs : List A) → xs ++ [] ≡ xs
append_nil [] = refl
append_nil (x ∷ xs) = ap (λ (l : List _). x ∷ l) (append_nil xs)

both_true : (a b : Bool) → (a && not b) ≡ true → (a ≡ true) × (b ≡ false)
both_true true true h = absurd (false≢true h)
both_true true false h = (refl, refl)
both_true false b h = absurd (false≢true h)

first_false : (a b : Bool) → b ≡ false → (a && not b) ≡ false → a ≡ false
first_false true true b h = b
first_false true false b h = absurd (false≢true (sym h))
first_false false b e h = refl

or_left : (a b : Bool) → (a || b) ≡ false → a ≡ false
or_left true b h = h
or_left false b h = refl

or_right : (a b : Bool) → (a || b) ≡ false → b ≡ false
or_right true b h = absurd (false≢true (sym h))
or_right false b h = h

module _ {K : Type 0} (same : K → K → Bool) (key : K) (moment : ℕ) where
  abbrev meant : PartialPacket K → Bool
  meant packet = same packet.key key && not (is_over moment packet)

  module _ (piece : Piece) where
    staying : (packet : PartialPacket K) (next : Next) (packets : List (PartialPacket K)) → is_over moment packet ≡ false
        → filter (λ (p : PartialPacket K). not (is_over moment p)) (left_of packet next ++ packets) ≡ left_of packet next ++ filter (λ (p : PartialPacket K). not (is_over moment p)) packets
    staying packet next packets over =
        elim (is_some next.whole) as (λ b. is_some next.whole ≡ b → filter (λ (p : PartialPacket K). not (is_over moment p)) (left_of packet next ++ packets) ≡ left_of packet next ++ filter (λ (p : PartialPacket K). not (is_over moment p)) packets) [
          | true ↦ λ w. rw w refl
          | false ↦ λ w. rw (w, over) refl
        ] refl

    not_over : (packet : PartialPacket K) (next : Next) (packets : List (PartialPacket K)) → is_over moment packet ≡ false → filter (is_over moment) (left_of packet next ++ packets) ≡ filter (is_over moment) packets
    not_over packet next packets over =
        elim (is_some next.whole) as (λ b. is_some next.whole ≡ b → filter (is_over moment) (left_of packet next ++ packets) ≡ filter (is_over moment) packets) [
          | true ↦ λ w. rw w refl
          | false ↦ λ w. rw (w, over) refl
        ] refl

    -- a fragment of the packet at a place, before and after others go
    record IsSame (packets : List (PartialPacket K)) (place : ℕ) : Type 0 where
      kept : filter (λ (p : PartialPacket K). not (is_over moment p)) (packets_at piece place packets) ≡ packets_with (has_key same key) piece (filter (λ (p : PartialPacket K). not (is_over moment p)) packets)
      gone : filter (is_over moment) (packets_at piece place packets) ≡ filter (is_over moment) packets
      whole : whole_at piece place packets ≡ whole_with (has_key same key) piece (filter (λ (p : PartialPacket K). not (is_over moment p)) packets)
      asks : is_added_at piece place packets ≡ asks_with (has_key same key) piece (filter (λ (p : PartialPacket K). not (is_over moment p)) packets)
      there : list_any (has_key same key) (filter (λ (p : PartialPacket K). not (is_over moment p)) packets) ≡ true

    here : (packet : PartialPacket K) (packets : List (PartialPacket K)) → meant packet ≡ true → IsSame (packet ∷ packets) zero
    here packet packets met =
        let parts = both_true (same packet.key key) (is_over moment packet) met in
        let mine = parts.0 in
        let over = parts.1 in
        record {
          kept = rw (over, mine) (staying packet (taken piece packet.pieces) packets over);
          gone = rw over (not_over packet (taken piece packet.pieces) packets over);
          whole = rw (over, mine) refl;
          asks = rw (over, mine) refl;
          there = rw (over, mine) refl;
        }

    later : (packet : PartialPacket K) (packets : List (PartialPacket K)) (place : ℕ) → meant packet ≡ false → IsSame packets place → IsSame (packet ∷ packets) (suc place)
    later packet packets place unmet same_others =
        elim (is_over moment packet) as (λ b. is_over moment packet ≡ b → IsSame (packet ∷ packets) (suc place)) [
          | true ↦ λ over. record {
            kept = rw over (same_others.kept);
            gone = rw over (ap (λ (l : List (PartialPacket K)). packet ∷ l) same_others.gone);
            whole = rw over (same_others.whole);
            asks = rw over (same_others.asks);
            there = rw over (same_others.there);
          }
          | false ↦ λ over.
              let other = first_false (same packet.key key) (is_over moment packet) over unmet in
              record {
                kept = rw (over, other) (ap (λ (l : List (PartialPacket K)). packet ∷ l) same_others.kept);
                gone = rw over (same_others.gone);
                whole = rw (over, other) (same_others.whole);
                asks = rw (over, other) (same_others.asks);
                there = rw (over, other) (same_others.there);
              }
        ] refl

    is_same : (packets : List (PartialPacket K)) (place : ℕ) → IsFirst meant packets place → IsSame packets place
    is_same [] place first = absurd first
    is_same (packet ∷ packets) zero first = here packet packets first
    is_same (packet ∷ packets) (suc place) first = later packet packets place first.0 (is_same packets place first.1)

    module _ (kept : Kept K) (place : ℕ) (number : RecordPlace) (first : IsFirst (λ (p : PartialPacket K). same p.key key && not (is_over moment p)) kept.packets place) where
      same_here : IsSame kept.packets place
      same_here = is_same kept.packets place first

      pub goes_on : passed moment (kept_at piece place kept) ≡ kept_after same key number moment piece kept
      goes_on =
          let s = same_here in
          rw s.there
          (ap (λ (ps : List (PartialPacket K)). record { packets = ps; gone = with_all (filter (is_over moment) (packets_at piece place kept.packets)) kept.gone }) s.kept
          ∙ ap (λ (ps : List (PartialPacket K)). record { packets = packets_with (has_key same key) piece (filter (λ (p : PartialPacket K). not (is_over moment p)) kept.packets); gone = with_all ps kept.gone }) s.gone)

      pub asks_going_on : is_added_at piece place kept.packets ≡ asks_after same key number moment piece kept
      asks_going_on = same_here.asks

      pub whole_going_on : whole_at piece place kept.packets ≡ whole_after same key number moment piece kept
      whole_going_on = let s = same_here in rw s.there s.whole

    -- ---- a packet of which no fragment is held

    none_left : (packets : List (PartialPacket K)) → AreNone meant packets → list_any (has_key same key) (filter (λ (p : PartialPacket K). not (is_over moment p)) packets) ≡ false
    none_left [] none = refl
    none_left (packet ∷ packets) none =
        elim (is_over moment packet) as (λ b. is_over moment packet ≡ b → list_any (has_key same key) (filter (λ (p : PartialPacket K). not (is_over moment p)) (packet ∷ packets)) ≡ false) [
          | true ↦ λ over. rw over (none_left packets none.1)
          | false ↦ λ over. rw (over, first_false (same packet.key key) (is_over moment packet) over none.0) (none_left packets none.1)
        ] refl

    room_without : (packets : List (PartialPacket K)) (went : Option Incomplete) → list_any (has_key same key) packets ≡ false → list_any (has_key same key) (without_oldest packets went).packets ≡ false
    room_without [] went none = refl
    room_without (packet ∷ packets) went none = or_right _ (list_any (has_key same key) packets) none

    room_left : (kept : Kept K) → list_any (has_key same key) kept.packets ≡ false → list_any (has_key same key) (with_room kept).packets ≡ false
    room_left kept none =
        elim (nat_lt (length kept.packets) most_packets) as (λ b. nat_lt (length kept.packets) most_packets ≡ b → list_any (has_key same key) (with_room kept).packets ≡ false) [
          | true ↦ λ l. rw l none
          | false ↦ λ l. rw l (room_without kept.packets kept.gone none)
        ] refl

    last_with : (packets : List (PartialPacket K)) (packet : PartialPacket K) → list_any (has_key same key) packets ≡ false → same packet.key key ≡ true
        → packets_with (has_key same key) piece (packets ++ packet ∷ []) ≡ packets ++ left_of packet (taken piece packet.pieces)
    last_with [] packet none mine = rw mine (append_nil (left_of packet (taken piece packet.pieces)))
    last_with (other ∷ packets) packet none mine =
        rw (or_left (same other.key key) _ none) (ap (λ (l : List (PartialPacket K)). other ∷ l) (last_with packets packet (or_right (same other.key key) _ none) mine))

    last_whole : (packets : List (PartialPacket K)) (packet : PartialPacket K) → list_any (has_key same key) packets ≡ false → same packet.key key ≡ true
        → whole_with (has_key same key) piece (packets ++ packet ∷ []) ≡ (taken piece packet.pieces).whole
    last_whole [] packet none mine = rw mine refl
    last_whole (other ∷ packets) packet none mine = rw (or_left (same other.key key) _ none) (last_whole packets packet (or_right (same other.key key) _ none) mine)

    asks_new : (packets : List (PartialPacket K)) → list_any (has_key same key) packets ≡ false → asks_with (has_key same key) piece packets ≡ true
    asks_new [] none = refl
    asks_new (packet ∷ packets) none = rw (or_left (same packet.key key) _ none) (asks_new packets (or_right (same packet.key key) _ none))

    module _ (kept : Kept K) (number : RecordPlace) (none : AreNone (λ (p : PartialPacket K). same p.key key && not (is_over moment p)) kept.packets) (mine : same key key ≡ true) where
      absent : list_any (has_key same key) (passed moment kept).packets ≡ false
      absent = none_left kept.packets none

      pub asks_beginning : asks_after same key number moment piece kept ≡ true
      asks_beginning = asks_new (passed moment kept).packets absent

      pub begins : begun_with piece (new_packet key number moment) (passed moment kept) ≡ kept_after same key number moment piece kept
      begins =
          let gone = absent in
          let last = last_with (with_room (passed moment kept)).packets (new_packet key number moment) (room_left (passed moment kept) gone) mine in
          rw gone (ap (λ (ps : List (PartialPacket K)). record { packets = ps; gone = (with_room (passed moment kept)).gone }) (sym last))

      pub whole_beginning : (taken piece (Some [])).whole ≡ whole_after same key number moment piece kept
      whole_beginning =
          let gone = absent in
          let last = last_whole (with_room (passed moment kept)).packets (new_packet key number moment) (room_left (passed moment kept) gone) mine in
          rw gone (sym last)

-- ---- a new packet is put after the others before some go

module _ {K : Type 0} where
  no_more : (test : PartialPacket K → Bool) (packets : List (PartialPacket K)) → length (filter test packets) ≤ length packets
  no_more test [] = omega arith
  no_more test (packet ∷ packets) =
      elim (test packet) as (λ b. test packet ≡ b → length (filter test (packet ∷ packets)) ≤ length (packet ∷ packets)) [
        | true ↦ λ t. rw t (omega (arith, no_more test packets))
        | false ↦ λ t. rw t (omega (arith, no_more test packets))
      ] refl

  oldest_goes : (packets : List (PartialPacket K)) (packet : PartialPacket K) (gone : Option Incomplete) → 0 < length packets
      → without_oldest (packets ++ packet ∷ []) gone ≡ (record { packets = (without_oldest packets gone).packets ++ packet ∷ []; gone = (without_oldest packets gone).gone })
  oldest_goes [] packet went l = absurd (omega arith)
  oldest_goes (oldest ∷ packets) packet went l = refl

  room_after : (kept : Kept K) (packet : PartialPacket K) → length kept.packets ≤ most_packets
      → within_most (kept.packets ++ packet ∷ []) kept.gone ≡ (record { packets = (with_room kept).packets ++ packet ∷ []; gone = (with_room kept).gone })
  room_after kept packet few =
      elim (nat_lt (length kept.packets) most_packets) as (λ b. nat_lt (length kept.packets) most_packets ≡ b
      → within_most (kept.packets ++ packet ∷ []) kept.gone ≡ (record { packets = (with_room kept).packets ++ packet ∷ []; gone = (with_room kept).gone })) [
        | true ↦ λ l.
            let small : nat_lt most_packets (length (kept.packets ++ packet ∷ [])) ≡ false
            = le-ltb most_packets _ (let few = ltb-true (length kept.packets) most_packets l in omega (arith, few, length-append kept.packets (packet ∷ []))) in
            rw (l, small) refl
        | false ↦ λ l.
            let many = ltb-false (length kept.packets) most_packets l in
            let large : nat_lt most_packets (length (kept.packets ++ packet ∷ [])) ≡ true
            = lt-ltb most_packets _ (omega (arith, many, length-append kept.packets (packet ∷ []))) in
            rw (l, large) (oldest_goes kept.packets packet kept.gone (omega (arith, many)))
      ] refl

  -- the packets of the code: a new one is put after the others, and then the old ones go
  module _ (kept : Kept K) (packet : PartialPacket K) (moment : ℕ) (few : length kept.packets ≤ most_packets) (since : packet.since ≡ moment) where
    young : is_over moment packet ≡ false
    young = le-ltb (packet.since + 30000) moment (omega (arith, since))

    pub stay : filter (λ (p : PartialPacket K). not (is_over moment p)) (kept.packets ++ packet ∷ []) ≡ (passed moment kept).packets ++ packet ∷ []
    stay = filter-append (λ (p : PartialPacket K). not (is_over moment p)) kept.packets (packet ∷ []) ∙ (rw young refl)

    pub go : filter (is_over moment) (kept.packets ++ packet ∷ []) ≡ filter (is_over moment) kept.packets
    go = filter-append (is_over moment) kept.packets (packet ∷ []) ∙ (rw young (append_nil (filter (is_over moment) kept.packets)))

    pub after : within_most (filter (λ (p : PartialPacket K). not (is_over moment p)) (kept.packets ++ packet ∷ [])) (with_all (filter (is_over moment) (kept.packets ++ packet ∷ [])) kept.gone)
        ≡ (record { packets = (with_room (passed moment kept)).packets ++ packet ∷ []; gone = (with_room (passed moment kept)).gone })
    after =
        ap (λ (ps : List (PartialPacket K)). within_most ps (with_all (filter (is_over moment) (kept.packets ++ packet ∷ [])) kept.gone)) stay
        ∙ ap (λ (ps : List (PartialPacket K)). within_most ((passed moment kept).packets ++ packet ∷ []) (with_all ps kept.gone)) go
        ∙ room_after (passed moment kept) packet (let less = no_more (λ (p : PartialPacket K). not (is_over moment p)) kept.packets in omega (arith, less, few))

  -- the first fragment of a packet: the lists after each step of the code
  module _ (piece : Piece) (key : K) (number : RecordPlace) (moment : ℕ) (kept now : Kept K) (view : kept ≡ now) (few : length kept.packets ≤ most_packets) (held : Option (List Piece))
      (is : held ≡ (taken piece (Some [])).held) (items1 items2 items3 : List (PartialPacket K)) (gone1 gone3 : Option Incomplete)
      (one : items1 ≡ kept.packets ++ (record { key = key; first = number; since = moment; pieces = held }) ∷ [])
      (over : gone1 ≡ with_all (filter (is_over moment) items1) kept.gone) (two : items2 ≡ filter (λ (p : PartialPacket K). not (is_over moment p)) items1)
      (three : items3 ≡ (within_most items2 gone1).packets) (gone : gone3 ≡ (within_most items2 gone1).gone) where
    packet : PartialPacket K
    packet = record { key = key; first = number; since = moment; pieces = held }

    most : within_most items2 gone1 ≡ (record { packets = (with_room (passed moment kept)).packets ++ (record { key = key; first = number; since = moment; pieces = held }) ∷ []; gone = (with_room (passed moment kept)).gone })
    most =
        ap (λ (ps : List (PartialPacket K)). within_most ps gone1) (two ∙ ap (filter (λ (p : PartialPacket K). not (is_over moment p))) one)
        ∙ ap (λ (g : Option Incomplete). within_most (filter (λ (p : PartialPacket K). not (is_over moment p)) (kept.packets ++ (record { key = key; first = number; since = moment; pieces = held }) ∷ [])) g)
        (over ∙ ap (λ (ps : List (PartialPacket K)). with_all (filter (is_over moment) ps) kept.gone) one)
        ∙ after kept (record { key = key; first = number; since = moment; pieces = held }) moment few refl

    all : items3 ≡ (with_room (passed moment kept)).packets ++ (record { key = key; first = number; since = moment; pieces = held }) ∷ []
    all = three ∙ ap (λ (k : Kept K). k.packets) most

    went : gone3 ≡ (with_room (passed moment kept)).gone
    went = gone ∙ ap (λ (k : Kept K). k.gone) most

    pub is_kept : is_some (taken piece (Some [])).whole ≡ false → (record { packets = items3; gone = gone3 }) ≡ begun_with piece (new_packet key number moment) (passed moment now)
    is_kept none =
        ap (λ (ps : List (PartialPacket K)). record { packets = ps; gone = gone3 }) all
        ∙ ap (λ (g : Option Incomplete). record { packets = (with_room (passed moment kept)).packets ++ (record { key = key; first = number; since = moment; pieces = held }) ∷ []; gone = g }) went
        ∙ (rw none (ap (λ (h : Option (List Piece)). record { packets = (with_room (passed moment kept)).packets ++ (record { key = key; first = number; since = moment; pieces = h }) ∷ []; gone = (with_room (passed moment kept)).gone }) is))
        ∙ ap (λ (k : Kept K). begun_with piece (new_packet key number moment) (passed moment k)) view

    but_last : (packets : List (PartialPacket K)) (last : PartialPacket K) → take (length (packets ++ last ∷ []) - 1) (packets ++ last ∷ []) ≡ packets
    but_last packets last =
        let size : length (packets ++ last ∷ []) - 1 ≡ length packets = omega (arith, length-append packets (last ∷ [])) in
        ap (λ n. take n (packets ++ last ∷ [])) size ∙ take-append_seam packets (last ∷ [])

    pub leaves : is_some (taken piece (Some [])).whole ≡ true → (record { packets = take (length items3 - 1) items3; gone = gone3 }) ≡ begun_with piece (new_packet key number moment) (passed moment now)
    leaves some =
        ap (λ (ps : List (PartialPacket K)). record { packets = take (length ps - 1) ps; gone = gone3 }) all
        ∙ ap (λ (ps : List (PartialPacket K)). record { packets = ps; gone = gone3 }) (but_last (with_room (passed moment kept)).packets (record { key = key; first = number; since = moment; pieces = held }))
        ∙ ap (λ (g : Option Incomplete). record { packets = (with_room (passed moment kept)).packets; gone = g }) went
        ∙ (rw some (ap (λ (ps : List (PartialPacket K)). record { packets = ps; gone = (with_room (passed moment kept)).gone }) (sym (append_nil (with_room (passed moment kept)).packets))))
        ∙ ap (λ (k : Kept K). begun_with piece (new_packet key number moment) (passed moment k)) view
