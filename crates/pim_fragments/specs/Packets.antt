-- Packets whose fragments are put together (RFC 791, 3.2; RFC 8200, 4.5): which are kept, which are
-- whole, and which go before they are.
use Rattle.std.specs.Prelude.{◌≤◌, ℕ, ◌+◌, Bool, true, not, ◌&&◌, ◌||◌, ◌==◌, nat_lt, min, List, [], ◌∷◌, ◌++◌, length, filter, if◌then◌else◌}
use Rattle.std.specs.Prelude.{Option, None, Some, is_some}
use Rattle.std.specs.List.{list_any, All}
use Rattle.pim_fragments.specs.declared.fragments.PartialPacket.{PartialPacket}
use Rattle.pim_capture.specs.declared.incomplete.Incomplete.{Incomplete}
use Rattle.pim_capture.specs.declared.incomplete.RecordPlace.{RecordPlace}
use Rattle.pim_fragments.specs.Pieces.{Piece, Next, taken, is_added, IsSmall}

-- ---- packets that went before they were whole

-- One more. The count stops at 2^64 - 1.
abbrev pub one_more : ℕ → ℕ
one_more count = min (count + 1) 18446744073709551615

-- The sooner of two places of records.
abbrev pub sooner_place : RecordPlace → RecordPlace → RecordPlace
sooner_place one other =
    if nat_lt other.file one.file || other.file == one.file && nat_lt other.«record» one.«record» then other else one

-- Those that are incomplete, and one more, whose first fragment is the record at this place.
abbrev pub with_incomplete : RecordPlace → Option Incomplete → Option Incomplete
with_incomplete first None = Some (record { packets = 1; first = first })
with_incomplete first (Some others) = Some (record { packets = one_more others.packets; first = sooner_place first others.first })

module _ {K : Type 0} where
  -- Those that are incomplete, and these packets.
  abbrev pub with_all : List (PartialPacket K) → Option Incomplete → Option Incomplete
  with_all [] incomplete = incomplete
  with_all (packet ∷ packets) incomplete = with_all packets (with_incomplete packet.first incomplete)

-- ---- what is kept

-- The packets that are kept, the oldest first, and those that went before they were whole.
pub record Kept (K : Type 0) : Type 0 where
  pub packets : List (PartialPacket K)
  pub gone : Option Incomplete

-- How long a packet is kept after its first fragment, in milliseconds.
abbrev pub most_time : ℕ
most_time = 30000

-- How many packets are kept.
abbrev pub most_packets : ℕ
most_packets = 16

module _ {K : Type 0} where
  -- Nothing is kept.
  abbrev pub nothing : Kept K
  nothing = record { packets = []; gone = None }

  -- The time of a packet is over at this moment.
  abbrev pub is_over : ℕ → PartialPacket K → Bool
  is_over moment packet = nat_lt (packet.since + most_time) moment

  -- Packets whose time is over at this moment go.
  abbrev pub passed : ℕ → Kept K → Kept K
  passed moment kept = record {
    packets = filter (λ packet. not (is_over moment packet)) kept.packets;
    gone = with_all (filter (is_over moment) kept.packets) kept.gone;
  }

  -- The oldest packet goes.
  abbrev pub without_oldest : List (PartialPacket K) → Option Incomplete → Kept K
  without_oldest [] gone = record { packets = []; gone = gone }
  without_oldest (oldest ∷ others) gone = record { packets = others; gone = with_incomplete oldest.first gone }

  -- Room for one more packet.
  abbrev pub with_room : Kept K → Kept K
  with_room kept = if nat_lt (length kept.packets) most_packets then kept else without_oldest kept.packets kept.gone

  -- One more packet begins.
  abbrev pub with_begun : PartialPacket K → Kept K → Kept K
  with_begun packet kept = record {
    packets = (with_room kept).packets ++ packet ∷ [];
    gone = (with_room kept).gone;
  }

  -- A packet of which nothing is held yet.
  abbrev pub new_packet : K → RecordPlace → ℕ → PartialPacket K
  new_packet key first since = record { key = key; first = first; since = since; pieces = Some [] }

  -- ---- one more fragment

  -- A packet after one more fragment. A whole one leaves.
  abbrev pub left_of : PartialPacket K → Next → List (PartialPacket K)
  left_of packet next =
      if is_some next.whole then []
      else (record { key = packet.key; first = packet.first; since = packet.since; pieces = next.held }) ∷ []

  module _ (is_its : PartialPacket K → Bool) (piece : Piece) where
    -- The packets after one more fragment of the first that is meant.
    abbrev pub packets_with : List (PartialPacket K) → List (PartialPacket K)
    packets_with [] = []
    packets_with (packet ∷ packets) =
        if is_its packet then left_of packet (taken piece packet.pieces) ++ packets
        else packet ∷ packets_with packets

    -- The payload of that packet, if it is whole now.
    abbrev pub whole_with : List (PartialPacket K) → Option (List ℕ)
    whole_with [] = None
    whole_with (packet ∷ packets) =
        if is_its packet then (taken piece packet.pieces).whole else whole_with packets

    -- Whether memory is asked for: a packet begins, or a fragment is added to one.
    abbrev pub asks_with : List (PartialPacket K) → Bool
    asks_with [] = true
    asks_with (packet ∷ packets) = if is_its packet then is_added piece packet.pieces else asks_with packets

    -- What is kept after it.
    abbrev pub kept_with : Kept K → Kept K
    kept_with kept = record { packets = packets_with kept.packets; gone = kept.gone }

  -- The packet has this key.
  abbrev pub has_key : (K → K → Bool) → K → PartialPacket K → Bool
  has_key same key packet = same packet.key key

  module _ (same : K → K → Bool) (key : K) (first : RecordPlace) (moment : ℕ) where
    -- What is kept at this moment, with a packet of this key. If there is none, the record at the
    -- place `first` begins it.
    abbrev pub with_packet : Kept K → Kept K
    with_packet kept =
        if list_any (has_key same key) kept.packets then kept else with_begun (new_packet key first moment) kept

    -- What is kept after a record with one more fragment.
    abbrev pub kept_after : Piece → Kept K → Kept K
    kept_after piece kept = kept_with (has_key same key) piece (with_packet (passed moment kept))

    -- The payload of the packet that this fragment completes, if it completes one.
    abbrev pub whole_after : Piece → Kept K → Option (List ℕ)
    whole_after piece kept = whole_with (has_key same key) piece (with_packet (passed moment kept)).packets

    -- Whether memory is asked for.
    abbrev pub asks_after : Piece → Kept K → Bool
    asks_after piece kept = asks_with (has_key same key) piece (passed moment kept).packets

  -- ---- what holds at any time

  -- At most sixteen packets are kept, with at most 65,535 bytes each.
  pub record AreBounded (kept : Kept K) : Type 0 where
    pub packets : length kept.packets ≤ most_packets
    pub bytes : All (λ (packet : PartialPacket K). IsSmall packet.pieces) kept.packets
