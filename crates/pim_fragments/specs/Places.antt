-- What private functions say of packets by their places.
use Rattle.std.specs.Prelude.{ℕ, zero, suc, nat_lt, Bool, false, List, [], ◌∷◌, ◌++◌, length, Option, None, if◌then◌else◌}
use Rattle.pim_fragments.specs.declared.fragments.PartialPacket.{PartialPacket}
use Rattle.pim_capture.specs.declared.incomplete.Incomplete.{Incomplete}
use Rattle.pim_fragments.specs.Pieces.{Piece, taken, is_added}
use Rattle.pim_fragments.specs.Packets.{Kept, left_of, most_packets, without_oldest, with_room}

module _ {K : Type 0} where
  -- Of more than sixteen packets the oldest goes.
  abbrev pub within_most : List (PartialPacket K) → Option Incomplete → Kept K
  within_most packets gone =
      if nat_lt most_packets (length packets) then without_oldest packets gone
      else (record { packets = packets; gone = gone })

  module _ (piece : Piece) where
    -- The packets after one more fragment of the one at this place.
    abbrev pub packets_at : ℕ → List (PartialPacket K) → List (PartialPacket K)
    packets_at place [] = []
    packets_at zero (packet ∷ packets) = left_of packet (taken piece packet.pieces) ++ packets
    packets_at (suc place) (packet ∷ packets) = packet ∷ packets_at place packets

    -- The payload of that packet, if it is whole now.
    abbrev pub whole_at : ℕ → List (PartialPacket K) → Option (List ℕ)
    whole_at place [] = None
    whole_at zero (packet ∷ packets) = (taken piece packet.pieces).whole
    whole_at (suc place) (packet ∷ packets) = whole_at place packets

    -- Whether it is added to those that are held of that packet.
    abbrev pub is_added_at : ℕ → List (PartialPacket K) → Bool
    is_added_at place [] = false
    is_added_at zero (packet ∷ packets) = is_added piece packet.pieces
    is_added_at (suc place) (packet ∷ packets) = is_added_at place packets

    -- What is kept after it.
    abbrev pub kept_at : ℕ → Kept K → Kept K
    kept_at place kept = record { packets = packets_at place kept.packets; gone = kept.gone }

    -- What is kept after the first fragment of a packet.
    abbrev pub begun_with : PartialPacket K → Kept K → Kept K
    begun_with packet kept = record {
      packets = (with_room kept).packets ++ left_of packet (taken piece packet.pieces);
      gone = (with_room kept).gone;
    }
