use Rattle.pim_request.proofs.Cited.{◌≡◌, ◌≤◌, ◌+◌, ◌++◌, length, vec_capacity, IsHex, hex_bytes}
use Rattle.pim_request.proofs.hex.decode_hex.Given as goal

-- the bytes so far and those of the digits that are left are all bytes, and have room
abbrev pub invariant-loop-decoded : goal.invariant-loop-decoded
invariant-loop-decoded l = record {
  digits : IsHex l.left;
  bytes : l.bytes.items ++ hex_bytes l.left ≡ hex_bytes l.hex;
  room : length l.bytes.items + length (hex_bytes l.left) ≤ vec_capacity l.bytes;
  grown : vec_capacity l.fn.bytes ≤ vec_capacity l.bytes;
}

abbrev pub decreases-loop-decoded : goal.decreases-loop-decoded
decreases-loop-decoded l = length l.left
