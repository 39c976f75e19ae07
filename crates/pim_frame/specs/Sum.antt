-- The checksum of a PIM message (RFC 7761, 4.9), with the pseudo-header of RFC 8200, 8.1, over
-- IPv6.
use Rattle.std.specs.Prelude.{ℕ, ◌+◌, ◌*◌, ◌%◌, Bool, List, [], ◌∷◌, ◌++◌, length, nat_lt, ◌==◌, ◌&&◌}
use Rattle.std.specs.Int.{w32, to_be_bytes}
use Rattle.pim_addr.specs.declared.family.AddressFamily.{AddressFamily}
use Rattle.pim_addr.specs.declared.family.AddressFamily.TheVariants.{Ipv4, Ipv6}

-- The plain sum of the 16-bit big-endian words of these bytes; a zero byte follows a last odd byte.
unfoldable pub words_sum : List ℕ → ℕ
words_sum [] = 0
words_sum (last ∷ []) = 256 * last
words_sum (high ∷ low ∷ rest) = 256 * high + low + words_sum rest

-- The IPv6 pseudo-header, which the sum includes: source, destination, length in 32 bits, three
-- zero bytes, the protocol number 103 of PIM. It is empty over IPv4.
abbrev pub pseudo_header : AddressFamily → List ℕ → List ℕ → ℕ → List ℕ
pseudo_header Ipv4 source destination message_length = []
pseudo_header Ipv6 source destination message_length =
    source ++ destination ++ to_be_bytes w32 message_length ++ 0 ∷ 0 ∷ 0 ∷ 103 ∷ []

-- The plain sum of a message with its Checksum field, after the pseudo-header.
abbrev pub message_sum : AddressFamily → List ℕ → List ℕ → List ℕ → ℕ
message_sum family source destination message =
    words_sum (pseudo_header family source destination (length message) ++ message)

-- The checksum of the message is correct: that sum is above 0 and divisible by 65,535. So Checksum
-- fields of 0x0000 and 0xffff are both correct where one is, unless the plain sum is then 0.
abbrev pub sums_rightly : AddressFamily → List ℕ → List ℕ → List ℕ → Bool
sums_rightly family source destination message =
    nat_lt 0 (message_sum family source destination message)
    && message_sum family source destination message % 65535 == 0
