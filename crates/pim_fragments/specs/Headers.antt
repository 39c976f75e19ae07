-- The headers of an IPv6 packet that stand before PIM (RFC 8200, 4): where PIM begins, or which
-- fragment of a packet it is.
use Rattle.std.specs.Prelude.{ℕ, zero, suc, ◌+◌, ◌*◌, ◌/◌, ◌%◌, Bool, ◌||◌, ◌==◌, not, List, ◌++◌, length, drop, slice_index, nat_lt}
use Rattle.std.specs.Prelude.{None, Some, Result, Ok, Err, if◌then◌else◌}
use Rattle.byteorder.specs.Endian.{big_number}
use Rattle.pim_addr.specs.Faults.{fault_if, judged}
use Rattle.pim_capture.specs.declared.event.Why.{Why}
use Rattle.pim_capture.specs.declared.event.Why.TheVariants.{Cut, BadHeader, NotPim}
use Rattle.pim_fragments.specs.declared.headers.Fragment.{Fragment}
use Rattle.pim_fragments.specs.declared.headers.Content.{Content}

-- Hop-by-Hop Options (RFC 8200, 4.3), Routing (4.4) and Destination Options (4.6).
abbrev pub is_option_header : ℕ → Bool
is_option_header next = next == 0 || next == 43 || next == 60

-- A header that may stand before PIM: one of these, or Fragment (RFC 8200, 4.5).
abbrev pub is_read : ℕ → Bool
is_read next = is_option_header next || next == 44

-- What a fragment may begin with, or go on with: PIM, or a header that may stand before it.
abbrev pub may_hold_pim : ℕ → Bool
may_hold_pim next = is_option_header next || next == 103

-- The length of the header at `at`, in bytes. Its second byte counts the words of eight bytes after
-- the first. Fragment has eight bytes.
abbrev pub header_length : ℕ → ℕ → List ℕ → ℕ
header_length next at bytes = if next == 44 then 8 else 8 * (slice_index bytes (at + 1) + 1)

-- Why the bytes up to `end` are not there: the packet has fewer, or fewer were captured.
abbrev pub reach_whys : ℕ → ℕ → List ℕ → List Why
reach_whys end total bytes = fault_if (nat_lt total end) BadHeader ++ fault_if (nat_lt (length bytes) end) Cut

-- Why no header that may stand before PIM is at `at`. The first reason counts.
abbrev pub header_whys : ℕ → ℕ → ℕ → List ℕ → List Why
header_whys next at total bytes =
    fault_if (not (is_read next)) NotPim
    ++ reach_whys (at + 8) total bytes
    ++ reach_whys (at + header_length next at bytes) total bytes

-- The fields of the Fragment header at `at`: the next header, the offset in words of eight bytes
-- before three bits, of which the last is M, and the identification.
abbrev pub fragment_at : ℕ → List ℕ → Fragment
fragment_at at bytes = record {
  protocol = slice_index bytes at;
  identification = big_number 4 (drop (at + 4) bytes);
  offset = 8 * (big_number 2 (drop (at + 2) bytes) / 8);
  more = big_number 2 (drop (at + 2) bytes) % 2 == 1;
}

-- A fragment with other bytes of its packet before it or after it. One without is a whole packet
-- (RFC 6946).
abbrev pub is_part : Fragment → Bool
is_part fragment = fragment.more || not (fragment.offset == 0)

-- The fragment whose bytes begin at `begin`, if its packet may hold PIM.
abbrev pub content_at : ℕ → Fragment → Result Content Why
content_at begin fragment =
    judged (fault_if (not (may_hold_pim fragment.protocol)) NotPim) (record { begin = begin; fragment = Some fragment })

-- What follows a header: the walk goes on, unless there is no header, or it is that of a fragment.
abbrev pub after_header : ℕ → ℕ → List ℕ → (ℕ → Result Content Why) → Result ℕ Why → Result Content Why
after_header next at bytes go_on (Err why) = Err why
after_header next at bytes go_on (Ok end) =
    if next == 44 then (if is_part (fragment_at at bytes) then content_at end (fragment_at at bytes) else go_on end) else go_on end

-- What a packet of this total length holds from `at` on, where a header of the number `next` begins.
-- A walk over at most this number of headers.
unfoldable pub walk : ℕ → ℕ → ℕ → ℕ → List ℕ → Result Content Why
walk zero next at total bytes = Err BadHeader
walk (suc headers) next at total bytes =
    if next == 103 then Ok (record { begin = at; fragment = None })
    else after_header next at bytes (λ end. walk headers (slice_index bytes at) end total bytes)
    (judged (header_whys next at total bytes) (at + header_length next at bytes))

-- More headers than a packet has: each has eight bytes, and a packet fewer than 2^16 and 40.
abbrev pub most_headers : ℕ
most_headers = 8200
