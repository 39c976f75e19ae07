-- How messages are kept: one block with the bytes of all, and the place of each message in it.
use Rattle.std.specs.Prelude.{ℕ, ◌≤◌, List, Option, None, Some, map}
use Rattle.std.specs.Borrow.{Bor}
use Rattle.pim_form.specs.declared.messages.Span.{Span}
use Rattle.pim_form.specs.Rows.{between}

-- The span lies within a block of `size` bytes.
abbrev pub IsSpan : ℕ → Span → Type 0
IsSpan size span = (span.start ≤ span.end) × (span.end ≤ size)

-- The bytes of one message.
abbrev pub message_seen : List ℕ → Span → List ℕ
message_seen bytes span = between span.start span.end bytes

-- The bytes of each message, in order.
abbrev pub messages_seen : List ℕ → List Span → List (List ℕ)
messages_seen bytes spans = map (message_seen bytes) spans

-- The bytes of a message that was returned by reference, or `None`.
abbrev pub written_bytes : Option (Bor (List ℕ)) → Option (List ℕ)
written_bytes None = None
written_bytes (Some bytes) = Some bytes.now
