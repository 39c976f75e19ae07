-- A text states one message: the statements of the laws in `src/one_reading.rt`.
use Rattle.std.specs.Prelude.{◌≡◌, ◌<◌, ℕ, Bool, List, length}
use Rattle.pim_addr.specs.declared.family.AddressFamily.{AddressFamily}
use Rattle.pim_lines.specs.declared.either.AnyAddress.{AnyAddress}
use Rattle.pim_text.specs.declared.line.Stated.{Stated}
use Rattle.pim_text.specs.Value.{TextValue}
use Rattle.pim_lines.specs.AnyAddress.{Names}
use Rattle.pim_text.specs.Read.{States, IsWrongLine, IsRead}
use Rattle.pim_text.specs.Spell.{IsSpelled, IsLong}

-- A text names at most one address, of either family.
abbrev pub OneName : Type 0
OneName = (text : List ℕ) (one other : AnyAddress) → Names text one → Names text other → one ≡ other

-- A text states at most one message.
abbrev pub OneMessage : Type 0
OneMessage = (text : List ℕ) (one other : TextValue) → States text one → States text other → one ≡ other

-- What is read of a text is one thing.
abbrev pub OneRead : Type 0
OneRead = (text : List ℕ) (one other : Stated) → IsRead text one → IsRead text other → one ≡ other

-- A text has at most one line that is the first wrong one.
abbrev pub OneWrongLine : Type 0
OneWrongLine = (text : List ℕ) (one other : ℕ) → IsWrongLine text one → IsWrongLine text other → one ≡ other

-- A text that states a message has no wrong line.
abbrev pub NoWrongLineIfStated : Type 0
NoWrongLineIfStated = (text : List ℕ) (value : TextValue) (number : ℕ) → States text value → IsWrongLine text number → ⊥

-- The body of the message that a text states is one, and so is its kind.
abbrev pub OneBody : Type 0
OneBody = (family : AddressFamily) (text : List ℕ) (one other : Bool) (body spelled : List ℕ) →
    IsSpelled family text one body → IsSpelled family text other spelled → (one ≡ other) × (body ≡ spelled)

-- The body that a text states is too long where the text is.
abbrev pub LongBody : Type 0
LongBody = (family : AddressFamily) (text : List ℕ) (is_hello : Bool) (body : List ℕ) →
    IsSpelled family text is_hello body → IsLong family text → 65532 < length body
