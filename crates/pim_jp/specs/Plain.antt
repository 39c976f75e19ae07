-- The canonical spelling as a relation, by the same grammar as `Spells` (RFC 7761, 4.9.1 and
-- 4.9.5). A spelling is plain if what a reader ignores is 0, except the S bit of each entry, which
-- is 1.
use Rattle.std.specs.Prelude.{◌≡◌, ℕ, ◌/◌, List, [], ◌∷◌, ◌++◌, length, slice_index}
use Rattle.byteorder.specs.Endian.{big_bytes}
use Rattle.pim_addr.specs.declared.family.AddressFamily.{AddressFamily}
use Rattle.pim_addr.specs.Encoded.{IsUnicast, IsGroup}
use Rattle.pim_jp.specs.declared.entry.Entry.{Entry}
use Rattle.pim_jp.specs.Message.{GroupSet, Message}
use Rattle.pim_jp.specs.Spelling.{Then, IsEntry, Spells}

-- An encoded group address whose B, reserved and Z bits are 0.
abbrev pub IsPlainGroup : AddressFamily → List ℕ → List ℕ → Type 0
IsPlainGroup family group bytes = IsGroup family group bytes × (slice_index bytes 2 ≡ 0)

-- An encoded source address whose reserved bits are 0 and whose S bit is 1.
abbrev pub IsPlainEntry : AddressFamily → Entry (List ℕ) → List ℕ → Type 0
IsPlainEntry family entry bytes = IsEntry family entry bytes × (slice_index bytes 2 / 4 ≡ 1)

-- The bytes are plain spellings of these entries, one after the other.
unfoldable pub ArePlainEntries : AddressFamily → List (Entry (List ℕ)) → List ℕ → Type 0
ArePlainEntries family [] bytes = bytes ≡ []
ArePlainEntries family (entry ∷ entries) bytes = Then (IsPlainEntry family entry) (ArePlainEntries family entries) bytes

-- The bytes are a plain spelling of this group set.
abbrev pub IsPlainSet : AddressFamily → GroupSet → List ℕ → Type 0
IsPlainSet family set bytes =
    Then (IsPlainGroup family set.group)
    (Then (λ counts. counts ≡ big_bytes 2 (length set.joined) ++ big_bytes 2 (length set.pruned))
    (Then (ArePlainEntries family set.joined) (ArePlainEntries family set.pruned))) bytes

-- The bytes are plain spellings of these group sets, one after the other.
unfoldable pub ArePlainSets : AddressFamily → List GroupSet → List ℕ → Type 0
ArePlainSets family [] bytes = bytes ≡ []
ArePlainSets family (set ∷ sets) bytes = Then (IsPlainSet family set) (ArePlainSets family sets) bytes

-- Num groups and the holdtime after a reserved byte that is 0.
abbrev pub IsPlainHead : ℕ → ℕ → List ℕ → Type 0
IsPlainHead sets holdtime bytes = bytes ≡ 0 ∷ sets ∷ big_bytes 2 holdtime

-- The body spells the message, and its spelling is plain.
abbrev pub SpellsPlainly : AddressFamily → Message → List ℕ → Type 0
SpellsPlainly family message body = Spells family message body
    × Then (IsUnicast family message.upstream)
    (Then (IsPlainHead (length message.sets) message.holdtime) (ArePlainSets family message.sets)) body
