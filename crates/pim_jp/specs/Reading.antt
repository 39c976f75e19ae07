-- Words for the contracts of the reader's private steps. A step that checks one part speaks of the
-- kinds at that part. A step that checks several parts speaks of the faults of all parts from there
-- on, whichever parts `next` adds.
use Rattle.std.specs.Prelude.{◌≡◌, ℕ, ◌+◌, ◌*◌, ◌<◌, Bool, true, false, ◌&&◌, ◌||◌, not, List, [], ◌++◌, Result, Ok}
use Rattle.std.specs.Prelude.{Err, length, map, drop, nat_lt, if◌then◌else◌}
use Rattle.std.specs.List.{list_any}
use Rattle.byteorder.specs.Endian.{big_number}
use Rattle.pim_addr.specs.declared.family.AddressFamily.{AddressFamily}
use Rattle.pim_addr.specs.Address.{is_source}
use Rattle.pim_addr.specs.Faults.{fault_if, judged}
use Rattle.pim_addr.specs.Encoded.{source_faults, group_length, source_length, source_value}
use Rattle.pim_jp.specs.declared.entry.Entry.{Entry}
use Rattle.pim_jp.specs.declared.entry.Entry.TheVariants.{Star, Source, Rpt}
use Rattle.pim_jp.specs.declared.fault.JpKind.{JpKind}
use Rattle.pim_jp.specs.declared.fault.JpKind.TheVariants.{Flags, NotSource, SecondStar, BothLists}
use Rattle.pim_jp.specs.declared.fault.JpFault.{JpFault}
use Rattle.pim_jp.specs.Message.{entry_of, entries_of}
use Rattle.pim_jp.specs.Spelling.{is_star, same_source}
use Rattle.pim_jp.specs.Parts.{Part, group, counts, part_then, entry_parts, is_typeless, entry_of_bytes}
use Rattle.pim_jp.specs.Faults.{address_kind, faults_of}

-- This fault is the first of the faults.
abbrev pub Reports : {E : Type 0} → List E → E → Type 0
Reports faults fault = judged faults (tt {0}) ≡ Err fault

-- Ok means that there are no faults, and Err gives the first of them.
abbrev pub Judges : {A E : Type 0} → Result A E → List E → Type 0
Judges (Ok x) faults = faults ≡ []
Judges (Err fault) faults = Reports faults fault

-- The kinds of fault that an entry has by itself: in its encoding, its type or its address.
abbrev pub own_kinds : AddressFamily → List ℕ → List JpKind
own_kinds family bytes =
    map address_kind (source_faults family bytes)
    ++ (if nat_lt (length bytes) (source_length family) then [] else
    fault_if (is_typeless (source_value family bytes)) Flags
    ++ fault_if (not (is_source family (source_value family bytes).address)) NotSource)

-- All kinds of fault of an entry except BothLists. `has_star` says whether a (*,G) entry precedes
-- it in its group set.
abbrev pub lone_kinds : AddressFamily → Bool → List ℕ → List JpKind
lone_kinds family has_star bytes =
    own_kinds family bytes
    ++ (if nat_lt (length bytes) (source_length family) then [] else
    fault_if (list_any is_star (entry_of_bytes (source_value family bytes)) && has_star) SecondStar)

-- The entry at index `place` of a list.
abbrev pub entry_at : AddressFamily → ℕ → List ℕ → Entry (List ℕ)
entry_at family place bytes = entry_of (source_value family (drop (place * source_length family) bytes))

-- All kinds of fault except BothLists of the entry at index `place` of a list. `has_star` says
-- whether a (*,G) entry precedes the list in its group set.
abbrev pub kinds_at_place : AddressFamily → Bool → ℕ → List ℕ → List JpKind
kinds_at_place family has_star place bytes =
    lone_kinds family (has_star || list_any is_star (entries_of family place bytes))
    (drop (place * source_length family) bytes)

-- None of the first `count` entries of a list has a fault other than BothLists.
abbrev pub AreClean : AddressFamily → Bool → ℕ → List ℕ → Type 0
AreClean family has_star count bytes = (place : ℕ) → place < count → kinds_at_place family has_star place bytes ≡ []

-- The first entry with a fault other than BothLists has the index `place`, and `kind` is the first
-- of those faults.
abbrev pub StopsAt : AddressFamily → Bool → ℕ → List ℕ → ℕ → JpKind → Type 0
StopsAt family has_star count bytes place kind =
    (place < count) × AreClean family has_star place bytes × Reports (kinds_at_place family has_star place bytes) kind

-- The other list has the entry's source too, in an entry of the same type.
abbrev pub is_in : List (Entry (List ℕ)) → Entry (List ℕ) → Bool
is_in other this = list_any (same_source this) other

-- The other list has none of the sources of the first `count` entries, in entries of the same type.
abbrev pub AreApart : AddressFamily → List (Entry (List ℕ)) → ℕ → List ℕ → Type 0
AreApart family other count bytes = (place : ℕ) → place < count → is_in other (entry_at family place bytes) ≡ false

-- The fault is BothLists at the first of `count` entries whose source is in the other list. The
-- list starts at the offset `at`.
abbrev pub ClashesAt : AddressFamily → List (Entry (List ℕ)) → ℕ → ℕ → List ℕ → JpFault → Type 0
ClashesAt family other count at bytes fault = (place : ℕ) × (place < count) × AreApart family other place bytes
    × (is_in other (entry_at family place bytes) ≡ true)
    × (fault ≡ record { at = at + place * source_length family; kind = BothLists })

-- The entry is (S,G).
abbrev pub is_source_entry : Entry (List ℕ) → Bool
is_source_entry (Star rp) = false
is_source_entry (Source source) = true
is_source_entry (Rpt source) = false

-- The entry is (S,G,rpt).
abbrev pub is_rpt_entry : Entry (List ℕ) → Bool
is_rpt_entry (Star rp) = false
is_rpt_entry (Source source) = false
is_rpt_entry (Rpt source) = true

-- ---- runs of parts; `next` gives the parts after a run

-- The run has no fault: with any `next`, the faults are those of the parts that `after` gives.
abbrev pub Passes : {Next : Type 0} → AddressFamily → (Next → List Part) → (Next → List Part) → Type 0
Passes {Next} family run after = (next : Next) → faults_of family (run next) ≡ faults_of family (after next)

-- This is the first fault of the run and of all parts after it, with any `next`.
abbrev pub Stops : {Next : Type 0} → AddressFamily → (Next → List Part) → JpFault → Type 0
Stops {Next} family run fault = (next : Next) → Reports (faults_of family (run next)) fault

-- The `count` entries after the joined ones have no fault, and the parts of `next` start at their
-- end.
abbrev pub EntriesPass : AddressFamily → ℕ → List (Entry (List ℕ)) → ℕ → List ℕ → Type 0
EntriesPass family count joined at bytes = Passes family (entry_parts family count joined joined at bytes)
    (λ next. next (joined ++ entries_of family count bytes) (at + count * source_length family)
    (drop (count * source_length family) bytes))

-- The parts of a group set from its counts on, and then those of `next`.
abbrev pub lists_then : AddressFamily → ℕ → List ℕ → (ℕ → List ℕ → List Part) → List Part
lists_then family at bytes next =
    part_then counts 4 at bytes (λ at entries.
    entry_parts family (big_number 2 bytes) [] [] at entries (λ joined at entries.
    entry_parts family (big_number 2 (drop 2 bytes)) joined joined at entries (λ _ at bytes. next at bytes)))

-- The length in bytes of the counts and both lists of a group set.
abbrev pub lists_length : AddressFamily → List ℕ → ℕ
lists_length family bytes =
    4 + big_number 2 bytes * source_length family + big_number 2 (drop 2 bytes) * source_length family

-- The offset of the end of both lists, where the counts start at the offset `at`.
abbrev pub lists_end : AddressFamily → ℕ → List ℕ → ℕ
lists_end family at bytes =
    at + 4 + big_number 2 bytes * source_length family + big_number 2 (drop 2 bytes) * source_length family

-- The bytes after both lists.
abbrev pub after_lists : AddressFamily → List ℕ → List ℕ
after_lists family bytes =
    drop (big_number 2 (drop 2 bytes) * source_length family)
    (drop (big_number 2 bytes * source_length family) (drop 4 bytes))

-- The parts of a group set, and then those of `next`.
abbrev pub set_then : AddressFamily → ℕ → List ℕ → (ℕ → List ℕ → List Part) → List Part
set_then family at bytes next =
    part_then group (group_length family) at bytes (λ at bytes. lists_then family at bytes next)
