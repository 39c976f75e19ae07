-- The numbers of the sources of one list, as the reader sorts them to find sources that are in both
-- lists. Those of (S,G) entries are apart from those of (S,G,rpt) entries.
use Rattle.std.specs.Prelude.{ℕ, Bool, true, false, ◌&&◌, ◌||◌, List, [], ◌∷◌, nat_eq}
use Rattle.std.specs.List.{list_any}
use Rattle.pim_addr.specs.declared.family.AddressFamily.{AddressFamily}
use Rattle.pim_addr.specs.Address.{IsAddress, number_of}
use Rattle.pim_jp.specs.declared.entry.Entry.{Entry}
use Rattle.pim_jp.specs.declared.entry.Entry.TheVariants.{Star, Source, Rpt}
use Rattle.pim_jp.specs.Spelling.{source_of}

-- The number is one of `numbers`.
abbrev pub is_among : {N : Type 0} → (N → ℕ) → List N → ℕ → Bool
is_among value_of numbers number = list_any (λ other. nat_eq number (value_of other)) numbers

-- The number of the entry's source is among those of its type: `sources` for (S,G), `rpts` for
-- (S,G,rpt). A (*,G) entry is never listed.
abbrev pub is_listed : {N : Type 0} → (N → ℕ) → List N → List N → Entry (List ℕ) → Bool
is_listed value_of sources rpts (Star rp) = false
is_listed value_of sources rpts (Source source) = is_among value_of sources (number_of source)
is_listed value_of sources rpts (Rpt source) = is_among value_of rpts (number_of source)

-- The list of this number alone, or the empty list.
abbrev pub one_if : {N : Type 0} → Bool → N → List N
one_if true number = number ∷ []
one_if false number = []

-- The entry's address is an address of the family.
abbrev pub HasAddress : AddressFamily → Entry (List ℕ) → Type 0
HasAddress family this = IsAddress family (source_of this).address

-- The number is one of `numbers` that has a mark. Each mark has the index of its number.
unfoldable pub is_marked : {N : Type 0} → (N → ℕ) → List N → List Bool → ℕ → Bool
is_marked value_of [] marks number = false
is_marked value_of (other ∷ numbers) [] number = false
is_marked value_of (other ∷ numbers) (mark ∷ marks) number =
    (mark && nat_eq number (value_of other)) || is_marked value_of numbers marks number

-- The number of the entry's source is one of those of its type that have a mark.
abbrev pub has_mark : {N : Type 0} → (N → ℕ) → List N → List N → List Bool → List Bool → Entry (List ℕ) → Bool
has_mark value_of sources rpts source_marks rpt_marks (Star rp) = false
has_mark value_of sources rpts source_marks rpt_marks (Source source) =
    is_marked value_of sources source_marks (number_of source)
has_mark value_of sources rpts source_marks rpt_marks (Rpt source) =
    is_marked value_of rpts rpt_marks (number_of source)
