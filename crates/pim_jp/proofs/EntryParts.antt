-- The entries of a list: those of a legal body are spelled by its bytes.
use Rattle.std.proofs.Common.{◌≡◌, ℕ, zero, suc, ◌+◌, ◌*◌, ◌≤◌, Bool, true, false, not, ◌&&◌, ◌||◌, ltb, List, [], ◌∷◌, ◌++◌, length, map, take, drop, refl, sym, ap, subst, ◌∙◌, arith, append_assoc, append-nil, length-drop, take-append-drop, drop-drop, suc-mul}
use Rattle.pim_jp.proofs.Words.{⊤, list_any, le-ltb, not-false, AddressFamily, is_source, SourceValue, IsSource, source_length}
use Rattle.pim_jp.proofs.Words.{source_faults, source_value, fault_if, Entry, JpKind, Flags, NotSource, SecondStar, BothLists}
use Rattle.pim_jp.proofs.Words.{entry_of, entries_of, source_of, AreEntries, is_star, same_source, Shape, entry, Part, part_then}
use Rattle.pim_jp.proofs.Words.{is_typeless, entry_of_bytes, entry_parts, address_kind, entry_kinds, kinds_at, faults_of}
use Rattle.pim_jp.proofs.Front.{append_none, map_none, none_if}
use Rattle.pim_jp.proofs.Forms.{source_legal}

-- ---- a part and those behind it

-- without a fault there is none at the part, and if it is whole none behind it
pub part_legal : (family : AddressFamily) (shape : Shape) (size at : ℕ) (bytes : List ℕ) (next : ℕ → List ℕ → List Part) → faults_of family (part_then shape size at bytes next) ≡ []
    → (kinds_at family shape bytes ≡ []) × (size ≤ length bytes → faults_of family (next (at + size) (drop size bytes)) ≡ [])
part_legal family shape size at bytes next h =
    let parts = append_none (map (λ (kind : JpKind). record { at = at; kind = kind }) (kinds_at family shape bytes)) _ h in
    (map_none _ _ parts.0, λ whole. let long : ltb (length bytes) size ≡ false = le-ltb _ _ whole in rw long at parts.1)

pub part_spelled : (family : AddressFamily) (shape : Shape) (size at : ℕ) (bytes : List ℕ) (next : ℕ → List ℕ → List Part) → kinds_at family shape bytes ≡ [] → size ≤ length bytes
    → faults_of family (next (at + size) (drop size bytes)) ≡ [] → faults_of family (part_then shape size at bytes next) ≡ []
part_spelled family shape size at bytes next none whole behind = let long : ltb (length bytes) size ≡ false = le-ltb _ _ whole in rw (none, long) behind

-- ---- one entry

entry_whole : (family : AddressFamily) (earlier other : List (Entry (List ℕ))) (bytes : List ℕ) → kinds_at family (entry earlier other) bytes ≡ []
    → (source_faults family bytes ≡ []) × (entry_kinds family earlier other (source_value family bytes) ≡ [])
entry_whole family earlier other bytes h =
    let parts = append_none (map address_kind (source_faults family bytes)) _ h in
    let form = map_none address_kind _ parts.0 in
    let long : ltb (length bytes) (source_length family) ≡ false = le-ltb _ _ (source_legal family bytes form).0 in
    (form, rw long at parts.1)

-- no second (*,G), and not the same source in the other list
abbrev pub Allowed : List (Entry (List ℕ)) → List (Entry (List ℕ)) → Entry (List ℕ) → Type 0
Allowed earlier other this = (is_star this && list_any is_star earlier ≡ false) × (list_any (same_source this) other ≡ false)

or_false : (b : Bool) → b || false ≡ b
or_false true = refl
or_false false = refl

source_of-entry_of : (address : List ℕ) (wildcard rpt : Bool) → wildcard && not rpt ≡ false
    → source_of (entry_of (record { address = address; wildcard = wildcard; rpt = rpt })) ≡ record { address = address; wildcard = wildcard; rpt = rpt }
source_of-entry_of address true true h = refl
source_of-entry_of address true false h = absurd cc
source_of-entry_of address false true h = refl
source_of-entry_of address false false h = refl

entry_allowed : (family : AddressFamily) (earlier other : List (Entry (List ℕ))) (source : SourceValue) → entry_kinds family earlier other source ≡ []
    → (entry_of_bytes source ≡ entry_of source ∷ []) × (source_of (entry_of source) ≡ source) × (is_source family source.address ≡ true) × Allowed earlier other (entry_of source)
entry_allowed family earlier other source h =
    let kindless : List JpKind = fault_if (is_typeless source) Flags in
    let invalid : List JpKind = fault_if (not (is_source family source.address)) NotSource in
    let again : List JpKind = fault_if (list_any is_star (entry_of_bytes source) && list_any is_star earlier) SecondStar in
    let twice : List JpKind = fault_if (list_any (λ this. list_any (same_source this) other) (entry_of_bytes source)) BothLists in
    let three = append_none ((kindless ++ invalid) ++ again) twice h in
    let two = append_none (kindless ++ invalid) again three.0 in
    let one = append_none kindless invalid two.0 in
    let kind : is_typeless source ≡ false = none_if _ Flags one.0 in
    let named : entry_of_bytes source ≡ entry_of source ∷ [] = rw kind refl in
    let first : list_any is_star (entry_of source ∷ []) && list_any is_star earlier ≡ false = subst (λ (these : List (Entry (List ℕ))). list_any is_star these && list_any is_star earlier ≡ false) named (none_if _ SecondStar two.1) in
    let apart : list_any (λ this. list_any (same_source this) other) (entry_of source ∷ []) ≡ false = subst (λ (these : List (Entry (List ℕ))). list_any (λ this. list_any (same_source this) other) these ≡ false) named (none_if _ BothLists three.1) in
    (named, source_of-entry_of source.address source.wildcard source.rpt kind, not-false _ (none_if _ NotSource one.1), (rw or_false at first, rw or_false at apart))

-- ---- the entries of a list

abbrev pub AllAllowed : List (Entry (List ℕ)) → List (Entry (List ℕ)) → List (Entry (List ℕ)) → Type 0
AllAllowed earlier other [] = ⊤
AllAllowed earlier other (this ∷ entries) = Allowed earlier other this × AllAllowed (earlier ++ this ∷ []) other entries

-- what is known of entries that are read where no fault is
pub record AreLegal (family : AddressFamily) (count : ℕ) (earlier other : List (Entry (List ℕ))) (bytes : List ℕ) (next : List (Entry (List ℕ)) → ℕ → List ℕ → List Part) : Type 0 where
  pub long : count * source_length family ≤ length bytes
  pub allowed : AllAllowed earlier other (entries_of family count bytes)
  pub used : List ℕ
  pub cut : bytes ≡ used ++ drop (count * source_length family) bytes
  pub spelled : AreEntries family (entries_of family count bytes) used
  pub at : ℕ
  pub behind : faults_of family (next (earlier ++ entries_of family count bytes) at (drop (count * source_length family) bytes)) ≡ []

pub drop_one : (count size : ℕ) (bytes : List ℕ) → drop (suc count * size) bytes ≡ drop (count * size) (drop size bytes)
drop_one count size bytes =
    let more : suc count * size ≡ size + count * size = omega (arith, suc-mul count size) in
    ap (λ (n : ℕ). drop n bytes) more ∙ sym (drop-drop (count * size) size bytes)

pub entries_legal : (family : AddressFamily) (count : ℕ) (earlier other : List (Entry (List ℕ))) (at : ℕ) (bytes : List ℕ) (next : List (Entry (List ℕ)) → ℕ → List ℕ → List Part)
    → faults_of family (entry_parts family count earlier other at bytes next) ≡ [] → AreLegal family count earlier other bytes next
unfolding entry_parts entries_of AreEntries
entries_legal family zero earlier other at bytes next h =
    let none : zero * source_length family ≡ zero = omega arith in
    let all : drop (zero * source_length family) bytes ≡ bytes = rw none refl in
    record {
      long = omega arith;
      allowed = tt;
      used = [];
      cut = sym all;
      spelled = refl;
      at = at;
      behind = rw (append-nil earlier, all) h;
    }
entries_legal family (suc count) earlier other at bytes next h =
    let size = source_length family in
    let source = source_value family bytes in
    let this = entry_of source in
    let part = part_legal family (entry earlier other) size at bytes (λ at bytes'. entry_parts family count (earlier ++ entry_of_bytes source) other at bytes' next) h in
    let whole = entry_whole family earlier other bytes part.0 in
    let form = source_legal family bytes whole.0 in
    let kind = entry_allowed family earlier other source whole.1 in
    let behind = subst (λ (these : List (Entry (List ℕ))). faults_of family (entry_parts family count (earlier ++ these) other (at + size) (drop size bytes) next) ≡ []) kind.0 (part.1 form.0) in
    let others = entries_legal family count (earlier ++ this ∷ []) other (at + size) (drop size bytes) next behind in
    let step = drop_one count size bytes in
    let more : suc count * size ≡ size + count * size = omega (arith, suc-mul count size) in
    let cut : bytes ≡ (take size bytes ++ others.used) ++ drop (count * size) (drop size bytes) =
    sym (take-append-drop size bytes) ∙ ap (λ (xs : List ℕ). take size bytes ++ xs) others.cut ∙ sym (append_assoc (take size bytes) others.used (drop (count * size) (drop size bytes))) in
    record {
      long = omega (arith, others.long, length-drop size bytes, form.0);
      allowed = (kind.3, others.allowed);
      used = take size bytes ++ others.used;
      cut = rw step cut;
      spelled = (take size bytes, others.used, refl, (subst (λ (value : SourceValue). IsSource family value (take size bytes)) (sym kind.1) form.1, ap (λ (value : SourceValue). is_source family value.address) kind.1 ∙ kind.2), others.spelled);
      at = others.at;
      behind = rw (step, ← append_assoc earlier (this ∷ []) (entries_of family count (drop size bytes))) others.behind;
    }
