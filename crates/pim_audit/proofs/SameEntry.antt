-- When two entries are the same, and when two lists have the same entries.
use Rattle.pim_audit.proofs.Words.{◌≡◌, ◌∙◌, ℕ, zero, suc, Bool, true, false, ◌&&◌, ◌||◌, List, [], ◌∷◌, refl, sym, ap, ap₂}
use Rattle.pim_audit.proofs.Words.{subst, AllByRecursion, list_any, IsStrictlySortedBy, is_eq, nat_cmp, ordering_then, Less}
use Rattle.pim_audit.proofs.Words.{Equal, Greater, false≢true, nat_cmp_total, nat_list_cmp_total, tied_itself, AddressFamily}
use Rattle.pim_audit.proofs.Words.{Event, address_cmp, rank, source_of, what_cmp, entry, entry_rank, entry_cmp, same_entry}
use Rattle.pim_audit.proofs.Words.{EntriesAscend}
use Rattle.pim_audit.proofs.EntryOrder.{turned, all_after}
use Rattle.std.proofs.lemmas.Bool.{and_parts}
use Rattle.std.specs.Cmp.{Equal-is, tied_then}
use Rattle.std.specs.Cmp.Lexicographic.{same_text, texts_ties}
use Rattle.std.specs.FinMap.{nat_cmp-IsAntisymmetric}
use Rattle.pim_down.specs.declared.machines.key.What.{What}
use Rattle.pim_down.specs.declared.machines.key.What.TheVariants.{Star, Source, Rpt}
use Rattle.pim_form.specs.NormalForm.{same_address}
use Rattle.pim_audit.specs.Order.{join_rank, ranked}
use Rattle.pim_audit.specs.Sides.{IsEntry}

-- ---- one entry

-- the entry of this rank, group and source
abbrev at_rank : ℕ → List ℕ → List ℕ → Event
at_rank zero group source = entry true group Star
at_rank (suc zero) group source = entry false group Star
at_rank (suc (suc zero)) group source = entry true group (Rpt source)
at_rank (suc (suc (suc zero))) group source = entry false group (Rpt source)
at_rank (suc (suc (suc (suc zero)))) group source = entry true group (Source source)
at_rank (suc (suc (suc (suc (suc _))))) group source = entry false group (Source source)

is_at_rank : (joins : Bool) (group : List ℕ) (what : What (List ℕ))
    → at_rank (ranked joins (join_rank what)) group (source_of what) ≡ entry joins group what
is_at_rank true group Star = refl
is_at_rank false group Star = refl
is_at_rank true group (Rpt source) = refl
is_at_rank false group (Rpt source) = refl
is_at_rank true group (Source source) = refl
is_at_rank false group (Source source) = refl

machine_rank : (joins : Bool) (what : What (List ℕ)) → rank (at_rank (ranked joins (join_rank what)) [] []).what ≡ rank what
machine_rank true Star = refl
machine_rank false Star = refl
machine_rank true (Rpt source) = refl
machine_rank false (Rpt source) = refl
machine_rank true (Source source) = refl
machine_rank false (Source source) = refl

-- ---- two entries

-- both have this rank
abbrev pub equal_rank : Event → ℕ → Bool
equal_rank this rank = is_eq (nat_cmp (entry_rank this) rank)

one_rank : (x y : ℕ) → is_eq (nat_cmp x y) ≡ true → x ≡ y
one_rank x y tied = nat_cmp-IsAntisymmetric x y ((Equal-is (nat_cmp x y)).0 tied)

-- entries of one rank are of machines of one rank
one_machine_rank : (a b : Event) → entry_rank a ≡ entry_rank b → is_eq (nat_cmp (rank a.what) (rank b.what)) ≡ true
one_machine_rank a b same =
    let ranks : rank a.what ≡ rank b.what =
    sym (machine_rank a.joins a.what) ∙ ap (λ n. rank (at_rank n [] []).what) same ∙ machine_rank b.joins b.what in
    ap (λ n. is_eq (nat_cmp n (rank b.what))) ranks ∙ ap is_eq (tied_itself nat_cmp_total (rank b.what))

rank_alone : (a b : Event) (address one : Bool) → equal_rank a (entry_rank b) ≡ one
    → ((address && one) && (is_eq (nat_cmp (rank a.what) (rank b.what)) && same_address (source_of a.what) (source_of b.what)))
    ≡ ((address && one) && same_address (source_of a.what) (source_of b.what))
rank_alone a b true true is = ap (λ t. t && same_address (source_of a.what) (source_of b.what))
    (one_machine_rank a b (one_rank (entry_rank a) (entry_rank b) is))
rank_alone a b true false is = refl
rank_alone a b false one is = refl

-- entries are the same whose groups, ranks and sources are
pub same_parts : (a b : Event) → same_entry a b
    ≡ ((same_address a.group b.group && equal_rank a (entry_rank b)) && same_address (source_of a.what) (source_of b.what))
unfolding entry_cmp what_cmp
same_parts a b =
    sym (tied_then (ordering_then (address_cmp a.group b.group) (nat_cmp (entry_rank a) (entry_rank b))) (what_cmp a.what b.what))
    ∙ ap₂ ◌&&◌
    (sym (tied_then (address_cmp a.group b.group) (nat_cmp (entry_rank a) (entry_rank b)))
    ∙ ap (λ t. t && equal_rank a (entry_rank b)) (sym (texts_ties a.group b.group)))
    (sym (tied_then (nat_cmp (rank a.what) (rank b.what)) (address_cmp (source_of a.what) (source_of b.what)))
    ∙ ap (λ t. is_eq (nat_cmp (rank a.what) (rank b.what)) && t) (sym (texts_ties (source_of a.what) (source_of b.what))))
    ∙ rank_alone a b (same_address a.group b.group) (equal_rank a (entry_rank b)) refl

-- the same entries are equal
pub same_is : (a b : Event) → same_entry a b ≡ true → a ≡ b
same_is a b same =
    let parts = and_parts (same_address a.group b.group && equal_rank a (entry_rank b))
    (same_address (source_of a.what) (source_of b.what)) (sym (same_parts a b) ∙ same) in
    let firsts = and_parts (same_address a.group b.group) (equal_rank a (entry_rank b)) parts.0 in
    sym (is_at_rank a.joins a.group a.what)
    ∙ ap (λ n. at_rank n a.group (source_of a.what)) (one_rank (entry_rank a) (entry_rank b) firsts.1)
    ∙ ap (λ g. at_rank (entry_rank b) g (source_of a.what)) (same_text a.group b.group (sym firsts.0))
    ∙ ap (λ s. at_rank (entry_rank b) b.group s) (same_text (source_of a.what) (source_of b.what) (sym parts.1))
    ∙ is_at_rank b.joins b.group b.what

address_itself : (address : List ℕ) → same_address address address ≡ true
address_itself address = texts_ties address address ∙ ap is_eq (tied_itself nat_list_cmp_total address)

pub same_itself : (a : Event) → same_entry a a ≡ true
same_itself a = same_parts a a
    ∙ ap₂ ◌&&◌ (ap₂ ◌&&◌ (address_itself a.group) (ap is_eq (tied_itself nat_cmp_total (entry_rank a))))
    (address_itself (source_of a.what))

-- two entries of one group
pub same_in_group : (a b : Event) → a.group ≡ b.group
    → same_entry a b ≡ (equal_rank a (entry_rank b) && same_address (source_of a.what) (source_of b.what))
same_in_group a b one = same_parts a b
    ∙ ap (λ t. (t && equal_rank a (entry_rank b)) && same_address (source_of a.what) (source_of b.what))
    (ap (λ g. same_address g b.group) one ∙ address_itself b.group)

-- ---- lists of entries

pub first_listed : (x : Event) (xs : List Event) → list_any (same_entry x) (x ∷ xs) ≡ true
first_listed x xs = ap (λ t. t || list_any (same_entry x) xs) (same_itself x)

listed_later : (this x : Event) (xs : List Event) → list_any (same_entry this) xs ≡ true
    → list_any (same_entry this) (x ∷ xs) ≡ true
listed_later this x xs listed =
    elim (same_entry this x) as (λ t. (t || list_any (same_entry this) xs) ≡ true) [
      | true ↦ refl
      | false ↦ listed
    ]

-- what is true of each listed entry is true of all
pub all_if_listed : (P : Event → Type 0) (xs : List Event) → ((this : Event) → list_any (same_entry this) xs ≡ true → P this)
    → AllByRecursion P xs
all_if_listed P [] each = tt
all_if_listed P (x ∷ xs) each =
    (each x (first_listed x xs), all_if_listed P xs (λ this listed. each this (listed_later this x xs listed)))

-- what is true of all entries is true of each listed one
pub listed_has : (P : Event → Type 0) (xs : List Event) → AllByRecursion P xs → (this : Event)
    → list_any (same_entry this) xs ≡ true → P this
listed_has P [] all this listed = absurd (false≢true listed)
listed_has P (x ∷ xs) all this listed =
    elim (same_entry this x) as (λ t. same_entry this x ≡ t → (t || list_any (same_entry this) xs) ≡ true → P this) [
      | true ↦ λ same here. subst P (sym (same_is this x same)) all.0
      | false ↦ λ apart later. listed_has P xs all.1 this later
    ] refl listed

none_after : (x : Event) (xs : List Event) → AllByRecursion (λ e. entry_cmp x e ≡ Less) xs → list_any (same_entry x) xs ≡ false
none_after x [] after = refl
none_after x (e ∷ xs) after = ap (λ t. t || list_any (same_entry x) xs) (ap is_eq after.0) ∙ none_after x xs after.1

same_rests : (e x : Event) (xs ys : List Event) → AllByRecursion (λ y. entry_cmp x y ≡ Less) xs
    → AllByRecursion (λ y. entry_cmp x y ≡ Less) ys → list_any (same_entry e) (x ∷ xs) ≡ list_any (same_entry e) (x ∷ ys)
    → list_any (same_entry e) xs ≡ list_any (same_entry e) ys
same_rests e x xs ys after after' same =
    elim (same_entry e x) as (λ t. same_entry e x ≡ t → (t || list_any (same_entry e) xs) ≡ (t || list_any (same_entry e) ys)
    → list_any (same_entry e) xs ≡ list_any (same_entry e) ys) [
      | true ↦ λ is equal.
          let one : x ≡ e = sym (same_is e x is) in
          subst (λ (a : Event). list_any (same_entry a) xs ≡ list_any (same_entry a) ys) one
          (none_after x xs after ∙ sym (none_after x ys after'))
      | false ↦ λ is equal. equal
    ] refl same

-- two ascending lists that have the same entries of these, and have no others, are one
pub one_list_by : (P : Event → Type 0) (xs ys : List Event) → EntriesAscend xs → EntriesAscend ys
    → AllByRecursion P xs → AllByRecursion P ys
    → ((e : Event) → P e → list_any (same_entry e) xs ≡ list_any (same_entry e) ys) → xs ≡ ys
unfolding IsStrictlySortedBy
one_list_by P [] [] up up' are are' same = refl
one_list_by P [] (y ∷ ys) up up' are are' same = absurd (false≢true (same y are'.0 ∙ first_listed y ys))
one_list_by P (x ∷ xs) [] up up' are are' same = absurd (false≢true (sym (same x are.0) ∙ first_listed x xs))
one_list_by P (x ∷ xs) (y ∷ ys) up up' are are' same =
    elim (entry_cmp x y) as (λ o. entry_cmp x y ≡ o → x ∷ xs ≡ y ∷ ys) [
      | Less ↦ λ less. absurd (false≢true
          (sym (none_after x (y ∷ ys) (less, all_after x y ys less up'.0)) ∙ sym (same x are.0) ∙ first_listed x xs))
      | Equal ↦ λ equal.
          let one : y ≡ x = sym (same_is x y (ap is_eq equal)) in
          let after : AllByRecursion (λ e. entry_cmp x e ≡ Less) ys =
          subst (λ (e : Event). AllByRecursion (λ f. entry_cmp e f ≡ Less) ys) one up'.0 in
          let rests : xs ≡ ys = one_list_by P xs ys up.1 up'.1 are.1 are'.1
          (λ e is. same_rests e x xs ys up.0 after
          (same e is ∙ ap (λ (f : Event). list_any (same_entry e) (f ∷ ys)) one)) in
          ap₂ (λ (e : Event) (es : List Event). e ∷ es) (sym one) rests
      | Greater ↦ λ greater.
          let less = turned x y Greater greater in
          absurd (false≢true (sym (none_after y (x ∷ xs) (less, all_after y x xs less up.0)) ∙ same y are'.0 ∙ first_listed y ys))
    ] refl

-- the same of valid entries
pub one_list : (family : AddressFamily) (xs ys : List Event) → EntriesAscend xs → EntriesAscend ys
    → AllByRecursion (IsEntry family) xs → AllByRecursion (IsEntry family) ys
    → ((e : Event) → IsEntry family e → list_any (same_entry e) xs ≡ list_any (same_entry e) ys) → xs ≡ ys
one_list family = one_list_by (IsEntry family)
