-- What is kept under names, and stars.
use Rattle.pim_answers.proofs.Words.{◌≡◌, ℕ, ◌<◌, ◌≤◌, Bool, true, false, not, nat_lt, nat_le, List, [], ◌∷◌, ◌++◌, length, map}
use Rattle.pim_answers.proofs.Words.{get_or, Option, None, Some, option_map, is_some, Result, Ok, Err, IfOk, refl, sym, ap, subst}
use Rattle.pim_answers.proofs.Words.{◌∙◌, append_assoc, position, position_or_len, le-leb, le-ltb, map-set, get_or-map}
use Rattle.pim_answers.proofs.Words.{length-map, AddressFamily, RouteTable, GroupForm, Kept, place_of, kept_at, kept_as}
use Rattle.pim_answers.proofs.Words.{kept_with, with_kept, lacks_place, star_of, stars_of, any_seen, entry_seen}
use Rattle.std.proofs.Math.ListN.{set}
use Rattle.std.proofs.lemmas.List.Quantifiers.{position-Some}
use Rattle.std.proofs.lemmas.Option.{slice_get-map, slice_get-get_or}
use Rattle.std.specs.Str.{bytes_eq}
use Rattle.pim_addr.specs.Equality.{bytes_equal}
use Rattle.pim_answers.specs.declared.kept.AnyForm.{AnyForm}
use Rattle.pim_answers.specs.declared.kept.AnyForm.TheVariants.{Ipv4, Ipv6}
use Rattle.pim_answers.specs.declared.kept.KeptEntry.{KeptEntry}

-- the name of what is kept
pub named : (name : List ℕ) (form : AnyForm) → (any_seen name form).name ≡ name
named name (Ipv4 kept) = refl
named name (Ipv6 kept) = refl

-- the place of a name among entries is that among what is seen of them
len_is : (name : List ℕ) (entries : List KeptEntry) → position_or_len (λ (one : Kept). bytes_eq one.name name) (map entry_seen entries) ≡ position_or_len (λ (entry : KeptEntry). bytes_eq entry.name.items name) entries
len_is name [] = refl
len_is name (entry ∷ entries) = rw (named entry.name.items entry.form, len_is name entries) refl

pub place_seen : (name : List ℕ) (entries : List KeptEntry) → place_of name (map entry_seen entries) ≡ position (λ (entry : KeptEntry). bytes_eq entry.name.items name) entries
place_seen name entries = rw (len_is name entries, length-map entries entry_seen) refl

-- an entry with another form
abbrev pub with_form : KeptEntry → AnyForm → KeptEntry
with_form entry form = record { name = entry.name; form = form }

module _ (name : List ℕ) (entries : List KeptEntry) (place : ℕ) (d : KeptEntry) (at : place_of name (map entry_seen entries) ≡ Some place) where
  there : (place < length (map entry_seen entries)) × (bytes_eq (get_or (map entry_seen entries) place (entry_seen d)).name name ≡ true)
  there =
      let p = position-Some (λ (one : Kept). bytes_eq one.name name) (map entry_seen entries) place (entry_seen d) at in
      (p.0, p.1)

  pub within : place < length entries
  within = subst (λ (n : ℕ). place < n) (length-map entries entry_seen) there.0

  -- the entry at the place of a name has that name
  pub same_name : (get_or entries place d).name.items ≡ name
  same_name =
      let here = get_or entries place d in
      let seen : get_or (map entry_seen entries) place (entry_seen d) ≡ entry_seen here = get_or-map entry_seen entries place d (entry_seen d) within in
      let test : bytes_eq here.name.items name ≡ true =
      subst (λ (n : List ℕ). bytes_eq n name ≡ true) (ap (λ (one : Kept). one.name) seen ∙ named here.name.items here.form) there.1 in
      (bytes_equal here.name.items name).0 test

  -- what is found at the place of a name
  pub found : Some (any_seen name (get_or entries place d).form) ≡ kept_at (Some place) (map entry_seen entries)
  found =
      let here = get_or entries place d in
      ap (λ (n : List ℕ). Some (any_seen n here.form)) (sym same_name)
      ∙ sym (slice_get-map entry_seen entries place ∙ ap (option_map entry_seen) (slice_get-get_or entries place d within))

  -- a form that is kept at the place of a name
  pub kept_over : (form : AnyForm) → map entry_seen (set entries place (with_form (get_or entries place d) form)) ≡ kept_with (Some place) (any_seen name form) (map entry_seen entries)
  kept_over form =
      map-set entry_seen entries place (with_form (get_or entries place d) form)
      ∙ ap (λ (n : List ℕ). set (map entry_seen entries) place (any_seen n form)) same_name

-- the same, by the place among entries
module _ (name : List ℕ) (entries : List KeptEntry) where
  abbrev place_in : Option ℕ
  place_in = position (λ (entry : KeptEntry). bytes_eq entry.name.items name) entries

  -- a name that isn't there
  pub not_kept : place_in ≡ None → None ≡ kept_as name (map entry_seen entries)
  not_kept none = sym (ap (λ (p : Option ℕ). kept_at p (map entry_seen entries)) (place_seen name entries ∙ none))

  with_place : (form : AnyForm) (place : Option ℕ) → place_in ≡ place → with_kept (any_seen name form) (map entry_seen entries) ≡ kept_with place (any_seen name form) (map entry_seen entries)
  with_place form place is = ap (λ (p : Option ℕ). kept_with p (any_seen name form) (map entry_seen entries))
      (ap (λ (n : List ℕ). place_of n (map entry_seen entries)) (named name form) ∙ place_seen name entries ∙ is)

  pub kept_new : (form : AnyForm) → place_in ≡ None → with_kept (any_seen name form) (map entry_seen entries) ≡ map entry_seen entries ++ any_seen name form ∷ []
  kept_new form none = with_place form None none

  -- a name that is there
  pub kept_here : (place : ℕ) (here : KeptEntry) → place_in ≡ Some place → here ≡ get_or entries place here → Some (any_seen name here.form) ≡ kept_as name (map entry_seen entries)
  kept_here place here at is =
      let seen : place_of name (map entry_seen entries) ≡ Some place = place_seen name entries ∙ at in
      ap (λ (e : KeptEntry). Some (any_seen name e.form)) is ∙ found name entries place here seen ∙ sym (ap (λ (p : Option ℕ). kept_at p (map entry_seen entries)) seen)

  pub kept_put : (form : AnyForm) (place : ℕ) (here : KeptEntry) → place_in ≡ Some place → here ≡ get_or entries place here
      → map entry_seen (set entries place (with_form here form)) ≡ with_kept (any_seen name form) (map entry_seen entries)
  kept_put form place here at is =
      let seen : place_of name (map entry_seen entries) ≡ Some place = place_seen name entries ∙ at in
      ap (λ (e : KeptEntry). map entry_seen (set entries place (with_form e form))) is ∙ kept_over name entries place here seen form ∙ sym (with_place form (Some place) at)

  -- a place that lacks, where the name is short and many are kept
  pub lacking : (known : Bool) → length name ≤ 64 → 64 ≤ length entries → known ≡ is_some place_in → not known ≡ lacks_place name (map entry_seen entries)
  lacking known short many is =
      let long : nat_lt 64 (length name) ≡ false = le-ltb 64 (length name) short in
      let full : nat_le 64 (length (map entry_seen entries)) ≡ true = le-leb 64 _ (subst (λ (n : ℕ). 64 ≤ n) (sym (length-map entries entry_seen)) many) in
      ap not is ∙ sym (rw (long, full, place_seen name entries) refl)

-- what a call that may fail leaves, said otherwise
pub if_ok : {A E : Type 0} (r : Result A E) (P Q : Type 0) → (P → Q) → IfOk r (λ _. P) → IfOk r (λ _. Q)
if_ok (Ok x) P Q more p = more p
if_ok (Err e) P Q more p = tt

-- ---- stars

-- the star of a group, before those of other groups
pub star_first : (family : AddressFamily) (routes : RouteTable) (group : List ℕ) (star : Option (List (List ℕ))) (others : List (List ℕ × Option (List ℕ))) → star_of family routes group star others ≡ star_of family routes group star [] ++ others
star_first family routes group None others = refl
star_first family routes group (Some exceptions) others = refl

-- the stars so far, and one group more
pub one_more : (family : AddressFamily) (routes : RouteTable) (left rest : List GroupForm) (this : GroupForm) (old new all : List (List ℕ × Option (List ℕ))) → left ≡ this ∷ rest
    → old ++ stars_of family routes left ≡ all → new ≡ old ++ star_of family routes this.group this.star [] → new ++ stars_of family routes rest ≡ all
one_more family routes left rest this old new all steps before is =
    let more = stars_of family routes rest in
    ap (λ (l : List (List ℕ × Option (List ℕ))). l ++ more) is
    ∙ append_assoc old (star_of family routes this.group this.star []) more
    ∙ ap (λ (l : List (List ℕ × Option (List ℕ))). old ++ l) (sym (star_first family routes this.group this.star more))
    ∙ ap (λ (l : List GroupForm). old ++ stars_of family routes l) (sym steps) ∙ before
