-- The groups of a form, one after another, and what is left of each.
use Rattle.std.proofs.Common.{◌≡◌, ◌∙◌, ◌++◌, ◌-◌, ◌<◌, ◌≤◌, ℕ, Bool, true, false, ◌||◌, not, List, [], ◌∷◌, Option, None, length, take, map, refl, sym, ap, subst, arith, append_assoc, append-nil, if◌then◌else◌}
use Rattle.std.specs.Prelude.{nat_lt}
use Rattle.pim_form.proofs.Words.{AllByRecursion, ltb-true, ltb-false, length-drop, length-take-le, map-append, drop_of_length-le}
use Rattle.pim_form.proofs.Words.{AddressFamily, GroupPlace, GroupForm, is_empty, IsNormal, between, star_of, IsWithin}
use Rattle.pim_form.proofs.Words.{place_seen, form_seen, IsKept, group_toward, form_toward, has_some, IsPushed}
use Rattle.pim_form.proofs.Lists.{all_append}
use Rattle.pim_form.proofs.PushedGroups.{form_front, within_front}
use Rattle.pim_form.proofs.KeptForm.{form_dropped, form_kept, normal_left}

module _ {A : Type 0} (bytes_of : A → List ℕ) where
  long_some : (xs : List A) → 0 < length xs → is_empty None (map bytes_of xs) ≡ false
  long_some [] long = absurd (omega arith)
  long_some (x ∷ xs) long = refl

  short_none : (xs : List A) → xs ≡ [] → is_empty None (map bytes_of xs) ≡ true
  short_none xs none = rw none refl

  empty_between : (starred : Bool) (exceptions : List (List ℕ)) (s e : ℕ) (row : List A) → s ≤ e → e ≤ length row
      → is_empty (star_of starred exceptions) (map bytes_of (between s e row)) ≡ not (starred || nat_lt s e)
  empty_between true exceptions s e row up inside = refl
  empty_between false exceptions s e row up inside =
      let long : length (between s e row) ≡ e - s = length-drop s (take e row) ∙ ap (λ n. n - s) (length-take-le e row inside) in
      elim (nat_lt s e) as (λ b. nat_lt s e ≡ b → is_empty None (map bytes_of (between s e row)) ≡ not b) [
        | true ↦ λ h. long_some (between s e row) (let less : s < e = ltb-true s e h in omega arith)
        | false ↦ λ h. short_none (between s e row) (drop_of_length-le (take e row) {i = s} (let more : e ≤ s = ltb-false s e h in omega (arith, length-take-le e row inside)))
      ] refl

  module _ (rps via : List ℕ → Option (List ℕ)) (neighbour : List ℕ) where
    -- the places are what is left of groups that came, `left` are those that come
    pub record HasKept (row : List A) (places : List (GroupPlace A)) (left all : List GroupForm) : Type 0 where
      pub within : AllByRecursion (IsWithin (length row)) places
      pub seen : form_seen bytes_of row places ++ form_toward rps via neighbour left ≡ form_toward rps via neighbour all

    pub starts : (row : List A) (places : List (GroupPlace A)) (all : List GroupForm) → places ≡ [] → HasKept row places all all
    starts row places all none = subst (λ ps. HasKept row ps all all) (sym none) (record { within = tt; seen = refl })

    empty_pushed : (this : GroupForm) (old new : List A) (place : GroupPlace A) → IsPushed bytes_of (group_toward rps via neighbour this) old new place
        → is_empty (group_toward rps via neighbour this).star (group_toward rps via neighbour this).sources ≡ not (has_some place)
    empty_pushed this old new place is =
        sym (ap (λ (form : GroupForm). is_empty form.star form.sources) is.seen)
        ∙ empty_between place.starred (map bytes_of (between place.exceptions_start place.exceptions_end new)) place.sources_start place.sources_end new is.within.0 is.within.1

    steps_over : (row new : List A) (places : List (GroupPlace A)) (before left all : List GroupForm) (this : GroupForm) (place : GroupPlace A)
        → HasKept row places before all → before ≡ this ∷ left → IsPushed bytes_of (group_toward rps via neighbour this) row new place → has_some place ≡ false
        → HasKept new places left all
    steps_over row new places before left all this place is next push none = record {
      within = within_front bytes_of places row new is.within push.front;
      seen =
          ap (λ (form : List GroupForm). form ++ form_toward rps via neighbour left) (form_front bytes_of places row new is.within push.front)
          ∙ ap (λ (form : List GroupForm). form_seen bytes_of row places ++ form) (sym (form_dropped rps via neighbour this left (empty_pushed this row new place push ∙ ap not none)))
          ∙ ap (λ (form : List GroupForm). form_seen bytes_of row places ++ form_toward rps via neighbour form) (sym next)
          ∙ is.seen;
    }

    steps_on : (row new : List A) (places more : List (GroupPlace A)) (before left all : List GroupForm) (this : GroupForm) (place : GroupPlace A)
        → HasKept row places before all → before ≡ this ∷ left → IsPushed bytes_of (group_toward rps via neighbour this) row new place → has_some place ≡ true
        → more ≡ places ++ place ∷ [] → HasKept new more left all
    steps_on row new places more before left all this place is next push some grown = subst (λ ps. HasKept new ps left all) (sym grown) (record {
      within = all_append (IsWithin (length new)) places (place ∷ []) (within_front bytes_of places row new is.within push.front) (push.within, tt);
      seen =
          let front = form_front bytes_of places row new is.within push.front in
          let joined : form_seen bytes_of new (places ++ place ∷ []) ≡ form_seen bytes_of row places ++ group_toward rps via neighbour this ∷ [] =
          map-append (place_seen bytes_of new) places (place ∷ [])
          ∙ (λ i. front i ++ push.seen i ∷ []) in
          ap (λ (form : List GroupForm). form ++ form_toward rps via neighbour left) joined
          ∙ append_assoc (form_seen bytes_of row places) (group_toward rps via neighbour this ∷ []) (form_toward rps via neighbour left)
          ∙ ap (λ (form : List GroupForm). form_seen bytes_of row places ++ form) (sym (form_kept rps via neighbour this left (empty_pushed this row new place push ∙ ap not some)))
          ∙ ap (λ (form : List GroupForm). form_seen bytes_of row places ++ form_toward rps via neighbour form) (sym next)
          ∙ is.seen;
    })

    pub steps : (row new : List A) (places more : List (GroupPlace A)) (before left all : List GroupForm) (this : GroupForm) (place : GroupPlace A)
        → HasKept row places before all → before ≡ this ∷ left → IsPushed bytes_of (group_toward rps via neighbour this) row new place
        → more ≡ (if has_some place then places ++ place ∷ [] else places) → HasKept new more left all
    steps row new places more before left all this place is next push grown =
        elim (has_some place) as (λ b. has_some place ≡ b → more ≡ (if b then places ++ place ∷ [] else places) → HasKept new more left all) [
          | true ↦ λ some long. steps_on row new places more before left all this place is next push some long
          | false ↦ λ none same. subst (λ ps. HasKept new ps left all) (sym same) (steps_over row new places before left all this place is next push none)
        ] refl grown

    pub ends : (row : List A) (places : List (GroupPlace A)) (left all : List GroupForm) → HasKept row places left all → left ≡ []
        → form_seen bytes_of row places ≡ form_toward rps via neighbour all
    unfolding form_toward
    ends row places left all is none =
        sym (append-nil (form_seen bytes_of row places)) ∙ subst (λ (form : List GroupForm). form_seen bytes_of row places ++ form_toward rps via neighbour form ≡ form_toward rps via neighbour all) none is.seen

    pub kept : (family : AddressFamily) (row : List A) (places : List (GroupPlace A)) (left all : List GroupForm) → HasKept row places left all → left ≡ []
        → IsNormal family all → IsKept bytes_of family row places
    kept family row places left all is none normal = record {
      within = is.within;
      normal = subst (IsNormal family) (sym (ends row places left all is none)) (normal_left rps via neighbour family all normal);
    }
