-- A row of addresses behind which what is left of a group is put.
use Rattle.pim_form.proofs.Words.{◌≡◌, ◌∙◌, ◌++◌, ◌+◌, ◌≤◌, ℕ, Bool, true, false, List, [], ◌∷◌, length, take, drop}
use Rattle.pim_form.proofs.Words.{map, refl, sym, ap, arith, length-append, filter, take-take, take-append-drop}
use Rattle.pim_form.proofs.Words.{take-append_seam, drop-append_seam, take-length, AllByRecursion, GroupPlace}
use Rattle.pim_form.proofs.Words.{GroupForm, between, IsWithin, star_of, form_seen, IsFront, IsStarPushed, IsPushed}
use Rattle.pim_form.proofs.Drafts.{appended, same_form, still_within}

module _ {A : Type 0} (bytes_of : A → List ℕ) where
  pub filter_mapped : (test : List ℕ → Bool) (xs : List A) → map bytes_of (filter (λ x. test (bytes_of x)) xs) ≡ filter test (map bytes_of xs)
  filter_mapped test [] = refl
  filter_mapped test (x ∷ xs) =
      let others = filter_mapped test xs in
      elim (test (bytes_of x)) as (λ b. test (bytes_of x) ≡ b → map bytes_of (filter (λ y. test (bytes_of y)) (x ∷ xs)) ≡ filter test (bytes_of x ∷ map bytes_of xs)) [
        | true ↦ λ e. rw e (ap (λ ys. bytes_of x ∷ ys) others)
        | false ↦ λ e. rw e others
      ] refl

  pub pushed : (this : GroupForm) (group : A) (starred : Bool) (old mid new more : List A) (s e n : ℕ)
      → mid ≡ old ++ more → IsStarPushed bytes_of this.star mid new starred → bytes_of group ≡ this.group → map bytes_of more ≡ this.sources
      → s ≡ length old → e ≡ length mid → n ≡ length new
      → IsPushed bytes_of this old new (record { group = group; starred = starred; sources_start = s; sources_end = e; exceptions_start = e; exceptions_end = n })
  pushed this group starred old mid new more s e n is_mid star is_group sources at_s at_e at_n =
      let long : length mid ≡ length old + length more = ap length is_mid ∙ length-append old more in
      let shorter : length old ≤ length mid = omega arith in
      let front : take (length old) new ≡ old = sym (take-take (length old) (length mid) new shorter) ∙ ap (take (length old)) star.front ∙ ap (take (length old)) is_mid ∙ take-append_seam old more in
      let stars : star_of starred (map bytes_of (between e n new)) ≡ this.star = rw (at_e, at_n, take-length new) star.seen in
      let lists : map bytes_of (between s e new) ≡ this.sources = rw (at_s, at_e, star.front, is_mid, drop-append_seam old more) sources in
      record {
        front = front;
        longer = omega (arith, star.longer);
        within = (omega arith, omega (arith, star.longer), omega (arith, star.longer), omega arith);
        seen = λ i. record { group = is_group i; star = stars i; sources = lists i };
      }

  -- ---- what was there before stays

  grows : (old new : List A) → IsFront old new → map bytes_of new ≡ map bytes_of old ++ map bytes_of (drop (length old) new)
  grows old new front = appended bytes_of old new (drop (length old) new) (sym (take-append-drop (length old) new) ∙ ap (λ (xs : List A). xs ++ drop (length old) new) front)

  pub form_front : (places : List (GroupPlace A)) (old new : List A) → AllByRecursion (IsWithin (length old)) places → IsFront old new → form_seen bytes_of new places ≡ form_seen bytes_of old places
  form_front places old new within front = same_form bytes_of old new (map bytes_of (drop (length old) new)) (grows old new front) places within

  pub within_front : (places : List (GroupPlace A)) (old new : List A) → AllByRecursion (IsWithin (length old)) places → IsFront old new → AllByRecursion (IsWithin (length new)) places
  within_front places old new within front = still_within bytes_of old new (map bytes_of (drop (length old) new)) (grows old new front) places within
