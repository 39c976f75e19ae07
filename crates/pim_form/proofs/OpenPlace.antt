-- The last group of a form that is being made, while addresses are appended to it.
use Rattle.pim_form.proofs.Words.{◌≡◌, ◌∙◌, ℕ, zero, suc, ◌≤◌, ◌<◌, Bool, true, false, cond, List, [], ◌∷◌, ◌++◌, None}
use Rattle.pim_form.proofs.Words.{map, length, take, drop, refl, sym, ap, subst, arith, AllByRecursion, false≢true}
use Rattle.pim_form.proofs.Words.{drop-append-le, map-append, length-drop, length-map, length-take-le, take-length}
use Rattle.pim_form.proofs.Words.{GroupPlace, GroupForm, is_empty, between, IsWithin, star_of, exceptions_of}
use Rattle.pim_form.proofs.Words.{place_seen, form_seen, IsDraft, IsLast, Keeps, Becomes, with_exception, closed}
use Rattle.pim_form.proofs.Lists.{all_append}
use Rattle.pim_form.proofs.Drafts.{appended, same_form, same_place, still_within}

none_between : {X : Type 0} (n : ℕ) (xs : List X) → between n n xs ≡ []
none_between zero xs = zero_taken xs
  where
    zero_taken : {X : Type 0} (xs : List X) → take 0 xs ≡ []
    zero_taken [] = refl
    zero_taken (x ∷ xs) = refl
none_between (suc n) [] = refl
none_between (suc n) (x ∷ xs) = none_between n xs

-- up to the end of the row
to_end : {X : Type 0} (start end : ℕ) (xs : List X) → end ≡ length xs → between start end xs ≡ drop start xs
to_end start end xs is = ap (λ n. drop start (take n xs)) is ∙ ap (drop start) (take-length xs)

one_longer : {X : Type 0} (xs : List X) (x : X) → length (xs ++ x ∷ []) ≡ suc (length xs)
one_longer [] x = refl
one_longer (y ∷ xs) x = ap suc (one_longer xs x)

module _ {A : Type 0} (bytes_of : A → List ℕ) where
  abbrev read : ℕ → ℕ → List A → List (List ℕ)
  read start end row = map bytes_of (between start end row)

  -- one address more at the end of the row
  read_more : (start end end' : ℕ) (row row' : List A) (x : A) → row' ≡ row ++ x ∷ [] → start ≤ length row → end ≡ length row → end' ≡ length row' → read start end' row' ≡ read start end row ++ bytes_of x ∷ []
  read_more start end end' row row' x is below last last' =
      ap (map bytes_of) (to_end start end' row' last' ∙ ap (drop start) is ∙ drop-append-le start row (x ∷ []) below ∙ ap (λ (xs : List A). xs ++ x ∷ []) (sym (to_end start end row last)))
      ∙ map-append bytes_of (between start end row) (x ∷ [])

  pub keeps : (row row' : List A) (x : A) → row' ≡ row ++ x ∷ [] → Keeps bytes_of row row'
  keeps row row' x is places form draft =
      let grows = appended bytes_of row row' (x ∷ []) is in
      record {
        within = still_within bytes_of row row' (bytes_of x ∷ []) grows places draft.within;
        seen = same_form bytes_of row row' (bytes_of x ∷ []) grows places draft.within ∙ draft.seen;
      }

  -- ---- a source

  no_exceptions : (row : List A) (place : GroupPlace A) → IsLast (length row) place → exceptions_of (star_of place.starred (read place.exceptions_start place.exceptions_end row)) ≡ [] → place.exceptions_start ≡ place.exceptions_end
  no_exceptions row place is none = by place.starred refl
    where
      by : (b : Bool) → place.starred ≡ b → place.exceptions_start ≡ place.exceptions_end
      by false e = is.bare e
      by true e =
          let empty : read place.exceptions_start place.exceptions_end row ≡ [] = subst (λ s. exceptions_of (star_of s (read place.exceptions_start place.exceptions_end row)) ≡ []) e none in
          let whole : length (drop place.exceptions_start row) ≡ 0 = sym (ap length (to_end place.exceptions_start place.exceptions_end row is.last)) ∙ sym (length-map (between place.exceptions_start place.exceptions_end row) bytes_of) ∙ ap length empty in
          let long = length-drop place.exceptions_start row in
          let last = is.last in
          let order = is.exceptions in
          omega arith

  pub source_added : (row row' : List A) (x : A) (place place' : GroupPlace A) → IsLast (length row) place → exceptions_of (place_seen bytes_of row place).star ≡ [] → row' ≡ row ++ x ∷ [] →
      place'.group ≡ place.group → place'.starred ≡ place.starred → place'.sources_start ≡ place.sources_start → place'.sources_end ≡ length row' → place'.exceptions_start ≡ length row' → place'.exceptions_end ≡ length row' →
      Becomes bytes_of row row' place' (record { group = bytes_of place.group; star = (place_seen bytes_of row place).star; sources = (place_seen bytes_of row place).sources ++ bytes_of x ∷ [] })
  source_added row row' x place place' is none grown group starred start end middle last =
      let empty = no_exceptions row place is none in
      let longer : length row' ≡ suc (length row) = ap length grown ∙ one_longer row x in
      let at_end : place.sources_end ≡ length row = omega (arith, empty, is.middle, is.last) in
      let sources : read place'.sources_start place'.sources_end row' ≡ read place.sources_start place.sources_end row ++ bytes_of x ∷ [] =
      ap (λ n. read n place'.sources_end row') start ∙ read_more place.sources_start place.sources_end place'.sources_end row row' x grown (omega (arith, is.sources, at_end)) at_end end in
      let none_now : read place'.exceptions_start place'.exceptions_end row' ≡ [] = (λ i. read (middle i) (last i) row') ∙ ap (map bytes_of) (none_between (length row') row') in
      let none_then : read place.exceptions_start place.exceptions_end row ≡ [] = ap (λ n. read place.exceptions_start n row) (sym empty) ∙ ap (map bytes_of) (none_between place.exceptions_start row) in
      let stars : star_of place'.starred (read place'.exceptions_start place'.exceptions_end row') ≡ star_of place.starred (read place.exceptions_start place.exceptions_end row) = λ i. star_of (starred i) ((none_now ∙ sym none_then) i) in
      record {
        last = record { sources = omega (arith, is.sources, at_end); middle = middle ∙ sym end; exceptions = omega arith; last = last; bare = λ e. middle ∙ sym last };
        seen = λ i. record { group = bytes_of (group i); star = stars i; sources = sources i };
        kept = keeps row row' x grown;
      }

  -- ---- an exception

  pub exception_added : (row row' : List A) (x : A) (place place' : GroupPlace A) → IsLast (length row) place → place.starred ≡ true → row' ≡ row ++ x ∷ [] →
      place'.group ≡ place.group → place'.starred ≡ place.starred → place'.sources_start ≡ place.sources_start → place'.sources_end ≡ place.sources_end → place'.exceptions_start ≡ place.exceptions_start → place'.exceptions_end ≡ length row' →
      Becomes bytes_of row row' place' (record { group = bytes_of place.group; star = with_exception (bytes_of x) (place_seen bytes_of row place).star; sources = (place_seen bytes_of row place).sources })
  exception_added row row' x place place' is has grown group starred start end middle last =
      let longer : length row' ≡ suc (length row) = ap length grown ∙ one_longer row x in
      let grows = appended bytes_of row row' (x ∷ []) grown in
      let within : IsWithin (length row) place = (is.sources, omega (arith, is.middle, is.last, is.exceptions), is.exceptions, omega (arith, is.last)) in
      let before = same_place bytes_of row row' (bytes_of x ∷ []) grows place within in
      let sources : read place'.sources_start place'.sources_end row' ≡ read place.sources_start place.sources_end row = (λ i. read (start i) (end i) row') ∙ ap (λ (g : GroupForm). g.sources) before in
      let exceptions : read place'.exceptions_start place'.exceptions_end row' ≡ read place.exceptions_start place.exceptions_end row ++ bytes_of x ∷ [] =
      ap (λ n. read n place'.exceptions_end row') middle ∙ read_more place.exceptions_start place.exceptions_end place'.exceptions_end row row' x grown (omega (arith, is.last, is.exceptions)) is.last last in
      let stars : star_of place'.starred (read place'.exceptions_start place'.exceptions_end row') ≡ with_exception (bytes_of x) (star_of place.starred (read place.exceptions_start place.exceptions_end row)) =
      (λ i. star_of ((starred ∙ has) i) (exceptions i)) ∙ ap (λ s. with_exception (bytes_of x) (star_of s (read place.exceptions_start place.exceptions_end row))) (sym has) in
      record {
        last = record {
          sources = omega (arith, is.sources);
          middle = middle ∙ is.middle ∙ sym end;
          exceptions = omega (arith, is.exceptions, is.last);
          last = last;
          bare = λ e. absurd (false≢true (sym e ∙ starred ∙ has));
        };
        seen = λ i. record { group = bytes_of (group i); star = stars i; sources = sources i };
        kept = keeps row row' x grown;
      }

  -- ---- the end of a group

  some_listed : (start end : ℕ) (row : List A) → start < end → end ≤ length row → is_empty None (read start end row) ≡ false
  some_listed start end row some within = by (between start end row) refl
    where
      by : (xs : List A) → between start end row ≡ xs → is_empty None (map bytes_of xs) ≡ false
      by [] e =
          let long = length-drop start (take end row) in
          let taken = length-take-le end row within in
          let none : length (drop start (take end row)) ≡ 0 = ap length e in
          absurd (omega arith)
      by (x ∷ xs) e = refl

  -- something is wanted of it
  pub closed_some : (row : List A) (places places' : List (GroupPlace A)) (place : GroupPlace A) (form : List GroupForm) → places' ≡ places ++ place ∷ [] → is_empty (place_seen bytes_of row place).star (place_seen bytes_of row place).sources ≡ false
      → IsLast (length row) place → IsDraft bytes_of row places form → IsDraft bytes_of row places' (form ++ closed (place_seen bytes_of row place))
  closed_some row places places' place form is some last draft =
      let within : IsWithin (length row) place = (last.sources, omega (arith, last.middle, last.last, last.exceptions), last.exceptions, omega (arith, last.last)) in
      let seen = draft.seen in
      record {
        within = subst (AllByRecursion (IsWithin (length row))) (sym is) (all_append (IsWithin (length row)) places (place ∷ []) draft.within (within, tt));
        seen = ap (form_seen bytes_of row) is ∙ map-append (place_seen bytes_of row) places (place ∷ []) ∙ ap (λ (f : List GroupForm). f ++ place_seen bytes_of row place ∷ []) seen ∙ ap (λ b. form ++ cond b [] (place_seen bytes_of row place ∷ [])) (sym some);
      }

  pub some_star : (row : List A) (place : GroupPlace A) → place.starred ≡ true → is_empty (place_seen bytes_of row place).star (place_seen bytes_of row place).sources ≡ false
  some_star row place e = ap (λ s. is_empty (star_of s (read place.exceptions_start place.exceptions_end row)) (read place.sources_start place.sources_end row)) e

  pub some_source : (row : List A) (place : GroupPlace A) → place.starred ≡ false → place.sources_start < place.sources_end → IsLast (length row) place → is_empty (place_seen bytes_of row place).star (place_seen bytes_of row place).sources ≡ false
  some_source row place e some is =
      ap (λ s. is_empty (star_of s (read place.exceptions_start place.exceptions_end row)) (read place.sources_start place.sources_end row)) e
      ∙ some_listed place.sources_start place.sources_end row some (omega (arith, is.middle, is.last, is.exceptions))
