-- A form that is being made: what stood before reads as before, and one group more as it was told.
use Rattle.pim_form.proofs.Words.{◌≡◌, ◌∙◌, ℕ, ◌+◌, ◌≤◌, List, [], ◌∷◌, ◌++◌, map, length, take, drop, Option, None, Some, ◌||◌}
use Rattle.pim_form.proofs.Words.{refl, sym, ap, subst, arith, length-append, AllByRecursion, take-map, drop-map, take-append-le}
use Rattle.pim_form.proofs.Words.{map-append, length-map, drop-append_seam, take-length, GroupPlace, GroupForm, between, IsWithin}
use Rattle.pim_form.proofs.Words.{star_of, exceptions_of, place_seen, form_seen, both_stars, IsDraft}
use Rattle.std.specs.Option.{is_some}
use Rattle.pim_form.proofs.Lists.{all_append}

module _ {A : Type 0} (bytes_of : A → List ℕ) where
  -- a place is read in the list of all bytes
  by_bytes : (start end : ℕ) (row : List A) → map bytes_of (between start end row) ≡ between start end (map bytes_of row)
  by_bytes start end row = sym (drop-map bytes_of start (take end row)) ∙ ap (drop start) (sym (take-map bytes_of end row))

  same_length : (row : List A) → length (map bytes_of row) ≡ length row
  same_length row = length-map row bytes_of

  pub appended : (row row' xs : List A) → row' ≡ row ++ xs → map bytes_of row' ≡ map bytes_of row ++ map bytes_of xs
  appended row row' xs is = ap (map bytes_of) is ∙ map-append bytes_of row xs

  module _ (row row' : List A) (more : List (List ℕ)) (grows : map bytes_of row' ≡ map bytes_of row ++ more) where
    pub grown_length : length row' ≡ length row + length more
    grown_length = sym (same_length row') ∙ ap length grows ∙ length-append (map bytes_of row) more ∙ ap (λ n. n + length more) (same_length row)

    same_part : (start end : ℕ) → end ≤ length row → map bytes_of (between start end row') ≡ map bytes_of (between start end row)
    same_part start end below =
        let long = same_length row in
        by_bytes start end row' ∙ ap (between start end) grows ∙ ap (drop start) (take-append-le end (map bytes_of row) more (omega arith)) ∙ sym (by_bytes start end row)

    pub same_place : (place : GroupPlace A) → IsWithin (length row) place → place_seen bytes_of row' place ≡ place_seen bytes_of row place
    same_place place within =
        let exceptions = same_part place.exceptions_start place.exceptions_end within.3 in
        let sources = same_part place.sources_start place.sources_end within.1 in
        λ i. record { group = bytes_of place.group; star = star_of place.starred (exceptions i); sources = sources i }

    pub same_form : (places : List (GroupPlace A)) → AllByRecursion (IsWithin (length row)) places → form_seen bytes_of row' places ≡ form_seen bytes_of row places
    same_form [] within = refl
    same_form (place ∷ places) within =
        let first = same_place place within.0 in
        let others = same_form places within.1 in
        λ i. first i ∷ others i

    pub still_within : (places : List (GroupPlace A)) → AllByRecursion (IsWithin (length row)) places → AllByRecursion (IsWithin (length row')) places
    still_within [] within = tt
    still_within (place ∷ places) within = ((within.0.0, omega (arith, grown_length, within.0.1), within.0.2, omega (arith, grown_length, within.0.3)), still_within places within.1)

    -- the part that was appended
    pub new_part : (start end : ℕ) → start ≡ length row → end ≡ length row' → map bytes_of (between start end row') ≡ more
    new_part start end first last =
        let whole : take end (map bytes_of row') ≡ map bytes_of row' = ap (λ n. take n (map bytes_of row')) (last ∙ sym (same_length row')) ∙ take-length (map bytes_of row') in
        by_bytes start end row' ∙ ap (drop start) (whole ∙ grows) ∙ ap (λ n. drop n (map bytes_of row ++ more)) (first ∙ sym (same_length row)) ∙ drop-append_seam (map bytes_of row) more

  -- one group more
  pub one_more : (row row' row'' : List A) (sources exceptions : List (List ℕ)) (places places' : List (GroupPlace A)) (form : List GroupForm) (place : GroupPlace A) (this : GroupForm) →
      IsDraft bytes_of row places form → map bytes_of row' ≡ map bytes_of row ++ sources → map bytes_of row'' ≡ map bytes_of row' ++ exceptions → places' ≡ places ++ place ∷ [] →
      place.sources_start ≡ length row → place.sources_end ≡ length row' → place.exceptions_start ≡ length row' → place.exceptions_end ≡ length row'' →
      bytes_of place.group ≡ this.group → star_of place.starred exceptions ≡ this.star → sources ≡ this.sources →
      IsDraft bytes_of row'' places' (form ++ this ∷ [])
  one_more row row' row'' sources exceptions places places' form place this draft with_sources with_exceptions is start middle middle' last group star are =
      let first_step = grown_length row row' sources with_sources in
      let second_step = grown_length row' row'' exceptions with_exceptions in
      let inside : IsWithin (length row'') place = (omega arith, omega arith, omega arith, omega arith) in
      let read_sources : map bytes_of (between place.sources_start place.sources_end row'') ≡ sources =
      same_part row' row'' exceptions with_exceptions place.sources_start place.sources_end (omega arith) ∙ new_part row row' sources with_sources place.sources_start place.sources_end start middle in
      let read_exceptions : map bytes_of (between place.exceptions_start place.exceptions_end row'') ≡ exceptions =
      new_part row' row'' exceptions with_exceptions place.exceptions_start place.exceptions_end middle' last in
      let stars : star_of place.starred (map bytes_of (between place.exceptions_start place.exceptions_end row'')) ≡ this.star = ap (star_of place.starred) read_exceptions ∙ star in
      let lists : map bytes_of (between place.sources_start place.sources_end row'') ≡ this.sources = read_sources ∙ are in
      let seen_place : place_seen bytes_of row'' place ≡ this = λ i. record { group = group i; star = stars i; sources = lists i } in
      let before : form_seen bytes_of row'' places ≡ form =
      same_form row' row'' exceptions with_exceptions places (still_within row row' sources with_sources places draft.within) ∙ same_form row row' sources with_sources places draft.within ∙ draft.seen in
      let kept = still_within row' row'' exceptions with_exceptions places (still_within row row' sources with_sources places draft.within) in
      record {
        within = subst (AllByRecursion (IsWithin (length row''))) (sym is) (all_append (IsWithin (length row'')) places (place ∷ []) kept (inside, tt));
        seen = ap (form_seen bytes_of row'') is ∙ map-append (place_seen bytes_of row'') places (place ∷ []) ∙ (λ i. before i ++ seen_place i ∷ []);
      }

-- ---- stars

pub same_star : (star : Option (List (List ℕ))) → star_of (is_some star) (exceptions_of star) ≡ star
same_star None = refl
same_star (Some exceptions) = refl

pub one_star : (one other : Option (List (List ℕ))) → star_of (is_some one || is_some other) (exceptions_of (both_stars one other)) ≡ both_stars one other
one_star None None = refl
one_star None (Some ys) = refl
one_star (Some xs) None = refl
one_star (Some xs) (Some ys) = refl
