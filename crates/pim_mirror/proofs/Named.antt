-- Which machines the events of a part's message name.
use Rattle.pim_mirror.proofs.Words.{◌≡◌, ◌∙◌, ℕ, Bool, true, false, ◌&&◌, ◌||◌, ◌==◌, not, cond, List, [], ◌∷◌, ◌++◌, Option}
use Rattle.pim_mirror.proofs.Words.{None, Some, map, refl, sym, ap, ap₂, is_some, nat_cmp, ordering_then, is_eq, both_tied}
use Rattle.pim_mirror.proofs.Words.{unsigned_ties, slice_cmp, texts_ties, list_any, flat_map, list_any-append, AddressFamily}
use Rattle.pim_mirror.proofs.Words.{Entry, What, Star, Source, Rpt, Key, Event, event, is_known, entry_events, list_events}
use Rattle.pim_mirror.proofs.Words.{set_events, GroupForm, same_address, is_listed, exceptions_of, IsRpOf, HaveRps, star_entries}
use Rattle.pim_mirror.proofs.Words.{excepted_entries, written_set, has_unit_of, group_names, form_names}
use Rattle.std.proofs.lemmas.Grind.{flat_map-append}
use Rattle.pim_jp.specs.declared.entry.Entry.TheVariants as entry
use Rattle.pim_down.specs.Key.{what_cmp, key_cmp, same_key}
use Rattle.pim_mirror.proofs.SameAddresses.{same_itself, same_flips, and_false, or_none, and_or, and_and}

abbrev key_at : ℕ → List ℕ → What (List ℕ) → Key (List ℕ)
key_at port group what = record { port = port; group = group; what = what }

same_what : What (List ℕ) → What (List ℕ) → Bool
same_what v w = is_eq (what_cmp v w)

key_test : (p q : ℕ) (g h : List ℕ) (v w : What (List ℕ)) → same_key (key_at p g v) (key_at q h w) ≡ (((p == q) && same_address g h) && same_what v w)
unfolding key_cmp same_what
key_test p q g h v w =
    sym (both_tied ((p == q) && same_address g h) (is_eq (what_cmp v w)) (ordering_then (nat_cmp p q) (slice_cmp nat_cmp g h)) (what_cmp v w)
    (both_tied (p == q) (same_address g h) (nat_cmp p q) (slice_cmp nat_cmp g h) (unsigned_ties p q) (texts_ties g h)) refl)

-- ---- what names a star, a source, an exception

none_of : (make : List ℕ → Bool) (xs : List (List ℕ)) → ((x : List ℕ) → make x ≡ false) → list_any make xs ≡ false
none_of make [] none = refl
none_of make (x ∷ xs) none = ap (λ b. b || list_any make xs) (none x) ∙ none_of make xs none

each_is : (f g : List ℕ → Bool) (xs : List (List ℕ)) → ((x : List ℕ) → f x ≡ g x) → list_any f xs ≡ list_any g xs
each_is f g [] same = refl
each_is f g (x ∷ xs) same = ap (λ b. b || list_any f xs) (same x) ∙ ap (λ b. g x || b) (each_is f g xs same)

source_is : (s t : List ℕ) → same_what (Source s) (Source t) ≡ same_address t s
unfolding same_what what_cmp
source_is s t = sym (texts_ties s t) ∙ same_flips s t

rpt_is : (s t : List ℕ) → same_what (Rpt s) (Rpt t) ≡ same_address t s
unfolding same_what what_cmp
rpt_is s t = sym (texts_ties s t) ∙ same_flips s t

what_named : (this : GroupForm) (w : What (List ℕ)) →
    (((is_some this.star && same_what Star w) || list_any (λ s. same_what (Source s) w) this.sources) || list_any (λ s. same_what (Rpt s) w) (exceptions_of this.star)) ≡ group_names this w
unfolding same_what what_cmp
what_named this Star =
    ap (λ b. ((is_some this.star && true) || b) || list_any (λ s. same_what (Rpt s) Star) (exceptions_of this.star)) (none_of (λ s. same_what (Source s) Star) this.sources (λ s. refl))
    ∙ ap (λ b. ((is_some this.star && true) || false) || b) (none_of (λ s. same_what (Rpt s) Star) (exceptions_of this.star) (λ s. refl))
    ∙ by (is_some this.star)
  where
    by : (b : Bool) → (((b && true) || false) || false) ≡ b
    by true = refl
    by false = refl
what_named this (Source t) =
    ap (λ b. ((is_some this.star && false) || list_any (λ s. same_what (Source s) (Source t)) this.sources) || b) (none_of (λ s. same_what (Rpt s) (Source t)) (exceptions_of this.star) (λ s. refl))
    ∙ ap (λ b. ((is_some this.star && false) || b) || false) (each_is (λ s. same_what (Source s) (Source t)) (same_address t) this.sources (λ s. source_is s t))
    ∙ by (is_some this.star) (is_listed t this.sources)
  where
    by : (a b : Bool) → (((a && false) || b) || false) ≡ b
    by true b = or_none b
    by false b = or_none b
what_named this (Rpt t) =
    ap (λ b. ((is_some this.star && false) || b) || list_any (λ s. same_what (Rpt s) (Rpt t)) (exceptions_of this.star)) (none_of (λ s. same_what (Source s) (Rpt t)) this.sources (λ s. refl))
    ∙ ap (λ b. ((is_some this.star && false) || false) || b) (each_is (λ s. same_what (Rpt s) (Rpt t)) (same_address t) (exceptions_of this.star) (λ s. rpt_is s t))
    ∙ by (is_some this.star) (is_listed t (exceptions_of this.star))
  where
    by : (a b : Bool) → (((a && false) || false) || b) ≡ b
    by true b = refl
    by false b = refl

-- ---- the events of a set

module _ (rps : List ℕ → Option (List ℕ)) (p q : ℕ) (h : List ℕ) (w : What (List ℕ)) where
  abbrev names : List Event → Bool
  names events = has_unit_of p (key_at q h w) events

  names_both : (one other : List Event) → names (one ++ other) ≡ (names one || names other)
  names_both one other = list_any-append (λ (e : Event). same_key (key_at p e.group e.what) (key_at q h w)) one other

  names_one : (joins : Bool) (g : List ℕ) (v : What (List ℕ)) → names (event joins g v) ≡ (((p == q) && same_address g h) && same_what v w)
  names_one joins g v = or_none (same_key (key_at p g v) (key_at q h w)) ∙ key_test p q g h v w

  module _ (g : List ℕ) (joins : Bool) (make : List ℕ → Entry (List ℕ)) (what : List ℕ → What (List ℕ)) (reported : (s : List ℕ) → entry_events rps joins g (make s) ≡ event joins g (what s)) where
    names_list : (xs : List (List ℕ)) → names (list_events rps joins g (map make xs)) ≡ (((p == q) && same_address g h) && list_any (λ s. same_what (what s) w) xs)
    names_list [] = sym (and_false ((p == q) && same_address g h))
    names_list (x ∷ xs) =
        names_both (entry_events rps joins g (make x)) (list_events rps joins g (map make xs))
        ∙ ap₂ (λ a b. a || b) (ap names (reported x) ∙ names_one joins g (what x)) (names_list xs)
        ∙ and_or ((p == q) && same_address g h) (same_what (what x) w) (list_any (λ s. same_what (what s) w) xs)

  names_star : (family : AddressFamily) (g : List ℕ) (known : Option (List ℕ)) (star : Option (List (List ℕ))) → rps g ≡ known → IsRpOf family known star
      → names (list_events rps true g (star_entries known star)) ≡ (((p == q) && same_address g h) && (is_some star && same_what Star w))
  names_star family g known None e is = sym (and_false ((p == q) && same_address g h))
  names_star family g None (Some exceptions) e is = absurd is
  names_star family g (Some rp) (Some exceptions) e is =
      let here : is_known (rps g) rp ≡ true = ap (λ (o : Option (List ℕ)). is_known o rp) e ∙ same_itself rp in
      ap (λ b. names (cond (not b) [] (event true g Star) ++ [])) here ∙ names_one true g Star

  names_exceptions : (g : List ℕ) (star : Option (List (List ℕ))) → names (list_events rps false g (excepted_entries star)) ≡ (((p == q) && same_address g h) && list_any (λ s. same_what (Rpt s) w) (exceptions_of star))
  names_exceptions g None = sym (and_false ((p == q) && same_address g h))
  names_exceptions g (Some exceptions) = names_list g false (λ s. entry.Rpt s) (λ s. Rpt s) (λ s. refl) exceptions

  names_set : (family : AddressFamily) (this : GroupForm) → IsRpOf family (rps this.group) this.star → names (set_events rps (written_set rps this)) ≡ ((p == q) && (same_address h this.group && group_names this w))
  names_set family this is =
      let g = this.group in
      let here : Bool = (p == q) && same_address g h in
      let star : Bool = is_some this.star && same_what Star w in
      let sources : Bool = list_any (λ s. same_what (Source s) w) this.sources in
      let exceptions : Bool = list_any (λ s. same_what (Rpt s) w) (exceptions_of this.star) in
      names_both (list_events rps true g (written_set rps this).joined) (list_events rps false g (excepted_entries this.star))
      ∙ ap₂ (λ a b. a || b)
      (ap names (flat_map-append (entry_events rps true g) (star_entries (rps g) this.star) (map (λ source. entry.Source source) this.sources)) ∙ names_both (list_events rps true g (star_entries (rps g) this.star)) (list_events rps true g (map (λ source. entry.Source source) this.sources))
      ∙ ap₂ (λ a b. a || b) (names_star family g (rps g) this.star refl is) (names_list g true (λ s. entry.Source s) (λ s. Source s) (λ s. refl) this.sources)
      ∙ and_or here star sources)
      (names_exceptions g this.star)
      ∙ and_or here (star || sources) exceptions
      ∙ ap (λ b. here && b) (what_named this w)
      ∙ ap (λ b. ((p == q) && b) && group_names this w) (same_flips g h)
      ∙ and_and (p == q) (same_address h g) (group_names this w)

  pub names_part : (family : AddressFamily) (part : List GroupForm) → HaveRps family rps part → names (flat_map (set_events rps) (map (written_set rps) part)) ≡ ((p == q) && form_names part h w)
  names_part family [] have = sym (and_false (p == q))
  names_part family (this ∷ part) have =
      names_both (set_events rps (written_set rps this)) (flat_map (set_events rps) (map (written_set rps) part))
      ∙ ap₂ (λ a b. a || b) (names_set family this have.0) (names_part family part have.1)
      ∙ and_or (p == q) (same_address h this.group && group_names this w) (form_names part h w)
