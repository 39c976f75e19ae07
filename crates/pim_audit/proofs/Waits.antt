-- The pairs of a map of due entries follow its entries.
use Rattle.std.proofs.Common.{◌≡◌, ◌∙◌, ℕ, ◌+◌, ◌<◌, ◌≤◌, Bool, true, false}
use Rattle.std.proofs.Common.{◌&&◌, not, cond, List, [], ◌∷◌, Option, None, Some, length}
use Rattle.std.proofs.Common.{refl, sym, ap, arith, ◌==◌, nat_lt}
use Rattle.std.proofs.lemmas.Bool.{and_parts, false≢true, lt-ltb, eq-eqb, eqb-true}
use Rattle.std.proofs.lemmas.Bool.Decides.{nat_tests}
use Rattle.std.proofs.lemmas.Map.Keys.{le_from_not_gt}
use Rattle.std.proofs.lemmas.Map.Views.{All-found}
use Rattle.std.proofs.lemmas.List.Elements.{recursion_from_All}
use Rattle.std.specs.BTreeMap.{BTreeMap, is_at, IsOrdered}
use Rattle.std.specs.Cmp.{Equal-is, IsTotalOrder, tied_then, unsigned_tied}
use Rattle.std.specs.List.{AllByRecursion, list_any}
use Rattle.std.specs.Map.{lookup}
use Rattle.std.specs.Ordering.{is_eq, is_gt, nat_cmp, ordering_then}
use Rattle.std.specs.declared.cmp.Ordering.{Ordering}
use Rattle.std.specs.declared.cmp.Ordering.TheVariants.{Less, Equal, Greater}
use Rattle.pim_audit.specs.Waiting.{waits_since, late_if_due, by_since, has_pair, AreWaiting, NoneIsLate}
use Rattle.pim_audit.specs.declared.due.Due.{Due}

module _ {K : Type 0} (cmp : K → K → Ordering) where
  same_pair : (s t : ℕ) (k q : K) → is_at (by_since cmp (s, k)) (t, q) ≡ ((s == t) && is_at (cmp k) q)
  same_pair s t k q = sym (tied_then (nat_cmp s t) (cmp k q)) ∙ ap (λ b. b && is_eq (cmp k q)) (unsigned_tied s t)

  module _ (total : IsTotalOrder cmp) where
    tied_turned : (k q : K) → is_at (cmp k) q ≡ true → (x : K) → cmp q x ≡ cmp k x
    tied_turned k q tied x = sym (total.congr k q x ((Equal-is (cmp k q)).0 tied))

    -- equal keys find the same
    pub found_alike : {A : Type 0} (k q : K) → is_at (cmp k) q ≡ true → (es : List (K × Due A))
        → lookup (is_at (cmp q)) es ≡ lookup (is_at (cmp k)) es
    found_alike k q tied [] = refl
    found_alike k q tied (e ∷ es) =
        ap (λ o. cond (is_eq o) (Some e.1) (lookup (is_at (cmp q)) es)) (tied_turned k q tied e.0)
        ∙ ap (cond (is_at (cmp k) e.0) (Some e.1)) (found_alike k q tied es)

    -- only what is held at this key changes
    module _ {A : Type 0} (old new : List (ℕ × K)) (es es' : List (K × Due A)) (key : K) (before after : Option (Due A))
        (are : AreWaiting cmp old es) (was : lookup (is_at (cmp key)) es ≡ before)
        (entries : (q : K) → lookup (is_at (cmp q)) es' ≡ cond (is_at (cmp key) q) after (lookup (is_at (cmp q)) es))
        (elsewhere : (s : ℕ) (q : K) → is_at (cmp key) q ≡ false → has_pair cmp new s q ≡ has_pair cmp old s q)
        (here : (s : ℕ) (q : K) → is_at (cmp key) q ≡ true → has_pair cmp old s q ≡ waits_since s before
        → has_pair cmp new s q ≡ waits_since s after) where
      by : (b : Bool) (s : ℕ) (q : K) → is_at (cmp key) q ≡ b
          → has_pair cmp new s q ≡ waits_since s (cond b after (lookup (is_at (cmp q)) es))
      by true s q tied = here s q tied (are s q ∙ ap (waits_since s) (found_alike key q tied es ∙ was))
      by false s q apart = elsewhere s q apart ∙ are s q

      follows : AreWaiting cmp new es'
      follows s q = by (is_at (cmp key) q) s q refl ∙ ap (waits_since s) (sym (entries q))

    module _ {A : Type 0} (old new : List (ℕ × K)) (es es' : List (K × Due A)) (key : K) (are : AreWaiting cmp old es) where
      -- a pair is removed with its entry, or once the entry is reported
      pub removes : (held : Due A) (after : Option (Due A)) → lookup (is_at (cmp key)) es ≡ Some held
          → ((s : ℕ) → waits_since s after ≡ false)
          → ((p : ℕ × K) → list_any (is_at (by_since cmp p)) new
          ≡ cond (is_at (by_since cmp (held.since, key)) p) false (list_any (is_at (by_since cmp p)) old))
          → ((q : K) → lookup (is_at (cmp q)) es' ≡ cond (is_at (cmp key) q) after (lookup (is_at (cmp q)) es))
          → AreWaiting cmp new es'
      removes held after was never pairs entries = follows old new es es' key (Some held) after are was entries
          (λ s q apart. pairs (s, q) ∙ ap (λ b. cond b false (has_pair cmp old s q))
          (same_pair held.since s key q ∙ ap (λ b. (held.since == s) && b) apart ∙ none (held.since == s)))
          (λ s q tied is. pairs (s, q) ∙ ap (λ b. cond b false (has_pair cmp old s q))
          (same_pair held.since s key q ∙ ap (λ b. (held.since == s) && b) tied)
          ∙ ap (cond ((held.since == s) && true) false) is ∙ gone held.is_reported (held.since == s) ∙ sym (never s))
        where
          none : (b : Bool) → (b && false) ≡ false
          none true = refl
          none false = refl

          gone : (r b : Bool) → cond (b && true) false (not r && b) ≡ false
          gone true true = refl
          gone true false = refl
          gone false true = refl
          gone false false = refl

      -- a pair is added with its entry
      pub adds : (due : Due A) → lookup (is_at (cmp key)) es ≡ None → due.is_reported ≡ false
          → ((p : ℕ × K) → list_any (is_at (by_since cmp p)) new
          ≡ cond (is_at (by_since cmp (due.since, key)) p) true (list_any (is_at (by_since cmp p)) old))
          → ((q : K) → lookup (is_at (cmp q)) es' ≡ cond (is_at (cmp key) q) (Some due) (lookup (is_at (cmp q)) es))
          → AreWaiting cmp new es'
      adds due was fresh pairs entries = follows old new es es' key None (Some due) are was entries
          (λ s q apart. pairs (s, q) ∙ ap (λ b. cond b true (has_pair cmp old s q))
          (same_pair due.since s key q ∙ ap (λ b. (due.since == s) && b) apart ∙ none (due.since == s)))
          (λ s q tied is. pairs (s, q) ∙ ap (λ b. cond b true (has_pair cmp old s q))
          (same_pair due.since s key q ∙ ap (λ b. (due.since == s) && b) tied)
          ∙ ap (cond ((due.since == s) && true) true) is ∙ came (due.since == s) ∙ ap (λ r. not r && (due.since == s)) (sym fresh))
        where
          none : (b : Bool) → (b && false) ≡ false
          none true = refl
          none false = refl

          came : (b : Bool) → cond (b && true) true false ≡ (not false && b)
          came true = refl
          came false = refl

    -- a pair that was added for nothing is removed
    pub restored : {A : Type 0} (old mid new : List (ℕ × K)) (es es' : List (K × Due A)) (key : K) (since : ℕ) → AreWaiting cmp old es
        → lookup (is_at (cmp key)) es ≡ None → es' ≡ es
        → ((p : ℕ × K) → list_any (is_at (by_since cmp p)) mid
        ≡ cond (is_at (by_since cmp (since, key)) p) true (list_any (is_at (by_since cmp p)) old))
        → ((p : ℕ × K) → list_any (is_at (by_since cmp p)) new
        ≡ cond (is_at (by_since cmp (since, key)) p) false (list_any (is_at (by_since cmp p)) mid))
        → AreWaiting cmp new es'
    restored old mid new es es' key since are was same added removed = follows old new es es' key None None are was
        (λ q. ap (lookup (is_at (cmp q))) same ∙ by_key q (is_at (cmp key) q) refl)
        (λ s q apart. both s q ∙ ap (λ b. cond b false (cond b true (has_pair cmp old s q)))
        (same_pair since s key q ∙ ap (λ b. (since == s) && b) apart ∙ none (since == s)))
        (λ s q tied is. both s q ∙ ap (λ b. cond b false (cond b true (has_pair cmp old s q)))
        (same_pair since s key q ∙ ap (λ b. (since == s) && b) tied)
        ∙ ap (λ x. cond ((since == s) && true) false (cond ((since == s) && true) true x)) is ∙ never (since == s))
      where
        both : (s : ℕ) (q : K) → has_pair cmp new s q
            ≡ cond (is_at (by_since cmp (since, key)) (s, q)) false (cond (is_at (by_since cmp (since, key)) (s, q)) true
            (has_pair cmp old s q))
        both s q = removed (s, q) ∙ ap (cond (is_at (by_since cmp (since, key)) (s, q)) false) (added (s, q))

        by_key : (q : K) (b : Bool) → is_at (cmp key) q ≡ b → lookup (is_at (cmp q)) es ≡ cond b None (lookup (is_at (cmp q)) es)
        by_key q true tied = found_alike key q tied es ∙ was
        by_key q false apart = refl

        none : (b : Bool) → (b && false) ≡ false
        none true = refl
        none false = refl

        never : (b : Bool) → cond (b && true) false (cond (b && true) true false) ≡ false
        never true = refl
        never false = refl

-- ---- the first pair

not_greater : (o p : Ordering) → is_gt (ordering_then o p) ≡ false → is_gt o ≡ false
not_greater Less p h = refl
not_greater Equal p h = refl
not_greater Greater p h = h

-- no pair is of an earlier moment than the first
pub first_before : {K : Type 0} (cmp : K → K → Ordering) (d e : ℕ) (a b : K) → is_gt (by_since cmp (d, a) (e, b)) ≡ false → d ≤ e
first_before cmp d e a b h = le_from_not_gt d e (not_greater (nat_cmp d e) (cmp a b) h)

-- a list with an element that passes isn't empty
pub not_empty : {X : Type 0} (test : X → Bool) (xs : List X) → list_any test xs ≡ true → 0 < length xs
not_empty test [] t = absurd (false≢true t)
not_empty test (x ∷ xs) t = omega arith

own_since : (n : ℕ) → (n == n) ≡ true
own_since n = eq-eqb n n refl

in_time : (r : Bool) (since moment grace : ℕ) → (r ≡ false → moment ≤ since + grace) → (not r && nat_lt (since + grace) moment) ≡ false
in_time true since moment grace h = refl
in_time false since moment grace h = grind (arith, nat_tests, h refl)

module _ {K A : Type 0} (cmp : K → K → Ordering) (total : IsTotalOrder cmp) (map : BTreeMap K (Due A)) (up : IsOrdered cmp map)
    (pairs : List (ℕ × K)) (are : AreWaiting cmp pairs map.entries) (moment grace : ℕ)
    (each : (s : ℕ) (q : K) → has_pair cmp pairs s q ≡ true → moment ≤ s + grace) where
  each_in_time : (es : List (K × Due A)) → AllByRecursion (λ (e : K × Due A). lookup (is_at (cmp e.0)) map.entries ≡ Some e.1) es
      → NoneIsLate moment grace es
  each_in_time [] found = tt
  each_in_time (e ∷ es) found = (
    in_time e.1.is_reported e.1.since moment grace
        (λ waits. each e.1.since e.0 (are e.1.since e.0 ∙ ap (waits_since e.1.since) found.0
        ∙ ap (λ r. not r && (e.1.since == e.1.since)) waits ∙ own_since e.1.since)),
    each_in_time es found.1,
  )

  -- where no pair is late, no entry is
  pub none_is_late : NoneIsLate moment grace map.entries
  none_is_late = each_in_time map.entries (recursion_from_All _ map.entries (All-found total map up))

-- an entry that waits since long before becomes late
pub waits_too_long : {A : Type 0} (held : Option (Due A)) (since moment grace : ℕ) → waits_since since held ≡ true → since + grace < moment
    → late_if_due moment grace held ≡ true
waits_too_long None since moment grace waits long = absurd (false≢true waits)
waits_too_long (Some held) since moment grace waits long =
    let parts = and_parts (not held.is_reported) (held.since == since) waits in
    let same : held.since ≡ since = eqb-true held.since since parts.1 in
    ap (λ b. b && nat_lt (held.since + grace) moment) parts.0 ∙ lt-ltb (held.since + grace) moment (omega arith)
