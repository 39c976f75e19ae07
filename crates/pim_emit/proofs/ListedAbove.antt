-- The next address of an ascending list above a bound, looked for among all addresses that pass a test which those of the
-- list pass.
use Rattle.pim_emit.proofs.Words.{◌≡◌, ◌∙◌, ℕ, Bool, true, false, ◌&&◌, ◌||◌, List, [], ◌∷◌, Option, None, Some, refl, sym, ap}
use Rattle.pim_emit.proofs.Words.{subst, Less, AllByRecursion, IsStrictlySortedBy, is_le, is_lt, ordering_reverse, false≢true}
use Rattle.pim_emit.proofs.Words.{and_from, and_parts, or_left, or_right, or_parts, is_above, address_cmp, AreAscending}
use Rattle.pim_emit.proofs.Words.{same_address, is_listed, IsLeast, above, next_above}
use Rattle.pim_emit.proofs.Addresses.{same_is, same_itself, back, lt_less, above_less, le_above}
use Rattle.pim_emit.proofs.Above.{by_test}

abbrev pub over : Option (List ℕ) → (List ℕ → Bool) → List ℕ → Bool
over bound test address = is_above bound address && test address

abbrev pub AllPass : (List ℕ → Bool) → List (List ℕ) → Type 0
AllPass test addresses = AllByRecursion (λ address. test address ≡ true) addresses

behind_listed : (low address : List ℕ) (xs : List (List ℕ)) → AllByRecursion (λ other. address_cmp low other ≡ Less) xs → is_listed address xs ≡ true → address_cmp low address ≡ Less
behind_listed low address [] behind listed = absurd (false≢true listed)
behind_listed low address (x ∷ xs) behind listed =
    by_test (same_address address x)
    (λ e. subst (λ (a : List ℕ). address_cmp low a ≡ Less) (sym (same_is address x e)) behind.0)
    (λ e. behind_listed low address xs behind.1 (subst (λ b. b || is_listed address xs ≡ true) e listed))

apart_turned : (a b : List ℕ) → same_address a b ≡ false → same_address b a ≡ false
apart_turned a b apart =
    by_test (same_address b a)
    (λ e. absurd (false≢true (sym apart ∙ subst (λ (c : List ℕ). same_address a c ≡ true) (sym (same_is b a e)) (same_itself a))))
    (λ e. e)

-- ---- what the least tells

pub none_left : (test : List ℕ → Bool) (bound : Option (List ℕ)) (xs : List (List ℕ)) → AllPass test xs → IsLeast (over bound test) None → next_above bound xs ≡ None
none_left test bound [] all none = refl
none_left test bound (x ∷ xs) all none =
    by_test (is_above bound x)
    (λ e. absurd (false≢true (sym (none x) ∙ and_from (is_above bound x) (test x) e all.0)))
    (λ e. rw e (none_left test bound xs all.1 none))

pub listed_next : (test : List ℕ → Bool) (bound : Option (List ℕ)) (least : List ℕ) (xs : List (List ℕ)) → AllPass test xs → AreAscending xs → IsLeast (over bound test) (Some least)
    → is_listed least xs ≡ true → next_above bound xs ≡ Some least
unfolding IsStrictlySortedBy
listed_next test bound least [] all up is listed = absurd (false≢true listed)
listed_next test bound least (x ∷ xs) all up is listed =
    by_test (is_above bound x)
    (λ e. by_test (same_address least x)
    (λ s. rw e (ap (λ a. Some a) (sym (same_is least x s))))
    (λ d.
    let later : is_listed least xs ≡ true = subst (λ b. b || is_listed least xs ≡ true) d listed in
    let beyond : is_le (address_cmp least x) ≡ false = ap is_le (back x least ∙ ap ordering_reverse (behind_listed x least xs up.0 later)) in
    absurd (false≢true (sym beyond ∙ is.1 x (and_from (is_above bound x) (test x) e all.0)))))
    (λ e. by_test (same_address least x)
    (λ s. absurd (false≢true (sym e ∙ subst (λ (a : List ℕ). is_above bound a ≡ true) (same_is least x s) (and_parts (is_above bound least) (test least) is.0).0)))
    (λ d. rw e (listed_next test bound least xs all.1 up.1 is (subst (λ b. b || is_listed least xs ≡ true) d listed))))

pub unlisted_passed : (test : List ℕ → Bool) (bound : Option (List ℕ)) (least : List ℕ) (xs : List (List ℕ)) → AllPass test xs → IsLeast (over bound test) (Some least)
    → is_listed least xs ≡ false → next_above bound xs ≡ next_above (Some least) xs
unlisted_passed test bound least [] all is listed = refl
unlisted_passed test bound least (x ∷ xs) all is listed =
    let parts = or_parts (same_address least x) (is_listed least xs) listed in
    by_test (is_above bound x)
    (λ e. rw (e, le_above least x (is.1 x (and_from (is_above bound x) (test x) e all.0)) (apart_turned least x parts.0)) refl)
    (λ e. by_test (is_above (Some least) x)
    (λ s. absurd (false≢true (sym e ∙ above_less bound least x (and_parts (is_above bound least) (test least) is.0).0 (lt_less (address_cmp least x) s))))
    (λ d. rw (e, d) (unlisted_passed test bound least xs all.1 is parts.1)))

-- what comes next above a bound that passed over nothing
pub answered : (bound first : Option (List ℕ)) (xs : List (List ℕ)) {next : Option (List ℕ)} → next_above bound xs ≡ next → next_above bound xs ≡ next_above first xs → next ≡ next_above first xs
answered bound first xs is before = sym is ∙ before

-- ---- what is listed

-- what holds of all that are listed
pub all_listed : (P Q : List ℕ → Type 0) (xs : List (List ℕ)) → AllByRecursion P xs → ((x : List ℕ) → P x → is_listed x xs ≡ true → Q x) → AllByRecursion Q xs
all_listed P Q [] all gives = tt
all_listed P Q (x ∷ xs) all gives = (
  gives x all.0 (or_left (same_address x x) (is_listed x xs) (same_itself x)),
  all_listed P Q xs all.1 (λ y p listed. gives y p (or_right (same_address y x) (is_listed y xs) listed)),
)

-- all of a list are above an address below them
pub above_all : (low : List ℕ) (xs : List (List ℕ)) → AllByRecursion (λ x. address_cmp low x ≡ Less) xs → above (Some low) xs ≡ xs
above_all low [] below = refl
above_all low (x ∷ xs) below = let here : is_above (Some low) x ≡ true = ap is_lt below.0 in rw here (ap (λ l. x ∷ l) (above_all low xs below.1))
