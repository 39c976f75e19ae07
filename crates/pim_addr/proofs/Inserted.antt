-- Entries in order, with one more.
use Rattle.pim_addr.proofs.Words.{◌≡◌, Bool, true, false, cond, List, [], ◌∷◌, Some, None, refl, sym, ap, ◌∙◌}
use Rattle.pim_addr.proofs.Words.{AllByRecursion, IsStrictlySortedBy, is_eq, eq_by_cmp, match_ordering}
use Rattle.pim_addr.proofs.Words.{ordering_reverse, IsTotalOrder, eq_by_cmp_equiv, Equal-is, Ordering, Less, Equal}
use Rattle.pim_addr.proofs.Words.{Greater, is_at, insert_entry, lookup, keys_of, cond-false}

cond_again : {X : Type 0} (b : Bool) (x y z : X) → cond b x z ≡ cond b x (cond b y z)
cond_again true x y z = refl
cond_again false x y z = refl

cond_swap : {X : Type 0} (a b : Bool) (x y z : X) → (a ≡ true → b ≡ false) → cond b x (cond a y z) ≡ cond a y (cond b x z)
cond_swap true b x y z apart = cond-false b x y (apart refl)
cond_swap false b x y z apart = refl

module _ {K : Type 0} (cmp : K → K → Ordering) (total : IsTotalOrder cmp) where
  -- equal keys are alike
  alike : (k e q : K) → cmp k e ≡ Equal → eq_by_cmp cmp k q ≡ eq_by_cmp cmp e q
  alike k e q same = ap is_eq (total.congr k e q same)

  swapped : (x y : K) → eq_by_cmp cmp x y ≡ eq_by_cmp cmp y x
  swapped x y = (eq_by_cmp_equiv total).symm x y

  -- what is below a key is below those above it
  below_below : (a b : K) (ks : List K) → cmp a b ≡ Less → AllByRecursion (λ y. cmp b y ≡ Less) ks → AllByRecursion (λ y. cmp a y ≡ Less) ks
  below_below a b [] l h = tt
  below_below a b (k ∷ ks) l h = (total.trans a b k l h.0, below_below a b ks l h.1)

module _ {K X : Type 0} (cmp : K → K → Ordering) (total : IsTotalOrder cmp) where
  insert_step : (k : K) (v : X) (q : K) (e : K × X) (es inserted : List (K × X)) (o : Ordering) → cmp k e.0 ≡ o →
      lookup (is_at (cmp q)) inserted ≡ cond (is_at (cmp k) q) (Some v) (lookup (is_at (cmp q)) es) →
      lookup (is_at (cmp q)) (match_ordering o ((k, v) ∷ e ∷ es) ((e.0, v) ∷ es) (e ∷ inserted)) ≡ cond (is_at (cmp k) q) (Some v) (lookup (is_at (cmp q)) (e ∷ es))
  insert_step k v q e es inserted Less c h = ap (λ b. cond b (Some v) (lookup (is_at (cmp q)) (e ∷ es))) (swapped cmp total q k)
  insert_step k v q e es inserted Equal c h = cond_again (is_at (cmp q) e.0) (Some v) (Some e.1) (lookup (is_at (cmp q)) es)
      ∙ ap (λ b. cond b (Some v) (lookup (is_at (cmp q)) (e ∷ es))) (swapped cmp total q e.0 ∙ sym (alike cmp total k e.0 q c))
  insert_step k v q e es inserted Greater c h = ap (λ o. cond (is_at (cmp q) e.0) (Some e.1) o) h
      ∙ cond_swap (is_at (cmp k) q) (is_at (cmp q) e.0) (Some e.1) (Some v) (lookup (is_at (cmp q)) es)
      (λ t. sym (alike cmp total k q e.0 ((Equal-is (cmp k q)).0 t)) ∙ ap is_eq c)

  pub lookup_insert : (k : K) (v : X) (q : K) (es : List (K × X)) → lookup (is_at (cmp q)) (insert_entry cmp es k v) ≡ cond (is_at (cmp k) q) (Some v) (lookup (is_at (cmp q)) es)
  lookup_insert k v q [] = ap (λ b. cond b (Some v) None) (swapped cmp total q k)
  lookup_insert k v q (e ∷ es) = insert_step k v q e es (insert_entry cmp es k v) (cmp k e.0) refl (lookup_insert k v q es)

  -- ---- the keys ascend

  below_match : (a k : K) (v : X) (e : K × X) (es inserted : List (K × X)) (o : Ordering) → cmp a k ≡ Less → cmp a e.0 ≡ Less → AllByRecursion (λ y. cmp a y ≡ Less) (keys_of es) →
      AllByRecursion (λ y. cmp a y ≡ Less) (keys_of inserted) → AllByRecursion (λ y. cmp a y ≡ Less) (keys_of (match_ordering o ((k, v) ∷ e ∷ es) ((e.0, v) ∷ es) (e ∷ inserted)))
  below_match a k v e es inserted Less l m h i = (l, (m, h))
  below_match a k v e es inserted Equal l m h i = (m, h)
  below_match a k v e es inserted Greater l m h i = (m, i)

  below_insert : (a k : K) (v : X) (es : List (K × X)) → cmp a k ≡ Less → AllByRecursion (λ y. cmp a y ≡ Less) (keys_of es) → AllByRecursion (λ y. cmp a y ≡ Less) (keys_of (insert_entry cmp es k v))
  below_insert a k v [] l h = (l, tt)
  below_insert a k v (e ∷ es) l h = below_match a k v e es (insert_entry cmp es k v) (cmp k e.0) l h.0 h.1 (below_insert a k v es l h.1)

  sorted_match : (k : K) (v : X) (e : K × X) (es : List (K × X)) (o : Ordering) → cmp k e.0 ≡ o → IsStrictlySortedBy cmp (keys_of (e ∷ es)) → IsStrictlySortedBy cmp (keys_of (insert_entry cmp es k v)) →
      IsStrictlySortedBy cmp (keys_of (match_ordering o ((k, v) ∷ e ∷ es) ((e.0, v) ∷ es) (e ∷ insert_entry cmp es k v)))
  unfolding IsStrictlySortedBy
  sorted_match k v e es Less c s i = ((c, below_below cmp total k e.0 (keys_of es) c s.0), s)
  sorted_match k v e es Equal c s i = s
  sorted_match k v e es Greater c s i = (below_insert e.0 k v es (total.antisymm e.0 k ∙ ap ordering_reverse c) s.0, i)

  pub sorted_insert : (k : K) (v : X) (es : List (K × X)) → IsStrictlySortedBy cmp (keys_of es) → IsStrictlySortedBy cmp (keys_of (insert_entry cmp es k v))
  unfolding IsStrictlySortedBy
  sorted_insert k v [] s = (tt, tt)
  sorted_insert k v (e ∷ es) s = sorted_match k v e es (cmp k e.0) refl s (sorted_insert k v es s.1)
