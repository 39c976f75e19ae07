-- What the changes of a table mean for one address.
use Rattle.pim_hello.proofs.Words.{◌≡◌, ℕ, ◌-◌, Bool, true, false, cond, List, [], ◌∷◌, Option, Some, None, refl, sym, ap, ◌∙◌}
use Rattle.pim_hello.proofs.Words.{not, map, option_map, AllByRecursion, IsStrictlySortedBy, nat_cmp, is_eq, eq_by_cmp}
use Rattle.pim_hello.proofs.Words.{match_ordering, ordering_reverse, IsTotalOrder, eq_by_cmp_equiv, Equal-is, slice_cmp}
use Rattle.pim_hello.proofs.Words.{nat_list_cmp_total, Ordering, Less, Equal, Greater, is_at, insert_entry, lookup, remove_entry}
use Rattle.pim_hello.proofs.Words.{keys_of, false_from_ne_true, cond-false, cond-true, IsDistinct-from_sorted, exact_bytes}
use Rattle.pim_hello.proofs.Words.{Neighbour, is_address, neighbour_at, waited, is_over, says_goodbye, lifetime, kept_of_sender}
use Rattle.pim_hello.proofs.Words.{unless_ended, HearingChangesItsSenderAlone, TimePassesForAll, ExactlyTheEndedGo}
use Rattle.std.proofs.lemmas.Map.{lookup-remove_entry}
use Rattle.std.proofs.lemmas.Map.Entries.{option_filter, lookup-filter-values}

cond_again : {X : Type 0} (b : Bool) (x y z : X) → cond b x z ≡ cond b x (cond b y z)
cond_again true x y z = refl
cond_again false x y z = refl

cond_swap : {X : Type 0} (a b : Bool) (x y z : X) → (a ≡ true → b ≡ false) → cond b x (cond a y z) ≡ cond a y (cond b x z)
cond_swap true b x y z apart = cond-false b x y (apart refl)
cond_swap false b x y z apart = refl

module _ {K : Type 0} (cmp : K → K → Ordering) (total : IsTotalOrder cmp) where
  -- equal keys are alike
  alike : (k e q : K) → cmp k e ≡ Equal → eq_by_cmp cmp k q ≡ eq_by_cmp cmp e q
  alike k e q same = ap is_eq (total.congr k e q same)

  swapped : (x y : K) → eq_by_cmp cmp x y ≡ eq_by_cmp cmp y x
  swapped x y = (eq_by_cmp_equiv total).symm x y

  -- what is below a key is below those above it
  below_below : (a b : K) (ks : List K) → cmp a b ≡ Less → AllByRecursion (λ y. cmp b y ≡ Less) ks → AllByRecursion (λ y. cmp a y ≡ Less) ks
  below_below a b [] l h = tt
  below_below a b (k ∷ ks) l h = (total.trans a b k l h.0, below_below a b ks l h.1)

module _ {K X : Type 0} (cmp : K → K → Ordering) (total : IsTotalOrder cmp) where
  insert_step : (k : K) (v : X) (q : K) (e : K × X) (es inserted : List (K × X)) (o : Ordering) → cmp k e.0 ≡ o →
      lookup (is_at (cmp q)) inserted ≡ cond (is_at (cmp k) q) (Some v) (lookup (is_at (cmp q)) es) →
      lookup (is_at (cmp q)) (match_ordering o ((k, v) ∷ e ∷ es) ((e.0, v) ∷ es) (e ∷ inserted)) ≡ cond (is_at (cmp k) q) (Some v) (lookup (is_at (cmp q)) (e ∷ es))
  insert_step k v q e es inserted Less c h = ap (λ b. cond b (Some v) (lookup (is_at (cmp q)) (e ∷ es))) (swapped cmp total q k)
  insert_step k v q e es inserted Equal c h = cond_again (is_at (cmp q) e.0) (Some v) (Some e.1) (lookup (is_at (cmp q)) es)
      ∙ ap (λ b. cond b (Some v) (lookup (is_at (cmp q)) (e ∷ es))) (swapped cmp total q e.0 ∙ sym (alike cmp total k e.0 q c))
  insert_step k v q e es inserted Greater c h = ap (λ o. cond (is_at (cmp q) e.0) (Some e.1) o) h
      ∙ cond_swap (is_at (cmp k) q) (is_at (cmp q) e.0) (Some e.1) (Some v) (lookup (is_at (cmp q)) es)
      (λ t. sym (alike cmp total k q e.0 ((Equal-is (cmp k q)).0 t)) ∙ ap is_eq c)

  pub lookup_insert : (k : K) (v : X) (q : K) (es : List (K × X)) → lookup (is_at (cmp q)) (insert_entry cmp es k v) ≡ cond (is_at (cmp k) q) (Some v) (lookup (is_at (cmp q)) es)
  lookup_insert k v q [] = ap (λ b. cond b (Some v) None) (swapped cmp total q k)
  lookup_insert k v q (e ∷ es) = insert_step k v q e es (insert_entry cmp es k v) (cmp k e.0) refl (lookup_insert k v q es)

  pub lookup_remove : (k q : K) (es : List (K × X)) → IsStrictlySortedBy cmp (keys_of es) → lookup (is_at (cmp q)) (remove_entry (is_at (cmp k)) es) ≡ cond (is_at (cmp k) q) None (lookup (is_at (cmp q)) es)
  lookup_remove k q es sorted = lookup-remove_entry (eq_by_cmp_equiv total) (is_at (cmp k)) (λ x y t. alike_key k x y t) q es (IsDistinct-from_sorted cmp (keys_of es) sorted)
    where
      alike_key : (k x y : K) → eq_by_cmp cmp k x ≡ true → eq_by_cmp cmp k y ≡ eq_by_cmp cmp x y
      alike_key k x y t = alike cmp total k x y ((Equal-is (cmp k x)).0 t)

  -- ---- the keys ascend

  below_match : (a k : K) (v : X) (e : K × X) (es inserted : List (K × X)) (o : Ordering) → cmp a k ≡ Less → cmp a e.0 ≡ Less → AllByRecursion (λ y. cmp a y ≡ Less) (keys_of es) →
      AllByRecursion (λ y. cmp a y ≡ Less) (keys_of inserted) → AllByRecursion (λ y. cmp a y ≡ Less) (keys_of (match_ordering o ((k, v) ∷ e ∷ es) ((e.0, v) ∷ es) (e ∷ inserted)))
  below_match a k v e es inserted Less l m h i = (l, (m, h))
  below_match a k v e es inserted Equal l m h i = (m, h)
  below_match a k v e es inserted Greater l m h i = (m, i)

  below_insert : (a k : K) (v : X) (es : List (K × X)) → cmp a k ≡ Less → AllByRecursion (λ y. cmp a y ≡ Less) (keys_of es) → AllByRecursion (λ y. cmp a y ≡ Less) (keys_of (insert_entry cmp es k v))
  below_insert a k v [] l h = (l, tt)
  below_insert a k v (e ∷ es) l h = below_match a k v e es (insert_entry cmp es k v) (cmp k e.0) l h.0 h.1 (below_insert a k v es l h.1)

  sorted_match : (k : K) (v : X) (e : K × X) (es : List (K × X)) (o : Ordering) → cmp k e.0 ≡ o → IsStrictlySortedBy cmp (keys_of (e ∷ es)) → IsStrictlySortedBy cmp (keys_of (insert_entry cmp es k v)) →
      IsStrictlySortedBy cmp (keys_of (match_ordering o ((k, v) ∷ e ∷ es) ((e.0, v) ∷ es) (e ∷ insert_entry cmp es k v)))
  unfolding IsStrictlySortedBy
  sorted_match k v e es Less c s i = ((c, below_below cmp total k e.0 (keys_of es) c s.0), s)
  sorted_match k v e es Equal c s i = s
  sorted_match k v e es Greater c s i = (below_insert e.0 k v es (total.antisymm e.0 k ∙ ap ordering_reverse c) s.0, i)

  pub sorted_insert : (k : K) (v : X) (es : List (K × X)) → IsStrictlySortedBy cmp (keys_of es) → IsStrictlySortedBy cmp (keys_of (insert_entry cmp es k v))
  unfolding IsStrictlySortedBy
  sorted_insert k v [] s = (tt, tt)
  sorted_insert k v (e ∷ es) s = sorted_match k v e es (cmp k e.0) refl s (sorted_insert k v es s.1)

  below_removed : (found : Bool) (a : K) (e : K × X) (es removed : List (K × X)) → AllByRecursion (λ y. cmp a y ≡ Less) (keys_of (e ∷ es)) → AllByRecursion (λ y. cmp a y ≡ Less) (keys_of removed) →
      AllByRecursion (λ y. cmp a y ≡ Less) (keys_of (cond found es (e ∷ removed)))
  below_removed true a e es removed h i = h.1
  below_removed false a e es removed h i = (h.0, i)

  below_remove : (test : K → Bool) (a : K) (es : List (K × X)) → AllByRecursion (λ y. cmp a y ≡ Less) (keys_of es) → AllByRecursion (λ y. cmp a y ≡ Less) (keys_of (remove_entry test es))
  below_remove test a [] h = tt
  below_remove test a (e ∷ es) h = below_removed (test e.0) a e es (remove_entry test es) h (below_remove test a es h.1)

  sorted_cond : (found : Bool) (test : K → Bool) (e : K × X) (es : List (K × X)) → IsStrictlySortedBy cmp (keys_of (e ∷ es)) → IsStrictlySortedBy cmp (keys_of (remove_entry test es)) →
      IsStrictlySortedBy cmp (keys_of (cond found es (e ∷ remove_entry test es)))
  unfolding IsStrictlySortedBy
  sorted_cond true test e es s i = s.1
  sorted_cond false test e es s i = (below_remove test e.0 es s.0, i)

  pub sorted_remove : (test : K → Bool) (es : List (K × X)) → IsStrictlySortedBy cmp (keys_of es) → IsStrictlySortedBy cmp (keys_of (remove_entry test es))
  unfolding IsStrictlySortedBy
  sorted_remove test [] s = s
  sorted_remove test (e ∷ es) s = sorted_cond (test e.0) test e es s (sorted_remove test es s.1)

-- ---- addresses

-- an address is itself alone
other_address : (a b : List ℕ) → (a ≡ b → ⊥) → is_address a b ≡ false
other_address a b apart = false_from_ne_true (is_address a b) (λ t. apart (exact_bytes a b ((Equal-is (slice_cmp nat_cmp a b)).0 t)))

same_address : (a : List ℕ) → is_address a a ≡ true
same_address a = (eq_by_cmp_equiv nat_list_cmp_total).refl a

-- ---- the laws

entries_heard : (goes : Bool) (sender : List ℕ) (neighbour : Neighbour) (es : List (List ℕ × Neighbour)) → List (List ℕ × Neighbour)
entries_heard goes sender neighbour es = cond goes (remove_entry (is_address sender) es) (insert_entry (slice_cmp nat_cmp) es sender neighbour)

heard_at : (goes : Bool) (sender : List ℕ) (neighbour : Neighbour) (es : List (List ℕ × Neighbour)) → IsStrictlySortedBy (slice_cmp nat_cmp) (keys_of es) → (address : List ℕ) →
    lookup (is_address address) (entries_heard goes sender neighbour es) ≡ cond (is_address sender address) (cond goes None (Some neighbour)) (lookup (is_address address) es)
unfolding entries_heard
heard_at true sender neighbour es s address = lookup_remove (slice_cmp nat_cmp) nat_list_cmp_total sender address es s
heard_at false sender neighbour es s address = lookup_insert (slice_cmp nat_cmp) nat_list_cmp_total sender neighbour address es

heard_ascending : (goes : Bool) (sender : List ℕ) (neighbour : Neighbour) (es : List (List ℕ × Neighbour)) → IsStrictlySortedBy (slice_cmp nat_cmp) (keys_of es) →
    IsStrictlySortedBy (slice_cmp nat_cmp) (keys_of (entries_heard goes sender neighbour es))
unfolding entries_heard
heard_ascending true sender neighbour es s = sorted_remove (slice_cmp nat_cmp) nat_list_cmp_total (is_address sender) es s
heard_ascending false sender neighbour es s = sorted_insert (slice_cmp nat_cmp) nat_list_cmp_total sender neighbour es s

pub hearing_changes_its_sender_alone : HearingChangesItsSenderAlone
unfolding entries_heard
hearing_changes_its_sender_alone table sender hello ascending =
    let neighbour : Neighbour = record { parameters = hello; left = lifetime hello.holdtime } in (
      heard_at (says_goodbye hello) sender neighbour table.entries ascending sender ∙ cond-true (is_address sender sender) (kept_of_sender hello) (neighbour_at sender table) (same_address sender),
      λ other apart. heard_at (says_goodbye hello) sender neighbour table.entries ascending other ∙ cond-false (is_address sender other) (kept_of_sender hello) (neighbour_at other table) (other_address sender other apart),
      heard_ascending (says_goodbye hello) sender neighbour table.entries ascending,
    )

map_lookup : {K X Y : Type 0} (test : K → Bool) (f : X → Y) (es : List (K × X)) → lookup test (map (λ (e : K × X). (e.0, f e.1)) es) ≡ option_map f (lookup test es)
map_lookup test f [] = refl
map_lookup test f (e ∷ es) = ap (cond (test e.0) (Some (f e.1))) (map_lookup test f es) ∙ map_cond f (test e.0) e.1 (lookup test es)
  where
    map_cond : {X Y : Type 0} (f : X → Y) (b : Bool) (x : X) (o : Option X) → cond b (Some (f x)) (option_map f o) ≡ option_map f (cond b (Some x) o)
    map_cond f true x o = refl
    map_cond f false x o = refl

pub time_passes_for_all : TimePassesForAll
time_passes_for_all table now address = map_lookup (is_address address) (waited (now - table.moment)) table.entries

filter_unless : (o : Option Neighbour) → option_filter (λ (n : Neighbour). not (is_over n.left)) o ≡ unless_ended o
filter_unless None = refl
filter_unless (Some n) = not_cond (is_over n.left) (Some n)
  where
    not_cond : (b : Bool) (o : Option Neighbour) → cond (not b) o None ≡ cond b None o
    not_cond true o = refl
    not_cond false o = refl

pub exactly_the_ended_go : ExactlyTheEndedGo
exactly_the_ended_go table address ascending =
    lookup-filter-values (eq_by_cmp_equiv nat_list_cmp_total) (λ (n : Neighbour). not (is_over n.left)) address table.entries (IsDistinct-from_sorted (slice_cmp nat_cmp) (keys_of table.entries) ascending)
    ∙ filter_unless (neighbour_at address table)
