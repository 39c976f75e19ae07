-- A message has one list of transitions.
use Rattle.pim_transitions.proofs.Words.{◌≡◌, ℕ, true, false, ◌||◌, List, [], ◌∷◌, refl, sym, ap, subst, ◌∙◌, Ordering, Less}
use Rattle.pim_transitions.proofs.Words.{Equal, Greater, ordering_reverse, AllByRecursion, IsStrictlySortedBy, false≢true, Key}
use Rattle.pim_transitions.proofs.Words.{Record, key_cmp, same_key, machine_at, Start, Event, Transition, caused_by, IsTransition}
use Rattle.pim_transitions.proofs.Words.{has_transition, keys_of_transitions, TransitionsAreOneList}
use Rattle.pim_transitions.proofs.Effects.{or_true, by_test}
use Rattle.pim_transitions.proofs.Keys.{key_total, equal_keys, same_keys, same_itself, less_apart}

abbrev pub Items : Type 0
Items = List (Transition (List ℕ))

abbrev pub AreAbove : Key (List ℕ) → Items → Type 0
AreAbove key items = AllByRecursion (λ other. key_cmp key other ≡ Less) (keys_of_transitions items)

not_told : (key : Key (List ℕ)) (items : Items) → AreAbove key items → has_transition key items ≡ false
not_told key [] above = refl
not_told key (item ∷ items) above = ap (λ b. b || has_transition key items) (less_apart key item.key above.0) ∙ not_told key items above.1

pub all_above : (key next : Key (List ℕ)) (items : Items) → key_cmp key next ≡ Less → AreAbove next items → AreAbove key items
all_above key next [] less above = tt
all_above key next (item ∷ items) less above = (key_total.trans key next item.key less above.0, all_above key next items less above.1)

-- what is told of a list of items apart from the first is told of the others
told_rest : (first : Transition (List ℕ)) (these those : Items) (other : Transition (List ℕ)) → other.key ≡ first.key → AreAbove first.key these → ((key : Key (List ℕ)) → has_transition key (first ∷ these) ≡ true → has_transition key (other ∷ those) ≡ true)
    → (key : Key (List ℕ)) → has_transition key these ≡ true → has_transition key those ≡ true
told_rest first these those other same above within key reported =
    by_test (same_key other.key key)
    (λ s. absurd (false≢true (sym (not_told first.key these above) ∙ subst (λ k. has_transition k these ≡ true) (sym (same_keys other.key key s) ∙ same) reported)))
    (λ s. ap (λ b. b || has_transition key those) (sym s) ∙ within key (ap (λ b. same_key first.key key || b) reported ∙ or_true (same_key first.key key)))

module _ (port : ℕ) (start : Start) (events : List Event) (before after : List (Record (List ℕ))) where
  abbrev Is : Transition (List ℕ) → Type 0
  Is = IsTransition port start events before after

  same_item : (a b : Transition (List ℕ)) → Is a → Is b → a.key ≡ b.key → a ≡ b
  same_item a b x y same =
      let was : a.before ≡ b.before = x.was ∙ ap (λ (k : Key (List ℕ)). machine_at k before) same ∙ sym y.was in
      let now : a.after ≡ b.after = x.is ∙ ap (λ (k : Key (List ℕ)). machine_at k after) same ∙ sym y.is in
      let kinds : a.by ≡ b.by = x.cause ∙ (λ i. caused_by port start events (same i) (was i)) ∙ sym y.cause in
      λ i. record { key = same i; before = was i; after = now i; by = kinds i }

  told_differs : (key : Key (List ℕ)) (items : Items) → AllByRecursion Is items → has_transition key items ≡ true → machine_at key before ≡ machine_at key after → ⊥
  told_differs key [] all reported same = false≢true reported
  told_differs key (item ∷ items) all reported same =
      by_test (same_key item.key key)
      (λ s.
      let at = same_keys item.key key s in
      all.0.differ (all.0.was ∙ ap (λ (k : Key (List ℕ)). machine_at k before) at ∙ same ∙ ap (λ (k : Key (List ℕ)). machine_at k after) (sym at) ∙ sym all.0.is))
      (λ s. told_differs key items all.1 (ap (λ b. b || has_transition key items) (sym s) ∙ reported) same)

  first_told : (item : Transition (List ℕ)) (items : Items) → has_transition item.key (item ∷ items) ≡ true
  first_told item items = ap (λ b. b || has_transition item.key items) (same_itself item.key)

  one_list : (these those : Items) → IsStrictlySortedBy key_cmp (keys_of_transitions these) → IsStrictlySortedBy key_cmp (keys_of_transitions those) → AllByRecursion Is these → AllByRecursion Is those
      → ((key : Key (List ℕ)) → has_transition key these ≡ true → has_transition key those ≡ true) → ((key : Key (List ℕ)) → has_transition key those ≡ true → has_transition key these ≡ true) → these ≡ those
  unfolding IsStrictlySortedBy
  one_list [] [] up up' all all' within back = refl
  one_list [] (other ∷ those) up up' all all' within back = absurd (false≢true (back other.key (first_told other those)))
  one_list (item ∷ these) [] up up' all all' within back = absurd (false≢true (within item.key (first_told item these)))
  one_list (item ∷ these) (other ∷ those) up up' all all' within back = by (λ a b. one_list these those up.1 up'.1 all.1 all'.1 a b) (key_cmp item.key other.key) refl
    where
      by : (((key : Key (List ℕ)) → has_transition key these ≡ true → has_transition key those ≡ true) → ((key : Key (List ℕ)) → has_transition key those ≡ true → has_transition key these ≡ true) → these ≡ those)
          → (r : Ordering) → key_cmp item.key other.key ≡ r → item ∷ these ≡ other ∷ those
      by rest Less e = absurd (false≢true (sym (not_told item.key (other ∷ those) (e, all_above item.key other.key those e up'.0)) ∙ within item.key (first_told item these)))
      by rest Equal e =
          let same = equal_keys item.key other.key e in
          let first = same_item item other all.0 all'.0 same in
          let tails = rest (told_rest item these those other (sym same) up.0 within) (told_rest other those these item same up'.0 back) in
          λ i. first i ∷ tails i
      by rest Greater e =
          let less : key_cmp other.key item.key ≡ Less = key_total.antisymm other.key item.key ∙ ap ordering_reverse e in
          absurd (false≢true (sym (not_told other.key (item ∷ these) (less, all_above other.key item.key these less up.0)) ∙ back other.key (first_told other those)))

pub one_list_of : TransitionsAreOneList
one_list_of port start events before after one other x y =
    one_list port start events before after one other x.ascending y.ascending x.each y.each
    (λ key reported. y.all key (told_differs port start events before after key one x.each reported))
    (λ key reported. x.all key (told_differs port start events before after key other y.each reported))
