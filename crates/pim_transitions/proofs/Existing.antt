-- A message has a list of transitions, whatever records there are before it and after.
use Rattle.pim_transitions.proofs.Words.{◌≡◌, ℕ, Bool, true, false, ◌||◌, List, [], ◌∷◌, None, refl, sym, ap, subst}
use Rattle.pim_transitions.proofs.Words.{◌∙◌, Ordering, Less, Equal, Greater, ordering_reverse, AllByRecursion}
use Rattle.pim_transitions.proofs.Words.{list_any, IsStrictlySortedBy, false≢true, Key, Record, key_cmp, same_key}
use Rattle.pim_transitions.proofs.Words.{machine_at, Start, Event, Transition, same_machine, caused_by, IsTransition}
use Rattle.pim_transitions.proofs.Words.{has_transition, keys_of_transitions, AreTransitions, TransitionsAreThere}
use Rattle.pim_transitions.proofs.Effects.{or_false, or_true, by_test}
use Rattle.pim_transitions.proofs.Keys.{key_total, equal_keys, same_keys, same_back}
use Rattle.pim_transitions.proofs.OneList.{Items, AreAbove, all_above}
use Rattle.pim_transitions.proofs.Telling.{same_machine_is, same_machine_itself}

-- either of two
left_true : (a b : Bool) → a ≡ true → (a || b) ≡ true
left_true a b e = ap (λ c. c || b) e

right_true : (a b : Bool) → b ≡ true → (a || b) ≡ true
right_true a b e = ap (λ c. a || c) e ∙ or_true a

twice : (a b : Bool) → (a || (a || b)) ≡ true → (a || b) ≡ true
twice true b e = refl
twice false b e = e

without_second : (a b c : Bool) → b ≡ false → (a || (b || c)) ≡ true → (a || c) ≡ true
without_second a b c none e = ap (λ d. a || (d || c)) (sym none) ∙ e

without_first : (a b : Bool) → a ≡ false → (a || b) ≡ true → b ≡ true
without_first a b none e = ap (λ c. c || b) (sym none) ∙ e

-- one of the records has the key
abbrev has_key : Key (List ℕ) → List (Record (List ℕ)) → Bool
has_key key records = list_any (λ (held : Record (List ℕ)). same_key held.key key) records

absent : (key : Key (List ℕ)) (records : List (Record (List ℕ))) → has_key key records ≡ false → machine_at key records ≡ None
unfolding machine_at
absent key [] none = refl
absent key (held ∷ records) none =
    let parts = or_false (same_key held.key key) (has_key key records) none in
    rw (same_back key held.key ∙ parts.0) (absent key records parts.1)

module _ (port : ℕ) (start : Start) (events : List Event) (before after : List (Record (List ℕ))) where
  abbrev Is : Transition (List ℕ) → Type 0
  Is = IsTransition port start events before after

  -- a list of items with one more item
  record Joined (item : Transition (List ℕ)) (items : Items) : Type 0 where
    pub joined : Items
    pub ascending : IsStrictlySortedBy key_cmp (keys_of_transitions joined)
    pub each : AllByRecursion Is joined
    pub has : (key : Key (List ℕ)) → (same_key item.key key || has_transition key items) ≡ true → has_transition key joined ≡ true
    pub above : (key : Key (List ℕ)) → key_cmp key item.key ≡ Less → AreAbove key items → AreAbove key joined

  join : (item : Transition (List ℕ)) → Is item → (items : Items) → IsStrictlySortedBy key_cmp (keys_of_transitions items) → AllByRecursion Is items → Joined item items
  unfolding IsStrictlySortedBy
  join item is [] up each = record { joined = item ∷ []; ascending = (tt, tt); each = (is, tt); has = λ key reported. reported; above = λ key less over. (less, tt) }
  join item is (next ∷ items) up each = by (key_cmp item.key next.key) refl (join item is items up.1 each.1)
    where
      by : (r : Ordering) → key_cmp item.key next.key ≡ r → Joined item items → Joined item (next ∷ items)
      by Less e rest = record {
        joined = item ∷ next ∷ items;
        ascending = ((e, all_above item.key next.key items e up.0), up);
        each = (is, each);
        has = λ key reported. reported;
        above = λ key less over. (less, over);
      }
      by Equal e rest = record {
        joined = next ∷ items;
        ascending = up;
        each = each;
        has = λ key reported. twice (same_key next.key key) (has_transition key items)
            (subst (λ k. (same_key k key || (same_key next.key key || has_transition key items)) ≡ true) (equal_keys item.key next.key e) reported);
        above = λ key less over. over;
      }
      by Greater e rest = record {
        joined = next ∷ rest.joined;
        ascending = (rest.above next.key (key_total.antisymm next.key item.key ∙ ap ordering_reverse e) up.0, rest.ascending);
        each = (each.0, rest.each);
        has = λ key reported. by_test (same_key next.key key)
            (λ s. left_true (same_key next.key key) (has_transition key rest.joined) s)
            (λ s. right_true (same_key next.key key) (has_transition key rest.joined) (rest.has key (without_second (same_key item.key key) (same_key next.key key) (has_transition key items) s reported)));
        above = λ key less over. (over.0, rest.above key less over.1);
      }

  abbrev item_at : Key (List ℕ) → Transition (List ℕ)
  item_at key = record { key = key; before = machine_at key before; after = machine_at key after; by = caused_by port start events key (machine_at key before) }

  -- the items of these records that differ, with others
  record Told (records : List (Record (List ℕ))) (others : Items) : Type 0 where
    pub items : Items
    pub ascending : IsStrictlySortedBy key_cmp (keys_of_transitions items)
    pub each : AllByRecursion Is items
    pub has : (key : Key (List ℕ)) → has_key key records ≡ true → (machine_at key before ≡ machine_at key after → ⊥) → has_transition key items ≡ true
    pub keeps : (key : Key (List ℕ)) → has_transition key others ≡ true → has_transition key items ≡ true

  tell : (records : List (Record (List ℕ))) (others : Items) → IsStrictlySortedBy key_cmp (keys_of_transitions others) → AllByRecursion Is others → Told records others
  tell [] others up each = record { items = others; ascending = up; each = each; has = λ key there differ. absurd (false≢true there); keeps = λ key reported. reported }
  tell (held ∷ records) others up each = by (tell records others up each) (same_machine (machine_at held.key before) (machine_at held.key after)) refl
    where
      by : Told records others → (b : Bool) → same_machine (machine_at held.key before) (machine_at held.key after) ≡ b → Told (held ∷ records) others
      by rest true e = record {
        items = rest.items;
        ascending = rest.ascending;
        each = rest.each;
        has = λ key there differ. by_test (same_key held.key key)
            (λ s. absurd (differ (subst (λ k. machine_at k before ≡ machine_at k after) (same_keys held.key key s) (same_machine_is (machine_at held.key before) (machine_at held.key after) e))))
            (λ s. rest.has key (without_first (same_key held.key key) (has_key key records) s there) differ);
        keeps = rest.keeps;
      }
      by rest false e =
          let is : Is (item_at held.key) = record {
            was = refl;
            is = refl;
            differ = λ (same : machine_at held.key before ≡ machine_at held.key after). false≢true (sym e ∙ same_machine_itself (machine_at held.key before) (machine_at held.key after) same);
            cause = refl;
          } in
          let more = join (item_at held.key) is rest.items rest.ascending rest.each in
          record {
            items = more.joined;
            ascending = more.ascending;
            each = more.each;
            has = λ key there differ. by_test (same_key held.key key)
                (λ s. more.has key (left_true (same_key held.key key) (has_transition key rest.items) s))
                (λ s. more.has key (right_true (same_key held.key key) (has_transition key rest.items) (rest.has key (without_first (same_key held.key key) (has_key key records) s there) differ)));
            keeps = λ key reported. more.has key (right_true (same_key held.key key) (has_transition key rest.items) (rest.keeps key reported));
          }

  there : (items : Items) × AreTransitions port start events before after items
  unfolding IsStrictlySortedBy
  there =
      let first = tell before [] tt tt in
      let all = tell after first.items first.ascending first.each in (
        all.items,
        record {
          ascending = all.ascending;
          each = all.each;
          all = λ key differ. by_test (has_key key before)
              (λ h. all.keeps key (first.has key h differ))
              (λ h. by_test (has_key key after) (λ g. all.has key g differ) (λ g. absurd (differ (absent key before h ∙ sym (absent key after g)))));
        },
      )

pub are_there : TransitionsAreThere
are_there port start events before after = there port start events before after
