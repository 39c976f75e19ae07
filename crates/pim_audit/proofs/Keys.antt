-- Due entries by their keys are the due entries in order.
use Rattle.std.proofs.Common.{◌≡◌, ◌∙◌, ℕ, Bool, true, false, ◌||◌, not, cond, List, [], ◌∷◌, Option, None, Some}
use Rattle.std.proofs.Common.{refl, sym, ap, ap₂, subst}
use Rattle.std.proofs.lemmas.Bool.{false≢true}
use Rattle.std.specs.BTreeMap.{is_at, insert_entry}
use Rattle.std.specs.Cmp.{Equal-is, IsTotalOrder}
use Rattle.std.specs.List.{AllByRecursion, filter, find}
unfoldable use Rattle.std.specs.List.Sorted.{IsStrictlySortedBy}
use Rattle.std.specs.Map.{lookup, keys_of, remove_entry, set_value, values_of}
use Rattle.std.specs.Option.{option_map}
use Rattle.std.specs.Ordering.{is_eq, match_ordering, ordering_reverse}
use Rattle.std.specs.declared.cmp.Ordering.{Ordering}
use Rattle.std.specs.declared.cmp.Ordering.TheVariants.{Less, Equal, Greater}
use Rattle.pim_down.specs.Hearing.{Event}
use Rattle.pim_down.specs.Seen.{event_seen}
use Rattle.pim_down.specs.declared.machines.event.Event.{Event as EventOf}
use Rattle.pim_audit.specs.Dued.{without, with_due_entry, reported_if, with_reported}
use Rattle.pim_audit.specs.Gathering.{is_entry_of}
use Rattle.pim_audit.specs.Keyed.{key_of, AreKeyed}
use Rattle.pim_audit.specs.Look.{DueEntry, becomes_late, held_entries}
use Rattle.pim_audit.specs.Order.{EntriesAscend, same_entry, entry_cmp}
use Rattle.pim_audit.specs.Seen.{due_seen, dues_seen}
use Rattle.pim_audit.specs.Waiting.{NoneIsLate, reported}
use Rattle.pim_audit.specs.declared.due.Due.{Due}
use Rattle.pim_audit.specs.declared.entry_key.EntryKey.{EntryKey}
use Rattle.pim_audit.proofs.EntryOrder.{all_after_equal, entry_total, turned}
use Rattle.pim_audit.proofs.Waits.{found_alike}

-- ---- lists of due entries

turned_same : (o : Ordering) → is_eq (ordering_reverse o) ≡ is_eq o
turned_same Less = refl
turned_same Equal = refl
turned_same Greater = refl

-- two entries are the same either way
pub same_turned : (a b : Event) → same_entry a b ≡ same_entry b a
same_turned a b = ap is_eq (entry_total.antisymm a b) ∙ turned_same (entry_cmp b a)

-- no entry after one is the same
abbrev pub AllAfter : Event → List DueEntry → Type 0
AllAfter this held = AllByRecursion (λ (e : Event). entry_cmp this e ≡ Less) (held_entries held)

pub without_none : (this : Event) (held : List DueEntry) → AllAfter this held → without this held ≡ held
without_none this [] after = refl
without_none this (h ∷ held) after =
    ap₂ (λ o (l : List DueEntry). cond (not (is_eq o)) (h ∷ l) l) after.0 (without_none this held after.1)

pub reported_none : (this : Event) (held : List DueEntry) → AllAfter this held → with_reported this held ≡ held
reported_none this [] after = refl
reported_none this (h ∷ held) after =
    ap₂ (λ o (l : List DueEntry). record { entry = h.entry; since = h.since; is_reported = cond (is_eq o) true h.is_reported } ∷ l)
    after.0 (reported_none this held after.1)

module _ {A : Type 0} (bytes_of : A → List ℕ) (cmp : EntryKey A → EntryKey A → Ordering)
    (tie : (a b : EventOf A) → cmp (key_of bytes_of a) (key_of bytes_of b)
    ≡ entry_cmp (event_seen bytes_of a) (event_seen bytes_of b)) where
  -- the due entries that contracts see
  abbrev pub seen : List (EntryKey A × Due A) → List DueEntry
  seen es = dues_seen bytes_of (values_of es)

  at_key : (this : EventOf A) (e : EntryKey A × Due A) → e.0 ≡ key_of bytes_of e.1.entry
      → cmp (key_of bytes_of this) e.0 ≡ entry_cmp (event_seen bytes_of this) (event_seen bytes_of e.1.entry)
  at_key this e keyed = ap (cmp (key_of bytes_of this)) keyed ∙ tie this e.1.entry

  at_keys : (d e : EntryKey A × Due A) → d.0 ≡ key_of bytes_of d.1.entry → e.0 ≡ key_of bytes_of e.1.entry
      → cmp d.0 e.0 ≡ entry_cmp (event_seen bytes_of d.1.entry) (event_seen bytes_of e.1.entry)
  at_keys d e keyed keyed' = ap (λ k. cmp k e.0) keyed ∙ at_key d.1.entry e keyed'

  after_seen : (d : EntryKey A × Due A) (es : List (EntryKey A × Due A)) → d.0 ≡ key_of bytes_of d.1.entry → AreKeyed bytes_of es
      → AllByRecursion (λ k. cmp d.0 k ≡ Less) (keys_of es) → AllAfter (event_seen bytes_of d.1.entry) (seen es)
  after_seen d [] keyed are after = tt
  after_seen d (e ∷ es) keyed are after = (sym (at_keys d e keyed are.0) ∙ after.0, after_seen d es keyed are.1 after.1)

  -- the entries are in order
  pub ascend_seen : (es : List (EntryKey A × Due A)) → IsStrictlySortedBy cmp (keys_of es) → AreKeyed bytes_of es
      → EntriesAscend (held_entries (seen es))
  unfolding IsStrictlySortedBy
  ascend_seen [] up are = tt
  ascend_seen (e ∷ es) up are = (after_seen e es are.0 are.1 up.0, ascend_seen es up.1 are.1)

  -- a look-up by key finds the entry
  pub find_seen : (this : EventOf A) (es : List (EntryKey A × Due A)) → AreKeyed bytes_of es
      → find (λ held. same_entry held.entry (event_seen bytes_of this)) (seen es)
      ≡ option_map (due_seen bytes_of) (lookup (is_at (cmp (key_of bytes_of this))) es)
  find_seen this [] are = refl
  find_seen this (e ∷ es) are =
      ap₂ (λ b (o : Option DueEntry). cond b (Some (due_seen bytes_of e.1)) o)
      (same_turned (event_seen bytes_of e.1.entry) (event_seen bytes_of this) ∙ sym (ap is_eq (at_key this e are.0)))
      (find_seen this es are.1)
      ∙ by (is_at (cmp (key_of bytes_of this)) e.0)
    where
      by : (b : Bool) → cond b (Some (due_seen bytes_of e.1)) (option_map (due_seen bytes_of)
          (lookup (is_at (cmp (key_of bytes_of this))) es))
          ≡ option_map (due_seen bytes_of) (cond b (Some e.1) (lookup (is_at (cmp (key_of bytes_of this))) es))
      by true = refl
      by false = refl

  -- an entry that isn't held isn't found
  pub none_found : (this : EventOf A) (es : List (EntryKey A × Due A)) → AreKeyed bytes_of es
      → is_entry_of (held_entries (seen es)) (event_seen bytes_of this) ≡ false → lookup (is_at (cmp (key_of bytes_of this))) es ≡ None
  none_found this [] are apart = refl
  none_found this (e ∷ es) are apart =
      ap (λ b. cond b (Some e.1) (lookup (is_at (cmp (key_of bytes_of this))) es)) (ap is_eq (at_key this e are.0))
      ∙ elim (same_entry (event_seen bytes_of this) (event_seen bytes_of e.1.entry))
      as (λ b. (b || is_entry_of (held_entries (seen es)) (event_seen bytes_of this)) ≡ false
      → cond b (Some e.1) (lookup (is_at (cmp (key_of bytes_of this))) es) ≡ None) [
        | true ↦ λ h. absurd (false≢true (sym h))
        | false ↦ λ h. none_found this es are.1 h
      ] apart

  -- ---- removed

  pub removed_keyed : (test : EntryKey A → Bool) (es : List (EntryKey A × Due A)) → AreKeyed bytes_of es
      → AreKeyed bytes_of (remove_entry test es)
  removed_keyed test [] are = tt
  removed_keyed test (e ∷ es) are =
      elim (test e.0) as (λ b. AreKeyed bytes_of (cond b es (e ∷ remove_entry test es))) [
        | true ↦ are.1
        | false ↦ (are.0, removed_keyed test es are.1)
      ]

  pub removed_seen : (this : EventOf A) (es : List (EntryKey A × Due A)) → IsStrictlySortedBy cmp (keys_of es) → AreKeyed bytes_of es
      → seen (remove_entry (is_at (cmp (key_of bytes_of this))) es) ≡ without (event_seen bytes_of this) (seen es)
  unfolding IsStrictlySortedBy
  removed_seen this [] up are = refl
  removed_seen this (e ∷ es) up are =
      ap (λ b. seen (cond b es (e ∷ remove_entry (is_at (cmp (key_of bytes_of this))) es))) (ap is_eq (at_key this e are.0))
      ∙ elim (entry_cmp (event_seen bytes_of this) (event_seen bytes_of e.1.entry))
      as (λ o. entry_cmp (event_seen bytes_of this) (event_seen bytes_of e.1.entry) ≡ o
      → seen (cond (is_eq o) es (e ∷ remove_entry (is_at (cmp (key_of bytes_of this))) es))
      ≡ cond (not (is_eq o)) (due_seen bytes_of e.1 ∷ without (event_seen bytes_of this) (seen es))
      (without (event_seen bytes_of this) (seen es))) [
        | Less ↦ λ is. ap (λ (l : List DueEntry). due_seen bytes_of e.1 ∷ l) (removed_seen this es up.1 are.1)
        | Equal ↦ λ is. sym (without_none (event_seen bytes_of this) (seen es)
            (all_after_equal (event_seen bytes_of e.1.entry) (event_seen bytes_of this) (held_entries (seen es))
            (turned (event_seen bytes_of this) (event_seen bytes_of e.1.entry) Equal is) (after_seen e es are.0 are.1 up.0)))
        | Greater ↦ λ is. ap (λ (l : List DueEntry). due_seen bytes_of e.1 ∷ l) (removed_seen this es up.1 are.1)
      ] refl

  -- ---- added

  pub added_keyed : (due : Due A) (es : List (EntryKey A × Due A)) → lookup (is_at (cmp (key_of bytes_of due.entry))) es ≡ None
      → AreKeyed bytes_of es → AreKeyed bytes_of (insert_entry cmp es (key_of bytes_of due.entry) due)
  added_keyed due [] absent are = (refl, tt)
  added_keyed due (e ∷ es) absent are =
      elim (cmp (key_of bytes_of due.entry) e.0)
      as (λ o. cond (is_eq o) (Some e.1) (lookup (is_at (cmp (key_of bytes_of due.entry))) es) ≡ None
      → AreKeyed bytes_of (match_ordering o ((key_of bytes_of due.entry, due) ∷ e ∷ es) ((e.0, due) ∷ es)
      (e ∷ insert_entry cmp es (key_of bytes_of due.entry) due))) [
        | Less ↦ λ none. (refl, are)
        | Equal ↦ λ none. absurd (some_none none)
        | Greater ↦ λ none. (are.0, added_keyed due es none are.1)
      ] absent
    where
      some_none : {d : Due A} → Some d ≡ None → ⊥
      some_none h = cc

  pub added_seen : (due : Due A) (es : List (EntryKey A × Due A)) → AreKeyed bytes_of es
      → seen (insert_entry cmp es (key_of bytes_of due.entry) due) ≡ with_due_entry (due_seen bytes_of due) (seen es)
  added_seen due [] are = refl
  added_seen due (e ∷ es) are =
      ap (λ o. seen (match_ordering o ((key_of bytes_of due.entry, due) ∷ e ∷ es) ((e.0, due) ∷ es)
      (e ∷ insert_entry cmp es (key_of bytes_of due.entry) due))) (at_key due.entry e are.0)
      ∙ elim (entry_cmp (event_seen bytes_of due.entry) (event_seen bytes_of e.1.entry))
      as (λ o. seen (match_ordering o ((key_of bytes_of due.entry, due) ∷ e ∷ es) ((e.0, due) ∷ es)
      (e ∷ insert_entry cmp es (key_of bytes_of due.entry) due))
      ≡ match_ordering o (due_seen bytes_of due ∷ due_seen bytes_of e.1 ∷ seen es) (due_seen bytes_of due ∷ seen es)
      (due_seen bytes_of e.1 ∷ with_due_entry (due_seen bytes_of due) (seen es))) [
        | Less ↦ refl
        | Equal ↦ refl
        | Greater ↦ ap (λ (l : List DueEntry). due_seen bytes_of e.1 ∷ l) (added_seen due es are.1)
      ]

  -- ---- reported

  one_held : (d : Due A) (held : Due A) → Some d ≡ Some held → d ≡ held
  one_held d held is = cc

  -- the key that finds an entry is the entry's
  own_key : (test : EntryKey A → Bool) (held : Due A) (es : List (EntryKey A × Due A)) → AreKeyed bytes_of es → lookup test es ≡ Some held
      → test (key_of bytes_of held.entry) ≡ true
  own_key test held [] are found = cc
  own_key test held (e ∷ es) are found =
      elim (test e.0) as (λ b. test e.0 ≡ b → cond b (Some e.1) (lookup test es) ≡ Some held → test (key_of bytes_of held.entry) ≡ true) [
        | true ↦ λ passes is. ap test (ap (λ (d : Due A). key_of bytes_of d.entry) (sym (one_held e.1 held is)) ∙ sym are.0) ∙ passes
        | false ↦ λ fails is. own_key test held es are.1 is
      ] refl found

  module _ (test : EntryKey A → Bool) (held : Due A)
      (tests : (e : EventOf A) → test (key_of bytes_of e) ≡ same_entry (event_seen bytes_of held.entry) (event_seen bytes_of e)) where
    pub reported_keyed : (es : List (EntryKey A × Due A)) → AreKeyed bytes_of es → lookup test es ≡ Some held
        → AreKeyed bytes_of (set_value test es (reported held))
    reported_keyed [] are found = tt
    reported_keyed (e ∷ es) are found =
        elim (test e.0) as (λ b. cond b (Some e.1) (lookup test es) ≡ Some held
        → AreKeyed bytes_of (cond b ((e.0, reported held) ∷ es) (e ∷ set_value test es (reported held)))) [
          | true ↦ λ is. (are.0 ∙ ap (λ (d : Due A). key_of bytes_of d.entry) (one_held e.1 held is), are.1)
          | false ↦ λ is. (are.0, reported_keyed es are.1 is)
        ] found

    pub reported_seen : (es : List (EntryKey A × Due A)) → IsStrictlySortedBy cmp (keys_of es) → AreKeyed bytes_of es
        → lookup test es ≡ Some held
        → seen (set_value test es (reported held)) ≡ with_reported (event_seen bytes_of held.entry) (seen es)
    unfolding IsStrictlySortedBy
    reported_seen [] up are found = refl
    reported_seen (e ∷ es) up are found =
        elim (test e.0) as (λ b. test e.0 ≡ b → cond b (Some e.1) (lookup test es) ≡ Some held
        → seen (cond b ((e.0, reported held) ∷ es) (e ∷ set_value test es (reported held)))
        ≡ reported_if (event_seen bytes_of held.entry) (due_seen bytes_of e.1) ∷ with_reported (event_seen bytes_of held.entry) (seen es)) [
          | true ↦ λ passes is.
              let one : e.1 ≡ held = one_held e.1 held is in
              ap₂ (λ (d : DueEntry) (l : List DueEntry). d ∷ l)
              (ap (λ (d : Due A). due_seen bytes_of (reported d)) (sym one)
              ∙ ap (λ b. record { entry = event_seen bytes_of e.1.entry; since = e.1.since; is_reported = cond b true e.1.is_reported })
              (sym passes ∙ ap test are.0 ∙ tests e.1.entry))
              (sym (reported_none (event_seen bytes_of held.entry) (seen es)
              (subst (λ (d : Due A). AllAfter (event_seen bytes_of d.entry) (seen es)) one (after_seen e es are.0 are.1 up.0))))
          | false ↦ λ fails is.
              ap₂ (λ (d : DueEntry) (l : List DueEntry). d ∷ l)
              (ap (λ b. record { entry = event_seen bytes_of e.1.entry; since = e.1.since; is_reported = cond b true e.1.is_reported })
              (sym fails ∙ ap test are.0 ∙ tests e.1.entry))
              (reported_seen es up.1 are.1 is)
        ] refl found

  module _ (total : IsTotalOrder cmp) (key : EntryKey A) (held : Due A) (es : List (EntryKey A × Due A)) (are : AreKeyed bytes_of es)
      (found : lookup (is_at (cmp key)) es ≡ Some held) where
    key_is_own : is_at (cmp key) (key_of bytes_of held.entry) ≡ true
    key_is_own = own_key (is_at (cmp key)) held es are found

    pub key_tests : (e : EventOf A) → is_at (cmp key) (key_of bytes_of e)
        ≡ same_entry (event_seen bytes_of held.entry) (event_seen bytes_of e)
    key_tests e = ap is_eq (total.congr key (key_of bytes_of held.entry) (key_of bytes_of e)
        ((Equal-is (cmp key (key_of bytes_of held.entry))).0 key_is_own) ∙ tie held.entry e)

    -- the entry is found among those that contracts see
    pub held_seen : find (λ other. same_entry other.entry (event_seen bytes_of held.entry)) (seen es) ≡ Some (due_seen bytes_of held)
    held_seen = find_seen held.entry es are
        ∙ ap (option_map (due_seen bytes_of)) (found_alike cmp total key (key_of bytes_of held.entry) key_is_own es ∙ found)

  -- ---- late

  pub none_late_seen : (moment grace : ℕ) (es : List (EntryKey A × Due A)) → NoneIsLate moment grace es
      → filter (becomes_late moment grace) (seen es) ≡ []
  none_late_seen moment grace [] none = refl
  none_late_seen moment grace (e ∷ es) none =
      ap₂ (λ b (l : List DueEntry). cond b (due_seen bytes_of e.1 ∷ l) l) none.0 (none_late_seen moment grace es none.1)

  -- ---- a part by keys

  pub filter_seen : (p : EntryKey A → Bool) (q : DueEntry → Bool)
      → ((d : Due A) → p (key_of bytes_of d.entry) ≡ q (due_seen bytes_of d)) → (es : List (EntryKey A × Due A)) → AreKeyed bytes_of es
      → seen (filter (λ (e : EntryKey A × Due A). p e.0) es) ≡ filter q (seen es)
  filter_seen p q alike [] are = refl
  filter_seen p q alike (e ∷ es) are =
      ap (λ b. seen (cond b (e ∷ filter (λ (e' : EntryKey A × Due A). p e'.0) es) (filter (λ (e' : EntryKey A × Due A). p e'.0) es)))
      (ap p are.0 ∙ alike e.1)
      ∙ elim (q (due_seen bytes_of e.1)) as (λ b. seen (cond b (e ∷ filter (λ (e' : EntryKey A × Due A). p e'.0) es)
      (filter (λ (e' : EntryKey A × Due A). p e'.0) es)) ≡ cond b (due_seen bytes_of e.1 ∷ filter q (seen es)) (filter q (seen es))) [
        | true ↦ ap (λ (l : List DueEntry). due_seen bytes_of e.1 ∷ l) (filter_seen p q alike es are.1)
        | false ↦ filter_seen p q alike es are.1
      ]
