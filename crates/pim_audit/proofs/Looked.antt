-- A look finds what its changes and its walks give.
use Rattle.pim_audit.proofs.Words.{◌≡◌, ◌∙◌, ℕ, Bool, true, false, ◌&&◌, ◌||◌, not, cond, List, [], ◌∷◌, None, Some}
use Rattle.pim_audit.proofs.Words.{map, refl, sym, ap, ap₂, subst, false≢true, AllByRecursion, filter, find, list_any}
use Rattle.pim_audit.proofs.Words.{Event, DueEntry, held_entries, becomes_late, marked, due_at, ends_reported, is_newly_due, or_new}
use Rattle.pim_audit.proofs.Words.{EntriesAscend, same_entry, entry_cmp}
use Rattle.pim_audit.proofs.Changing.{are_changed, each_found, each_held, each_kept}
use Rattle.pim_audit.proofs.Changing.{each_with_all, each_without_all, filter_again, held_without_all}
use Rattle.pim_audit.proofs.Changing.{is_held}
use Rattle.pim_audit.proofs.Keys.{same_turned}
use Rattle.pim_audit.proofs.Lateness.{held_marked, one_of_entries}
use Rattle.pim_audit.proofs.SameEntry.{all_if_listed, same_is}
use Rattle.std.proofs.lemmas.List.Kept.{IsStrictlySortedBy-filter}
use Rattle.pim_audit.specs.Changes.{AreChanged, AreChanges}
use Rattle.pim_audit.specs.Dued.{new_due, without_all, with_all}
use Rattle.pim_audit.specs.Gathering.{is_entry_of}
use Rattle.pim_audit.specs.Look.{LookFinds}

-- ---- entries that aren't held

-- the test of a look is the test of what is held
held_by : (this : Event) (held : List DueEntry) → list_any (λ (h : DueEntry). same_entry h.entry this) held ≡ is_held held this
held_by this [] = refl
held_by this (h ∷ held) = ap₂ (λ a b. a || b) (same_turned h.entry this) (held_by this held)

none_found : (this : Event) (held : List DueEntry) → is_held held this ≡ false → find (λ other. same_entry other.entry this) held ≡ None
none_found this [] apart = refl
none_found this (h ∷ held) apart =
    elim (same_entry this h.entry) as (λ b. same_entry this h.entry ≡ b → (b || is_held held this) ≡ false
    → cond (same_entry h.entry this) (Some h) (find (λ other. same_entry other.entry this) held) ≡ None) [
      | true ↦ λ same is. absurd (false≢true (sym is))
      | false ↦ λ off is. ap (λ b. cond b (Some h) (find (λ other. same_entry other.entry this) held)) (same_turned h.entry this ∙ off)
          ∙ none_found this held is
    ] refl apart

-- the new entries aren't among those that are held without the gone ones
pub fresh_of : (old gone : List DueEntry) (new : List Event) → AreChanges old new gone
    → AllByRecursion (λ (e : Event). is_held (without_all gone old) e ≡ false) new
fresh_of old gone new changes = all_if_listed (λ (e : Event). is_held (without_all gone old) e ≡ false) new
    (λ this listed. held_without_all gone this old ∙ ap (λ b. b && not (is_held gone this)) (changes.fresh this listed))

-- ---- how each entry is due

module _ (old gone : List DueEntry) (new : List Event) (moment grace : ℕ) (changes : AreChanges old new gone)
    (up_old : EntriesAscend (held_entries old)) (up_new : EntriesAscend new)
    (up_now : EntriesAscend (held_entries (with_all moment new (without_all gone old)))) where
  now : List DueEntry
  now = with_all moment new (without_all gone old)

  abbrev AsDue : DueEntry → Type 0
  AsDue h = h ≡ due_at old moment h.entry

  as_found : (held : List DueEntry) → AllByRecursion (λ (h : DueEntry). find (λ other. same_entry other.entry h.entry) old ≡ Some h) held
      → AllByRecursion AsDue held
  as_found [] found = tt
  as_found (h ∷ held) found = (sym (ap (or_new moment h.entry) found.0), as_found held found.1)

  as_new : (entries : List Event) → AllByRecursion (λ (e : Event). is_held old e ≡ false) entries
      → AllByRecursion (λ (e : Event). AsDue (new_due moment e)) entries
  as_new [] fresh = tt
  as_new (e ∷ entries) fresh = (sym (ap (or_new moment e) (none_found e old fresh.0)), as_new entries fresh.1)

  all_as_due : AllByRecursion AsDue (with_all moment new (without_all gone old))
  all_as_due = each_with_all AsDue moment new (without_all gone old)
      (as_new new (all_if_listed (λ (e : Event). is_held old e ≡ false) new changes.fresh))
      (each_without_all AsDue gone old (as_found old (each_found old up_old)))

  due_again : (held : List DueEntry) → AllByRecursion AsDue held → held ≡ map (due_at old moment) (held_entries held)
  due_again [] all = refl
  due_again (h ∷ held) all = ap₂ (λ (d : DueEntry) (ds : List DueEntry). d ∷ ds) all.0 (due_again held all.1)

  pub now_due : with_all moment new (without_all gone old)
      ≡ map (due_at old moment) (held_entries (with_all moment new (without_all gone old)))
  now_due = due_again (with_all moment new (without_all gone old)) all_as_due

  abbrev entries : List Event
  entries = held_entries (with_all moment new (without_all gone old))

  -- ---- the new ones

  pass_test : (q s i t : Bool) → (s ≡ true → t ≡ q) → cond q (s || (i && t)) (i && t) ≡ ((s || i) && t)
  pass_test true true i t same = sym (same refl)
  pass_test true false i t same = refl
  pass_test false true true t same = refl
  pass_test false true false t same = sym (same refl)
  pass_test false false i t same = refl

  passing : (p : Event → Bool) (this : Event) (es : List Event) → is_entry_of (filter p es) this ≡ (is_entry_of es this && p this)
  passing p this [] = refl
  passing p this (e ∷ es) =
      first (p e) ∙ ap (λ i. cond (p e) (same_entry this e || i) i) (passing p this es)
      ∙ pass_test (p e) (same_entry this e) (is_entry_of es this) (p this) (λ same. ap p (same_is this e same))
    where
      first : (b : Bool) → is_entry_of (cond b (e ∷ filter p es) (filter p es)) this
          ≡ cond b (same_entry this e || is_entry_of (filter p es) this) (is_entry_of (filter p es) this)
      first true = refl
      first false = refl

  new_test : (n o g : Bool) → (n ≡ true → o ≡ false) → n ≡ ((n || (o && not g)) && not o)
  new_test true true g fresh = fresh refl
  new_test true false g fresh = refl
  new_test false true true fresh = refl
  new_test false true false fresh = refl
  new_test false false g fresh = refl

  pub now_new : new ≡ filter (is_newly_due old) entries
  now_new = one_of_entries new (filter (is_newly_due old) entries) up_new
      (IsStrictlySortedBy-filter entry_cmp (is_newly_due old) entries up_now)
      (λ this. new_test (is_entry_of new this) (is_held old this) (is_held gone this) (changes.fresh this)
      ∙ ap₂ (λ a b. a && not b) (sym (are_changed old gone moment new this)) (sym (held_by this old))
      ∙ sym (passing (is_newly_due old) this entries))

  -- ---- the ended ones

  ended_test : (l r n o g : Bool) → n ≡ false → o ≡ true → g ≡ l → (l && r) ≡ (r && not (n || (o && not g)))
  ended_test l r n o g none here is =
      by l r ∙ sym (ap (λ x. r && not (x || (o && not g))) none ∙ ap (λ x. r && not (x && not g)) here ∙ ap (λ x. r && not (not x)) is)
    where
      by : (l r : Bool) → (l && r) ≡ (r && not (not l))
      by true true = refl
      by true false = refl
      by false true = refl
      by false false = refl

  each_ended : (held : List DueEntry) → AllByRecursion (λ (h : DueEntry). is_held old h.entry ≡ true) held
      → AllByRecursion (λ (h : DueEntry). is_held gone h.entry ≡ changes.leaves h) held
      → AllByRecursion (λ (h : DueEntry). (changes.leaves h && h.is_reported) ≡ ends_reported entries h) held
  each_ended [] here left = tt
  each_ended (h ∷ held) here left = (
    ended_test (changes.leaves h) h.is_reported (is_entry_of new h.entry) (is_held old h.entry) (is_held gone h.entry)
        (not_new (is_entry_of new h.entry) refl here.0) here.0 left.0
        ∙ ap (λ b. h.is_reported && not b) (sym (are_changed old gone moment new h.entry)),
    each_ended held here.1 left.1,
  )
    where
      not_new : (b : Bool) → is_entry_of new h.entry ≡ b → is_held old h.entry ≡ true → b ≡ false
      not_new true listed held' = absurd (false≢true (sym (changes.fresh h.entry listed) ∙ held'))
      not_new false listed held' = refl

  pub now_ended : filter (λ (h : DueEntry). h.is_reported) gone ≡ filter (ends_reported entries) old
  now_ended = ap (filter (λ (h : DueEntry). h.is_reported)) changes.gone_are
      ∙ filter_again changes.leaves (λ (h : DueEntry). h.is_reported) (ends_reported entries) old
      (each_ended old (each_held old)
      (subst (λ (l : List DueEntry). AllByRecursion (λ (h : DueEntry). is_held l h.entry ≡ changes.leaves h) old)
      (sym changes.gone_are) (each_kept changes.leaves old up_old)))

  -- ---- all of it

  pub looked : (due ended late : List DueEntry) → due ≡ map (marked moment grace) (with_all moment new (without_all gone old))
      → ended ≡ filter (λ (h : DueEntry). h.is_reported) gone
      → late ≡ filter (becomes_late moment grace) (with_all moment new (without_all gone old))
      → LookFinds old (held_entries due) moment grace (record { due = due; new = new; ended = ended; late = late })
  looked due ended late is_due is_ended is_late =
      let same : held_entries due ≡ entries =
      ap held_entries is_due ∙ held_marked moment grace (with_all moment new (without_all gone old)) in
      record {
        due = is_due ∙ ap (map (marked moment grace)) (now_due ∙ ap (map (due_at old moment)) (sym same));
        new = now_new ∙ ap (filter (is_newly_due old)) (sym same);
        ended = is_ended ∙ now_ended ∙ ap (λ (es : List Event). filter (ends_reported es) old) (sym same);
        late = is_late ∙ ap (filter (becomes_late moment grace)) (now_due ∙ ap (map (due_at old moment)) (sym same));
      }

  pub changed : (due : List DueEntry) → due ≡ map (marked moment grace) (with_all moment new (without_all gone old))
      → AreChanged old new gone (held_entries due)
  changed due is_due this = ap (λ (es : List Event). is_entry_of es this)
      (ap held_entries is_due ∙ held_marked moment grace (with_all moment new (without_all gone old)))
      ∙ are_changed old gone moment new this
