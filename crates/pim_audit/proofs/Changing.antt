-- What a look holds: what it held, without what is gone and with what is new.
use Rattle.pim_audit.proofs.Words.{◌≡◌, ◌∙◌, ℕ, Bool, true, false, ◌&&◌, ◌||◌, not, cond, List, [], ◌∷◌, Some, map}
use Rattle.pim_audit.proofs.Words.{refl, sym, ap, ap₂, subst, false≢true, AllByRecursion}
use Rattle.pim_audit.proofs.Words.{filter, find, is_eq, Less, Equal, Greater}
use Rattle.pim_audit.proofs.Words.{IsStrictlySortedBy, Event, DueEntry, held_entries}
use Rattle.pim_audit.proofs.Words.{EntriesAscend, entry_cmp, same_entry, ◌+◌, ◌<◌, drop, drop_more, event_seen, get_or, length}
use Rattle.pim_audit.proofs.Keys.{AllAfter, same_turned}
use Rattle.pim_audit.proofs.SameEntry.{same_is, same_itself}
use Rattle.std.specs.Ordering.{match_ordering}
use Rattle.pim_audit.specs.Changes.{AreChanged}
use Rattle.pim_audit.specs.Dued.{new_due, with_due_entry, without}
unfoldable use Rattle.pim_audit.specs.Dued.{with_all, without_all}
use Rattle.pim_audit.specs.Gathering.{is_entry_of}
use Rattle.pim_down.specs.declared.machines.event.Event.{Event as EventOf}

-- this entry is held
abbrev pub is_held : List DueEntry → Event → Bool
is_held held this = is_entry_of (held_entries held) this

-- ---- which entries are held

-- an entry that is the same as one that is the same as a third
same_as : (this a b : Event) → same_entry a b ≡ true → same_entry this a ≡ same_entry this b
same_as this a b same = ap (same_entry this) (same_is a b same)

-- `t`: an entry is the gone one; `h`: it is this held one; `b`: this held one is the gone one
without_test : (t h b r : Bool) → (b ≡ true → h ≡ t) → (b ≡ false → h ≡ true → t ≡ false)
    → cond (not b) (h || (r && not t)) (r && not t) ≡ ((h || r) && not t)
without_test true true true r same apart = by r
  where
    by : (r : Bool) → (r && false) ≡ false
    by true = refl
    by false = refl
without_test true false true r same apart = absurd (false≢true (same refl))
without_test false true true r same apart = absurd (false≢true (sym (same refl)))
without_test false false true r same apart = refl
without_test true true false r same apart = absurd (false≢true (sym (apart refl refl)))
without_test true false false r same apart = refl
without_test false true false r same apart = refl
without_test false false false r same apart = refl

pub held_without : (gone this : Event) (held : List DueEntry)
    → is_held (without gone held) this ≡ (is_held held this && not (same_entry this gone))
held_without gone this [] = refl
held_without gone this (h ∷ held) =
    list_cond (same_entry gone h.entry)
    ∙ ap (λ r. cond (not (same_entry gone h.entry)) (same_entry this h.entry || r) r) (held_without gone this held)
    ∙ without_test (same_entry this gone) (same_entry this h.entry) (same_entry gone h.entry) (is_held held this)
    (λ same. sym (same_as this gone h.entry same))
    (λ apart same. sym (ap (λ (e : Event). same_entry e gone) (sym (same_is this h.entry same))) ∙ same_turned h.entry gone ∙ apart)
  where
    list_cond : (b : Bool) → is_held (cond (not b) (h ∷ without gone held) (without gone held)) this
        ≡ cond (not b) (same_entry this h.entry || is_held (without gone held) this) (is_held (without gone held) this)
    list_cond true = refl
    list_cond false = refl

without_both : (a t r : Bool) → ((a && not t) && not r) ≡ (a && not (t || r))
without_both true true r = refl
without_both true false r = refl
without_both false t r = refl

pub held_without_all : (gone : List DueEntry) (this : Event) (held : List DueEntry)
    → is_held (without_all gone held) this ≡ (is_held held this && not (is_held gone this))
unfolding without_all
held_without_all [] this held = by (is_held held this)
  where
    by : (b : Bool) → b ≡ (b && not false)
    by true = refl
    by false = refl
held_without_all (g ∷ gone) this held =
    held_without_all gone this (without g.entry held)
    ∙ ap (λ b. b && not (is_held gone this)) (held_without g.entry this held)
    ∙ without_both (is_held held this) (same_entry this g.entry) (is_held gone this)

or_turned : (a b r : Bool) → (a || (b || r)) ≡ (b || (a || r))
or_turned true true r = refl
or_turned true false r = refl
or_turned false true r = refl
or_turned false false r = refl

or_twice : (a b r : Bool) → b ≡ a → (a || r) ≡ (a || (b || r))
or_twice true b r same = refl
or_twice false true r same = absurd (false≢true (sym same))
or_twice false false r same = refl

pub held_with : (due : DueEntry) (this : Event) (held : List DueEntry)
    → is_held (with_due_entry due held) this ≡ (same_entry this due.entry || is_held held this)
held_with due this [] = refl
held_with due this (h ∷ held) =
    elim (entry_cmp due.entry h.entry) as (λ o. entry_cmp due.entry h.entry ≡ o
    → is_held (match_ordering o (due ∷ h ∷ held) (due ∷ held) (h ∷ with_due_entry due held)) this
    ≡ (same_entry this due.entry || (same_entry this h.entry || is_held held this))) [
      | Less ↦ λ is. refl
      | Equal ↦ λ is. or_twice (same_entry this due.entry) (same_entry this h.entry) (is_held held this)
          (sym (same_as this due.entry h.entry (ap is_eq is)))
      | Greater ↦ λ is. ap (λ r. same_entry this h.entry || r) (held_with due this held)
          ∙ or_turned (same_entry this h.entry) (same_entry this due.entry) (is_held held this)
    ] refl

or_first : (a b r : Bool) → (b || (a || r)) ≡ ((a || b) || r)
or_first true true r = refl
or_first true false r = refl
or_first false true r = refl
or_first false false r = refl

pub held_with_all : (moment : ℕ) (new : List Event) (this : Event) (held : List DueEntry)
    → is_held (with_all moment new held) this ≡ (is_entry_of new this || is_held held this)
unfolding with_all
held_with_all moment [] this held = refl
held_with_all moment (e ∷ new) this held =
    held_with_all moment new this (with_due_entry (new_due moment e) held)
    ∙ ap (λ b. is_entry_of new this || b) (held_with (new_due moment e) this held)
    ∙ or_first (same_entry this e) (is_entry_of new this) (is_held held this)

-- the entries after all changes
pub are_changed : (old gone : List DueEntry) (moment : ℕ) (new : List Event)
    → AreChanged old new gone (held_entries (with_all moment new (without_all gone old)))
are_changed old gone moment new this =
    held_with_all moment new this (without_all gone old) ∙ ap (λ b. is_entry_of new this || b) (held_without_all gone this old)

-- ---- what is true of each

module _ (P : DueEntry → Type 0) where
  each_without : (gone : Event) (held : List DueEntry) → AllByRecursion P held → AllByRecursion P (without gone held)
  each_without gone [] all = tt
  each_without gone (h ∷ held) all =
      elim (same_entry gone h.entry) as (λ b. AllByRecursion P (cond (not b) (h ∷ without gone held) (without gone held))) [
        | true ↦ each_without gone held all.1
        | false ↦ (all.0, each_without gone held all.1)
      ]

  pub each_without_all : (gone held : List DueEntry) → AllByRecursion P held → AllByRecursion P (without_all gone held)
  unfolding without_all
  each_without_all [] held all = all
  each_without_all (g ∷ gone) held all = each_without_all gone (without g.entry held) (each_without g.entry held all)

  each_with : (due : DueEntry) (held : List DueEntry) → P due → AllByRecursion P held → AllByRecursion P (with_due_entry due held)
  each_with due [] one all = (one, tt)
  each_with due (h ∷ held) one all =
      elim (entry_cmp due.entry h.entry)
      as (λ o. AllByRecursion P (match_ordering o (due ∷ h ∷ held) (due ∷ held) (h ∷ with_due_entry due held))) [
        | Less ↦ (one, all)
        | Equal ↦ (one, all.1)
        | Greater ↦ (all.0, each_with due held one all.1)
      ]

  pub each_with_all : (moment : ℕ) (new : List Event) (held : List DueEntry) → AllByRecursion (λ (e : Event). P (new_due moment e)) new
      → AllByRecursion P held → AllByRecursion P (with_all moment new held)
  unfolding with_all
  each_with_all moment [] held ones all = all
  each_with_all moment (e ∷ new) held ones all =
      each_with_all moment new (with_due_entry (new_due moment e) held) ones.1 (each_with (new_due moment e) held ones.0 all)

-- ---- what is true of each that is held in order

-- a later entry isn't an earlier one
abbrev Apart : DueEntry → List DueEntry → Type 0
Apart x held = AllByRecursion (λ (h : DueEntry). same_entry x.entry h.entry ≡ false) held

pub apart : (x : DueEntry) (held : List DueEntry) → AllAfter x.entry held → Apart x held
apart x [] after = tt
apart x (h ∷ held) after = (ap is_eq after.0, apart x held after.1)

both_each : {P Q R : DueEntry → Type 0} → ((h : DueEntry) → P h → Q h → R h) → (held : List DueEntry) → AllByRecursion P held
    → AllByRecursion Q held
    → AllByRecursion R held
both_each f [] ps qs = tt
both_each f (h ∷ held) ps qs = (f h ps.0 qs.0, both_each f held ps.1 qs.1)

-- each is found
pub each_found : (held : List DueEntry) → EntriesAscend (held_entries held)
    → AllByRecursion (λ (h : DueEntry). find (λ other. same_entry other.entry h.entry) held ≡ Some h) held
unfolding IsStrictlySortedBy
each_found [] up = tt
each_found (x ∷ held) up = (
  ap (λ b. cond b (Some x) (find (λ other. same_entry other.entry x.entry) held)) (same_itself x.entry),
  both_each (λ h off found. ap (λ b. cond b (Some x) (find (λ other. same_entry other.entry h.entry) held)) off ∙ found)
      held (apart x held up.0) (each_found held up.1),
)

-- each is held
pub each_held : (held : List DueEntry) → AllByRecursion (λ (h : DueEntry). is_held held h.entry ≡ true) held
each_held [] = tt
each_held (x ∷ held) =
    (ap (λ b. b || is_held held x.entry) (same_itself x.entry), later held (each_held held))
  where
    later : (hs : List DueEntry) → AllByRecursion (λ (h : DueEntry). is_held held h.entry ≡ true) hs
        → AllByRecursion (λ (h : DueEntry). (same_entry h.entry x.entry || is_held held h.entry) ≡ true) hs
    later [] all = tt
    later (h ∷ hs) all = (or_true (same_entry h.entry x.entry) (is_held held h.entry) all.0, later hs all.1)
      where
        or_true : (a b : Bool) → b ≡ true → (a || b) ≡ true
        or_true true b is = refl
        or_true false b is = is

none_kept : (leaves : DueEntry → Bool) (x : DueEntry) (held : List DueEntry) → Apart x held → is_held (filter leaves held) x.entry ≡ false
none_kept leaves x [] off = refl
none_kept leaves x (h ∷ held) off =
    elim (leaves h) as (λ b. is_held (cond b (h ∷ filter leaves held) (filter leaves held)) x.entry ≡ false) [
      | true ↦ ap (λ b. b || is_held (filter leaves held) x.entry) off.0 ∙ none_kept leaves x held off.1
      | false ↦ none_kept leaves x held off.1
    ]

-- each is among those that pass a test exactly if it passes
pub each_kept : (leaves : DueEntry → Bool) (held : List DueEntry) → EntriesAscend (held_entries held)
    → AllByRecursion (λ (h : DueEntry). is_held (filter leaves held) h.entry ≡ leaves h) held
unfolding IsStrictlySortedBy
each_kept leaves [] up = tt
each_kept leaves (x ∷ held) up = (
  first (leaves x) refl,
  both_each (λ h off kept. later h off (leaves x) ∙ kept) held (apart x held up.0) (each_kept leaves held up.1),
)
  where
    first : (b : Bool) → leaves x ≡ b → is_held (cond (leaves x) (x ∷ filter leaves held) (filter leaves held)) x.entry ≡ leaves x
    first true is = ap (λ b. is_held (cond b (x ∷ filter leaves held) (filter leaves held)) x.entry) is
        ∙ ap (λ b. b || is_held (filter leaves held) x.entry) (same_itself x.entry) ∙ sym is
    first false is = ap (λ b. is_held (cond b (x ∷ filter leaves held) (filter leaves held)) x.entry) is
        ∙ none_kept leaves x held (apart x held up.0) ∙ sym is

    later : (h : DueEntry) → same_entry x.entry h.entry ≡ false → (b : Bool)
        → is_held (cond b (x ∷ filter leaves held) (filter leaves held)) h.entry ≡ is_held (filter leaves held) h.entry
    later h off true = ap (λ b. b || is_held (filter leaves held) h.entry) (same_turned h.entry x.entry ∙ off)
    later h off false = refl

-- a test of those that pass another
pub filter_again : (p q r : DueEntry → Bool) (held : List DueEntry) → AllByRecursion (λ (h : DueEntry). (p h && q h) ≡ r h) held
    → filter q (filter p held) ≡ filter r held
filter_again p q r [] all = refl
filter_again p q r (h ∷ held) all =
    by (p h) ∙ ap₂ (λ b (l : List DueEntry). cond b (h ∷ l) l) all.0 (filter_again p q r held all.1)
  where
    by : (b : Bool) → filter q (cond b (h ∷ filter p held) (filter p held))
        ≡ cond (b && q h) (h ∷ filter q (filter p held)) (filter q (filter p held))
    by true = refl
    by false = refl

-- ---- a walk that adds new entries

later_fresh : (moment : ℕ) (e : Event) (held : List DueEntry) (es : List Event) → AllByRecursion (λ x. entry_cmp e x ≡ Less) es
    → AllByRecursion (λ x. is_held held x ≡ false) es → AllByRecursion (λ x. is_held (with_due_entry (new_due moment e) held) x ≡ false) es
later_fresh moment e held [] after fresh = tt
later_fresh moment e held (x ∷ es) after fresh = (
  held_with (new_due moment e) x held ∙ ap (λ b. b || is_held held x) (same_turned x e ∙ ap is_eq after.0) ∙ fresh.0,
  later_fresh moment e held es after.1 fresh.1,
)

module _ {A : Type 0} (bytes_of : A → List ℕ) (moment : ℕ) (new : List (EventOf A)) (i : ℕ) (this : EventOf A) (within : i < length new)
    (is : this ≡ get_or new i this) (held held' : List DueEntry)
    (adds : held' ≡ with_due_entry (new_due moment (event_seen bytes_of this)) held) where
  left : map (event_seen bytes_of) (drop i new) ≡ event_seen bytes_of this ∷ map (event_seen bytes_of) (drop (i + 1) new)
  left = ap (map (event_seen bytes_of)) (drop_more new i this within ∙ ap (λ (e : EventOf A). e ∷ drop (i + 1) new) (sym is))

  pub with_on : (all : List DueEntry) → with_all moment (map (event_seen bytes_of) (drop i new)) held ≡ all
      → with_all moment (map (event_seen bytes_of) (drop (i + 1) new)) held' ≡ all
  unfolding with_all
  with_on all so_far = ap (with_all moment (map (event_seen bytes_of) (drop (i + 1) new))) adds
      ∙ ap (λ es. with_all moment es held) (sym left) ∙ so_far

  pub order_on : EntriesAscend (map (event_seen bytes_of) (drop i new)) → EntriesAscend (map (event_seen bytes_of) (drop (i + 1) new))
  unfolding IsStrictlySortedBy
  order_on up = (subst EntriesAscend left up).1

  pub fresh_on : EntriesAscend (map (event_seen bytes_of) (drop i new))
      → AllByRecursion (λ e. is_held held e ≡ false) (map (event_seen bytes_of) (drop i new))
      → AllByRecursion (λ e. is_held held' e ≡ false) (map (event_seen bytes_of) (drop (i + 1) new))
  unfolding IsStrictlySortedBy
  fresh_on up fresh =
      subst (λ (l : List DueEntry). AllByRecursion (λ e. is_held l e ≡ false) (map (event_seen bytes_of) (drop (i + 1) new))) (sym adds)
      (later_fresh moment (event_seen bytes_of this) held (map (event_seen bytes_of) (drop (i + 1) new)) (subst EntriesAscend left up).0
      (subst (AllByRecursion (λ e. is_held held e ≡ false)) left fresh).1)
