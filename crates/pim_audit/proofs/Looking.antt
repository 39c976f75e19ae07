-- What is due at a look: of the machines at which it looks it is compared, of the others it is as it was.
use Rattle.pim_audit.proofs.Words.{◌≡◌, ◌∙◌, ℕ, Bool, true, false, ◌&&◌, ◌||◌, not, List, [], ◌∷◌, refl, sym, ap, subst, filter, false≢true}
use Rattle.pim_audit.proofs.Words.{AddressFamily, Event, DueEntry, held_entries, EntriesAscend, AuditState, RouterState}
use Rattle.pim_audit.proofs.Comparing.{filter_held, filtered}
use Rattle.pim_audit.proofs.Gather.{and_both}
use Rattle.pim_audit.proofs.CoveredDues.{not_is}
use Rattle.pim_audit.proofs.SameEntry.{first_listed}
use Rattle.pim_audit.specs.declared.machine.GroupMachine.{GroupMachine}
use Rattle.std.proofs.Common.{Err, IfOk, Ok, OnOk, Result}
use Rattle.pim_audit.specs.Look.{Found, LookFinds}
use Rattle.pim_audit.specs.Audited.{AreDueIf, LooksAt, has_neighbour, sides_of, with_due}
use Rattle.pim_audit.specs.Between.{AreDue}
use Rattle.pim_audit.specs.Changes.{AreChanged, AreChanges, AreNew, is_gone}
use Rattle.pim_audit.specs.Gathering.{AreExactly, is_entry_of}
use Rattle.pim_audit.specs.Holding.{AreExactlyNow, HoldsApart, HoldsBetween, HoldsOutside, is_due_if, is_due_now}
use Rattle.pim_audit.specs.Sides.{SidesState}
use Rattle.pim_audit.specs.Touched.{TouchedMachines, is_one_of}

module _ (known : Bool) (family : AddressFamily) (sides : SidesState) (machines : List (GroupMachine (List ℕ))) (due : List DueEntry)
    (new : List Event) (gone : List DueEntry) (are_new : AreNew known family sides machines due new)
    (are_gone : gone ≡ filter (is_gone known family sides machines) due) where
  -- what was compared are changes
  pub changes : AreChanges due new gone
  changes = record {
    fresh = λ this listed.
        not_is (is_entry_of (held_entries due) this)
        (and_both (is_due_if known family sides this) (not (is_entry_of (held_entries due) this))
        (and_both (is_one_of this.group this.what machines) _ (sym (are_new this) ∙ listed)).1).1;
    leaves = is_gone known family sides machines;
    gone_are = are_gone;
  }

  gone_entry : Event → Bool
  gone_entry this = is_one_of this.group this.what machines && not (is_due_if known family sides this)

  gone_is : (this : Event) → is_entry_of (held_entries gone) this ≡ (gone_entry this && is_entry_of (held_entries due) this)
  unfolding gone_entry
  gone_is this =
      ap (λ (l : List DueEntry). is_entry_of (held_entries l) this) are_gone
      ∙ ap (λ (l : List Event). is_entry_of l this) (filter_held gone_entry due) ∙ filtered gone_entry this (held_entries due)

  changed : (m d h : Bool) → (m ≡ false → h ≡ d) → ((m && (d && not h)) || (h && not ((m && not d) && h))) ≡ d
  changed true true true apart = refl
  changed true true false apart = refl
  changed true false true apart = refl
  changed true false false apart = refl
  changed false true true apart = refl
  changed false false false apart = refl
  changed false true false apart = apart refl
  changed false false true apart = apart refl

  -- after these changes exactly the entries are there that are due
  pub exact : HoldsApart known family machines sides due → (entries : List Event) → AreChanged due new gone entries
      → (this : Event) → is_entry_of entries this ≡ is_due_if known family sides this
  unfolding gone_entry
  exact apart entries are this =
      are this
      ∙ ap (λ b. b || (is_entry_of (held_entries due) this && not (is_entry_of (held_entries gone) this))) (are_new this)
      ∙ ap (λ b. (is_one_of this.group this.what machines && (is_due_if known family sides this && not (is_entry_of (held_entries due) this)))
      || (is_entry_of (held_entries due) this && not b)) (gone_is this)
      ∙ changed (is_one_of this.group this.what machines) (is_due_if known family sides this) (is_entry_of (held_entries due) this) (apart this)

-- ---- a look

-- what an audit compares are changes, and after them exactly the entries are there that are due now
pub changes_now : (family : AddressFamily) (audit : AuditState) (router : RouterState) (touched : TouchedMachines) (known : Bool) (sides : SidesState)
    (due : List DueEntry) (machines : List (GroupMachine (List ℕ))) (new : List Event) (gone : List DueEntry)
    → known ≡ has_neighbour audit.upstream router → sides ≡ sides_of audit router → due ≡ audit.due
    → HoldsOutside family touched audit router
    → (HoldsBetween known family touched sides due → HoldsApart known family machines sides due)
    → AreNew known family sides machines due new → gone ≡ filter (is_gone known family sides machines) due
    → AreChanges audit.due new gone
    × ((entries : List Event) → AreChanged audit.due new gone entries → AreExactlyNow family audit router entries)
changes_now family audit router touched known sides due machines new gone is_known is_sides is_due holds apart are_new are_gone = (
  subst (λ (d : List DueEntry). AreChanges d new gone) is_due (changes known family sides machines due new gone are_new are_gone),
  λ entries changed this.
      exact known family sides machines due new gone are_new are_gone (apart before) entries
      (subst (λ (d : List DueEntry). AreChanged d new gone entries) (sym is_due) changed) this
      ∙ alike this,
)
  where
    alike : (this : Event) → is_due_if known family sides this ≡ is_due_now family audit router this
    alike this = ap (λ k. is_due_if k family sides this) is_known
        ∙ ap (λ (s : SidesState). is_due_if (has_neighbour audit.upstream router) family s this) is_sides

    before : HoldsBetween known family touched sides due
    before this untouched = ap (λ (d : List DueEntry). is_entry_of (held_entries d) this) is_due ∙ holds this untouched ∙ sym (alike this)

-- exactly the entries that are due, in order, are those of a change
pub due_if : (known : Bool) (family : AddressFamily) (sides : SidesState) (entries : List Event)
    → (AreExactly family sides entries → AreDue family sides entries)
    → ((this : Event) → is_entry_of entries this ≡ is_due_if known family sides this) → AreDueIf known family sides entries
due_if true family sides entries due exactly = due exactly
due_if false family sides [] due exactly = refl
due_if false family sides (e ∷ es) due exactly = absurd (false≢true (sym (exactly e) ∙ first_listed e es))

-- then the audit holds what is due
pub holds_now : (family : AddressFamily) (before after : AuditState) (router : RouterState) (touched : TouchedMachines)
    → after ≡ with_due before after.due → AreExactlyNow family before router (held_entries after.due)
    → HoldsOutside family touched after router
holds_now family before after router touched same exactly this untouched =
    exactly this ∙ sym (ap (λ (a : AuditState). is_due_now family a router this) same)

-- a look whose entries are exactly those that are due now
pub looks : (family : AddressFamily) (before : AuditState) (router : RouterState) (sides : SidesState) (due : List DueEntry) (entries : List Event)
    (moment grace : ℕ) (found : Found) → sides ≡ sides_of before router → due ≡ before.due → moment ≡ router.machines.moment
    → grace ≡ before.grace
    → ((es : List Event) → EntriesAscend es → AreExactly family sides es → AreDue family sides es)
    → EntriesAscend entries → AreExactlyNow family before router entries → LookFinds due entries moment grace found
    → LooksAt family before router found
looks family before router sides due entries moment grace found is_sides is_due is_moment is_grace of_change up exactly finds = record {
  entries = entries;
  are = due_if (has_neighbour before.upstream router) family (sides_of before router) entries
      (subst (λ (s : SidesState). AreExactly family s entries → AreDue family s entries) is_sides (of_change entries up)) exactly;
  finds = subst (λ (g : ℕ). LookFinds before.due entries router.machines.moment g found) is_grace
      (subst (λ (m : ℕ). LookFinds before.due entries m grace found) is_moment
      (subst (λ (d : List DueEntry). LookFinds d entries moment grace found) is_due finds));
}

-- what holds of an Ok, with a fact beside it
pub if_both : {T E : Type 0} (r : Result T E) (P R : T → Type 0) (Q : Type 0) → ((x : T) → P x → Q → R x) → IfOk r P → OnOk r Q → IfOk r R
if_both (Ok x) P R Q both p q = both x p q
if_both (Err e) P R Q both p q = tt
