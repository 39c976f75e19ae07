-- Loops that touch what each item of a list may change.
use Rattle.pim_audit.proofs.Words.{◌≡◌, ◌∙◌, ℕ, Bool, true, false, ◌&&◌, not, List, [], ◌∷◌, None, refl, sym, ap, subst, false≢true}
use Rattle.pim_audit.proofs.Words.{AllByRecursion, is_eq, is_some, what_cmp, Downstream, Record}
use Rattle.std.proofs.Common.{inl, inr}
use Rattle.pim_jp.specs.declared.entry.Entry.{Entry}
use Rattle.pim_addr.specs.declared.family.AddressFamily.{AddressFamily}
use Rattle.pim_jp.specs.Message.{GroupSet}
use Rattle.pim_down.specs.declared.machines.key.What.{What}
use Rattle.pim_down.specs.declared.machines.key.What.TheVariants.{Rpt}
use Rattle.pim_down.specs.After.{MachinesLeft, next_machine}
use Rattle.pim_down.specs.Sound.{IsReal}
use Rattle.pim_form.specs.Wants.{state_on}
use Rattle.pim_audit.specs.Touched.{TouchedMachines, is_touched, Grows, TouchesEntry, TouchesEntries, TouchesSet}
use Rattle.pim_audit.proofs.ExceptionWalk.{zeros, begins as walk_begins}
use Rattle.pim_audit.proofs.HeldMachines.{is_equal, one_what, walk, IsPassed, Steps, all_passed}
use Rattle.pim_audit.proofs.OneMachine.{grows_more, grows_not}

-- ---- the items of a list

module _ {A : Type 0} (P : TouchedMachines → A → Type 0) where
  -- What touches for the items that are left touches for all.
  abbrev pub Leads : List A → List A → TouchedMachines → Type 0
  Leads left all touched = (last : TouchedMachines) → Grows touched last → AllByRecursion (P last) left → AllByRecursion (P last) all

  pub leads_next : (item : A) (left others all : List A) (before after : TouchedMachines) → left ≡ item ∷ others → Leads left all before
      → Grows before after → ((last : TouchedMachines) → Grows after last → P last item) → Leads others all after
  leads_next item left others all before after is leads grows has last more later =
      leads last (grows_more before after last grows more) (subst (AllByRecursion (P last)) (sym is) (has last more, later))

  pub leads_all : (left all : List A) (touched : TouchedMachines) → left ≡ [] → Leads left all touched → AllByRecursion (P touched) all
  leads_all left all touched is leads = leads touched (grows_not touched) (subst (AllByRecursion (P touched)) (sym is) tt)

-- ---- what stays touched

module _ (port : ℕ) (state : Downstream) (before after : TouchedMachines) (grows : Grows before after) where
  pub entry_more : (joins : Bool) (group : List ℕ) (this : Entry (List ℕ)) → TouchesEntry port state joins group before this
      → TouchesEntry port state joins group after this
  entry_more joins group this touches what changed = grows group what (touches what changed)

  pub entries_more : (joins : Bool) (group : List ℕ) (entries : List (Entry (List ℕ))) → TouchesEntries port state joins group before entries
      → TouchesEntries port state joins group after entries
  entries_more joins group [] touches = tt
  entries_more joins group (this ∷ entries) touches =
      (entry_more joins group this touches.0, entries_more joins group entries touches.1)

  pub set_more : (set : GroupSet) → TouchesSet port state before set → TouchesSet port state after set
  set_more set touches = (entries_more true set.group set.joined touches.0, entries_more false set.group set.pruned touches.1)

-- ---- one entry

-- a machine that is touched is so by whatever name
pub touches_own : (group : List ℕ) (this : What (List ℕ)) (touched : TouchedMachines) → is_touched group this touched ≡ true
    → (what : What (List ℕ)) → is_eq (what_cmp this what) ≡ true → is_touched group what touched ≡ true
touches_own group this touched is what same =
    ap (λ (w : What (List ℕ)). is_touched group w touched) (sym (one_what this what (is_equal (what_cmp this what) same))) ∙ is

-- a machine that is touched unless an entry leaves it as it is
pub touches_unless : (left : Bool) (group : List ℕ) (this : What (List ℕ)) (touched : TouchedMachines)
    → (left ≡ false → is_touched group this touched ≡ true) → (what : What (List ℕ))
    → (not left && is_eq (what_cmp this what)) ≡ true → is_touched group what touched ≡ true
touches_unless true group this touched is what e = absurd (false≢true e)
touches_unless false group this touched is what e = touches_own group this touched (is refl) what e

-- ---- the (S,G,rpt) machines that a port holds

module _ (family : AddressFamily) (ports port : ℕ) (group : List ℕ) (records : List (Record (List ℕ)))
    (real : AllByRecursion (IsReal family ports) records) where
  -- Each exception that the walk has passed is touched.
  abbrev pub TouchesPassed : What (List ℕ) → TouchedMachines → Type 0
  TouchesPassed behind touched =
      (source : List ℕ) → IsPassed port group records behind (Rpt source) → is_touched group (Rpt source) touched ≡ true

  -- the walk begins at the source of zeros, and has passed none
  pub begins : (left : MachinesLeft) (lowest : List ℕ) (touched : TouchedMachines) → left ≡ walk port group records (Rpt lowest)
      → lowest ≡ zeros family → (left ≡ walk port group records left.behind.what) × TouchesPassed left.behind.what touched
  begins left lowest touched is low =
      let begun = walk_begins family ports port group records real left lowest low is [] in
      (begun.0, λ source passed. absurd (false≢true (begun.1 source passed)))

  pub next_passed : (left next : MachinesLeft) (given : What (List ℕ)) (before after : TouchedMachines)
      → Steps port group records left next given → TouchesPassed left.behind.what before → Grows before after
      → is_touched group given after ≡ true → TouchesPassed next.behind.what after
  next_passed left next given before after step touches grows added source passed =
      let here : IsPassed port group records given (Rpt source) =
      subst (λ (w : What (List ℕ)). IsPassed port group records w (Rpt source)) step.what passed in
      elim (step.passes (Rpt source) here) as (λ _. is_touched group (Rpt source) after ≡ true) [
        | inl early ↦ grows group (Rpt source) (touches source early)
        | inr one ↦ ap (λ (w : What (List ℕ)). is_touched group w after) one ∙ added
      ]

  pub touches_held : (left : MachinesLeft) (touched : TouchedMachines) → left ≡ walk port group records left.behind.what
      → next_machine left ≡ None → TouchesPassed left.behind.what touched
      → (source : List ℕ) → is_some (state_on records port group (Rpt source)) ≡ true → is_touched group (Rpt source) touched ≡ true
  touches_held left touched walks none touches source held =
      touches source (all_passed port group records left walks none (Rpt source) held)
