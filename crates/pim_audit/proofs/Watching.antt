-- What loops that gather machines have still to add, and what follows from the machines at the end:
-- all others have due what they had.
use Rattle.pim_audit.proofs.GatherWords.{◌≡◌, ◌∙◌, ℕ, ◌+◌, ◌<◌, ◌&&◌, ◌||◌, ◌⊎◌, inl, inr, Bool, true, false, List, [], ◌∷◌}
use Rattle.pim_audit.proofs.GatherWords.{Option, None, Some, refl, sym, ap, subst, arith, false≢true, cases_lt, is_some, AddressFamily, Event}
use Rattle.pim_audit.proofs.GatherWords.{What, Star, Source, Rpt, Record, Key, same_key, Downstream, state_on, Join, same_join, is_joined_locally}
use Rattle.pim_audit.proofs.GatherWords.{pointwise, nat_eq, option_eq, texts_ties, is_eq, same_address}
use Rattle.std.proofs.Common.{add-one, drop, drop-cons, filter, get_or, length, map, suc}
use Rattle.std.specs.Cmp.Lexicographic.{same_text}
use Rattle.pim_down.specs.Seen.{what_seen}
use Rattle.pim_audit.specs.declared.machine.GroupMachine.{GroupMachine}
use Rattle.pim_audit.specs.Dued.{is_exception_of}
use Rattle.pim_audit.specs.Entries.{entry}
use Rattle.pim_audit.specs.Gathering.{is_entry_of, is_due_between}
use Rattle.pim_audit.specs.Holding.{HoldsBetween, HoldsApart}
use Rattle.pim_audit.specs.Local.{what_of}
use Rattle.pim_audit.specs.Look.{DueEntry, held_entries}
use Rattle.pim_audit.specs.Order.{same_entry}
use Rattle.pim_audit.specs.Sides.{SidesState}
use Rattle.pim_audit.specs.Touched.{TouchedMachines, is_exception, is_one_of}
use Rattle.pim_audit.specs.Watched.{MachinesGrow, HasHeld, HasLocal, HasDue, HasAll, HasExceptionsOn, HasExceptionsBelow}
use Rattle.pim_audit.specs.Watched.{HasDueExceptions, HasExceptions, Watches}
use Rattle.pim_audit.proofs.Comparing.{filter_held, filtered}
use Rattle.pim_audit.proofs.DueMachines.{of_asked, of_wanted, of_local_star, of_local_source, machine_due}
use Rattle.pim_audit.proofs.Gather.{or_cases, and_both}
use Rattle.pim_audit.proofs.HeldMachines.{address_equal, by_test, one_key, key_of, held_later, none_held}
use Rattle.pim_audit.proofs.Machines.{is_machine, machine_is}
use Rattle.pim_audit.proofs.SameEntry.{same_is}

-- ---- what is left to add

-- the item of a turn is the first of those that are left
pub seen_first : {A B : Type 0} (seen : A → B) (items : List A) (index : ℕ) (item : A) → index < length items
    → item ≡ get_or items index item → map seen (drop index items) ≡ seen item ∷ map seen (drop (index + 1) items)
seen_first seen items index item below is =
    rw (add-one index)
    (ap (map seen) (drop-cons items index item below) ∙ ap (λ x. seen x ∷ map seen (drop (suc index) items)) (sym is))

-- each machine that is held is one of these, or one of the records that are left is its own
abbrev pub HasHeldBut : List (Record (List ℕ)) → List (Record (List ℕ)) → List (GroupMachine (List ℕ)) → Type 0
HasHeldBut left records machines = (port : ℕ) (group : List ℕ) (what : What (List ℕ)) → is_some (state_on records port group what) ≡ true
    → (is_one_of group what machines ≡ true) ⊎ (is_some (state_on left port group what) ≡ true)

pub held_next : (held : Record (List ℕ)) (left others records : List (Record (List ℕ))) (before after : List (GroupMachine (List ℕ)))
    → left ≡ held ∷ others → HasHeldBut left records before → is_one_of held.key.group held.key.what after ≡ true
    → MachinesGrow before after → HasHeldBut others records after
held_next held left others records before after e but added grows port group what is =
    elim (but port group what is)
    as (λ _. (is_one_of group what after ≡ true) ⊎ (is_some (state_on others port group what) ≡ true)) [
      | inl early ↦ inl (grows group what early)
      | inr later ↦
          let here : is_some (state_on (held ∷ others) port group what) ≡ true =
          subst (λ (l : List (Record (List ℕ))). is_some (state_on l port group what) ≡ true) e later in
          by_test (same_key (key_of port group what) held.key)
          (λ same. inl (subst (λ (k : Key (List ℕ)). is_one_of k.group k.what after ≡ true)
          (sym (one_key (key_of port group what) held.key same)) added))
          (λ apart. inr (held_later port group what held others apart here))
    ]

pub held_all : (left records : List (Record (List ℕ))) (machines : List (GroupMachine (List ℕ))) → left ≡ [] → HasHeldBut left records machines
    → (port : ℕ) (group : List ℕ) (what : What (List ℕ)) → is_some (state_on records port group what) ≡ true → is_one_of group what machines ≡ true
held_all left records machines e but port group what is =
    elim (but port group what is) as (λ _. is_one_of group what machines ≡ true) [
      | inl early ↦ early
      | inr later ↦ absurd (none_held port group what
          (subst (λ (l : List (Record (List ℕ))). is_some (state_on l port group what) ≡ true) e later))
    ]

-- the same of local joins
abbrev pub HasLocalBut : List Join → List Join → List (GroupMachine (List ℕ)) → Type 0
HasLocalBut left joins machines = (join : Join) → is_joined_locally join joins ≡ true
    → (is_one_of join.group (what_of join.source) machines ≡ true) ⊎ (is_joined_locally join left ≡ true)

one_source : (s t : Option (List ℕ)) → option_eq (pointwise nat_eq) s t ≡ true → s ≡ t
one_source None None e = refl
one_source None (Some t) e = absurd (false≢true e)
one_source (Some s) None e = absurd (false≢true e)
one_source (Some s) (Some t) e = ap (λ (a : List ℕ). Some a) (same_text s t (sym e))

pub local_next : (next : Join) (left others joins : List Join) (before after : List (GroupMachine (List ℕ))) → left ≡ next ∷ others
    → HasLocalBut left joins before → is_one_of next.group (what_of next.source) after ≡ true → MachinesGrow before after
    → HasLocalBut others joins after
local_next next left others joins before after e but added grows join is =
    elim (but join is) as (λ _. (is_one_of join.group (what_of join.source) after ≡ true) ⊎ (is_joined_locally join others ≡ true)) [
      | inl early ↦ inl (grows join.group (what_of join.source) early)
      | inr later ↦
          elim (or_cases (same_join join next) (is_joined_locally join others) (subst (λ (l : List Join). is_joined_locally join l ≡ true) e later))
          as (λ _. (is_one_of join.group (what_of join.source) after ≡ true) ⊎ (is_joined_locally join others ≡ true)) [
            | inl same ↦
                let both = and_both (pointwise nat_eq join.group next.group) (option_eq (pointwise nat_eq) join.source next.source) same in
                inl (ap (λ g. is_one_of g (what_of join.source) after) (same_text join.group next.group (sym both.0))
                ∙ ap (λ s. is_one_of next.group (what_of s) after) (one_source join.source next.source both.1) ∙ added)
            | inr more ↦ inr more
          ]
    ]

pub local_all : (left joins : List Join) (machines : List (GroupMachine (List ℕ))) → left ≡ [] → HasLocalBut left joins machines
    → HasLocal joins machines
local_all left joins machines e but join is =
    elim (but join is) as (λ _. is_one_of join.group (what_of join.source) machines ≡ true) [
      | inl early ↦ early
      | inr later ↦ absurd (false≢true (subst (λ (l : List Join). is_joined_locally join l ≡ true) e later))
    ]

-- the same of what was due
abbrev pub HasDueBut : List DueEntry → List DueEntry → List (GroupMachine (List ℕ)) → Type 0
HasDueBut left due machines = (this : Event) → is_entry_of (held_entries due) this ≡ true
    → (is_one_of this.group this.what machines ≡ true) ⊎ (is_entry_of (held_entries left) this ≡ true)

-- the same of what was due of exceptions of a group
abbrev pub HasDueExceptionsBut : List DueEntry → List DueEntry → List ℕ → List (GroupMachine (List ℕ)) → Type 0
HasDueExceptionsBut left due group machines = (joins : Bool) (source : List ℕ)
    → is_entry_of (held_entries due) (entry joins group (Rpt source)) ≡ true
    → (is_one_of group (Rpt source) machines ≡ true) ⊎ (is_entry_of (held_entries left) (entry joins group (Rpt source)) ≡ true)

-- an entry is the first of those that are left, or one of the others
due_or_later : (this : Event) (held : DueEntry) (left others : List DueEntry) → left ≡ held ∷ others → is_entry_of (held_entries left) this ≡ true
    → (this ≡ held.entry) ⊎ (is_entry_of (held_entries others) this ≡ true)
due_or_later this held left others e listed =
    elim (or_cases (same_entry this held.entry) (is_entry_of (held_entries others) this)
    (subst (λ (l : List DueEntry). is_entry_of (held_entries l) this ≡ true) e listed))
    as (λ _. (this ≡ held.entry) ⊎ (is_entry_of (held_entries others) this ≡ true)) [
      | inl same ↦ inl (same_is this held.entry same)
      | inr later ↦ inr later
    ]

pub due_next : (held : DueEntry) (left others due : List DueEntry) (before after : List (GroupMachine (List ℕ))) → left ≡ held ∷ others
    → HasDueBut left due before → is_one_of held.entry.group held.entry.what after ≡ true → MachinesGrow before after → HasDueBut others due after
due_next held left others due before after e but added grows this is =
    elim (but this is) as (λ _. (is_one_of this.group this.what after ≡ true) ⊎ (is_entry_of (held_entries others) this ≡ true)) [
      | inl early ↦ inl (grows this.group this.what early)
      | inr later ↦
          elim (due_or_later this held left others e later)
          as (λ _. (is_one_of this.group this.what after ≡ true) ⊎ (is_entry_of (held_entries others) this ≡ true)) [
            | inl same ↦ inl (subst (λ (f : Event). is_one_of f.group f.what after ≡ true) (sym same) added)
            | inr more ↦ inr more
          ]
    ]

pub due_all : (left due : List DueEntry) (machines : List (GroupMachine (List ℕ))) → left ≡ [] → HasDueBut left due machines → HasDue due machines
due_all left due machines e but this is =
    elim (but this is) as (λ _. is_one_of this.group this.what machines ≡ true) [
      | inl early ↦ early
      | inr later ↦ absurd (false≢true (subst (λ (l : List DueEntry). is_entry_of (held_entries l) this ≡ true) e later))
    ]

pub exception_next : (group : List ℕ) (held : DueEntry) (left others due : List DueEntry) (before after : List (GroupMachine (List ℕ)))
    → left ≡ held ∷ others → HasDueExceptionsBut left due group before → is_one_of group held.entry.what after ≡ true
    → MachinesGrow before after → HasDueExceptionsBut others due group after
exception_next group held left others due before after e but added grows joins source is =
    let this : Event = entry joins group (Rpt source) in
    elim (but joins source is) as (λ _. (is_one_of group (Rpt source) after ≡ true) ⊎ (is_entry_of (held_entries others) this ≡ true)) [
      | inl early ↦ inl (grows group (Rpt source) early)
      | inr later ↦
          elim (due_or_later this held left others e later)
          as (λ _. (is_one_of group (Rpt source) after ≡ true) ⊎ (is_entry_of (held_entries others) this ≡ true)) [
            | inl same ↦ inl (ap (λ (f : Event). is_one_of group f.what after) same ∙ added)
            | inr more ↦ inr more
          ]
    ]

pub exceptions_all : (group : List ℕ) (left due : List DueEntry) (machines : List (GroupMachine (List ℕ))) → left ≡ []
    → HasDueExceptionsBut left due group machines → HasDueExceptions due group machines
exceptions_all group left due machines e but joins source is =
    elim (but joins source is) as (λ _. is_one_of group (Rpt source) machines ≡ true) [
      | inl early ↦ early
      | inr later ↦ absurd (false≢true
          (subst (λ (l : List DueEntry). is_entry_of (held_entries l) (entry joins group (Rpt source)) ≡ true) e later))
    ]

-- the same of exceptions on ports
pub no_port_yet : (state : Downstream) (group : List ℕ) (machines : List (GroupMachine (List ℕ))) → HasExceptionsBelow 0 state group machines
no_port_yet state group machines port below = absurd (omega (arith, below))

pub next_port_has : (count : ℕ) (state : Downstream) (group : List ℕ) (before after : List (GroupMachine (List ℕ)))
    → HasExceptionsBelow count state group before → MachinesGrow before after → HasExceptionsOn state group count after
    → HasExceptionsBelow (count + 1) state group after
next_port_has count state group before after has grows here port below source is =
    elim (cases_lt port count) as (λ _. is_one_of group (Rpt source) after ≡ true) [
      | inl early ↦ grows group (Rpt source) (has port early source is)
      | inr from ↦ here source (subst (λ (n : ℕ). is_some (state_on state.records n group (Rpt source)) ≡ true)
          (let same : port ≡ count = omega (arith, from, below) in same) is)
    ]

-- what was due of exceptions of the group, and what was left out is of others
pub exceptions_kept : (group : List ℕ) (due kept : List DueEntry) (machines : List (GroupMachine (List ℕ)))
    → kept ≡ filter (is_exception_of group) due → HasDueExceptionsBut kept due group machines
exceptions_kept group due kept machines e joins source is =
    inr (ap (λ (l : List DueEntry). is_entry_of (held_entries l) (entry joins group (Rpt source))) e
    ∙ ap (λ (l : List Event). is_entry_of l (entry joins group (Rpt source))) (filter_held of_group due)
    ∙ filtered of_group (entry joins group (Rpt source)) (held_entries due)
    ∙ ap (λ b. (b && true) && is_entry_of (held_entries due) (entry joins group (Rpt source)))
    (texts_ties group group ∙ ap is_eq (address_equal group)) ∙ is)
  where
    of_group : Event → Bool
    of_group this = same_address group this.group && is_exception this.what

-- ---- all of them

module _ (sides : SidesState) (due : List DueEntry) (asked wanted : Downstream) (is_asked : asked ≡ sides.asked)
    (is_wanted : wanted ≡ sides.wanted) (first second third last : List (GroupMachine (List ℕ))) (two : MachinesGrow first second) where
  pub gathered_all : (local : List Join) → local ≡ sides.local → MachinesGrow second third → MachinesGrow third last → HasHeld asked first
      → HasHeld wanted second → HasLocal local third → HasDue due last → HasAll sides due last
  gathered_all local is_local three four asked_has wanted_has local_has due_has = record {
    of_asked = subst (λ (d : Downstream). HasHeld d last) is_asked
        (λ port group what is. four group what (three group what (two group what (asked_has port group what is))));
    of_wanted = subst (λ (d : Downstream). HasHeld d last) is_wanted
        (λ port group what is. four group what (three group what (wanted_has port group what is)));
    of_local = subst (λ (l : List Join). HasLocal l last) is_local
        (λ join is. four join.group (what_of join.source) (local_has join is));
    of_due = due_has;
  }

  pub gathered_exceptions : (group : List ℕ) → MachinesGrow second last → HasExceptionsBelow asked.ports asked group first
      → HasExceptionsBelow wanted.ports wanted group second → HasDueExceptions due group last → HasExceptions sides due group last
  gathered_exceptions group three asked_has wanted_has due_has = record {
    of_asked = subst (λ (d : Downstream). HasExceptionsBelow d.ports d group last) is_asked
        (λ port below source is. three group (Rpt source) (two group (Rpt source) (asked_has port below source is)));
    of_wanted = subst (λ (d : Downstream). HasExceptionsBelow d.ports d group last) is_wanted
        (λ port below source is. three group (Rpt source) (wanted_has port below source is));
    of_due = due_has;
  }

-- ---- touched machines

module _ (sides : SidesState) (due : List DueEntry) where
  -- a machine that is no star is watched alone
  pub watches_one : {A : Type 0} (bytes_of : A → List ℕ) (machines : List (GroupMachine (List ℕ))) (group : List ℕ) (what : What A)
      → ((source : A) × (what ≡ Source source)) ⊎ ((source : A) × (what ≡ Rpt source))
      → is_one_of group (what_seen bytes_of what) machines ≡ true → Watches sides due machines group (what_seen bytes_of what)
  watches_one bytes_of machines group what other has = record {
    has = has;
    exceptions = λ star. absurd (elim other as (λ _. ⊥) [
      | inl one ↦ let clash : Source (bytes_of one.0) ≡ Star = sym (ap (what_seen bytes_of) one.1) ∙ star in cc
      | inr one ↦ let clash : Rpt (bytes_of one.0) ≡ Star = sym (ap (what_seen bytes_of) one.1) ∙ star in cc
    ]);
  }

  watches_more : (before after : List (GroupMachine (List ℕ))) (group : List ℕ) (what : What (List ℕ)) → MachinesGrow before after
      → Watches sides due before group what → Watches sides due after group what
  watches_more before after group what grows watches = record {
    has = grows group what watches.has;
    exceptions = λ star.
        let has = watches.exceptions star in
        record {
          of_asked = λ port below source is. grows group (Rpt source) (has.of_asked port below source is);
          of_wanted = λ port below source is. grows group (Rpt source) (has.of_wanted port below source is);
          of_due = λ joins source is. grows group (Rpt source) (has.of_due joins source is);
        };
  }

  -- each of the touched machines is watched, or one of those that are left
  abbrev pub WatchesBut : List (GroupMachine (List ℕ)) → List (GroupMachine (List ℕ)) → List (GroupMachine (List ℕ)) → Type 0
  WatchesBut left touched machines = (group : List ℕ) (what : What (List ℕ)) → is_one_of group what touched ≡ true
      → Watches sides due machines group what ⊎ (is_one_of group what left ≡ true)

  pub watches_first : (left touched machines : List (GroupMachine (List ℕ))) → left ≡ touched → WatchesBut left touched machines
  watches_first left touched machines e group what is = inr (ap (is_one_of group what) e ∙ is)

  pub watches_next : (next : GroupMachine (List ℕ)) (left others touched before after : List (GroupMachine (List ℕ))) → left ≡ next ∷ others
      → WatchesBut left touched before → Watches sides due after next.group next.what → MachinesGrow before after
      → WatchesBut others touched after
  watches_next next left others touched before after e but watches grows group what is =
      elim (but group what is) as (λ _. Watches sides due after group what ⊎ (is_one_of group what others ≡ true)) [
        | inl early ↦ inl (watches_more before after group what grows early)
        | inr later ↦
            elim (or_cases (is_machine group what next) (is_one_of group what others)
            (subst (λ (l : List (GroupMachine (List ℕ))). is_one_of group what l ≡ true) e later))
            as (λ _. Watches sides due after group what ⊎ (is_one_of group what others ≡ true)) [
              | inl same ↦ inl (subst (λ (m : GroupMachine (List ℕ)). Watches sides due after m.group m.what) (sym (machine_is group what next same)) watches)
              | inr more ↦ inr more
            ]
      ]

  pub watches_all : (left touched machines : List (GroupMachine (List ℕ))) → left ≡ [] → WatchesBut left touched machines
      → (group : List ℕ) (what : What (List ℕ)) → is_one_of group what touched ≡ true → Watches sides due machines group what
  watches_all left touched machines e but group what is =
      elim (but group what is) as (λ _. Watches sides due machines group what) [
        | inl early ↦ early
        | inr later ↦ absurd (false≢true (subst (λ (l : List (GroupMachine (List ℕ))). is_one_of group what l ≡ true) e later))
      ]

-- ---- what is due of the other machines

-- neither was it due nor is it, if both belong to a machine that is watched
neither : (known was is watched : Bool) → (was ≡ true → watched ≡ true) → (is ≡ true → watched ≡ true) → watched ≡ false
    → was ≡ (known && is)
neither known true is watched of_was of_is not = absurd (false≢true (sym not ∙ of_was refl))
neither known false true watched of_was of_is not = absurd (false≢true (sym not ∙ of_is refl))
neither true false false watched of_was of_is not = refl
neither false false false watched of_was of_is not = refl

module _ (known : Bool) (family : AddressFamily) (sides : SidesState) (due : List DueEntry) (machines : List (GroupMachine (List ℕ))) where
  -- what may be due is of a machine that a side holds
  due_has : HasAll sides due machines → (this : Event) → is_due_between family sides this ≡ true → is_one_of this.group this.what machines ≡ true
  due_has all this is =
      elim (machine_due family sides this.group this.joins this.what is) as (λ _. is_one_of this.group this.what machines ≡ true) [
        | of_asked held ↦ all.of_asked held.port this.group this.what held.is
        | of_wanted held ↦ all.of_wanted held.port this.group this.what held.is
        | of_local_star star listed held ↦
            ap (λ (w : What (List ℕ)). is_one_of this.group w machines) star ∙ all.of_local (record { group = this.group; source = None }) listed
        | of_local_source source one listed held ↦
            ap (λ (w : What (List ℕ)). is_one_of this.group w machines) one ∙ all.of_local (record { group = this.group; source = Some source }) listed
      ]

  pub apart_of_all : HasAll sides due machines → HoldsApart known family machines sides due
  apart_of_all all this unwatched =
      neither known (is_entry_of (held_entries due) this) (is_due_between family sides this) (is_one_of this.group this.what machines)
      (all.of_due this) (due_has all this) unwatched

  -- what may be due of an exception is of a port that holds it
  exception_has : (group : List ℕ) → HasExceptions sides due group machines → (joins : Bool) (source : List ℕ)
      → is_due_between family sides (entry joins group (Rpt source)) ≡ true → is_one_of group (Rpt source) machines ≡ true
  exception_has group has joins source is =
      elim (machine_due family sides group joins (Rpt source) is) as (λ _. is_one_of group (Rpt source) machines ≡ true) [
        | of_asked held ↦ has.of_asked held.port held.below source held.is
        | of_wanted held ↦ has.of_wanted held.port held.below source held.is
        | of_local_star star listed held ↦ absurd cc
        | of_local_source other one listed held ↦ absurd cc
      ]

  -- an exception of a star that is touched
  apart_exception : (this : Event) (what : What (List ℕ)) → this.what ≡ what → is_exception what ≡ true → HasExceptions sides due this.group machines
      → is_one_of this.group this.what machines ≡ false → is_entry_of (held_entries due) this ≡ (known && is_due_between family sides this)
  apart_exception this Star e exception has unwatched = absurd (false≢true exception)
  apart_exception this (Source source) e exception has unwatched = absurd (false≢true exception)
  apart_exception this (Rpt source) e exception has unwatched =
      let same : this ≡ entry this.joins this.group (Rpt source) = ap (λ (w : What (List ℕ)). entry this.joins this.group w) e in
      neither known (is_entry_of (held_entries due) this) (is_due_between family sides this) (is_one_of this.group this.what machines)
      (λ was. ap (λ (w : What (List ℕ)). is_one_of this.group w machines) e
      ∙ has.of_due this.joins source (subst (λ (f : Event). is_entry_of (held_entries due) f ≡ true) same was))
      (λ is. ap (λ (w : What (List ℕ)). is_one_of this.group w machines) e
      ∙ exception_has this.group has this.joins source (subst (λ (f : Event). is_due_between family sides f ≡ true) same is))
      unwatched

  pub apart_of_touched : (touched : TouchedMachines) → touched.all ≡ false
      → ((group : List ℕ) (what : What (List ℕ)) → is_one_of group what touched.machines ≡ true → Watches sides due machines group what)
      → HoldsBetween known family touched sides due → HoldsApart known family machines sides due
  apart_of_touched touched some watches holds this unwatched =
      by_test (is_one_of this.group this.what touched.machines)
      (λ listed. absurd (false≢true (sym unwatched ∙ (watches this.group this.what listed).has)))
      (λ unlisted. by_test (is_exception this.what && is_one_of this.group Star touched.machines)
      (λ starred.
      let both = and_both (is_exception this.what) (is_one_of this.group Star touched.machines) starred in
      apart_exception this this.what refl both.0 ((watches this.group Star both.1).exceptions refl) unwatched)
      (λ unstarred. holds this
      (ap (λ b. b || (is_one_of this.group this.what touched.machines || (is_exception this.what && is_one_of this.group Star touched.machines))) some
      ∙ ap (λ b. b || (is_exception this.what && is_one_of this.group Star touched.machines)) unlisted ∙ unstarred)))
