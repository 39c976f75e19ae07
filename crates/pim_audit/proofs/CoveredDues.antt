-- What is due of a group is due of its star, of a machine that some port holds, or of a local join.
use Rattle.pim_audit.proofs.GatherWords.{◌≡◌, ◌∙◌, ℕ, zero, suc, ◌<◌, ◌⊎◌, inl, inr, Bool, true, false, ◌&&◌, ◌||◌, not, List}
use Rattle.pim_audit.proofs.GatherWords.{Option, None, Some, refl, sym, ap, subst, arith, false≢true, cases_lt, AddressFamily, What, Star}
use Rattle.pim_audit.proofs.GatherWords.{Source, Rpt, State, Downstream, is_some, is_joined, is_pruned, state_on, wants, wants_on}
use Rattle.pim_audit.proofs.GatherWords.{some_below, Shared, SourceTree, Join, is_joined_locally, source_join}
use Rattle.pim_audit.proofs.Gather.{or_cases, and_both}
use Rattle.pim_audit.proofs.LocalPort.{local_star, local_shared, local_source}
use Rattle.pim_audit.specs.Dues.{change_of, exception_change, is_excepted, is_one}
use Rattle.pim_audit.specs.Entries.{entry}
use Rattle.pim_audit.specs.Gathering.{is_due_between}
use Rattle.pim_audit.specs.Local.{local_port}
use Rattle.pim_audit.specs.Sides.{SidesState, has_star, is_rp_reached, asked_side, wanted_side}

-- some port holds the machine
pub record HeldIn (state : Downstream) (group : List ℕ) (what : What (List ℕ)) : Type 0 where
  pub port : ℕ
  pub below : port < state.ports
  pub is : is_some (state_on state.records port group what) ≡ true

-- local receivers have joined this source of the group
abbrev pub IsLocal : List Join → List ℕ → What (List ℕ) → Type 0
IsLocal local group Star = ⊥
IsLocal local group (Source source) = is_joined_locally (source_join source group) local ≡ true
IsLocal local group (Rpt source) = ⊥

-- it is the star, or some port holds it, or local receivers have joined it
abbrev pub IsCovered : SidesState → List ℕ → What (List ℕ) → Type 0
IsCovered sides group what =
    (what ≡ Star) ⊎ (HeldIn sides.asked group what ⊎ (HeldIn sides.wanted group what ⊎ IsLocal sides.local group what))

-- ---- tests of ports

pub record Passes (count : ℕ) (test : ℕ → Bool) : Type 0 where
  pub port : ℕ
  pub below : port < count
  pub is : test port ≡ true

pub some_passes : (count : ℕ) (test : ℕ → Bool) → some_below count test ≡ true → Passes count test
unfolding some_below
some_passes zero test some = absurd (false≢true some)
some_passes (suc count) test some = elim (or_cases (test count) (some_below count test) some) as (λ _. Passes (suc count) test) [
  | inl last ↦ record { port = count; below = omega arith; is = last }
  | inr earlier ↦ let one = some_passes count test earlier in record { port = one.port; below = omega (arith, one.below); is = one.is }
]

none_passes : (count : ℕ) (test : ℕ → Bool) → some_below count test ≡ false → (port : ℕ) → port < count → test port ≡ false
unfolding some_below
none_passes zero test none port below = absurd (omega (arith, below))
none_passes (suc count) test none port below = by (test count) refl (λ rest early. none_passes count test rest port early)
  where
    by : (b : Bool) → test count ≡ b → (some_below count test ≡ false → port < count → test port ≡ false) → test port ≡ false
    by true e earlier = absurd (false≢true (sym none ∙ ap (λ t. t || some_below count test) e))
    by false e earlier = elim (cases_lt port count) as (λ _. test port ≡ false) [
      | inl early ↦ earlier (sym (ap (λ t. t || some_below count test) e) ∙ none) early
      | inr from ↦ subst (λ n. test n ≡ false) (let same : count ≡ port = omega (arith, from, below) in same) e
    ]

pub joined_some : (state : Option State) → is_joined state ≡ true → is_some state ≡ true
joined_some None is = absurd (false≢true is)
joined_some (Some state) is = refl

pruned_some : (state : Option State) → is_pruned state ≡ true → is_some state ≡ true
pruned_some None is = absurd (false≢true is)
pruned_some (Some state) is = refl

is_excluded : (joins prunes : Bool) → joins ≡ true → (joins && not prunes) ≡ false → prunes ≡ true
is_excluded true true is none = refl
is_excluded true false is none = absurd (false≢true (sym none))
is_excluded false prunes is none = absurd (false≢true is)

-- a source that is wanted on its own tree has a machine on some port
pub source_held : (state : Downstream) (source group : List ℕ) → wants state source group SourceTree ≡ true
    → HeldIn state group (Source source)
source_held state source group wanted =
    let one = some_passes state.ports (wants_on state.records source group SourceTree) wanted in
    record { port = one.port; below = one.below; is = joined_some (state_on state.records one.port group (Source source)) one.is }

-- so has an exception of a star
exception_held : (state : Downstream) (source group : List ℕ) → has_star state group ≡ true → wants state source group Shared ≡ false
    → HeldIn state group (Rpt source)
exception_held state source group starred unwanted =
    let one = some_passes state.ports (λ port. is_joined (state_on state.records port group Star)) starred in
    let none = none_passes state.ports (wants_on state.records source group Shared) unwanted one.port one.below in
    let is = is_excluded (is_joined (state_on state.records one.port group Star)) (is_pruned (state_on state.records one.port group (Rpt source))) one.is none in
    record { port = one.port; below = one.below; is = pruned_some (state_on state.records one.port group (Rpt source)) is }

-- ---- changes

pub changes : (was is joins : Bool) → is_one (change_of was is) joins ≡ true → (was ≡ true) ⊎ (is ≡ true)
changes true is joins due = inl refl
changes false true joins due = inr refl
changes false false joins due = absurd (false≢true due)

excepts : (starred was is joins : Bool) → is_one (exception_change starred was is) joins ≡ true → (was ≡ true) ⊎ (is ≡ true)
excepts true true is joins due = inl refl
excepts true false true joins due = inr refl
excepts true false false joins due = absurd (false≢true due)
excepts false was is joins due = absurd (false≢true due)

pub not_is : (b : Bool) → not b ≡ true → b ≡ false
not_is true e = absurd (false≢true e)
not_is false e = refl

record Lacks (port_star local_star port_wants local_wants : Bool) : Type 0 where
  starred : (port_star || local_star) ≡ true
  ports : port_wants ≡ false
  receivers : local_wants ≡ false

-- an exception of a star that is wanted
lacking : (port_star local_star port_wants local_wants reached : Bool)
    → (((port_star || local_star) && reached) && not ((port_wants || local_wants) && reached)) ≡ true
    → Lacks port_star local_star port_wants local_wants
lacking port_star local_star port_wants local_wants reached is =
    let both = and_both ((port_star || local_star) && reached) (not ((port_wants || local_wants) && reached)) is in
    let star_parts = and_both (port_star || local_star) reached both.0 in
    let none : ((port_wants || local_wants) && true) ≡ false =
    ap (λ r. (port_wants || local_wants) && r) (sym star_parts.1) ∙ not_is ((port_wants || local_wants) && reached) both.1 in
    by port_wants local_wants star_parts.0 none
  where
    by : (p l : Bool) → (port_star || local_star) ≡ true → ((p || l) && true) ≡ false → Lacks port_star local_star p l
    by true l starred none = absurd (false≢true (sym none))
    by false true starred none = absurd (false≢true (sym none))
    by false false starred none = record { starred = starred; ports = refl; receivers = refl }

-- ---- what is due

module _ (family : AddressFamily) (sides : SidesState) (group : List ℕ) where
  asked_holds : (what : What (List ℕ)) → HeldIn sides.asked group what → IsCovered sides group what
  asked_holds what held = inr (inl held)

  wanted_holds : (what : What (List ℕ)) → HeldIn sides.wanted group what → IsCovered sides group what
  wanted_holds what held = inr (inr (inl held))

  source_covered : (source : List ℕ) → (wanted_side family sides).demand source group SourceTree ≡ true → IsCovered sides group (Source source)
  source_covered source demanded =
      let joined = (and_both (wants sides.wanted source group SourceTree || wants (local_port sides.local) source group SourceTree) _ demanded).0 in
      elim (or_cases (wants sides.wanted source group SourceTree) (wants (local_port sides.local) source group SourceTree) joined)
      as (λ _. IsCovered sides group (Source source)) [
        | inl held ↦ wanted_holds (Source source) (source_held sides.wanted source group held)
        | inr listed ↦ inr (inr (inr (sym (local_source sides.local source group) ∙ listed)))
      ]

  exception_covered : (source : List ℕ) → is_excepted (wanted_side family sides) source group ≡ true → IsCovered sides group (Rpt source)
  exception_covered source is =
      let lacks = lacking (has_star sides.wanted group) (has_star (local_port sides.local) group)
      (wants sides.wanted source group Shared) (wants (local_port sides.local) source group Shared) (is_rp_reached family sides group) is in
      elim (or_cases (has_star sides.wanted group) (has_star (local_port sides.local) group) lacks.starred)
      as (λ _. IsCovered sides group (Rpt source)) [
        | inl held ↦ wanted_holds (Rpt source) (exception_held sides.wanted source group held lacks.ports)
        | inr listed ↦ absurd (false≢true
            (sym lacks.receivers ∙ local_shared sides.local source group ∙ sym (local_star sides.local group) ∙ listed))
      ]

  pub due_is_covered : (joins : Bool) (what : What (List ℕ)) → is_due_between family sides (entry joins group what) ≡ true
      → IsCovered sides group what
  due_is_covered joins Star due = inl refl
  due_is_covered joins (Source source) due =
      elim (changes (wants sides.asked source group SourceTree) ((wanted_side family sides).demand source group SourceTree) joins due)
      as (λ _. IsCovered sides group (Source source)) [
        | inl was ↦ asked_holds (Source source) (source_held sides.asked source group was)
        | inr is ↦ source_covered source is
      ]
  due_is_covered joins (Rpt source) due =
      elim (excepts ((wanted_side family sides).star group) (is_excepted (asked_side sides) source group) (is_excepted (wanted_side family sides) source group) joins due)
      as (λ _. IsCovered sides group (Rpt source)) [
        | inl was ↦
            let both = and_both (has_star sides.asked group) (not (wants sides.asked source group Shared)) was in
            asked_holds (Rpt source) (exception_held sides.asked source group both.0 (not_is (wants sides.asked source group Shared) both.1))
        | inr is ↦ exception_covered source is
      ]
