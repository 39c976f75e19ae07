-- What is due is due of a machine that some side holds or local receivers have joined. So its
-- addresses are valid.
use Rattle.std.proofs.Common.{◌≡◌, ◌∙◌, ℕ, inl, inr, Bool, true, false, ◌||◌, List, [], ◌∷◌, None, Some, refl, sym, subst, cond}
use Rattle.std.proofs.lemmas.Bool.{false≢true}
use Rattle.std.specs.List.{AllByRecursion}
use Rattle.std.specs.Option.{is_some}
use Rattle.pim_addr.specs.declared.family.AddressFamily.{AddressFamily}
use Rattle.pim_down.specs.declared.machines.key.Key.{Key}
use Rattle.pim_down.specs.declared.machines.key.What.{What}
use Rattle.pim_down.specs.declared.machines.key.What.TheVariants.{Star, Source, Rpt}
use Rattle.pim_down.specs.declared.machines.machine.Record.{Record}
use Rattle.pim_down.specs.Hearing.{Event}
use Rattle.pim_down.specs.Key.{same_key}
use Rattle.pim_down.specs.Laws.{KeysAreDistinct}
unfoldable use Rattle.pim_down.specs.Records.{machine_at}
use Rattle.pim_down.specs.Records.{state_of_machine}
use Rattle.pim_down.specs.Sound.{IsReal, IsSound}
use Rattle.pim_down.specs.Time.{Downstream}
use Rattle.pim_form.specs.Wants.{is_joined, state_on}
use Rattle.pim_local.specs.Joins.{star, source_join, is_listed as is_joined_locally}
use Rattle.pim_audit.specs.Entries.{entry}
use Rattle.pim_audit.specs.Gathering.{is_due_between}
use Rattle.pim_audit.specs.Local.{local_port}
use Rattle.pim_audit.specs.Sides.{SidesState, IsEntry, has_star, wanted_side}
use Rattle.pim_audit.proofs.CoveredDues.{HeldIn, due_is_covered, some_passes, joined_some, changes, source_held}
use Rattle.pim_audit.proofs.Gather.{or_cases, and_both}
use Rattle.pim_audit.proofs.LocalPort.{local_star, local_source}

-- ---- a machine that is held has valid addresses

record ValidAt (family : AddressFamily) (key : Key (List ℕ)) : Type 0 where
  entry : IsEntry family (record { joins = true; group = key.group; what = key.what })

none_there : is_some (state_of_machine None) ≡ true → ⊥
none_there h = false≢true h

valid_at : KeysAreDistinct → (family : AddressFamily) (ports : ℕ) (records : List (Record (List ℕ))) (key : Key (List ℕ))
    → AllByRecursion (IsReal family ports) records → is_some (state_of_machine (machine_at key records)) ≡ true → ValidAt family key
unfolding machine_at
valid_at distinct family ports [] key real there = absurd (none_there there)
valid_at distinct family ports (held ∷ records) key real there =
    elim (same_key key held.key) as (λ b. same_key key held.key ≡ b
    → is_some (state_of_machine (cond b (Some held.machine) (machine_at key records))) ≡ true → ValidAt family key) [
      | true ↦ λ same found. subst (ValidAt family) (sym ((distinct key held.key).1.0 same))
          (record { entry = record { group = real.0.group; source = real.0.source } })
      | false ↦ λ apart found. valid_at distinct family ports records key real.1 found
    ] refl there

held_valid : KeysAreDistinct → (family : AddressFamily) (state : Downstream) (group : List ℕ) (what : What (List ℕ)) (joins : Bool)
    → IsSound family state → HeldIn state group what → IsEntry family (entry joins group what)
held_valid distinct family state group what joins sound held =
    let valid = valid_at distinct family state.ports state.records (record { port = held.port; group = group; what = what }) sound.real held.is in
    record { group = valid.entry.group; source = valid.entry.source }

-- ---- what is due

starred : (state : Downstream) (group : List ℕ) → has_star state group ≡ true → HeldIn state group Star
starred state group is =
    let one = some_passes state.ports (λ port. is_joined (state_on state.records port group Star)) is in
    record { port = one.port; below = one.below; is = joined_some (state_on state.records one.port group Star) one.is }

-- a machine on some side, or what local receivers have joined
pub data DueOf (sides : SidesState) (group : List ℕ) (what : What (List ℕ)) : Type 0 where
  of_asked : HeldIn sides.asked group what → DueOf sides group what
  of_wanted : HeldIn sides.wanted group what → DueOf sides group what
  of_local_star : what ≡ Star → is_joined_locally (star group) sides.local ≡ true → HeldIn (local_port sides.local) group what → DueOf sides group what
  of_local_source : (source : List ℕ) → what ≡ Source source → is_joined_locally (source_join source group) sides.local ≡ true
      → HeldIn (local_port sides.local) group what → DueOf sides group what

module _ (family : AddressFamily) (sides : SidesState) (group : List ℕ) where
  star_due : (joins : Bool) → is_due_between family sides (entry joins group Star) ≡ true → DueOf sides group Star
  star_due joins due = elim (changes (has_star sides.asked group) ((wanted_side family sides).star group) joins due) as (λ _. DueOf sides group Star) [
    | inl was ↦ of_asked (starred sides.asked group was)
    | inr is ↦
        elim (or_cases (has_star sides.wanted group) (has_star (local_port sides.local) group)
        (and_both (has_star sides.wanted group || has_star (local_port sides.local) group) _ is).0) as (λ _. DueOf sides group Star) [
          | inl joined ↦ of_wanted (starred sides.wanted group joined)
          | inr listed ↦ of_local_star refl (sym (local_star sides.local group) ∙ listed) (starred (local_port sides.local) group listed)
        ]
  ]

  pub machine_due : (joins : Bool) (what : What (List ℕ)) → is_due_between family sides (entry joins group what) ≡ true → DueOf sides group what
  machine_due joins Star due = star_due joins due
  machine_due joins (Source source) due = elim (due_is_covered family sides group joins (Source source) due) as (λ _. DueOf sides group (Source source)) [
    | inl is ↦ absurd cc
    | inr some ↦ elim some as (λ _. DueOf sides group (Source source)) [
      | inl held ↦ of_asked held
      | inr other ↦ elim other as (λ _. DueOf sides group (Source source)) [
        | inl held ↦ of_wanted held
        | inr listed ↦ of_local_source source refl listed
            (source_held (local_port sides.local) source group (local_source sides.local source group ∙ listed))
      ]
    ]
  ]
  machine_due joins (Rpt source) due = elim (due_is_covered family sides group joins (Rpt source) due) as (λ _. DueOf sides group (Rpt source)) [
    | inl is ↦ absurd cc
    | inr some ↦ elim some as (λ _. DueOf sides group (Rpt source)) [
      | inl held ↦ of_asked held
      | inr other ↦ elim other as (λ _. DueOf sides group (Rpt source)) [
        | inl held ↦ of_wanted held
        | inr none ↦ absurd none
      ]
    ]
  ]

-- the addresses of what is due are valid
pub due_valid : KeysAreDistinct → (family : AddressFamily) (sides : SidesState) → IsSound family sides.asked → IsSound family sides.wanted
    → IsSound family (local_port sides.local) → (this : Event) → is_due_between family sides this ≡ true → IsEntry family this
due_valid distinct family sides of_asked_sound of_wanted_sound of_local_sound this due =
    elim (machine_due family sides this.group this.joins this.what due) as (λ _. IsEntry family this) [
      | of_asked held ↦ held_valid distinct family sides.asked this.group this.what this.joins of_asked_sound held
      | of_wanted held ↦ held_valid distinct family sides.wanted this.group this.what this.joins of_wanted_sound held
      | of_local_star is listed held ↦ held_valid distinct family (local_port sides.local) this.group this.what this.joins of_local_sound held
      | of_local_source source is listed held ↦ held_valid distinct family (local_port sides.local) this.group this.what this.joins of_local_sound held
    ]
