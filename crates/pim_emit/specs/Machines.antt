-- What the downstream machines of a group say on the ports (RFC 7761, 4.5).
use Rattle.std.specs.Prelude.{◌≡◌, ℕ, ◌<◌, Bool, true, false, ◌&&◌, List, Option, None, Some, is_some}
use Rattle.std.specs.List.{list_any}
use Rattle.pim_down.specs.declared.machines.key.What.TheVariants.{Star, Source, Rpt}
use Rattle.pim_down.specs.Records.{is_on}
use Rattle.pim_down.specs.Time.{Downstream}
use Rattle.pim_form.specs.NormalForm.{same_address}
use Rattle.pim_form.specs.Wants.{is_joined, state_on, some_below}
use Rattle.pim_emit.specs.declared.machines.HeldMachine.{HeldMachine}

-- Whether the port is in joins(*,G): it has (*,G) in Join or Prune-Pending (RFC 7761, 4.1).
abbrev pub is_starred : Downstream → List ℕ → ℕ → Bool
is_starred state group port = is_joined (state_on state.records port group Star)

-- Whether the port is in joins(S,G): it has (S,G) in Join or Prune-Pending (RFC 7761, 4.1).
abbrev pub is_source_joined : Downstream → List ℕ → List ℕ → ℕ → Bool
is_source_joined state group source port = is_joined (state_on state.records port group (Source source))

-- Whether the port holds the (S,G,rpt) machine, in whichever state.
abbrev pub has_rpt : Downstream → ℕ → List ℕ → List ℕ → Bool
has_rpt state port group source = is_some (state_on state.records port group (Rpt source))

-- Whether the port holds a machine of the group.
abbrev pub has_group : Downstream → List ℕ → ℕ → Bool
has_group state group port =
    list_any (λ held. is_on port held && same_address group held.key.group) state.records

-- A number below the count that passes the test; `None` if none does.
abbrev pub IsSomeBelow : ℕ → (ℕ → Bool) → Option ℕ → Type 0
IsSomeBelow count test None = some_below count test ≡ false
IsSomeBelow count test (Some port) = (port < count) × (test port ≡ true)

-- The source of an (S,G,rpt) machine, as its bytes.
abbrev pub source_held : {A : Type 0} → (A → List ℕ) → HeldMachine A → List ℕ
source_held bytes_of held = bytes_of held.source
