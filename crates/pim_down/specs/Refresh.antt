-- Refreshes: a Join(S,G) at an (S,G) machine in Join whose Expiry Timer ends earlier changes this
-- end alone (RFC 7761, 4.5.2). These definitions serve private steps alone.
use Rattle.std.specs.Prelude.{◌≡◌, ℕ, zero, suc, Bool, true, false, ◌&&◌, ◌==◌, nat_eq}
use Rattle.std.specs.Prelude.{List, [], ◌∷◌, Option, None, Some}
use Rattle.std.specs.Cmp.Lexicographic.{pointwise}
use Rattle.pim_jp.specs.declared.entry.Entry.{Entry}
use Rattle.pim_jp.specs.declared.entry.Entry.TheVariants as entry
use Rattle.pim_down.specs.declared.machines.key.What.{What}
use Rattle.pim_down.specs.declared.machines.key.What.TheVariants.{Star, Source, Rpt}
use Rattle.pim_down.specs.declared.machines.key.Key.{Key}
use Rattle.pim_down.specs.declared.machines.machine.State.{State}
use Rattle.pim_down.specs.declared.machines.machine.State.TheVariants.{Join}
use Rattle.pim_down.specs.declared.machines.machine.Machine.{Machine}
use Rattle.pim_down.specs.declared.machines.machine.Record.{Record}

-- It is the (S,G) machine of this source.
abbrev pub is_of_source : List ℕ → What (List ℕ) → Bool
is_of_source source Star = false
is_of_source source (Source held) = pointwise nat_eq held source
is_of_source source (Rpt held) = false

-- The key is of the (S,G) machine of this source and group on the port.
abbrev pub is_source_of : ℕ → List ℕ → List ℕ → Key (List ℕ) → Bool
is_source_of port group source key =
    is_of_source source key.what && (pointwise nat_eq key.group group && key.port == port)

-- It is the state Join.
abbrev pub is_join : State → Bool
is_join Join = true
is_join _ = false

-- The time is this one, and not never.
abbrev pub is_time : ℕ → Option ℕ → Bool
is_time from None = false
is_time from (Some ends) = ends == from

-- The machine is in Join until this time.
abbrev pub is_joined_until : ℕ → Machine → Bool
is_joined_until from held = is_time from held.expires_in && is_join held.state

-- The entry names this (S,G) record of the port and group, which is in Join until this time.
abbrev pub names_joined : ℕ → List ℕ → ℕ → Record (List ℕ) → Entry (List ℕ) → Bool
names_joined port group from held (entry.Star rp) = false
names_joined port group from held (entry.Source source) =
    is_joined_until from held.machine && is_source_of port group source held.key
names_joined port group from held (entry.Rpt source) = false

-- This number of entries in front name this number of records in front, one after another, each in
-- Join until this time.
unfoldable pub AreJoinedUntil : ℕ → List ℕ → ℕ → ℕ → List (Record (List ℕ)) → List (Entry (List ℕ)) → Type 0
AreJoinedUntil port group from zero records entries = Unit {0}
AreJoinedUntil port group from (suc count) [] entries = true ≡ false
AreJoinedUntil port group from (suc count) (held ∷ records) [] = true ≡ false
AreJoinedUntil port group from (suc count) (held ∷ records) (named ∷ entries) =
    (names_joined port group from held named ≡ true) × AreJoinedUntil port group from count records entries
