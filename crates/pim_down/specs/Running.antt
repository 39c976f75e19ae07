-- The state of all ports at a moment, as the code holds it, and what a message leaves for End of
-- Message.
use Rattle.std.specs.Prelude.{◌≡◌, ℕ, ◌-◌, Bool, true, false, ◌&&◌, ◌||◌, nat_eq, List, [], ◌∷◌}
use Rattle.std.specs.Cmp.Lexicographic.{pointwise}
use Rattle.pim_down.specs.declared.machines.held.Held.{Held}
use Rattle.pim_down.specs.declared.machines.machine.Record.{Record}
use Rattle.pim_down.specs.Tables.{Start}
use Rattle.pim_down.specs.Time.{Downstream, expiry_after}
use Rattle.pim_down.specs.Hearing.{Event, is_star_join, is_rpt_on, is_rpt_of}
use Rattle.pim_down.specs.Sound.{is_temporary}
use Rattle.pim_down.specs.Seen.{shown}

-- The `Downstream` that records with deadlines are at this moment.
abbrev pub downstream_at : {A : Type 0} → (A → List ℕ) → ℕ → ℕ → ℕ → List (Held A) → Downstream
downstream_at bytes_of ports limit moment records =
    record { ports = ports; limit = limit; moment = moment; records = shown bytes_of moment records }

-- The timers that a message starts, when `passed` milliseconds have passed.
abbrev pub start_after : ℕ → Start → Start
start_after passed start = record {
  expires_in = expiry_after passed start.expires_in;
  pending = record { ends_in = start.pending.ends_in - passed; several = start.pending.several };
}

-- An (S,G,rpt) record of the port in PruneTmp or Prune-Pending-Tmp: End of Message removes it.
abbrev pub is_over : ℕ → Record (List ℕ) → Bool
is_over port held = is_rpt_on port held.key && is_temporary held.machine.state

-- The same, of this group.
abbrev pub is_over_in : ℕ → List ℕ → Record (List ℕ) → Bool
is_over_in port group held = is_rpt_of port group held.key && is_temporary held.machine.state

-- One of the events is a Join(*,G) of this group.
unfoldable pub is_joined_in : List Event → List ℕ → Bool
is_joined_in [] group = false
is_joined_in (event ∷ events) group = (is_star_join event && pointwise nat_eq group event.group) || is_joined_in events group

-- Each record of the port that End of Message removes is of a group with a Join(*,G) among these
-- events.
unfoldable pub AreOverIn : ℕ → List Event → List (Record (List ℕ)) → Type 0
AreOverIn port events [] = Unit {0}
AreOverIn port events (held ∷ records) =
    (is_over port held ≡ true → is_joined_in events held.key.group ≡ true) × AreOverIn port events records
