-- The machines that a Join/Prune message may change, as they are before it, and what a later look
-- at them shows (RFC 7761, 4.5).
use Rattle.std.specs.Prelude.{◌≡◌, ℕ, Bool, true, false, ◌&&◌, ◌||◌, ◌==◌, nat_eq, if◌then◌else◌}
use Rattle.std.specs.Prelude.{List, [], ◌∷◌, Option, None, Some, map}
use Rattle.std.specs.Option.{is_some, option_eq}
use Rattle.std.specs.List.{AllByRecursion, list_any}
use Rattle.std.specs.List.Sorted.{IsStrictlySortedBy}
use Rattle.pim_down.specs.declared.machines.key.Key.{Key}
use Rattle.pim_down.specs.declared.machines.machine.Pending.{Pending}
use Rattle.pim_down.specs.declared.machines.machine.Machine.{Machine}
use Rattle.pim_down.specs.declared.machines.machine.Record.{Record}
use Rattle.pim_down.specs.Key.{key_cmp, same_key}
use Rattle.pim_down.specs.Records.{machine_at}
use Rattle.pim_down.specs.Hearing.{Event, key_of, is_star_join, is_rpt_of}
use Rattle.pim_down.specs.Seen.{key_seen}
use Rattle.pim_transitions.specs.declared.transition.By.{By}
use Rattle.pim_transitions.specs.declared.transition.By.TheVariants as kind
use Rattle.pim_transitions.specs.declared.transition.Transition.{Transition}
use Rattle.pim_transitions.specs.declared.candidate.Candidate.{Candidate}
use Rattle.pim_transitions.specs.Transitions.{number_of, by_state}

-- ---- before the message

-- Whether the last of these events that names the machine is a Join; `joins` where none does.
unfoldable pub joins_after : ℕ → Key (List ℕ) → Bool → List Event → Bool
joins_after port key joins [] = joins
joins_after port key joins (event ∷ events) =
    joins_after port key (if same_key (key_of port event) key then event.joins else joins) events

-- The event names the machine at the key, or it is a Join(*,G) and the machine a held (S,G,rpt)
-- machine of its group on the port (RFC 7761, 4.5.3, Figure 4).
abbrev pub reaches : ℕ → List (Record (List ℕ)) → Key (List ℕ) → Event → Bool
reaches port records key event =
    same_key (key_of port event) key
    || (is_star_join event && (is_rpt_of port event.group key && is_some (machine_at key records)))

-- One of the events reaches the machine at the key.
abbrev pub is_reached : ℕ → List Event → List (Record (List ℕ)) → Key (List ℕ) → Bool
is_reached port events records key = list_any (reaches port records key) events

-- The key is that of a candidate.
abbrev pub is_affected : Key (List ℕ) → List (Candidate (List ℕ)) → Bool
is_affected key candidates = list_any (λ candidate. same_key candidate.key key) candidates

-- The keys of the candidates, in their order.
abbrev pub keys_affected : List (Candidate (List ℕ)) → List (Key (List ℕ))
keys_affected candidates = map (λ candidate. candidate.key) candidates

-- The candidate has the machine at its key. It says whether the last event that names it is a Join,
-- and no where none names it.
pub record IsCandidate (port : ℕ) (events : List Event) (records : List (Record (List ℕ)))
    (candidate : Candidate (List ℕ)) : Type 0 where
  pub was : candidate.before ≡ machine_at candidate.key records
  pub last : candidate.joins ≡ joins_after port candidate.key false events
  pub reached : is_reached port events records candidate.key ≡ true

-- The candidates are the machines that the events reach, in key order and each once.
pub record IsAffected (port : ℕ) (events : List Event) (records : List (Record (List ℕ)))
    (candidates : List (Candidate (List ℕ))) : Type 0 where
  pub ascending : IsStrictlySortedBy key_cmp (keys_affected candidates)
  pub each : AllByRecursion (IsCandidate port events records) candidates
  pub all : (key : Key (List ℕ)) → is_reached port events records key ≡ true →
      is_affected key candidates ≡ true

-- ---- after the message

-- Both are true, or both false.
abbrev pub same_bool : Bool → Bool → Bool
same_bool true other = other
same_bool false true = false
same_bool false false = true

-- Both Prune-Pending Timers have the same time left and the same mark.
abbrev pub same_pending : Pending → Pending → Bool
same_pending one other = one.ends_in == other.ends_in && same_bool one.several other.several

-- Both machines have the same state and the same timers.
abbrev pub same_held : Machine → Machine → Bool
same_held one other =
    number_of one.state == number_of other.state
    && (option_eq nat_eq one.expires_in other.expires_in
    && option_eq same_pending one.pending other.pending)

-- The same of machines that may be in NoInfo.
abbrev pub same_machine : Option Machine → Option Machine → Bool
same_machine one other = option_eq same_held one other

-- The kind of event that changed a candidate last, by its machine after the message. A machine that
-- is held has the kind of its state. One that ended, ended by a Join(S,G,rpt) if this is the last
-- entry that names it, else by End of Message.
abbrev pub kind_by : Bool → Option Machine → By
kind_by joins None = if joins then kind.Join else kind.End
kind_by joins (Some machine) = by_state (Some machine)

-- The transition of a candidate to this machine.
abbrev pub transition_to : Candidate (List ℕ) → Option Machine → Transition (List ℕ)
transition_to candidate machine = record {
  key = candidate.key;
  before = candidate.before;
  after = machine;
  by = kind_by candidate.joins machine;
}

-- The transitions of the candidates to the machines that these records have, without those that did
-- not change.
unfoldable pub transitions_to : List (Record (List ℕ)) → List (Candidate (List ℕ)) →
    List (Transition (List ℕ))
transitions_to records [] = []
transitions_to records (candidate ∷ candidates) =
    if same_machine candidate.before (machine_at candidate.key records)
    then transitions_to records candidates
    else transition_to candidate (machine_at candidate.key records)
    ∷ transitions_to records candidates

-- ---- values of the code

module _ {A : Type 0} (bytes_of : A → List ℕ) where
  -- A candidate with its addresses as lists of bytes.
  abbrev pub candidate_seen : Candidate A → Candidate (List ℕ)
  candidate_seen candidate =
      record {
        key = key_seen bytes_of candidate.key;
        before = candidate.before;
        joins = candidate.joins;
      }

  -- A transition with its addresses as lists of bytes.
  abbrev pub transition_seen : Transition A → Transition (List ℕ)
  transition_seen item =
      record {
        key = key_seen bytes_of item.key;
        before = item.before;
        after = item.after;
        by = item.by;
      }
