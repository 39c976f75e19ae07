-- The end of a replay: what it returns, and the state's text.
use Rattle.pim_replay.proofs.Words.{◌≡◌, ℕ, Bool, List, [], ◌++◌, Option, Some, Ok, Err, refl, sym, subst, arith, inl}
use Rattle.pim_replay.proofs.Words.{inr, Appends, Appends-trans, AddressFamily, AppendsFront, End, MergeState}
use Rattle.pim_replay.proofs.Words.{IsTallied, RouterState, RunFault, Capture, Output, Memory, Counts, IsStateText}
use Rattle.pim_replay.proofs.Words.{WritesState, text_with, Account, nothing, counted, HasWritten, WritesAll, Stops}
use Rattle.pim_replay.proofs.Words.{none_yet, of_text, event_line, lines_of, Reports, Replays}
use Rattle.pim_report.specs.declared.state_text.StateFault.{StateFault}
use Rattle.pim_report.specs.declared.state_text.StateFault.TheVariants as text
use Rattle.pim_run.specs.Faults.{failures_of_device}
use Rattle.pim_replay.specs.Quiet.{RunsQuietly}
use Rattle.pim_replay.proofs.Told.{nothing_last, none_is_front, begun_more}
use Rattle.pim_replay.proofs.Written.{front-more}

-- ---- the run of a replay that writes nothing

pub quiet : (family : AddressFamily) (end : End) (start merge : MergeState) (state after : RouterState) (fault : RunFault) → Stops (λ event. []) family end start state (Some []) (Some []) merge fault
    → 0 ≡ failures_of_device {A = ℕ} 0 (Err fault) → IsTallied end start merge → RunsQuietly family end start merge state after {A = Unit {0}} (Err fault)
quiet family end start merge state after (Capture reported) stops none tallied = stops.0
quiet family end start merge state after Output stops none tallied = absurd (omega (arith, none))
quiet family end start merge state after Memory stops none tallied = tallied

-- ---- the state

module _ (family : AddressFamily) (end : End) (start : MergeState) (state : RouterState) (old : Option (List ℕ)) (shows_via : Bool) where
  pub cut_short : (merge : MergeState) (after : RouterState) (new : Option (List ℕ)) (fault : RunFault) → Stops (event_line family) family end start state old new merge fault
      → IsTallied end start merge → Replays family shows_via end start merge state after old new (Err fault)
  cut_short merge after new (Capture reported) stops tallied = stops
  cut_short merge after new Output stops tallied = (inl stops, tallied)
  cut_short merge after new Memory stops tallied = (inl stops, tallied)

  module _ (after : RouterState) (new newer : Option (List ℕ)) (counts : Counts) (h : HasWritten (event_line family) (WritesAll family end start state) after old new none_yet counts) where
    abbrev lines : List ℕ
    lines = lines_of family h.account.events

    ends_with : (IsSo : List ℕ → Type 0) (IsAll : List ℕ → Type 0) → ((text : List ℕ) → IsSo text → IsAll (lines ++ text)) → IsStateText family shows_via after counts IsSo
        → Reports family shows_via end start state after IsAll
    ends_with IsSo IsAll all reported = record {
      text = lines ++ text_with family shows_via after reported.form (counted none_yet h.account);
      is_report = record { account = h.account; wrote = h.wrote; form = reported.form; demand = reported.demand; text_is = refl };
      written = subst (λ (c : Counts). IsAll (lines ++ text_with family shows_via after reported.form c)) h.is_counted (all (text_with family shows_via after reported.form counts) reported.written);
    }

    pub ends_reported : WritesState family shows_via after counts new newer (Ok tt) → Reports family shows_via end start state after (Appends old newer)
    ends_reported reported = ends_with (Appends new newer) (Appends old newer) (λ text p. Appends-trans old new newer lines text h.written p) reported

    by_text : (merge : MergeState) (fault : StateFault) → WritesState family shows_via after counts new newer (Err fault)
        → IsTallied end start merge → Replays family shows_via end start merge state after old newer (Err (of_text fault))
    by_text merge text.Output reported tallied = (
      inr (after, ends_with (AppendsFront new newer) (AppendsFront old newer) (λ text p. front-more old new newer lines text h.written p) reported),
      tallied,
    )
    by_text merge text.Memory keeps tallied = (
      inl (inr (begun_more (event_line family) (WritesAll family end start state) (WritesAll family end start state) after old new newer none_yet counts h nothing after
          (subst (λ (a : Account). WritesAll family end start state a after) (sym (nothing_last h.account)) h.wrote) (none_is_front new newer [] keeps))),
      tallied,
    )

    pub not_told : (merge : MergeState) (fault : StateFault) (answer : RunFault) → answer ≡ of_text fault → WritesState family shows_via after counts new newer (Err fault)
        → IsTallied end start merge → Replays family shows_via end start merge state after old newer (Err answer)
    not_told merge fault answer is reported tallied = subst (λ a. Replays family shows_via end start merge state after old newer (Err a)) (sym is) (by_text merge fault reported tallied)
