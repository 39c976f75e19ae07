-- The run of an audit over the turns of a merge, and what it writes.
use Rattle.std.specs.Prelude.{◌≡◌, ◌⊎◌, ℕ, List, [], ◌∷◌, ◌++◌, Option, None, Some, option_map, slice_index_or}
use Rattle.std.specs.Prelude.{Result, Ok, Err}
use Rattle.std.specs.Io.KnownBytes.{Appends}
use Rattle.std.specs.List.{flat_map}
use Rattle.pim_addr.specs.declared.family.AddressFamily.{AddressFamily}
use Rattle.pim_capture.specs.declared.incomplete.RecordPlace.{RecordPlace}
use Rattle.pim_device.specs.Device.{AppendsFront}
use Rattle.pim_merge.specs.declared.end.End.{End}
use Rattle.pim_merge.specs.Content.{Content, holds, content_in}
use Rattle.pim_merge.specs.Ends.{end_moment}
use Rattle.pim_merge.specs.Merge.{Taken}
use Rattle.pim_merge.specs.Next.{MergeState}
use Rattle.pim_local.specs.Joins.{Join}
use Rattle.pim_router.specs.Reading.{read_as}
use Rattle.pim_router.specs.State.{RouterState}
use Rattle.pim_run.specs.declared.fault.RunFault.{RunFault}
use Rattle.pim_run.specs.declared.fault.RunFault.TheVariants as fault
use Rattle.pim_run.specs.Run.{Runs, BreaksOff}
use Rattle.pim_events.specs.declared.event.OwnRestart.{OwnRestart}
use Rattle.pim_trace.specs.Ledger.{Ledger, frame_of, none_skipped}
use Rattle.pim_trace.specs.Trace.{ledger_for}
use Rattle.pim_trace.specs.Turn.{counting}
use Rattle.pim_audit_events.specs.declared.line.AuditTotals.{AuditTotals}
use Rattle.pim_audit_events.specs.Lines.{Origin, Statement, ended}
use Rattle.pim_audit.specs.declared.look.Report.{Report}
use Rattle.pim_audit.specs.declared.passing.Ended.{Ended}
use Rattle.pim_audit.specs.declared.turn.TurnReport.{TurnReport}
use Rattle.pim_audit.specs.Audited.{AuditState, LooksAt, with_due}
use Rattle.pim_audit.specs.Lines.{line}
use Rattle.pim_audit.specs.Own.{own_generation, own_restart, after_own}
use Rattle.pim_audit.specs.Seen.{report_seen}
use Rattle.pim_audit.specs.Steps.{PassesAll}
use Rattle.pim_audit.specs.Totals.{nothing_counted, with_lines, with_all_open, status_of}
use Rattle.pim_audit.specs.Turn.{ReceivedMessage, TakesTurn}
use Rattle.pim_audit.specs.TurnLines.{report_lines, end_lines, turn_lines}

-- How far captures were read, as the ledger of a trace has it: the place of the last record that was
-- taken of each, and the time of the first record that has one. For each port it has the Generation ID of the
-- last Hello that the port's own address sent.
pub record Progress : Type 0 where
  pub frames : List RecordPlace
  pub begin : Option ℕ
  pub own : List (Option (Option ℕ))

-- What a ledger has of it.
abbrev pub progress_of : Ledger → Progress
progress_of ledger = record { frames = ledger.frames; begin = ledger.begin; own = ledger.own }

-- A ledger that remembers nothing else.
abbrev pub ledger_of : Progress → Ledger
ledger_of progress = record {
  frames = progress.frames;
  begin = progress.begin;
  own = progress.own;
  hellos = λ port address. None;
  causes = λ key. None;
  skipped = none_skipped;
}

-- The progress when the record of a turn is counted.
abbrev pub counted : Taken → Progress → Progress
counted turn progress = progress_of (counting turn (ledger_of progress))

-- What an audit keeps over its run, beside the router: the audit itself, how far captures were read,
-- and the totals.
pub record RunState : Type 0 where
  pub audit : AuditState
  pub progress : Progress
  pub totals : AuditTotals

-- What an audit keeps of a new router, before any record.
abbrev pub run_at_start : List ℕ → ℕ → List Join → ℕ → RouterState → RunState
run_at_start upstream grace local limit router = record {
  audit = record {
    upstream = upstream;
    grace = grace;
    local = local;
    asked = record { ports = 1; limit = limit; moment = 0; records = [] };
    due = [];
  };
  progress = progress_of (ledger_for router);
  totals = nothing_counted;
}

-- ---- the message of a record

-- The message of a record, if it holds one of the router's family.
abbrev pub message_in : AddressFamily → Content → Option ReceivedMessage
message_in family (holds source destination payload) =
    Some (record { source = source; reading = read_as family source destination payload })
message_in family other = None

-- The message of the record of a turn.
abbrev pub message_of : AddressFamily → Taken → Option ReceivedMessage
message_of family turn = message_in family (content_in family turn.reported)

-- The record of the message, by its port and its place in the port's capture.
abbrev pub origin_of : ℕ → RecordPlace → Option ReceivedMessage → Option Origin
origin_of port frame message =
    option_map (λ (received : ReceivedMessage). record { port = port; frame = frame; from = received.source }) message

-- The Generation ID of the message, if it is a Hello of the port's own address.
abbrev pub own_in : ℕ → RouterState → Option ReceivedMessage → Option (Option ℕ)
own_in port router None = None
own_in port router (Some received) = own_generation port router received.source received.reading

-- The place of the record that was counted last on this port.
abbrev pub frame_on : ℕ → Progress → RecordPlace
frame_on port progress = frame_of port (ledger_of progress)

-- The restart of the router of which the message of a turn says, whose record was counted.
abbrev pub restart_in : ℕ → RouterState → Option ReceivedMessage → Progress → Option OwnRestart
restart_in port router message progress =
    own_restart (frame_on port progress) (slice_index_or progress.own port None) (own_in port router message)

-- The progress after the message of a turn.
abbrev pub progress_after : ℕ → RouterState → Option ReceivedMessage → Progress → Progress
progress_after port router message progress = progress_of (after_own port (own_in port router message) (ledger_of progress))

module _ {A : Type 0} (family : AddressFamily) (bytes_of : A → List ℕ) where
  -- Time passes up to the moment. These are the lines of the ends on the way.
  pub record PassesOn (moment : ℕ) (run : RunState) (router : RouterState) (lines : List Statement) (after : AuditState)
      (router' : RouterState) : Type 0 where
    pub ends : List (Ended A)
    pub passes : PassesAll family bytes_of moment [] run.audit router ends after router'
    pub lines_are : lines ≡ flat_map (end_lines bytes_of) ends

module _ {A : Type 0} (family : AddressFamily) (bytes_of : A → List ℕ) (groups : List (List ℕ)) where
  -- ---- a turn

  -- A turn, and its lines.
  pub record AuditsTurn (turn : Taken) (run : RunState) (router : RouterState) (lines : List Statement) (run' : RunState)
      (router' : RouterState) : Type 0 where
    pub report : TurnReport A
    pub takes : TakesTurn family bytes_of turn.moment turn.capture (message_of family turn) run.audit router report run'.audit router'
    pub lines_are : lines ≡ turn_lines bytes_of router'.machines.moment
        (origin_of turn.capture (frame_on turn.capture (counted turn run.progress)) (message_of family turn))
        (restart_in turn.capture router (message_of family turn) (counted turn run.progress)) report
    pub progress : run'.progress ≡ progress_after turn.capture router (message_of family turn) (counted turn run.progress)
    pub totals : run'.totals ≡ with_lines groups lines run.totals
    -- both are at one moment
    pub together : run'.audit.asked.moment ≡ router'.machines.moment

  -- ---- after the turns

  -- Time passes up to the end of the run, at this moment. The last look follows, and then a line with
  -- the totals.
  pub record Closes (moment : ℕ) (run : RunState) (router : RouterState) (lines : List Statement) (totals : AuditTotals)
      (router' : RouterState) : Type 0 where
    pub way : List Statement
    pub passed : AuditState
    pub passes : PassesOn family bytes_of moment run router way passed router'
    pub report : Report A
    pub after : AuditState
    pub looks : LooksAt family passed router' (report_seen bytes_of after.due report)
    pub rest : after ≡ with_due passed after.due
    pub totals_are : totals ≡ with_all_open groups router'.machines.moment after.due
        (with_lines groups (way ++ report_lines bytes_of router'.machines.moment None report) run.totals)
    pub lines_are : lines ≡ (way ++ report_lines bytes_of router'.machines.moment None report)
        ++ line router'.machines.moment None (ended totals) ∷ []

  -- ---- what is written, where `text` is what is written of a line

  module _ (text : Option ℕ → Statement → List ℕ) where
    -- What is written of these lines.
    abbrev pub text_of : RunState → List Statement → List ℕ
    text_of run lines = flat_map (text run.progress.begin) lines

    -- A turn whose lines were written.
    pub record WritesTurn (turn : Taken) (run : RunState) (router : RouterState) (old : Option (List ℕ)) (run' : RunState)
        (router' : RouterState) (new : Option (List ℕ)) : Type 0 where
      pub lines : List Statement
      pub audits : AuditsTurn turn run router lines run' router'
      pub written : Appends old new (text_of run' lines)

    -- A front of the lines of a turn was written.
    pub record HasBegun (turn : Taken) (run : RunState) (router : RouterState) (old new : Option (List ℕ)) : Type 0 where
      pub lines : List Statement
      pub run' : RunState
      pub router' : RouterState
      pub audits : AuditsTurn turn run router lines run' router'
      pub written : AppendsFront old new (text_of run' lines)

    -- What a turn has written that wasn't taken to its end: nothing, or a front of its lines.
    abbrev pub BeginsTurn : Taken → RunState → RouterState → Option (List ℕ) → Option (List ℕ) → Type 0
    BeginsTurn turn run router old new = (new ≡ old) ⊎ HasBegun turn run router old new

    -- A front was written of the lines of the end of the run, at this moment, or nothing of them.
    abbrev pub EndsFront : ℕ → RunState → RouterState → Option (List ℕ) → Option (List ℕ) → Type 0
    EndsFront moment run router old new = (new ≡ old)
        ⊎ (lines : List Statement) × (totals : AuditTotals) × (last : RouterState)
        × Closes moment run router lines totals last × AppendsFront old new (text_of run lines)

    -- What is written after the turns, where all were taken: at Ok the lines of the end of the run, at
    -- this moment.
    abbrev pub WritesEnd : ℕ → RunState → RouterState → RouterState → Option (List ℕ) → Option (List ℕ) →
        Result AuditTotals RunFault → Type 0
    WritesEnd moment run router router' old new (Ok totals) =
        (lines : List Statement) × Closes moment run router lines totals router' × Appends old new (text_of run lines)
    WritesEnd moment run router router' old new (Err (fault.Capture reported)) = ⊥
    WritesEnd moment run router router' old new (Err fault.Output) = EndsFront moment run router old new
    WritesEnd moment run router router' old new (Err fault.Memory) = EndsFront moment run router old new

    -- A front was written of the lines of what is due at the present moment, or nothing of them.
    abbrev pub StopsFront : RunState → RouterState → Option (List ℕ) → Option (List ℕ) → Type 0
    StopsFront run router old new = (new ≡ old)
        ⊎ (lines : List Statement) × (after : AuditState) × (last : RouterState)
        × PassesOn family bytes_of router.machines.moment run router lines after last × AppendsFront old new (text_of run lines)

    -- What is written after the turns, where a fault of a capture ended the run: at Ok the lines of what
    -- is still due at the present moment.
    abbrev pub WritesStop : RunState → RouterState → RouterState → Option (List ℕ) → Option (List ℕ) →
        Result (Unit {0}) RunFault → Type 0
    WritesStop run router router' old new (Ok done) = (lines : List Statement) × (after : AuditState)
        × PassesOn family bytes_of router.machines.moment run router lines after router' × Appends old new (text_of run lines)
    WritesStop run router router' old new (Err (fault.Capture reported)) = ⊥
    WritesStop run router router' old new (Err fault.Output) = StopsFront run router old new
    WritesStop run router router' old new (Err fault.Memory) = StopsFront run router old new

    module _ (end : End) (merge : MergeState) (first : RunState) (router : RouterState) (old : Option (List ℕ)) (merge' : MergeState) where
      -- The run over the turns ended with this result, and then this holds.
      pub record AfterTurns (result : Result (Unit {0}) RunFault) (Then : RunState → RouterState → Option (List ℕ) → Type 0) : Type 0 where
        pub run : RunState
        pub between : RouterState
        pub mid : Option (List ℕ)
        pub runs : Runs WritesTurn BeginsTurn end merge merge' first router old {A = Unit {0}} run between mid result
        pub next : Then run between mid

      -- What follows the turns where the device failed, or memory was refused: a front of the lines that
      -- follow a run over them with this result, or nothing of them. The run itself ended, at the end or
      -- at a fault of a capture.
      abbrev pub BreaksAfter : Result (Unit {0}) RunFault → RunState → RouterState → Option (List ℕ) → Option (List ℕ) → Type 0
      BreaksAfter (Ok done) run between mid new = EndsFront (end_moment end merge'.clock between.machines.moment) run between mid new
      BreaksAfter (Err (fault.Capture reported)) run between mid new = StopsFront run between mid new
      BreaksAfter (Err fault.Output) run between mid new = ⊥
      BreaksAfter (Err fault.Memory) run between mid new = ⊥

      -- The device failed, or memory was refused: a front was written of what an audit of these captures
      -- writes.
      abbrev pub Breaks : Option (List ℕ) → Type 0
      Breaks new = BreaksOff WritesTurn BeginsTurn end merge merge' first router old new
          ⊎ (result : Result (Unit {0}) RunFault) × AfterTurns result (λ run between mid. BreaksAfter result run between mid new)

      -- What an audit returns and writes. At Ok it has written the lines of all turns and of the end of
      -- the run. After a fault of a capture it has written those of the turns before it, and of what was
      -- still due then. After any other fault it has written a front.
      abbrev pub Audits : RouterState → Option (List ℕ) → Result ℕ RunFault → Type 0
      Audits router' new (Ok status) = (totals : AuditTotals) × (status ≡ status_of totals)
          × AfterTurns (Ok tt) (λ run between mid.
          WritesEnd (end_moment end merge'.clock between.machines.moment) run between router' mid new (Ok totals))
      Audits router' new (Err (fault.Capture reported)) = AfterTurns (Err (fault.Capture reported)) (λ run between mid.
          WritesStop run between router' mid new (Ok tt))
      Audits router' new (Err fault.Output) = Breaks new
      Audits router' new (Err fault.Memory) = Breaks new
