-- Laws of the report.
use Rattle.std.specs.Prelude.{◌≡◌, ℕ, Bool, List, ◌++◌}
use Rattle.pim_addr.specs.declared.family.AddressFamily.{AddressFamily}
use Rattle.pim_capture.specs.Capture.{Answer}
use Rattle.pim_merge.specs.declared.end.End.{End}
use Rattle.pim_merge.specs.Lane.{IsComing}
use Rattle.pim_merge.specs.Next.{MergeState}
use Rattle.pim_router.specs.State.{RouterState}
use Rattle.pim_replay.specs.Events.{Account}
use Rattle.pim_replay.specs.Replay.{WritesFirst, WritesAll}
use Rattle.pim_replay.specs.Report.{lines_of, IsReport}

-- The report, and the router after the replay, are a function of the answers of the captures.
abbrev pub ReportHasOneText : Type 0
ReportHasOneText = (family : AddressFamily) (shows_via : Bool) (end : End) (merge : MergeState)
    (captures : List (List Answer)) (state one other : RouterState) (text more : List ℕ) →
    IsComing merge.lanes captures → IsReport family shows_via end merge state one text →
    IsReport family shows_via end merge state other more → (text ≡ more) × (one ≡ other)

-- The text begins with these lines.
pub record BeginsWith (text lines : List ℕ) : Type 0 where
  pub rest : List ℕ
  pub is : text ≡ lines ++ rest

-- The text begins with the lines of any first turns of the merge. It also begins with the lines of
-- all turns and the time after them.
pub record BeginsWithItsLines (family : AddressFamily) (end : End) (merge : MergeState) (state : RouterState)
    (text : List ℕ) : Type 0 where
  pub first : (account : Account) (after : RouterState) → WritesFirst family end merge state account after →
      BeginsWith text (lines_of family account.events)
  pub all : (account : Account) (after : RouterState) → WritesAll family end merge state account after →
      BeginsWith text (lines_of family account.events)

-- Each report begins with the lines of its replay in this sense.
abbrev pub ReportBeginsWithItsLines : Type 0
ReportBeginsWithItsLines = (family : AddressFamily) (shows_via : Bool) (end : End) (merge : MergeState)
    (captures : List (List Answer)) (state after : RouterState) (text : List ℕ) → IsComing merge.lanes captures →
    IsReport family shows_via end merge state after text →
    BeginsWithItsLines family end merge state text
