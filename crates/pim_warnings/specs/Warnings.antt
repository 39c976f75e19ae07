-- The warnings on the captures of a router after its run, by what was taken of each.
use Rattle.std.specs.Prelude.{ℕ, Bool, true, false, suc, nat_lt, cond, is_some, List, [], ◌∷◌, ◌++◌, Option, None, Some}
use Rattle.std.specs.List.{flat_map}
use Rattle.pim_addr.specs.declared.family.AddressFamily.{AddressFamily}
use Rattle.pim_addr.specs.Routes.{RouteTable}
use Rattle.pim_merge.specs.declared.census.Census.{Census}
use Rattle.pim_merge.specs.Missing.{misses, without_rp}
use Rattle.pim_files.specs.Captures.{PortFiles}
use Rattle.pim_capture.specs.declared.incomplete.Incomplete.{Incomplete as Lacking}
use Rattle.pim_capture.specs.declared.incomplete.RecordPlace.{RecordPlace}
use Rattle.pim_merge.specs.declared.tally.Tally.{Tally}
use Rattle.pim_merge.specs.Lane.{tallies_of}
use Rattle.pim_merge.specs.Next.{MergeState}
use Rattle.pim_merge.specs.Tally.{tally_at}
use Rattle.pim_faults.specs.declared.warning.Warning.{Warning}
use Rattle.pim_faults.specs.declared.warning.Warning.TheVariants.{CutShort, MoreCutShort, Fragments, Incomplete, CutFrames, RunsBack, Jumps}
use Rattle.pim_faults.specs.Missing.{missed_text, unserved_text}
use Rattle.pim_faults.specs.Unchosen.{unchosen_text}
use Rattle.pim_merge.specs.declared.unchosen.Unchosen.{Unchosen}
use Rattle.pim_faults.specs.Words.{warning_text}
use Rattle.pim_warnings.specs.Naming.{name_at}

-- A count that isn't 0, as the place that its warning names: the port's own file. Counts are of all
-- files of a port.
abbrev pub counted : ℕ → Option RecordPlace
counted count = cond (nat_lt 0 count) (Some (record { file = 0; «record» = count })) None

-- The warning on packets whose fragments are incomplete, if there are any.
abbrev pub incomplete_row : Option Lacking → Warning × Option RecordPlace
incomplete_row None = (Incomplete 0, None)
incomplete_row (Some packets) = (Incomplete packets.packets, Some packets.first)

-- The warnings on records, in order, each with what it names, if it is there: a file of the port
-- and a number.
abbrev pub rows_of : Tally → List (Warning × Option RecordPlace)
rows_of tally = (MoreCutShort, counted tally.more_cut_short)
    ∷ (Fragments, counted tally.fragments)
    ∷ incomplete_row tally.incomplete
    ∷ (CutFrames, counted tally.cut_frames)
    ∷ (RunsBack, tally.ran_back)
    ∷ (Jumps, tally.jumped)
    ∷ []

-- The line of a warning on a port's capture, if it is there.
abbrev pub warned : {A : Type 0} → PortFiles A → Warning → Option RecordPlace → List ℕ
warned it warning None = []
warned it warning (Some place) = warning_text warning (name_at it place.file).now place.«record»

-- The lines of these warnings.
unfoldable pub record_warnings : {A : Type 0} → PortFiles A → List (Warning × Option RecordPlace) → List ℕ
record_warnings it rows = flat_map (λ (row : Warning × Option RecordPlace). warned it row.0 row.1) rows

-- The lines of the warnings on records, by what was taken of a port's capture.
unfoldable pub tally_warnings : {A : Type 0} → PortFiles A → Tally → List ℕ
tally_warnings it tally = record_warnings it (rows_of tally)

-- The lines of the warnings on files that end inside the records at these places.
unfoldable pub cut_warnings : {A : Type 0} → PortFiles A → List (Option RecordPlace) → List ℕ
cut_warnings it places = flat_map (λ (place : Option RecordPlace). warned it CutShort place) places

-- The warning on records that aren't chosen, if there are any, where a record with a time was taken
-- last at this time.
abbrev pub unchosen_line : List ℕ → Option ℕ → Option Unchosen → List ℕ
unchosen_line file None (Some unchosen) = unchosen_text file unchosen
unchosen_line file last unchosen = []

-- The warning that no record of a capture is chosen, if there are others.
unfoldable pub unchosen_warning : List ℕ → Tally → List ℕ
unchosen_warning file tally = unchosen_line file tally.last tally.unchosen

-- The warnings on the records of a port's capture. The port's own file names that on a choice.
unfoldable pub port_records : {A : Type 0} → PortFiles A → Tally → List ℕ
port_records it tally = cut_warnings it tally.cut_short ++ tally_warnings it tally
    ++ unchosen_warning it.port.file.now tally

-- The warning that no message of a capture is for the router of this census, if messages are for
-- others.
unfoldable pub missed_warning : AddressFamily → List ℕ → Census → List ℕ
missed_warning family file census = cond (misses census) (missed_text family file census) []

-- The warning that this group of a Join(*,G) has no RP, if there is such a group.
abbrev pub unserved_group : AddressFamily → List ℕ → Option (List ℕ) → List ℕ
unserved_group family file None = []
unserved_group family file (Some group) = unserved_text family file group

-- The warning that a Join(*,G) for the router of this census is of a group without an RP in the
-- table.
unfoldable pub unserved_warning : AddressFamily → RouteTable → List ℕ → Census → List ℕ
unserved_warning family table file census = unserved_group family file (without_rp family table census)

-- The warnings on whom the messages of a capture name, if that was counted.
unfoldable pub census_warnings : AddressFamily → RouteTable → List ℕ → Option Census → List ℕ
census_warnings family table file None = []
census_warnings family table file (Some census) =
    missed_warning family file census ++ unserved_warning family table file census

-- What is known of a capture after a run that ended without a fault, or with one. Where a fault ended
-- it, it isn't known whether a later record is chosen.
abbrev pub known : Bool → Tally → Tally
known true tally = tally
known false tally = record tally { unchosen = None }

-- The warnings on the capture of a port. There are none on that of a port without a link. The port's
-- own file names those on messages.
abbrev pub port_warnings : {A : Type 0} → AddressFamily → RouteTable → PortFiles A → Tally → List ℕ
port_warnings family table it tally = cond (is_some it.port.link) (port_records it tally
    ++ census_warnings family table it.port.file.now tally.census) []

-- `whole` says whether the run ended without a fault.
module _ {A : Type 0} (family : AddressFamily) (table : RouteTable) (whole : Bool) where
  -- Those on the captures of these ports, of which the first has this number.
  abbrev pub warnings_from : ℕ → List (PortFiles A) → List Tally → List ℕ
  warnings_from number [] tallies = []
  warnings_from number (it ∷ ports) tallies =
      port_warnings family table it (known whole (tally_at number tallies)) ++ warnings_from (suc number) ports tallies

  -- The warnings on all captures of a router with these ports.
  abbrev pub warnings_text : List (PortFiles A) → MergeState → List ℕ
  warnings_text ports merge = warnings_from 0 ports (tallies_of merge.lanes)
