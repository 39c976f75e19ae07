-- The line of a downstream record: its machine, its state, and the time left on its timers in
-- milliseconds (RFC 7761, 4.5.1 to 4.5.3).
use Rattle.std.specs.Prelude.{ℕ, List, ◌++◌, Option, None, Some, codes, decimal}
use Rattle.pim_addr.specs.declared.family.AddressFamily.{AddressFamily}
use Rattle.pim_down.specs.declared.machines.key.Key.{Key}
use Rattle.pim_down.specs.declared.machines.machine.State.{State}
use Rattle.pim_down.specs.declared.machines.machine.State.TheVariants.{Join, PrunePending, Prune, PruneTmp, PrunePendingTmp}
use Rattle.pim_down.specs.declared.machines.machine.Pending.{Pending}
use Rattle.pim_down.specs.declared.machines.machine.Machine.{Machine}
use Rattle.pim_down.specs.declared.machines.machine.Record.{Record}
use Rattle.pim_lines.specs.Pieces.{line, number_or}
use Rattle.pim_report.specs.EchoLine.{what_words}

-- The name of a downstream state of Figure 2, Figure 3 or Figure 4 (RFC 7761, 4.5.1 to 4.5.3). No
-- machine is in one of the two Tmp states between calls. They have names so that each record has a
-- line.
abbrev pub state_name : State → List ℕ
state_name Join = codes "join"
state_name PrunePending = codes "prune-pending"
state_name Prune = codes "prune"
state_name PruneTmp = codes "prune-tmp"
state_name PrunePendingTmp = codes "prune-pending-tmp"

-- The time left on the Prune-Pending Timer, if it runs.
abbrev pub time_left : Option Pending → Option ℕ
time_left None = None
time_left (Some timer) = Some timer.ends_in

-- The port and the machine: `port N star G`, `port N source S G` or `port N rpt S G`.
abbrev pub key_words : AddressFamily → Key (List ℕ) → List ℕ
key_words family key = codes "port " ++ decimal key.port ++ codes " " ++ what_words family key.group key.what

-- The state, the time left on the Expiry Timer (`et`), and that on the Prune-Pending Timer (`ppt`).
-- An Expiry Timer that never ends is `never`; a Prune-Pending Timer that doesn't run is `-`.
abbrev pub machine_words : Machine → List ℕ
machine_words machine = state_name machine.state ++ codes " et " ++ number_or (codes "never") machine.expires_in
    ++ codes " ppt " ++ number_or (codes "-") (time_left machine.pending)

-- The line of a record.
abbrev pub record_line : AddressFamily → Record (List ℕ) → List ℕ
record_line family reported = line (key_words family reported.key ++ codes " " ++ machine_words reported.machine)
