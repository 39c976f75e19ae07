-- The line of a fault.
use Rattle.std.specs.Prelude.{◌==◌, ℕ, Bool, true, false, if◌then◌else◌, List, [], ◌++◌, codes, decimal, unwrap_or}
use Rattle.clap.specs.declared.error.kind.ErrorKind.{ErrorKind}
use Rattle.clap.specs.Values.{kind_text}
use Rattle.pim_report.specs.Malformed.{frame_words, hello_words, join_prune_words}
use Rattle.pim_addr.specs.declared.family.AddressFamily.TheVariants.{Ipv4, Ipv6}
use Rattle.pim_addr.specs.Text.{address_text}
use Rattle.pim_text.specs.declared.build.fault.BuildFault.{BuildFault}
use Rattle.pim_text.specs.declared.build.fault.BuildFault.TheVariants as of_build
use Rattle.pim_capture.specs.Names.{text_of}
use Rattle.pim_capture.specs.declared.fault.CaptureFault.{CaptureFault}
use Rattle.pim_capture.specs.declared.fault.CaptureFault.TheVariants as capture
use Rattle.pim_capture.specs.declared.vlan.Vlan.{Vlan}
use Rattle.pim_files.specs.declared.opener.FileCause.{FileCause}
use Rattle.pim_files.specs.declared.opener.FileCause.TheVariants as opening
use Rattle.pim_files.specs.declared.local.fault.LocalFileFault.{LocalFileFault}
use Rattle.pim_files.specs.declared.local.fault.LocalFileFault.TheVariants as local
use Rattle.pim_files.specs.declared.routes.fault.RoutesFault.{RoutesFault}
use Rattle.pim_files.specs.declared.routes.fault.RoutesFault.TheVariants as routes
use Rattle.pim_lines.specs.declared.either.AnyAddress.{AnyAddress}
use Rattle.pim_lines.specs.declared.either.AnyAddress.TheVariants as either
use Rattle.pim_words.specs.declared.fault.RouterSide.{RouterSide}
use Rattle.pim_words.specs.declared.fault.RouterSide.TheVariants as side
use Rattle.pim_words.specs.declared.fault.ConfigCause.{ConfigCause}
use Rattle.pim_words.specs.declared.fault.ConfigCause.TheVariants as config
use Rattle.pim_words.specs.declared.fault.CommandFault.{CommandFault as WordsFault}
use Rattle.pim_words.specs.declared.fault.CommandFault.TheVariants as words
use Rattle.pim_faults.specs.declared.fault.Fault.{Fault}
use Rattle.pim_faults.specs.declared.fault.Fault.TheVariants.{Words, File, Unopened, RoutesTooLong, RoutesRead, RoutesLine, Capture, InFile}
use Rattle.pim_faults.specs.declared.fault.Fault.TheVariants.{LocalTooLong, LocalRead, LocalLine}
use Rattle.pim_faults.specs.declared.fault.Fault.TheVariants.{Frame, Hello, JoinPrune, TooBig, Full, InputTooLong}
use Rattle.pim_faults.specs.declared.fault.Fault.TheVariants.{TextTooLong, TextLine, TextFamily, InputRead, Output, Memory}
use Rattle.pim_faults.specs.declared.warning.Warning.{Warning}
use Rattle.pim_faults.specs.declared.warning.Warning.TheVariants.{CutShort, MoreCutShort, Fragments, Incomplete, CutFrames, RunsBack, Jumps}
use Rattle.pim_lines.specs.Pieces.{line}

-- The short text that `clap` has for a kind of error. It has none for a request for help.
abbrev pub refusal_words : ErrorKind → List ℕ
refusal_words kind = unwrap_or (kind_text kind) (codes "help")

-- The words of a router without a port.
abbrev pub no_port_words : RouterSide → List ℕ
no_port_words side.A = codes "no port for a"
no_port_words side.B = codes "no port for b"

-- The words of a router that can't be configured so.
abbrev pub config_words : ConfigCause → List ℕ
config_words config.Ports = codes "config ports"
config_words config.Address = codes "config address"
config_words config.Rp = codes "config rp"

-- A VLAN as `--vlan` takes it: its tag, or two tags with a point between them.
unfoldable pub vlan_words : Vlan → List ℕ
vlan_words vlan =
    decimal vlan.outer ++ (if vlan.inner == 0 then [] else codes "." ++ decimal vlan.inner)

-- The words of two VLANs in one capture.
abbrev pub vlans_words : Vlan → Vlan → List ℕ
vlans_words first other = codes "capture vlans " ++ vlan_words first ++ codes "," ++ vlan_words other

-- The words of a fault of a capture.
abbrev pub capture_words : CaptureFault → List ℕ
capture_words capture.Magic = codes "capture magic"
capture_words capture.LinkType = codes "capture link-type"
capture_words (capture.LinkNumber number) = codes "capture link-type " ++ decimal number
capture_words capture.Gzip = codes "capture gzip"
capture_words capture.Truncated = codes "capture truncated"
capture_words capture.TooLong = codes "capture too-long"
capture_words capture.Read = codes "capture read"
capture_words capture.Failed = codes "capture read"
capture_words capture.Memory = codes "memory"
capture_words capture.Block = codes "capture block"
capture_words capture.Time = codes "capture time"
capture_words (capture.Vlans first other) = vlans_words first other
capture_words (capture.Interfaces first other) =
    codes "capture interfaces " ++ decimal first ++ codes "," ++ decimal other
capture_words (capture.InterfaceNames first other) =
    codes "capture interfaces " ++ text_of first ++ codes "," ++ text_of other

-- Whether a fault of a capture is one of a single record.
abbrev pub is_of_record : CaptureFault → Bool
is_of_record capture.TooLong = true
is_of_record capture.Block = true
is_of_record capture.Time = true
is_of_record other = false

-- The words that say in which file a fault is, and at which record if it is one of a single record.
abbrev pub place_words : Bool → List ℕ → ℕ → List ℕ
place_words true file number = codes " in " ++ file ++ codes " at record " ++ decimal number
place_words false file number = codes " in " ++ file

-- The words that say why a file can't be opened.
abbrev pub file_words : FileCause → List ℕ
file_words opening.Missing = codes ": no such file"
file_words opening.Denied = codes ": permission denied"
file_words opening.Directory = codes ": is a directory"
file_words opening.Other = codes ""

-- The text of an address of either family.
abbrev pub address_words : AnyAddress → List ℕ
address_words (either.V4 address) = address_text Ipv4 address
address_words (either.V6 address) = address_text Ipv6 address

-- The program's fault for a fault of the routes file.
abbrev pub routes_fault : RoutesFault → Fault
routes_fault routes.TooLong = RoutesTooLong
routes_fault routes.Read = RoutesRead
routes_fault (routes.Line number) = RoutesLine number
routes_fault routes.Memory = Memory

-- The program's fault for a fault of the file of local receivers.
abbrev pub local_fault : LocalFileFault → Fault
local_fault local.TooLong = LocalTooLong
local_fault local.Read = LocalRead
local_fault (local.Line number) = LocalLine number
local_fault local.Memory = Memory

-- The program's fault for a fault of building.
abbrev pub build_fault : BuildFault → Fault
build_fault of_build.Read = InputRead
build_fault of_build.TooLong = TextTooLong
build_fault (of_build.Line number) = TextLine number
build_fault of_build.Family = TextFamily
build_fault (of_build.Frame fault) = Frame fault
build_fault (of_build.Hello fault) = Hello fault
build_fault (of_build.JoinPrune fault) = JoinPrune fault
build_fault of_build.Memory = Memory

-- The words of a fault of the command line.
abbrev pub plan_words : WordsFault → List ℕ
plan_words (words.Clap refusal) = refusal_words refusal.kind
plan_words words.TwoEnds = codes "two ends"
plan_words (words.Address word) = codes "address " ++ word.now
plan_words (words.Word word) = codes "word " ++ word.now
plan_words words.Family = codes "family"
plan_words (words.NoPort side) = no_port_words side
plan_words words.WriterAddress = codes "writer address"
plan_words (words.Config cause) = config_words cause
plan_words words.Memory = codes "memory"

-- The words of any fault of the program.
abbrev pub fault_words : Fault → List ℕ
fault_words (Words fault) = plan_words fault
fault_words (File word) = codes "file " ++ word.now
fault_words (Unopened file cause) = codes "file " ++ file.now ++ file_words cause
fault_words RoutesTooLong = codes "routes too-long"
fault_words RoutesRead = codes "routes read"
fault_words (RoutesLine number) = codes "routes line " ++ decimal number
fault_words LocalTooLong = codes "local too-long"
fault_words LocalRead = codes "local read"
fault_words (LocalLine number) = codes "local line " ++ decimal number
fault_words (Capture cause) = capture_words cause
fault_words (InFile cause file number) = capture_words cause ++ place_words (is_of_record cause) file.now number
fault_words (Frame fault) = frame_words fault
fault_words (Hello fault) = hello_words fault
fault_words (JoinPrune fault) = join_prune_words fault
fault_words (TooBig group) = codes "too big " ++ address_words group
fault_words (Full needed) = codes "full " ++ decimal needed
fault_words InputTooLong = codes "input too-long"
fault_words TextTooLong = codes "text too-long"
fault_words (TextLine number) = codes "text line " ++ decimal number
fault_words TextFamily = codes "family"
fault_words InputRead = codes "input read"
fault_words Output = codes "output"
fault_words Memory = codes "memory"

-- The line of a fault, as the program writes it.
abbrev pub fault_text : Fault → List ℕ
fault_text fault = line (codes "pimtree: " ++ fault_words fault)

-- The line of a fault that ends the lines of what precedes it.
abbrev pub ending_text : Fault → List ℕ
ending_text fault = line (codes "fault " ++ fault_words fault)

-- The words of a warning on the capture in this file, with its number.
abbrev pub warning_words : Warning → List ℕ → ℕ → List ℕ
warning_words CutShort file number = file ++ codes " ends inside record " ++ decimal number
warning_words MoreCutShort file number =
    file ++ codes " has " ++ decimal number ++ codes " more files that end inside a record"
warning_words Fragments file number =
    file ++ codes " has " ++ decimal number ++ codes " fragments, which are skipped"
warning_words (Incomplete packets) file number = file ++ codes " has " ++ decimal packets
    ++ codes " packets whose fragments are incomplete, first in record " ++ decimal number
warning_words CutFrames file number =
    file ++ codes " has " ++ decimal number ++ codes " frames that are cut by the snapshot length"
warning_words RunsBack file number = codes "time runs back in " ++ file ++ codes " at record " ++ decimal number
warning_words Jumps file number = codes "time jumps in " ++ file ++ codes " at record " ++ decimal number

-- The line of a warning, as the program writes it.
abbrev pub warning_text : Warning → List ℕ → ℕ → List ℕ
warning_text warning file number = line (codes "pimtree: warning: " ++ warning_words warning file number)
