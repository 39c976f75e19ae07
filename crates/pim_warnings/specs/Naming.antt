-- The names of the files of ports, and the program's fault for a fault of a capture: it names the
-- file of a port with a link.
use Rattle.std.specs.Prelude.{ℕ, zero, suc, Bool, true, false, List, [], ◌∷◌, map, cond}
use Rattle.std.specs.Prelude.{is_some, slice_index_or, Option, None, Some}
use Rattle.std.specs.Borrow.{Bor}
use Rattle.pim_capture.specs.declared.fault.CaptureFault.{CaptureFault}
use Rattle.pim_capture.specs.declared.fault.CaptureFault.TheVariants as of_capture
use Rattle.pim_files.specs.Captures.{PortFiles, of_router}
use Rattle.pim_words.specs.Faults.{is_of}
use Rattle.pim_merge.specs.declared.merge.MergeFault.{MergeFault}
use Rattle.pim_words.specs.declared.fault.RouterSide.{RouterSide}
use Rattle.pim_words.specs.declared.task.More.{More}
use Rattle.pim_words.specs.declared.task.Port.{Port}
use Rattle.pim_faults.specs.declared.fault.Fault.{Fault}
use Rattle.pim_faults.specs.declared.fault.Fault.TheVariants.{Capture, InFile, Memory}

-- Whether the fault of a capture is that memory was refused.
abbrev pub is_memory : CaptureFault → Bool
is_memory of_capture.Memory = true
is_memory other = false

-- ---- the names of a port's files

-- The names of the files of a port, in the order of their numbers. Its own file has the number 0.
abbrev pub files_named : {A : Type 0} → PortFiles A → List (Bor (List ℕ))
files_named it = it.port.file ∷ map (λ (one : More). one.file) it.more

-- The name of the file of this number; that of the port's own file if there is none.
abbrev pub name_at : {A : Type 0} → PortFiles A → ℕ → Bor (List ℕ)
name_at it number = slice_index_or (files_named it) number it.port.file

-- The name of that file, which faults of a port's capture have: that of a port with a link.
abbrev pub file_of : {A : Type 0} → PortFiles A → ℕ → Option (Bor (List ℕ))
file_of it file = cond (is_some it.port.link) (Some (name_at it file)) None

-- That of the port of this number.
abbrev pub file_at : {A : Type 0} → List (PortFiles A) → ℕ → ℕ → Option (Bor (List ℕ))
file_at [] number file = None
file_at (it ∷ ports) zero file = file_of it file
file_at (it ∷ ports) (suc number) file = file_at ports number file

-- ---- the fault

-- The fault at a record of this number in a file, if it is named.
abbrev pub in_file : Option (Bor (List ℕ)) → ℕ → CaptureFault → Fault
in_file None number cause = Capture cause
in_file (Some file) number cause = InFile cause file number

-- The program's fault for a fault of a capture of a router with these ports. The captures are
-- numbered as the ports. It names the file of the capture in which the fault is.
abbrev pub port_fault : {A : Type 0} → List (PortFiles A) → MergeFault → Fault
port_fault ports reported = cond (is_memory reported.fault) Memory
    (in_file (file_at ports reported.capture reported.file) reported.«record» reported.fault)

-- The ports of a router: of one of two routers, or all.
abbrev pub ports_of : {A : Type 0} → Option RouterSide → List (PortFiles A) → List (PortFiles A)
ports_of None ports = ports
ports_of (Some side) ports = of_router side ports

-- ---- used by private functions only

-- Whether the port is one of the router: of one of two, or of the one of all ports.
abbrev pub is_in : {A : Type 0} → Option RouterSide → Port A → Bool
is_in None port = true
is_in (Some side) port = is_of side port

-- The same of a port with its further files.
abbrev pub are_in : {A : Type 0} → Option RouterSide → PortFiles A → Bool
are_in side it = is_in side it.port
