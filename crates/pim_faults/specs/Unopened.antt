-- The faults that the program gives for files that aren't open.
use Rattle.pim_files.specs.declared.fault.OpenFault.{OpenFault}
use Rattle.pim_files.specs.declared.fault.OpenFault.TheVariants as opening
use Rattle.pim_words.specs.declared.fault.ConfigCause.{ConfigCause}
use Rattle.pim_words.specs.declared.fault.ConfigCause.TheVariants as cause
use Rattle.pim_words.specs.declared.fault.CommandFault.TheVariants as of_words
use Rattle.pim_faults.specs.declared.fault.Fault.{Fault}
use Rattle.pim_faults.specs.declared.fault.Fault.TheVariants.{Words, File, Unopened, Memory}
use Rattle.pim_faults.specs.Words.{routes_fault, local_fault}

-- The program's fault for this fault of the words.
abbrev pub config_refused : ConfigCause → Fault
config_refused cause = Words (of_words.Config cause)

-- The program's fault for a writer whose addresses aren't two different valid sources.
abbrev pub writer_refused : Fault
writer_refused = Words of_words.WriterAddress

-- The program's fault for a fault of opening.
abbrev pub open_fault : OpenFault → Fault
open_fault opening.Upstream = writer_refused
open_fault opening.Rp = config_refused cause.Rp
open_fault (opening.File word) = File word
open_fault (opening.Port file cause) = Unopened file cause
open_fault (opening.Routes fault) = routes_fault fault
open_fault (opening.Local fault) = local_fault fault
open_fault opening.Memory = Memory
