-- The captures of ports that are opened one by one. `known` is what files hold, where it is known.
use Rattle.std.specs.Prelude.{◌≡◌, ⊤, ℕ, suc, ◌==◌, ◌&&◌, Bool, false, cond, List, [], ◌∷◌, ◌++◌, map, filter}
use Rattle.std.specs.Prelude.{Option, None, Some, IsSome, IfSome, is_some, option_map}
use Rattle.std.specs.List.{flat_map}
use Rattle.pim_capture.specs.Capture.{Answer, answers}
use Rattle.pim_container.specs.declared.choice.Choice.{Choice}
use Rattle.pim_merge.specs.Lane.{LaneState, IsComing, coming_on, tallies_of}
use Rattle.pim_merge.specs.Tally.{no_tally}
use Rattle.pim_merge.specs.Chosen.{answers_of_files, all_known}
use Rattle.pim_words.specs.declared.fault.RouterSide.{RouterSide}
use Rattle.pim_words.specs.declared.task.LinkWord.{LinkWord}
use Rattle.pim_words.specs.declared.task.More.{More}
use Rattle.pim_words.specs.declared.task.Port.{Port}
use Rattle.pim_words.specs.Faults.{is_side, is_of}
use Rattle.pim_files.specs.declared.fault.OpenFault.{OpenFault}
use Rattle.pim_files.specs.declared.fault.OpenFault.TheVariants as opening
use Rattle.pim_files.specs.declared.opener.FileCause.{FileCause}
use Rattle.pim_files.specs.Files.{Files, bytes_later}

-- ---- ports with their further files

-- A port and its further files, in the order of the words.
pub record PortFiles (A : Type 0) : Type 0 where
  pub port : Port A
  pub more : List More

-- Whether this further file is one of the port of this number. A port without a link has none.
abbrev pub is_further : {A : Type 0} → ℕ → Port A → More → Bool
is_further number port one = is_some port.link && (one.port == number)

-- The port of this number, and those of these further files that are its own.
abbrev pub with_more : {A : Type 0} → ℕ → List More → Port A → PortFiles A
with_more number further port = record { port = port; more = filter (is_further number port) further }

-- These ports, of which the first has this number, each with its own of these further files.
abbrev pub files_from : {A : Type 0} → ℕ → List More → List (Port A) → List (PortFiles A)
files_from number further [] = []
files_from number further (port ∷ ports) = with_more number further port ∷ files_from (suc number) further ports

-- ---- the files that are asked for

-- A file that is asked for.
pub record FileOfName : Type 0 where
  pub name : List ℕ
  -- the fault if it can't be opened for a cause; `None` for a file that is opened at its first read
  pub fault : Option (FileCause → OpenFault)

-- The fault of a port whose file can't be opened for this cause. It names the file if the port has
-- a link, otherwise it has the port's whole word.
abbrev pub port_fault : {A : Type 0} → Port A → FileCause → OpenFault
port_fault port cause = cond (is_some port.link) (opening.Port port.file cause) (opening.File port.word)

-- The port's file.
abbrev pub first_file : {A : Type 0} → Port A → FileOfName
first_file port = record { name = port.file.now; fault = Some (λ cause. port_fault port cause) }

-- A further file. It is opened at its first read, so it has no fault of opening.
abbrev pub further_file : More → FileOfName
further_file one = record { name = one.file.now; fault = None }

-- The files of a port, in the order in which they are asked for.
abbrev pub files_of : {A : Type 0} → PortFiles A → List FileOfName
files_of it = first_file it.port ∷ map further_file it.more

-- The files of these ports, in the order in which they are asked for.
abbrev pub all_files : {A : Type 0} → List (PortFiles A) → List FileOfName
all_files ports = flat_map files_of ports

-- The names of files.
abbrev pub names_of : List FileOfName → List (List ℕ)
names_of wanted = map (λ (file : FileOfName). file.name) wanted

-- ---- one file

-- What a reader of the file has to give, if there is one: all of the file. A file that is opened at
-- its first read has a reader also if it can't be opened: one whose reads fail.
abbrev pub given_by : Files → FileOfName → Option (List ℕ)
given_by files file = cond (is_some file.fault) (files.contents file.name) (Some (bytes_later files file.name))

-- The reader has that to give.
abbrev pub IsReaderOf : {R : Type 0} → (R → Option (List ℕ)) → Option Files → FileOfName → R → Type 0
IsReaderOf remaining known file reader = IfSome known (λ files.
    IsSome (given_by files file) × (remaining reader ≡ given_by files file))

-- The fault is that of a file which can't be opened for this cause. Some files have none.
abbrev pub IsFaultOf : Option (FileCause → OpenFault) → FileCause → OpenFault → Type 0
IsFaultOf None cause fault = ⊥
IsFaultOf (Some fault_for) cause fault = fault ≡ fault_for cause

-- The file can't be opened, and this is why.
pub record IsClosed (known : Option Files) (file : FileOfName) (fault : OpenFault) : Type 0 where
  pub cause : FileCause
  pub is : IsFaultOf file.fault cause fault
  pub closed : IfSome known (λ files.
      (files.contents file.name ≡ None) × (cause ≡ files.causes file.name))

-- Why the file isn't open: it can't be opened, or memory is refused.
abbrev pub IsPortFault : Option Files → FileOfName → OpenFault → Type 0
IsPortFault known file opening.Memory = ⊤
IsPortFault known file fault = IsClosed known file fault

-- ---- several files

-- Readers of these files have these bytes to give.
abbrev pub AreContents : Files → List FileOfName → List (List ℕ) → Type 0
AreContents files wanted contents = map (given_by files) wanted ≡ map Some contents

-- These files have readers, where it is known what files hold: each can be opened, or is opened at
-- its first read.
abbrev pub CanOpen : Option Files → List FileOfName → Type 0
CanOpen known wanted = IfSome known (λ files. (contents : List (List ℕ)) × AreContents files wanted contents)

-- This file has no reader, since it can't be opened or memory is refused. It is the first such one.
pub record StopsAt (known : Option Files) (wanted : List FileOfName) (fault : OpenFault) : Type 0 where
  pub before : List FileOfName
  pub file : FileOfName
  pub others : List FileOfName
  pub cut : wanted ≡ before ++ file ∷ others
  pub wrong : IsPortFault known file fault
  pub opened : CanOpen known before

-- These readers have all of these files to give, in their order.
pub record AreReaders {R : Type 0} (remaining : R → Option (List ℕ)) (files : Files) (wanted : List FileOfName)
    (readers : List R) : Type 0 where
  pub contents : List (List ℕ)
  pub are : AreContents files wanted contents
  pub given : map remaining readers ≡ map Some contents

-- The same, where it is known what files hold.
abbrev pub HaveFiles : {R : Type 0} → (R → Option (List ℕ)) → Option Files → List FileOfName → List R → Type 0
HaveFiles remaining known wanted readers = IfSome known (λ files. AreReaders remaining files wanted readers)

-- ---- the captures of ports

-- The packets that are taken of a link: those of its VLAN and of its interface.
abbrev pub choice_of : LinkWord → Choice
choice_of link = record { vlan = link.vlan; interface = link.interface; mixes_links = false }

-- The results for the bytes of a port's files, if they are known: of any container by this link,
-- one file after the other; or of a classic capture, which is one file. `bytes_of` gives the bytes
-- of each.
abbrev pub results_by : {X : Type 0} → (X → Option (List ℕ)) → Option LinkWord → List X → Option (List Answer)
results_by bytes_of None [] = Some []
results_by bytes_of None (file ∷ others) = option_map answers (bytes_of file)
results_by bytes_of (Some link) files = option_map (answers_of_files (choice_of link)) (all_known bytes_of files)

-- The results of a port's files by the port's link, if its own file can be opened. A further file
-- that can't be opened is a fault in the place of its results.
abbrev pub results_of : {A : Type 0} → Files → PortFiles A → Option (List Answer)
results_of files it = results_by (given_by files) it.port.link (files_of it)

-- These captures are those of the ports' files, in their order. Nothing of them is read: each has
-- all results of its files to return, by the link of its port.
pub record AreFiles {A : Type 0} (files : Files) (ports : List (PortFiles A)) (lanes : List LaneState) : Type 0 where
  pub results : List (List Answer)
  pub are : map (results_of files) ports ≡ map Some results
  pub coming : IsComing lanes results

-- The same, where it is known what files hold.
abbrev pub HoldFiles : {A : Type 0} → Option Files → List (PortFiles A) → List LaneState → Type 0
HoldFiles known ports lanes = IfSome known (λ files. AreFiles files ports lanes)

-- ---- two routers

-- The same of a port with its further files.
abbrev pub are_of : {A : Type 0} → RouterSide → PortFiles A → Bool
are_of side it = is_of side it.port

-- The ports of this router, each with its further files.
abbrev pub of_router : {A : Type 0} → RouterSide → List (PortFiles A) → List (PortFiles A)
of_router side ports = filter (are_of side) ports

-- 1 if the port belongs to this router, otherwise 0.
abbrev pub one_of : RouterSide → RouterSide → ℕ
one_of side other = cond (is_side side other) 1 0

-- A capture with these results is one more of the router `side` if its port is one of that router.
abbrev pub AddsLane : RouterSide → RouterSide → Option (List Answer) → List LaneState → List LaneState → Type 0
AddsLane side other results old new = map coming_on new
    ≡ map coming_on old ++ cond (is_side side other) (results ∷ []) []

-- Nothing was taken of that capture.
abbrev pub AddsUntaken : RouterSide → RouterSide → List LaneState → List LaneState → Type 0
AddsUntaken side other old new =
    tallies_of new ≡ tallies_of old ++ cond (is_side side other) (no_tally ∷ []) []
