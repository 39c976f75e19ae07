-- What contracts say of the steps of `plan`.
use Rattle.std.specs.Prelude.{◌≡◌, ◌==◌, ◌&&◌, ◌||◌, ◌+◌, not, ℕ, Bool, true, false, List, [], ◌∷◌}
use Rattle.std.specs.Prelude.{Option, Some, ⊤, codes}
use Rattle.std.specs.List.{AllByRecursion, list_all}
use Rattle.std.specs.Str.{bytes_eq}
use Rattle.clap.specs.Words.{App, IsUnsignedIn, Row, Rule, Shape, Text, built, is_simple, is_simple_and_free}
use Rattle.clap.specs.declared.builder.value_parser.ValueParser.{ValueParser}
use Rattle.clap.specs.declared.builder.value_parser.ValueParser.TheVariants.{Unsigned}
use Rattle.pim_words.specs.declared.fault.CommandFault.{CommandFault}
use Rattle.pim_words.specs.declared.fault.CommandFault.TheVariants.{Family, Memory}
use Rattle.pim_words.specs.declared.fault.RouterSide.{RouterSide}
use Rattle.pim_lines.specs.declared.either.AnyAddress.{AnyAddress}
use Rattle.pim_words.specs.declared.links.Links.{Links}
use Rattle.pim_words.specs.declared.port.PortCut.{PortCut}
use Rattle.pim_words.specs.declared.task.Port.{Port}
use Rattle.pim_words.specs.declared.reading.AddressList.{AddressList}
use Rattle.pim_words.specs.declared.reading.AddressEnds.{AddressEnds}
use Rattle.pim_words.specs.declared.reading.AuditAddresses.{AuditAddresses}
use Rattle.pim_words.specs.declared.task.CommandKind.TheVariants.{Audit}
use Rattle.pim_lines.specs.AnyAddress.{Names}
use Rattle.pim_words.specs.Given.{IsKnown, destination_text, option_or, required, rp_text, source_text}
use Rattle.pim_words.specs.Links.{link_at}
use Rattle.pim_words.specs.Ports.{IsCut, IsCutWord}
use Rattle.pim_words.specs.Reading.{ReadsAddressOption}

-- A fault of this kind, or memory is refused.
abbrev pub OrMemory : (CommandFault → Type 0) → CommandFault → Type 0
OrMemory Is Memory = ⊤
OrMemory Is fault = Is fault

-- The text of a port of this router is cut into its address and its file.
abbrev pub IsCutFor : RouterSide → Text → PortCut → Type 0
IsCutFor side text cut = (cut.side ≡ side) × IsCut text cut.address.now cut.file.now

-- The word is cut into its router, its address and its file.
abbrev pub IsCutOf : Bool → Text → PortCut → Type 0
IsCutOf is_sided word cut = IsCutWord is_sided word cut.side cut.address.now cut.file.now

-- These are the addresses of a command on one message.
pub record AreEnds (rows : List Row) (ends : AddressEnds) : Type 0 where
  pub source : Names (source_text rows) ends.src
  pub destination : Names (destination_text rows) ends.dst

-- These are the addresses of a command that writes messages.
pub record AreWritten (rows : List Row) (addresses : AddressList) : Type 0 where
  pub rp : Names (required (codes "rp") rows) addresses.rp
  pub upstream : Names (required (codes "upstream") rows) addresses.upstream
  pub own : Names (required (codes "own") rows) addresses.own

-- These are the upstream neighbour of an audit, and its RP, if one is given.
pub record AreAudited (rows : List Row) (addresses : AuditAddresses) : Type 0 where
  pub upstream : Names (required (codes "upstream") rows) addresses.upstream
  pub rp : ReadsAddressOption (rp_text Audit rows) addresses.rp

-- The port with the link of this number.
abbrev pub with_link : Links → ℕ → Port AnyAddress → Port AnyAddress
with_link links number port = record port { link = link_at links number }

-- The ports, each with the link of its number, which counts from this one.
abbrev pub with_links : Links → ℕ → List (Port AnyAddress) → List (Port AnyAddress)
with_links links number [] = []
with_links links number (port ∷ ports) = with_link links number port ∷ with_links links (number + 1) ports

-- The test for one family failed, or memory is refused.
abbrev pub IsForeign : Bool → CommandFault → Type 0
IsForeign test Memory = ⊤
IsForeign test Family = test ≡ false
IsForeign test fault = ⊥

-- ---- what `clap` checks by itself

-- Whether an option takes only numbers between `low` and `high`.
abbrev pub has_range : ℕ → ℕ → Option ValueParser → Bool
has_range low high (Some (Unsigned least most)) = (least == low) && (most == high)
has_range low high other = false

-- Whether an option, if it has this name, takes only numbers between `low` and `high`.
abbrev pub is_tested : ℕ → ℕ → Text → Rule → Bool
is_tested low high name option = not (bytes_eq option.id name) || has_range low high option.parser

-- Whether each option of this name, of each command, takes only numbers between `low` and `high`.
abbrev pub are_tested : ℕ → ℕ → Text → List Shape → Bool
are_tested low high name commands = list_all (λ (s : Shape). list_all (is_tested low high name) s.rules) commands

-- A command line that requires one of its commands. It has known commands only, and its options for
-- numbers check their ranges.
pub record IsOffered (app : App) : Type 0 where
  pub required : app.top.subcommand_required ≡ true
  pub simple : is_simple app ≡ true
  pub free : is_simple_and_free app ≡ true
  pub known : AllByRecursion (λ (s : Shape). IsKnown s.name) (built app).subs
  pub limit : are_tested 1 100000 (codes "limit") (built app).subs ≡ true
  pub after : are_tested 0 1000000000 (codes "after") (built app).subs ≡ true
  pub grace : are_tested 0 1000000000 (codes "grace") (built app).subs ≡ true
  pub holdtime : are_tested 99 65535 (codes "holdtime") (built app).subs ≡ true
  pub budget : are_tested 70 65000 (codes "budget") (built app).subs ≡ true

-- The numbers that a command was given, or their defaults, are in their ranges.
pub record HasNumbers (rows : List Row) : Type 0 where
  pub limit : IsUnsignedIn 1 100000 (option_or (codes "100000") (codes "limit") rows)
  pub after : IsUnsignedIn 0 1000000000 (option_or (codes "0") (codes "after") rows)
  pub grace : IsUnsignedIn 0 1000000000 (option_or (codes "3000") (codes "grace") rows)
  pub holdtime : IsUnsignedIn 99 65535 (option_or (codes "210") (codes "holdtime") rows)
  pub budget : IsUnsignedIn 70 65000 (option_or (codes "1460") (codes "budget") rows)

-- The command is known, and its numbers are in their ranges.
abbrev pub IsGiven : Text × List Row → Type 0
IsGiven met = IsKnown met.0 × HasNumbers met.1
