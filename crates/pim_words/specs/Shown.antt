-- What a trace or an audit shows, by `--from`, `--group`, `--source` and `--time`. An audit has no
-- `--source`.
use Rattle.std.specs.Prelude.{◌≡◌, ◌≤◌, ◌⊎◌, ℕ, zero, suc, List, [], ◌∷◌, length, Option, codes}
use Rattle.std.specs.List.{AllZip}
use Rattle.clap.specs.Words.{Row, Text, first_of}
use Rattle.pim_lines.specs.declared.either.AnyAddress.{AnyAddress}
use Rattle.pim_words.specs.declared.fault.CommandFault.{CommandFault}
use Rattle.pim_words.specs.declared.fault.CommandFault.TheVariants as cause
use Rattle.pim_words.specs.declared.shown.ShownEvents.{ShownEvents}
use Rattle.pim_time.specs.declared.form.TimeForm.{TimeForm}
use Rattle.pim_time.specs.declared.form.TimeForm.TheVariants.{Ms, Epoch, Utc}
use Rattle.pim_words.specs.declared.task.Tracing.{Tracing}
use Rattle.pim_lines.specs.AnyAddress.{Names, IsRead, IsUnread}
use Rattle.pim_words.specs.Ends.{IsTimed, IsTimely, IsUntimed}
use Rattle.pim_words.specs.Given.{option_or, values_of}

-- ---- the values of an option that may be given several times

-- The values are these addresses, at most 64.
abbrev pub AreShownAddresses : List Text → List AnyAddress → Type 0
AreShownAddresses texts addresses = AllZip Names texts addresses × (length addresses ≤ 64)

-- The value names no address; the fault has the value.
abbrev pub IsUnreadText : Text → CommandFault → Type 0
IsUnreadText text (cause.Address reported) = (reported.now ≡ text) × IsUnread text
IsUnreadText text fault = ⊥

-- The value is one too many.
abbrev pub IsOneTooMany : Text → CommandFault → Type 0
IsOneTooMany text (cause.Word reported) = reported.now ≡ text
IsOneTooMany text fault = ⊥

-- The fault of the first wrong value, where there is room for this number of addresses.
abbrev pub IsWrongChoice : ℕ → List Text → CommandFault → Type 0
IsWrongChoice room [] fault = ⊥
IsWrongChoice zero (text ∷ texts) fault = IsOneTooMany text fault
IsWrongChoice (suc room) (text ∷ texts) fault =
    IsUnreadText text fault ⊎ (IsRead text × IsWrongChoice room texts fault)

-- Each value names an address, and they are at most 64.
abbrev pub IsChoosable : List Text → Type 0
IsChoosable texts = (addresses : List AnyAddress) × AreShownAddresses texts addresses

-- ---- the form of moments

-- The name of a form.
abbrev pub form_name : TimeForm → Text
form_name Ms = codes "ms"
form_name Epoch = codes "epoch"
form_name Utc = codes "utc"

-- The text of the form of moments, or its default.
abbrev pub form_text : List Row → Text
form_text rows = option_or (codes "ms") (codes "time") rows

-- The text names no form.
abbrev pub IsFormless : Text → Type 0
IsFormless text = (form : TimeForm) → text ≡ form_name form → ⊥

-- The fault of a text that names no form.
abbrev pub IsWrongForm : Text → CommandFault → Type 0
IsWrongForm text (cause.Word reported) = (reported.now ≡ text) × IsFormless text
IsWrongForm text fault = ⊥

-- ---- all of them

-- The text of the time from which a trace shows, if it is given.
abbrev pub from_text : List Row → Option Text
from_text rows = first_of (codes "from") rows

-- These are shown.
pub record IsShown (rows : List Row) (shown : ShownEvents) : Type 0 where
  pub from : IsTimed (from_text rows) shown.from
  pub groups : AreShownAddresses (values_of (codes "group") rows) shown.groups.items
  pub sources : AreShownAddresses (values_of (codes "source") rows) shown.sources.items
  pub form : form_text rows ≡ form_name shown.form

-- What a trace shows, of its time, groups, sources and form.
abbrev pub shown_of : Tracing AnyAddress → ShownEvents
shown_of tracing = record {
  from = tracing.from;
  groups = tracing.groups;
  sources = tracing.sources;
  form = tracing.form;
}

-- Each of these values is right.
abbrev pub IsShowable : List Row → Type 0
IsShowable rows = (shown : ShownEvents) × IsShown rows shown

-- The fault of the first wrong value: of `--from`, otherwise of `--group`, otherwise of `--source`,
-- otherwise of `--time`.
abbrev pub IsWrongShown : List Row → CommandFault → Type 0
IsWrongShown rows fault =
    IsUntimed (from_text rows) fault
    ⊎ (IsTimely (from_text rows) × (IsWrongChoice 64 (values_of (codes "group") rows) fault
    ⊎ (IsChoosable (values_of (codes "group") rows) × (IsWrongChoice 64 (values_of (codes "source") rows) fault
    ⊎ (IsChoosable (values_of (codes "source") rows) × IsWrongForm (form_text rows) fault)))))
