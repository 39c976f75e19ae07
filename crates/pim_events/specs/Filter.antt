-- Which events are shown.
use Rattle.std.specs.Prelude.{ℕ, Bool, true, false, not, ◌&&◌, ◌||◌, ◌==◌, nat_lt, if◌then◌else◌, List, []}
use Rattle.std.specs.Prelude.{length, map, bytes_eq, Option, None, Some}
use Rattle.std.specs.List.{list_any}
use Rattle.pim_capture.specs.declared.event.Why.TheVariants.{Fragment, NoTime, CutShort}
use Rattle.pim_down.specs.declared.machines.key.What.{What}
use Rattle.pim_down.specs.declared.machines.key.What.TheVariants.{Star, Source, Rpt}
use Rattle.pim_down.specs.declared.machines.machine.Pending.{Pending}
use Rattle.pim_down.specs.declared.machines.machine.State.{State}
use Rattle.pim_down.specs.declared.machines.machine.State.TheVariants as state
use Rattle.pim_hello.specs.declared.heard.Heard.{Heard}
use Rattle.pim_hello.specs.declared.heard.Heard.TheVariants.{New, Same, Restarted, Gone}
use Rattle.pim_jp.specs.Message.{GroupSet, Message}
use Rattle.pim_jp.specs.declared.entry.Entry.{Entry}
use Rattle.pim_jp.specs.declared.entry.Entry.TheVariants as entry
use Rattle.pim_router.specs.declared.verdict.Verdict.{Verdict}
use Rattle.pim_router.specs.declared.verdict.Verdict.TheVariants.{Mine, OtherType, Applied}
use Rattle.pim_time.specs.declared.reading.Time.{Time}
use Rattle.pim_time.specs.declared.reading.Time.TheVariants.{Moment, Epoch}
use Rattle.pim_events.specs.Events.{Happened, Occurrence, hello_heard, packet_judged, machine_changed}
use Rattle.pim_events.specs.Events.{join_ignored, record_skipped, timer_fired, machine_held, entry_wanted, run_ended}
use Rattle.pim_events.specs.Parts.{state_in, pending_in}
use Rattle.pim_events.specs.declared.event.Skip.{Skip}
use Rattle.pim_events.specs.declared.event.Skip.TheVariants.{NoPacket}
use Rattle.pim_events.specs.declared.event.TransitionEvent.{TransitionEvent}
use Rattle.pim_events.specs.declared.event.WantedWhat.{WantedWhat}
use Rattle.pim_events.specs.declared.event.WantedWhat.TheVariants as wanted
use Rattle.pim_events.specs.declared.filter.Filter.{Filter}

-- What a user wants to see: everything, or what changes something (`--all`); groups and sources,
-- where an empty list means all (`--group`, `--source`); from which time on (`--from`).
pub record Selection : Type 0 where
  pub all : Bool
  pub groups : List (List ℕ)
  pub sources : List (List ℕ)
  pub from : Option Time

-- A filter of the code as such a selection.
abbrev pub filter_seen : {A : Type 0} → (A → List ℕ) → Filter A → Selection
filter_seen bytes_of filter = record {
  all = filter.all;
  groups = map bytes_of filter.groups.now;
  sources = map bytes_of filter.sources.now;
  from = filter.from;
}

-- ---- what is left out without `--all`

-- A Hello of a sender that was known, with the Generation ID that was kept.
abbrev pub is_same_again : Heard → Bool
is_same_again Same = true
is_same_again New = false
is_same_again Restarted = false
is_same_again Gone = false

-- A verdict that needs no line: the message was applied, is the router's own, or is of another
-- type.
abbrev pub is_usual : Verdict → Bool
is_usual Applied = true
is_usual Mine = true
is_usual (OtherType type) = true
is_usual other = false

-- A number for each state, 0 for NoInfo.
abbrev pub state_number : Option State → ℕ
state_number None = 0
state_number (Some state.Join) = 1
state_number (Some state.PrunePending) = 2
state_number (Some state.Prune) = 3
state_number (Some state.PruneTmp) = 4
state_number (Some state.PrunePendingTmp) = 5

-- The state after a message is the state before it.
abbrev pub keeps_state : TransitionEvent (List ℕ) → Bool
keeps_state change = state_number change.before == state_number (state_in change.after)

-- A Prune-Pending Timer that runs ends in this millisecond. Its firing then names the packet.
abbrev pub is_over : Option Pending → Bool
is_over None = false
is_over (Some timer) = timer.ends_in == 0

-- A record that may hold a PIM message: a fragment of an IP packet, one without a time, or one that
-- the end of its file cuts short.
abbrev pub may_hold_pim : Skip → Bool
may_hold_pim (NoPacket Fragment) = true
may_hold_pim (NoPacket NoTime) = true
may_hold_pim (NoPacket CutShort) = true
may_hold_pim other = false

-- The event is shown without `--all`.
abbrev pub is_news : Happened → Bool
is_news (hello_heard hello) = not (is_same_again hello.verdict)
is_news (packet_judged packet) = not (is_usual packet.verdict)
is_news (machine_changed change) = not (keeps_state change) && not (is_over (pending_in change.after))
is_news (record_skipped skipped) = may_hold_pim skipped.why
is_news other = true

-- ---- groups and sources

-- The address is one of these, or there are none.
abbrev pub is_wanted : List (List ℕ) → List ℕ → Bool
is_wanted addresses address = (length addresses == 0) || list_any (λ one. bytes_eq one address) addresses

-- The machine has a source that is wanted, or none.
abbrev pub is_wanted_machine : List (List ℕ) → What (List ℕ) → Bool
is_wanted_machine sources Star = true
is_wanted_machine sources (Source source) = is_wanted sources source
is_wanted_machine sources (Rpt source) = is_wanted sources source

-- What the router wants is a star, or its source is among those that are shown.
abbrev pub is_chosen_part : List (List ℕ) → WantedWhat (List ℕ) → Bool
is_chosen_part sources wanted.Star = true
is_chosen_part sources (wanted.Source source) = is_wanted sources source
is_chosen_part sources (wanted.Except source) = is_wanted sources source

-- The entry is a star, or its source is wanted.
abbrev pub is_wanted_entry : List (List ℕ) → Entry (List ℕ) → Bool
is_wanted_entry sources (entry.Star rp) = true
is_wanted_entry sources (entry.Source source) = is_wanted sources source
is_wanted_entry sources (entry.Rpt source) = is_wanted sources source

-- Some entry of the group set is wanted, or no source is given.
abbrev pub has_wanted_entry : List (List ℕ) → GroupSet → Bool
has_wanted_entry sources set = (length sources == 0)
    || (list_any (is_wanted_entry sources) set.joined || list_any (is_wanted_entry sources) set.pruned)

-- The group of the set is wanted, and so is some entry.
abbrev pub is_wanted_set : List (List ℕ) → List (List ℕ) → GroupSet → Bool
is_wanted_set groups sources set = is_wanted groups set.group && has_wanted_entry sources set

-- Some group set is wanted, or neither groups nor sources are given.
abbrev pub is_wanted_message : List (List ℕ) → List (List ℕ) → List GroupSet → Bool
is_wanted_message groups sources sets = ((length groups == 0) && (length sources == 0))
    || list_any (is_wanted_set groups sources) sets

-- A packet that reads as a Join/Prune has a group set that is wanted.
abbrev pub is_wanted_packet : List (List ℕ) → List (List ℕ) → Option Message → Bool
is_wanted_packet groups sources None = true
is_wanted_packet groups sources (Some message) = is_wanted_message groups sources message.sets

-- The event concerns groups and sources that are wanted, or none at all.
abbrev pub is_chosen : List (List ℕ) → List (List ℕ) → Happened → Bool
is_chosen groups sources (packet_judged packet) = is_wanted_packet groups sources packet.message
is_chosen groups sources (machine_changed change) =
    is_wanted groups change.group && is_wanted_machine sources change.what
is_chosen groups sources (join_ignored entry) = is_wanted groups entry.group
is_chosen groups sources (timer_fired firing) =
    is_wanted groups firing.group && is_wanted_machine sources firing.what
is_chosen groups sources (machine_held held) = is_wanted groups held.group && is_wanted_machine sources held.what
is_chosen groups sources (entry_wanted entry) = is_wanted groups entry.group && is_chosen_part sources entry.what
is_chosen groups sources other = true

-- ---- time

-- The time since 1970 is earlier than this one.
abbrev pub is_epoch_before : ℕ → Option ℕ → Bool
is_epoch_before time None = false
is_epoch_before time (Some epoch) = nat_lt epoch time

-- A moment and its time since 1970 are earlier than the first time that is shown.
abbrev pub is_early : Option Time → ℕ → Option ℕ → Bool
is_early None ms epoch = false
is_early (Some (Moment first)) ms epoch = nat_lt ms first
is_early (Some (Epoch first)) ms epoch = is_epoch_before first epoch

-- ---- the filter

-- The run ended.
abbrev pub is_end : Happened → Bool
is_end (run_ended ending) = true
is_end other = false

-- The event is shown. The end of the run always is.
abbrev pub is_shown : Selection → Occurrence → Bool
is_shown selection event = is_end event.what
    || (not (is_early selection.from event.ms event.epoch)
    && ((selection.all || is_news event.what) && is_chosen selection.groups selection.sources event.what))

-- The text of an event where it is shown, else nothing.
abbrev pub if_shown : Selection → Occurrence → List ℕ → List ℕ
if_shown selection event text = if is_shown selection event then text else []
