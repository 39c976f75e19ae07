-- What a trace remembers beside the router: how far each capture was read, and to which packets the
-- timers trace back.
use Rattle.std.specs.Prelude.{ℕ, ◌+◌, ◌==◌, ◌&&◌, nat_eq, min, Bool, if◌then◌else◌, List, [], ◌∷◌, replicate, slice_set}
use Rattle.std.specs.Prelude.{slice_index_or, Option, None, Some, unwrap_or}
use Rattle.std.specs.Option.{option_eq}
use Rattle.std.specs.Cmp.Lexicographic.{pointwise}
use Rattle.pim_device.specs.Device.{top_count}
use Rattle.pim_capture.specs.declared.event.Why.{Why}
use Rattle.pim_capture.specs.declared.event.Why.TheVariants.{Cut, NotIp, BadHeader, NotPim, Fragment}
use Rattle.pim_capture.specs.declared.event.Why.TheVariants.{Part, NoTime, LinkType, NotChosen, Copy, CutShort, NextFile, OfLink, Incomplete}
use Rattle.pim_capture.specs.declared.incomplete.RecordPlace.{RecordPlace}
use Rattle.pim_capture.specs.Capture as record_of
use Rattle.pim_down.specs.declared.machines.key.Key.{Key}
use Rattle.pim_down.specs.declared.machines.machine.Machine.{Machine}
use Rattle.pim_down.specs.declared.machines.machine.Pending.{Pending}
use Rattle.pim_down.specs.Key.{same_key}
use Rattle.pim_events.specs.declared.event.Cause.{Cause}
use Rattle.pim_events.specs.declared.event.Skip.{Skip}
use Rattle.pim_events.specs.declared.event.Skip.TheVariants.{NoPacket, OtherFamily}
use Rattle.pim_events.specs.declared.event.SkipCounts.{SkipCounts}
use Rattle.pim_events.specs.Events.{epoch_at}
use Rattle.pim_transitions.specs.declared.transition.Transition.{Transition}
use Rattle.pim_trace.specs.declared.ledger.Causes.{Causes}
use Rattle.pim_trace.specs.declared.ledger.Sent.{Sent}

-- ---- causes

-- No record: the place before the first record of a capture.
abbrev pub no_place : RecordPlace
no_place = record { file = 0; «record» = 0 }

-- No packet. The group of the machine stands in place of a sender.
abbrev pub no_cause : List ℕ → Cause (List ℕ)
no_cause group = record { frame = no_place; from = group; ms = 0 }

-- What is remembered of a machine that begins: this packet set both timers, and led the machine out
-- of NoInfo.
abbrev pub both_by : Cause (List ℕ) → Causes (List ℕ)
both_by packet = record { expiry = packet; pending = packet; since = packet.ms }

-- The Expiry Timers end at one moment. While a message is heard no time passes, so they do exactly
-- if the same time is left.
abbrev pub same_expiry : Machine → Machine → Bool
same_expiry was now = option_eq nat_eq was.expires_in now.expires_in

-- The time left on a Prune-Pending Timer, if one runs.
abbrev pub pending_left : Option Pending → Option ℕ
pending_left None = None
pending_left (Some timer) = Some timer.ends_in

-- The Prune-Pending Timers end at one moment, or none runs.
abbrev pub same_pending : Machine → Machine → Bool
same_pending was now = option_eq nat_eq (pending_left was.pending) (pending_left now.pending)

-- The causes of a machine that goes on. A timer is by this packet if it now has another end.
abbrev pub moved_by : Cause (List ℕ) → Causes (List ℕ) → Machine → Machine → Causes (List ℕ)
moved_by packet known was now = record {
  expiry = if same_expiry was now then known.expiry else packet;
  pending = if same_pending was now then known.pending else packet;
  since = known.since;
}

-- What is remembered of a machine that a packet changed. A machine that begins has both timers by
-- this packet, and one that ended is forgotten.
abbrev pub caused : Cause (List ℕ) → Causes (List ℕ) → Option Machine → Option Machine → Option (Causes (List ℕ))
caused packet known was None = None
caused packet known None (Some now) = Some (both_by packet)
caused packet known (Some was) (Some now) = Some (moved_by packet known was now)

-- ---- the ledger

-- What a trace remembers.
pub record Ledger : Type 0 where
  -- the place of the last record that was taken of each capture
  pub frames : List RecordPlace
  -- the time of the first record that has one, in milliseconds since 1970
  pub begin : Option ℕ
  -- for each port the Generation ID of the last Hello that the port's own address sent, if it sent
  -- one
  pub own : List (Option (Option ℕ))
  -- for a port and the address of a neighbour the last Hello that was taken
  pub hellos : ℕ → List ℕ → Option Sent
  -- for a machine the packets that set its timers
  pub causes : Key (List ℕ) → Option (Causes (List ℕ))
  pub skipped : SkipCounts

-- No record was skipped.
abbrev pub none_skipped : SkipCounts
none_skipped = record { cut = 0; not_ip = 0; bad_header = 0; not_pim = 0; fragment = 0; family = 0 }

-- The ledger of a trace of this number of ports, before any record.
abbrev pub new_ledger : ℕ → Ledger
new_ledger ports = record {
  frames = replicate ports no_place;
  begin = None;
  own = replicate ports None;
  hellos = λ port address. None;
  causes = λ key. None;
  skipped = none_skipped;
}

-- The time of a moment in milliseconds since 1970; none before the first record. It stops at
-- 2^64 - 1.
abbrev pub epoch_of : ℕ → Ledger → Option ℕ
epoch_of ms ledger = epoch_at ledger.begin ms

-- The packets that set the timers of a machine; no packet at the moment 0 where nothing is
-- remembered.
abbrev pub causes_of : Key (List ℕ) → Ledger → Causes (List ℕ)
causes_of key ledger = unwrap_or (ledger.causes key) (both_by (no_cause key.group))

-- The last Hello of a neighbour, as it is remembered; none where nothing is.
abbrev pub sent_or_none : Option Sent → Sent
sent_or_none sent = unwrap_or sent (record { frame = no_place; ms = 0 })

-- One more. The count stops at 2^64 - 1.
abbrev pub one_more : ℕ → ℕ
one_more count = min (count + 1) top_count

-- The place of the last record that was taken of this capture.
abbrev pub frame_of : ℕ → Ledger → RecordPlace
frame_of capture ledger = slice_index_or ledger.frames capture no_place

-- The place after this one in the same file.
abbrev pub next_in_file : RecordPlace → RecordPlace
next_in_file place = record { file = place.file; «record» = one_more place.«record» }

-- The place of the last record that was taken of a capture, after what is skipped for this reason.
-- The beginning of the next file is no record, nor is what is told of incomplete packets.
abbrev pub frame_by : Why → RecordPlace → RecordPlace
frame_by NextFile place = record { file = one_more place.file; «record» = 0 }
frame_by (OfLink link) place = place
frame_by (Incomplete packets) place = place
frame_by why place = next_in_file place

-- The place of the last record that was taken of a capture, after this result.
abbrev pub frame_after : record_of.EventSeen → RecordPlace → RecordPlace
frame_after (record_of.skipped millis why) place = frame_by why place
frame_after reported place = next_in_file place

-- The time of the first record that has one, where the record that is taken now has this time, in
-- milliseconds since 1970.
abbrev pub begun : Option ℕ → Option ℕ → Option ℕ
begun None time = time
begun (Some begin) time = Some begin

-- The ledger when a record of this capture at this place and with this time, if it has one, is taken.
abbrev pub opened : ℕ → RecordPlace → Option ℕ → Ledger → Ledger
opened capture frame time ledger = record {
  frames = slice_set ledger.frames capture frame;
  begin = begun ledger.begin time;
  own = ledger.own;
  hellos = ledger.hellos;
  causes = ledger.causes;
  skipped = ledger.skipped;
}

-- The counts after one more record is skipped. Those without a time, those of other links, copies and
-- one that the end of its file cuts short are not counted.
abbrev pub counted : Skip → SkipCounts → SkipCounts
counted (NoPacket Cut) counts = record (counts) { cut = one_more counts.cut }
counted (NoPacket NotIp) counts = record (counts) { not_ip = one_more counts.not_ip }
counted (NoPacket BadHeader) counts = record (counts) { bad_header = one_more counts.bad_header }
counted (NoPacket NotPim) counts = record (counts) { not_pim = one_more counts.not_pim }
counted (NoPacket Fragment) counts = record (counts) { fragment = one_more counts.fragment }
counted (NoPacket Part) counts = record (counts) { fragment = one_more counts.fragment }
counted (NoPacket NoTime) counts = counts
counted (NoPacket (LinkType number)) counts = counts
counted (NoPacket (NotChosen link)) counts = counts
counted (NoPacket Copy) counts = counts
counted (NoPacket CutShort) counts = counts
counted (NoPacket NextFile) counts = counts
counted (NoPacket (OfLink link)) counts = counts
counted (NoPacket (Incomplete packets)) counts = counts
counted OtherFamily counts = record (counts) { family = one_more counts.family }

-- The ledger after a record is skipped.
abbrev pub with_skip : Skip → Ledger → Ledger
with_skip why ledger = record (ledger) { skipped = counted why ledger.skipped }

-- The ledger after the port's own address sent a Hello with this Generation ID.
abbrev pub with_own : ℕ → Option ℕ → Ledger → Ledger
with_own port generation ledger = record (ledger) { own = slice_set ledger.own port (Some generation) }

-- The ledger with this as what is remembered of a neighbour of a port.
abbrev pub with_hello : ℕ → List ℕ → Option Sent → Ledger → Ledger
with_hello port address sent ledger = record (ledger) {
  hellos = λ at from. if port == at && pointwise nat_eq address from then sent else ledger.hellos at from;
}

-- The ledger after a packet changed a machine.
abbrev pub with_change : Cause (List ℕ) → Transition (List ℕ) → Ledger → Ledger
with_change packet change ledger = record (ledger) {
  causes = λ key. if same_key change.key key
      then caused packet (causes_of change.key ledger) change.before change.after else ledger.causes key;
}

-- The ledger after a packet changed these machines, one after the other.
unfoldable pub with_changes : Cause (List ℕ) → List (Transition (List ℕ)) → Ledger → Ledger
with_changes packet [] ledger = ledger
with_changes packet (change ∷ changes) ledger = with_changes packet changes (with_change packet change ledger)

-- The ledger without what is remembered of a machine.
abbrev pub forgetting : Key (List ℕ) → Ledger → Ledger
forgetting gone ledger = record (ledger) { causes = λ key. if same_key gone key then None else ledger.causes key }
