-- The line of an event as JSON (RFC 8259): one object, without spaces. No text in it needs an
-- escape: each is a word, an address, a decimal, the name of a port, or the name of a file, which
-- has its escapes.
use Rattle.std.specs.Prelude.{ℕ, Bool, true, false, List, ◌++◌, Option, None, Some, codes, decimal}
use Rattle.pim_addr.specs.declared.family.AddressFamily.{AddressFamily}
use Rattle.pim_capture.specs.declared.incomplete.RecordPlace.{RecordPlace}
use Rattle.pim_capture.specs.declared.event.Why.TheVariants.{Cut, NotIp, BadHeader, NotPim, Fragment}
use Rattle.pim_capture.specs.declared.event.Why.TheVariants.{Part, NoTime, LinkType, NotChosen, Copy, CutShort, NextFile, OfLink, Incomplete}
use Rattle.pim_down.specs.declared.machines.key.What.{What}
use Rattle.pim_down.specs.declared.machines.key.What.TheVariants.{Star, Source, Rpt}
use Rattle.pim_down.specs.declared.machines.machine.Machine.{Machine}
use Rattle.pim_down.specs.declared.machines.machine.State.{State}
use Rattle.pim_hello.specs.declared.heard.Heard.{Heard}
use Rattle.pim_hello.specs.declared.heard.Heard.TheVariants.{New, Same, Restarted, Gone}
use Rattle.pim_jp.specs.Message.{Message}
use Rattle.pim_report.specs.PacketLine.{verdict_words}
use Rattle.pim_lines.specs.Pieces.{line, number_or}
use Rattle.pim_report.specs.RecordLine.{state_name, time_left}
use Rattle.pim_time.specs.Text.{seconds_text}
use Rattle.pim_event_lines.specs.Counts.{joined_in, pruned_in}
use Rattle.pim_event_lines.specs.Files.{file_json, files_of, frame_json, if_several}
use Rattle.pim_events.specs.Events.{Happened, Judged, Occurrence, hello_heard, packet_judged, machine_changed}
use Rattle.pim_events.specs.Events.{join_ignored, own_restart, record_skipped, neighbour_gone, timer_fired}
use Rattle.pim_events.specs.Events.{machine_held, entry_wanted, run_ended}
use Rattle.pim_events.specs.Parts.{state_in, pending_in}
use Rattle.pim_lines.specs.ShortText.{short_text}
use Rattle.pim_event_lines.specs.TextLine.{state_text, name_of}
use Rattle.pim_transitions.specs.declared.transition.By.{By}
use Rattle.pim_transitions.specs.declared.transition.By.TheVariants as by
use Rattle.pim_events.specs.declared.event.Cause.{Cause}
use Rattle.pim_events.specs.declared.event.EndOfTrace.{EndOfTrace}
use Rattle.pim_events.specs.declared.event.Fired.{Fired}
use Rattle.pim_events.specs.declared.event.Greeting.{Greeting}
use Rattle.pim_events.specs.declared.event.HeldMachine.{HeldMachine}
use Rattle.pim_events.specs.declared.event.Ignored.{Ignored}
use Rattle.pim_events.specs.declared.event.OwnRestart.{OwnRestart}
use Rattle.pim_events.specs.declared.event.Skip.{Skip}
use Rattle.pim_events.specs.declared.event.Skip.TheVariants.{NoPacket, OtherFamily}
use Rattle.pim_events.specs.declared.event.Skipping.{Skipping}
use Rattle.pim_events.specs.declared.event.SkipCounts.{SkipCounts}
use Rattle.pim_events.specs.declared.event.TimeOut.{TimeOut}
use Rattle.pim_down.specs.declared.machines.step.Timer.{Timer}
use Rattle.pim_down.specs.declared.machines.step.Timer.TheVariants.{PrunePending, Expiry}
use Rattle.pim_events.specs.declared.event.TransitionEvent.{TransitionEvent}
use Rattle.pim_events.specs.declared.event.WantedEntry.{WantedEntry}
use Rattle.pim_events.specs.declared.event.WantedWhat.{WantedWhat}
use Rattle.pim_events.specs.declared.event.WantedWhat.TheVariants as wanted

-- ---- values

-- A text as a JSON string.
abbrev pub quoted : List ℕ → List ℕ
quoted text = codes "\"" ++ text ++ codes "\""

-- A number, or `null` where there is none.
abbrev pub number_json : Option ℕ → List ℕ
number_json number = number_or (codes "null") number

-- An address as text, or `null` where there is none.
abbrev pub address_json : AddressFamily → Option (List ℕ) → List ℕ
address_json family None = codes "null"
address_json family (Some address) = quoted (short_text family address)

-- The time since 1970 in seconds, as text.
abbrev pub epoch_json : Option ℕ → List ℕ
epoch_json None = codes "null"
epoch_json (Some millis) = quoted (seconds_text millis)

-- The name of the port.
abbrev pub port_json : List (List ℕ) → Option ℕ → List ℕ
port_json names None = codes "null"
port_json names (Some port) = quoted (name_of names port)

-- What a Hello means for its sender.
abbrev pub meaning_word : Heard → List ℕ
meaning_word New = codes "new"
meaning_word Same = codes "same"
meaning_word Restarted = codes "restarted"
meaning_word Gone = codes "gone"

-- By what a message changed a state.
abbrev pub by_word : By → List ℕ
by_word by.Join = codes "join"
by_word by.Prune = codes "prune"
by_word by.End = codes "end"

-- The kind of a machine.
abbrev pub kind_word : What (List ℕ) → List ℕ
kind_word Star = codes "star"
kind_word (Source source) = codes "source"
kind_word (Rpt source) = codes "rpt"

-- The source of a machine that has one.
abbrev pub source_in : What (List ℕ) → Option (List ℕ)
source_in Star = None
source_in (Source source) = Some source
source_in (Rpt source) = Some source

-- What a router wants.
abbrev pub want_word : WantedWhat (List ℕ) → List ℕ
want_word wanted.Star = codes "star"
want_word (wanted.Source source) = codes "source"
want_word (wanted.Except source) = codes "except"

-- The source that it wants, or does not want.
abbrev pub wanted_source : WantedWhat (List ℕ) → Option (List ℕ)
wanted_source wanted.Star = None
wanted_source (wanted.Source source) = Some source
wanted_source (wanted.Except source) = Some source

-- The time left on an Expiry Timer that runs.
abbrev pub never_json : Option ℕ → List ℕ
never_json time = number_or (codes "\"never\"") time

-- The time left on the Expiry Timer of a machine.
abbrev pub expiry_json : Option Machine → List ℕ
expiry_json None = codes "null"
expiry_json (Some machine) = never_json machine.expires_in

-- The time left on the Prune-Pending Timer of a machine, if it runs.
abbrev pub pending_json : Option Machine → List ℕ
pending_json machine = number_json (time_left (pending_in machine))

-- Why a record is skipped.
abbrev pub skip_word : Skip → List ℕ
skip_word (NoPacket Cut) = codes "cut"
skip_word (NoPacket NotIp) = codes "not-ip"
skip_word (NoPacket BadHeader) = codes "bad-header"
skip_word (NoPacket NotPim) = codes "not-pim"
skip_word (NoPacket Fragment) = codes "fragment"
skip_word (NoPacket Part) = codes "fragment"
skip_word (NoPacket NoTime) = codes "no-time"
skip_word (NoPacket (LinkType number)) = codes "link-type"
skip_word (NoPacket (NotChosen link)) = codes "not-chosen"
skip_word (NoPacket Copy) = codes "copy"
skip_word (NoPacket CutShort) = codes "cut-short"
skip_word (NoPacket NextFile) = codes "next-file"
skip_word (NoPacket (OfLink link)) = codes "of-link"
skip_word (NoPacket (Incomplete packets)) = codes "incomplete"
skip_word OtherFamily = codes "family"

-- A timer.
abbrev pub timer_word : Timer → List ℕ
timer_word PrunePending = codes "ppt"
timer_word Expiry = codes "et"

-- Yes or no.
abbrev pub bool_json : Bool → List ℕ
bool_json true = codes "true"
bool_json false = codes "false"

-- ---- what follows the name of the event. `files` are the names of the files of the port.

-- The Generation IDs of the port's own router before and after a restart.
abbrev pub generations_json : OwnRestart → List ℕ
generations_json restart = codes ",\"was\":" ++ number_json restart.was ++ codes ",\"generation\":"
    ++ number_json restart.generation ++ codes "}"

-- `restarted`: the port's own router.
abbrev pub restart_json : List (List ℕ) → OwnRestart → List ℕ
restart_json files restart = (codes "restarted\",\"frame\":" ++ frame_json files restart.frame)
    ++ line (generations_json restart)

-- What a Hello means for its sender, and the Generation IDs.
abbrev pub meaning_json : Greeting (List ℕ) → List ℕ
meaning_json hello = codes ",\"verdict\":" ++ quoted (meaning_word hello.verdict) ++ codes ",\"was\":"
    ++ number_json hello.was ++ codes ",\"generation\":" ++ number_json hello.generation ++ codes "}"

-- `skipped`.
abbrev pub skipped_json : List (List ℕ) → Skipping → List ℕ
skipped_json files skipped = line (codes "skipped\",\"frame\":" ++ frame_json files skipped.frame ++ codes ",\"why\":\""
    ++ skip_word skipped.why ++ codes "\"}")

-- The counts of skipped records.
abbrev pub counts_json : SkipCounts → List ℕ
counts_json counts = codes "{\"cut\":" ++ decimal counts.cut ++ codes ",\"not-ip\":" ++ decimal counts.not_ip
    ++ codes ",\"bad-header\":" ++ decimal counts.bad_header ++ codes ",\"not-pim\":" ++ decimal counts.not_pim
    ++ codes ",\"fragment\":" ++ decimal counts.fragment ++ codes ",\"family\":" ++ decimal counts.family ++ codes "}"

-- The number of machines that are held, and of neighbours of all ports, up to the counts.
abbrev pub held_json : ℕ → ℕ → List ℕ
held_json records neighbours = codes "end\",\"records\":" ++ decimal records ++ codes ",\"neighbours\":"
    ++ decimal neighbours ++ codes ",\"skipped\":"

-- `end`.
abbrev pub ending_json : EndOfTrace → List ℕ
ending_json ending = held_json ending.records ending.neighbours ++ line (counts_json ending.skipped ++ codes "}")

-- The packet that is overridden, or `null` where none is.
abbrev pub overrides_json : List (List ℕ) → Option RecordPlace → List ℕ
overrides_json files None = codes "null" ++ if_several files (codes ",\"overrides_file\":null")
overrides_json files (Some place) =
    decimal place.«record» ++ file_json (codes ",\"overrides_file\":\"") files place

-- The states before and after a message.
abbrev pub states_json : Option State → Option State → List ℕ
states_json before after = codes ",\"was\":" ++ quoted (state_text before) ++ codes ",\"now\":"
    ++ quoted (state_text after)

-- The states before and after a message, the timers after it, and the neighbours of the port.
abbrev pub timers_json : TransitionEvent (List ℕ) → List ℕ
timers_json change = states_json change.before (state_in change.after) ++ codes ",\"et\":" ++ expiry_json change.after
    ++ codes ",\"ppt\":" ++ pending_json change.after ++ codes ",\"neighbours\":" ++ decimal change.neighbours
    ++ codes ",\"overrides\":"

-- The same, and what the message overrides.
abbrev pub outcome_json : List (List ℕ) → TransitionEvent (List ℕ) → List ℕ
outcome_json files change = timers_json change ++ line (overrides_json files change.overrides ++ codes "}")

-- The state of a machine that is held, the time since it was last in NoInfo, and its timers. An
-- Expiry Timer that never ends has no value.
abbrev pub held_times_json : HeldMachine (List ℕ) → List ℕ
held_times_json held = codes ",\"state\":" ++ quoted (state_name held.machine.state) ++ codes ",\"for\":"
    ++ decimal held.held_for ++ codes ",\"et\":" ++ expiry_json (Some held.machine) ++ codes ",\"ppt\":"
    ++ pending_json (Some held.machine)

module _ (family : AddressFamily) where
  -- The frame and the sender of a packet.
  abbrev pub sender_json : List (List ℕ) → RecordPlace → List ℕ → List ℕ
  sender_json files frame from = codes "\",\"frame\":" ++ frame_json files frame ++ codes ",\"from\":"
      ++ quoted (short_text family from)

  -- The kind of a machine and its group, up to its source.
  abbrev pub machine_json : List ℕ → What (List ℕ) → List ℕ
  machine_json group what = codes ",\"what\":\"" ++ kind_word what ++ codes "\",\"group\":"
      ++ quoted (short_text family group) ++ codes ",\"source\":"

  -- The source of a machine, if it has one.
  abbrev pub source_json : What (List ℕ) → List ℕ
  source_json what = address_json family (source_in what)

  -- `hello`.
  abbrev pub hello_json : List (List ℕ) → Greeting (List ℕ) → List ℕ
  hello_json files hello = (codes "hello" ++ sender_json files hello.frame hello.from) ++ line (meaning_json hello)

  -- To whom a Join/Prune message is addressed, and the number of its entries.
  abbrev pub message_json : Option Message → List ℕ
  message_json None = codes ",\"for\":null,\"joined\":null,\"pruned\":null"
  message_json (Some message) = codes ",\"for\":" ++ quoted (short_text family message.upstream)
      ++ codes ",\"joined\":" ++ decimal (joined_in message.sets)
      ++ codes ",\"pruned\":" ++ decimal (pruned_in message.sets)

  -- The verdict on a packet, without the last quote.
  abbrev pub verdict_json : List (List ℕ) → Judged → List ℕ
  verdict_json files packet = (codes "packet" ++ sender_json files packet.frame packet.from ++ codes ",\"verdict\":\"")
      ++ verdict_words packet.verdict

  -- `packet`.
  abbrev pub judged_json : List (List ℕ) → Judged → List ℕ
  judged_json files packet = verdict_json files packet ++ line (codes "\"" ++ message_json packet.message ++ codes "}")

  -- By what a message changed which machine, up to its source.
  abbrev pub by_json : TransitionEvent (List ℕ) → List ℕ
  by_json change = codes ",\"by\":" ++ quoted (by_word change.by) ++ machine_json change.group change.what

  -- The same, after the name of the event and the sender.
  abbrev pub change_json : List (List ℕ) → TransitionEvent (List ℕ) → List ℕ
  change_json files change = (codes "transition" ++ sender_json files change.frame change.from) ++ by_json change

  -- `transition`.
  abbrev pub transition_json : List (List ℕ) → TransitionEvent (List ℕ) → List ℕ
  transition_json files change = change_json files change ++ (source_json change.what ++ outcome_json files change)

  -- A Join(*,G) that is ignored, up to the RP of its group.
  abbrev pub entry_json : List (List ℕ) → Ignored (List ℕ) → List ℕ
  entry_json files entry = codes "ignored" ++ sender_json files entry.frame entry.from ++ codes ",\"group\":"
      ++ quoted (short_text family entry.group) ++ codes ",\"names\":" ++ quoted (short_text family entry.names)
      ++ codes ",\"rp\":"

  -- `ignored`.
  abbrev pub ignored_json : List (List ℕ) → Ignored (List ℕ) → List ℕ
  ignored_json files entry = entry_json files entry ++ (address_json family entry.rp ++ line (codes "}"))

  -- `timed-out`: the neighbour, and its last Hello that was taken.
  abbrev pub time_out_json : List (List ℕ) → TimeOut (List ℕ) → List ℕ
  time_out_json files over = line (codes "timed-out\",\"neighbour\":" ++ quoted (short_text family over.neighbour)
      ++ codes ",\"cause\":{\"frame\":" ++ frame_json files over.frame ++ codes ",\"ms\":" ++ decimal over.ms ++ codes "}}")

  -- The packet that set a timer.
  abbrev pub cause_json : List (List ℕ) → Cause (List ℕ) → List ℕ
  cause_json files cause = codes ",\"cause\":{\"frame\":" ++ frame_json files cause.frame ++ codes ",\"from\":"
      ++ quoted (short_text family cause.from) ++ codes ",\"ms\":" ++ decimal cause.ms ++ codes "}"

  -- The timer and its machine, up to its source.
  abbrev pub timer_json : Fired (List ℕ) → List ℕ
  timer_json firing = codes "fired\",\"timer\":" ++ quoted (timer_word firing.timer)
      ++ machine_json firing.group firing.what

  -- The states before and after, whether an echo is to be sent, and the packet that set the timer.
  abbrev pub effect_json : List (List ℕ) → Fired (List ℕ) → List ℕ
  effect_json files firing = line (states_json (Some firing.before) firing.after ++ codes ",\"echo\":"
      ++ bool_json firing.echo ++ cause_json files firing.cause ++ codes "}")

  -- `fired`.
  abbrev pub fired_json : List (List ℕ) → Fired (List ℕ) → List ℕ
  fired_json files firing = timer_json firing ++ (source_json firing.what ++ effect_json files firing)

  -- A machine that is held, up to its state.
  abbrev pub held_machine_json : HeldMachine (List ℕ) → List ℕ
  held_machine_json held = codes "record\"" ++ machine_json held.group held.what ++ source_json held.what

  -- Its state, its times, and the packet that set its Expiry Timer.
  abbrev pub held_state_json : List (List ℕ) → HeldMachine (List ℕ) → List ℕ
  held_state_json files held = held_times_json held ++ line (cause_json files held.cause ++ codes "}")

  -- `record`.
  abbrev pub record_json : List (List ℕ) → HeldMachine (List ℕ) → List ℕ
  record_json files held = held_machine_json held ++ held_state_json files held

  -- `want`.
  abbrev pub want_json : WantedEntry (List ℕ) → List ℕ
  want_json entry = line (codes "want\",\"what\":" ++ quoted (want_word entry.what) ++ codes ",\"group\":"
      ++ quoted (short_text family entry.group) ++ codes ",\"source\":"
      ++ address_json family (wanted_source entry.what) ++ codes ",\"via\":" ++ address_json family entry.via
      ++ codes "}")

  -- What happened: the name of the event without its first quote, and the members after it.
  abbrev pub what_json : List (List ℕ) → Happened → List ℕ
  what_json files (hello_heard hello) = hello_json files hello
  what_json files (packet_judged packet) = judged_json files packet
  what_json files (machine_changed change) = transition_json files change
  what_json files (join_ignored entry) = ignored_json files entry
  what_json files (own_restart restart) = restart_json files restart
  what_json files (record_skipped skipped) = skipped_json files skipped
  what_json files (neighbour_gone over) = time_out_json files over
  what_json files (timer_fired firing) = fired_json files firing
  what_json files (machine_held held) = record_json files held
  what_json files (entry_wanted entry) = want_json entry
  what_json files (run_ended ending) = ending_json ending

-- ---- whole lines

-- The moment and the time since 1970.
abbrev pub time_json : ℕ → Option ℕ → List ℕ
time_json ms epoch = codes "{\"ms\":" ++ decimal ms ++ codes ",\"epoch\":" ++ epoch_json epoch

-- The port, up to the name of the event.
abbrev pub place_json : List (List ℕ) → Option ℕ → List ℕ
place_json names port = codes ",\"port\":" ++ port_json names port ++ codes ",\"event\":\""

-- The line of an event as JSON. `files` are the names of the files of each port, as they stand in
-- JSON strings.
abbrev pub json_line : AddressFamily → List (List ℕ) → List (List (List ℕ)) → Occurrence → List ℕ
json_line family names files event = (time_json event.ms event.epoch ++ place_json names event.port)
    ++ what_json family (files_of files event.port) event.what
