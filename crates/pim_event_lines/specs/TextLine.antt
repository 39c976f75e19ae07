-- The line of an event as text.
use Rattle.std.specs.Prelude.{ℕ, ◌-◌, ◌==◌, if◌then◌else◌, Bool, true, false, List, [], ◌++◌, Option, None, Some}
use Rattle.std.specs.Prelude.{slice_index_or, codes, decimal}
use Rattle.pim_addr.specs.declared.family.AddressFamily.{AddressFamily}
use Rattle.pim_capture.specs.declared.incomplete.RecordPlace.{RecordPlace}
use Rattle.pim_capture.specs.declared.event.Why.TheVariants.{Cut, NotIp, BadHeader, NotPim, Fragment}
use Rattle.pim_capture.specs.declared.event.Why.TheVariants.{Part, NoTime, LinkType, NotChosen, Copy, CutShort, NextFile, OfLink, Incomplete}
use Rattle.pim_down.specs.declared.machines.key.What.{What}
use Rattle.pim_down.specs.declared.machines.key.What.TheVariants.{Star, Source, Rpt}
use Rattle.pim_down.specs.declared.machines.machine.Machine.{Machine}
use Rattle.pim_down.specs.declared.machines.machine.Pending.{Pending}
use Rattle.pim_down.specs.declared.machines.machine.State.{State}
use Rattle.pim_hello.specs.declared.heard.Heard.{Heard}
use Rattle.pim_hello.specs.declared.heard.Heard.TheVariants.{New, Same, Restarted, Gone}
use Rattle.pim_jp.specs.Message.{Message}
use Rattle.pim_report.specs.EchoLine.{kind_of}
use Rattle.pim_report.specs.PacketLine.{heard_words, verdict_words}
use Rattle.pim_lines.specs.Pieces.{line, number_or}
use Rattle.pim_report.specs.RecordLine.{state_name}
use Rattle.pim_event_lines.specs.Counts.{joined_in, pruned_in}
use Rattle.pim_event_lines.specs.Files.{files_of, frame_text}
use Rattle.pim_events.specs.Events.{Happened, Judged, Occurrence, hello_heard, packet_judged, machine_changed}
use Rattle.pim_events.specs.Events.{join_ignored, own_restart, record_skipped, neighbour_gone, timer_fired}
use Rattle.pim_events.specs.Events.{machine_held, entry_wanted, run_ended}
use Rattle.pim_event_lines.specs.Moments.{moment_text}
use Rattle.pim_events.specs.Parts.{state_in, pending_in}
use Rattle.pim_lines.specs.ShortText.{short_text}
use Rattle.pim_transitions.specs.declared.transition.By.{By}
use Rattle.pim_transitions.specs.declared.transition.By.TheVariants as by
use Rattle.pim_events.specs.declared.event.Cause.{Cause}
use Rattle.pim_events.specs.declared.event.EndOfTrace.{EndOfTrace}
use Rattle.pim_events.specs.declared.event.Fired.{Fired}
use Rattle.pim_events.specs.declared.event.Greeting.{Greeting}
use Rattle.pim_events.specs.declared.event.HeldMachine.{HeldMachine}
use Rattle.pim_events.specs.declared.event.Ignored.{Ignored}
use Rattle.pim_events.specs.declared.event.OwnRestart.{OwnRestart}
use Rattle.pim_events.specs.declared.event.Skip.{Skip}
use Rattle.pim_events.specs.declared.event.Skip.TheVariants.{NoPacket, OtherFamily}
use Rattle.pim_events.specs.declared.event.Skipping.{Skipping}
use Rattle.pim_events.specs.declared.event.SkipCounts.{SkipCounts}
use Rattle.pim_events.specs.declared.event.TimeOut.{TimeOut}
use Rattle.pim_down.specs.declared.machines.step.Timer.{Timer}
use Rattle.pim_down.specs.declared.machines.step.Timer.TheVariants.{PrunePending, Expiry}
use Rattle.pim_events.specs.declared.event.TransitionEvent.{TransitionEvent}
use Rattle.pim_events.specs.declared.event.WantedEntry.{WantedEntry}
use Rattle.pim_events.specs.declared.event.WantedWhat.{WantedWhat}
use Rattle.pim_events.specs.declared.event.WantedWhat.TheVariants as wanted
use Rattle.pim_time.specs.declared.form.TimeForm.{TimeForm}

-- ---- words

-- A Generation ID, or `-` where there is none.
abbrev pub generation_text : Option ℕ → List ℕ
generation_text generation = number_or (codes "-") generation

-- The name of a state; `no-info` is that of a machine that is not held.
abbrev pub state_text : Option State → List ℕ
state_text None = codes "no-info"
state_text (Some state) = state_name state

-- `STATE -> STATE`.
abbrev pub states_text : Option State → Option State → List ℕ
states_text before after = state_text before ++ codes " -> " ++ state_text after

-- What a message does to a machine.
abbrev pub by_words : By → List ℕ
by_words by.Join = codes " joins "
by_words by.Prune = codes " prunes "
by_words by.End = codes " no longer prunes "

-- Why a record is skipped.
abbrev pub skip_words : Skip → List ℕ
skip_words (NoPacket Fragment) = codes "a fragment of a PIM message"
skip_words (NoPacket Part) = codes "a fragment of a PIM message"
skip_words (NoPacket NoTime) = codes "without a time"
skip_words (NoPacket (LinkType number)) = codes "a link type that is not read"
skip_words (NoPacket (NotChosen link)) = codes "of another link than the chosen one"
skip_words (NoPacket Copy) = codes "a copy of another packet"
skip_words (NoPacket CutShort) = codes "cut short by the end of its file"
skip_words (NoPacket NextFile) = codes "the capture goes on with its next file"
skip_words (NoPacket (OfLink link)) = codes "the link of the packet before it"
skip_words (NoPacket (Incomplete packets)) = codes "what is reported of incomplete packets"
skip_words (NoPacket Cut) = codes "fewer bytes captured than its lengths say"
skip_words (NoPacket NotIp) = codes "not IPv4 or IPv6"
skip_words (NoPacket BadHeader) = codes "a bad IP header"
skip_words (NoPacket NotPim) = codes "not PIM"
skip_words OtherFamily = codes "PIM of the other family"

-- `N neighbours`, or `1 neighbour`.
abbrev pub neighbours_text : ℕ → List ℕ
neighbours_text count = decimal count ++ (if count == 1 then codes " neighbour" else codes " neighbours")

-- ---- the parts of a transition that may lack

-- The time left on the Expiry Timer of a machine that is held.
abbrev pub expiry_part : Option Machine → List ℕ
expiry_part None = []
expiry_part (Some machine) = codes ", et " ++ number_or (codes "never") machine.expires_in

-- The time left on the Prune-Pending Timer and the number of neighbours, if that timer runs.
abbrev pub waiting_part : ℕ → Option Pending → List ℕ
waiting_part neighbours None = []
waiting_part neighbours (Some timer) = codes ", ppt " ++ decimal timer.ends_in ++ codes ", "
    ++ neighbours_text neighbours

-- The time left on the Prune-Pending Timer, if it runs.
abbrev pub pending_part : Option Pending → List ℕ
pending_part None = []
pending_part (Some timer) = codes ", ppt " ++ decimal timer.ends_in

-- The packet that is overridden, if one is.
abbrev pub overrides_part : List (List ℕ) → Option RecordPlace → List ℕ
overrides_part files None = []
overrides_part files (Some place) = codes ", overrides " ++ frame_text files place

-- `, echo` where the router is to send a PruneEcho.
abbrev pub echo_part : Bool → List ℕ
echo_part false = []
echo_part true = codes ", echo"

-- ---- the lines without the moment and the port. `files` are the names of the files of the port.

-- The timers of the machine after a message, and what the message overrides.
abbrev pub timers_line : List (List ℕ) → TransitionEvent (List ℕ) → List ℕ
timers_line files change = expiry_part change.after
    ++ (waiting_part change.neighbours (pending_in change.after) ++ line (overrides_part files change.overrides))

-- The Generation IDs of the port's own router before and after a restart, and what that means.
abbrev pub restart_words : OwnRestart → List ℕ
restart_words restart = codes " own Hello, generation " ++ generation_text restart.was ++ codes " -> "
    ++ generation_text restart.generation ++ codes ": this router restarted; it lost what it held, the replay keeps it"

-- A restart of the port's own router.
abbrev pub restart_line : List (List ℕ) → OwnRestart → List ℕ
restart_line files restart = frame_text files restart.frame ++ line (restart_words restart)

-- A record that is skipped.
abbrev pub skipped_line : List (List ℕ) → Skipping → List ℕ
skipped_line files skipped = line (frame_text files skipped.frame ++ codes " skipped: " ++ skip_words skipped.why)

-- What the end of a timer means.
abbrev pub timer_words : Timer → List ℕ
timer_words PrunePending = codes "prune takes effect "
timer_words Expiry = codes "expired "

-- What its cause did.
abbrev pub cause_words : Timer → List ℕ
cause_words PrunePending = codes "; pruned by "
cause_words Expiry = codes "; time set by "

-- The echo is that of a Prune that takes effect.
abbrev pub echo_text : Timer → Bool → List ℕ
echo_text PrunePending echo = echo_part echo
echo_text Expiry echo = []

-- The counts of skipped records.
abbrev pub counts_text : SkipCounts → List ℕ
counts_text counts = codes " skipped cut " ++ decimal counts.cut ++ codes " not-ip " ++ decimal counts.not_ip
    ++ codes " bad-header " ++ decimal counts.bad_header ++ codes " not-pim " ++ decimal counts.not_pim
    ++ codes " fragment " ++ decimal counts.fragment ++ codes " family " ++ decimal counts.family

-- The number of machines that are held, and of neighbours of all ports.
abbrev pub held_text : ℕ → ℕ → List ℕ
held_text records neighbours = codes "end: records " ++ decimal records ++ codes " neighbours " ++ decimal neighbours

-- The end of the run.
abbrev pub ending_line : EndOfTrace → List ℕ
ending_line ending = held_text ending.records ending.neighbours ++ line (counts_text ending.skipped)

-- The tree that a router wants: that of the RP, with or without an exception, or that of a source.
abbrev pub tree_of : WantedWhat (List ℕ) → What (List ℕ)
tree_of wanted.Star = Star
tree_of (wanted.Source source) = Source source
tree_of (wanted.Except source) = Star

-- The source that a router does not want from the RP.
abbrev pub exception_in : WantedWhat (List ℕ) → Option (List ℕ)
exception_in wanted.Star = None
exception_in (wanted.Source source) = None
exception_in (wanted.Except source) = Some source

-- The Generation ID of a Hello.
abbrev pub generation_part : Option ℕ → List ℕ
generation_part generation = codes ", generation " ++ generation_text generation

-- The Generation IDs before and after a restart.
abbrev pub restarted_part : Option ℕ → Option ℕ → List ℕ
restarted_part was generation = codes ", generation " ++ generation_text was ++ codes " -> "
    ++ generation_text generation ++ codes "; its joins stay until they expire"

-- What a Hello means for its sender.
abbrev pub meaning_text : Heard → Option ℕ → Option ℕ → List ℕ
meaning_text New was generation = generation_part generation
meaning_text Same was generation = generation_part generation
meaning_text Restarted was generation = restarted_part was generation
meaning_text Gone was generation = codes "; its joins stay until they expire"

module _ (family : AddressFamily) where
  -- `#N A`, or `FILE#N A`.
  abbrev pub sender_text : List (List ℕ) → RecordPlace → List ℕ → List ℕ
  sender_text files frame from = frame_text files frame ++ codes " " ++ short_text family from

  -- The source of a machine and a space, or nothing for (*,G).
  abbrev pub source_words : What (List ℕ) → List ℕ
  source_words Star = []
  source_words (Source source) = short_text family source ++ codes " "
  source_words (Rpt source) = short_text family source ++ codes " "

  -- `star G`, `source S G` or `rpt S G`.
  abbrev pub machine_text : List ℕ → What (List ℕ) → List ℕ
  machine_text group what = kind_of what ++ source_words what ++ short_text family group

  -- The sender of a Hello that was taken, and what it means.
  abbrev pub greeting_text : List (List ℕ) → Greeting (List ℕ) → List ℕ
  greeting_text files hello = sender_text files hello.frame hello.from ++ codes ": " ++ heard_words hello.verdict

  -- A Hello that was taken.
  abbrev pub hello_line : List (List ℕ) → Greeting (List ℕ) → List ℕ
  hello_line files hello = greeting_text files hello ++ line (meaning_text hello.verdict hello.was hello.generation)

  -- To whom a Join/Prune message is addressed, and the number of its entries.
  abbrev pub message_part : Option Message → List ℕ
  message_part None = []
  message_part (Some message) = codes ", for " ++ short_text family message.upstream ++ codes ", joined "
      ++ decimal (joined_in message.sets) ++ codes " pruned " ++ decimal (pruned_in message.sets)

  -- The verdict on a packet.
  abbrev pub verdict_text : List (List ℕ) → Judged → List ℕ
  verdict_text files packet = (sender_text files packet.frame packet.from ++ codes ": ") ++ verdict_words packet.verdict

  -- A packet with its verdict.
  abbrev pub judged_line : List (List ℕ) → Judged → List ℕ
  judged_line files packet = verdict_text files packet ++ line (message_part packet.message)

  -- What a message does to a machine, and the states before and after it.
  abbrev pub change_words : TransitionEvent (List ℕ) → List ℕ
  change_words change = by_words change.by ++ machine_text change.group change.what ++ codes ": "
      ++ states_text change.before (state_in change.after)

  -- The same, after the sender.
  abbrev pub change_text : List (List ℕ) → TransitionEvent (List ℕ) → List ℕ
  change_text files change = sender_text files change.frame change.from ++ change_words change

  -- A machine that a message changed.
  abbrev pub transition_line : List (List ℕ) → TransitionEvent (List ℕ) → List ℕ
  transition_line files change = change_text files change ++ timers_line files change

  -- The RP of the group, if it has one.
  abbrev pub rp_part : Option (List ℕ) → List ℕ
  rp_part None = codes "this group has no RP (--rp)"
  rp_part (Some rp) = codes "the RP of this group is " ++ short_text family rp

  -- A Join(*,G) that is ignored, and the RP that it names.
  abbrev pub entry_text : List (List ℕ) → Ignored (List ℕ) → List ℕ
  entry_text files entry = sender_text files entry.frame entry.from ++ codes " joins star " ++ short_text family entry.group
      ++ codes ": ignored, it names RP " ++ short_text family entry.names ++ codes ", and "

  -- A Join(*,G) that is ignored.
  abbrev pub ignored_line : List (List ℕ) → Ignored (List ℕ) → List ℕ
  ignored_line files entry = entry_text files entry ++ line (rp_part entry.rp)

  -- A neighbour whose time is over, at this moment.
  abbrev pub time_out_line : List (List ℕ) → ℕ → TimeOut (List ℕ) → List ℕ
  time_out_line files ms over = line (codes "neighbour " ++ short_text family over.neighbour
      ++ codes " timed out; Hello " ++ frame_text files over.frame ++ codes ", " ++ decimal (ms - over.ms)
      ++ codes " ms before; its joins stay until they expire")

  -- A timer that fired, its machine, the states before and after, and whether an echo is to be
  -- sent.
  abbrev pub effect_text : Fired (List ℕ) → List ℕ
  effect_text firing = timer_words firing.timer ++ machine_text firing.group firing.what ++ codes ": "
      ++ states_text (Some firing.before) firing.after ++ echo_text firing.timer firing.echo

  -- The packet that set the timer, and how long before this moment it came.
  abbrev pub cause_line : List (List ℕ) → ℕ → Timer → Cause (List ℕ) → List ℕ
  cause_line files ms timer cause = line (cause_words timer ++ short_text family cause.from ++ codes " in "
      ++ frame_text files cause.frame ++ codes ", " ++ decimal (ms - cause.ms) ++ codes " ms before")

  -- A timer that fired, at this moment.
  abbrev pub fired_line : List (List ℕ) → ℕ → Fired (List ℕ) → List ℕ
  fired_line files ms firing = effect_text firing ++ cause_line files ms firing.timer firing.cause

  -- A machine that is held, its state, the time since it was last in NoInfo, and the time left on
  -- its Expiry Timer.
  abbrev pub record_text : HeldMachine (List ℕ) → List ℕ
  record_text held = codes "holds " ++ machine_text held.group held.what ++ codes ": "
      ++ state_name held.machine.state ++ codes " for " ++ decimal held.held_for ++ codes " ms"
      ++ expiry_part (Some held.machine)

  -- The time left on the Prune-Pending Timer of a machine, and the packet that set its Expiry Timer.
  abbrev pub timer_line : List (List ℕ) → ℕ → HeldMachine (List ℕ) → List ℕ
  timer_line files ms held = pending_part held.machine.pending ++ cause_line files ms Expiry held.cause

  -- A machine that is held at this moment.
  abbrev pub record_line : List (List ℕ) → ℕ → HeldMachine (List ℕ) → List ℕ
  record_line files ms held = record_text held ++ timer_line files ms held

  -- Words and an address, or nothing where there is no address.
  abbrev pub address_part : List ℕ → Option (List ℕ) → List ℕ
  address_part words None = []
  address_part words (Some address) = words ++ short_text family address

  -- The tree that the router wants, its upstream neighbour, and the source that it does not want
  -- from there.
  abbrev pub want_line : WantedEntry (List ℕ) → List ℕ
  want_line entry = line (codes "wants " ++ machine_text entry.group (tree_of entry.what)
      ++ address_part (codes " via ") entry.via ++ address_part (codes " except ") (exception_in entry.what))

  -- What happened, at this moment.
  abbrev pub what_line : List (List ℕ) → ℕ → Happened → List ℕ
  what_line files ms (hello_heard hello) = hello_line files hello
  what_line files ms (packet_judged packet) = judged_line files packet
  what_line files ms (machine_changed change) = transition_line files change
  what_line files ms (join_ignored entry) = ignored_line files entry
  what_line files ms (own_restart restart) = restart_line files restart
  what_line files ms (record_skipped skipped) = skipped_line files skipped
  what_line files ms (neighbour_gone over) = time_out_line files ms over
  what_line files ms (timer_fired firing) = fired_line files ms firing
  what_line files ms (machine_held held) = record_line files ms held
  what_line files ms (entry_wanted entry) = want_line entry
  what_line files ms (run_ended ending) = ending_line ending

-- ---- whole lines

-- The name of a port; empty where there is none.
abbrev pub name_of : List (List ℕ) → ℕ → List ℕ
name_of names port = slice_index_or names port []

-- The name of the port and a space; nothing where there is no port.
abbrev pub port_text : List (List ℕ) → Option ℕ → List ℕ
port_text names None = []
port_text names (Some port) = name_of names port ++ codes " "

-- `MOMENT NAME `, or `MOMENT ` where there is no port.
abbrev pub head_text : List (List ℕ) → TimeForm → ℕ → Option ℕ → Option ℕ → List ℕ
head_text names form ms epoch port = moment_text form ms epoch ++ codes " " ++ port_text names port

-- The line of an event: its moment, its port, and what happened. `files` are the names of the files
-- of each port.
abbrev pub text_line : AddressFamily → List (List ℕ) → List (List (List ℕ)) → TimeForm → Occurrence → List ℕ
text_line family names files form event = head_text names form event.ms event.epoch event.port
    ++ what_line family (files_of files event.port) event.ms event.what
