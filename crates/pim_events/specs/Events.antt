-- The events of a trace as contracts see them, with each address as its list of bytes.
use Rattle.std.specs.Prelude.{ℕ, ◌+◌, min, List, Option, option_map}
use Rattle.pim_capture.specs.declared.incomplete.RecordPlace.{RecordPlace}
use Rattle.pim_device.specs.Device.{top_count}
use Rattle.pim_down.specs.Seen.{what_seen}
use Rattle.pim_jp.specs.Message.{Message}
use Rattle.pim_router.specs.declared.verdict.Verdict.{Verdict}
use Rattle.pim_events.specs.declared.event.Cause.{Cause}
use Rattle.pim_events.specs.declared.event.EndOfTrace.{EndOfTrace}
use Rattle.pim_events.specs.declared.event.TraceEvent.{TraceEvent}
use Rattle.pim_events.specs.declared.event.Fired.{Fired}
use Rattle.pim_events.specs.declared.event.Greeting.{Greeting}
use Rattle.pim_events.specs.declared.event.Happening.{Happening}
use Rattle.pim_events.specs.declared.event.Happening.TheVariants as happening
use Rattle.pim_events.specs.declared.event.HeldMachine.{HeldMachine}
use Rattle.pim_events.specs.declared.event.Ignored.{Ignored}
use Rattle.pim_events.specs.declared.event.Judgment.{Judgment}
use Rattle.pim_events.specs.declared.event.OwnRestart.{OwnRestart}
use Rattle.pim_events.specs.declared.event.Skipping.{Skipping}
use Rattle.pim_events.specs.declared.event.TimeOut.{TimeOut}
use Rattle.pim_events.specs.declared.event.TransitionEvent.{TransitionEvent}
use Rattle.pim_events.specs.declared.event.WantedEntry.{WantedEntry}
use Rattle.pim_events.specs.declared.event.WantedWhat.{WantedWhat}
use Rattle.pim_events.specs.declared.event.WantedWhat.TheVariants as wanted

-- The time of a moment in milliseconds since 1970, where moment 0 has the time `start`. It stops at
-- 2^64 - 1.
abbrev pub epoch_at : Option ℕ → ℕ → Option ℕ
epoch_at start ms = option_map (λ begin. min (begin + ms) top_count) start

-- A packet with the verdict on it. `message` is there if it reads as a Join/Prune (RFC 7761,
-- 4.9.5).
pub record Judged : Type 0 where
  pub frame : RecordPlace
  pub from : List ℕ
  pub verdict : Verdict
  pub message : Option Message

-- What happened.
pub data Happened : Type 0 where
  hello_heard : Greeting (List ℕ) → Happened
  packet_judged : Judged → Happened
  machine_changed : TransitionEvent (List ℕ) → Happened
  join_ignored : Ignored (List ℕ) → Happened
  own_restart : OwnRestart → Happened
  record_skipped : Skipping → Happened
  neighbour_gone : TimeOut (List ℕ) → Happened
  timer_fired : Fired (List ℕ) → Happened
  machine_held : HeldMachine (List ℕ) → Happened
  entry_wanted : WantedEntry (List ℕ) → Happened
  run_ended : EndOfTrace → Happened

-- An event: its moment in milliseconds since the first record, the same time in milliseconds since
-- 1970, its port, and what happened. Without any record there is no time since 1970. Only what the
-- router wants and the end of the run have no port.
pub record Occurrence : Type 0 where
  pub ms : ℕ
  pub epoch : Option ℕ
  pub port : Option ℕ
  pub what : Happened

-- ---- the values of the code as these

module _ {A : Type 0} (bytes_of : A → List ℕ) where
  abbrev pub greeting_seen : Greeting A → Greeting (List ℕ)
  greeting_seen hello = record {
    frame = hello.frame;
    from = bytes_of hello.from;
    verdict = hello.verdict;
    was = hello.was;
    generation = hello.generation;
  }

  abbrev pub judgment_seen : {F N : Type 0} → Judgment F A N → Judged
  judgment_seen packet = record {
    frame = packet.frame;
    from = bytes_of packet.from;
    verdict = packet.verdict;
    message = packet.message;
  }

  abbrev pub transition_seen : TransitionEvent A → TransitionEvent (List ℕ)
  transition_seen change = record {
    frame = change.frame;
    from = bytes_of change.from;
    by = change.by;
    group = bytes_of change.group;
    what = what_seen bytes_of change.what;
    before = change.before;
    after = change.after;
    neighbours = change.neighbours;
    overrides = change.overrides;
  }

  abbrev pub ignored_seen : Ignored A → Ignored (List ℕ)
  ignored_seen entry = record {
    frame = entry.frame;
    from = bytes_of entry.from;
    group = bytes_of entry.group;
    names = bytes_of entry.names;
    rp = option_map bytes_of entry.rp;
  }

  abbrev pub time_out_seen : TimeOut A → TimeOut (List ℕ)
  time_out_seen over = record { neighbour = bytes_of over.neighbour; frame = over.frame; ms = over.ms }

  abbrev pub cause_seen : Cause A → Cause (List ℕ)
  cause_seen cause = record { frame = cause.frame; from = bytes_of cause.from; ms = cause.ms }

  abbrev pub fired_seen : Fired A → Fired (List ℕ)
  fired_seen firing = record {
    timer = firing.timer;
    group = bytes_of firing.group;
    what = what_seen bytes_of firing.what;
    before = firing.before;
    after = firing.after;
    echo = firing.echo;
    cause = cause_seen firing.cause;
  }

  abbrev pub held_seen : HeldMachine A → HeldMachine (List ℕ)
  held_seen held = record {
    group = bytes_of held.group;
    what = what_seen bytes_of held.what;
    machine = held.machine;
    held_for = held.held_for;
    cause = cause_seen held.cause;
  }

  abbrev pub wanted_what_seen : WantedWhat A → WantedWhat (List ℕ)
  wanted_what_seen wanted.Star = wanted.Star
  wanted_what_seen (wanted.Source source) = wanted.Source (bytes_of source)
  wanted_what_seen (wanted.Except source) = wanted.Except (bytes_of source)

  abbrev pub wanted_seen : WantedEntry A → WantedEntry (List ℕ)
  wanted_seen entry = record {
    group = bytes_of entry.group;
    what = wanted_what_seen entry.what;
    via = option_map bytes_of entry.via;
  }

  abbrev pub happening_seen : {F N : Type 0} → Happening F A N → Happened
  happening_seen (happening.Hello hello) = hello_heard (greeting_seen hello)
  happening_seen (happening.Packet packet) = packet_judged (judgment_seen packet)
  happening_seen (happening.Transition change) = machine_changed (transition_seen change)
  happening_seen (happening.Ignored entry) = join_ignored (ignored_seen entry)
  happening_seen (happening.Restarted restart) = own_restart restart
  happening_seen (happening.Skipped skipped) = record_skipped skipped
  happening_seen (happening.TimedOut over) = neighbour_gone (time_out_seen over)
  happening_seen (happening.Fired firing) = timer_fired (fired_seen firing)
  happening_seen (happening.Held held) = machine_held (held_seen held)
  happening_seen (happening.Wanted entry) = entry_wanted (wanted_seen entry)
  happening_seen (happening.Ended ending) = run_ended ending

  abbrev pub event_seen : {F N : Type 0} → TraceEvent F A N → Occurrence
  event_seen event = record {
    ms = event.ms;
    epoch = event.epoch;
    port = event.port;
    what = happening_seen event.what;
  }
