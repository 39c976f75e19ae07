use Rattle.std.proofs.Common.{◌≡◌, false, drop, map}
use Rattle.std.specs.List.{AllByRecursion}
use Rattle.pim_down.specs.Hearing.{Event}
use Rattle.pim_down.specs.Seen.{event_seen}
use Rattle.pim_audit.specs.Dued.{with_all}
use Rattle.pim_audit.specs.Gathering.{is_entry_of}
use Rattle.pim_audit.specs.Look.{held_entries}
use Rattle.pim_audit.specs.Order.{EntriesAscend}
use Rattle.pim_audit.proofs.look.add_new.Given as goal

-- what was added and what is left to add are all, and nothing of the latter is held
abbrev pub invariant-loop-entry : goal.invariant-loop-entry
invariant-loop-entry g l =
    let bytes_of = g.F.Family.bytes_of in
    record {
      dues : with_all l.moment (map (event_seen bytes_of) (drop l.entry-index l.new)) l.dues
          ≡ with_all l.moment (map (event_seen bytes_of) l.new) l.fn.dues;
      order : EntriesAscend (map (event_seen bytes_of) (drop l.entry-index l.new));
      fresh : AllByRecursion (λ (e : Event). is_entry_of (held_entries l.dues) e ≡ false)
          (map (event_seen bytes_of) (drop l.entry-index l.new));
    }
