use Rattle.std.proofs.Common.{◌≡◌, ◌++◌, drop, filter}
use Rattle.pim_audit.specs.Dued.{without_all}
use Rattle.pim_audit.specs.Look.{DueEntry}
use Rattle.pim_audit.specs.Seen.{dues_seen}
use Rattle.pim_audit.proofs.look.remove_gone.Given as goal

-- what was removed and what is left to remove are all
abbrev pub invariant-loop-held : goal.invariant-loop-held
invariant-loop-held g l =
    let bytes_of = g.F.Family.bytes_of in
    record {
      dues : without_all (dues_seen bytes_of (drop l.held-index l.gone)) l.dues ≡ without_all (dues_seen bytes_of l.gone) l.fn.dues;
      ended : dues_seen bytes_of l.ended.items
          ++ filter (λ (held : DueEntry). held.is_reported) (dues_seen bytes_of (drop l.held-index l.gone))
          ≡ filter (λ (held : DueEntry). held.is_reported) (dues_seen bytes_of l.gone);
    }
