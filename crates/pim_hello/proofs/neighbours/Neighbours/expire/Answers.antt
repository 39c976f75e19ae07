use Rattle.pim_hello.proofs.Words.{arith, ◌∙◌, sym, ap, without_ended, table_seen}
use Rattle.pim_hello.proofs.Kept.{passed_seen, removed_seen, settled_seen}
use Rattle.pim_hello.proofs.neighbours.Neighbours.expire.Goals as goal

pub loop-removed-preserved : goal.loop-removed-preserved
loop-removed-preserved g c = (
  c.loop-removed.invariant.0,
  omega (arith, c.in-Some.ensures.shorter, c.loop-removed.invariant.1),
  removed_seen g.F.Addr.Ord.cmp g.F.Family.bytes_of c.loop-removed.self-inside.moment c.in-Some._removed c.loop-removed.self-inside.roster.neighbours.entries _ c.in-Some.ensures.ended c.in-Some.ensures.removed
      ∙ c.loop-removed.invariant.2,
)

pub returns : goal.returns
returns g c = rw (← c.self.view_is) (ap (table_seen g.F.Family.bytes_of c.loop-removed.self-inside.moment) c.in_default.ensures.unchanged
    ∙ sym (settled_seen g.F.Addr.Ord.cmp g.F.Family.bytes_of c.loop-removed.self-inside.moment g.met.F.Addr.Ord.total c.loop-removed.self-inside.roster.neighbours c.loop-removed.self-inside.roster.ascending c.in_default.ensures.none_ended)
    ∙ c.loop-removed.invariant.2
    ∙ ap without_ended (passed_seen g.F.Family.bytes_of c.self.inside.moment c.args.now c.loop-removed.self-inside.moment c.self.inside.roster.neighbours.entries (c.loop-removed.invariant.0 ∙ c.max-self-inside.ensures)))
