use Rattle.pim_change.proofs.Words.{◌∙◌, refl, ap, Unit, action_seen, action_fits}
use Rattle.pim_change.proofs.RunCounts.{counted_next, stops_here, fits_at, some_fit, none_fit}
use Rattle.pim_change.proofs.runs.run_length.Goals as goal

pub loop-index-init : goal.loop-index-init
unfolding Rattle.pim_form.specs.Units.groups_behind Rattle.pim_form.specs.Units.run_entries
loop-index-init g c = record {
  fitting = none_fit g.F.Family.bytes_of g.F.Family.family c.args.budget c.requires.least;
  groups = refl;
  entries = refl;
}

pub entry_count-requires-clause-fits : goal.entry_count-requires-clause-fits
entry_count-requires-clause-fits g c =
    let bytes_of = g.F.Family.bytes_of in
    ap (λ (u : Unit _). action_fits g.F.Family.family c.args.budget (bytes_of u.group)
    (action_seen bytes_of u.action)) c.index-units-index.is
    ∙ fits_at bytes_of g.F.Family.family c.args.budget c.args.units.now c.loop-index.index c.index-units-index.result
    c.loop-index-test.true c.requires.alone

pub returns-then-not-has_room-clause-some : goal.returns-then-not-has_room-clause-some
returns-then-not-has_room-clause-some g c =
    let bytes_of = g.F.Family.bytes_of in
    let counted = counted_next bytes_of c.args.units.now c.loop-index.index c.index-units-index.result
    c.loop-index.groups c.from.result c.loop-index.entries c.entry_count.result c.begins_set.result
    c.loop-index-test.true c.index-units-index.is c.loop-index.invariant.groups c.loop-index.invariant.entries
    c.begins_set.ensures c.from.ensures c.entry_count.ensures.count in
    some_fit bytes_of g.F.Family.family c.args.budget c.args.units.now c.loop-index.index c.index-units-index.result
    c.loop-index-test.true c.requires.least c.requires.alone
    (c.has_room.ensures _ counted.0 counted.1 ∙ c.if-not-has_room.true)

pub returns-then-not-has_room-clause-stops : goal.returns-then-not-has_room-clause-stops
returns-then-not-has_room-clause-stops g c =
    let bytes_of = g.F.Family.bytes_of in
    let counted = counted_next bytes_of c.args.units.now c.loop-index.index c.index-units-index.result
    c.loop-index.groups c.from.result c.loop-index.entries c.entry_count.result c.begins_set.result
    c.loop-index-test.true c.index-units-index.is c.loop-index.invariant.groups c.loop-index.invariant.entries
    c.begins_set.ensures c.from.ensures c.entry_count.ensures.count in
    stops_here bytes_of g.F.Family.family c.args.budget c.args.units.now c.loop-index.index
    c.index-units-index.result c.loop-index-test.true
    (c.has_room.ensures _ counted.0 counted.1 ∙ c.if-not-has_room.true)

pub loop-index-preserved : goal.loop-index-preserved
loop-index-preserved g c =
    let bytes_of = g.F.Family.bytes_of in
    let counted = counted_next bytes_of c.args.units.now c.loop-index.index c.index-units-index.result
    c.loop-index.groups c.from.result c.loop-index.entries c.entry_count.result c.begins_set.result
    c.loop-index-test.true c.index-units-index.is c.loop-index.invariant.groups c.loop-index.invariant.entries
    c.begins_set.ensures c.from.ensures c.entry_count.ensures.count in
    record {
      fitting = c.has_room.ensures _ counted.0 counted.1 ∙ c.if-not-has_room.false;
      groups = counted.0;
      entries = counted.1;
    }
