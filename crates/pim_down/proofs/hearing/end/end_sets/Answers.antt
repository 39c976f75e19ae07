use Rattle.pim_down.proofs.Words.{refl, sym, ap, ◌∙◌, rp_of, records_seen}
use Rattle.pim_down.proofs.Ending.{others_set, still_set, ends_group, ends_skip, ends_message}
use Rattle.pim_down.proofs.Events.{sets_events}
use Rattle.pim_down.proofs.hearing.end.end_sets.Goals as goal

pub loop-set-init : goal.loop-set-init
loop-set-init g c =
    let items = c.into_iter-set-iterator.ensures.into_iter_gives ∙ c.sets-set-items.ensures in
    record {
      ascending = c.requires.ascending;
      left = rw items c.requires.groups;
      same = refl;
    }

pub end_group-requires : goal.end_group-requires
end_group-requires g c = c.loop-set.invariant.ascending

pub loop-set-preserved-then-has_star_join : goal.loop-set-preserved-then-has_star_join
loop-set-preserved-then-has_star_join g c =
    let bytes_of = g.F.Family.bytes_of in
    let known = rp_of g.F.Family.family c.args.routes.now in
    let star = sym (rw (c.group-group.ensures, c.joined.ensures) at c.has_star_join.ensures) ∙ c.if-has_star_join.true in
    ends_group c.args.port (records_seen bytes_of c.args.records.now.items) (records_seen bytes_of c.loop-set.records.items) (records_seen bytes_of c.end_group.new.records.items) (sets_events known c.loop-set.set-iterator) (sets_events known c.next.new.self) c.in-Some.set.group (others_set known c.in-Some.set c.loop-set.set-iterator c.next.new.self c.in-Some.ensures.steps star) (rw c.group-group.ensures at c.end_group.ensures) c.loop-set.invariant

pub loop-set-preserved : goal.loop-set-preserved
loop-set-preserved g c =
    let bytes_of = g.F.Family.bytes_of in
    let known = rp_of g.F.Family.family c.args.routes.now in
    let star = sym (rw (c.group-group.ensures, c.joined.ensures) at c.has_star_join.ensures) ∙ c.if-has_star_join.false in
    ends_skip c.args.port (records_seen bytes_of c.args.records.now.items) (records_seen bytes_of c.loop-set.records.items) (sets_events known c.loop-set.set-iterator) (sets_events known c.next.new.self) (still_set known c.in-Some.set c.loop-set.set-iterator c.next.new.self c.in-Some.ensures.steps star) c.loop-set.invariant

pub returns : goal.returns
returns g c =
    let bytes_of = g.F.Family.bytes_of in
    let known = rp_of g.F.Family.family c.args.routes.now in
    ends_message c.args.port (records_seen bytes_of c.args.records.now.items) (records_seen bytes_of c.loop-set.records.items) (sets_events known c.loop-set.set-iterator) (ap (sets_events known) c.in-None.ensures.steps.0) c.loop-set.invariant
