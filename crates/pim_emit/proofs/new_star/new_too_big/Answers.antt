use Rattle.std.proofs.Common.{◌∙◌, List, None, option_map, is_some, refl, sym, ap, subst}
use Rattle.pim_emit.proofs.Words.{GroupForm, AreAscending, groups_of, too_big, HaveSameStars, groups_above}
use Rattle.pim_emit.proofs.Pieces.{all_groups}
use Rattle.pim_emit.proofs.NewStars.{new_of, none_new, next_big}
use Rattle.pim_emit.proofs.new_star.new_too_big.Goals as goal

pub loop-group-init : goal.loop-group-init
loop-group-init g c = record {
  least = ap (λ (l : List GroupForm). too_big g.F.Family.family c.args.budget (new_of c.args.last.now l)) (all_groups c.args.demand.now.form);
  stars = subst (λ (l : List GroupForm). HaveSameStars None l c.args.last.now) (sym c.groups-left.ensures) (λ group above. refl);
  ascending = subst (λ (l : List GroupForm). AreAscending (groups_of l)) (sym c.groups-left.ensures) c.is_normal-2.ensures.ascending;
}

pub loop-group-smaller : goal.loop-group-smaller
loop-group-smaller g c =
    let bytes_of = g.F.Family.bytes_of in
    (next_big g.F.Family.family c.args.budget c.args.last.now c.args.demand.now.form c.is_normal.ensures.normal.ascending
    (option_map bytes_of c.loop-group.bound) (bytes_of c.in-Some.group) (sym c.too_big_above.ensures ∙ ap (option_map bytes_of) c.in-Some.is)).fewer

pub loop-group-preserved : goal.loop-group-preserved
loop-group-preserved g c =
    let bytes_of = g.F.Family.bytes_of in
    let bound = option_map bytes_of c.loop-group.bound in
    let group = bytes_of c.in-Some.group in
    let found = next_big g.F.Family.family c.args.budget c.args.last.now c.args.demand.now.form c.is_normal.ensures.normal.ascending
    bound group (sym c.too_big_above.ensures ∙ ap (option_map bytes_of) c.in-Some.is) in
    record {
      least = sym (found.was (sym (c.has_star_in.ensures.star ∙ ap is_some (c.loop-group.invariant.stars group found.over)) ∙ c.if-not-has_star_in.false)) ∙ c.loop-group.invariant.least;
      stars = λ other above. c.has_star_in.ensures.left other above ∙ c.loop-group.invariant.stars other (found.further other above);
      ascending = c.has_star_in.ensures.ascending;
    }

pub returns-then-not-has_star_in : goal.returns-then-not-has_star_in
returns-then-not-has_star_in g c =
    let bytes_of = g.F.Family.bytes_of in
    let bound = option_map bytes_of c.loop-group.bound in
    let group = bytes_of c.in-Some.group in
    let found = next_big g.F.Family.family c.args.budget c.args.last.now c.args.demand.now.form c.is_normal.ensures.normal.ascending
    bound group (sym c.too_big_above.ensures ∙ ap (option_map bytes_of) c.in-Some.is) in
    sym (found.comes (sym (c.has_star_in.ensures.star ∙ ap is_some (c.loop-group.invariant.stars group found.over)) ∙ c.if-not-has_star_in.true)) ∙ c.loop-group.invariant.least

pub returns : goal.returns
returns g c =
    let bytes_of = g.F.Family.bytes_of in
    let bound = option_map bytes_of c.loop-group.bound in
    sym (none_new g.F.Family.family c.args.budget c.args.last.now (groups_above bound c.args.demand.now.form) (sym c.too_big_above.ensures ∙ ap (option_map bytes_of) c.in_default.is)) ∙ c.loop-group.invariant.least
