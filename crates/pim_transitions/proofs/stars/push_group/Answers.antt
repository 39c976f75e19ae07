use Rattle.pim_transitions.proofs.Words.{◌∙◌, map, sym, ap, subst, AllByRecursion, map-append, event_seen, HaveRptsOf}
use Rattle.pim_transitions.proofs.StarSets.{group_there, group_added, walked_more}
use Rattle.pim_transitions.proofs.stars.push_group.Goals as goal

pub returns-then-is_among-clause-rpts : goal.returns-then-is_among-clause-rpts
returns-then-is_among-clause-rpts g c =
    let bytes_of = g.F.Family.bytes_of in
    group_there c.args.port c.args.ports.now.records (bytes_of c.args.group) _ _ c.requires.walked
    (sym (rw c.deref.ensures.value at c.is_among.ensures) ∙ c.if-is_among.true)

pub returns-clause-rpts : goal.returns-clause-rpts
returns-clause-rpts g c =
    let bytes_of = g.F.Family.bytes_of in
    group_added c.args.port (bytes_of c.args.group) (bytes_of c.greatest.result) c.args.ports.now.records _ _ c.in_ok-push_rpts.ensures

pub returns-clause-walked : goal.returns-clause-walked
returns-clause-walked g c =
    let bytes_of = g.F.Family.bytes_of in
    let records = c.args.ports.now.records in
    subst (AllByRecursion (HaveRptsOf c.args.port records (map (event_seen bytes_of) c.push_rpts.new.marks.items)))
    (sym (ap (map bytes_of) c.in_ok-push.ensures.items ∙ map-append bytes_of _ _))
    (walked_more c.args.port records (bytes_of c.args.group) _ _ _ (returns-clause-rpts g c) c.requires.walked)
