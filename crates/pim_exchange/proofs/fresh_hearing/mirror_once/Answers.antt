use Rattle.pim_exchange.proofs.Words.{sym, subst, rp_of, Fresh, fresh_seen, Fits}
use Rattle.pim_exchange.proofs.FreshHearings.{fitting, all_short, mirrored, tells_once}
use Rattle.pim_exchange.proofs.fresh_hearing.mirror_once.Goals as goal

pub mirror-requires-clause-fits : goal.mirror-requires-clause-fits
mirror-requires-clause-fits g c =
    subst (λ (f : Fresh). Fits c.args.messages.now c.args.by.now c.args.fresh.now.routes.now f) (sym c.requires.once)
    (fitting g.F.Family.family c.args.fresh.now.routes.now c.args.by.now c.args.fresh.now.limit c.args.messages.now c.is_writing.ensures.long c.requires.least c.requires.most)

pub mirror-requires-clause-short : goal.mirror-requires-clause-short
mirror-requires-clause-short g c =
    let family = g.F.Family.family in
    let table = c.args.fresh.now.routes.now in
    let demanded = c.requires.sent.demanded in
    all_short c.args.by.now.budget c.is_writing.ensures.most c.args.messages.now
    (c.canonical_messages_are_short.ensures family c.args.by.now (rp_of family table) demanded.form c.args.messages.now c.is_writing.ensures demanded.is.normal
    (c.demanded_stars_have_rps.ensures family table c.args.by.now.upstream c.requires.sent.state demanded.form c.is_sound.ensures demanded.is) demanded.reported)

pub returns-clause-mirrored : goal.returns-clause-mirrored
returns-clause-mirrored g c =
    mirrored g.F.Family.family c.args.fresh.now.routes.now c.args.by.now c.args.fresh.now.limit c.args.messages.now c.mirror_answers_for_the_form.ensures c.is_sound.ensures c.is_writing.ensures
    c.requires.least c.requires.most c.requires.sent (fresh_seen g.F.Family.bytes_of c.args.fresh.now) c.mirror.result c.requires.once c.mirror.ensures.course

pub returns-clause-wrote : goal.returns-clause-wrote
returns-clause-wrote g c = λ sent.
    tells_once g.F.Family.family c.args.fresh.now.routes.now c.args.by.now c.args.fresh.now.limit c.args.messages.now c.mirror_answers_for_the_form.ensures c.is_sound.ensures c.is_writing.ensures
    c.requires.least c.requires.most sent (fresh_seen g.F.Family.bytes_of c.args.fresh.now) c.mirror.result c.requires.once c.mirror.ensures.course
