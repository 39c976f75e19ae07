use Rattle.pim_form.proofs.Words.{◌∙◌, ap, map, star_of}
use Rattle.std.specs.Option.{is_some}
use Rattle.pim_form.proofs.Drafts.{one_more, appended, same_star}
use Rattle.pim_form.proofs.merge.push_group.Goals as goal

pub returns : goal.returns
returns g c = λ form draft.
    let bytes_of = g.F.Family.bytes_of in
    one_more bytes_of c.args.row.now.items c.append.new.row.items c.append-2.new.row.items _ _ c.args.places.now.items c.push.new.self.items form _ c.args.group.now draft
    (appended bytes_of _ _ c.sources.result.now c.in_ok-append.ensures) (appended bytes_of _ _ c.exceptions.result.now c.in_ok-append-2.ensures) c.in_ok-push.ensures.items
    (c.len-sources_start.ensures ∙ c.args.row.now.ok.0) (c.len-sources_end.ensures ∙ c.append.new.row.ok.0) (c.len-sources_end.ensures ∙ c.append.new.row.ok.0) (c.len.ensures ∙ c.append-2.new.row.ok.0) c.group.ensures
    (ap (λ s. star_of s (map bytes_of c.exceptions.result.now)) c.star.ensures ∙ ap (star_of (is_some c.args.group.now.star)) c.exceptions.ensures ∙ same_star c.args.group.now.star) c.sources.ensures
