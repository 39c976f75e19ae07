use Rattle.pim_form.proofs.Words.{◌∙◌, ◌||◌, star_of, exceptions_of, united, both_stars, both_groups}
use Rattle.pim_form.proofs.Drafts.{one_more, one_star}
use Rattle.pim_form.proofs.merge.push_both.Goals as goal

pub returns : goal.returns
returns g c = λ form draft.
    let bytes_of = g.F.Family.bytes_of in
    one_more bytes_of c.args.row.now.items c.push_united.new.row.items c.push_exceptions.new.row.items _ _ c.args.places.now.items c.push.new.self.items form _ (both_groups c.args.one.now c.args.other.now) draft
    c.in_ok-push_united.ensures c.in_ok-push_exceptions.ensures c.in_ok-push.ensures.items
    (c.len-sources_start.ensures ∙ c.args.row.now.ok.0) (c.len-sources_end.ensures ∙ c.push_united.new.row.ok.0) (c.len-sources_end.ensures ∙ c.push_united.new.row.ok.0) (c.len.ensures ∙ c.push_exceptions.new.row.ok.0) c.group.ensures
    ((λ i. star_of (c.star.ensures i || c.star-2.ensures i) (exceptions_of (both_stars c.args.one.now.star c.args.other.now.star))) ∙ one_star c.args.one.now.star c.args.other.now.star)
    (λ i. united (c.sources.ensures i) (c.sources-2.ensures i))
