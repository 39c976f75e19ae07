use Rattle.pim_form.proofs.Words.{◌≡◌, ◌∙◌, sym, ap, length, true, is_some, length-map, exceptions_of}
use Rattle.pim_form.proofs.StarSize.{star_fits_by}
use Rattle.pim_form.proofs.sizes.star_fits.Goals as goal

pub returns-else-not-star : goal.returns-else-not-star
returns-else-not-star g c =
    let star : is_some c.args.group.now.star ≡ true = sym c.star.ensures ∙ c.if-not-star.false in
    let count : length c.exceptions.result.now ≡ length (exceptions_of c.args.group.now.star) =
    sym (length-map c.exceptions.result.now g.F.Family.bytes_of) ∙ ap length c.exceptions.ensures in
    star_fits_by g.F.Family.family c.args.budget c.message_size.result (length c.exceptions.result.now) c.args.group.now.group c.args.group.now.star star count c.message_size.ensures
