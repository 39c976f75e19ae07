use Rattle.pim_form.proofs.Words.{◌≡◌, ◌∙◌, length, sym, ap, arith, length-map, exceptions_of}
use Rattle.pim_form.proofs.Counted.{group_counted}
use Rattle.pim_form.proofs.written.entry_count.Goals as goal

pub overflow_add-result : goal.overflow_add-result
overflow_add-result g c =
    let exceptions : length c.exceptions.result.now ≡ length (exceptions_of c.args.group.now.star) = sym (length-map c.exceptions.result.now g.F.Family.bytes_of) ∙ ap length c.exceptions.ensures in
    omega (arith, c.requires, group_counted c.args.group.now c.star.result c.from.result c.star.ensures c.from.ensures, exceptions)

pub overflow_add-result-2 : goal.overflow_add-result-2
overflow_add-result-2 g c =
    let exceptions : length c.exceptions.result.now ≡ length (exceptions_of c.args.group.now.star) = sym (length-map c.exceptions.result.now g.F.Family.bytes_of) ∙ ap length c.exceptions.ensures in
    let sources : length c.sources.result.now ≡ length c.args.group.now.sources = sym (length-map c.sources.result.now g.F.Family.bytes_of) ∙ ap length c.sources.ensures in
    omega (arith, c.requires, group_counted c.args.group.now c.star.result c.from.result c.star.ensures c.from.ensures, exceptions, sources)

pub returns : goal.returns
returns g c =
    let exceptions : length c.exceptions.result.now ≡ length (exceptions_of c.args.group.now.star) = sym (length-map c.exceptions.result.now g.F.Family.bytes_of) ∙ ap length c.exceptions.ensures in
    let sources : length c.sources.result.now ≡ length c.args.group.now.sources = sym (length-map c.sources.result.now g.F.Family.bytes_of) ∙ ap length c.sources.ensures in
    omega (arith, group_counted c.args.group.now c.star.result c.from.result c.star.ensures c.from.ensures, exceptions, sources)
