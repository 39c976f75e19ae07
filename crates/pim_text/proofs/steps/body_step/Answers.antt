use Rattle.pim_text.proofs.Words.{◌∙◌, sym, ap, Set, Join, Prune}
use Rattle.pim_text.proofs.FieldEnds.{same_some, not_some}
use Rattle.pim_text.proofs.WhichLine.{a_join, a_prune, a_set}
use Rattle.pim_text.proofs.steps.body_step.Goals as goal

pub returns-in_err-entry-clause-only : goal.returns-in_err-entry-clause-only
returns-in_err-entry-clause-only c line next expects is =
    let e = a_join c.args.body.joined c.args.body.pruned c.args.body.sets c.args.text.now line next c.if-body-gt0.true expects is in
    absurd (not_some e.0 (c.in_err-entry.ensures.only e.0 e.1))

pub returns-then-body-gt0-clause-only : goal.returns-then-body-gt0-clause-only
returns-then-body-gt0-clause-only c line next expects is =
    let e = a_join c.args.body.joined c.args.body.pruned c.args.body.sets c.args.text.now line next c.if-body-gt0.true expects is in
    ap Join (same_some c.in_ok-entry.entry e.0 (c.in_ok-entry.ensures.only e.0 e.1)) ∙ sym e.2

pub returns-in_err-entry-2-clause-only : goal.returns-in_err-entry-2-clause-only
returns-in_err-entry-2-clause-only c line next expects is =
    let e = a_prune c.args.body.joined c.args.body.pruned c.args.body.sets c.args.text.now line next c.if-body-gt0.false c.if-body-gt0-2.true expects is in
    absurd (not_some e.0 (c.in_err-entry-2.ensures.only e.0 e.1))

pub returns-then-body-gt0-2-clause-only : goal.returns-then-body-gt0-2-clause-only
returns-then-body-gt0-2-clause-only c line next expects is =
    let e = a_prune c.args.body.joined c.args.body.pruned c.args.body.sets c.args.text.now line next c.if-body-gt0.false c.if-body-gt0-2.true expects is in
    ap Prune (same_some c.in_ok-entry-2.entry e.0 (c.in_ok-entry-2.ensures.only e.0 e.1)) ∙ sym e.2

pub returns-in_err-set-clause-only : goal.returns-in_err-set-clause-only
returns-in_err-set-clause-only c line next expects is =
    let x = a_set c.args.body.joined c.args.body.pruned c.args.body.sets c.args.text.now line next c.if-body-gt0.false c.if-body-gt0-2.false expects is in
    absurd (not_some x.0 (c.in_err-set.ensures.only x.0 x.1))

pub returns-clause-only : goal.returns-clause-only
returns-clause-only c line next expects is =
    let x = a_set c.args.body.joined c.args.body.pruned c.args.body.sets c.args.text.now line next c.if-body-gt0.false c.if-body-gt0-2.false expects is in
    ap Set (same_some c.in_ok-set.set x.0 (c.in_ok-set.ensures.only x.0 x.1)) ∙ sym x.2
