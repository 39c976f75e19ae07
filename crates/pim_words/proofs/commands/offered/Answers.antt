use Rattle.pim_words.proofs.Words.{◌∙◌, ap, IfOk-weaker, App, with_rows}
use Rattle.pim_words.proofs.commands.offered.Goals as goal

pub returns-clause-shape : goal.returns-clause-shape
returns-clause-shape c =
    IfOk-weaker c.with_rows.result _ _ (λ r same. ap (λ (a : App). a.top) (same ∙ ap (λ (a : App). with_rows a c.args.offer.rows.now) c.described.ensures.app)) c.with_rows.ensures.app
