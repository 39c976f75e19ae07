use Rattle.pim_words.proofs.Words.{◌∙◌, ap, app_of, with_rule, rule_by, with_rows}
use Rattle.pim_words.proofs.Tables.{all_added, one_more}
use Rattle.pim_words.proofs.commands.with_rows.Goals as goal

pub loop-row-preserved : goal.loop-row-preserved
loop-row-preserved c = record {
  app = one_more (λ app row. with_rule app (rule_by row)) c.args.rows.now c.loop-row.row-index (with_rows (app_of c.args.command) c.args.rows.now) _ (app_of c.loop-row.command) _
      c.loop-row-test.true c.loop-row.invariant.app (c.in_ok-command.ensures.app ∙ ap (with_rule (app_of c.loop-row.command)) c.option.ensures.rule);
  local = c.in_ok-command.ensures.local;
}

pub returns : goal.returns
returns c = record {
  app = all_added (λ app row. with_rule app (rule_by row)) c.args.rows.now c.loop-row.row-index (with_rows (app_of c.args.command) c.args.rows.now) (app_of c.loop-row.command)
      c.loop-row-test.false c.loop-row.invariant.app;
  local = c.loop-row.invariant.local;
}
