use Rattle.pim_words.proofs.Words.{◌≡◌, drop, false, app_of, out-Command, with_rows}
use Rattle.pim_words.proofs.commands.with_rows.Given as goal

abbrev pub invariant-loop-row : goal.invariant-loop-row
invariant-loop-row l = record {
  app : with_rows (app_of l.command) (drop l.row-index l.rows) ≡ with_rows (app_of l.fn.command) l.rows;
  local : (out-Command l.command).has_globals ≡ false;
}
