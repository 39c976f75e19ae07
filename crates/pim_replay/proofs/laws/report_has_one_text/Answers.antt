use Rattle.pim_replay.proofs.OneReport.{one_report}
use Rattle.pim_replay.proofs.laws.report_has_one_text.Goals as goal

pub returns : goal.returns
returns c family shows_via end merge captures state one other text more coming =
    one_report c.merge_by_has_one_end.ensures c.run_has_one_end.ensures c.one_normal_form.ensures family shows_via end merge captures state coming one other text more
