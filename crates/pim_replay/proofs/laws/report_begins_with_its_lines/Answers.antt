use Rattle.pim_replay.proofs.OneReport.{begins_so}
use Rattle.pim_replay.proofs.laws.report_begins_with_its_lines.Goals as goal

pub returns : goal.returns
returns c family shows_via end merge captures state after text coming =
    begins_so c.merge_by_has_one_end.ensures c.run_has_one_end.ensures c.one_normal_form.ensures family shows_via end merge captures state coming after text
