use Rattle.pim_request.specs.Steps.{words_left}
use Rattle.pim_request.proofs.Unknown.{unknown}
use Rattle.pim_request.proofs.reading.read_command.Goals as goal

pub returns-in-None-clause-fault : goal.returns-in-None-clause-fault
returns-in-None-clause-fault c =
    unknown c.args.line.now c.cut_at-cut.result.word (words_left c.cut_at-cut.result.left) c.cut_at-cut.ensures
    c.in_default.ensures.none c.in_default-read_kept.ensures.none c.in-None.ensures.none
