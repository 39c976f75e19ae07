use Rattle.std.proofs.Common.{sym, ◌∙◌, false, true}
use Rattle.pim_files.proofs.InMemory.{one_file}
use Rattle.pim_files.proofs.held.file_of_name.Goals as goal

pub loop-file-preserved : goal.loop-file-preserved
loop-file-preserved c =
    sym (one_file c.args.files.now c.loop-file.file-index _ c.args.name.now false c.loop-file-test.true (sym c.if-eq.false ∙ c.eq.ensures)) ∙ c.loop-file.invariant

pub returns-then-eq : goal.returns-then-eq
returns-then-eq c =
    sym (one_file c.args.files.now c.loop-file.file-index _ c.args.name.now true c.loop-file-test.true (sym c.if-eq.true ∙ c.eq.ensures)) ∙ c.loop-file.invariant
