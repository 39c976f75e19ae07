use Rattle.pim_event_lines.proofs.Written.{both, stopped_first}
use Rattle.pim_event_lines.proofs.text_printer.write_line.Goals as goal

pub returns-in_err-write_text_head-clause-bytes : goal.returns-in_err-write_text_head-clause-bytes
returns-in_err-write_text_head-clause-bytes g c = stopped_first _ _ c.from_residual.result _ _ c.from_residual.ensures.0 c.in_err-write_text_head.ensures.bytes

pub returns-clause-bytes : goal.returns-clause-bytes
returns-clause-bytes g c =
    rw (← c.files_of-files.ensures) (both _ _ _ c.write_what.result _ _ c.in_ok-write_text_head.ensures.bytes c.write_what.ensures.bytes)
