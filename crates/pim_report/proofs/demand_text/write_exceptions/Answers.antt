use Rattle.pim_report.proofs.Words.{option_map, refl, ◌∙◌, arith, exception_line}
use Rattle.pim_report.proofs.Written.{seen_all, this_written, this_stopped, items_written, stopped}
use Rattle.pim_report.proofs.demand_text.write_exceptions.Goals as goal

pub loop-source-init : goal.loop-source-init
loop-source-init g c =
    let bytes_of = g.F.Family.bytes_of in
    let text = exception_line g.F.Family.family c.args.shows_via (bytes_of c.args.group) (option_map bytes_of c.args.demanded) in
    (seen_all bytes_of text c.args.exceptions.now _, refl)

pub returns-in_err-write_exception_line-clause-bytes : goal.returns-in_err-write_exception_line-clause-bytes
returns-in_err-write_exception_line-clause-bytes g c =
    let bytes_of = g.F.Family.bytes_of in
    let text = exception_line g.F.Family.family c.args.shows_via (bytes_of c.args.group) (option_map bytes_of c.args.demanded) in
    stopped _ _ c.from_residual.result _ c.from_residual.ensures.0
    (this_stopped (λ source. text (bytes_of source)) c.args.exceptions.now c.loop-source.source-index c.source-item.result _ _ _ _ c.loop-source-test.true c.source-item.is
    c.loop-source.invariant.0 c.in_err-write_exception_line.ensures.bytes)

pub loop-source-preserved : goal.loop-source-preserved
loop-source-preserved g c =
    let bytes_of = g.F.Family.bytes_of in
    let text = exception_line g.F.Family.family c.args.shows_via (bytes_of c.args.group) (option_map bytes_of c.args.demanded) in (
      this_written (λ source. text (bytes_of source)) c.args.exceptions.now c.loop-source.source-index c.source-item.result _ _ _ _ c.loop-source-test.true c.source-item.is
          c.loop-source.invariant.0 c.in_ok-write_exception_line.ensures.bytes,
      c.in_ok-write_exception_line.ensures.count ∙ c.loop-source.invariant.1,
    )

pub returns-clause-bytes : goal.returns-clause-bytes
returns-clause-bytes g c =
    let bytes_of = g.F.Family.bytes_of in
    let text = exception_line g.F.Family.family c.args.shows_via (bytes_of c.args.group) (option_map bytes_of c.args.demanded) in
    items_written (λ source. text (bytes_of source)) c.args.exceptions.now c.loop-source.source-index _ _ _ (omega (arith, c.loop-source-test.false)) c.loop-source.invariant.0
