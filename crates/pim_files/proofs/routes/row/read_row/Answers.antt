use Rattle.std.proofs.Common.{codes, sym, ◌∙◌}
use Rattle.pim_addr.specs.RouteRows.{row_seen}
use Rattle.pim_files.proofs.Led.{if_none}
use Rattle.pim_files.proofs.Spelled.{stripped, no_text, unread_rp, unread_via, only_rp, only_via}
use Rattle.pim_files.proofs.routes.row.read_row.Goals as goal

pub returns-in_default-clause-unread : goal.returns-in_default-clause-unread
returns-in_default-clause-unread g c = no_text g.F.Family.family c.args.line.now c.in_default.ensures.cases.0

pub returns-in_err-read_led-clause-unread : goal.returns-in_err-read_led-clause-unread
returns-in_err-read_led-clause-unread g c =
    if_none c.from_residual.result
    (unread_rp g.F.Family.family c.args.line.now c.in-Some.led.now (sym c.in-Ok.ensures.cases.0 ∙ stripped (codes "rp ") c.in-Ok.line.now c.in-Some.led.now c.in-Some.ensures.cases) c.in_err-read_led.ensures.unread)

pub returns-in-Some-clause-only : goal.returns-in-Some-clause-only
returns-in-Some-clause-only g c =
    only_rp g.F.Family.family c.args.line.now c.in-Some.led.now (row_seen g.F.Family.bytes_of c.in_ok-read_led.field-0)
    (sym c.in-Ok.ensures.cases.0 ∙ stripped (codes "rp ") c.in-Ok.line.now c.in-Some.led.now c.in-Some.ensures.cases) c.in_ok-read_led.ensures.only

pub returns-in_err-read_led-2-clause-unread : goal.returns-in_err-read_led-2-clause-unread
returns-in_err-read_led-2-clause-unread g c =
    if_none c.from_residual-in_err-read_led-2.result
    (unread_via g.F.Family.family c.args.line.now c.in_ok-led.led.now (sym c.in-Ok.ensures.cases.0 ∙ stripped (codes "via ") c.in-Ok.line.now c.in_ok-led.led.now c.in_ok-led.ensures.cases) c.in_err-read_led-2.ensures.unread)

pub returns-clause-only : goal.returns-clause-only
returns-clause-only g c =
    only_via g.F.Family.family c.args.line.now c.in_ok-led.led.now (row_seen g.F.Family.bytes_of c.in_ok-read_led-2.field-0)
    (sym c.in-Ok.ensures.cases.0 ∙ stripped (codes "via ") c.in-Ok.line.now c.in_ok-led.led.now c.in_ok-led.ensures.cases) c.in_ok-read_led-2.ensures.only
