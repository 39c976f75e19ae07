use Rattle.std.proofs.lemmas.Result.{err_from_is_err_and}
use Rattle.pim_words.proofs.OneFamily.{fails_in_ports}
use Rattle.pim_words.proofs.typed.captures_in_family.Goals as goal

pub returns-in_err-ports : goal.returns-in_err-ports
returns-in_err-ports g c =
    let p = err_from_is_err_and c.from_residual-in_err-ports.result c.from_residual-in_err-ports.ensures.1 in
    rw (p.1, p.2) (fails_in_ports g.F.Family.family c.args.captures.now c.deref.result.now _ c.deref.ensures.value c.in_ok-rp.ensures.0 c.in_err-ports.ensures)
