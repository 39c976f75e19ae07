use Rattle.std.proofs.Common.{◌∙◌, sym}
use Rattle.pim_addr.proofs.SameRows.{same_rows}
use Rattle.pim_addr.proofs.rows.are_same.Goals as goal

pub returns : goal.returns
returns g c =
    let decided = same_rows g.F.Family.bytes_of g.F.Addr.PartialEq.eq g.met.F.Family.equality_of_bytes c.args.one.now c.args.other.now in
    (λ e. decided.0 (sym c.eq.ensures ∙ e), λ e. c.eq.ensures ∙ decided.1 e)
