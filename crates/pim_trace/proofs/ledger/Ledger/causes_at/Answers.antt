use Rattle.pim_trace.proofs.Words.{◌∙◌, sym, ap, causes_seen, both_by, no_cause}
use Rattle.std.specs.Prelude.{option_map, unwrap_or}
use Rattle.pim_trace.proofs.Maps.{causes_found}
use Rattle.pim_trace.proofs.ledger.Ledger.causes_at.Goals as goal

pub returns-in-Some : goal.returns-in-Some
returns-in-Some g c =
    let bytes_of = g.F.Family.bytes_of in
    ap (λ o. unwrap_or o (both_by (no_cause (bytes_of c.args.key.now.group))))
    (ap (option_map (causes_seen bytes_of)) (sym c.in-Some.is) ∙ causes_found bytes_of c.args.self.now.causes.items c.args.key.now c.get.result c.get.ensures)

pub returns-in-None : goal.returns-in-None
returns-in-None g c =
    let bytes_of = g.F.Family.bytes_of in
    c.none.ensures bytes_of
    ∙ ap (λ o. unwrap_or o (both_by (no_cause (bytes_of c.args.key.now.group))))
    (ap (option_map (causes_seen bytes_of)) (sym c.in-None.is) ∙ causes_found bytes_of c.args.self.now.causes.items c.args.key.now c.get.result c.get.ensures)
