use Rattle.pim_router.proofs.Words.{◌≡◌, ◌∙◌, sym, ap, subst, arith, Ok, judged, Downstream, config_faults, setup_seen}
use Rattle.pim_router.proofs.Words.{IsRouter, Setup, new_router}
use Rattle.pim_router.proofs.Made.{made, new_is_sound, is_new}
use Rattle.pim_router.proofs.router.Router.new.Goals as goal

pub invariant_of-result : goal.invariant_of-result
invariant_of-result g c =
    let setup : Setup = setup_seen g.F.Family.bytes_of c.args.config.now.ports.now c.args.config.now.routes.now c.args.config.now.limit in
    let ok : judged (config_faults g.F.Family.family setup) (tt {0}) ≡ Ok (tt {0}) = sym c.check.ensures ∙ c.in_ok-check.was in
    let start = ap (λ (d : Downstream). d.moment) c.new.ensures in (
      omega (arith, start),
      subst IsRouter (sym (is_new g.F.Family.bytes_of c.args.config.now.ports.now c.args.config.now.routes.now c.args.config.now.limit c.new.result _ c.new.ensures (c.in-Ok.ensures {u = tt})))
          (new_is_sound g.F.Family.family setup ok),
    )

pub returns : goal.returns
returns g c =
    let setup : Setup = setup_seen g.F.Family.bytes_of c.args.config.now.ports.now c.args.config.now.routes.now c.args.config.now.limit in
    let ok : judged (config_faults g.F.Family.family setup) (tt {0}) ≡ Ok (tt {0}) = sym c.check.ensures ∙ c.in_ok-check.was in
    made g.F.Family.family setup ok (new_router setup) _
    (is_new g.F.Family.bytes_of c.args.config.now.ports.now c.args.config.now.routes.now c.args.config.now.limit c.new.result _ c.new.ensures (c.in-Ok.ensures {u = tt}))
