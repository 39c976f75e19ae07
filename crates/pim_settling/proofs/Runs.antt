-- The messages of the runs of a change tell exactly the change.
use Rattle.pim_settling.proofs.Words.{sym, ap, subst, ◌∙◌, KeysAreDistinct, has_unit_of, run_at, CarriesOnly, RunsCarryTheChange}
use Rattle.pim_settling.proofs.Units.{runs_say}
use Rattle.pim_settling.proofs.Only.{run_tells_only}
use Rattle.pim_settling.proofs.Every.{every}

pub runs_carry_the_change : KeysAreDistinct → RunsCarryTheChange
runs_carry_the_change keys rps old new runs exchange deliveries whole stars_old stars_new heard came = record {
  only = λ number.
      subst (CarriesOnly exchange.port old new) (sym (heard number)) (run_tells_only keys rps old new exchange.port (run_at number runs) (runs_say old new number runs whole));
  all = λ group what joins t.
      let there = every keys rps old new exchange.port stars_old stars_new group runs whole what joins t in
      record {
        message = there.number;
        delivered = came there.number there.less;
        has_unit = ap (has_unit_of exchange.port (record { port = exchange.port; group = group; what = what })) (heard there.number) ∙ there.has_unit;
      };
}
