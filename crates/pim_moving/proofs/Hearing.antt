-- A message leaves no expiry timer that ends sooner than those before it and the one that it starts.
use Rattle.std.proofs.Common.{◌≡◌, ℕ, ◌-◌, Bool, true, false, if◌then◌else◌, List, [], ◌∷◌, Option, None, Some, refl, sym, subst, arith}
use Rattle.pim_down.specs.declared.machines.key.What.{What}
use Rattle.pim_down.specs.declared.machines.key.What.TheVariants.{Star, Source, Rpt}
use Rattle.pim_down.specs.declared.machines.key.Key.{Key}
use Rattle.pim_down.specs.declared.machines.machine.State.{State}
use Rattle.pim_down.specs.declared.machines.machine.State.TheVariants.{Join, PrunePending, Prune, PruneTmp, PrunePendingTmp}
use Rattle.pim_down.specs.declared.machines.machine.Machine.{Machine}
use Rattle.pim_down.specs.Key.{same_key}
use Rattle.pim_down.specs.Hearing.{Event, key_of, on_own, is_star_join, is_rpt_on, is_rpt_of, on_rpts, effect, effects, heard_at, hearing}
use Rattle.pim_down.specs.Laws.{HearingActsAtEachKey}
use Rattle.pim_down.specs.Records.{IsAscending, machine_at}
use Rattle.pim_down.specs.Tables.{Start, greater, join_in, on_join, prune_in, on_prune, star_join_in, on_star_join, rpt_prune_in, on_rpt_prune, end_in, on_end}
use Rattle.pim_down.specs.Time.{Downstream}
use Rattle.pim_fresh.specs.Deliveries.{IsShorter}
use Rattle.pim_fresh.specs.Exchange.{Exchange, starts}
use Rattle.pim_fresh.specs.Hearing.{after_message}
use Rattle.pim_settling.specs.Hearing.{NoneExpires}

abbrev IsLasting : ℕ → Option Machine → Type 0
IsLasting passed None = Unit {0}
IsLasting passed (Some machine) = IsShorter passed machine.expires_in

greater_lasts : (passed : ℕ) (one other : Option ℕ) → IsShorter passed one → IsShorter passed (greater one other)
greater_lasts passed None other p = tt
greater_lasts passed (Some one) None p = tt
greater_lasts passed (Some one) (Some other) p = omega (arith, p)

module _ (passed : ℕ) (start : Start) (started : IsShorter passed start.expires_in) where
  join_lasts : (state : State) (held : Machine) → IsShorter passed held.expires_in → IsLasting passed (join_in state start held)
  join_lasts Join held p = greater_lasts passed held.expires_in start.expires_in p
  join_lasts PrunePending held p = greater_lasts passed held.expires_in start.expires_in p
  join_lasts Prune held p = p
  join_lasts PruneTmp held p = p
  join_lasts PrunePendingTmp held p = p

  joined_lasts : (held : Option Machine) → IsLasting passed held → IsLasting passed (on_join start held)
  unfolding on_join
  joined_lasts None p = started
  joined_lasts (Some held) p = join_lasts held.state held p

  prune_lasts : (state : State) (held : Machine) → IsShorter passed held.expires_in → IsLasting passed (prune_in state start held)
  prune_lasts Join held p = p
  prune_lasts PrunePending held p = p
  prune_lasts Prune held p = p
  prune_lasts PruneTmp held p = p
  prune_lasts PrunePendingTmp held p = p

  pruned_lasts : (held : Option Machine) → IsLasting passed held → IsLasting passed (on_prune start held)
  unfolding on_prune
  pruned_lasts None p = tt
  pruned_lasts (Some held) p = prune_lasts held.state held p

  rpt_lasts : (state : State) (held : Machine) → IsShorter passed held.expires_in → IsLasting passed (rpt_prune_in state start held)
  rpt_lasts Join held p = p
  rpt_lasts PrunePending held p = p
  rpt_lasts Prune held p = greater_lasts passed held.expires_in start.expires_in p
  rpt_lasts PruneTmp held p = greater_lasts passed held.expires_in start.expires_in p
  rpt_lasts PrunePendingTmp held p = greater_lasts passed held.expires_in start.expires_in p

  excepted_lasts : (held : Option Machine) → IsLasting passed held → IsLasting passed (on_rpt_prune start held)
  unfolding on_rpt_prune
  excepted_lasts None p = started
  excepted_lasts (Some held) p = rpt_lasts held.state held p

  own_lasts : (joins : Bool) (what : What (List ℕ)) (held : Option Machine) → IsLasting passed held → IsLasting passed (on_own joins what start held)
  own_lasts true Star held p = joined_lasts held p
  own_lasts true (Source source) held p = joined_lasts held p
  own_lasts true (Rpt source) held p = tt
  own_lasts false Star held p = pruned_lasts held p
  own_lasts false (Source source) held p = pruned_lasts held p
  own_lasts false (Rpt source) held p = excepted_lasts held p

star_lasts : (passed : ℕ) (state : State) (held : Machine) → IsShorter passed held.expires_in → IsLasting passed (star_join_in state held)
star_lasts passed Join held p = p
star_lasts passed PrunePending held p = p
star_lasts passed Prune held p = p
star_lasts passed PruneTmp held p = p
star_lasts passed PrunePendingTmp held p = p

starred_lasts : (passed : ℕ) (held : Option Machine) → IsLasting passed held → IsLasting passed (on_star_join held)
unfolding on_star_join
starred_lasts passed None p = tt
starred_lasts passed (Some held) p = star_lasts passed held.state held p

end_lasts : (passed : ℕ) (state : State) (held : Machine) → IsShorter passed held.expires_in → IsLasting passed (end_in state held)
end_lasts passed Join held p = p
end_lasts passed PrunePending held p = p
end_lasts passed Prune held p = p
end_lasts passed PruneTmp held p = tt
end_lasts passed PrunePendingTmp held p = tt

ended_lasts : (passed : ℕ) (held : Option Machine) → IsLasting passed held → IsLasting passed (on_end held)
unfolding on_end
ended_lasts passed None p = tt
ended_lasts passed (Some held) p = end_lasts passed held.state held p

-- of two, whichever it is
either : (passed : ℕ) (b : Bool) (one other : Option Machine) → IsLasting passed one → IsLasting passed other → IsLasting passed (if b then one else other)
either passed true one other p q = p
either passed false one other p q = q

module _ (passed port : ℕ) (start : Start) (key : Key (List ℕ)) (started : IsShorter passed start.expires_in) where
  effect_lasts : (event : Event) (held : Option Machine) → IsLasting passed held → IsLasting passed (effect port start event key held)
  effect_lasts event held p =
      either passed (same_key (key_of port event) key) (on_own event.joins event.what start held) (if is_star_join event then on_rpts port event.group key held else held)
      (own_lasts passed start started event.joins event.what held p)
      (either passed (is_star_join event) (on_rpts port event.group key held) held (either passed (is_rpt_of port event.group key) (on_star_join held) held (starred_lasts passed held p) p) p)

  effects_last : (events : List Event) (held : Option Machine) → IsLasting passed held → IsLasting passed (effects port start events key held)
  unfolding effects
  effects_last [] held p = p
  effects_last (event ∷ events) held p = effects_last events (effect port start event key held) (effect_lasts event held p)

  heard_lasts : (events : List Event) (held : Option Machine) → IsLasting passed held → IsLasting passed (heard_at port start events key held)
  heard_lasts events held p =
      let after = effects port start events key held in
      either passed (is_rpt_on port key) (on_end after) after (ended_lasts passed after (effects_last events held p)) (effects_last events held p)

lasting_of : (passed : ℕ) (held : Option Machine) → ((machine : Machine) → held ≡ Some machine → IsShorter passed machine.expires_in) → IsLasting passed held
lasting_of passed None each = tt
lasting_of passed (Some machine) each = each machine refl

machine_lasts : (passed : ℕ) (held : Option Machine) (machine : Machine) → IsLasting passed held → held ≡ Some machine → IsShorter passed machine.expires_in
machine_lasts passed held machine p e = subst (IsLasting passed) e p

-- none of the timers ends by the last moment behind a message either
pub none_expires_behind : HearingActsAtEachKey → (exchange : Exchange) (i last : ℕ) (state : Downstream) → IsAscending state.records → IsShorter (last - state.moment) (starts exchange).expires_in
    → NoneExpires last state → NoneExpires last (after_message exchange i state)
none_expires_behind acts exchange i last state up started none key machine e =
    let passed = last - state.moment in
    let before = lasting_of passed (machine_at key state.records) (none key) in
    let behind = heard_lasts passed exchange.port (starts exchange) key started (exchange.messages i) (machine_at key state.records) before in
    machine_lasts passed (machine_at key (hearing exchange.port (starts exchange) (exchange.messages i) state.records)) machine
    (subst (IsLasting passed) (sym (acts exchange.port (starts exchange) (exchange.messages i) state.records up key)) behind) e
