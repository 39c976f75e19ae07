-- A run of the router, in terms of what the code keeps.
use Rattle.pim_router.proofs.Words.{◌≡◌, ◌∙◌, ◌<◌, ◌≤◌, ℕ, ◌+◌, ◌-◌, List, ◌++◌, length, map, take, drop, min, max}
use Rattle.pim_router.proofs.Words.{refl, sym, ap, subst, arith, AllByRecursion, length-map, take_at, RouteTable, Table}
use Rattle.pim_router.proofs.Words.{expired_at, ExpiringTwiceIsExpiringOnce, What, Downstream, PortConfig, Step, Echo}
use Rattle.pim_router.proofs.Words.{Refresh, Reached, IsCurrent, IsRouter, RouterState, with_refresh, Runs}
use Rattle.pim_down.specs.declared.machines.step.Step.TheVariants as fires
use Rattle.pim_down.specs.Time as down
use Rattle.pim_router.specs.Seen.{port_seen, router_seen, step_seen}
use Rattle.pim_router.proofs.Current.{few_later}
use Rattle.pim_router.proofs.Passing.{router, current_at_start, current_later, told_echo, told_refresh, told_reached}

module _ (twice : ExpiringTwiceIsExpiringOnce) {A : Type 0} (bytes_of : A → List ℕ) (ports : List (PortConfig A)) (routes : RouteTable) (machines : Downstream) (tables : List Table) (next : ℕ)
    (sound : (machines.moment ≤ next) × IsRouter (router_seen bytes_of ports routes machines tables next)) (moment until : ℕ) (first : until ≡ min moment next)
    (after : Downstream) (now : RouterState) (same : router_seen bytes_of ports routes machines tables next ≡ now)
    (left : List Table) (is_left : left ≡ map (expired_at after.moment) tables) where
  before_next : until ≤ next
  before_next = omega (arith, first)

  before_moment : until ≤ moment
  before_moment = omega (arith, first)

  abbrev seen : Downstream → List Table → ℕ → RouterState
  seen m ts n = router_seen bytes_of ports routes m ts n

  abbrev at : Downstream → RouterState
  at = router twice (map (port_seen bytes_of) ports) routes tables next moment until before_next before_moment

  starts : at machines ≡ now
  starts = ap (λ ts. seen machines ts next) (current_at_start machines.moment tables sound.1.current) ∙ same

  ends : at after ≡ seen after left next
  ends = ap (λ ts. seen after ts next) (sym is_left)

  abbrev Written : Step (List ℕ) → RouterState → Type 0
  Written step end = Runs moment now step end

  pub echo_told : (port : ℕ) (group : List ℕ) (what : What (List ℕ)) → down.Runs until machines (fires.Echo port group what) after →
      Written (Echo port group what) (seen after left next)
  echo_told port group what runs =
      subst (λ s. Runs moment s (Echo port group what) (seen after left next)) starts
      (subst (λ e. Runs moment (at machines) (Echo port group what) e) ends
      (told_echo twice (map (port_seen bytes_of) ports) routes tables next moment until before_next before_moment machines after port group what runs))

  pub reached_told : down.Runs until machines fires.Reached after → after.moment < next → after.moment ≡ max machines.moment until →
      Written Reached (seen after left next)
  reached_told runs before there =
      subst (λ s. Runs moment s Reached (seen after left next)) starts
      (subst (λ e. Runs moment (at machines) Reached e) ends
      (told_reached twice (map (port_seen bytes_of) ports) routes tables next moment until before_next before_moment machines after runs before (omega (arith, before, there, first))))

  refreshed : after.moment ≡ next → with_refresh (at after) 60000 ≡ seen after left (next + 60000)
  refreshed due =
      let all : 60000 ≡ next + 60000 - after.moment = omega (arith, due) in
      ap (λ (refresh : ℕ). with_refresh (at after) refresh) all ∙ ap (λ ts. seen after ts (next + 60000)) (sym is_left)

  pub refresh_told : down.Runs until machines fires.Reached after → next ≤ after.moment → after.moment ≤ max machines.moment until →
      Written Refresh (seen after left (next + 60000))
  refresh_told runs due there =
      let bound = sound.0 in
      subst (λ s. Runs moment s Refresh (seen after left (next + 60000))) starts
      (subst (λ e. Runs moment (at machines) Refresh e) (refreshed (omega (arith, due, there, first, bound)))
      (told_refresh twice (map (port_seen bytes_of) ports) routes tables next moment until before_next before_moment machines after runs due))

  -- what is true between calls is true again
  pub sound_again : after.ports ≡ machines.ports → machines.moment ≤ after.moment → (later : ℕ) → after.moment ≤ later → later - after.moment ≤ 60000 →
      (after.moment ≤ later) × IsRouter (seen after left later)
  sound_again count on later bound soon = (
    bound,
    record {
      ports = sound.1.ports ∙ sym count;
      tables = ap length is_left ∙ length-map tables (expired_at after.moment) ∙ sound.1.tables ∙ sym count;
      delays = sound.1.delays;
      current = subst (AllByRecursion (IsCurrent after.moment)) (sym is_left) (current_later machines.moment after.moment on tables sound.1.current);
      few = subst (AllByRecursion (λ (table : Table). length table.entries ≤ 1024)) (sym is_left) (few_later after.moment tables sound.1.few);
      refresh = soon;
    },
  )

-- what a vector holds when all its elements were changed in place
pub kept_all : {B : Type 0} (change : B → B) (items fresh borrowed : List B) (len : ℕ) → borrowed ≡ items →
    fresh ≡ map change borrowed → length items ≡ len → take len (fresh ++ drop (length fresh) items) ≡ map change items
kept_all change items fresh borrowed len same is long =
    let all = is ∙ ap (map change) same in
    take_at fresh (drop (length fresh) items) len (ap length all ∙ length-map items change ∙ long) ∙ all

-- what is told as reached is reached
pub seen_reached : {A : Type 0} (bytes_of : A → List ℕ) (step : Step A) → step_seen bytes_of step ≡ Reached → step ≡ Reached
seen_reached bytes_of (Echo port group what) e = cc
seen_reached bytes_of Refresh e = cc
seen_reached bytes_of Reached e = refl
