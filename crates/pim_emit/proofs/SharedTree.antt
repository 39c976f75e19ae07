-- What the first port that has the star of a group says of a source, before any other is asked.
use Rattle.pim_emit.proofs.Words.{◌≡◌, ◌∙◌, ℕ, ◌+◌, true, false, ◌&&◌, not, List, Some, sym, ap, and_from, Rpt, State, Downstream}
use Rattle.pim_emit.proofs.Words.{Shared, is_pruned, some_below, state_on, wants, wants_on, is_starred, IsFirstBelow}
use Rattle.pim_emit.proofs.PortsBelow.{none_more, none_of_fewer, found_below}

module _ (state : Downstream) (source group : List ℕ) (first : ℕ) (held : State) (least : IsFirstBelow state.ports (is_starred state group) (Some first))
    (is : state_on state.records first group (Rpt source) ≡ Some held) where
  -- unless it has pruned the source, it wants it
  pub wanted_there : false ≡ is_pruned (Some held) → true ≡ wants state source group Shared
  wanted_there through =
      sym (found_below (wants_on state.records source group Shared) state.ports first least.0
      (and_from (is_starred state group first) (not (is_pruned (state_on state.records first group (Rpt source)))) least.1
      (ap (λ s. not (is_pruned s)) is ∙ ap not (sym through))))

  -- else no port up to it does
  pub none_up_to : true ≡ is_pruned (Some held) → some_below (first + 1) (wants_on state.records source group Shared) ≡ false
  none_up_to pruned =
      let here : is_pruned (state_on state.records first group (Rpt source)) ≡ true = ap (λ s. is_pruned s) is ∙ sym pruned in
      none_more (wants_on state.records source group Shared) first
      (none_of_fewer (is_starred state group) (wants_on state.records source group Shared) first
      (λ at e. ap (λ b. b && not (is_pruned (state_on state.records at group (Rpt source)))) e) least.2)
      (ap (λ b. is_starred state group first && not b) here ∙ ap (λ b. b && false) least.1)
