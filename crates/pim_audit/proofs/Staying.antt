-- What stays of a machine while others change: what a form sees of it, and what time leaves of it.
use Rattle.pim_audit.proofs.Words.{◌≡◌, ◌∙◌, ℕ, zero, suc, ◌-◌, Bool, true, false, ◌&&◌, ◌||◌, not, cond, List, [], ◌∷◌}
use Rattle.pim_audit.proofs.Words.{◌++◌, map, Option, None, Some, refl, sym, ap, subst}
use Rattle.pim_audit.proofs.Words.{Record, Firing, Downstream, tick, ticks}
use Rattle.pim_audit.proofs.Words.{first_due, record_after, some_below}
use Rattle.std.proofs.lemmas.Option.{none-some, same_Some}
use Rattle.pim_down.specs.declared.machines.key.What.{What}
use Rattle.pim_down.specs.declared.machines.key.What.TheVariants.{Star, Source, Rpt}
use Rattle.pim_down.specs.declared.machines.key.Key.{Key}
use Rattle.pim_down.specs.declared.machines.machine.Machine.{Machine}
use Rattle.pim_down.specs.Key.{same_key}
use Rattle.pim_down.specs.Records.{machine_at, recorded, state_of, state_of_machine}
use Rattle.pim_down.specs.Time.{ppt_due, et_due, on_ppt, after_ppt, after_et, with_first, with_records}
use Rattle.pim_down.specs.Firing.{FiresTo, firing, fired_in, firing_in, ppt_firing, et_firing, ppt_fires, et_fires}
use Rattle.pim_form.specs.Wants.{is_joined, is_pruned, state_on, wants_on, wants}
use Rattle.pim_form.specs.declared.tree.Tree.TheVariants as tree
use Rattle.pim_audit.specs.Touched.{SameStates}
use Rattle.pim_audit.proofs.OneMachine.{same_machine, other_key}

pub same_states_refl : (group : List ℕ) (what : What (List ℕ)) (state : Downstream) → SameStates group what state state
same_states_refl group what state = record { ports = refl; states = λ port. refl }

pub same_states_trans : (group : List ℕ) (what : What (List ℕ)) (a b c : Downstream) → SameStates group what a b → SameStates group what b c
    → SameStates group what a c
same_states_trans group what a b c first second = record {
  ports = second.ports ∙ first.ports;
  states = λ port. second.states port ∙ first.states port;
}

-- ---- what a form sees

some_below_same : (count : ℕ) (test also : ℕ → Bool) → ((port : ℕ) → test port ≡ also port)
    → some_below count test ≡ some_below count also
unfolding some_below
some_below_same zero test also same = refl
some_below_same (suc count) test also same = λ i. same count i || some_below_same count test also same i

module _ (group : List ℕ) (a b : Downstream) where
  -- the ports want the same of the group's star, but for an exception
  pub wants_shared : (source : List ℕ) → SameStates group Star a b → SameStates group (Rpt source) a b
      → wants b source group tree.Shared ≡ wants a source group tree.Shared
  wants_shared source star rpt =
      ap (λ n. some_below n (wants_on b.records source group tree.Shared)) star.ports
      ∙ some_below_same a.ports (wants_on b.records source group tree.Shared) (wants_on a.records source group tree.Shared)
      (λ port i. is_joined (star.states port i) && not (is_pruned (rpt.states port i)))

  -- the ports want the same of a source
  pub wants_source : (source : List ℕ) → SameStates group (Source source) a b
      → wants b source group tree.Source ≡ wants a source group tree.Source
  wants_source source same =
      ap (λ n. some_below n (wants_on b.records source group tree.Source)) same.ports
      ∙ some_below_same a.ports (wants_on b.records source group tree.Source) (wants_on a.records source group tree.Source)
      (λ port. ap is_joined (same.states port))

  -- a star of the group is joined on the same ports
  pub stars_same : SameStates group Star a b → some_below b.ports (λ port. is_joined (state_on b.records port group Star))
      ≡ some_below a.ports (λ port. is_joined (state_on a.records port group Star))
  stars_same same =
      ap (λ n. some_below n (λ port. is_joined (state_on b.records port group Star))) same.ports
      ∙ some_below_same a.ports (λ port. is_joined (state_on b.records port group Star))
      (λ port. is_joined (state_on a.records port group Star)) (λ port. ap is_joined (same.states port))

-- ---- a millisecond passes

by_key : (b : Bool) (m n : Machine) (x y : Option Machine) → m.state ≡ n.state → state_of_machine x ≡ state_of_machine y
    → state_of_machine (cond b (Some m) x) ≡ state_of_machine (cond b (Some n) y)
by_key true m n x y same others = ap (λ s. Some s) same
by_key false m n x y same others = others

state_ticked : (key : Key (List ℕ)) (records : List (Record (List ℕ)))
    → state_of key (map (record_after 1) records) ≡ state_of key records
unfolding machine_at
state_ticked key [] = refl
state_ticked key (held ∷ records) =
    by_key (same_key key held.key) (record_after 1 held).machine held.machine (machine_at key (map (record_after 1) records))
    (machine_at key records) refl (state_ticked key records)

pub tick_stays : (group : List ℕ) (what : What (List ℕ)) (state : Downstream) → SameStates group what state (tick state)
tick_stays group what state = record {
  ports = refl;
  states = λ port. state_ticked (record { port = port; group = group; what = what }) state.records;
}

pub ticks_stay : (group : List ℕ) (what : What (List ℕ)) (count : ℕ) (state : Downstream) → SameStates group what state (ticks count state)
unfolding ticks
ticks_stay group what zero state = same_states_refl group what state
ticks_stay group what (suc count) state =
    same_states_trans group what state (tick state) (ticks count (tick state)) (tick_stays group what state)
    (ticks_stay group what count (tick state))

-- ---- a timer of another machine fires

-- What a record becomes has no other key.
abbrev KeepsItsKey : (Record (List ℕ) → List (Record (List ℕ))) → Type 0
KeepsItsKey change = (key : Key (List ℕ)) (held : Record (List ℕ)) (records : List (Record (List ℕ)))
    → same_key key held.key ≡ false → machine_at key (change held ++ records) ≡ machine_at key records

after_et_keeps : KeepsItsKey after_et
after_et_keeps key held records apart = refl

recorded_keeps : (key : Key (List ℕ)) (of : Key (List ℕ)) (machine : Option Machine) (records : List (Record (List ℕ)))
    → same_key key of ≡ false → machine_at key (recorded of machine ++ records) ≡ machine_at key records
unfolding machine_at
recorded_keeps key of None records apart = refl
recorded_keeps key of (Some machine) records apart = rw apart refl

after_ppt_keeps : KeepsItsKey after_ppt
after_ppt_keeps key held records apart = recorded_keeps key held.key (on_ppt held.key.what held.machine) records apart

module _ (due : Record (List ℕ) → Bool) (change : Record (List ℕ) → List (Record (List ℕ))) (keeps : KeepsItsKey change) where
  elsewhere : (key : Key (List ℕ)) (first : Record (List ℕ)) → same_key key first.key ≡ false → (records : List (Record (List ℕ)))
      → first_due due records ≡ Some first → machine_at key (with_first due change records) ≡ machine_at key records
  unfolding machine_at first_due with_first
  elsewhere key first apart [] is = refl
  elsewhere key first apart (held ∷ records) is =
      elim (due held) as (λ b. cond b (Some held) (first_due due records) ≡ Some first
      → machine_at key (cond b (change held ++ records) (held ∷ with_first due change records))
      ≡ machine_at key (held ∷ records)) [
        | true ↦ λ e. let at : same_key key held.key ≡ false =
            ap (λ (r : Record (List ℕ)). same_key key r.key) (same_Some held first e) ∙ apart in
            keeps key held records at ∙ rw at refl
        | false ↦ λ e. ap (cond (same_key key held.key) (Some held.machine)) (elsewhere key first apart records e)
      ] is

  others_stay : (group : List ℕ) (what : What (List ℕ)) (state : Downstream) (first : Record (List ℕ))
      → same_machine group what first.key.group first.key.what ≡ false → first_due due state.records ≡ Some first
      → SameStates group what state (with_records state (with_first due change state.records))
  others_stay group what state first apart is = record {
    ports = refl;
    states = λ port. ap state_of_machine
        (elsewhere (record { port = port; group = group; what = what }) first
        (other_key port group what first.key apart) state.records is);
  }

module _ (group : List ℕ) (what : What (List ℕ)) (state after : Downstream) (reported : Firing (List ℕ))
    (apart : same_machine group what reported.before.key.group reported.before.key.what ≡ false) where
  -- this firing of the record leaves these machines
  one_fires : (due : Record (List ℕ) → Bool) (change : Record (List ℕ) → List (Record (List ℕ))) → KeepsItsKey change
      → (first : Record (List ℕ)) (f : Firing (List ℕ)) → f.before ≡ first → first_due due state.records ≡ Some first
      → fired_in state (Some (f, with_first due change state.records)) ≡ Some (reported, after) → SameStates group what state after
  one_fires due change keeps first f of is e =
      let both = same_Some (f, with_records state (with_first due change state.records)) (reported, after) e in
      let same : reported.before ≡ first = ap (λ (p : Firing (List ℕ) × Downstream). p.0.before) (sym both) ∙ of in
      subst (SameStates group what state) (ap (λ (p : Firing (List ℕ) × Downstream). p.1) both)
      (others_stay due change keeps group what state first
      (ap (λ (r : Record (List ℕ)). same_machine group what r.key.group r.key.what) (sym same) ∙ apart) is)

  pub fires_elsewhere : firing_in state ≡ Some (reported, after) → SameStates group what state after
  unfolding firing
  fires_elsewhere fires =
      elim (first_due ppt_due state.records) as (λ o. first_due ppt_due state.records ≡ o
      → fired_in state (ppt_firing state.records o) ≡ Some (reported, after) → SameStates group what state after) [
        | Some first ↦ λ is e. one_fires ppt_due after_ppt after_ppt_keeps first (ppt_fires first) refl is e
        | None ↦ λ was f. elim (first_due et_due state.records) as (λ o. first_due et_due state.records ≡ o
            → fired_in state (et_firing state.records o) ≡ Some (reported, after) → SameStates group what state after) [
              | Some first ↦ λ is e. one_fires et_due after_et after_et_keeps first (et_fires first) refl is e
              | None ↦ λ is e. absurd (none-some (reported, after) e)
            ] refl f
      ] refl fires

-- ---- time passes

-- where no timer fires
pub quiet_stays : (moment : ℕ) (state after : Downstream) → FiresTo moment state None after → (group : List ℕ) (what : What (List ℕ))
    → SameStates group what state after
quiet_stays moment state after fires group what =
    subst (SameStates group what state) (sym fires.1) (ticks_stay group what (moment - state.moment) state)

-- up to a timer of another machine
pub firing_stays : (moment : ℕ) (state after : Downstream) (reported : Firing (List ℕ))
    → FiresTo moment state (Some reported) after → (group : List ℕ) (what : What (List ℕ))
    → same_machine group what reported.before.key.group reported.before.key.what ≡ false → SameStates group what state after
firing_stays moment state after reported fires group what apart =
    let count = after.moment - state.moment in
    same_states_trans group what state (ticks count state) after (ticks_stay group what count state)
    (fires_elsewhere group what (ticks count state) after reported apart fires.2)
