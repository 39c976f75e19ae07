-- A change has messages exactly if it isn't too big.
use Rattle.pim_change.proofs.Words.{◌≡◌, ◌∙◌, ℕ, ◌≤◌, true, false, cond, List, [], ◌∷◌, ◌++◌, None, Some, map, nat_le, refl, sym}
use Rattle.pim_change.proofs.Words.{ap, subst, arith, Option, le-leb, and_from, AllByRecursion, flat_map, AddressFamily, Ipv4}
use Rattle.pim_change.proofs.Words.{Ipv6, all_routers, SomeMessageIsSealed, JoinPrune, canonical, UnitsPackIfEachFits, Writing}
use Rattle.pim_change.proofs.Words.{IsWriting, fits, most_groups, AreRuns, WantUnit, source_unit, run_entries, groups_behind}
use Rattle.pim_change.proofs.Words.{run_groups, run_size, Action, star_joined, star_pruned, of_source, ChangeUnit, change}
use Rattle.pim_change.proofs.Words.{ChangeHasMessagesUnlessTooBig, action_fits, too_big, weight_of, weight, weights}
use Rattle.pim_change.proofs.Words.{written_message, CarryRuns, CarryUnits}

-- ---- units that fit alone

module _ (family : AddressFamily) (budget : ℕ) (least : 70 ≤ budget) where
  abbrev Alone : WantUnit → Type 0
  Alone this = fits family budget (this ∷ []) ≡ true

  source_alone : (group source : List ℕ) → Alone (source_unit group source)
  unfolding run_entries groups_behind
  source_alone group source =
      and_from (nat_le (run_size family (source_unit group source ∷ [])) budget) (nat_le (run_groups (source_unit group source ∷ [])) most_groups)
      (le-leb (run_size family (source_unit group source ∷ [])) budget (within family))
      (le-leb (run_groups (source_unit group source ∷ [])) most_groups (omega arith))
    where
      within : (of : AddressFamily) → run_size of (source_unit group source ∷ []) ≤ budget
      within Ipv4 = omega (arith, least)
      within Ipv6 = omega (arith, least)

  unit_alone : (group : List ℕ) (action : Action) → action_fits family budget group action ≡ true → Alone (weight_of group action)
  unit_alone group (star_joined exceptions) fit = fit
  unit_alone group star_pruned fit = source_alone group []
  unit_alone group (of_source kind source) fit = source_alone group source

  unit_fits : (group : List ℕ) (action : Action) → Alone (weight_of group action) → action_fits family budget group action ≡ true
  unit_fits group (star_joined exceptions) alone = alone
  unit_fits group star_pruned alone = refl
  unit_fits group (of_source kind source) alone = refl

  units_alone : (units : List ChangeUnit) → too_big family budget units ≡ None → AllByRecursion Alone (weights units)
  unfolding too_big
  units_alone [] none = tt
  units_alone (this ∷ units) none =
      elim (action_fits family budget this.group this.action) as
      (λ b. action_fits family budget this.group this.action ≡ b → cond b (too_big family budget units) (Some this.group) ≡ None → AllByRecursion Alone (weights (this ∷ units))) [
        | true ↦ λ fit none'. (unit_alone this.group this.action fit, units_alone units none')
        | false ↦ λ full none'. absurd cc
      ] refl none

  none_too_big : (units : List ChangeUnit) → AllByRecursion Alone (weights units) → too_big family budget units ≡ None
  unfolding too_big
  none_too_big [] all = refl
  none_too_big (this ∷ units) all =
      ap (λ b. cond b (too_big family budget units) (Some this.group)) (unit_fits this.group this.action all.0) ∙ none_too_big units all.1

-- ---- units in the runs of their weights

record InTwo {A B : Type 0} (f : A → B) (xs : List A) (run left : List B) : Type 0 where
  front : List A
  behind : List A
  whole : front ++ behind ≡ xs
  is_run : map f front ≡ run
  is_left : map f behind ≡ left

in_two : {A B : Type 0} (f : A → B) (xs : List A) (run left : List B) → run ++ left ≡ map f xs → InTwo f xs run left
in_two f xs [] left h = record { front = []; behind = xs; whole = refl; is_run = refl; is_left = sym h }
in_two f [] (u ∷ run) left h = absurd cc
in_two f (x ∷ xs) (u ∷ run) left h =
    let head : f x ≡ u = cc in
    let tail : run ++ left ≡ map f xs = cc in
    let c = in_two f xs run left tail in
    record { front = x ∷ c.front; behind = c.behind; whole = λ i. x ∷ c.whole i; is_run = λ i. head i ∷ c.is_run i; is_left = c.is_left }

record InRuns {A B : Type 0} (f : A → B) (xs : List A) (runs : List (List B)) : Type 0 where
  parts : List (List A)
  whole : flat_map (λ part. part) parts ≡ xs
  are : map (map f) parts ≡ runs

in_runs : {A B : Type 0} (f : A → B) (runs : List (List B)) (xs : List A) → flat_map (λ run. run) runs ≡ map f xs → InRuns f xs runs
in_runs f [] [] h = record { parts = []; whole = refl; are = refl }
in_runs f [] (x ∷ xs) h = absurd cc
in_runs f (run ∷ runs) xs h =
    let c = in_two f xs run (flat_map (λ r. r) runs) h in
    let others = in_runs f runs c.behind (sym c.is_left) in
    record {
      parts = c.front ∷ others.parts;
      whole = (λ i. c.front ++ others.whole i) ∙ c.whole;
      are = λ i. c.is_run i ∷ others.are i;
    }

joined_weights : (runs : List (List ChangeUnit)) → flat_map (λ run. run) (map weights runs) ≡ weights (flat_map (λ run. run) runs)
joined_weights [] = refl
joined_weights (run ∷ runs) = (λ i. weights run ++ joined_weights runs i) ∙ weights_append run (flat_map (λ r. r) runs)
  where
    weights_append : (xs ys : List ChangeUnit) → weights xs ++ weights ys ≡ weights (xs ++ ys)
    weights_append [] ys = refl
    weights_append (x ∷ xs) ys = ap (λ (us : List WantUnit). weight x ∷ us) (weights_append xs ys)

-- ---- messages

module _ (seal : SomeMessageIsSealed) (packs : UnitsPackIfEachFits) (family : AddressFamily) (writing : Writing) (rps : List ℕ → Option (List ℕ)) where
  some_told : (runs : List (List ChangeUnit)) → (messages : List (List ℕ)) × CarryRuns family writing rps runs messages
  some_told [] = ([], tt)
  some_told (run ∷ runs) =
      let message = seal family writing.own (all_routers family) JoinPrune (canonical family (written_message writing rps run)) in
      let others = some_told runs in
      (message.0 ∷ others.0, (message.1, others.1))

  some_messages : (units : List ChangeUnit) → IsWriting family writing → too_big family writing.budget units ≡ None
      → (messages : List (List ℕ)) × CarryUnits family writing rps units messages
  some_messages units is none =
      let packing = (packs family writing.budget (weights units)).1 (units_alone family writing.budget is.least units none) in
      let runs = in_runs weight packing.0 units packing.1.whole in
      let messages = some_told runs.parts in
      (messages.0, record { runs = runs.parts; packing = record { whole = runs.whole; cut = subst (AreRuns family writing.budget) (sym runs.are) packing.1.cut }; reported = messages.1 })

  told_fit : (units : List ChangeUnit) → IsWriting family writing → (messages : List (List ℕ)) × CarryUnits family writing rps units messages
      → too_big family writing.budget units ≡ None
  told_fit units is action =
      let carries = action.1 in
      none_too_big family writing.budget is.least units
      ((packs family writing.budget (weights units)).0
      (map weights carries.runs, record { whole = joined_weights carries.runs ∙ ap weights carries.packing.whole; cut = carries.packing.cut }))

pub messages_unless_too_big : SomeMessageIsSealed → UnitsPackIfEachFits → ChangeHasMessagesUnlessTooBig
messages_unless_too_big seal packs family writing rps old new is =
    (told_fit seal packs family writing rps (change old new) is, some_messages seal packs family writing rps (change old new) is)
