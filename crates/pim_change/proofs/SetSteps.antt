-- One more set of a run.
use Rattle.pim_change.proofs.Words.{◌≡◌, ◌∙◌, ℕ, suc, ◌+◌, ◌≤◌, ◌<◌, List, [], ◌∷◌, ◌++◌, length, map, take, drop}
use Rattle.pim_change.proofs.Words.{Option, get_or, sym, ap, subst, arith, append_assoc, append-nil, drop_more}
use Rattle.pim_change.proofs.Words.{drop_all, drop-drop, flat_map, AddressFamily, GroupSet, canonical_set}
use Rattle.pim_change.proofs.Words.{canonical_sets_length, Unit, Action, unit_of, action_seen, actions_seen, units_seen}
use Rattle.pim_change.proofs.Words.{actions_of, written_set, written_sets, set_size, grouped}
use Rattle.std.proofs.Math.Numerals.{add-one}

module _ {A : Type 0} (bytes_of : A → List ℕ) (rps : List ℕ → Option (List ℕ)) (units : List (Unit A)) (start n : ℕ) (d : Unit A)
    (left behind these : List (Unit A)) (below : start < length units) (is_left : left ≡ drop start units)
    (is_behind : behind ≡ drop (start + 1) units) (is_these : these ≡ take (n + 1) left)
    (cut : (action : Action)
    → grouped (unit_of (bytes_of (get_or units start d).group) action ∷ units_seen bytes_of behind)
    ≡ actions_of (bytes_of (get_or units start d).group) (action ∷ actions_seen bytes_of (take n behind))
    ∷ grouped (units_seen bytes_of (drop n behind))) where
  whole : left ≡ get_or units start d ∷ behind
  whole = is_left ∙ drop_more units start d below ∙ ap (λ (l : List (Unit A)). get_or units start d ∷ l) (sym is_behind)

  front : these ≡ get_or units start d ∷ take n behind
  front = is_these ∙ ap (λ (k : ℕ). take k left) (add-one n) ∙ ap (take (suc n)) whole

  others : drop n behind ≡ drop (start + (n + 1)) units
  others = ap (drop n) is_behind ∙ drop-drop n (start + 1) units ∙ ap (λ (k : ℕ). drop k units) (omega arith)

  pub step : written_sets rps (units_seen bytes_of (drop start units))
      ≡ written_set rps (actions_of (bytes_of (get_or units start d).group) (actions_seen bytes_of these))
      ∷ written_sets rps (units_seen bytes_of (drop (start + (n + 1)) units))
  step =
      let first = get_or units start d in
      ap (λ (l : List (Unit A)). written_sets rps (units_seen bytes_of l)) (sym is_left ∙ whole)
      ∙ ap (map (written_set rps)) (cut (action_seen bytes_of first.action))
      ∙ ap (λ (l : List (Unit A)). written_set rps (actions_of (bytes_of first.group) (actions_seen bytes_of l))
      ∷ written_sets rps (units_seen bytes_of (drop n behind))) (sym front)
      ∙ ap (λ (l : List (Unit A)).
      written_set rps (actions_of (bytes_of first.group) (actions_seen bytes_of these))
      ∷ written_sets rps (units_seen bytes_of l)) others

-- ---- what the sets of a run give, one set on

pub one_longer : (family : AddressFamily) (old new all : ℕ) (sets others : List GroupSet) (this : GroupSet)
    → sets ≡ this ∷ others → old + canonical_sets_length family sets ≡ all
    → new ≡ old + set_size family this → new + canonical_sets_length family others ≡ all
unfolding canonical_sets_length
one_longer family old new all sets others this is so_far more =
    let first : old + (set_size family this + canonical_sets_length family others) ≡ all =
    subst (λ (l : List GroupSet). old + canonical_sets_length family l ≡ all) is so_far in
    omega (arith, first, more)

pub one_appended : (family : AddressFamily) (old new all : List ℕ) (sets others : List GroupSet) (this : GroupSet)
    → sets ≡ this ∷ others → old ++ flat_map (canonical_set family) sets ≡ all
    → new ≡ old ++ canonical_set family this → new ++ flat_map (canonical_set family) others ≡ all
one_appended family old new all sets others this is so_far more =
    ap (λ (l : List ℕ). l ++ flat_map (canonical_set family) others) more
    ∙ append_assoc old (canonical_set family this) (flat_map (canonical_set family) others)
    ∙ subst (λ (l : List GroupSet). old ++ flat_map (canonical_set family) l ≡ all) is so_far

-- ---- at the end

pub no_sets : {A : Type 0} (bytes_of : A → List ℕ) (rps : List ℕ → Option (List ℕ)) (units : List (Unit A)) (start : ℕ)
    → length units ≤ start → written_sets rps (units_seen bytes_of (drop start units)) ≡ []
unfolding grouped
no_sets bytes_of rps units start all =
    ap (λ (l : List _). written_sets rps (units_seen bytes_of l)) (drop_all start units all)

pub none_longer : (family : AddressFamily) (old all : ℕ) (sets : List GroupSet) → sets ≡ []
    → old + canonical_sets_length family sets ≡ all → old ≡ all
unfolding canonical_sets_length
none_longer family old all sets none so_far =
    let at_end : old + 0 ≡ all = subst (λ (l : List GroupSet). old + canonical_sets_length family l ≡ all) none so_far in
    omega (arith, at_end)

pub none_appended : (family : AddressFamily) (old all : List ℕ) (sets : List GroupSet) → sets ≡ []
    → old ++ flat_map (canonical_set family) sets ≡ all → old ≡ all
none_appended family old all sets none so_far =
    sym (append-nil old) ∙ subst (λ (l : List GroupSet). old ++ flat_map (canonical_set family) l ≡ all) none so_far
