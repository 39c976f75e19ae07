-- Ports and addresses that are all of one family, looked at one by one.
use Rattle.pim_words.proofs.Words.{◌≡◌, ◌∙◌, sym, ap, subst, ℕ, ◌+◌, ◌<◌, ◌≤◌, Bool, true, List, [], ◌∷◌, ◌++◌, length}
use Rattle.pim_words.proofs.Words.{drop, get_or, map, ◌&&◌, append_assoc, append-nil, list_all, option_map_or, drop_all}
use Rattle.pim_words.proofs.Words.{drop_more, map-append, AddressFamily, Captures, Port, AnyAddress, CommandFault}
use Rattle.pim_words.proofs.Words.{Family, Memory, is_in, IsForeign}
use Rattle.pim_words.specs.Faults.{are_captures_in}

-- the first of two tests fails
fails_first : (first second : Bool) (fault : CommandFault) → IsForeign first fault → IsForeign (first && second) fault
fails_first first second Memory is = tt
fails_first first second Family is = ap (λ (b : Bool). b && second) is
fails_first first second fault is = absurd is

module _ {A X : Type 0} (test : X → Bool) (seen : A → X) (all : List X) where
  -- The items before those that are left are these, and all of them pass the test.
  pub record IsSoFar (left : List X) (typed : List A) : Type 0 where
    pub tests : list_all test all ≡ list_all test left
    pub whole : map seen typed ++ left ≡ all

  pub all_typed : (i : ℕ) (typed : List A) → length all ≤ i → IsSoFar (drop i all) typed → (list_all test all ≡ true) × (map seen typed ≡ all)
  all_typed i typed past is =
      let none : drop i all ≡ [] = drop_all i all past in
      (is.tests ∙ ap (list_all test) none, sym (append-nil (map seen typed)) ∙ ap (λ (l : List X). map seen typed ++ l) (sym none) ∙ is.whole)

  module _ (i : ℕ) (past : X) (inside : i < length all) (typed : List A) (is : IsSoFar (drop i all) typed) where
    abbrev left : List X
    left = drop (i + 1) all

    next : drop i all ≡ get_or all i past ∷ left
    next = drop_more all i past inside

    pub one_more : (more : List A) (item : A) → (test (get_or all i past) ≡ true) × (seen item ≡ get_or all i past) → more ≡ typed ++ item ∷ [] → IsSoFar left more
    one_more more item passed pushed = record {
      tests = is.tests ∙ ap (list_all test) next ∙ ap (λ (b : Bool). b && list_all test left) passed.0;
      whole = ap (λ (l : List A). map seen l ++ left) pushed ∙ ap (λ (l : List X). l ++ left) (map-append seen typed (item ∷ [])) ∙ append_assoc (map seen typed) (seen item ∷ []) left
          ∙ ap (λ (x : X). map seen typed ++ x ∷ left) passed.1 ∙ ap (λ (l : List X). map seen typed ++ l) (sym next) ∙ is.whole;
    }

    pub foreign : (fault : CommandFault) → IsForeign (test (get_or all i past)) fault → IsForeign (list_all test all) fault
    foreign fault fails =
        subst (λ (b : Bool). IsForeign b fault) (sym (is.tests ∙ ap (list_all test) next)) (fails_first (test (get_or all i past)) (list_all test left) fault fails)

-- the second of two tests fails
fails_behind : (first second : Bool) (fault : CommandFault) → first ≡ true → IsForeign second fault → IsForeign (first && second) fault
fails_behind first second fault one is = subst (λ (b : Bool). IsForeign (b && second) fault) (sym one) is

pub fails_in_ports : (family : AddressFamily) (captures : Captures AnyAddress) (ports : List (Port AnyAddress)) (fault : CommandFault) → ports ≡ captures.ports.items → option_map_or (is_in family) captures.rp true ≡ true
    → IsForeign (list_all (λ port. is_in family port.address) ports) fault → IsForeign (are_captures_in family captures) fault
fails_in_ports family captures ports fault same one is =
    fails_behind _ _ fault one (subst (λ (l : List (Port AnyAddress)). IsForeign (list_all (λ port. is_in family port.address) l) fault) same is)
