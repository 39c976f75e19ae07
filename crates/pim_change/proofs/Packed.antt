-- Messages of a packing, one message on.
use Rattle.pim_change.proofs.Words.{◌≡◌, ◌∙◌, ℕ, zero, suc, ◌+◌, ◌≤◌, ◌<◌, true, List, [], ◌∷◌, ◌++◌, length, map, take}
use Rattle.pim_change.proofs.Words.{drop, Option, refl, sym, ap, subst, arith, append_assoc, append-nil, length-drop}
use Rattle.pim_change.proofs.Words.{flat_map, take-append-drop, drop-drop, drop_all, map-append, AddressFamily}
use Rattle.pim_change.proofs.Words.{WantUnit, fits, StopsBefore, IsNonempty, joined, AreRuns, Writing, Unit, ChangeUnit}
use Rattle.pim_change.proofs.Words.{units_seen, weights, CarriesRun, CarryUnits}

joined_weights : (runs : List (List ChangeUnit)) → joined (map weights runs) ≡ weights (flat_map (λ run. run) runs)
joined_weights [] = refl
joined_weights (run ∷ runs) =
    ap (λ (l : List WantUnit). weights run ++ l) (joined_weights runs)
    ∙ sym (map-append _ run (flat_map (λ run. run) runs))

module _ (family : AddressFamily) (writing : Writing) (rps : List ℕ → Option (List ℕ)) where
  none_told : CarryUnits family writing rps [] []
  unfolding AreRuns
  none_told = record { runs = []; packing = record { whole = refl; cut = tt }; reported = tt }

  one_more : (units run left : List ChangeUnit) (bytes : List ℕ) (messages : List (List ℕ)) → run ++ left ≡ units
      → IsNonempty (weights run) → fits family writing.budget (weights run) ≡ true
      → StopsBefore family writing.budget (weights run) (weights left) → CarriesRun family writing rps run bytes
      → CarryUnits family writing rps left messages → CarryUnits family writing rps units (bytes ∷ messages)
  unfolding AreRuns
  one_more units run left bytes messages is some fitting stops carries others =
      let behind : weights left ≡ joined (map weights others.runs) =
      sym (joined_weights others.runs ∙ ap weights others.packing.whole) in
      record {
        runs = run ∷ others.runs;
        packing = record {
          whole = ap (λ (l : List ChangeUnit). run ++ l) others.packing.whole ∙ is;
          cut = (
            some,
            fitting,
            subst (StopsBefore family writing.budget (weights run)) behind stops,
            others.packing.cut,
          );
        };
        reported = (carries, others.reported);
      }

  module _ {A : Type 0} (bytes_of : A → List ℕ) (units : List (Unit A)) where
    seen_cut : (n : ℕ) (left : List (Unit A)) → units_seen bytes_of (take n left) ++ units_seen bytes_of (drop n left)
        ≡ units_seen bytes_of left
    seen_cut n left =
        sym (map-append _ (take n left) (drop n left)) ∙ ap (units_seen bytes_of) (take-append-drop n left)

    nonempty : (n : ℕ) (left : List (Unit A)) → 0 < n → 0 < length left
        → IsNonempty (weights (units_seen bytes_of (take n left)))
    nonempty n [] some below = absurd (omega arith)
    nonempty zero (unit ∷ left) some below = absurd (omega arith)
    nonempty (suc n) (unit ∷ left) some below = tt

    abbrev pub Goes : ℕ → List (List ℕ) → Type 0
    Goes start messages = (left : List (List ℕ)) →
        CarryUnits family writing rps (units_seen bytes_of (drop start units)) left →
        CarryUnits family writing rps (units_seen bytes_of units) (messages ++ left)

    pub goes_on : (start n : ℕ) (left run : List (Unit A)) (messages more : List (List ℕ)) (bytes : List ℕ)
        → left ≡ drop start units → run ≡ take n left → start < length units → 0 < n
        → fits family writing.budget (weights (units_seen bytes_of (take n left))) ≡ true
        → StopsBefore family writing.budget (weights (units_seen bytes_of (take n left)))
        (weights (units_seen bytes_of (drop n left)))
        → CarriesRun family writing rps (units_seen bytes_of run) bytes → more ≡ messages ++ bytes ∷ []
        → Goes start messages → Goes (start + n) more
    goes_on start n left run messages more bytes is_left is_run below some fitting stops carries is_more goes = λ others reported.
        let long : 0 < length left = omega (arith, ap length is_left, below, length-drop start units) in
        let behind : drop (start + n) units ≡ drop n left =
        sym (ap (drop n) is_left ∙ drop-drop n start units) in
        let these : CarriesRun family writing rps (units_seen bytes_of (take n left)) bytes =
        subst (λ (l : List (Unit A)). CarriesRun family writing rps (units_seen bytes_of l) bytes) is_run carries in
        let here : CarryUnits family writing rps (units_seen bytes_of left) (bytes ∷ others) =
        one_more (units_seen bytes_of left) (units_seen bytes_of (take n left)) (units_seen bytes_of (drop n left)) bytes
        others (seen_cut n left) (nonempty n left some long) fitting stops these
        (subst (λ (l : List (Unit A)). CarryUnits family writing rps (units_seen bytes_of l) others) behind reported) in
        let all = goes (bytes ∷ others)
        (subst (λ (l : List (Unit A)). CarryUnits family writing rps (units_seen bytes_of l) (bytes ∷ others))
        is_left here) in
        subst (λ (l : List (List ℕ)). CarryUnits family writing rps (units_seen bytes_of units) l)
        (sym (append_assoc messages (bytes ∷ []) others) ∙ ap (λ (l : List (List ℕ)). l ++ others) (sym is_more)) all

    pub goes_to : (start : ℕ) (messages : List (List ℕ)) → length units ≤ start → Goes start messages
        → CarryUnits family writing rps (units_seen bytes_of units) messages
    goes_to start messages all goes =
        subst (CarryUnits family writing rps (units_seen bytes_of units)) (append-nil messages)
        (goes [] (subst (λ (l : List (Unit A)). CarryUnits family writing rps (units_seen bytes_of l) [])
        (sym (drop_all start units all)) none_told))
