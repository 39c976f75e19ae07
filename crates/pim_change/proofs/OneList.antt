-- The change between two forms has one list of messages.
use Rattle.pim_change.proofs.Words.{◌≡◌, ◌∙◌, sym, ap, subst, refl, ℕ, List, [], ◌∷◌, ◌++◌, length, map, arith, Option, flat_map}
use Rattle.pim_change.proofs.Words.{length-map, map-append, AddressFamily, all_routers, OneChecksum, JoinPrune, canonical}
use Rattle.pim_change.proofs.Words.{OnePacking, Writing, GroupForm, joined, IsPacking, WantUnit, ChangeUnit, change, weight}
use Rattle.pim_change.proofs.Words.{weights, IsPacked, written_message, CarryRuns, CarryChange, OneListOfChange}

abbrev all : List (List ChangeUnit) → List ChangeUnit
all runs = flat_map (λ run. run) runs

-- The weights of all units are those of all runs.
weights_of_all : (runs : List (List ChangeUnit)) → joined (map weights runs) ≡ weights (all runs)
weights_of_all [] = refl
weights_of_all (run ∷ runs) = ap (λ (us : List WantUnit). weights run ++ us) (weights_of_all runs) ∙ sym (map-append weight run (all runs))

same_parts : (a b c d : List ChangeUnit) → length a ≡ length c → a ++ b ≡ c ++ d → (a ≡ c) × (b ≡ d)
same_parts [] b [] d n e = (refl, e)
same_parts [] b (y ∷ c) d n e = absurd (omega (arith, n))
same_parts (x ∷ a) b [] d n e = absurd (omega (arith, n))
same_parts (x ∷ a) b (y ∷ c) d n e =
    let head : x ≡ y = cc in
    let tail : a ++ b ≡ c ++ d = cc in
    let k = same_parts a b c d (omega (arith, n)) tail in
    let t = k.0 in
    ((λ i. head i ∷ t i), k.1)

-- Runs with the same weights that are together the same units are the same.
same_runs : (one other : List (List ChangeUnit)) → map weights one ≡ map weights other → all one ≡ all other → one ≡ other
same_runs [] [] heavy whole = refl
same_runs [] (run ∷ other) heavy whole = absurd cc
same_runs (run ∷ one) [] heavy whole = absurd cc
same_runs (run ∷ one) (r ∷ other) heavy whole =
    let weigh : weights run ≡ weights r = cc in
    let others : map weights one ≡ map weights other = cc in
    let long : length run ≡ length r = sym (length-map run weight) ∙ (ap length weigh ∙ length-map r weight) in
    let parts = same_parts run (all one) r (all other) long whole in
    let head = parts.0 in
    let tail = same_runs one other others parts.1 in
    λ i. head i ∷ tail i

module _ (checksum : OneChecksum) (packing : OnePacking) (family : AddressFamily) (writing : Writing) (rps : List ℕ → Option (List ℕ)) where
  one_told : (runs : List (List ChangeUnit)) (one other : List (List ℕ)) → CarryRuns family writing rps runs one → CarryRuns family writing rps runs other → one ≡ other
  one_told [] [] [] is too = refl
  one_told [] [] (bytes ∷ other) is too = absurd too
  one_told [] (bytes ∷ one) other is too = absurd is
  one_told (run ∷ runs) [] other is too = absurd is
  one_told (run ∷ runs) (bytes ∷ one) [] is too = absurd too
  one_told (run ∷ runs) (bytes ∷ one) (b ∷ other) is too =
      let head = checksum family writing.own (all_routers family) JoinPrune (canonical family (written_message writing rps run)) bytes b is.0 too.0 in
      let tail = one_told runs one other is.1 too.1 in
      λ i. head i ∷ tail i

  packed : (units : List ChangeUnit) (runs : List (List ChangeUnit)) → IsPacked family writing.budget units runs → IsPacking family writing.budget (weights units) (map weights runs)
  packed units runs is = record { whole = weights_of_all runs ∙ ap weights is.whole; cut = is.cut }

  one_list : (old new : List GroupForm) (one other : List (List ℕ)) → CarryChange family writing rps old new one → CarryChange family writing rps old new other → one ≡ other
  one_list old new one other is too =
      let units = change old new in
      let heavy = packing family writing.budget (weights units) (map weights is.runs) (map weights too.runs) (packed units is.runs is.packing) (packed units too.runs too.packing) in
      let runs = same_runs is.runs too.runs heavy (is.packing.whole ∙ sym too.packing.whole) in
      one_told is.runs one other is.reported (subst (λ (rs : List (List ChangeUnit)). CarryRuns family writing rps rs other) (sym runs) too.reported)

pub one_list_of_change : OneChecksum → OnePacking → OneListOfChange
one_list_of_change checksum packing family writing rps old new one other is too = one_list checksum packing family writing rps old new one other is too
