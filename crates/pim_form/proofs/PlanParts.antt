-- The parts of a plan, one after another.
use Rattle.pim_form.proofs.Words.{◌≡◌, ◌∙◌, ℕ, ◌+◌, ◌<◌, ◌≤◌, List, [], ◌∷◌, ◌++◌, map, length, get_or, drop, refl, sym, ap}
use Rattle.pim_form.proofs.Words.{subst, arith, append_assoc, add-one, drop-cons, Option, append-nil, drop_all, AllByRecursion}
use Rattle.pim_form.proofs.Words.{AddressFamily, GroupPlace, WantUnit, run_size, Writing, CarriesRun, CarryRuns, between}
use Rattle.pim_form.proofs.Words.{form_seen, IsKept, AreEnds, parts_from, run_of, runs_size, CarriesPart}
use Rattle.pim_form.proofs.Normal.{groups_some}

-- ---- the ends that are left

next_end : (items ends : List ℕ) (i : ℕ) → items ≡ ends → i < length items → drop i ends ≡ get_or items i 0 ∷ drop (i + 1) ends
next_end items ends i is below = subst (λ (these : List ℕ). drop i these ≡ get_or items i 0 ∷ drop (i + 1) these) is (rw (add-one, drop-cons items i 0))

pub no_end : (items ends : List ℕ) (i : ℕ) → items ≡ ends → length items ≤ i → drop i ends ≡ []
no_end items ends i is beyond = drop_all i ends (omega (arith, beyond, ap length is))

-- the pieces of the next part, and the ends behind them
pub record NextPart {A : Type 0} (pieces : List (GroupPlace A)) (start end : ℕ) (left others : List ℕ) : Type 0 where
  pub next : left ≡ end ∷ others
  pub above : start ≤ end
  pub within : end ≤ length pieces
  pub behind : AreEnds end (length pieces) others

-- ---- the parts that are left

module _ {A : Type 0} (pieces : List (GroupPlace A)) (start end : ℕ) (left others : List ℕ) (is : left ≡ end ∷ others) where
  these_parts : parts_from start left pieces ≡ between start end pieces ∷ parts_from end others pieces
  unfolding parts_from
  these_parts = ap (λ (ends : List ℕ). parts_from start ends pieces) is

  of_first : (P : List (GroupPlace A) → Type 0) → AllByRecursion P (parts_from start left pieces) → P (between start end pieces)
  of_first P all = (subst (AllByRecursion P) these_parts all).0

  pub of_others : (P : List (GroupPlace A) → Type 0) → AllByRecursion P (parts_from start left pieces) → AllByRecursion P (parts_from end others pieces)
  of_others P all = (subst (AllByRecursion P) these_parts all).1

  module _ (family : AddressFamily) (run : List (GroupPlace A) → List WantUnit) where
    pub one_more_run : (total more next all : ℕ) → more ≡ run_size family (run (between start end pieces)) → next ≡ total + more → total + runs_size family (map run (parts_from start left pieces)) ≡ all
        → next + runs_size family (map run (parts_from end others pieces)) ≡ all
    unfolding runs_size
    one_more_run total more next all is_more is_next counted =
        let parts = ap (λ (these : List (List (GroupPlace A))). runs_size family (map run these)) these_parts in
        omega (arith, parts, is_more, is_next, counted)

    pub one_more_told : (writing : Writing) (rps : List ℕ → Option (List ℕ)) (runs : List (List WantUnit)) (messages next : List (List ℕ)) (message : List ℕ)
        → next ≡ messages ++ message ∷ [] → CarriesRun family writing rps (run (between start end pieces)) message
        → ((behind : List (List ℕ)) → CarryRuns family writing rps (map run (parts_from start left pieces)) behind → CarryRuns family writing rps runs (messages ++ behind))
        → (behind : List (List ℕ)) → CarryRuns family writing rps (map run (parts_from end others pieces)) behind → CarryRuns family writing rps runs (next ++ behind)
    one_more_told writing rps runs messages next message is_next carries reported behind tell =
        let runs_left : map run (parts_from start left pieces) ≡ run (between start end pieces) ∷ map run (parts_from end others pieces) = ap (map run) these_parts in
        let all : CarryRuns family writing rps runs (messages ++ message ∷ behind) =
        reported (message ∷ behind) (subst (λ (these : List (List WantUnit)). CarryRuns family writing rps these (message ∷ behind)) (sym runs_left) (carries, tell)) in
        subst (CarryRuns family writing rps runs) (sym (ap (λ (front : List (List ℕ)). front ++ behind) is_next ∙ append_assoc messages (message ∷ []) behind)) all

module _ {A : Type 0} (pieces : List (GroupPlace A)) (items ends : List ℕ) (i start : ℕ) (is : items ≡ ends) (below : i < length items) where
  pub next_part : AreEnds start (length pieces) (drop i ends) → NextPart pieces start (get_or items i 0) (drop i ends) (drop (i + 1) ends)
  unfolding AreEnds
  next_part are =
      let next = next_end items ends i is below in
      let parts = subst (AreEnds start (length pieces)) next are in
      record { next = next; above = parts.0; within = parts.1; behind = parts.2 }

  -- where these pieces are seen, the next part is what all parts are
  pub of_next : (P : List (GroupPlace A) → Type 0) → AllByRecursion P (parts_from start (drop i ends) pieces) → (seen part : List (GroupPlace A)) → seen ≡ pieces → part ≡ between start (get_or items i 0) seen → P part
  of_next P all seen part same first =
      subst P (sym (first ∙ ap (between start (get_or items i 0)) same)) (of_first pieces start (get_or items i 0) (drop i ends) (drop (i + 1) ends) (next_end items ends i is below) P all)

module _ {A : Type 0} (pieces : List (GroupPlace A)) (start : ℕ) (left : List ℕ) (none : left ≡ []) (family : AddressFamily) (run : List (GroupPlace A) → List WantUnit) where
  no_part : parts_from start left pieces ≡ []
  unfolding parts_from
  no_part = ap (λ (ends : List ℕ). parts_from start ends pieces) none

  pub no_more_run : (total all : ℕ) → total + runs_size family (map run (parts_from start left pieces)) ≡ all → total ≡ all
  unfolding runs_size
  no_more_run total all counted = omega (arith, ap (λ (these : List (List (GroupPlace A))). runs_size family (map run these)) no_part, counted)

  pub no_more_told : (writing : Writing) (rps : List ℕ → Option (List ℕ)) (runs : List (List WantUnit)) (messages : List (List ℕ))
      → ((behind : List (List ℕ)) → CarryRuns family writing rps (map run (parts_from start left pieces)) behind → CarryRuns family writing rps runs (messages ++ behind))
      → CarryRuns family writing rps runs messages
  no_more_told writing rps runs messages reported =
      subst (CarryRuns family writing rps runs) (append-nil messages)
      (reported [] (subst (λ (these : List (List (GroupPlace A))). CarryRuns family writing rps (map run these) []) (sym no_part) tt))

-- the message of a part tells its run
pub part_tells : {A : Type 0} (bytes_of : A → List ℕ) (family : AddressFamily) (writing : Writing) (rps : List ℕ → Option (List ℕ)) (row : List A) (part : List (GroupPlace A)) (message : List ℕ)
    → IsKept bytes_of family row part → CarriesPart family writing rps (form_seen bytes_of row part) message → CarriesRun family writing rps (run_of bytes_of row part) message
part_tells bytes_of family writing rps row part message kept carries = record {
  part = form_seen bytes_of row part;
  units = refl;
  ascending = kept.normal.ascending;
  some = groups_some family (form_seen bytes_of row part) kept.normal.groups;
  sealed = carries;
}
