-- How the reader goes over the sets of a body.
use Rattle.pim_jp.proofs.Words.{◌≡◌, ◌∙◌, sym, ap, ℕ, suc, ◌+◌, ◌-◌, ◌*◌, ◌≤◌, ◌<◌, List, [], length, drop, refl, arith}
use Rattle.pim_jp.proofs.Words.{length-drop, append-nil, AddressFamily, judged, group_length, source_length, JpFault}
use Rattle.pim_jp.proofs.Words.{joined_count, pruned_count, after_set, group, rest, set_parts, part_faults, faults_of}
use Rattle.pim_jp.proofs.Words.{set_length, HoldsSets, Reports, Passes, Stops, lists_then, lists_end, set_then}
use Rattle.pim_jp.proofs.Parts.{part_passes}

-- ---- a set

pub set_pass : (family : AddressFamily) (at : ℕ) (bytes : List ℕ) → group_length family ≤ length bytes
    → part_faults family (record { shape = group; at = at; bytes = bytes }) ≡ []
    → Passes family (lists_then family (at + group_length family) (drop (group_length family) bytes))
    (λ next. next (lists_end family (at + group_length family) (drop (group_length family) bytes)) (after_set family bytes))
    → Passes family (set_then family at bytes) (λ next. next (lists_end family (at + group_length family) (drop (group_length family) bytes)) (after_set family bytes))
set_pass family at bytes whole none lists = λ next.
    part_passes family group (group_length family) at bytes (λ at bytes'. lists_then family at bytes' next) none whole ∙ lists next

pub set_stop_lists : (family : AddressFamily) (at : ℕ) (bytes : List ℕ) (fault : JpFault) → group_length family ≤ length bytes
    → part_faults family (record { shape = group; at = at; bytes = bytes }) ≡ []
    → Stops family (lists_then family (at + group_length family) (drop (group_length family) bytes)) fault
    → Stops family (set_then family at bytes) fault
set_stop_lists family at bytes fault whole none stop = λ next.
    ap (λ faults. judged faults tt) (part_passes family group (group_length family) at bytes (λ at bytes'. lists_then family at bytes' next) none whole)
    ∙ stop next

-- ---- so many of the sets

pub record SetsReached (family : AddressFamily) (count start : ℕ) (bytes : List ℕ) (done at : ℕ) (left : List ℕ) : Type 0 where
  pub fits : at + length left ≡ start + length bytes
  pub passes : faults_of family (set_parts family count start bytes) ≡ faults_of family (set_parts family (count - done) at left)
  pub holds : HoldsSets family (count - done) left → HoldsSets family count bytes

-- where the reader stands after a set
length_behind : (at front joined pruned : ℕ) (bytes : List ℕ) → front + 4 + joined + pruned ≤ length bytes
    → (at + (length bytes - length (drop pruned (drop joined (drop 4 (drop front bytes))))) ≡ at + front + 4 + joined + pruned)
    × (at + (length bytes - length (drop pruned (drop joined (drop 4 (drop front bytes))))) + length (drop pruned (drop joined (drop 4 (drop front bytes)))) ≡ at + length bytes)
length_behind at front joined pruned bytes whole =
    let left : length (drop pruned (drop joined (drop 4 (drop front bytes)))) ≡ length bytes - front - 4 - joined - pruned = simp length-drop refl in
    (omega (arith, left), omega (arith, left))

after_length : (family : AddressFamily) (at : ℕ) (bytes : List ℕ) → set_length family bytes ≤ length bytes
    → (at + (length bytes - length (after_set family bytes)) ≡ lists_end family (at + group_length family) (drop (group_length family) bytes))
    × (at + (length bytes - length (after_set family bytes)) + length (after_set family bytes) ≡ at + length bytes)
after_length family at bytes whole =
    length_behind at (group_length family) (joined_count family bytes * source_length family) (pruned_count family bytes * source_length family) bytes whole

sets_step : (family : AddressFamily) (count at : ℕ) (bytes : List ℕ) (end : ℕ) → Passes family (set_then family at bytes) (λ next. next end (after_set family bytes))
    → faults_of family (set_parts family (suc count) at bytes) ≡ faults_of family (set_parts family count end (after_set family bytes))
unfolding set_parts
sets_step family count at bytes end passes = passes (set_parts family count)

sets_stopped : (family : AddressFamily) (count at : ℕ) (bytes : List ℕ) (fault : JpFault) → Stops family (set_then family at bytes) fault
    → Reports (faults_of family (set_parts family (suc count) at bytes)) fault
unfolding set_parts
sets_stopped family count at bytes fault stops = stops (set_parts family count)

holds_more : (family : AddressFamily) (count : ℕ) (bytes : List ℕ) → set_length family bytes ≤ length bytes → HoldsSets family count (after_set family bytes) → HoldsSets family (suc count) bytes
unfolding HoldsSets
holds_more family count bytes whole holds = (whole, holds)

pub sets_more : (family : AddressFamily) (count start : ℕ) (bytes : List ℕ) (done at : ℕ) (left : List ℕ)
    → SetsReached family count start bytes done at left → done < count
    → Passes family (set_then family at left) (λ next. next (lists_end family (at + group_length family) (drop (group_length family) left)) (after_set family left))
    → set_length family left ≤ length left
    → SetsReached family count start bytes (done + 1) (at + (length left - length (after_set family left))) (after_set family left)
sets_more family count start bytes done at left reached some passes whole =
    let step : count - done ≡ suc (count - (done + 1)) = omega arith in
    let place = after_length family at left whole in
    record {
      fits = place.1 ∙ reached.fits;
      passes = reached.passes ∙ ap (λ n. faults_of family (set_parts family n at left)) step ∙ sets_step family (count - (done + 1)) at left _ passes
          ∙ ap (λ n. faults_of family (set_parts family (count - (done + 1)) n (after_set family left))) (sym place.0);
      holds = λ holds. reached.holds (rw step (holds_more family (count - (done + 1)) left whole holds));
    }

pub sets_stop : (family : AddressFamily) (count start : ℕ) (bytes : List ℕ) (done at : ℕ) (left : List ℕ) (fault : JpFault)
    → SetsReached family count start bytes done at left → done < count → Stops family (set_then family at left) fault
    → Reports (faults_of family (set_parts family count start bytes)) fault
sets_stop family count start bytes done at left fault reached some stops =
    let step : count - done ≡ suc (count - (done + 1)) = omega arith in
    ap (λ faults. judged faults tt) (reached.passes ∙ ap (λ n. faults_of family (set_parts family n at left)) step)
    ∙ sets_stopped family (count - (done + 1)) at left fault stops

pub sets_all : (family : AddressFamily) (count start : ℕ) (bytes : List ℕ) (done at : ℕ) (left : List ℕ)
    → SetsReached family count start bytes done at left → count ≤ done
    → (faults_of family (set_parts family count start bytes) ≡ part_faults family (record { shape = rest; at = at; bytes = left })) × HoldsSets family count bytes
unfolding set_parts HoldsSets
sets_all family count start bytes done at left reached all =
    let none : count - done ≡ 0 = omega arith in
    (reached.passes ∙ (rw none (append-nil _)), reached.holds (rw none tt))

pub sets_told : (family : AddressFamily) (count start : ℕ) (bytes : List ℕ) (done at : ℕ) (left : List ℕ) (fault : JpFault)
    → SetsReached family count start bytes done at left → count ≤ done
    → Reports (part_faults family (record { shape = rest; at = at; bytes = left })) fault
    → Reports (faults_of family (set_parts family count start bytes)) fault
sets_told family count start bytes done at left fault reached all reported =
    ap (λ faults. judged faults tt) (sets_all family count start bytes done at left reached all).0 ∙ reported
