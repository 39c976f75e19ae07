-- Lines whose joins are added one after another.
use Rattle.pim_files.proofs.Words.{ap, refl, subst, ℕ, ◌+◌, ◌∙◌, List, [], ◌∷◌, ◌++◌, length, AddressFamily}
use Rattle.pim_local.specs.Joins.{Join}
use Rattle.pim_files.specs.LocalFile.{AddsLine, Adds}
use Rattle.pim_files.specs.LocalSeen.{IsLineFault, StopsIn}
use Rattle.pim_files.specs.declared.local.fault.LocalFileFault.{LocalFileFault}
use Rattle.pim_files.specs.declared.local.fault.LocalFileFault.TheVariants.{TooLong, Read, Line}
use Rattle.pim_files.specs.declared.local.fault.LocalFileFault.TheVariants.{Memory as Wanting}
use Rattle.pim_files.proofs.LineByLine.{Went, first_added}

module _ (family : AddressFamily) where
  pub adds_one_more : (lines : List (List ℕ)) (line : List ℕ) (old mid new : List Join) → Adds family lines old mid → AddsLine family line mid new → Adds family (lines ++ line ∷ []) old new
  adds_one_more [] line old mid new same adds = (new, subst (λ (joins : List Join). AddsLine family line joins new) same adds, refl)
  adds_one_more (first ∷ lines) line old mid new (next, one, others) adds = (next, one, adds_one_more lines line next mid new others adds)

  pub stopped : (all : List (List ℕ)) (line : List ℕ) (left : List (List ℕ)) (old now : List Join) (number : ℕ) (fault : LocalFileFault) → Went (Adds family) all (line ∷ left) old now number
      → IsLineFault family line (number + 1) now fault → StopsIn family all old now fault
  stopped all line left old now number TooLong went never = absurd never
  stopped all line left old now number Read went never = absurd never
  stopped all line left old now number (Line reported) went (is, wrong) = record {
    before = went.front;
    line = line;
    behind = left;
    cut = went.cut;
    numbered = is ∙ ap (λ n. n + 1) went.numbered;
    added = went.added;
    wrong = wrong;
  }
  stopped all line left old now number Wanting went wants = (length went.front, first_added (Adds family) all line left old now number went)
