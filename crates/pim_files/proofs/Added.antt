-- Lines whose rows are added one after another.
use Rattle.std.proofs.Common.{◌≡◌, ◌∙◌, sym, ap, refl, subst, inl, inr, ℕ, ◌+◌, true, false, List, [], ◌∷◌, ◌++◌, length}
use Rattle.pim_files.proofs.LineByLine.{Went, first_added}
use Rattle.pim_files.proofs.Words.{Row, RouteTable, AddressFamily, FileRow, is_passed_over, IsRow, AreRows, row_faults, with_file_row}
use Rattle.pim_files.proofs.Words.{AreAdded, Adds}
use Rattle.pim_files.specs.RoutesSeen.{AddsLine, IsLineFault, StopsIn}
use Rattle.pim_files.specs.declared.routes.fault.RoutesFault.{RoutesFault}
use Rattle.pim_files.specs.declared.routes.fault.RoutesFault.TheVariants.{TooLong, Read, Line}
use Rattle.pim_files.specs.declared.routes.fault.RoutesFault.TheVariants.{Memory as Wanting}

module _ (family : AddressFamily) where
  -- one more line

  rows_then_none : (lines : List (List ℕ)) (rows : List (FileRow Row)) (line : List ℕ) → AreRows family lines rows → is_passed_over line ≡ true → AreRows family (lines ++ line ∷ []) rows
  rows_then_none [] rows line are over = inl (over, are)
  rows_then_none (first ∷ lines) rows line (inl (said, are)) over = inl (said, rows_then_none lines rows line are over)
  rows_then_none (first ∷ lines) [] line (inr (said, never)) over = absurd never
  rows_then_none (first ∷ lines) (row ∷ rows) line (inr (said, (is, are))) over = inr (said, (is, rows_then_none lines rows line are over))

  rows_then_row : (lines : List (List ℕ)) (rows : List (FileRow Row)) (line : List ℕ) (row : FileRow Row) → AreRows family lines rows → is_passed_over line ≡ false → IsRow family line row → AreRows family (lines ++ line ∷ []) (rows ++ row ∷ [])
  rows_then_row [] rows line row are says is = subst (λ (rs : List (FileRow Row)). AreRows family (line ∷ []) (rs ++ row ∷ [])) (sym are) (inr (says, (is, refl)))
  rows_then_row (first ∷ lines) rows line row (inl (said, are)) says is = inl (said, rows_then_row lines rows line row are says is)
  rows_then_row (first ∷ lines) [] line row (inr (said, never)) says is = absurd never
  rows_then_row (first ∷ lines) (held ∷ rows) line row (inr (said, (of, are))) says is = inr (said, (of, rows_then_row lines rows line row are says is))

  added_then_row : (rows : List (FileRow Row)) (old new : RouteTable) (row : FileRow Row) → AreAdded family rows old new → row_faults family row new ≡ [] → AreAdded family (rows ++ row ∷ []) old (with_file_row row new)
  added_then_row [] old new row are sound = (ap (λ (t : RouteTable). row_faults family row t) (sym are) ∙ sound, ap (with_file_row row) are)
  added_then_row (first ∷ rows) old new row (fine, are) sound = (fine, added_then_row rows (with_file_row first old) new row are sound)

  pub adds_one_more : (lines : List (List ℕ)) (line : List ℕ) (old mid new : RouteTable) → Adds family lines old mid → AddsLine family line mid new → Adds family (lines ++ line ∷ []) old new
  adds_one_more lines line old mid new (rows, are, added) (inl (over, stays)) = (rows, rows_then_none lines rows line are over, subst (AreAdded family rows old) (sym stays) added)
  adds_one_more lines line old mid new (rows, are, added) (inr (row, says, is, sound, grown)) =
      (rows ++ row ∷ [], rows_then_row lines rows line row are says is, subst (AreAdded family (rows ++ row ∷ []) old) (sym grown) (added_then_row rows old mid row added sound))

  -- ---- line after line

  pub stopped : (all : List (List ℕ)) (line : List ℕ) (left : List (List ℕ)) (old now : RouteTable) (number : ℕ) (fault : RoutesFault) → Went (Adds family) all (line ∷ left) old now number → IsLineFault family line (number + 1) now fault → StopsIn family all old now fault
  stopped all line left old now number TooLong went never = absurd never
  stopped all line left old now number Read went never = absurd never
  stopped all line left old now number (Line reported) went (is, wrong) = record {
    before = went.front;
    line = line;
    behind = left;
    cut = went.cut;
    numbered = is ∙ ap (λ n. n + 1) went.numbered;
    added = went.added;
    wrong = wrong;
  }
  stopped all line left old now number Wanting went wants = (length went.front, first_added (Adds family) all line left old now number went)
