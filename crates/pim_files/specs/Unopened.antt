-- What a further file that can't be opened does to the capture of its port.
use Rattle.std.specs.Prelude.{⊤, ℕ, List, ◌∷◌, ◌++◌, Ok}
use Rattle.std.specs.List.{AllByRecursion}
use Rattle.pim_capture.specs.Capture.{Answer, ended}
use Rattle.pim_container.specs.declared.choice.Choice.{Choice}
use Rattle.pim_merge.specs.Chosen.{answers_of_files}
use Rattle.pim_files.specs.Files.{no_bytes}

-- A result that isn't the end of a capture.
abbrev pub IsNoEnd : Answer → Type 0
IsNoEnd (Ok ended) = ⊥
IsNoEnd _ = ⊤

-- If one of the files after the first can't be opened, no result of the capture is its end: they
-- come to a fault there, if not before.
abbrev pub UnopenedNeverEnds : Type 0
UnopenedNeverEnds = (choice : Choice) (first : List ℕ) (before after : List (List ℕ))
    → AllByRecursion IsNoEnd (answers_of_files choice (first ∷ (before ++ (no_bytes ∷ after))))
