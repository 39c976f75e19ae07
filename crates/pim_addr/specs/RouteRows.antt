-- How a map is kept: its rows in order, and ranges of addresses, each with the longest matching
-- row. Only clauses of private functions cite the ranges.
use Rattle.std.specs.Prelude.{◌≡◌, ◌<◌, ◌≤◌, ◌*◌, ℕ, suc, true, false, List, [], ◌∷◌, map, length, filter, ◌&&◌, ⊤}
use Rattle.std.specs.Prelude.{slice_index_or, nat_lt, nat_le, is_some, insert, Result, Ok, Err, if◌then◌else◌}
use Rattle.std.specs.Prelude.{Option, Some, None, option_map}
use Rattle.std.specs.List.{prefix_len}
use Rattle.pim_addr.specs.Address.{IsAddress, number_of}
use Rattle.pim_addr.specs.Routes.{Prefix, Row, row_at, with_row, matches, longer_of, longest, IsRouteMap}
use Rattle.pim_addr.specs.declared.family.AddressFamily.{AddressFamily}
use Rattle.pim_addr.specs.declared.route.Route.{Route}

module _ {A : Type 0} (bytes_of : A → List ℕ) where
  -- A `Route` as the row that contracts see.
  abbrev pub row_seen : Route A → Row
  row_seen route = (record { bits = route.length; address = bytes_of route.prefix }, bytes_of route.to)

  -- A list of `Route` values as the rows that contracts see.
  abbrev pub rows_seen : List (Route A) → List Row
  rows_seen rows = map row_seen rows

-- ---- ranges of addresses: the numbers of their last addresses, and the row that applies in each,
-- if any

-- The row of each range, as contracts see it.
abbrev pub answers_seen : {A : Type 0} → (A → List ℕ) → List (Option (Route A)) → List (Option Row)
answers_seen bytes_of answers = map (option_map (row_seen bytes_of)) answers

-- The ends of the ranges ascend strictly, the first at `least` or above.
abbrev pub Rises : ℕ → List ℕ → Type 0
Rises least [] = ⊤
Rises least (end ∷ ends) = (least ≤ end) × Rises (suc end) ends

-- The number of ranges that end before a number.
unfoldable pub before : ℕ → List ℕ → ℕ
before number ends = prefix_len (λ end. nat_lt end number) ends

-- The row that applies to a number: that of the first range that does not end before it.
abbrev pub answer_of : List ℕ → List (Option Row) → ℕ → Option Row
answer_of ends answers number = slice_index_or answers (before number ends) None

-- The ends ascend, and each range has one entry in the list of rows.
pub record AreRanges (ends : List ℕ) (answers : List (Option Row)) : Type 0 where
  pub rises : Rises 0 ends
  pub paired : length ends ≡ length answers

-- A range ends at this number.
abbrev pub IsEnd : ℕ → List ℕ → Type 0
IsEnd number ends = before number ends < before (suc number) ends

-- A range begins at this number.
abbrev pub IsStart : ℕ → List ℕ → Type 0
IsStart number ends = (other : ℕ) → other < number → before other ends < before number ends

-- The ranges before and after a cut: each number keeps its row, and numbers in different ranges
-- stay in different ranges.
pub record KeepAnswers (ends : List ℕ) (answers : List (Option Row)) (ends' : List ℕ) (answers' : List (Option Row)) :
    Type 0 where
  pub same : (number : ℕ) → answer_of ends' answers' number ≡ answer_of ends answers number
  pub apart : (one other : ℕ) → before one ends < before other ends → before one ends' < before other ends'

-- The row that applies to a number once `row` is added for `first` to `last`. For these numbers it
-- is the longer of `row` and the old one.
abbrev pub answer_with : ℕ → ℕ → Row → ℕ → Option Row → Option Row
answer_with first last row number answer =
    if nat_le first number && nat_le number last then Some (longer_of row answer) else answer

-- The new function from numbers to rows is the old one with `row` added for `first` to `last`.
abbrev pub AnswersBetween : ℕ → ℕ → Row → (ℕ → Option Row) → (ℕ → Option Row) → Type 0
AnswersBetween first last row old new = (number : ℕ) → new number ≡ answer_with first last row number (old number)

-- The longest row that matches an address.
abbrev pub longest_match : AddressFamily → List ℕ → List Row → Option Row
longest_match family address rows = longest (filter (matches family address) rows)

-- The invariant of a map: each range has the longest row that matches its addresses, and there are
-- at most two ranges for each row.
pub record Stand (family : AddressFamily) (rows : List Row) (ends : List ℕ) (answers : List (Option Row)) :
    Type 0 where
  pub is_map : IsRouteMap family rows
  pub ranges : AreRanges ends answers
  pub few : length ends ≤ 2 * length rows
  pub leads : (address : List ℕ) → IsAddress family address →
      answer_of ends answers (number_of address) ≡ longest_match family address rows

-- ---- one more row

-- No row has this prefix, and a new row with it belongs at `place`.
pub record IsGap (prefix : Prefix) (rows : List Row) (place : ℕ) : Type 0 where
  pub within : place ≤ length rows
  pub absent : is_some (row_at prefix rows) ≡ false
  pub after : (to : List ℕ) → insert rows place (prefix, to) ≡ with_row prefix to rows

-- The result of a search for a prefix: Ok where a row has it, else the place of a new row.
abbrev pub IsRowPlace : Prefix → List Row → Result ℕ ℕ → Type 0
IsRowPlace prefix rows (Ok place) = is_some (row_at prefix rows) ≡ true
IsRowPlace prefix rows (Err place) = IsGap prefix rows place
