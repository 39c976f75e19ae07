-- The joins of the code as contracts see them, and what the clauses of private functions say of
-- places.
use Rattle.std.specs.Prelude.{◌≡◌, ◌≤◌, ℕ, true, false, List, map, length, insert, option_map, Result, Ok, Err}
use Rattle.pim_local.specs.declared.join.LocalJoin.{LocalJoin}
use Rattle.pim_local.specs.Joins.{Join, is_listed, with_join}

module _ {A : Type 0} (bytes_of : A → List ℕ) where
  -- A join as contracts see it.
  abbrev pub join_seen : LocalJoin A → Join
  join_seen join = record { group = bytes_of join.group; source = option_map bytes_of join.source }

  -- A list of joins as contracts see it.
  abbrev pub joins_seen : List (LocalJoin A) → List Join
  joins_seen joins = map join_seen joins

-- The list doesn't have this join, which belongs at `place`.
pub record IsGap (join : Join) (joins : List Join) (place : ℕ) : Type 0 where
  pub within : place ≤ length joins
  pub absent : is_listed join joins ≡ false
  pub after : insert joins place join ≡ with_join join joins

-- The result of a search for a join: Ok where the list has it, else its place.
abbrev pub IsJoinPlace : Join → List Join → Result ℕ ℕ → Type 0
IsJoinPlace join joins (Ok place) = is_listed join joins ≡ true
IsJoinPlace join joins (Err place) = IsGap join joins place
