-- How a plan of messages is filled: some messages are closed, and one is open.
use Rattle.std.specs.Prelude.{◌≡◌, ℕ, ◌+◌, ◌*◌, ◌-◌, ◌≤◌, List, [], ◌∷◌, ◌++◌, None, length, map}
use Rattle.std.specs.Prelude.{if◌then◌else◌}
use Rattle.std.specs.List.{AllByRecursion, flat_map}
use Rattle.pim_addr.specs.declared.family.AddressFamily.{AddressFamily}
use Rattle.pim_form.specs.declared.place.GroupPlace.{GroupPlace}
use Rattle.pim_form.specs.Units.{WantUnit, empty_message_size, empty_set_size, entry_size, run_entries}
use Rattle.pim_form.specs.Packing.{IsPacking, most_groups}
use Rattle.pim_form.specs.TooBig.{too_big}
use Rattle.pim_form.specs.Rows.{form_seen, IsKept}
use Rattle.pim_form.specs.Plan.{run_of}

-- A message of `groups` group sets and `entries` entries is within the budget of bytes and the
-- limit of groups (RFC 7761, 4.9.5).
abbrev pub HasRoom : AddressFamily → ℕ → ℕ → ℕ → Type 0
HasRoom family budget groups entries =
    (empty_message_size family + groups * empty_set_size family + entries * entry_size family ≤ budget)
    × (groups ≤ most_groups)

-- A plan under construction. `groups` and `entries` count those of the open message.
pub record Filled (A : Type 0) : Type 0 where
  -- the pieces of all messages, in order
  pub pieces : List (GroupPlace A)
  -- for each closed message, the number of pieces up to its end
  pub ends : List ℕ
  pub groups : ℕ
  pub entries : ℕ

-- ---- pieces of a group

-- The number of entries of a piece's star: one for (*,G) and one for each exception.
abbrev pub star_entries : {A : Type 0} → GroupPlace A → ℕ
star_entries place = if place.starred then 1 + (place.exceptions_end - place.exceptions_start) else 0

-- The number of sources of a piece.
abbrev pub place_sources : {A : Type 0} → GroupPlace A → ℕ
place_sources place = place.sources_end - place.sources_start

-- 1 where the piece has a star, else 0.
abbrev pub star_count : {A : Type 0} → GroupPlace A → ℕ
star_count place = if place.starred then 1 else 0

-- ---- what is in messages and what is left

-- Where each part ends in the concatenation of all, if the first begins at `start`.
unfoldable pub ends_from : {A : Type 0} → ℕ → List (List A) → List ℕ
ends_from start [] = []
ends_from start (part ∷ parts) = (start + length part) ∷ ends_from (start + length part) parts

module _ {A : Type 0} (bytes_of : A → List ℕ) where
  -- The invariant of the filling. The pieces of the open message and those that are left are a part
  -- of the form. Any packing of that part, placed after the closed messages, is a packing of the
  -- whole form.
  pub record IsFilling (family : AddressFamily) (budget : ℕ) (row : List A) (places left : List (GroupPlace A))
      (filled : Filled A) : Type 0 where
    pub closed : List (List (GroupPlace A))
    pub begun : List (GroupPlace A)
    pub pieces : filled.pieces ≡ flat_map (λ part. part) closed ++ begun
    pub ends : filled.ends ≡ ends_from 0 closed
    pub groups : filled.groups ≡ length begun
    pub entries : filled.entries ≡ run_entries (run_of bytes_of row begun)
    pub room : HasRoom family budget filled.groups filled.entries
    pub done : AllByRecursion (IsKept bytes_of family row) closed
    pub kept : IsKept bytes_of family row (begun ++ left)
    pub packs : (runs : List (List WantUnit)) → IsPacking family budget (run_of bytes_of row (begun ++ left)) runs →
        IsPacking family budget (run_of bytes_of row places) (map (run_of bytes_of row) closed ++ runs)
    pub fits : too_big family budget (form_seen bytes_of row left) ≡ None
    pub least : 70 ≤ budget

  -- This piece can be put into the plan next.
  pub record IsNext (family : AddressFamily) (budget : ℕ) (place : GroupPlace A) (filled : Filled A) : Type 0 where
    pub row : List A
    pub places : List (GroupPlace A)
    pub left : List (GroupPlace A)
    pub filling : IsFilling family budget row places (place ∷ left) filled
