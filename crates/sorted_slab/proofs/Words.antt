-- The words of other modules that the lemmas and answers of this crate cite.
pub use Rattle.slab.proofs.SlabLemmas.{Updates-with_value, length-entries}
pub use Rattle.slab.specs.Slab.{Slab, Updates, entries_from, get, slab_len, with_value}
pub use Rattle.sorted_blocks.specs.Found.{IsEqualAt, IsGap}
pub use Rattle.sorted_blocks.specs.Places.{before}
pub use Rattle.sorted_blocks.specs.Shape.{Shape, capacity, items}
pub use Rattle.sorted_blocks.specs.declared.place.Place.{Place}
pub use Rattle.std.proofs.Common.{Bor, Err, IsSomeAnd, List, None, Ok, OnOk, Option, Result, Some, [], ap, arith}
pub use Rattle.std.proofs.Common.{count_by, drop, get_or, is_some, length, lit<, option_copied, refl, set, subst, suc}
pub use Rattle.std.proofs.Common.{sym, take, true, zero, ℕ, ◌+◌, ◌-◌, ◌<◌, ◌∙◌, ◌∷◌, ◌≡◌, ◌≢◌, ◌≤◌}
pub use Rattle.std.proofs.lemmas.Bool.{false≢true}
pub use Rattle.std.proofs.lemmas.List.Edits.{length-insert, length-remove}
pub use Rattle.std.specs.Iterator.{MakesProgress, YieldsFirstBy, item_count}
pub use Rattle.std.specs.List.{All, AllByRecursion, insert, remove}
pub use Rattle.std.specs.declared.cmp.Ordering.{Ordering}
pub use Rattle.sorted_slab.specs.Listed.{IsFound, IsItem, IsPlace, Listed, at, listed, numbers, order_of, with_item}
unfoldable pub use Rattle.sorted_slab.specs.Listed.{found}
pub use Rattle.sorted_slab.specs.Sound.{IsSound}
unfoldable pub use Rattle.sorted_slab.specs.Sound.{AllDiffer, AllHeld}
