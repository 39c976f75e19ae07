-- The words of other modules that the lemmas and answers of this crate cite.
pub use Rattle.std.proofs.Common.{Err, IsTrue, List, Ok, [], add-one, ap, append_assoc, ap₂, arith, drop, false}
pub use Rattle.std.proofs.Common.{get_or, inl, inr, length, length-append, length-drop, lit<, refl, rules, set, subst}
pub use Rattle.std.proofs.Common.{suc, sym, take, zero, zero-add, ℕ, ◌%◌, ◌*◌, ◌++◌, ◌+◌, ◌-◌, ◌/◌, ◌<◌, ◌^◌, ◌∙◌, ◌∷◌}
pub use Rattle.std.proofs.Common.{◌≡◌, ◌≢◌, ◌≤◌, ◌⊎◌}
pub use Rattle.std.proofs.Math.ListN.{drop_of_length-le}
pub use Rattle.std.proofs.Math.Nat.{div-mul-le_self, le-div_iff_mul-le, mul-le-mul_right, suc-mul, zero-mul}
pub use Rattle.std.proofs.Math.Seq.{drop-append-add, paste, take-append-add}
pub use Rattle.std.proofs.lemmas.Bool.{cases_lt, false≢true, true≢false}
pub use Rattle.std.proofs.lemmas.List.{drop-append-le, drop-drop, drop-take, drop_at, get_or-append-add}
pub use Rattle.std.proofs.lemmas.List.{get_or-set_other, get_or-set_same, get_or_append_left, get_or_read, length-set}
pub use Rattle.std.proofs.lemmas.List.{length-take-le, nil_from_length, take-append-drop, take-append-le, take-set}
pub use Rattle.std.proofs.lemmas.List.{take_all, take_at}
pub use Rattle.std.proofs.lemmas.List.Edits.{get_or-insert_above, get_or-insert_at, get_or-insert_below}
pub use Rattle.std.proofs.lemmas.List.Edits.{get_or-remove_above, get_or-remove_below, insert-append_left}
pub use Rattle.std.proofs.lemmas.List.Edits.{insert-append_right, length-insert, length-remove}
pub use Rattle.std.proofs.lemmas.List.Edits.{remove-append_right}
pub use Rattle.std.specs.List.{All, insert, remove}
pub use Rattle.std.specs.declared.cmp.Ordering.{Ordering}
pub use Rattle.std.specs.declared.cmp.Ordering.TheVariants.{Equal, Greater, Less}
pub use Rattle.sorted_blocks.specs.Found.{IsFound, IsGap}
unfoldable pub use Rattle.sorted_blocks.specs.Places.{IsItem, IsPlace, before, rest_of}
pub use Rattle.sorted_blocks.specs.Shape.{Shape, block_at, block_total, items, joined}
unfoldable pub use Rattle.sorted_blocks.specs.Shape.{capacity, cut, firsts, spliced}
pub use Rattle.sorted_blocks.specs.Sought.{IsBlockGap, IsLead, IsLessAt, IsRowLeft}
pub use Rattle.sorted_blocks.specs.Sound.{IsDense, IsLed, IsSound}
unfoldable pub use Rattle.sorted_blocks.specs.Sound.{AllFilled, IsDenseIn}
pub use Rattle.sorted_blocks.specs.declared.place.Place.{Place}
