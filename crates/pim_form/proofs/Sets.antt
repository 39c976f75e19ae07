-- The set of a group, as it is written: how many entries it has, and its parts one behind the other.
use Rattle.pim_form.proofs.Words.{◌≡◌, ◌∙◌, ℕ, ◌+◌, ◌*◌, ◌≤◌, ◌<◌, ◌^◌, List, [], ◌∷◌, ◌++◌, Option, None, Some, map, length}
use Rattle.pim_form.proofs.Words.{take, refl, sym, ap, arith, length-append, append_assoc, from_bool, flat_map, take-append_seam}
use Rattle.pim_form.proofs.Words.{length-map, take_all, append-nil, flat_map-map, flat_map-append, AddressFamily, canonical_group}
use Rattle.pim_form.proofs.Words.{Entry, canonical_entry, canonical_set, canonical_set_length, canonical_sets_length, GroupForm}
use Rattle.pim_form.proofs.Words.{exceptions_of, IsRpOf, star_entries, excepted_entries, written_set, canonical_source_entry}
use Rattle.pim_form.proofs.Words.{canonical_rpt_entry}
use Rattle.std.specs.Prelude.{Bool, is_some}
use Rattle.pim_jp.specs.declared.entry.Entry.TheVariants.{Source, Rpt}

pub pruned_count : (star : Option (List (List ℕ))) → length (excepted_entries star) ≡ length (exceptions_of star)
pruned_count None = refl
pruned_count (Some exceptions) = length-map exceptions (λ source. Rpt source)

pub stars_count : (family : AddressFamily) (rp : Option (List ℕ)) (star : Option (List (List ℕ))) (has : Bool) (count : ℕ) → IsRpOf family rp star → has ≡ is_some star → count ≡ from_bool has
    → count ≡ length (star_entries rp star)
stars_count family rp None has count is same counts = counts ∙ ap from_bool same
stars_count family None (Some exceptions) has count is same counts = absurd is
stars_count family (Some rp) (Some exceptions) has count is same counts = counts ∙ ap from_bool same

pub joined_count : (rps : List ℕ → Option (List ℕ)) (this : GroupForm) → length (written_set rps this).joined ≡ length (star_entries (rps this.group) this.star) + length this.sources
joined_count rps this =
    omega (arith, length-append (star_entries (rps this.group) this.star) (map (λ source. Source source) this.sources), length-map this.sources (λ source. Source source))

pruned_spelled : (family : AddressFamily) (star : Option (List (List ℕ))) → flat_map (canonical_rpt_entry family) (exceptions_of star) ≡ flat_map (canonical_entry family) (excepted_entries star)
pruned_spelled family None = refl
pruned_spelled family (Some exceptions) = sym (flat_map-map (canonical_entry family) (λ source. Rpt source) exceptions)

joined_spelled : (family : AddressFamily) (entries : List (Entry (List ℕ))) (sources : List (List ℕ))
    → flat_map (canonical_entry family) entries ++ flat_map (canonical_source_entry family) sources ≡ flat_map (canonical_entry family) (entries ++ map (λ source. Source source) sources)
joined_spelled family entries sources =
    ap (λ (bytes : List ℕ). flat_map (canonical_entry family) entries ++ bytes) (sym (flat_map-map (canonical_entry family) (λ source. Source source) sources))
    ∙ sym (flat_map-append (canonical_entry family) entries (map (λ source. Source source) sources))

-- what is left behind the group, the star and the sources is the room of the exceptions
pub exceptions_room : (size group star sources exceptions joined pruned whole first second third : ℕ) → joined ≡ star + sources → pruned ≡ exceptions
    → whole ≡ group + 4 + joined * size + pruned * size → first + (group + 4) ≡ whole → second + star * size ≡ first → third + sources * size ≡ second → third ≡ exceptions * size
exceptions_room size group star sources exceptions joined pruned whole first second third join prune is one two three = grind (arith, join, prune, is, one, two, three)

pub set_spelled : (count : ℕ → List ℕ) (family : AddressFamily) (rps : List ℕ → Option (List ℕ)) (this : GroupForm) (joined pruned : ℕ) (front star sources exceptions : List ℕ)
    → joined ≡ length (written_set rps this).joined → pruned ≡ length (written_set rps this).pruned
    → front ≡ canonical_group family this.group ++ count joined ++ count pruned
    → star ≡ flat_map (canonical_entry family) (star_entries (rps this.group) this.star)
    → sources ≡ flat_map (canonical_source_entry family) this.sources
    → exceptions ≡ flat_map (canonical_rpt_entry family) (exceptions_of this.star)
    → front ++ (star ++ (sources ++ exceptions)) ≡ canonical_group family this.group ++ count (length (written_set rps this).joined) ++ count (length (written_set rps this).pruned)
    ++ flat_map (canonical_entry family) (written_set rps this).joined ++ flat_map (canonical_entry family) (written_set rps this).pruned
set_spelled count family rps this joined pruned front star sources exceptions join prune is_front is_star is_sources is_exceptions =
    let joins : star ++ sources ≡ flat_map (canonical_entry family) (written_set rps this).joined =
    ap (λ (bytes : List ℕ). bytes ++ sources) is_star ∙ ap (λ (bytes : List ℕ). flat_map (canonical_entry family) (star_entries (rps this.group) this.star) ++ bytes) is_sources
    ∙ joined_spelled family (star_entries (rps this.group) this.star) this.sources in
    let prunes : exceptions ≡ flat_map (canonical_entry family) (written_set rps this).pruned = is_exceptions ∙ pruned_spelled family this.star in
    let fronts : front ≡ canonical_group family this.group ++ count (length (written_set rps this).joined) ++ count (length (written_set rps this).pruned) =
    is_front ∙ ap (λ (n : ℕ). canonical_group family this.group ++ count n ++ count pruned) join
    ∙ ap (λ (n : ℕ). canonical_group family this.group ++ count (length (written_set rps this).joined) ++ count n) prune in
    ap (λ (bytes : List ℕ). front ++ bytes) (sym (append_assoc star sources exceptions)) ∙ sym (append_assoc front (star ++ sources) exceptions)
    ∙ ap (λ (bytes : List ℕ). (front ++ bytes) ++ exceptions) joins
    ∙ ap (λ (bytes : List ℕ). (front ++ flat_map (canonical_entry family) (written_set rps this).joined) ++ bytes) prunes
    ∙ ap (λ (bytes : List ℕ). (bytes ++ flat_map (canonical_entry family) (written_set rps this).joined) ++ flat_map (canonical_entry family) (written_set rps this).pruned) fronts

-- a front of a row that ends behind a piece
pub front_and_piece : (at size : ℕ) (front piece others : List ℕ) → length front ≡ at → length piece ≡ size → take (at + size) (front ++ (piece ++ others)) ≡ front ++ piece
front_and_piece at size front piece others is_at is_size =
    let long : length (front ++ piece) ≡ at + size = omega (arith, length-append front piece) in
    ap (λ (row : List ℕ). take (at + size) row) (sym (append_assoc front piece others)) ∙ ap (λ (n : ℕ). take n ((front ++ piece) ++ others)) (sym long) ∙ take-append_seam (front ++ piece) others

pub few_sources : (rps : List ℕ → Option (List ℕ)) (this : GroupForm) → length (written_set rps this).joined < 2 ^ 16 → length this.sources < 2 ^ 16
few_sources rps this few = omega (arith, joined_count rps this)

-- ---- sets one behind the other

module _ (family : AddressFamily) (rps : List ℕ → Option (List ℕ)) where
  abbrev pub set_size : GroupForm → ℕ
  set_size this = canonical_set_length family (length (written_set rps this).joined) (length (written_set rps this).pruned)

  abbrev pub sets_room : List GroupForm → ℕ
  sets_room part = canonical_sets_length family (map (written_set rps) part)

  abbrev pub sets_spelled : List GroupForm → List ℕ
  sets_spelled part = flat_map (canonical_set family) (map (written_set rps) part)

  more_size : (left others : List GroupForm) (this : GroupForm) → left ≡ this ∷ others → sets_room left ≡ set_size this + sets_room others
  unfolding canonical_sets_length
  more_size left others this is = ap sets_room is

  none_size : (left : List GroupForm) → left ≡ [] → sets_room left ≡ 0
  unfolding canonical_sets_length
  none_size left none = ap sets_room none

  pub room_of_first : (left others : List GroupForm) (this : GroupForm) (at whole : ℕ) → left ≡ this ∷ others → at + sets_room left ≡ whole → at + set_size this ≤ whole
  room_of_first left others this at whole is room = omega (arith, more_size left others this is)

  pub room_of_others : (left others : List GroupForm) (this : GroupForm) (at end whole : ℕ) → left ≡ this ∷ others → at + sets_room left ≡ whole → end ≡ at + set_size this → end + sets_room others ≡ whole
  room_of_others left others this at end whole is room ends = omega (arith, more_size left others this is)

  pub one_more_set : (left others : List GroupForm) (this : GroupForm) (before behind all : List ℕ) → left ≡ this ∷ others → before ++ sets_spelled left ≡ all → behind ≡ before ++ canonical_set family (written_set rps this)
      → behind ++ sets_spelled others ≡ all
  one_more_set left others this before behind all is written more =
      ap (λ (bytes : List ℕ). bytes ++ sets_spelled others) more ∙ append_assoc before (canonical_set family (written_set rps this)) (sets_spelled others)
      ∙ ap (λ (part : List GroupForm). before ++ sets_spelled part) (sym is) ∙ written

  pub no_more_set : (left : List GroupForm) (at : ℕ) (bytes all : List ℕ) → left ≡ [] → at + sets_room left ≡ length bytes → take at bytes ++ sets_spelled left ≡ all → bytes ≡ all
  no_more_set left at bytes all none room written =
      let ends : length bytes ≤ at = omega (arith, none_size left none) in
      sym (take_all at bytes ends) ∙ sym (append-nil (take at bytes)) ∙ ap (λ (part : List GroupForm). take at bytes ++ sets_spelled part) (sym none) ∙ written
