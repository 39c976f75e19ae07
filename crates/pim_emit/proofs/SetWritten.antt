-- The set of a piece, as it is written: its entries, and what stands before them.
use Rattle.pim_emit.proofs.Words.{◌≡◌, ◌∙◌, ℕ, ◌+◌, ◌*◌, List, ◌++◌, Option, None, Some, Bool, true, false, map, length, take}
use Rattle.pim_emit.proofs.Words.{refl, sym, ap, arith, length-append, append_assoc, if◌then◌else◌, flat_map, take-append-add}
use Rattle.pim_emit.proofs.Words.{length-map, append-nil, length-take, flat_map-append, AddressFamily, group_length}
use Rattle.pim_emit.proofs.Words.{source_length, canonical_entry, star_entries, excepted_entries, written_set, GroupForm}
use Rattle.pim_emit.proofs.Words.{exceptions_of, Piece, WrittenSources, piece_form, source_entries, exception_entries}
use Rattle.pim_emit.proofs.Words.{set_entries, entry_count, set_size, cut_piece, AreWritten}
use Rattle.std.proofs.lemmas.List.Folds.{flat_map-map}
use Rattle.pim_addr.specs.Canonical.{canonical_group}
use Rattle.pim_jp.specs.declared.entry.Entry.{Entry}
use Rattle.pim_jp.specs.declared.entry.Entry.TheVariants.{Source, Rpt}

joined_spelled : (family : AddressFamily) (entries : List (Entry (List ℕ))) (sources : List (List ℕ))
    → flat_map (canonical_entry family) (entries ++ map (λ source. Source source) sources) ≡ flat_map (canonical_entry family) entries ++ source_entries family sources
joined_spelled family entries sources =
    flat_map-append (canonical_entry family) entries (map (λ source. Source source) sources)
    ∙ ap (λ (bytes : List ℕ). flat_map (canonical_entry family) entries ++ bytes) (flat_map-map (canonical_entry family) (λ source. Source source) sources)

pruned_spelled : (family : AddressFamily) (star : Option (List (List ℕ))) → flat_map (canonical_entry family) (excepted_entries star) ≡ exception_entries family (exceptions_of star)
pruned_spelled family None = refl
pruned_spelled family (Some exceptions) = flat_map-map (canonical_entry family) (λ source. Rpt source) exceptions

pub pruned_count : (star : Option (List (List ℕ))) → length (excepted_entries star) ≡ length (exceptions_of star)
pruned_count None = refl
pruned_count (Some exceptions) = length-map exceptions (λ source. Rpt source)

pub joined_count : (rps : List ℕ → Option (List ℕ)) (this : GroupForm) → length (written_set rps this).joined ≡ length (star_entries (rps this.group) this.star) + length this.sources
joined_count rps this =
    omega (arith, length-append (star_entries (rps this.group) this.star) (map (λ source. Source source) this.sources), length-map this.sources (λ source. Source source))

-- as many sources are told as were counted
pub told_count : (piece : Piece (List ℕ)) (form : List GroupForm) (most : ℕ) (reported : WrittenSources (List ℕ)) → AreWritten piece form most reported
    → length (cut_piece reported.count piece form).sources ≡ reported.count
told_count piece form most reported are = omega (arith, are.count, length-take reported.count (piece_form piece form).sources)

module _ (family : AddressFamily) (rps : List ℕ → Option (List ℕ)) (this : GroupForm) (stars count size : ℕ) (first second third : List ℕ)
    (starred : stars ≡ length (star_entries (rps this.group) this.star)) (counted : length this.sources ≡ count)
    (star : take (stars * size) first ≡ flat_map (canonical_entry family) (star_entries (rps this.group) this.star))
    (sources : take (stars * size + count * size) second ≡ take (stars * size) first ++ source_entries family this.sources)
    (exceptions : take (stars * size + count * size + length (exceptions_of this.star) * size) third ≡ take (stars * size + count * size) second ++ exception_entries family (exceptions_of this.star)) where
  pub entries_written : take (entry_count family rps this * size) third ≡ set_entries family rps this
  entries_written =
      let joins = joined_count rps this in
      let prunes = pruned_count this.star in
      let whole : entry_count family rps this ≡ stars + count + length (exceptions_of this.star) = omega (arith, joins, prunes, starred, counted) in
      let place : (stars + count + length (exceptions_of this.star)) * size ≡ stars * size + count * size + length (exceptions_of this.star) * size = grind arith in
      ap (λ n. take (n * size) third) whole ∙ ap (λ n. take n third) place ∙ exceptions
      ∙ (λ i. (sources ∙ ap (λ bytes. bytes ++ source_entries family this.sources) star ∙ sym (joined_spelled family (star_entries (rps this.group) this.star) this.sources)) i ++ sym (pruned_spelled family this.star) i)

-- no star is told, and no exception
pub no_exceptions : (family : AddressFamily) (starred : Bool) (star : Option (List (List ℕ))) (place size : ℕ) (bytes : List ℕ) → starred ≡ false
    → take (place + length (exceptions_of (if starred then star else None)) * size) bytes ≡ take place bytes ++ exception_entries family (exceptions_of (if starred then star else None))
no_exceptions family true star place size bytes e = absurd cc
no_exceptions family false star place size bytes e = ap (λ n. take n bytes) (grind arith) ∙ sym (append-nil (take place bytes))

-- the star is told with all its exceptions
pub all_exceptions : (starred : Bool) (star : Option (List (List ℕ))) → starred ≡ true → exceptions_of star ≡ exceptions_of (if starred then star else None)
all_exceptions true star e = refl
all_exceptions false star e = absurd cc

-- ---- the set

pub set_written : (counted : ℕ → List ℕ) (family : AddressFamily) (rps : List ℕ → Option (List ℕ)) (this : GroupForm) (front entries : List ℕ) (joined pruned : ℕ)
    → joined ≡ length (written_set rps this).joined → pruned ≡ length (written_set rps this).pruned
    → length front ≡ group_length family + 4
    → front ≡ canonical_group family this.group ++ counted joined ++ counted pruned
    → take (entry_count family rps this * source_length family) entries ≡ set_entries family rps this
    → take (set_size family rps this) (front ++ entries)
    ≡ canonical_group family this.group ++ counted (length (written_set rps this).joined) ++ counted (length (written_set rps this).pruned)
    ++ flat_map (canonical_entry family) (written_set rps this).joined ++ flat_map (canonical_entry family) (written_set rps this).pruned
set_written counted family rps this front entries joined pruned joins prunes long is written =
    let size : set_size family rps this ≡ length front + entry_count family rps this * source_length family = grind (arith, long) in
    ap (λ n. take n (front ++ entries)) size ∙ take-append-add front entries (entry_count family rps this * source_length family)
    ∙ ap (λ bytes. front ++ bytes) written
    ∙ ap (λ bytes. bytes ++ set_entries family rps this) (is ∙ (λ i. canonical_group family this.group ++ counted (joins i) ++ counted (prunes i)))
    ∙ sym (append_assoc (canonical_group family this.group ++ counted (length (written_set rps this).joined) ++ counted (length (written_set rps this).pruned))
    (flat_map (canonical_entry family) (written_set rps this).joined) (flat_map (canonical_entry family) (written_set rps this).pruned))
