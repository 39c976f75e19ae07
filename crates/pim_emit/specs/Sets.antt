-- What is written of a piece of a group: a set of a Join/Prune message (RFC 7761, 4.9.5).
use Rattle.std.specs.Prelude.{◌≡◌, ℕ, ◌+◌, List, ◌++◌, length, take, drop, min, option_map, Option}
use Rattle.std.specs.List.{flat_map}
use Rattle.pim_addr.specs.declared.family.AddressFamily.{AddressFamily}
use Rattle.pim_jp.specs.declared.entry.Entry.TheVariants.{Source, Rpt}
use Rattle.pim_jp.specs.Canonical.{canonical_entry, canonical_set_length}
use Rattle.pim_form.specs.Messages.{written_set}
use Rattle.pim_form.specs.NormalForm.{GroupForm}
use Rattle.pim_emit.specs.declared.piece.Piece.{Piece}
use Rattle.pim_emit.specs.declared.set.WrittenSources.{WrittenSources}
use Rattle.pim_emit.specs.Left.{above, sources_in, piece_form}

-- ---- entries, one after the other

-- The bytes of the sources as (S,G) entries, one after the other.
abbrev pub source_entries : AddressFamily → List (List ℕ) → List ℕ
source_entries family sources = flat_map (λ source. canonical_entry family (Source source)) sources

-- The bytes of the exceptions as (S,G,rpt) entries, one after the other.
abbrev pub exception_entries : AddressFamily → List (List ℕ) → List ℕ
exception_entries family exceptions = flat_map (λ source. canonical_entry family (Rpt source)) exceptions

module _ (family : AddressFamily) (rps : List ℕ → Option (List ℕ)) (this : GroupForm) where
  -- The bytes of the entries of a set, the joined ones before the pruned ones.
  abbrev pub set_entries : List ℕ
  set_entries = flat_map (canonical_entry family) (written_set rps this).joined
      ++ flat_map (canonical_entry family) (written_set rps this).pruned

  -- The number of entries of a set.
  abbrev pub entry_count : ℕ
  entry_count = length (written_set rps this).joined + length (written_set rps this).pruned

  -- The size of a set, in bytes.
  abbrev pub set_size : ℕ
  set_size = canonical_set_length family (length (written_set rps this).joined) (length (written_set rps this).pruned)

-- ---- the part of a piece that is written

-- A piece with its first `count` sources.
abbrev pub cut_piece : ℕ → Piece (List ℕ) → List GroupForm → GroupForm
cut_piece count piece form = record {
  group = piece.group;
  star = (piece_form piece form).star;
  sources = take count (piece_form piece form).sources;
}

-- All sources of the piece are written, or as many as `most`. Those after the last one are left.
pub record AreWritten (piece : Piece (List ℕ)) (form : List GroupForm) (most : ℕ) (reported : WrittenSources (List ℕ))
    : Type 0 where
  pub count : reported.count ≡ min most (length (piece_form piece form).sources)
  pub left : above reported.last (sources_in piece.group form) ≡ drop reported.count (piece_form piece form).sources

-- What contracts see of the sources that are written.
abbrev pub sources_seen : {A : Type 0} → (A → List ℕ) → WrittenSources A → WrittenSources (List ℕ)
sources_seen bytes_of reported = record { count = reported.count; last = option_map bytes_of reported.last }
