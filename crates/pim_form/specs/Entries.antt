-- The encoding of a source as an entry of a Join/Prune message (RFC 7761, 4.9.1).
use Rattle.std.specs.Prelude.{ℕ, List}
use Rattle.pim_addr.specs.declared.family.AddressFamily.{AddressFamily}
use Rattle.pim_jp.specs.declared.entry.Entry.TheVariants.{Source, Rpt}
use Rattle.pim_jp.specs.Canonical.{canonical_entry}

-- The canonical encoded source address of an (S,G) entry.
abbrev pub canonical_source_entry : AddressFamily → List ℕ → List ℕ
canonical_source_entry family source = canonical_entry family (Source source)

-- The canonical encoded source address of an (S,G,rpt) entry.
abbrev pub canonical_rpt_entry : AddressFamily → List ℕ → List ℕ
canonical_rpt_entry family source = canonical_entry family (Rpt source)
