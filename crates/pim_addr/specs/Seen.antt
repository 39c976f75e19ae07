-- What contracts see of a `SourceAddress`.
use Rattle.std.specs.Prelude.{ℕ, List}
use Rattle.pim_addr.specs.Encoded.{SourceValue, wildcard_bit, rpt_bit}
use Rattle.pim_addr.specs.declared.encoded.SourceAddress.{SourceAddress}

-- The value of a `SourceAddress`: the bytes of its address, and its W and R bits.
abbrev pub source_seen : {A : Type 0} → (A → List ℕ) → SourceAddress A → SourceValue
source_seen bytes_of source = record {
  address = bytes_of source.address;
  wildcard = wildcard_bit source.bits.0;
  rpt = rpt_bit source.bits.0;
}

-- The flags byte that the `SourceAddress` keeps.
abbrev pub bits_kept : {A : Type 0} → SourceAddress A → ℕ
bits_kept source = source.bits.0
