-- What is written of an encoded address has no fault, and is read back.
use Rattle.pim_addr.proofs.Words.{◌≡◌, ℕ, suc, ◌+◌, Bool, true, false, eqb, ltb, List, ◌++◌, length, slice_index, refl}
use Rattle.pim_addr.proofs.Words.{sym, ap, arith, length-append, le-ltb, eq-eqb, take_at, AddressFamily, address_length}
use Rattle.pim_addr.proofs.Words.{mask_length, family_byte, canonical_unicast, canonical_group, canonical_flags}
use Rattle.pim_addr.proofs.Words.{canonical_source, ReadsUnicast, ReadsGroup, ReadsSource}
use Rattle.pim_addr.specs.Encoded.{SourceValue, IsSource, wildcard_bit, rpt_bit}

-- ---- the flags that are written hold the two bits

pub wildcard_written : (wildcard rpt : Bool) → wildcard_bit (canonical_flags wildcard rpt) ≡ wildcard
wildcard_written true true = refl
wildcard_written true false = refl
wildcard_written false true = refl
wildcard_written false false = refl

pub rpt_written : (wildcard rpt : Bool) → rpt_bit (canonical_flags wildcard rpt) ≡ rpt
rpt_written true true = refl
rpt_written true false = refl
rpt_written false true = refl
rpt_written false false = refl

pub source_spelled : (family : AddressFamily) (source : SourceValue) (bytes : List ℕ) → length source.address ≡ address_length family
    → bytes ≡ canonical_source family source → IsSource family source bytes
source_spelled family source bytes size e =
    let flags : slice_index bytes 2 ≡ canonical_flags source.wildcard source.rpt = ap (λ (xs : List ℕ). slice_index xs 2) e in
    (size, rw flags e, rw flags (sym (wildcard_written source.wildcard source.rpt)), rw flags (sym (rpt_written source.wildcard source.rpt)))

-- ---- what is written is read

is_itself : (n : ℕ) → eqb n n ≡ true
is_itself n = eq-eqb n n refl

pub unicast_back : (family : AddressFamily) (address behind : List ℕ) → length address ≡ address_length family → ReadsUnicast family address (canonical_unicast family address ++ behind)
unicast_back family address behind h =
    let long : ltb (suc (suc (length (address ++ behind)))) (2 + address_length family) ≡ false = le-ltb _ _ (omega (arith, length-append address behind, h)) in
    (rw (long, is_itself (family_byte family)) refl, take_at address behind (address_length family) h)

pub group_back : (family : AddressFamily) (address behind : List ℕ) → length address ≡ address_length family → ReadsGroup family address (canonical_group family address ++ behind)
group_back family address behind h =
    let long : ltb (suc (suc (suc (suc (length (address ++ behind)))))) (4 + address_length family) ≡ false = le-ltb _ _ (omega (arith, length-append address behind, h)) in
    (rw (long, is_itself (family_byte family), is_itself (mask_length family)) refl, take_at address behind (address_length family) h)

same_value : (a b : List ℕ) (c d e f : Bool) → a ≡ b → c ≡ d → e ≡ f → Path SourceValue (record { address = a; wildcard = c; rpt = e }) (record { address = b; wildcard = d; rpt = f })
same_value a b c d e f p q r = cc

pub source_back : (family : AddressFamily) (source : SourceValue) (behind : List ℕ) → length source.address ≡ address_length family → ReadsSource family source (canonical_source family source ++ behind)
source_back family source behind h =
    let long : ltb (suc (suc (suc (suc (length (source.address ++ behind)))))) (4 + address_length family) ≡ false = le-ltb _ _ (omega (arith, length-append source.address behind, h)) in (
      rw (long, is_itself (family_byte family), is_itself (mask_length family)) refl,
      same_value _ _ _ _ _ _ (take_at source.address behind (address_length family) h) (wildcard_written source.wildcard source.rpt) (rpt_written source.wildcard source.rpt),
    )
