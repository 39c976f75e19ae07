-- What a slice of a few places takes is a number of bytes, and there is room for an entry.
use Rattle.std.proofs.Common.{◌≡◌, ◌∙◌, ℕ, ◌+◌, ◌*◌, ◌^◌, ◌<◌, ◌≤◌, Fits, w64, arith}
use prog.Memory.{capped}
use prog.Capped.{capped_is, capped_small}

-- a place of a slice whose bytes are counted
pub place_fits : (size place long : ℕ) → place < long → long * size < 2 ^ 63 → Fits w64 (place * size)
place_fits size place long within whole = grind (arith)

-- at most 64 places of at most 256 bytes
pub few_fit : (count size seen : ℕ) → seen ≡ capped size → seen ≤ 256 → count ≤ 64 → count * size < 2 ^ 63
few_fit count size seen is small few =
    let short : size < 2 ^ 63 = capped_small size (omega (arith, is, small)) in
    let same : seen ≡ size = is ∙ capped_is size (omega (arith, short)) in
    grind (arith, same, small, few)

-- one more entry behind fewer than the most has room where the most have
pub one_fits : (at count most size long : ℕ) → count < most → at + most * size ≤ long → at + count * size + size ≤ long
one_fits at count most size long fewer fits = grind (arith)

pub entry_fits : (at count most size long : ℕ) → count < most → at + most * size ≤ long → long ≤ 65000 → Fits w64 (count * size)
entry_fits at count most size long fewer fits few = let behind = one_fits at count most size long fewer fits in omega (arith, behind, few)

pub place_of_entry_fits : (at count most size long : ℕ) → count < most → at + most * size ≤ long → long ≤ 65000 → Fits w64 (at + count * size)
place_of_entry_fits at count most size long fewer fits few = let behind = one_fits at count most size long fewer fits in omega (arith, behind, few)
