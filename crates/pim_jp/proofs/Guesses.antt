-- Where a search for two numbers may go on.
use Rattle.pim_jp.proofs.Words.{◌≡◌, ◌∙◌, ap, ℕ, ◌+◌, ◌-◌, ◌*◌, ◌%◌, ◌^◌, ◌≤◌, ◌<◌, Bool, true, false, min, arith}
use Rattle.pim_jp.proofs.Words.{from_bool, one-mul, mod-eq_of_lt, pow-le-pow_right}
use Rattle.std.proofs.Math.Pow.{pow-lt}

one_shifted : (shift : ℕ) → shift < 64 → 1 * 2 ^ shift % 2 ^ 64 ≡ 2 ^ shift
one_shifted shift few = ap (λ n. n % 2 ^ 64) (one-mul (2 ^ shift)) ∙ mod-eq_of_lt (pow-lt few)

-- a search begins at the front, or as far from the end as a power of two is long
pub starts_within : (size shift over : ℕ) (less : Bool) → shift < 64 → 2 ^ shift ≤ size → over ≡ size - 1 * 2 ^ shift % 2 ^ 64
    → over * from_bool less + 2 ^ min shift 12 ≤ size
starts_within size shift over true few least is =
    let short : 2 ^ min shift 12 ≤ 2 ^ shift = pow-le-pow_right (omega arith) (omega arith) in
    omega (arith, short, least, is, one_shifted shift few)
starts_within size shift over false few least is =
    let short : 2 ^ min shift 12 ≤ 2 ^ shift = pow-le-pow_right (omega arith) (omega arith) in
    omega (arith, short, least)
