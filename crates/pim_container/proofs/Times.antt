-- Time stamps of resolutions that are finer than all that 64 bits can count in milliseconds.
use Rattle.pim_container.proofs.Words.{◌≡◌, ℕ, ◌*◌, ◌^◌, ◌<◌, ◌≤◌, sym, arith, common_steps, units_of, stamp_millis}
use Rattle.std.proofs.Math.Nat.{pow-le-pow_right, div-eq_of_lt}

tens : (n : ℕ) → n < 128 → units_of n ≡ 10 ^ n
tens n b = grind (arith, common_steps)

pub fine : (resolution stamp : ℕ) → 23 ≤ resolution → resolution < 128 → stamp < 2 ^ 64 → 0 ≡ stamp_millis resolution stamp
fine resolution stamp h b s =
    let more : 10 ^ 23 ≤ 10 ^ resolution = pow-le-pow_right {n = 10} (omega arith) h in
    let less : stamp * 1000 < 10 ^ resolution = omega (arith, more) in
    let less' : stamp * 1000 < units_of resolution = rw (tens resolution b) less in
    sym (div-eq_of_lt less')
