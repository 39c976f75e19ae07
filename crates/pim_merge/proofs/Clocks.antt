-- The moment of a clock.
use Rattle.pim_merge.proofs.Words.{◌≡◌, ◌≤◌, ◌-◌, max, ℕ, Option, None, Some, refl, sym, subst, arith, common_steps}
use Rattle.pim_merge.proofs.Words.{Clock, clock_by, clock_after, moment_of}
use Rattle.std.specs.Option.{IfSome}

pub by_bound : (clock : Option Clock) (time latest : ℕ) (result : Clock) → result ≡ clock_by clock time → moment_of clock ≤ latest →
    time ≤ latest → result.moment ≤ latest
by_bound None time latest result is before now = let none : 0 ≤ latest = omega arith in subst (λ (c : Clock). c.moment ≤ latest) (sym is) none
by_bound (Some clock) time latest result is before now =
    let most : max clock.moment (time - clock.begin) ≤ latest = grind (arith, common_steps) in
    subst (λ (c : Clock). c.moment ≤ latest) (sym is) most

pub after_bound : (clock : Option Clock) (time : Option ℕ) (latest : ℕ) (result : Option Clock) → result ≡ clock_after clock time → moment_of clock ≤ latest →
    IfSome time (λ it. it ≤ latest) → moment_of result ≤ latest
after_bound clock None latest result is before now = subst (λ c. moment_of c ≤ latest) (sym is) before
after_bound clock (Some time) latest result is before now = subst (λ c. moment_of c ≤ latest) (sym is) (by_bound clock time latest (clock_by clock time) refl before now)
