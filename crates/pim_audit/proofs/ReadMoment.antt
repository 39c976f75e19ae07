-- A message that is taken leaves the router at its moment.
use Rattle.std.proofs.Common.{◌≡◌, ◌∙◌, ℕ, List, [], ◌∷◌, refl, ap}
use Rattle.pim_addr.specs.declared.family.AddressFamily.{AddressFamily}
use Rattle.pim_router.specs.declared.verdict.Verdict.{Verdict}
use Rattle.pim_router.specs.Packets.{unless}
use Rattle.pim_router.specs.Reading.{Reading, read_hello, read_message, read_other, read_fault, read_causes, read_taken, read_received}
use Rattle.pim_router.specs.State.{RouterState}

unless_moment : (causes : List Verdict) (router : RouterState) (taken : Verdict × RouterState)
    → taken.1.machines.moment ≡ router.machines.moment → (unless causes router taken).1.machines.moment ≡ router.machines.moment
unless_moment [] router taken same = same
unless_moment (cause ∷ causes) router taken same = refl

taken_moment : (family : AddressFamily) (port : ℕ) (source : List ℕ) (router : RouterState) (reading : Reading)
    → (read_taken family port source router reading).1.machines.moment ≡ router.machines.moment
taken_moment family port source router (read_hello said) = refl
taken_moment family port source router (read_message message) = refl
taken_moment family port source router (read_other type) = refl
taken_moment family port source router (read_fault fault) = refl

pub received_moment : (family : AddressFamily) (port : ℕ) (source : List ℕ) (router after : RouterState) (reading : Reading)
    (verdict : Verdict) → (verdict, after) ≡ read_received family port source router reading
    → after.machines.moment ≡ router.machines.moment
received_moment family port source router after reading verdict is =
    ap (λ (p : Verdict × RouterState). p.1.machines.moment) is
    ∙ unless_moment (read_causes family port source router reading) router (read_taken family port source router reading)
    (taken_moment family port source router reading)
