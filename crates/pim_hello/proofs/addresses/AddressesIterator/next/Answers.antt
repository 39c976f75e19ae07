use Rattle.pim_hello.proofs.Words.{◌∷◌, rules, arith, sym, ap, ◌∙◌, length, List, ℕ, addresses_of}
use Rattle.pim_hello.proofs.Rows.{address_more, address_passed}
use Rattle.pim_hello.proofs.addresses.AddressesIterator.next.Goals as goal

pub returns-in-Ok-clause-steps : goal.returns-in-Ok-clause-steps
returns-in-Ok-clause-steps g c =
    let more = address_more g.F.Family.bytes_of g.F.Family.family c.loop-size.self.row.now c.in-Some.size c.in-Ok.address (sym c.in-Some.ensures) c.in-Ok.ensures.answer in
    let back = ap (addresses_of g.F.Family.family) c.split_at.ensures.back in
    sym c.loop-size.invariant ∙ more ∙ ap (λ (others : List (List ℕ)). g.F.Family.bytes_of c.in-Ok.address ∷ others) (sym back)

pub returns-in-Ok-clause-goes : goal.returns-in-Ok-clause-goes
returns-in-Ok-clause-goes g c =
    let count = ap length (returns-in-Ok-clause-steps g c) in
    record { on = λ _. (tt, search rules, omega (arith, count)); keeps = search rules; rests = search rules }

pub loop-size-preserved : goal.loop-size-preserved
loop-size-preserved g c =
    let passed = address_passed g.F.Family.family c.loop-size.self.row.now c.in-Some.size _ (sym c.in-Some.ensures) c.in_default-address.ensures.answer in
    let back = ap (addresses_of g.F.Family.family) c.split_at.ensures.back in
    back ∙ sym passed ∙ c.loop-size.invariant
