-- Neighbours whose numbers are in their ranges have Hellos.
use Rattle.pim_mirror.proofs.Words.{List, [], ◌∷◌, refl, AllByRecursion, AddressFamily, all_routers, SomeMessageIsSealed, Hello}
use Rattle.pim_mirror.proofs.Words.{spelling_of, ParametersFit, Packet, Neighbour, IsHelloOf, AreHellosOf, NeighboursHaveHellos}

abbrev InRange : Neighbour → Type 0
InRange neighbour = ParametersFit neighbour.hello

module _ (seal : SomeMessageIsSealed) (family : AddressFamily) where
  some_hello : (neighbour : Neighbour) → InRange neighbour → (packet : Packet) × IsHelloOf family neighbour packet
  some_hello neighbour fit =
      let message = seal family neighbour.address (all_routers family) Hello (spelling_of family (record { parameters = neighbour.hello; addresses = [] })) in (
        record { port = 0; source = neighbour.address; destination = all_routers family; bytes = message.0 },
        record { port = refl; source = refl; destination = refl; fit = fit; sealed = message.1 },
      )

  some_hellos : (neighbours : List Neighbour) → AllByRecursion InRange neighbours → (packets : List Packet) × AreHellosOf family neighbours packets
  unfolding AreHellosOf
  some_hellos [] all = ([], tt)
  some_hellos (neighbour ∷ neighbours) all =
      let first = some_hello neighbour all.0 in
      let others = some_hellos neighbours all.1 in
      (first.0 ∷ others.0, (first.1, others.1))

in_range : (family : AddressFamily) (neighbours : List Neighbour) (packets : List Packet) → AreHellosOf family neighbours packets → AllByRecursion InRange neighbours
unfolding AreHellosOf
in_range family [] packets are = tt
in_range family (neighbour ∷ neighbours) [] are = absurd are
in_range family (neighbour ∷ neighbours) (packet ∷ packets) are = (are.0.fit, in_range family neighbours packets are.1)

pub neighbours_have_hellos : SomeMessageIsSealed → NeighboursHaveHellos
neighbours_have_hellos seal family neighbours = (λ hellos. in_range family neighbours hellos.0 hellos.1, some_hellos seal family neighbours)
