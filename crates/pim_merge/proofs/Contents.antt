-- What a record holds, by the addresses of its packet.
use Rattle.pim_merge.proofs.Words.{◌≡◌, ◌∙◌, ℕ, Bool, true, false, if◌then◌else◌, List, Option, None, Some, sym, ap}
use Rattle.pim_merge.proofs.Words.{refl, option_map, AddressFamily, is_same, Datagram, holds, of_other_family}
use Rattle.pim_merge.proofs.Words.{datagram_in, ends_seen, ends_in}
use Rattle.pim_merge.specs.declared.content.ContentEnds.{ContentEnds}

abbrev Pair : Type 0
Pair = List ℕ × List ℕ

abbrev there_if : Bool → Pair → Option Pair
there_if b ends = if b then Some ends else None

module _ {A : Type 0} (bytes_of : A → List ℕ) (family : AddressFamily) (datagram : Datagram) (ends : Option (ContentEnds A))
    (is : option_map (ends_seen bytes_of) ends ≡ ends_in family datagram) where
  -- a packet of the other family
  pub of_other : ends ≡ None → of_other_family ≡ datagram_in family datagram
  of_other none = by (is_same family datagram.family) (ap (option_map (ends_seen bytes_of)) (sym none) ∙ is)
    where
      by : (b : Bool) → None ≡ there_if b (datagram.source, datagram.destination) →
          of_other_family
          ≡ (if b then holds datagram.source datagram.destination datagram.payload else of_other_family)
      by true e = absurd cc
      by false e = refl

  -- a packet of the router's family
  pub of_family : (two : ContentEnds A) (bytes : List ℕ) → ends ≡ Some two → bytes ≡ datagram.payload →
      holds (bytes_of two.source) (bytes_of two.destination) bytes ≡ datagram_in family datagram
  of_family two bytes there same =
      by (is_same family datagram.family) (ap (option_map (ends_seen bytes_of)) (sym there) ∙ is)
    where
      by : (b : Bool) → there_if true (bytes_of two.source, bytes_of two.destination)
          ≡ there_if b (datagram.source, datagram.destination) →
          holds (bytes_of two.source) (bytes_of two.destination) bytes
          ≡ (if b then holds datagram.source datagram.destination datagram.payload else of_other_family)
      by true e =
          let both : ◌≡◌ {A = Pair} (bytes_of two.source, bytes_of two.destination)
          (datagram.source, datagram.destination) = cc in
          λ i. holds (both i).0 (both i).1 (same i)
      by false e = absurd cc
