-- It is an equivalence that the keys of two fragments are the same.
use Rattle.std.specs.Prelude.{◌≡◌, true, refl}
use Rattle.std.specs.Cmp.{IsEquivalence, and_equiv, on_equiv, nat_eq_equiv}
use Rattle.std.specs.Cmp.Lexicographic.{nat_list_eq_equiv}
use Rattle.pim_capture.specs.declared.interface.InterfaceChoice.{InterfaceChoice}
use Rattle.pim_capture.specs.declared.interface.InterfaceChoice.TheVariants.{Number, Name}
use Rattle.pim_capture.specs.declared.link.Link.{Link}
use Rattle.pim_capture.specs.declared.vlan.Vlan.{Vlan}
use Rattle.pim_capture.specs.Names.{text_of, is_same_name}
use Rattle.pim_container.specs.Choice.{is_same_vlan}
use Rattle.pim_merge.specs.declared.taker.FragmentKey.{FragmentKey}
use Rattle.pim_merge.specs.Slots.{same_interface, same_link}
use Rattle.pim_merge.specs.Taker.{same_key}

names_equiv : IsEquivalence is_same_name
names_equiv = on_equiv text_of nat_list_eq_equiv

interface_itself : (one : InterfaceChoice) → same_interface one one ≡ true
interface_itself (Number one) = nat_eq_equiv.refl one
interface_itself (Name one) = names_equiv.refl one

interface_back : (one other : InterfaceChoice) → same_interface one other ≡ same_interface other one
interface_back (Number one) (Number other) = nat_eq_equiv.symm one other
interface_back (Number one) (Name other) = refl
interface_back (Name one) (Number other) = refl
interface_back (Name one) (Name other) = names_equiv.symm one other

interface_alike : (one other third : InterfaceChoice) → same_interface one other ≡ true →
    same_interface one third ≡ same_interface other third
interface_alike (Number one) (Number other) (Number third) same = nat_eq_equiv.congr one other third same
interface_alike (Number one) (Number other) (Name third) same = refl
interface_alike (Number one) (Name other) third same = absurd cc
interface_alike (Name one) (Number other) third same = absurd cc
interface_alike (Name one) (Name other) (Number third) same = refl
interface_alike (Name one) (Name other) (Name third) same = names_equiv.congr one other third same

interfaces_equiv : IsEquivalence same_interface
interfaces_equiv = record { refl = interface_itself; symm = interface_back; congr = interface_alike }

vlans_equiv : IsEquivalence is_same_vlan
vlans_equiv = and_equiv (on_equiv (λ (vlan : Vlan). vlan.outer) nat_eq_equiv)
    (on_equiv (λ (vlan : Vlan). vlan.inner) nat_eq_equiv)

links_equiv : IsEquivalence same_link
links_equiv = and_equiv (on_equiv (λ (link : Link). link.vlan) vlans_equiv)
    (on_equiv (λ (link : Link). link.interface) interfaces_equiv)

pub keys_equiv : IsEquivalence same_key
keys_equiv =
    and_equiv (and_equiv (and_equiv (and_equiv (and_equiv
    (on_equiv (λ (key : FragmentKey). key.version) nat_eq_equiv)
    (on_equiv (λ (key : FragmentKey). key.source) nat_list_eq_equiv))
    (on_equiv (λ (key : FragmentKey). key.destination) nat_list_eq_equiv))
    (on_equiv (λ (key : FragmentKey). key.protocol) nat_eq_equiv))
    (on_equiv (λ (key : FragmentKey). key.identification) nat_eq_equiv))
    (on_equiv (λ (key : FragmentKey). key.link) links_equiv)
