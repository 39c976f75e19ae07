-- What becomes of the packet of a Hello.
use Rattle.pim_mirror.proofs.Words.{◌≡◌, ◌∙◌, ℕ, false, List, [], ◌++◌, map, ap, ap₂, arith, ◌∷◌, fault_if, AddressFamily}
use Rattle.pim_mirror.proofs.Words.{content, frame_faults, SealedOpens, FrameFault, Hello, spelling_of, AreAddresses, ReadsBack}
use Rattle.pim_mirror.proofs.Words.{hello_of, is_full, same_address, Verdict, Packet, causes, received, own_address}
use Rattle.pim_mirror.proofs.Words.{neighbours_on, unless, body_causes, hello_causes, body_heard, hello_heard, RouterState}
use Rattle.pim_mirror.proofs.Words.{Neighbour, IsHelloFrom, AreHellosFrom, IsHelloOf, AreHellosOf, WrittenHellosAreRead}
use Rattle.pim_hello.specs.Hello.{Hello as Said}
use Rattle.pim_hello.specs.declared.fault.HelloFault.{HelloFault}
use Rattle.pim_router.specs.declared.verdict.Verdict.TheVariants as verdict
use Rattle.pim_router.specs.declared.verdict.Malformed.TheVariants as malformed
use Rattle.pim_router.specs.declared.verdict.Store.TheVariants as store

module _ (family : AddressFamily) (neighbour : Neighbour) (packet : Packet) (state : RouterState) (is : IsHelloFrom family neighbour packet)
    (not_mine : same_address neighbour.address (own_address 0 state) ≡ false) (room : is_full neighbour.address neighbour.hello (neighbours_on 0 state) ≡ false) where
  mine_is : same_address packet.source (own_address packet.port state) ≡ false
  mine_is = ap₂ (λ (source : List ℕ) (port : ℕ). same_address source (own_address port state)) is.source is.port ∙ not_mine

  body_is : body_causes family packet.port packet.source state (content packet.bytes) ≡ []
  body_is =
      ap (body_causes family packet.port packet.source state) is.holds
      ∙ ap (λ (fs : List HelloFault). map (λ fault. verdict.Malformed (malformed.Hello fault)) fs ++ hello_causes packet.port packet.source state (hello_of family is.body).parameters) is.legal
      ∙ ap (hello_causes packet.port packet.source state) is.says
      ∙ ap₂ (λ (port : ℕ) (source : List ℕ). hello_causes port source state neighbour.hello) is.port is.source
      ∙ ap (λ b. fault_if b (verdict.Full store.Neighbours)) room

  causes_are : causes family packet state ≡ []
  causes_are =
      ap (λ m. (fault_if m verdict.Mine ++ map (λ fault. verdict.Malformed (malformed.Frame fault)) (frame_faults family packet.source packet.destination packet.bytes)) ++ body_causes family packet.port packet.source state (content packet.bytes)) mine_is
      ∙ ap (λ (fs : List FrameFault). map (λ fault. verdict.Malformed (malformed.Frame fault)) fs ++ body_causes family packet.port packet.source state (content packet.bytes)) is.opened
      ∙ body_is

  pub received_is : received family packet state ≡ hello_heard 0 neighbour.address state neighbour.hello
  received_is =
      ap (λ (cs : List Verdict). unless cs state (body_heard family packet.port packet.source state (content packet.bytes))) causes_are
      ∙ ap (body_heard family packet.port packet.source state) is.holds
      ∙ ap (hello_heard packet.port packet.source state) is.says
      ∙ ap₂ (λ (port : ℕ) (source : List ℕ). hello_heard port source state neighbour.hello) is.port is.source

-- ---- a Hello as it is written

said_by : Neighbour → Said
said_by neighbour = record { parameters = neighbour.hello; addresses = [] }

written_is_read : SealedOpens → ((family : AddressFamily) → ReadsBack family) → (family : AddressFamily) (neighbour : Neighbour) (packet : Packet) → IsHelloOf family neighbour packet → IsHelloFrom family neighbour packet
unfolding said_by AreAddresses
written_is_read opens reads family neighbour packet is =
    let bytes : List ℕ = spelling_of family (said_by neighbour) in
    let opened = opens family neighbour.address Hello (spelling_of family (said_by neighbour)) packet.bytes is.sealed in
    let read = reads family (said_by neighbour) (record { parameters = is.fit; addresses = tt; row = omega arith }) in
    record {
      port = is.port;
      source = is.source;
      body = spelling_of family (said_by neighbour);
      opened = ap₂ (λ (source destination : List ℕ). frame_faults family source destination packet.bytes) is.source is.destination ∙ opened.0;
      holds = opened.1;
      legal = read.0;
      says = ap (λ (said : Said). said.parameters) read.1;
    }

pub written_are_read : SealedOpens → ((family : AddressFamily) → ReadsBack family) → WrittenHellosAreRead
unfolding AreHellosOf AreHellosFrom
written_are_read opens reads family [] [] are = tt
written_are_read opens reads family [] (packet ∷ packets) are = absurd are
written_are_read opens reads family (neighbour ∷ neighbours) [] are = absurd are
written_are_read opens reads family (neighbour ∷ neighbours) (packet ∷ packets) are =
    (written_is_read opens reads family neighbour packet are.0, written_are_read opens reads family neighbours packets are.1)
