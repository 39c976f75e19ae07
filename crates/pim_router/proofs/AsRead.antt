-- A packet is taken as what its message reads as.
use Rattle.pim_router.proofs.Words.{◌≡◌, ◌∙◌, ◌↔◌, ℕ, Bool, true, false, not, nat_eq, nat_lt, List, [], ◌∷◌, ◌++◌, map, Result}
use Rattle.pim_router.proofs.Words.{Ok, Err, refl, sym, ap, subst, IsTrue, OnErr, pointwise, false≢true, fault_if, judged}
use Rattle.pim_router.proofs.Words.{AddressFamily, Hello, needs_no_memory, Message, message_of, Verdict, Packet, Receives, causes}
use Rattle.pim_router.proofs.Words.{received, unless, own_address, neighbours_on, body_causes, body_heard, may_grow, new_by}
use Rattle.pim_router.proofs.Words.{hello_causes, hello_heard, message_causes, message_heard, Reading, hello_by, message_by}
use Rattle.pim_router.proofs.Words.{read_by, packet_read, message_refusals, read_causes, read_taken, read_received, read_may_grow}
use Rattle.pim_router.proofs.Words.{IsTakenAsRead, RouterState}
use Rattle.pim_frame.specs.Frame.{Content, hello, join_prune, other, content, frame_faults}
use Rattle.pim_frame.specs.declared.frame.FrameFault.{FrameFault}
use Rattle.pim_hello.specs.Faults.{faults as hello_faults}
use Rattle.pim_hello.specs.declared.fault.HelloFault.{HelloFault}
use Rattle.pim_hello.specs.Value.{hello_of}
use Rattle.pim_jp.specs.Faults.{faults as join_prune_faults}
use Rattle.pim_jp.specs.declared.fault.JpFault.{JpFault}
use Rattle.pim_router.specs.declared.verdict.Verdict.TheVariants as verdict
use Rattle.pim_router.specs.declared.verdict.Malformed.TheVariants as malformed

module _ (family : AddressFamily) (port : ℕ) (source : List ℕ) (state : RouterState) where
  -- these causes, this end and this need of memory are those of what was read
  record Agrees (reported : List Verdict) (taken : Verdict × RouterState) (may : Bool) (reading : Reading) : Type 0 where
    refused : (message_refusals family port source state reading ≡ []) ↔ (reported ≡ [])
    same : unless (message_refusals family port source state reading) state (read_taken family port source state reading) ≡ unless reported state taken
    grows : IsTrue (read_may_grow family port source state reading) → IsTrue may

  by_hello : (faults : List HelloFault) (said : Hello) →
      Agrees (map (λ fault. verdict.Malformed (malformed.Hello fault)) faults ++ hello_causes port source state said.parameters)
      (hello_heard port source state said.parameters) (not (needs_no_memory source said.parameters (neighbours_on port state))) (hello_by (judged faults said))
  by_hello [] said = record { refused = (λ e. e, λ e. e); same = refl; grows = λ g. g }
  by_hello (fault ∷ faults) said = record { refused = (λ e. absurd cc, λ e. absurd cc); same = refl; grows = λ g. absurd (false≢true g) }

  by_message : (faults : List JpFault) (message : Message) →
      Agrees (map (λ fault. verdict.Malformed (malformed.JoinPrune fault)) faults ++ message_causes family port source state message)
      (message_heard family port state message) (nat_lt 0 (new_by family port message state)) (message_by (judged faults message))
  by_message [] message = record { refused = (λ e. e, λ e. e); same = refl; grows = λ g. g }
  by_message (fault ∷ faults) message = record { refused = (λ e. absurd cc, λ e. absurd cc); same = refl; grows = λ g. absurd (false≢true g) }

  by_frame : (faults : List FrameFault) (body : Content) →
      Agrees (map (λ fault. verdict.Malformed (malformed.Frame fault)) faults ++ body_causes family port source state body)
      (body_heard family port source state body) (may_grow family port source state body) (read_by family (judged faults body))
  by_frame [] (other type) = record { refused = (λ e. e, λ e. e); same = refl; grows = λ g. g }
  by_frame [] (hello body) = by_hello (hello_faults body) (hello_of family body)
  by_frame [] (join_prune body) = by_message (join_prune_faults family body) (message_of family body)
  by_frame (fault ∷ faults) body = record { refused = (λ e. absurd cc, λ e. absurd cc); same = refl; grows = λ g. absurd (false≢true g) }

  -- the port's own address comes first
  own_refused : (mine : Bool) (reported more : List Verdict) → (reported ≡ []) ↔ (more ≡ []) →
      (fault_if mine verdict.Mine ++ reported ≡ []) ↔ (fault_if mine verdict.Mine ++ more ≡ [])
  own_refused true reported more both = (λ e. absurd cc, λ e. absurd cc)
  own_refused false reported more both = both

  own_same : (mine : Bool) (reported more : List Verdict) (taken end : Verdict × RouterState) → unless reported state taken ≡ unless more state end →
      unless (fault_if mine verdict.Mine ++ reported) state taken ≡ unless (fault_if mine verdict.Mine ++ more) state end
  own_same true reported more taken end same = refl
  own_same false reported more taken end same = same

pub taken_as_read : (family : AddressFamily) (packet : Packet) (state : RouterState) → IsTakenAsRead family packet state
taken_as_read family packet state =
    let agrees = by_frame family packet.port packet.source state (frame_faults family packet.source packet.destination packet.bytes) (content packet.bytes) in
    let mine : Bool = pointwise nat_eq packet.source (own_address packet.port state) in
    let reported = message_refusals family packet.port packet.source state (packet_read family packet) in
    let more : List Verdict = map (λ fault. verdict.Malformed (malformed.Frame fault)) (frame_faults family packet.source packet.destination packet.bytes)
    ++ body_causes family packet.port packet.source state (content packet.bytes) in
    let whole : fault_if mine verdict.Mine ++ more ≡ causes family packet state = own_first mine _ _ in
    record {
      refused = subst (λ all. (read_causes family packet.port packet.source state (packet_read family packet) ≡ []) ↔ (all ≡ [])) whole
          (own_refused family packet.port packet.source state mine reported more agrees.refused);
      received_is = own_same family packet.port packet.source state mine reported more _ _ agrees.same
          ∙ ap (λ all. unless all state (body_heard family packet.port packet.source state (content packet.bytes))) whole;
      grows = agrees.grows;
    }
  where
    own_first : (mine : Bool) (frames bodies : List Verdict) →
        fault_if mine verdict.Mine ++ (frames ++ bodies) ≡ fault_if mine verdict.Mine ++ frames ++ bodies
    own_first true frames bodies = refl
    own_first false frames bodies = refl

-- a call that takes what was read takes the packet
pub as_packet : {E : Type 0} (family : AddressFamily) (packet : Packet) (state : RouterState) → IsTakenAsRead family packet state → (reading : Reading) → reading ≡ packet_read family packet →
    (answer : Result Verdict E) (new : RouterState) →
    Receives (read_causes family packet.port packet.source state reading) (read_received family packet.port packet.source state reading) state answer new →
    Receives (causes family packet state) (received family packet state) state answer new
as_packet family packet state law reading is (Ok reported) new takes =
    takes ∙ (ap (read_received family packet.port packet.source state) is ∙ law.received_is)
as_packet family packet state law reading is (Err refused) new takes = (
  law.refused.0 (ap (read_causes family packet.port packet.source state) (sym is) ∙ takes.0),
  takes.1,
)

pub packet_wants : {E : Type 0} (family : AddressFamily) (packet : Packet) (state : RouterState) → IsTakenAsRead family packet state → (reading : Reading) → reading ≡ packet_read family packet →
    (answer : Result Verdict E) → OnErr answer (IsTrue (read_may_grow family packet.port packet.source state reading)) →
    OnErr answer (IsTrue (may_grow family packet.port packet.source state (content packet.bytes)))
packet_wants family packet state law reading is (Ok reported) wants = tt
packet_wants family packet state law reading is (Err refused) wants =
    law.grows (subst (λ r. IsTrue (read_may_grow family packet.port packet.source state r)) is wants)
