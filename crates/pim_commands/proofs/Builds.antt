-- What `build` returns and writes, from what is built of a text.
use Rattle.pim_commands.proofs.Words.{◌≡◌, ◌∙◌, sym, ap, refl, subst, inr, ℕ, ◌≤◌, List, [], ◌∷◌, ◌++◌, Option, None}
use Rattle.pim_commands.proofs.Words.{Some, Ok, Err, length, map, IfSome, Appends, Keeps, judged, AddressFamily}
use Rattle.pim_commands.proofs.Words.{AppendsFront, Content, hello, join_prune, other, content, frame_faults, faults}
use Rattle.pim_commands.proofs.Words.{hello_text, message_text, Fault, Frame, Hello, JoinPrune, Output, content_faults}
use Rattle.pim_commands.proofs.Words.{content_text, message_faults, message_report}
use Rattle.pim_hello.specs.Faults.{faults as hello_option_faults}
use Rattle.pim_text.specs.Building as of_bytes
use Rattle.pim_text.specs.Building.{Value, a_hello, a_message, IsBuilt, IsReadAs, IsRefused, text_of}
use Rattle.pim_text.specs.declared.build.fault.BuildFault.{BuildFault}
use Rattle.pim_text.specs.declared.build.fault.BuildFault.TheVariants as of_build
use Rattle.pim_faults.specs.Words.{build_fault}
use Rattle.pim_commands.specs.Building.{IsAccepted, IsRefusedBy, Explains, Builds}
use Rattle.pim_commands.proofs.Reports.{keeps_self, short_input}

-- ---- the faults of a message, as the program's

same_faults : {E : Type 0} (of : E → BuildFault) (name : E → Fault) → ((e : E) → build_fault (of e) ≡ name e) → (all : List E) (rest : List BuildFault) (others : List Fault) → map build_fault rest ≡ others
    → map build_fault (map of all ++ rest) ≡ map name all ++ others
same_faults of name same [] rest others are = are
same_faults of name same (first ∷ all) rest others are = let head = same first in let tail = same_faults of name same all rest others are in λ i. head i ∷ tail i

same_of_body : {E : Type 0} (of : E → BuildFault) (name : E → Fault) → ((e : E) → build_fault (of e) ≡ name e) → (all : List E) → map build_fault (map of all) ≡ map name all
same_of_body of name same [] = refl
same_of_body of name same (first ∷ all) = let head = same first in let tail = same_of_body of name same all in λ i. head i ∷ tail i

same_of_content : (family : AddressFamily) (held : Content) → map build_fault (of_bytes.content_faults family held) ≡ content_faults family held
same_of_content family (hello body) = same_of_body (λ e. of_build.Hello e) (λ e. Hello e) (λ e. refl) (hello_option_faults body)
same_of_content family (join_prune body) = same_of_body (λ e. of_build.JoinPrune e) (λ e. JoinPrune e) (λ e. refl) (faults family body)
same_of_content family (other kind) = refl

module _ (family : AddressFamily) (source destination : List ℕ) where
  same_of_message : (message : List ℕ) → map build_fault (of_bytes.message_faults family source destination message) ≡ message_faults family source destination message
  same_of_message message =
      same_faults (λ e. of_build.Frame e) (λ e. Frame e) (λ e. refl) (frame_faults family source destination message) (of_bytes.content_faults family (content message)) (content_faults family (content message)) (same_of_content family (content message))

  same_text : (value : Value) (held : Content) → IsReadAs family value held → content_text family held ≡ text_of family value
  same_text (a_hello value) (hello body) read = ap (hello_text family) read
  same_text (a_hello value) (join_prune body) read = absurd read
  same_text (a_hello value) (other kind) read = absurd read
  same_text (a_message value) (join_prune body) read = ap (message_text family) read
  same_text (a_message value) (hello body) read = absurd read
  same_text (a_message value) (other kind) read = absurd read

  judged_none : {E V : Type 0} (all : List E) (value : V) → all ≡ [] → judged all value ≡ Ok value
  judged_none [] value none = refl
  judged_none (first ∷ others) value none = absurd cc

  judged_first : {E V : Type 0} (all : List E) (value : V) (first : E) (others : List E) → all ≡ first ∷ others → judged all value ≡ Err first
  judged_first [] value first others is = absurd cc
  judged_first (this ∷ those) value first others is = let same : this ≡ first = cc in ap (λ (e : _). Err e) same

  -- ---- what is built of the text that was read

  module _ (all text : List ℕ) (same : all ≡ text) (limit : length all ≤ 8388608) where
    pub accepted : (message : List ℕ) → IsBuilt family source destination text message → IsAccepted family source destination all message
    accepted message built =
        let none : message_faults family source destination message ≡ [] = sym (same_of_message message) ∙ ap (map build_fault) built.accepted in
        let report : message_report family source destination message ≡ Ok (content_text family (content message)) = judged_none (message_faults family source destination message) (content_text family (content message)) none in (
          built.value,
          record { limit = limit; states = rw same built.states; bytes = built.bytes; size = built.size },
          short_input family source destination message built.size ∙ (report ∙ ap (λ (t : List ℕ). Ok t) (same_text built.value (content message) built.read)),
        )

    refused : (fault : BuildFault) → IsRefused family source destination text fault → IsRefusedBy family source destination all (build_fault fault)
    refused fault is =
        let first : message_faults family source destination is.message ≡ build_fault fault ∷ map build_fault is.others = sym (same_of_message is.message) ∙ ap (map build_fault) is.refused in
        let report = judged_first (message_faults family source destination is.message) (content_text family (content is.message)) (build_fault fault) (map build_fault is.others) first in (
          is.value,
          is.message,
          record { limit = limit; states = rw same is.states; bytes = is.bytes; size = is.size },
          short_input family source destination is.message is.size ∙ report,
        )

    pub not_built : (fault : BuildFault) (old new : Option (List ℕ)) → Keeps old new → of_bytes.IsBuildFault family source destination text fault → Explains family source destination all old new (build_fault fault)
    not_built of_build.Read old new kept is = absurd is
    not_built of_build.TooLong old new kept is = (inr (rw same is), kept)
    not_built (of_build.Line number) old new kept is = (rw same is, kept)
    not_built of_build.Family old new kept is = (rw same is, kept)
    not_built (of_build.Frame fault) old new kept is = (refused (of_build.Frame fault) is, kept)
    not_built (of_build.Hello fault) old new kept is = (refused (of_build.Hello fault) is, kept)
    not_built (of_build.JoinPrune fault) old new kept is = (refused (of_build.JoinPrune fault) is, kept)
    not_built of_build.Memory old new kept is = kept

  -- ---- what is returned and written of an input

  module _ (known : Option (List ℕ)) (read lent : List ℕ) (whole : IfSome known (λ all. (all ≡ read) × (length all ≤ 8388608))) (same : lent ≡ read) where
    pub refused_input : (written : Option (List ℕ)) (fault : BuildFault) → of_bytes.IsBuildFault family source destination lent fault
        → IfSome known (λ input. Explains family source destination input written written (build_fault fault))
    refused_input written fault is = by known whole
      where
        by : (known : Option (List ℕ)) → IfSome known (λ all. (all ≡ read) × (length all ≤ 8388608)) → IfSome known (λ input. Explains family source destination input written written (build_fault fault))
        by None whole = tt
        by (Some all) whole = not_built all lent (whole.0 ∙ sym same) whole.1 fault written written (keeps_self written) is

    module _ (message sent : List ℕ) (built : IsBuilt family source destination lent message) (same_bytes : sent ≡ message) (old new : Option (List ℕ)) where
      pub written_whole : Appends old new sent → IfSome known (λ input. Builds family source destination input old new (Ok 0))
      written_whole appends = by known whole
        where
          by : (known : Option (List ℕ)) → IfSome known (λ all. (all ≡ read) × (length all ≤ 8388608)) → IfSome known (λ input. Builds family source destination input old new (Ok 0))
          by None whole = tt
          by (Some all) whole = (refl, (message, accepted all lent (whole.0 ∙ sym same) whole.1 message built, subst (λ (bytes : List ℕ). Appends old new bytes) same_bytes appends))

      pub written_front : AppendsFront old new sent → IfSome known (λ input. Builds family source destination input old new (Err Output))
      written_front front = by known whole
        where
          by : (known : Option (List ℕ)) → IfSome known (λ all. (all ≡ read) × (length all ≤ 8388608)) → IfSome known (λ input. Builds family source destination input old new (Err Output))
          by None whole = tt
          by (Some all) whole = (message, accepted all lent (whole.0 ∙ sym same) whole.1 message built, subst (λ (bytes : List ℕ). AppendsFront old new bytes) same_bytes front)
