-- What the PIM message of a packet says, or its first fault.
use Rattle.std.specs.Prelude.{ℕ, List, Result, Ok, Err}
use Rattle.pim_addr.specs.declared.family.AddressFamily.{AddressFamily}
use Rattle.pim_addr.specs.Faults.{judged}
use Rattle.pim_frame.specs.declared.frame.FrameFault.{FrameFault}
use Rattle.pim_frame.specs.Frame as frame
use Rattle.pim_hello.specs.Faults as hello_body
use Rattle.pim_hello.specs.Hello.{Parameters}
use Rattle.pim_hello.specs.Value.{hello_of}
use Rattle.pim_jp.specs.Faults as jp_body
use Rattle.pim_jp.specs.Message.{Message, message_of}
use Rattle.pim_summary.specs.declared.facts.HelloFacts.{HelloFacts}
use Rattle.pim_summary.specs.declared.facts.Malformed.{Malformed}
use Rattle.pim_summary.specs.declared.facts.Malformed.TheVariants.{Frame, Hello, JoinPrune}

-- What a message without a fault says: a Hello its options, a Join/Prune all. Of another one
-- nothing is read.
pub data Said : Type 0 where
  hello : HelloFacts → Said
  join_prune : AddressFamily → Message → Said
  nothing : Said

-- The options of a Hello that a summary shows.
abbrev pub facts_of : Parameters → HelloFacts
facts_of parameters = record {
  holdtime = parameters.holdtime;
  priority = parameters.priority;
  generation = parameters.generation;
}

-- A result, with its value and its fault seen as these functions give them.
abbrev pub seen_as : {A B E D : Type 0} → (A → B) → (E → D) → Result A E → Result B D
seen_as value fault (Ok it) = Ok (value it)
seen_as value fault (Err it) = Err (fault it)

-- What the body of a message says, or its first fault.
abbrev pub body_said : AddressFamily → frame.Content → Result Said Malformed
body_said family (frame.hello body) =
    seen_as (λ it. hello (facts_of it.parameters)) Hello (judged (hello_body.faults body) (hello_of
    family body))
body_said family (frame.join_prune body) =
    seen_as (join_prune family) JoinPrune (judged (jp_body.faults family body) (message_of family
    body))
body_said family (frame.other type) = Ok nothing

-- The same, unless the header has a fault.
abbrev pub opened_said : AddressFamily → Result frame.Content FrameFault → Result Said Malformed
opened_said family (Ok content) = body_said family content
opened_said family (Err fault) = Err (Frame fault)

-- What the message of a packet says, or its first fault.
abbrev pub said_in : AddressFamily → List ℕ → List ℕ → List ℕ → Result Said Malformed
said_in family source destination payload =
    opened_said family (judged (frame.frame_faults family source destination payload)
    (frame.content payload))
