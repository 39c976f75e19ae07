-- How the report of a message becomes that of an input.
use Rattle.pim_commands.proofs.Words.{◌≡◌, ℕ, ◌≤◌, List, [], ◌∷◌, ◌++◌, length, map, Option, None, Some, Result, Ok, Err, refl}
use Rattle.pim_commands.proofs.Words.{sym, subst, ap, ◌∙◌, IfSome, IfOk, Keeps, AddressFamily, judged, Content, hello, join_prune}
use Rattle.pim_commands.proofs.Words.{content, frame_faults, faults, message_text, hello_text, Fault, Words, File, Unopened}
use Rattle.pim_commands.proofs.Words.{RoutesTooLong, RoutesRead, RoutesLine, LocalTooLong, LocalRead, LocalLine, Capture, InFile, TooBig, Full, Frame, Hello}
use Rattle.pim_commands.proofs.Words.{JoinPrune, InputTooLong, InputRead, Output, Memory, TextTooLong, TextLine, TextFamily}
use Rattle.pim_commands.proofs.Words.{content_faults, content_text, body_report, hello_report, message_report, input_report}
use Rattle.pim_commands.proofs.Words.{Explains, IsMessageFault, IsStated, Reports}
use Rattle.std.proofs.lemmas.Bool.{le-ltb}
use Rattle.pim_frame.specs.declared.frame.FrameFault.{FrameFault}
use Rattle.pim_hello.specs.Hello as of_hello
use Rattle.pim_hello.specs.Value.{hello_of}
use Rattle.pim_hello.specs.Faults.{faults as hello_option_faults}
use Rattle.pim_hello.specs.declared.fault.HelloFault.{HelloFault}
use Rattle.pim_jp.specs.Message.{Message, message_of}
use Rattle.pim_jp.specs.Canonical.{IsMessage}
use Rattle.pim_jp.specs.declared.fault.JpFault.{JpFault}
use Rattle.pim_text.specs.Laws.{MessageTextStates}
use Rattle.pim_text.specs.Read.{States}
use Rattle.pim_text.specs.Value.{message_in}

-- the faults of a body are told as those of its message

first_told : {E V : Type 0} (name : E → Fault) (all : List E) (value : V) (text : List ℕ) (fault : E) → judged all value ≡ Err fault → judged (map name all) text ≡ Err (name fault)
first_told name [] value text fault reported = absurd cc
first_told name (first ∷ others) value text fault reported = let same : first ≡ fault = cc in ap (λ f. Err (name f)) same

none_told : {E V : Type 0} (name : E → Fault) (text_of : V → List ℕ) (all : List E) (value given : V) → judged all value ≡ Ok given → judged (map name all) (text_of value) ≡ Ok (text_of given)
none_told name text_of [] value given reported = let same : value ≡ given = cc in ap (λ v. Ok (text_of v)) same
none_told name text_of (first ∷ others) value given reported = absurd cc

-- an input that isn't too long is looked at as a message
pub short_input : (family : AddressFamily) (source destination input : List ℕ) → length input ≤ 65536 → input_report family source destination input ≡ message_report family source destination input
short_input family source destination input short = rw (le-ltb _ _ short) refl

-- a message that isn't reported, with nothing written
pub unreported : (report : Result (List ℕ) Fault) (old new : Option (List ℕ)) (fault : Fault) → Keeps old new → IsMessageFault report fault → Explains report old new fault
unreported report old new (Frame fault) kept cause = (cause, kept)
unreported report old new (Hello fault) kept cause = (cause, kept)
unreported report old new (JoinPrune fault) kept cause = (cause, kept)
unreported report old new Memory kept cause = kept
unreported report old new (Words why) kept cause = absurd cause
unreported report old new InputRead kept cause = absurd cause
unreported report old new InputTooLong kept cause = absurd cause
unreported report old new TextTooLong kept cause = absurd cause
unreported report old new (TextLine number) kept cause = absurd cause
unreported report old new TextFamily kept cause = absurd cause
unreported report old new Output kept cause = absurd cause
unreported report old new (File word) kept cause = absurd cause
unreported report old new (Unopened file why) kept cause = absurd cause
unreported report old new RoutesTooLong kept cause = absurd cause
unreported report old new RoutesRead kept cause = absurd cause
unreported report old new (RoutesLine number) kept cause = absurd cause
unreported report old new LocalTooLong kept cause = absurd cause
unreported report old new LocalRead kept cause = absurd cause
unreported report old new (LocalLine number) kept cause = absurd cause
unreported report old new (Capture why) kept cause = absurd cause
unreported report old new (InFile why file number) kept cause = absurd cause
unreported report old new (TooBig group) kept cause = absurd cause
unreported report old new (Full needed) kept cause = absurd cause

pub keeps_self : (known : Option (List ℕ)) → Keeps known known
keeps_self None = tt
keeps_self (Some bytes) = refl

-- an answer that refuses the message which the input is
pub refused : (known written : Option (List ℕ)) (family : AddressFamily) (source destination input message : List ℕ) (result : Result ℕ Fault) (fault : Fault) → result ≡ Err fault
    → IfSome known (λ all. (all ≡ input) × (length all ≤ 65536)) → message ≡ input → IsMessageFault (message_report family source destination message) fault
    → IfSome known (λ all. Reports (input_report family source destination all) written written result)
refused None written family source destination input message result fault is_fault whole same cause = tt
refused (Some all) written family source destination input message result fault is_fault whole same cause =
    let is_message : input_report family source destination all ≡ message_report family source destination message =
    short_input family source destination all whole.1 ∙ ap (message_report family source destination) (whole.0 ∙ sym same) in
    rw (is_fault, is_message) (unreported (message_report family source destination message) written written fault (keeps_self written) cause)

-- ---- the report of a body

pub told_fault : (family : AddressFamily) (body : List ℕ) (fault : JpFault) → judged (faults family body) (message_of family body) ≡ Err fault → body_report family body ≡ Err (JoinPrune fault)
told_fault family body fault = first_told JoinPrune (faults family body) (message_of family body) (message_text family (message_of family body)) fault

pub written_text : (family : AddressFamily) (body : List ℕ) (message : Message) → judged (faults family body) (message_of family body) ≡ Ok message → body_report family body ≡ Ok (message_text family message)
written_text family body message = none_told JoinPrune (message_text family) (faults family body) (message_of family body) message

pub told_hello_fault : (family : AddressFamily) (body : List ℕ) (fault : HelloFault) → judged (hello_option_faults body) (hello_of family body) ≡ Err fault → hello_report family body ≡ Err (Hello fault)
told_hello_fault family body fault = first_told Hello (hello_option_faults body) (hello_of family body) (hello_text family (hello_of family body)) fault

pub told_hello : (family : AddressFamily) (body : List ℕ) (value : of_hello.Hello) → judged (hello_option_faults body) (hello_of family body) ≡ Ok value → hello_report family body ≡ Ok (hello_text family value)
told_hello family body value = none_told Hello (hello_text family) (hello_option_faults body) (hello_of family body) value

-- ---- the report of a message whose header is sound

framed : (family : AddressFamily) (all : List FrameFault) (held given : Content) → judged all held ≡ Ok given
    → judged (map Frame all ++ content_faults family held) (content_text family held) ≡ judged (content_faults family given) (content_text family given)
framed family [] held given reported = let same : held ≡ given = cc in ap (λ (c : Content). judged (content_faults family c) (content_text family c)) same
framed family (first ∷ others) held given reported = absurd cc

pub framed_body : (family : AddressFamily) (source destination message body : List ℕ) → judged (frame_faults family source destination message) (content message) ≡ Ok (join_prune body)
    → message_report family source destination message ≡ body_report family body
framed_body family source destination message body = framed family (frame_faults family source destination message) (content message) (join_prune body)

pub framed_hello : (family : AddressFamily) (source destination message body : List ℕ) → judged (frame_faults family source destination message) (content message) ≡ Ok (hello body)
    → message_report family source destination message ≡ hello_report family body
framed_hello family source destination message body = framed family (frame_faults family source destination message) (content message) (hello body)

-- ---- the text of a message states it

same_value : {E V : Type 0} (all : List E) (value given : V) → judged all value ≡ Ok given → value ≡ given
same_value [] value given reported = cc
same_value (first ∷ others) value given reported = absurd cc

pub stated_message : MessageTextStates → (family : AddressFamily) (body : List ℕ) (message : Message) → judged (faults family body) (message_of family body) ≡ Ok message → IsMessage family message → IsStated family (join_prune body)
stated_message law family body message reported legal =
    let same = same_value (faults family body) (message_of family body) message reported in
    subst (λ (m : Message). States (message_text family m) (message_in family m)) (sym same) (law family message legal)

-- what holds anyway holds of a result that is returned
pub if_returned : {A E : Type 0} (r : Result A E) (P : Type 0) → P → IfOk r (λ text. P)
if_returned (Ok text) P is = is
if_returned (Err fault) P is = tt
