-- A message that is made of a text: its bytes, and what a receiver reads in them.
use Rattle.std.proofs.Common.{◌≡◌, ◌∙◌, sym, ap, refl, subst, ℕ, ◌+◌, ◌≤◌, ◌<◌, ◌^◌, Bool, true, false, List, [], ◌∷◌, ◌++◌, Result, Ok, Err, length, map, arith, length-append}
use Rattle.pim_text.proofs.Words.{big_bytes, GroupReadsBack, SourceReadsBack, AddressFamily, Fits, ReadsBack, if_there}
use Rattle.pim_text.proofs.Words.{parameters_spelled, row_spelled, row_there, spelling_of, States, IsSpelled, type_of}
use Rattle.pim_text.proofs.Words.{hello_in, BuildFault}
use Rattle.pim_addr.specs.Faults.{judged}
use Rattle.pim_frame.specs.declared.frame.FrameFault.{FrameFault}
use Rattle.pim_frame.specs.declared.frame.MessageType.{MessageType}
use Rattle.pim_frame.specs.declared.frame.MessageType.TheVariants as kind
use Rattle.pim_frame.specs.Frame.{Content, hello, join_prune, other, content, frame_faults}
use Rattle.pim_frame.specs.Seal.{IsSealed, checksum, framed, type_content}
use Rattle.pim_hello.specs.Hello.{Hello}
use Rattle.pim_hello.specs.Faults.{faults as hello_option_faults}
use Rattle.pim_hello.specs.Value.{hello_of}
use Rattle.pim_jp.specs.Faults.{faults}
use Rattle.pim_text.specs.declared.build.fault.BuildFault.TheVariants.{Frame, Hello as of_hello, JoinPrune}
use Rattle.pim_text.specs.Building.{Value, a_hello, a_message, stated, is_hello, body_of, content_faults, message_faults, IsReadAs, IsBuilt, IsRefused, IsBuildFault}
use Rattle.pim_text.proofs.ReadBack.{HeadReadsBack, message_back}
use Rattle.pim_text.proofs.Sizes.{hello_sized, message_sized}

-- ---- the message that a text states

-- The text states this message, whose body is this one.
record IsValue (family : AddressFamily) (text : List ℕ) (kind : Bool) (body : List ℕ) : Type 0 where
  value : Value
  states : States text (stated family value)
  same_kind : is_hello value ≡ kind
  same_body : body_of family value ≡ body

value_of : (family : AddressFamily) (text : List ℕ) (kind : Bool) (body : List ℕ) → IsSpelled family text kind body → IsValue family text kind body
value_of family text true body (value, states, same) = record { value = a_hello value; states = states; same_kind = refl; same_body = sym same }
value_of family text false body (value, states, same) = record { value = a_message value; states = states; same_kind = refl; same_body = sym same }

in_bytes : (family : AddressFamily) (source destination text : List ℕ) (kind : Bool) (body message : List ℕ) (v : IsValue family text kind body)
    → IsSealed family source destination (type_of kind) body message → IsSealed family source destination (type_of (is_hello v.value)) (body_of family v.value) message
in_bytes family source destination text kind body message v sealed =
    subst (λ (k : Bool). IsSealed family source destination (type_of k) (body_of family v.value) message) (sym v.same_kind)
    (subst (λ (b : List ℕ). IsSealed family source destination (type_of kind) b message) (sym v.same_body) sealed)

-- ---- a message that is refused

first_of : {E V : Type 0} (all : List E) (value : V) (fault : E) → judged all value ≡ Err fault → (others : List E) × (all ≡ fault ∷ others)
first_of [] value fault reported = absurd cc
first_of (first ∷ others) value fault reported = let same : first ≡ fault = cc in (others, ap (λ (f : _). f ∷ others) same)

none_of : {E V : Type 0} (all : List E) (value given : V) → judged all value ≡ Ok given → all ≡ []
none_of [] value given reported = refl
none_of (first ∷ others) value given reported = absurd cc

-- what was found of the bytes that are lent
pub of_lent : (family : AddressFamily) (source destination lent message : List ℕ) (found reported : Result (Unit {0}) BuildFault) → found ≡ judged (message_faults family source destination lent) (tt {0})
    → lent ≡ message → found ≡ reported → judged (message_faults family source destination message) (tt {0}) ≡ reported
of_lent family source destination lent message found reported is same found_so = rw (← same, ← is) found_so

module _ (family : AddressFamily) (source destination text : List ℕ) where
  abbrev Refused : BuildFault → Type 0
  Refused fault = IsRefused family source destination text fault

  abbrev Causes : BuildFault → Type 0
  Causes fault = IsBuildFault family source destination text fault

  of_body : {E : Type 0} (name : E → BuildFault) → ((e : E) → Refused (name e) → Causes (name e)) → (all : List E) (fault : BuildFault) (others : List BuildFault) → map name all ≡ fault ∷ others → Refused fault → Causes fault
  of_body name causes [] fault others same is = absurd cc
  of_body name causes (first ∷ rest) fault others same is = let here : name first ≡ fault = cc in subst Causes here (causes first (subst Refused (sym here) is))

  of_content : (held : Content) (fault : BuildFault) (others : List BuildFault) → content_faults family held ≡ fault ∷ others → Refused fault → Causes fault
  of_content (hello body) fault others same is = of_body (λ e. of_hello e) (λ e r. r) (hello_option_faults body) fault others same is
  of_content (join_prune body) fault others same is = of_body (λ e. JoinPrune e) (λ e r. r) (faults family body) fault others same is
  of_content (other kind) fault others same is = absurd cc

  of_message : (frames : List FrameFault) (held : Content) (fault : BuildFault) (others : List BuildFault) → map Frame frames ++ content_faults family held ≡ fault ∷ others → Refused fault → Causes fault
  of_message [] held fault others same is = of_content held fault others same is
  of_message (first ∷ frames) held fault others same is = let here : Frame first ≡ fault = cc in subst Causes here (subst Refused (sym here) is)

  pub refused : (kind : Bool) (body message : List ℕ) (fault : BuildFault) → IsSpelled family text kind body → IsSealed family source destination (type_of kind) body message
      → length message ≡ length body + 4 → length body ≤ 65532 → judged (message_faults family source destination message) (tt {0}) ≡ Err fault → Causes fault
  refused kind body message fault spelled sealed size short reported =
      let v = value_of family text kind body spelled in
      let first = first_of (message_faults family source destination message) (tt {0}) fault reported in
      of_message (frame_faults family source destination message) (content message) fault first.0 first.1 (record {
        value = v.value;
        message = message;
        states = v.states;
        bytes = in_bytes family source destination text kind body message v sealed;
        size = omega (arith, size, short);
        others = first.0;
        refused = first.1;
      })

  -- ---- a message that is taken

  content_is : (type : MessageType) (sum : ℕ) (body : List ℕ) → content (framed type sum body) ≡ type_content type body
  content_is kind.Hello sum body = refl
  content_is kind.JoinPrune sum body = refl

  row_fits : (addresses : List (List ℕ)) (front : List ℕ) → length (front ++ if_there 24 (row_there family addresses)) ≤ 65532 → length (row_spelled family addresses) < 2 ^ 16
  row_fits [] front short = omega arith
  row_fits (address ∷ addresses) front short =
      let row = row_spelled family (address ∷ addresses) in
      let header = big_bytes 2 24 ++ big_bytes 2 (length row) in
      omega (arith, length-append front (header ++ row), length-append header row, short)

  hello_read : ReadsBack family → (value : Hello) → States text (hello_in family value) → length (spelling_of family value) ≤ 65532 → hello_of family (spelling_of family value) ≡ value
  hello_read reads_back value states short =
      let sized = hello_sized family text value states in
      let fits : Fits family value = record { parameters = sized.0; addresses = sized.1; row = row_fits value.addresses (parameters_spelled value.parameters) short } in
      (reads_back value fits).1

  module _ (reads_back : ReadsBack family) (head_back : HeadReadsBack) (group_back : GroupReadsBack) (source_back : SourceReadsBack) where
    read_as : (value : Value) → States text (stated family value) → length (body_of family value) ≤ 65532 → IsReadAs family value (type_content (type_of (is_hello value)) (body_of family value))
    read_as (a_hello value) states short = hello_read reads_back value states short
    read_as (a_message value) states short = message_back family group_back source_back head_back value (message_sized family text value states)

    pub built : (kind : Bool) (body message : List ℕ) → IsSpelled family text kind body → IsSealed family source destination (type_of kind) body message
        → length message ≡ length body + 4 → length body ≤ 65532 → judged (message_faults family source destination message) (tt {0}) ≡ Ok (tt {0}) → IsBuilt family source destination text message
    built kind body message spelled sealed size short reported =
        let v = value_of family text kind body spelled in
        let bytes = in_bytes family source destination text kind body message v sealed in
        let type = type_of (is_hello v.value) in
        let same : content message ≡ type_content type (body_of family v.value) = ap content bytes.0 ∙ content_is type (checksum message) (body_of family v.value) in
        let short' : length (body_of family v.value) ≤ 65532 = rw v.same_body short in
        record {
          value = v.value;
          states = v.states;
          bytes = bytes;
          size = omega (arith, size, short);
          accepted = none_of (message_faults family source destination message) (tt {0}) (tt {0}) reported;
          read = subst (IsReadAs family v.value) (sym same) (read_as v.value v.states short');
        }
