-- The bytes of the messages are read back.
use Rattle.pim_mirror.proofs.Words.{◌≡◌, ◌∙◌, ℕ, true, List, [], ◌∷◌, map, length, refl, sym, ap, ap₂, subst, Option}
use Rattle.pim_mirror.proofs.Words.{AllByRecursion, length-map, AddressFamily, Message, message_of, GroupForm, IsNormal, units_of}
use Rattle.pim_mirror.proofs.Words.{fits, Writing, IsWriting, HaveRps, written_message, SealedMessageIsRead, IsReadAs, CarryParts}
use Rattle.pim_mirror.proofs.Words.{body_of, message_in, exchange_of, exchange_in, CarriesForm, AreReadAs}
use Rattle.pim_mirror.proofs.Words.{CanonicalMessagesCarryParts, PartsHaveUnitsOnce, MessagesAreRead, CanonicalMessagesCarryForm}
use Rattle.pim_mirror.proofs.Spellable.{is_message}

module _ (family : AddressFamily) (writing : Writing) (rps : List ℕ → Option (List ℕ)) (is : IsWriting family writing) (reads : SealedMessageIsRead) where
  all_read : (messages : List (List ℕ)) (parts : List (List GroupForm)) → AllByRecursion (IsNormal family) parts → AllByRecursion (HaveRps family rps) parts
      → AllByRecursion (λ part. fits family writing.budget (units_of part) ≡ true) parts → CarryParts family writing rps parts messages
      → AreReadAs family writing.own messages (map (written_message writing rps) parts)
  unfolding AreReadAs CarryParts
  all_read [] [] normal have fitting reported = tt
  all_read [] (part ∷ parts) normal have fitting reported = absurd reported
  all_read (bytes ∷ messages) [] normal have fitting reported = absurd reported
  all_read (bytes ∷ messages) (part ∷ parts) normal have fitting reported = (
    reads family writing.own (written_message writing rps part) bytes (is_message family writing rps part is normal.0 have.0 fitting.0) reported.0,
    all_read messages parts normal.1 have.1 fitting.1 reported.1,
  )

pub messages_are_read : SealedMessageIsRead → MessagesAreRead
messages_are_read reads family writing rps form messages parts is are = all_read family writing rps is reads messages parts are.normal are.have are.fitting are.reported

-- ---- what is read

pub read_message : (family : AddressFamily) (source bytes : List ℕ) (said : Message) → IsReadAs family source bytes said → message_in family bytes ≡ said
read_message family source bytes said is = ap (λ c. message_of family (body_of c)) is.holds ∙ is.reads

pub read_messages : (family : AddressFamily) (source : List ℕ) (messages : List (List ℕ)) (said : List Message) → AreReadAs family source messages said → map (message_in family) messages ≡ said
unfolding AreReadAs
read_messages family source [] [] are = refl
read_messages family source [] (one ∷ said) are = absurd are
read_messages family source (bytes ∷ messages) [] are = absurd are
read_messages family source (bytes ∷ messages) (one ∷ said) are = ap₂ (λ m ms. m ∷ ms) (read_message family source bytes one are.0) (read_messages family source messages said are.1)

pub tell_form : CanonicalMessagesCarryParts → PartsHaveUnitsOnce → MessagesAreRead → CanonicalMessagesCarryForm
tell_form parts_of once read family writing rps form messages port timing is_writing is have are =
    let found = parts_of family writing rps form messages is have are in
    let parts = found.0 in
    let same : map (message_in family) messages ≡ map (written_message writing rps) parts = read_messages family writing.own messages (map (written_message writing rps) parts) (read family writing rps form messages parts is_writing found.1) in
    let count : length parts ≡ length messages = sym (length-map parts (written_message writing rps)) ∙ ap length (sym same) ∙ length-map messages (message_in family) in
    subst (λ (n : ℕ). CarriesForm (exchange_in family rps writing port timing messages) n form) count
    (subst (λ (said : List Message). CarriesForm (exchange_of rps writing.holdtime port timing said) (length parts) form) (sym same)
    (once family writing rps form messages parts port timing is found.1))
