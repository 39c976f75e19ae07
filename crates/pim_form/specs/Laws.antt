-- The statements of the laws in `src/laws.rt`.
use Rattle.std.specs.Prelude.{◌≡◌, ◌↔◌, ◌≤◌, false, true, List, [], ◌∷◌, ◌++◌, ℕ, Option, None, Some, length}
use Rattle.std.specs.List.{AllByRecursion}
use Rattle.pim_addr.specs.declared.family.AddressFamily.{AddressFamily}
use Rattle.pim_frame.specs.Frame.{join_prune, frame_faults, content, all_routers}
use Rattle.pim_frame.specs.Seal.{IsSealed}
use Rattle.pim_frame.specs.declared.frame.MessageType.TheVariants.{JoinPrune}
use Rattle.pim_jp.specs.Message.{Message, message_of}
use Rattle.pim_jp.specs.Faults.{faults}
use Rattle.pim_jp.specs.Canonical.{IsMessage, canonical}
use Rattle.pim_addr.specs.Address.{IsSourceAddress}
use Rattle.pim_form.specs.NormalForm.{Demand, Agree, IsFormOf, GroupForm, IsNormal, is_listed}
use Rattle.pim_form.specs.NormalForm.{most_exceptions, WantTheSame}
use Rattle.pim_form.specs.declared.tree.Tree.{Tree}
use Rattle.pim_form.specs.Toward.{toward, SharedHaveRps}
use Rattle.pim_form.specs.Units.{WantUnit, units_of, run_size}
use Rattle.pim_form.specs.Packing.{IsPacking, fits, IsNonempty, StopsBefore}
use Rattle.pim_form.specs.TooBig.{too_big}
use Rattle.pim_form.specs.Messages.{Writing, IsWriting, HaveRps, AreCanonical, written_message}

-- The bytes, sent from `source` to ALL-PIM-ROUTERS, open as a Join/Prune message. Its body is read
-- as this message, and no fault is found (RFC 7761, 4.9 and 4.9.5).
pub record IsReadAs (family : AddressFamily) (source : List ℕ) (bytes : List ℕ) (message : Message) : Type 0 where
  pub body : List ℕ
  pub opened : frame_faults family source (all_routers family) bytes ≡ []
  pub holds : content bytes ≡ join_prune body
  pub legal : faults family body ≡ []
  pub reads : message_of family body ≡ message

-- A canonical message that is sealed for ALL-PIM-ROUTERS is read as that message.
abbrev pub SealedMessageIsRead : Type 0
SealedMessageIsRead = (family : AddressFamily) (source : List ℕ) (message : Message) (bytes : List ℕ) →
    IsMessage family message → IsSealed family source (all_routers family) JoinPrune (canonical family message) bytes →
    IsReadAs family source bytes message

-- ---- demand

-- A valid source that isn't one of these exceptions.
pub record Outside (family : AddressFamily) (exceptions : List (List ℕ)) : Type 0 where
  pub source : List ℕ
  pub valid : IsSourceAddress family source
  pub apart : is_listed source exceptions ≡ false

-- Outside of at most 100,000 exceptions there is a valid source.
abbrev pub SomeSourceIsOutside : Type 0
SomeSourceIsOutside = (family : AddressFamily) (exceptions : List (List ℕ)) → length exceptions ≤ most_exceptions →
    Outside family exceptions

-- Two normal forms that want the same are equal.
abbrev pub OneNormalForm : Type 0
OneNormalForm = (family : AddressFamily) (one other : List GroupForm) → IsNormal family one → IsNormal family other →
    WantTheSame family one other → one ≡ other

-- A list of units has at most one packing within a budget.
abbrev pub OnePacking : Type 0
OnePacking = (family : AddressFamily) (budget : ℕ) (units : List WantUnit) (one other : List (List WantUnit)) →
    IsPacking family budget units one → IsPacking family budget units other → one ≡ other

-- The first of the runs is this run, and the others are a packing of the units that are left.
pub record BeginsWith (family : AddressFamily) (budget : ℕ) (run left : List WantUnit) (runs : List (List WantUnit))
    : Type 0 where
  pub others : List (List WantUnit)
  pub begins : runs ≡ run ∷ others
  pub packing : IsPacking family budget left others

-- A nonempty run at the front of the units that fits, and would not fit with the next unit, is the
-- first run of any packing.
abbrev pub FirstRunIsWritten : Type 0
FirstRunIsWritten = (family : AddressFamily) (budget : ℕ) (run left : List WantUnit) (runs : List (List WantUnit)) →
    IsNonempty run → fits family budget run ≡ true → StopsBefore family budget run left →
    IsPacking family budget (run ++ left) runs → BeginsWith family budget run left runs

-- Two normal forms with the same canonical messages by one writer are equal, where each star has an
-- RP.
abbrev pub MessagesCarryTheForm : Type 0
MessagesCarryTheForm = (family : AddressFamily) (writing : Writing) (rps : List ℕ → Option (List ℕ)) (one other : List GroupForm)
    (messages : List (List ℕ)) → IsWriting family writing → IsNormal family one → IsNormal family other →
    HaveRps family rps one → HaveRps family rps other →
    AreCanonical family writing rps one messages → AreCanonical family writing rps other messages → one ≡ other

-- A form has at most one list of canonical messages by a writer.
abbrev pub OneListOfMessages : Type 0
OneListOfMessages = (family : AddressFamily) (writing : Writing) (rps : List ℕ → Option (List ℕ)) (form : List GroupForm)
    (one other : List (List ℕ)) →
    AreCanonical family writing rps form one → AreCanonical family writing rps form other → one ≡ other

-- The canonical messages of the normal forms of two demands, by one writer, are the same exactly if
-- the demands agree. Each star has an RP.
abbrev pub SameMessagesSameDemand : Type 0
SameMessagesSameDemand = (family : AddressFamily) (writing : Writing) (rps : List ℕ → Option (List ℕ)) (this that : Demand)
    (one other : List GroupForm) (first second : List (List ℕ)) →
    IsWriting family writing → IsFormOf family this one → IsFormOf family that other →
    HaveRps family rps one → HaveRps family rps other →
    AreCanonical family writing rps one first → AreCanonical family writing rps other second →
    (first ≡ second) ↔ Agree family this that

-- The size of a run that fits is the length of its message in bytes.
abbrev pub SizeIsLength : Type 0
SizeIsLength = (family : AddressFamily) (writing : Writing) (rps : List ℕ → Option (List ℕ)) (part : List GroupForm) (bytes : List ℕ) →
    IsWriting family writing → IsNormal family part → HaveRps family rps part →
    fits family writing.budget (units_of part) ≡ true →
    IsSealed family writing.own (all_routers family) JoinPrune
    (canonical family (written_message writing rps part)) bytes →
    length bytes ≡ run_size family (units_of part)

-- If one neighbour reaches all addresses, and each group wanted on the shared tree has an RP, the
-- whole demand is requested from that neighbour.
abbrev pub OneNeighbourGetsAll : Type 0
OneNeighbourGetsAll = (rps via : List ℕ → Option (List ℕ)) (neighbour : List ℕ) (demand : Demand) →
    ((address : List ℕ) → via address ≡ Some neighbour) → SharedHaveRps rps via demand →
    (source group : List ℕ) (tree : Tree) → toward rps via neighbour demand source group tree ≡ demand source group tree

-- ---- existence

-- A list of units has a packing exactly if each unit fits a message alone.
abbrev pub UnitsPackIfEachFits : Type 0
UnitsPackIfEachFits = (family : AddressFamily) (budget : ℕ) (units : List WantUnit) →
    ((runs : List (List WantUnit)) × IsPacking family budget units runs)
    ↔ AllByRecursion (λ (this : WantUnit). fits family budget (this ∷ []) ≡ true) units

-- A normal form has canonical messages by a writer exactly if no star is too big.
abbrev pub MessagesAreThereUnlessTooBig : Type 0
MessagesAreThereUnlessTooBig = (family : AddressFamily) (writing : Writing) (rps : List ℕ → Option (List ℕ)) (form : List GroupForm) →
    IsWriting family writing → IsNormal family form →
    ((messages : List (List ℕ)) × AreCanonical family writing rps form messages)
    ↔ (too_big family writing.budget form ≡ None)
