-- What memory was refused for.
use Rattle.pim_container.proofs.Words.{◌≡◌, ℕ, ◌<◌, ◌⊎◌, true, false, List, [], ◌++◌, length, Option, Some, None, Result, Ok, Err}
use Rattle.pim_container.proofs.Words.{IfSome, ap, sym, ◌∙◌, subst, arith, inl, inr, Consumes, Big, ContainerFault, Container}
use Rattle.pim_container.proofs.Words.{Blocks, is_section, head_length, head_faults, piece_of, piece_length, container_after}
use Rattle.pim_container.proofs.Words.{IsOfBytes, OnMemory, Describes, NeedsMemory, NeedsToBegin, FillsAfter, behind, LacksRoom}
use Rattle.pim_container.proofs.Words.{stated_length, DescribesFirst}
use Rattle.pim_container.specs.declared.fault.ContainerFault.TheVariants as fault
use Rattle.pim_container.proofs.Whole.{head_is, whole}
use Rattle.pim_container.proofs.Beginnings.{section_front}
use Rattle.pim_container.proofs.Named.{named_ok}

-- a fault of a part is a fault of the whole
pub memory_passed : (A B : Type 0) (f : ContainerFault) (P Q : Type 0) → (P → Q) → OnMemory {A = A} (Err f) P → OnMemory {A = B} (Err f) Q
memory_passed A B fault.Memory P Q h p = h p
memory_passed A B fault.Magic P Q h p = tt
memory_passed A B fault.Gzip P Q h p = tt
memory_passed A B (fault.LinkType n) P Q h p = tt
memory_passed A B fault.Truncated P Q h p = tt
memory_passed A B fault.TooLong P Q h p = tt
memory_passed A B fault.Block P Q h p = tt
memory_passed A B fault.Time P Q h p = tt
memory_passed A B fault.Read P Q h p = tt
memory_passed A B fault.Failed P Q h p = tt

pub memory_of : {A : Type 0} (r : Result A ContainerFault) (P Q : Type 0) → (P → Q) → OnMemory r P → OnMemory r Q
memory_of (Ok value) P Q h p = tt
memory_of {A = A} (Err f) P Q h p = memory_passed A A f P Q h p

pub memory_not : (A : Type 0) (f : ContainerFault) (P : Type 0) → IsOfBytes f → OnMemory {A = A} (Err f) P
memory_not A fault.Memory P h = absurd h
memory_not A fault.Magic P h = tt
memory_not A fault.Gzip P h = tt
memory_not A (fault.LinkType n) P h = tt
memory_not A fault.Truncated P h = tt
memory_not A fault.TooLong P h = tt
memory_not A fault.Block P h = tt
memory_not A fault.Time P h = tt
memory_not A fault.Read P h = tt
memory_not A fault.Failed P h = tt

-- the buffer was too small
pub room_known : (capacity size : ℕ) (c : Container) (head : List ℕ) (old : Option (List ℕ)) → length head ≡ head_length c → size ≡ piece_length c head → capacity < size
    → IfSome (behind head old) (NeedsMemory capacity c)
room_known capacity size c head None l e less = tt
room_known capacity size c head (Some xs) l e less =
    inl (subst (λ h. capacity < piece_length c h) (sym (head_is c head xs l)) (subst (λ n. capacity < n) e less))

-- the piece describes an interface
pub described_known : (capacity size : ℕ) (c c' : Container) (head bytes : List ℕ) (old new : Option (List ℕ)) → length head ≡ head_length c → head_faults c head ≡ [] → c' ≡ container_after c head
    → size ≡ piece_length c head → FillsAfter head size old new bytes (Ok tt) → Describes c' bytes → IfSome (behind head old) (NeedsMemory capacity c)
described_known capacity size c c' head bytes None new l none k e fills d = tt
described_known capacity size c c' head bytes (Some xs) None l none k e fills d = absurd fills.2
described_known capacity size c c' head bytes (Some xs) (Some ys) l none k e fills d =
    let w = whole c [] head bytes xs ys l none (fills.0 ∙ e) fills.2 in
    inr (subst (λ it. Describes it (piece_of c (head ++ xs))) (k ∙ ap (container_after c) (sym (head_is c head xs l))) (subst (λ it. Describes c' it) (sym w.1) d))

-- from a part of the bytes to all
pub piece_memory : (capacity : ℕ) (c : Container) (old mid : Option (List ℕ)) (head : List ℕ) → Consumes old mid head → IfSome (behind head mid) (NeedsMemory capacity c) → IfSome old (NeedsMemory capacity c)
piece_memory capacity c None mid head e m = tt
piece_memory capacity c (Some xs) None head e m = absurd e
piece_memory capacity c (Some xs) (Some ms) head e m = subst (λ it. NeedsMemory capacity c it) (sym e) m

pub blocks_memory : (capacity : ℕ) (old mid : Option (List ℕ)) (head : List ℕ) → length head ≡ 12 → is_section head ≡ true → Consumes old mid head
    → IfSome (behind head mid) (NeedsMemory capacity (Blocks Big)) → IfSome old (NeedsToBegin capacity)
blocks_memory capacity None mid head l s e m = tt
blocks_memory capacity (Some xs) None head l s e m = absurd e
blocks_memory capacity (Some xs) (Some ms) head l s e m =
    inl (ap is_section e ∙ section_front head ms (omega arith) ∙ s, subst (λ it. NeedsMemory capacity (Blocks Big) it) (sym e) m)

pub classic_memory : (capacity : ℕ) (old mid : Option (List ℕ)) (head : List ℕ) → length head ≡ 12 → is_section head ≡ false → Consumes old mid head → capacity < 24 → IfSome old (NeedsToBegin capacity)
classic_memory capacity None mid head l s e m = tt
classic_memory capacity (Some xs) None head l s e m = absurd e
classic_memory capacity (Some xs) (Some ms) head l s e m = inr (ap is_section e ∙ section_front head ms (omega arith) ∙ s, m)

-- ---- the room of the buffer and the list

memory_by : (A B C : Type 0) (f : ContainerFault) (P Q R : Type 0) → (P → Q → R) → OnMemory {A = A} (Err f) P → OnMemory {A = B} (Err f) Q → OnMemory {A = C} (Err f) R
memory_by A B C fault.Memory P Q R h p q = h p q
memory_by A B C fault.Magic P Q R h p q = tt
memory_by A B C fault.Gzip P Q R h p q = tt
memory_by A B C (fault.LinkType n) P Q R h p q = tt
memory_by A B C fault.Truncated P Q R h p q = tt
memory_by A B C fault.TooLong P Q R h p q = tt
memory_by A B C fault.Block P Q R h p q = tt
memory_by A B C fault.Time P Q R h p q = tt
memory_by A B C fault.Read P Q R h p q = tt
memory_by A B C fault.Failed P Q R h p q = tt

pub lacks_known : (capacity size : ℕ) (c : Container) (head : List ℕ) → head_faults c head ≡ [] → size ≡ piece_length c head → capacity < size → LacksRoom capacity (Some (stated_length c head))
lacks_known capacity size c head none e less = subst (λ it. LacksRoom capacity (Some it)) (sym (named_ok c head size none e)) less

pub described_first : (size : ℕ) (c c' : Container) (head bytes : List ℕ) (old new : Option (List ℕ)) → length head ≡ head_length c → head_faults c head ≡ [] → c' ≡ container_after c head
    → size ≡ piece_length c head → FillsAfter head size old new bytes (Ok tt) → Describes c' bytes → IfSome (behind head old) (DescribesFirst c)
described_first size c c' head bytes None new l none k e fills d = tt
described_first size c c' head bytes (Some xs) None l none k e fills d = absurd fills.2
described_first size c c' head bytes (Some xs) (Some ys) l none k e fills d =
    let w = whole c [] head bytes xs ys l none (fills.0 ∙ e) fills.2 in
    subst (λ it. Describes it (piece_of c (head ++ xs))) (k ∙ ap (container_after c) (sym (head_is c head xs l))) (subst (λ it. Describes c' it) (sym w.1) d)

pub asks_place : (A B : Type 0) (f : ContainerFault) (describes full lacks described : Type 0) → (describes → described) → OnMemory {A = A} (Err f) describes → OnMemory {A = A} (Err f) full
    → OnMemory {A = B} (Err f) (lacks ⊎ (full × described))
asks_place A B f describes full lacks described h d m = memory_by A A B f describes full (lacks ⊎ (full × described)) (λ x y. inr (y, h x)) d m
