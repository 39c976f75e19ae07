-- The first piece of known bytes: its head, its bytes, and what follows.
use Rattle.pim_container.proofs.Words.{◌≡◌, ℕ, ◌+◌, ◌<◌, ◌≤◌, ◌⊎◌, Bool, true, false, nat_lt, List, [], ◌∷◌, ◌++◌, length, take}
use Rattle.pim_container.proofs.Words.{drop, Option, Some, None, Result, Ok, Err, ap, sym, ◌∙◌, subst, arith, refl, inl, inr}
use Rattle.pim_container.proofs.Words.{is_ok, if◌then◌else◌, not, ◌||◌, ◌&&◌, ◌==◌, ◌%◌, false≢true, take_at, drop_at}
use Rattle.pim_container.proofs.Words.{length-append, common_steps, big_number, little_number, fault_if, judged, BlockEndianness}
use Rattle.pim_container.proofs.Words.{Big, Little, ContainerFault, ContainerEvent, Interface, Container, Classic, Blocks}
use Rattle.pim_container.proofs.Words.{FoundPiece, number, event_seen, most_captured, ClassicFormat, head_length, piece_length}
use Rattle.pim_container.proofs.Words.{head_faults, extent_of, container_after, piece_event, head_of, piece_of, after_piece}
use Rattle.pim_container.proofs.Words.{judge_piece, unless_faults, piece_faults, interfaces_after, IsPiece, FillsAfter}
use Rattle.pim_container.proofs.Words.{TakesPiece, behind}
use Rattle.pim_container.specs.declared.fault.ContainerFault.TheVariants as fault
use Rattle.pim_container.specs.declared.container.Extent.{Extent}
use Rattle.pim_container.specs.Block as block
use Rattle.pim_container.specs.Classic as classic

-- ---- the head

pub head_is : (c : Container) (head xs : List ℕ) → length head ≡ head_length c → head_of c (head ++ xs) ≡ head
head_is c head xs l = take_at head xs (head_length c) l

enough : (c : Container) (head xs : List ℕ) → length head ≡ head_length c → nat_lt (length (head ++ xs)) (head_length c) ≡ false
enough c head xs l = let n = length-append head xs in grind (arith, common_steps)

-- the faults of the first piece, where its head is whole
faults_are : (c : Container) (head xs : List ℕ) → length head ≡ head_length c
    → piece_faults c (head ++ xs) ≡ head_faults c head ++ fault_if (nat_lt (length (head ++ xs)) (piece_length c head)) fault.Truncated
faults_are c head xs l =
    ap (λ b. if b then fault.Truncated ∷ [] else head_faults c (head_of c (head ++ xs)) ++ fault_if (nat_lt (length (head ++ xs)) (piece_length c (head_of c (head ++ xs)))) fault.Truncated) (enough c head xs l)
    ∙ ap (λ h. head_faults c h ++ fault_if (nat_lt (length (head ++ xs)) (piece_length c h)) fault.Truncated) (head_is c head xs l)

-- ---- the judgment of its head

first_of : {A B : Type 0} (faults others : List ContainerFault) (value : A) (f : ContainerFault) (r : Result B ContainerFault) → judged faults value ≡ Err f → unless_faults (faults ++ others) r ≡ Err f
first_of [] others value f r e = absurd (false≢true (sym (ap is_ok e)))
first_of (g ∷ faults) others value f r e = grind (arith, common_steps)

none_of : {A : Type 0} (faults : List ContainerFault) (value value' : A) → judged faults value ≡ Ok value' → (faults ≡ []) × (value ≡ value')
none_of [] value value' e = grind (arith, common_steps)
none_of (g ∷ faults) value value' e = absurd (false≢true (ap is_ok e))

pub extent_is : (c : Container) (head : List ℕ) (extent : Extent) → judged (head_faults c head) (extent_of c head) ≡ Ok extent
    → (head_faults c head ≡ []) × (extent.container ≡ container_after c head) × (extent.length ≡ piece_length c head)
extent_is c head extent e =
    let n = none_of (head_faults c head) (extent_of c head) extent e in
    (n.0, sym (ap (λ it. it.container) n.1), sym (ap (λ it. it.length) n.1))

-- a fault of the piece is that of the call
as_fault : (c : Container) (is is' : List Interface) (bytes xs ys : List ℕ) (f : ContainerFault) → judge_piece c is xs ≡ Err f → TakesPiece c is (Some xs) (Some ys) is' bytes (Err f)
as_fault c is is' bytes xs ys fault.Magic e = e
as_fault c is is' bytes xs ys fault.Gzip e = e
as_fault c is is' bytes xs ys (fault.LinkType n) e = e
as_fault c is is' bytes xs ys fault.Truncated e = e
as_fault c is is' bytes xs ys fault.TooLong e = e
as_fault c is is' bytes xs ys fault.Block e = e
as_fault c is is' bytes xs ys fault.Time e = e
as_fault c is is' bytes xs ys fault.Read e = tt
as_fault c is is' bytes xs ys fault.Memory e = tt
as_fault c is is' bytes xs ys fault.Failed e = e

pub head_fault_known : (c : Container) (is is' : List Interface) (head bytes : List ℕ) (old : Option (List ℕ)) (f : ContainerFault) → length head ≡ head_length c
    → judged (head_faults c head) (extent_of c head) ≡ Err f → TakesPiece c is (behind head old) old is' bytes (Err f)
head_fault_known c is is' head bytes None f l e = tt
head_fault_known c is is' head bytes (Some xs) f l e =
    let reported = piece_event (container_after c (head_of c (head ++ xs))) is (piece_of c (head ++ xs)) in
    as_fault c is is' bytes (head ++ xs) xs f
    (ap (λ faults. unless_faults faults reported) (faults_are c head xs l)
    ∙ first_of (head_faults c head) (fault_if (nat_lt (length (head ++ xs)) (piece_length c head)) fault.Truncated) (extent_of c head) f reported e)

-- ---- its bytes aren't whole

cut : (c : Container) (is : List Interface) (head xs : List ℕ) → length head ≡ head_length c → head_faults c head ≡ [] → length (head ++ xs) < piece_length c head
    → judge_piece c is (head ++ xs) ≡ Err fault.Truncated
cut c is head xs l none short =
    let reported = piece_event (container_after c (head_of c (head ++ xs))) is (piece_of c (head ++ xs)) in
    let test : nat_lt (length (head ++ xs)) (piece_length c head) ≡ true = grind (arith, common_steps) in
    ap (λ faults. unless_faults faults reported) (faults_are c head xs l)
    ∙ ap (λ faults. unless_faults (faults ++ fault_if (nat_lt (length (head ++ xs)) (piece_length c head)) fault.Truncated) reported) none
    ∙ ap (λ b. unless_faults (fault_if b fault.Truncated) reported) test

pub rest_fault_known : (c : Container) (is is' : List Interface) (head bytes : List ℕ) (size : ℕ) (old new : Option (List ℕ)) (f : ContainerFault) → length head ≡ head_length c
    → head_faults c head ≡ [] → size ≡ piece_length c head → FillsAfter head size old new bytes (Err f) → TakesPiece c is (behind head old) new is' bytes (Err f)
rest_fault_known c is is' head bytes size None new f l none e fills = tt
rest_fault_known c is is' head bytes size (Some xs) None f l none e fills = absurd fills
rest_fault_known c is is' head bytes size (Some xs) (Some ys) fault.Truncated l none e fills = cut c is head xs l none (subst (λ n. length (head ++ xs) < n) e fills)
rest_fault_known c is is' head bytes size (Some xs) (Some ys) fault.Read l none e fills = tt
rest_fault_known c is is' head bytes size (Some xs) (Some ys) fault.Memory l none e fills = tt
rest_fault_known c is is' head bytes size (Some xs) (Some ys) fault.Magic l none e fills = absurd fills
rest_fault_known c is is' head bytes size (Some xs) (Some ys) fault.Gzip l none e fills = absurd fills
rest_fault_known c is is' head bytes size (Some xs) (Some ys) (fault.LinkType n) l none e fills = absurd fills
rest_fault_known c is is' head bytes size (Some xs) (Some ys) fault.TooLong l none e fills = absurd fills
rest_fault_known c is is' head bytes size (Some xs) (Some ys) fault.Block l none e fills = absurd fills
rest_fault_known c is is' head bytes size (Some xs) (Some ys) fault.Time l none e fills = absurd fills
rest_fault_known c is is' head bytes size (Some xs) (Some ys) fault.Failed l none e fills = absurd fills

-- ---- it is whole

-- its judgment, its bytes, and those after it
pub whole : (c : Container) (is : List Interface) (head bytes xs ys : List ℕ) → length head ≡ head_length c → head_faults c head ≡ []
    → length bytes ≡ piece_length c head → head ++ xs ≡ bytes ++ ys
    → (judge_piece c is (head ++ xs) ≡ piece_event (container_after c head) is bytes) × (piece_of c (head ++ xs) ≡ bytes) × (after_piece c (head ++ xs) ≡ ys)
whole c is head bytes xs ys l none size e =
    let n : length (head ++ xs) ≡ length bytes + length ys = ap length e ∙ length-append bytes ys in
    let test : nat_lt (length (head ++ xs)) (piece_length c head) ≡ false = grind (arith, common_steps) in
    let reported = piece_event (container_after c (head_of c (head ++ xs))) is (piece_of c (head ++ xs)) in
    let h = head_is c head xs l in
    let same : piece_of c (head ++ xs) ≡ bytes =
    ap (λ it. take (piece_length c it) (head ++ xs)) h ∙ ap (take (piece_length c head)) e ∙ take_at bytes ys (piece_length c head) size in
    let after : after_piece c (head ++ xs) ≡ ys =
    ap (λ it. drop (piece_length c it) (head ++ xs)) h ∙ ap (drop (piece_length c head)) e ∙ drop_at bytes ys (piece_length c head) size in
    let judged : judge_piece c is (head ++ xs) ≡ piece_event (container_after c head) is bytes =
    ap (λ faults. unless_faults faults reported) (faults_are c head xs l)
    ∙ ap (λ faults. unless_faults (faults ++ fault_if (nat_lt (length (head ++ xs)) (piece_length c head)) fault.Truncated) reported) none
    ∙ ap (λ b. unless_faults (fault_if b fault.Truncated) reported) test
    ∙ ap (λ it. piece_event (container_after c it) is (piece_of c (head ++ xs))) h
    ∙ ap (piece_event (container_after c head) is) same in
    (judged, same, after)

fault_of : Result ContainerEvent ContainerFault → ContainerFault
fault_of (Ok event) = fault.Memory
fault_of (Err fault) = fault

-- the fault of a whole piece
pub told_fault_known : (c c' : Container) (is is' : List Interface) (head bytes bytes' : List ℕ) (size : ℕ) (old new : Option (List ℕ)) (f : ContainerFault) → length head ≡ head_length c
    → head_faults c head ≡ [] → c' ≡ container_after c head → size ≡ piece_length c head → FillsAfter head size old new bytes (Ok tt) → (◌≡◌ {A = Result ContainerEvent ContainerFault} (Err f) (Err fault.Memory)) ⊎ (piece_event c' is bytes ≡ Err f)
    → TakesPiece c is (behind head old) new is' bytes' (Err f)
unfolding fault_of
told_fault_known c c' is is' head bytes bytes' size None new f l none k e fills reported = tt
told_fault_known c c' is is' head bytes bytes' size (Some xs) None f l none k e fills reported = absurd fills.2
told_fault_known c c' is is' head bytes bytes' size (Some xs) (Some ys) f l none k e fills (inl memory) =
    subst (λ it. TakesPiece c is (Some (head ++ xs)) (Some ys) is' bytes' (Err it)) (sym (ap fault_of memory)) tt
told_fault_known c c' is is' head bytes bytes' size (Some xs) (Some ys) f l none k e fills (inr reported) =
    let w = whole c is head bytes xs ys l none (fills.0 ∙ e) fills.2 in
    as_fault c is is' bytes' (head ++ xs) ys f (w.0 ∙ ap (λ it. piece_event it is bytes) (sym k) ∙ reported)

-- what a whole piece gives
pub told_known : (c : Container) (is is' : List Interface) (head bytes bytes' : List ℕ) (size : ℕ) (old new : Option (List ℕ)) (found : FoundPiece) → length head ≡ head_length c
    → head_faults c head ≡ [] → found.container ≡ container_after c head → size ≡ piece_length c head → FillsAfter head size old new bytes (Ok tt)
    → (◌≡◌ {A = Result ContainerEvent ContainerFault} (Ok found.event) (Err fault.Memory)) ⊎ (piece_event found.container is bytes ≡ Ok (event_seen bytes' found.event)) → is' ≡ interfaces_after found.container is bytes
    → TakesPiece c is (behind head old) new is' bytes' (Ok found)
told_known c is is' head bytes bytes' size None new found l none k e fills reported i = tt
told_known c is is' head bytes bytes' size (Some xs) None found l none k e fills reported i = absurd fills.2
told_known c is is' head bytes bytes' size (Some xs) (Some ys) found l none k e fills (inl memory) i = absurd (false≢true (sym (ap is_ok memory)))
told_known c is is' head bytes bytes' size (Some xs) (Some ys) found l none k e fills (inr reported) i =
    let w = whole c is head bytes xs ys l none (fills.0 ∙ e) fills.2 in (
      w.0 ∙ ap (λ it. piece_event it is bytes) (sym k) ∙ reported,
      k ∙ ap (container_after c) (sym (head_is c head xs l)),
      i ∙ ap (interfaces_after found.container is) (sym w.1),
      sym w.2,
    )

-- ---- it is as long as its head says

is_nil : List ContainerFault → Bool
is_nil [] = true
is_nil (f ∷ fs) = false

big_front : (xs : List ℕ) → big_number 4 (take 12 xs) ≡ big_number 4 xs
big_front [] = refl
big_front (a ∷ []) = refl
big_front (a ∷ b ∷ []) = refl
big_front (a ∷ b ∷ d ∷ []) = refl
big_front (a ∷ b ∷ d ∷ e ∷ xs) = refl

little_front : (xs : List ℕ) → little_number 4 (take 12 xs) ≡ little_number 4 xs
little_front [] = refl
little_front (a ∷ []) = refl
little_front (a ∷ b ∷ []) = refl
little_front (a ∷ b ∷ d ∷ []) = refl
little_front (a ∷ b ∷ d ∷ e ∷ xs) = refl

front : (order : BlockEndianness) (xs : List ℕ) → number order 4 (take 12 xs) ≡ number order 4 xs
front Big xs = big_front xs
front Little xs = little_front xs

none_if : (a b d : Bool) → fault_if a fault.Magic ++ fault_if b fault.Block ++ fault_if d fault.TooLong ≡ [] → (b ≡ false) × (d ≡ false)
unfolding is_nil
none_if true b d e = absurd (false≢true (ap is_nil e))
none_if false true d e = absurd (false≢true (ap is_nil e))
none_if false false true e = absurd (false≢true (ap is_nil e))
none_if false false false e = (refl, refl)

no_less : (size least : ℕ) (b : Bool) → (nat_lt size least || b) ≡ false → least ≤ size
no_less size least b e = grind (arith, common_steps)

no_more : (size most : ℕ) → nat_lt most size ≡ false → size ≤ most
no_more size most e = grind (arith, common_steps)

least_is : (order : BlockEndianness) (head : List ℕ) → block.head_faults order head ≡ []
    → (block.least_block (block.block_type (block.order_of order head) head) ≤ block.block_length (block.order_of order head) head)
    × (block.block_length (block.order_of order head) head ≤ block.most_block)
least_is order head none =
    let o = block.order_of order head in
    let size = block.block_length o head in
    let n = none_if (block.is_section head && not (block.has_order Big head) && not (block.has_order Little head))
    (nat_lt size (block.least_block (block.block_type o head)) || not (size % 4 == 0)) (nat_lt block.most_block size) none in
    (no_less size (block.least_block (block.block_type o head)) (not (size % 4 == 0)) n.0, no_more size block.most_block n.1)

pub is_piece : (c : Container) (head bytes : List ℕ) → length head ≡ head_length c → head_faults c head ≡ [] → length bytes ≡ piece_length c head → take (length head) bytes ≡ head
    → IsPiece (container_after c head) bytes
is_piece (Classic format) head bytes l none size e = omega arith
is_piece (Blocks order) head bytes l none size e =
    let least = least_is order head none in
    let same : take 12 bytes ≡ head = ap (λ n. take n bytes) (sym l) ∙ e in
    let type : block.block_type (block.order_of order head) head ≡ block.block_type (block.order_of order head) bytes =
    ap (number (block.order_of order head) 4) (sym same) ∙ front (block.order_of order head) bytes in (
      subst (λ n. block.least_block n ≤ length bytes) type (subst (λ n. block.least_block (block.block_type (block.order_of order head) head) ≤ n) (sym size) least.0),
      subst (λ n. n ≤ block.most_block) (sym size) least.1,
    )

-- ---- the bounds of its length

least_least : (type : ℕ) → 12 ≤ block.least_block type
least_least type = grind (arith, common_steps)

-- its head is a part of it
pub head_le : (c : Container) (head : List ℕ) → head_faults c head ≡ [] → head_length c ≤ piece_length c head
head_le (Classic format) head none = omega arith
head_le (Blocks order) head none =
    let least = least_is order head none in
    omega (arith, least.0, least_least (block.block_type (block.order_of order head) head))

captured_most : (format : ClassicFormat) (head : List ℕ) (b : Bool) → nat_lt most_captured (classic.captured_length format head) ≡ b → fault_if b fault.TooLong ≡ [] → classic.captured_length format head ≤ most_captured
unfolding is_nil
captured_most format head true e none = absurd (false≢true (ap is_nil none))
captured_most format head false e none = no_more (classic.captured_length format head) most_captured e

pub piece_most : (c : Container) (head : List ℕ) → head_faults c head ≡ [] → piece_length c head ≤ block.most_block
piece_most (Classic format) head none = omega (arith, captured_most format head (nat_lt most_captured (classic.captured_length format head)) refl none)
piece_most (Blocks order) head none = (least_is order head none).1
