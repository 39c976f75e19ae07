-- How much was taken of a device whose bytes are known.
use Rattle.pim_container.proofs.Words.{◌≡◌, ℕ, ◌+◌, ◌-◌, ◌<◌, ◌≤◌, min, true, false, List, [], ◌++◌, length, take, drop, Option}
use Rattle.pim_container.proofs.Words.{Some, None, Result, Ok, Err, ap, sym, ◌∙◌, subst, arith, refl, Consumes, IsAtEnd, drop_at}
use Rattle.pim_container.proofs.Words.{drop_all, drop_min, drop-drop, length-append, length-drop, length-take-le, ConsumesAtMost}
use Rattle.pim_container.proofs.Words.{Big, ContainerFault, Container, Blocks, Unbegun, Pieces, ReaderStep, FoundPiece, judged}
use Rattle.pim_container.proofs.Words.{is_section, head_length, piece_length, head_faults, extent_of, behind, stated_length}
use Rattle.pim_container.proofs.Words.{next_length, first_length, taken_by, Loses, Takes, TakesNext}
use Rattle.pim_container.specs.declared.fault.ContainerFault.TheVariants as fault
use Rattle.pim_container.proofs.Named.{named_ok, named_none, next_least, first_least, next_is, first_is, classic_is}

-- ---- bytes that were taken

pub loses_most : (k : ℕ) (old new : Option (List ℕ)) → Loses k old new → ConsumesAtMost k old new
loses_most k None new h = tt
loses_most k (Some xs) None h = h
loses_most k (Some xs) (Some ys) h =
    let n : length ys ≡ length xs - k = ap length h ∙ length-drop k xs in
    let same : length xs - length ys ≡ min k (length xs) = omega (arith, n) in
    (omega (arith, n), h ∙ sym (drop_min k xs) ∙ ap (λ i. drop i xs) (sym same))

pub most_more : (j k : ℕ) (old new : Option (List ℕ)) → j ≤ k → ConsumesAtMost j old new → ConsumesAtMost k old new
most_more j k None new l c = tt
most_more j k (Some xs) None l c = c
most_more j k (Some xs) (Some ys) l c = (omega (arith, c.0, l), c.1)

-- some first bytes
pub front_most : (k got : ℕ) (h : List ℕ) (old new : Option (List ℕ)) → got ≤ k → got ≤ length h → Consumes old new (take got h) → ConsumesAtMost k old new
front_most k got h None new b l e = tt
front_most k got h (Some xs) None b l e = e
front_most k got h (Some xs) (Some ys) b l e =
    let n : length xs ≡ got + length ys = ap length e ∙ length-append (take got h) ys ∙ ap (λ m. m + length ys) (length-take-le got h l) in
    let i : got ≡ length xs - length ys = omega (arith, n) in
    let j : length (take got h) ≡ length xs - length ys = length-take-le got h l ∙ i in
    (omega (arith, n, b), sym (ap (drop (length xs - length ys)) e ∙ drop_at (take got h) ys (length xs - length ys) j))

-- all bytes
pub all_lost : (k got : ℕ) (h : List ℕ) (old new : Option (List ℕ)) → got ≤ k → got ≤ length h → Consumes old new (take got h) → IsAtEnd new → Loses k old new
all_lost k got h None new b l e d = tt
all_lost k got h (Some xs) None b l e d = e
all_lost k got h (Some xs) (Some ys) b l e d =
    let n : length xs ≡ got + length ys = ap length e ∙ length-append (take got h) ys ∙ ap (λ m. m + length ys) (length-take-le got h l) in
    let none : length ys ≡ 0 = ap length d in
    d ∙ sym (drop_all k xs (omega (arith, n, none, b)))

-- a head
pub head_lost : (head : List ℕ) (old : Option (List ℕ)) → Loses (length head) (behind head old) old
head_lost head None = tt
head_lost head (Some xs) = sym (drop_at head xs (length head) refl)

-- some bytes after a head
pub after_head : (k : ℕ) (head : List ℕ) (old new : Option (List ℕ)) → length head ≤ k → ConsumesAtMost (k - length head) old new → ConsumesAtMost k (behind head old) new
after_head k head None new l c = tt
after_head k head (Some xs) None l c = c
after_head k head (Some xs) (Some ys) l c =
    let a = length head in
    let b = length xs - length ys in
    let n : length (head ++ xs) ≡ a + length xs = length-append head xs in
    let less : length ys ≤ length xs = omega (arith, ap length c.1, length-drop b xs) in
    let i : a + b ≡ length (head ++ xs) - length ys = omega (arith, n, less) in (
      omega (arith, n, c.0, l),
      c.1 ∙ ap (drop b) (sym (drop_at head xs a refl)) ∙ drop-drop b a (head ++ xs) ∙ ap (λ j. drop j (head ++ xs)) i,
    )

-- all bytes of a piece after its head
pub rest_lost : (k got : ℕ) (head rest : List ℕ) (old new : Option (List ℕ)) → length head + length rest ≡ k → got ≤ length rest → length rest ≤ got → Consumes old new (take got rest) → Loses k (behind head old) new
rest_lost k got head rest None new n b l e = tt
rest_lost k got head rest (Some xs) None n b l e = e
rest_lost k got head rest (Some xs) (Some ys) n b l e =
    let size : length (take got rest) ≡ length rest = length-take-le got rest b ∙ (omega (arith, b, l)) in
    sym (
    ap (λ m. drop m (head ++ xs)) (sym n) ∙ sym (drop-drop (length rest) (length head) (head ++ xs))
    ∙ ap (drop (length rest)) (drop_at head xs (length head) refl ∙ e) ∙ drop_at (take got rest) ys (length rest) size
    )

-- ---- the result beside them

pub takes_fault : (A : Type 0) (k : ℕ) (f : ContainerFault) (old new : Option (List ℕ)) → Loses k old new → Takes {A = A} k (Err f) old new
takes_fault A k fault.Read old new h = loses_most k old new h
takes_fault A k fault.Memory old new h = loses_most k old new h
takes_fault A k fault.Magic old new h = h
takes_fault A k fault.Gzip old new h = h
takes_fault A k (fault.LinkType n) old new h = h
takes_fault A k fault.Truncated old new h = h
takes_fault A k fault.TooLong old new h = h
takes_fault A k fault.Block old new h = h
takes_fault A k fault.Time old new h = h
takes_fault A k fault.Failed old new h = h

pub takes_result : {A : Type 0} (k : ℕ) (r : Result A ContainerFault) (old new : Option (List ℕ)) → Loses k old new → Takes k r old new
takes_result k (Ok value) old new h = h
takes_result {A = A} k (Err f) old new h = takes_fault A k f old new h

-- the same fault of a part and of the whole
pub takes_passed : (A B : Type 0) (k : ℕ) (f : ContainerFault) (old new : Option (List ℕ)) → Takes {A = A} k (Err f) old new → Takes {A = B} k (Err f) old new
takes_passed A B k fault.Read old new h = h
takes_passed A B k fault.Memory old new h = h
takes_passed A B k fault.Magic old new h = h
takes_passed A B k fault.Gzip old new h = h
takes_passed A B k (fault.LinkType n) old new h = h
takes_passed A B k fault.Truncated old new h = h
takes_passed A B k fault.TooLong old new h = h
takes_passed A B k fault.Block old new h = h
takes_passed A B k fault.Time old new h = h
takes_passed A B k fault.Failed old new h = h

-- ---- the next piece

pub next_failed : (left : ℕ) (c : Container) (k : ℕ) (old new : Option (List ℕ)) → k ≤ head_length c → ConsumesAtMost k old new → TakesNext {A = ReaderStep} (Pieces c left) (Err fault.Read) old new
next_failed left c k None new l h = tt
next_failed left c k (Some xs) new l h = most_more k (taken_by (head_length c) (next_length left c xs)) (Some xs) new (omega (arith, l, next_least left c xs)) h

pub next_lost : (left : ℕ) (c : Container) (got : ℕ) (h : List ℕ) (old new : Option (List ℕ)) (r : Result ReaderStep ContainerFault) → got ≤ head_length c → got ≤ length h → Consumes old new (take got h) → IsAtEnd new
    → TakesNext (Pieces c left) r old new
next_lost left c got h None new r b l e d = tt
next_lost left c got h (Some xs) new r b l e d =
    let k = taken_by (head_length c) (next_length left c xs) in
    takes_result k r (Some xs) new (all_lost k got h (Some xs) new (omega (arith, b, next_least left c xs)) l e d)

pub next_taken : (left : ℕ) (c : Container) (head : List ℕ) (old mid new : Option (List ℕ)) (r : Result ReaderStep ContainerFault) → 0 < left → length head ≡ head_length c → Consumes old mid head
    → Takes (taken_by (length head) (stated_length c head)) r (behind head mid) new → TakesNext (Pieces c left) r old new
next_taken left c head None mid new r some l e t = tt
next_taken left c head (Some xs) None new r some l e t = absurd e
next_taken left c head (Some xs) (Some ms) new r some l e t =
    let k : taken_by (length head) (stated_length c head) ≡ taken_by (head_length c) (next_length left c xs) =
    ap (λ n. taken_by n (stated_length c head)) l ∙ ap (taken_by (head_length c)) (sym (next_is left c head ms xs some l e)) in
    subst (λ n. Takes n r (Some xs) new) k (subst (λ it. Takes (taken_by (length head) (stated_length c head)) r (Some it) new) (sym e) t)

-- ---- the beginning of a file

pub first_failed : (k : ℕ) (old new : Option (List ℕ)) → k ≤ 12 → ConsumesAtMost k old new → TakesNext {A = ReaderStep} Unbegun (Err fault.Read) old new
first_failed k None new l h = tt
first_failed k (Some xs) new l h = most_more k (taken_by 12 (first_length xs)) (Some xs) new (omega (arith, l, first_least xs)) h

pub first_lost : (got : ℕ) (h : List ℕ) (old new : Option (List ℕ)) (r : Result ReaderStep ContainerFault) → got ≤ 12 → got ≤ length h → Consumes old new (take got h) → IsAtEnd new → TakesNext Unbegun r old new
first_lost got h None new r b l e d = tt
first_lost got h (Some xs) new r b l e d =
    let k = taken_by 12 (first_length xs) in
    takes_result k r (Some xs) new (all_lost k got h (Some xs) new (omega (arith, b, first_least xs)) l e d)

pub blocks_taken : (head : List ℕ) (old mid new : Option (List ℕ)) (r : Result ReaderStep ContainerFault) → length head ≡ 12 → is_section head ≡ true → Consumes old mid head
    → Takes (taken_by (length head) (stated_length (Blocks Big) head)) r (behind head mid) new → TakesNext Unbegun r old new
blocks_taken head None mid new r l s e t = tt
blocks_taken head (Some xs) None new r l s e t = absurd e
blocks_taken head (Some xs) (Some ms) new r l s e t =
    let k : taken_by (length head) (stated_length (Blocks Big) head) ≡ taken_by 12 (first_length xs) =
    ap (λ n. taken_by n (stated_length (Blocks Big) head)) l ∙ ap (taken_by 12) (sym (first_is head ms xs l s e)) in
    subst (λ n. Takes n r (Some xs) new) k (subst (λ it. Takes (taken_by (length head) (stated_length (Blocks Big) head)) r (Some it) new) (sym e) t)

pub classic_taken : (head : List ℕ) (old mid new : Option (List ℕ)) (r : Result ReaderStep ContainerFault) → length head ≡ 12 → is_section head ≡ false → Consumes old mid head
    → Takes 24 r (behind head mid) new → TakesNext Unbegun r old new
classic_taken head None mid new r l s e t = tt
classic_taken head (Some xs) None new r l s e t = absurd e
classic_taken head (Some xs) (Some ms) new r l s e t =
    let k : 24 ≡ taken_by 12 (first_length xs) = ap (taken_by 12) (sym (classic_is head ms xs l s e)) in
    subst (λ n. Takes n r (Some xs) new) k (subst (λ it. Takes 24 r (Some it) new) (sym e) t)

-- ---- a piece after its head

pub head_refused : (c : Container) (head : List ℕ) (old : Option (List ℕ)) (f : ContainerFault) → judged (head_faults c head) (extent_of c head) ≡ Err f
    → Takes {A = FoundPiece} (taken_by (length head) (stated_length c head)) (Err f) (behind head old) old
head_refused c head old f e =
    let none : stated_length c head ≡ None = named_none (head_faults c head) (extent_of c head) f (piece_length c head) e in
    subst (λ it. Takes {A = FoundPiece} (taken_by (length head) it) (Err f) (behind head old) old) (sym none)
    (takes_fault FoundPiece (length head) f (behind head old) old (head_lost head old))

pub rest_refused : (c : Container) (head : List ℕ) (size : ℕ) (old new : Option (List ℕ)) (f : ContainerFault) → head_faults c head ≡ [] → size ≡ piece_length c head
    → Takes {A = Unit {0}} size (Err f) (behind head old) new → Takes {A = FoundPiece} (taken_by (length head) (stated_length c head)) (Err f) (behind head old) new
rest_refused c head size old new f none e t =
    subst (λ it. Takes {A = FoundPiece} (taken_by (length head) it) (Err f) (behind head old) new) (sym (named_ok c head size none e))
    (takes_passed (Unit {0}) FoundPiece size f (behind head old) new t)

pub piece_lost : (c : Container) (head : List ℕ) (size : ℕ) (old new : Option (List ℕ)) (r : Result FoundPiece ContainerFault) → head_faults c head ≡ [] → size ≡ piece_length c head
    → Loses size (behind head old) new → Takes (taken_by (length head) (stated_length c head)) r (behind head old) new
piece_lost c head size old new r none e t =
    subst (λ it. Takes (taken_by (length head) it) r (behind head old) new) (sym (named_ok c head size none e))
    (takes_result size r (behind head old) new t)
