-- How a capture begins, and how the reading of its next piece begins.
use Rattle.pim_container.proofs.Words.{◌≡◌, ℕ, ◌+◌, ◌<◌, ◌≤◌, ◌⊎◌, Bool, true, false, nat_lt, List, [], ◌∷◌, ◌++◌, length, take}
use Rattle.pim_container.proofs.Words.{drop, Option, Some, None, Result, Ok, Err, IfSome, ap, sym, ◌∙◌, subst, arith, refl, inl}
use Rattle.pim_container.proofs.Words.{inr, if◌then◌else◌, option_map, Consumes, IsAtEnd, take_at, drop_at, take_all}
use Rattle.pim_container.proofs.Words.{length-append, length-take-le, common_steps, Answers, most_records, Big, ContainerFault}
use Rattle.pim_container.proofs.Words.{Interface, ClassicFormat, Container, Classic, Blocks, ReaderStep, section, ended}
use Rattle.pim_container.proofs.Words.{is_section, judge_header, Answer, answers, classic_answers, judge_beginning, pieces}
use Rattle.pim_container.proofs.Words.{judge_piece, piece_event, container_after, unless_fault, unless_faults, head_length}
use Rattle.pim_container.proofs.Words.{head_of, piece_of, piece_length, head_faults, fault_if, IsNext, IsRefusal, CountsReads}
use Rattle.pim_container.proofs.Words.{FillsAfter, BeginsClassic, Reads, behind}
use Rattle.pim_container.specs.declared.fault.ContainerFault.TheVariants as fault
use Rattle.pim_container.proofs.Steps.{pieces_end, pieces_bound, at_fault, failed}

-- ---- what came of known bytes

came : (h xs ys : List ℕ) (got : ℕ) → got ≤ length h → xs ≡ take got h ++ ys → length xs ≡ got + length ys
came h xs ys got b e = ap length e ∙ length-append (take got h) ys ∙ ap (λ n. n + length ys) (length-take-le got h b)

-- all of a head was read
pub all_read : (old new : Option (List ℕ)) (h : List ℕ) (got : ℕ) → length h ≤ got → Consumes old new (take got h) → Consumes old new h
all_read old new h got l e = subst (λ bs. Consumes old new bs) (take_all got h l) e

-- ---- a piece whose head isn't whole

short : (c : Container) (is : List Interface) (xs : List ℕ) → length xs < head_length c → judge_piece c is xs ≡ Err fault.Truncated
short c is xs h =
    let reported = piece_event (container_after c (head_of c xs)) is (piece_of c xs) in
    let test : nat_lt (length xs) (head_length c) ≡ true = grind (arith, common_steps) in
    ap (λ b. unless_faults (if b then fault.Truncated ∷ [] else head_faults c (head_of c xs) ++ fault_if (nat_lt (length xs) (piece_length c (head_of c xs))) fault.Truncated) reported) test

pub end_known : (left : ℕ) (c : Container) (is : List Interface) (old new : Option (List ℕ)) (h : List ℕ) (got : ℕ) (after : List ℕ → List Answer) → got ≡ 0 → Consumes old new (take got h) → IsAtEnd new
    → IsNext (option_map (pieces left c is) old) (Ok ended) (option_map after new)
end_known left c is None new h got after z e d = tt
end_known left c is (Some xs) None h got after z e d = absurd e
end_known left c is (Some xs) (Some ys) h got after z e d =
    let none : xs ≡ [] = e ∙ ap (λ n. take n h ++ ys) z ∙ d in ap (pieces left c is) none ∙ pieces_end left c is

pub bound_known : (left : ℕ) (c : Container) (is : List Interface) (old new : Option (List ℕ)) (h : List ℕ) (got : ℕ) (after : List ℕ → List Answer) → left ≡ 0 → 0 < got → got ≤ length h → Consumes old new (take got h)
    → IsNext (option_map (pieces left c is) old) (Err fault.Read) (option_map after new)
bound_known left c is None new h got after z some b e = tt
bound_known left c is (Some xs) None h got after z some b e = absurd e
bound_known left c is (Some xs) (Some ys) h got after z some b e =
    let n = came h xs ys got b e in
    let there : 0 < length xs = omega (arith, n, some) in
    pieces_bound left c is xs z there

pub cut_known : (left : ℕ) (c : Container) (is : List Interface) (old new : Option (List ℕ)) (h : List ℕ) (got : ℕ) (after : List ℕ → List Answer) → 0 < left → 0 < got → got < head_length c → got ≤ length h
    → Consumes old new (take got h) → IsAtEnd new → IsNext (option_map (pieces left c is) old) (Err fault.Truncated) (option_map after new)
cut_known left c is None new h got after some there cut b e d = tt
cut_known left c is (Some xs) None h got after some there cut b e d = absurd e
cut_known left c is (Some xs) (Some ys) h got after some there cut b e d =
    let n = came h xs ys got b e in
    let none : length ys ≡ 0 = ap length d in
    let some_there : 0 < length xs = omega (arith, n, there) in
    let less : length xs < head_length c = omega (arith, n, none, cut) in
    at_fault left c is xs fault.Truncated some some_there (short c is xs less)

-- ---- the results of a step from a part of the bytes

pub tells_from : (n n' : ℕ) (old : Option (List ℕ)) (f : List ℕ → List Answer) (all : Option (List Answer)) (new : Option (List ℕ)) (is : List Interface) (bytes : List ℕ) (r : Result ReaderStep ContainerFault)
    → IfSome old (λ xs. all ≡ Some (f xs)) → Reads n n' all new is bytes r → Reads n n' (option_map f old) new is bytes r
tells_from n n' None f all new is bytes (Ok step) h t = tt
tells_from n n' None f all new is bytes (Err fault) h t = inr tt
tells_from n n' (Some xs) f all new is bytes r h t = subst (λ it. Reads n n' it new is bytes r) h t

pub piece_begins : (left : ℕ) (c : Container) (is : List Interface) (old mid : Option (List ℕ)) (head : List ℕ) → Consumes old mid head
    → IfSome old (λ xs. option_map (pieces left c is) (behind head mid) ≡ Some (pieces left c is xs))
piece_begins left c is None mid head e = tt
piece_begins left c is (Some xs) None head e = absurd e
piece_begins left c is (Some xs) (Some ms) head e = ap (λ it. Some (pieces left c is it)) (sym e)

-- ---- which container begins

pub section_front : (head ms : List ℕ) → 4 ≤ length head → is_section (head ++ ms) ≡ is_section head
section_front [] ms l = absurd (omega arith)
section_front (a ∷ []) ms l = absurd (omega arith)
section_front (a ∷ b ∷ []) ms l = absurd (omega arith)
section_front (a ∷ b ∷ d ∷ []) ms l = absurd (omega arith)
section_front (a ∷ b ∷ d ∷ e ∷ hs) ms l = refl

chosen : (t t' : Bool) (x y : List Answer) → t ≡ t' → (if t then x else y) ≡ (if t' then x else y)
chosen t t' x y e = ap (λ b. if b then x else y) e

is_classic : (xs head ms : List ℕ) → length head ≡ 12 → is_section head ≡ false → xs ≡ head ++ ms → answers xs ≡ classic_answers xs
is_classic xs head ms l s e =
    chosen (is_section xs) false (pieces most_records (Blocks Big) [] xs) (classic_answers xs) (ap is_section e ∙ section_front head ms (omega arith) ∙ s)

-- a file that is too short for either
either : (t : Bool) (x y z : List Answer) → x ≡ z → y ≡ z → (if t then x else y) ≡ z
either true x y z a b = a
either false x y z a b = b

beginning_cut : (xs : List ℕ) → length xs < 24 → classic_answers xs ≡ Err fault.Truncated ∷ []
beginning_cut xs h =
    let test : nat_lt (length xs) 24 ≡ true = grind (arith, common_steps) in
    ap (λ b. unless_fault (if b then Err fault.Truncated else judge_header (take 24 xs)) (λ format. Ok section ∷ pieces most_records (Classic format) [] (drop 24 xs))) test

short_begins : (xs : List ℕ) → length xs < 12 → answers xs ≡ Err fault.Truncated ∷ []
short_begins [] h = refl
short_begins (x ∷ xs) h =
    either (is_section (x ∷ xs)) (pieces most_records (Blocks Big) [] (x ∷ xs)) (classic_answers (x ∷ xs)) (Err fault.Truncated ∷ [])
    (at_fault most_records (Blocks Big) [] (x ∷ xs) fault.Truncated (omega arith) (omega arith) (short (Blocks Big) [] (x ∷ xs) h))
    (beginning_cut (x ∷ xs) (omega (arith, h)))

pub short_known : (old new : Option (List ℕ)) (h : List ℕ) (got : ℕ) (after : List ℕ → List Answer) → got < 12 → got ≤ length h → Consumes old new (take got h) → IsAtEnd new
    → IsNext (option_map answers old) (Err fault.Truncated) (option_map after new)
short_known None new h got after cut b e d = tt
short_known (Some xs) None h got after cut b e d = absurd e
short_known (Some xs) (Some ys) h got after cut b e d =
    let n = came h xs ys got b e in
    let none : length ys ≡ 0 = ap length d in
    let less : length xs < 12 = omega (arith, n, none, cut) in
    short_begins xs less

-- ---- a classic file

header_read : (head bytes xs ys : List ℕ) → length bytes ≡ 24 → head ++ xs ≡ bytes ++ ys → (judge_beginning (head ++ xs) ≡ judge_header bytes) × (ys ≡ drop 24 (head ++ xs))
header_read head bytes xs ys l e =
    let n : length (head ++ xs) ≡ length bytes + length ys = ap length e ∙ length-append bytes ys in
    let test : nat_lt (length (head ++ xs)) 24 ≡ false = grind (arith, common_steps) in (
      ap (λ b. if b then Err fault.Truncated else judge_header (take 24 (head ++ xs))) test ∙ ap (λ it. judge_header (take 24 it)) e ∙ ap judge_header (take_at bytes ys 24 l),
      sym (ap (drop 24) e ∙ drop_at bytes ys 24 l),
    )

classic_fault : (xs ys : List ℕ) (f : ContainerFault) → judge_beginning xs ≡ Err f → BeginsClassic (Some xs) (Some ys) (Err f)
classic_fault xs ys fault.Magic e = e
classic_fault xs ys fault.Gzip e = e
classic_fault xs ys (fault.LinkType n) e = e
classic_fault xs ys fault.Truncated e = e
classic_fault xs ys fault.TooLong e = e
classic_fault xs ys fault.Block e = e
classic_fault xs ys fault.Time e = e
classic_fault xs ys fault.Read e = tt
classic_fault xs ys fault.Memory e = tt
classic_fault xs ys fault.Failed e = e

pub header_known : (head bytes : List ℕ) (old new : Option (List ℕ)) (r : Result ClassicFormat ContainerFault) → FillsAfter head 24 old new bytes (Ok tt) → Answers (λ it. it) r (judge_header bytes)
    → BeginsClassic (behind head old) new r
header_known head bytes None new r fills a = tt
header_known head bytes (Some xs) None r fills a = absurd fills.2
header_known head bytes (Some xs) (Some ys) (Ok format) fills a =
    let h = header_read head bytes xs ys fills.0 fills.2 in (h.0 ∙ a, h.1)
header_known head bytes (Some xs) (Some ys) (Err f) fills a =
    let h = header_read head bytes xs ys fills.0 fills.2 in classic_fault (head ++ xs) ys f (h.0 ∙ a)

classic_at_fault : (xs head ms : List ℕ) (f : ContainerFault) → length head ≡ 12 → is_section head ≡ false → xs ≡ head ++ ms → judge_beginning (head ++ ms) ≡ Err f → answers xs ≡ Err f ∷ []
classic_at_fault xs head ms f l s e b =
    is_classic xs head ms l s e
    ∙ ap (λ r. unless_fault r (λ it. Ok section ∷ pieces most_records (Classic it) [] (drop 24 xs))) (ap judge_beginning e ∙ b)

pub classic_fault_known : (old mid new : Option (List ℕ)) (head : List ℕ) (f : ContainerFault) (n n' : ℕ) (after : List ℕ → List Answer) → length head ≡ 12 → is_section head ≡ false → Consumes old mid head
    → BeginsClassic (behind head mid) new (Err f) → CountsReads {A = ClassicFormat} ⊥ n n' (Err f) → IsRefusal {A = ReaderStep} n n' (Err f) ⊎ IsNext (option_map answers old) (Err f) (option_map after new)
classic_fault_known None mid new head f n n' after l s e b k = inr tt
classic_fault_known (Some xs) None new head f n n' after l s e b k = absurd e
classic_fault_known (Some xs) (Some ms) None head f n n' after l s e b k = absurd b
classic_fault_known (Some xs) (Some ms) (Some ys) head fault.Read n n' after l s e b (inl k) = inl (failed n n' k)
classic_fault_known (Some xs) (Some ms) (Some ys) head fault.Read n n' after l s e b (inr k) = absurd k.0
classic_fault_known (Some xs) (Some ms) (Some ys) head fault.Memory n n' after l s e b k = inl tt
classic_fault_known (Some xs) (Some ms) (Some ys) head fault.Magic n n' after l s e b k = inr (classic_at_fault xs head ms fault.Magic l s e b)
classic_fault_known (Some xs) (Some ms) (Some ys) head fault.Gzip n n' after l s e b k = inr (classic_at_fault xs head ms fault.Gzip l s e b)
classic_fault_known (Some xs) (Some ms) (Some ys) head (fault.LinkType m) n n' after l s e b k = inr (classic_at_fault xs head ms (fault.LinkType m) l s e b)
classic_fault_known (Some xs) (Some ms) (Some ys) head fault.Truncated n n' after l s e b k = inr (classic_at_fault xs head ms fault.Truncated l s e b)
classic_fault_known (Some xs) (Some ms) (Some ys) head fault.TooLong n n' after l s e b k = inr (classic_at_fault xs head ms fault.TooLong l s e b)
classic_fault_known (Some xs) (Some ms) (Some ys) head fault.Block n n' after l s e b k = inr (classic_at_fault xs head ms fault.Block l s e b)
classic_fault_known (Some xs) (Some ms) (Some ys) head fault.Time n n' after l s e b k = inr (classic_at_fault xs head ms fault.Time l s e b)
classic_fault_known (Some xs) (Some ms) (Some ys) head fault.Failed n n' after l s e b k = inr (classic_at_fault xs head ms fault.Failed l s e b)
