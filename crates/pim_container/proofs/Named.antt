-- The length that the head of a piece names.
use Rattle.pim_container.proofs.Words.{◌≡◌, ℕ, ◌+◌, ◌<◌, ◌≤◌, ◌⊎◌, max, Bool, true, false, ◌==◌, ◌||◌, nat_lt, List, [], ◌∷◌}
use Rattle.pim_container.proofs.Words.{◌++◌, length, Option, Some, None, Err, IfSome, ap, sym, ◌∙◌, subst, arith, refl, inl, inr}
use Rattle.pim_container.proofs.Words.{is_ok, if◌then◌else◌, option_map, Consumes, false≢true, length-append, common_steps}
use Rattle.pim_container.proofs.Words.{judged, most_records, Big, ContainerFault, Container, Blocks, is_section, most_block}
use Rattle.pim_container.proofs.Words.{head_length, piece_length, head_faults, head_of, behind, Unbegun, Pieces, unless_any}
use Rattle.pim_container.proofs.Words.{stated_length, next_length, first_length, taken_by, GrowsBy, GrowsFor, LacksRoom}
use Rattle.pim_container.proofs.Words.{DescribesFirst, DescribesNext}
use Rattle.pim_container.proofs.Whole.{head_is, head_le, piece_most}
use Rattle.pim_container.proofs.Beginnings.{section_front}

pub named_ok : (c : Container) (head : List ℕ) (size : ℕ) → head_faults c head ≡ [] → size ≡ piece_length c head → stated_length c head ≡ Some size
named_ok c head size none e = ap (λ faults. unless_any faults (piece_length c head)) none ∙ ap Some (sym e)

pub named_none : {A : Type 0} (faults : List ContainerFault) (value : A) (f : ContainerFault) (size : ℕ) → judged faults value ≡ Err f → unless_any faults size ≡ None
named_none [] value f size e = absurd (false≢true (sym (ap is_ok e)))
named_none (g ∷ faults) value f size e = refl

-- ---- a call takes the head at least

least_by : (c : Container) (head : List ℕ) (faults : List ContainerFault) → head_faults c head ≡ faults → head_length c ≤ taken_by (head_length c) (unless_any faults (piece_length c head))
least_by c head [] e = head_le c head e
least_by c head (f ∷ faults) e = omega arith

pub taken_least : (c : Container) (head : List ℕ) → head_length c ≤ taken_by (head_length c) (stated_length c head)
taken_least c head = least_by c head (head_faults c head) refl

if_least : (b : Bool) (n : ℕ) (length_ahead : Option ℕ) → n ≤ taken_by n length_ahead → n ≤ taken_by n (if b then None else length_ahead)
if_least true n length_ahead h = omega arith
if_least false n length_ahead h = h

either_least : (b : Bool) (n : ℕ) (one other : Option ℕ) → n ≤ taken_by n one → n ≤ taken_by n other → n ≤ taken_by n (if b then one else other)
either_least true n one other h k = h
either_least false n one other h k = k

pub next_least : (left : ℕ) (c : Container) (bytes : List ℕ) → head_length c ≤ taken_by (head_length c) (next_length left c bytes)
next_least left c bytes =
    if_least (left == 0 || nat_lt (length bytes) (head_length c)) (head_length c) (stated_length c (head_of c bytes)) (taken_least c (head_of c bytes))

pub first_least : (bytes : List ℕ) → 12 ≤ taken_by 12 (first_length bytes)
first_least bytes =
    let short : Option ℕ = if nat_lt (length bytes) 12 then None else Some 24 in
    either_least (is_section bytes) 12 (next_length most_records (Blocks Big) bytes) short (next_least most_records (Blocks Big) bytes)
    (if_least (nat_lt (length bytes) 12) 12 (Some 24) (omega arith))

-- ---- of bytes that begin with a head

pub next_is : (left : ℕ) (c : Container) (head ms xs : List ℕ) → 0 < left → length head ≡ head_length c → xs ≡ head ++ ms → next_length left c xs ≡ stated_length c head
next_is left c head ms xs some l e =
    let n : length xs ≡ length head + length ms = ap length e ∙ length-append head ms in
    let test : (left == 0 || nat_lt (length xs) (head_length c)) ≡ false = grind (arith, common_steps) in
    ap (λ b. if b then None else stated_length c (head_of c xs)) test ∙ ap (stated_length c) (ap (head_of c) e ∙ head_is c head ms l)

long_enough : (head ms xs : List ℕ) → length head ≡ 12 → xs ≡ head ++ ms → nat_lt (length xs) 12 ≡ false
long_enough head ms xs l e =
    let n : length xs ≡ length head + length ms = ap length e ∙ length-append head ms in grind (arith, common_steps)

pub first_is : (head ms xs : List ℕ) → length head ≡ 12 → is_section head ≡ true → xs ≡ head ++ ms → first_length xs ≡ stated_length (Blocks Big) head
first_is head ms xs l s e =
    let begins : is_section xs ≡ true = ap is_section e ∙ section_front head ms (omega arith) ∙ s in
    ap (λ b. if b then next_length most_records (Blocks Big) xs else (if nat_lt (length xs) 12 then None else Some 24)) begins
    ∙ next_is most_records (Blocks Big) head ms xs (omega arith) l e

pub classic_is : (head ms xs : List ℕ) → length head ≡ 12 → is_section head ≡ false → xs ≡ head ++ ms → first_length xs ≡ Some 24
classic_is head ms xs l s e =
    let begins : is_section xs ≡ false = ap is_section e ∙ section_front head ms (omega arith) ∙ s in
    ap (λ b. if b then next_length most_records (Blocks Big) xs else (if nat_lt (length xs) 12 then None else Some 24)) begins
    ∙ ap (λ b. if b then None else Some 24) (long_enough head ms xs l e)

-- ---- the capacity

grows_within : (size : Option ℕ) (old new most : ℕ) → GrowsBy size old new → new ≤ most → (old ≤ new) × (new ≤ most)
grows_within None old new most g m = (omega arith, m)
grows_within (Some n) old new most g m = (omega arith, m)

pub grows_next : (left : ℕ) (c : Container) (head : List ℕ) (old mid : Option (List ℕ)) (capacity capacity' : ℕ) → 0 < left → length head ≡ head_length c → Consumes old mid head
    → GrowsBy (stated_length c head) capacity capacity' → capacity' ≤ max capacity most_block → GrowsFor (option_map (next_length left c) old) capacity capacity'
grows_next left c head None mid capacity capacity' some l e g m = grows_within (stated_length c head) capacity capacity' (max capacity most_block) g m
grows_next left c head (Some xs) None capacity capacity' some l e g m = absurd e
grows_next left c head (Some xs) (Some ms) capacity capacity' some l e g m =
    subst (λ it. GrowsBy it capacity capacity') (sym (next_is left c head ms xs some l e)) g

pub grows_first : (head : List ℕ) (old mid : Option (List ℕ)) (capacity capacity' : ℕ) → length head ≡ 12 → is_section head ≡ true → Consumes old mid head
    → GrowsBy (stated_length (Blocks Big) head) capacity capacity' → capacity' ≤ max capacity most_block → GrowsFor (option_map first_length old) capacity capacity'
grows_first head None mid capacity capacity' l s e g m = grows_within (stated_length (Blocks Big) head) capacity capacity' (max capacity most_block) g m
grows_first head (Some xs) None capacity capacity' l s e g m = absurd e
grows_first head (Some xs) (Some ms) capacity capacity' l s e g m =
    subst (λ it. GrowsBy it capacity capacity') (sym (first_is head ms xs l s e)) g

pub grows_classic : (head : List ℕ) (old mid : Option (List ℕ)) (capacity capacity' : ℕ) → length head ≡ 12 → is_section head ≡ false → Consumes old mid head
    → GrowsBy (Some 24) capacity capacity' → GrowsFor (option_map first_length old) capacity capacity'
grows_classic head None mid capacity capacity' l s e g = (omega arith, omega arith)
grows_classic head (Some xs) None capacity capacity' l s e g = absurd e
grows_classic head (Some xs) (Some ms) capacity capacity' l s e g =
    subst (λ it. GrowsBy it capacity capacity') (sym (classic_is head ms xs l s e)) g

pub grows_not : (length_ahead : Option (Option ℕ)) (capacity : ℕ) → GrowsFor length_ahead capacity capacity
grows_not None capacity = (omega arith, omega arith)
grows_not (Some None) capacity = refl
grows_not (Some (Some size)) capacity = inl refl

-- ---- what memory is asked for

lacks_within : (c : Container) (head : List ℕ) (capacity : ℕ) (faults : List ContainerFault) → head_faults c head ≡ faults → LacksRoom capacity (Some (unless_any faults (piece_length c head))) → capacity < most_block
lacks_within c head capacity [] e h = omega (arith, piece_most c head e, h)
lacks_within c head capacity (f ∷ faults) e h = absurd h

pub asks_next : (left : ℕ) (c : Container) (head : List ℕ) (old mid : Option (List ℕ)) (capacity : ℕ) (full : Type 0) → 0 < left → length head ≡ head_length c → Consumes old mid head
    → LacksRoom capacity (Some (stated_length c head)) ⊎ (full × IfSome (behind head mid) (DescribesFirst c))
    → LacksRoom capacity (option_map (next_length left c) old) ⊎ (full × IfSome old (DescribesNext (Pieces c left)))
asks_next left c head None mid capacity full some l e (inl h) = inl (lacks_within c head capacity (head_faults c head) refl h)
asks_next left c head None mid capacity full some l e (inr h) = inr (h.0, tt)
asks_next left c head (Some xs) None capacity full some l e h = absurd e
asks_next left c head (Some xs) (Some ms) capacity full some l e (inl h) =
    inl (subst (λ it. LacksRoom capacity (Some it)) (sym (next_is left c head ms xs some l e)) h)
asks_next left c head (Some xs) (Some ms) capacity full some l e (inr h) = inr (h.0, (some, subst (DescribesFirst c) (sym e) h.1))

pub asks_first : (head : List ℕ) (old mid : Option (List ℕ)) (capacity : ℕ) (full full' : Type 0) → (full → full') → length head ≡ 12 → is_section head ≡ true → Consumes old mid head
    → LacksRoom capacity (Some (stated_length (Blocks Big) head)) ⊎ (full × IfSome (behind head mid) (DescribesFirst (Blocks Big)))
    → LacksRoom capacity (option_map first_length old) ⊎ (full' × IfSome old (DescribesNext Unbegun))
asks_first head None mid capacity full full' k l s e (inl h) = inl (lacks_within (Blocks Big) head capacity (head_faults (Blocks Big) head) refl h)
asks_first head None mid capacity full full' k l s e (inr h) = inr (k h.0, tt)
asks_first head (Some xs) None capacity full full' k l s e h = absurd e
asks_first head (Some xs) (Some ms) capacity full full' k l s e (inl h) =
    inl (subst (λ it. LacksRoom capacity (Some it)) (sym (first_is head ms xs l s e)) h)
asks_first head (Some xs) (Some ms) capacity full full' k l s e (inr h) =
    inr (k h.0, (ap is_section e ∙ section_front head ms (omega arith) ∙ s, subst (DescribesFirst (Blocks Big)) (sym e) h.1))

pub asks_classic : (head : List ℕ) (old mid : Option (List ℕ)) (capacity : ℕ) → length head ≡ 12 → is_section head ≡ false → Consumes old mid head
    → capacity < 24 → LacksRoom capacity (option_map first_length old)
asks_classic head None mid capacity l s e h = omega arith
asks_classic head (Some xs) None capacity l s e h = absurd e
asks_classic head (Some xs) (Some ms) capacity l s e h = subst (λ it. LacksRoom capacity (Some it)) (sym (classic_is head ms xs l s e)) h
