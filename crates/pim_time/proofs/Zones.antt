-- The zone at the end of a date.
use Rattle.pim_time.proofs.Words.{◌≡◌, ◌∙◌, sym, ap, refl, ℕ, ◌+◌, ◌/◌, ◌%◌, inl, inr, List, [], ◌∷◌, ◌++◌, length}
use Rattle.pim_time.proofs.Words.{get_or, arith, length-append, get_or-append-add, IsZoneLong, IsOffset, IsZone}
use Rattle.pim_time.proofs.Points.{cut_there}
use Rattle.std.specs.Prelude.{◌≢◌}

-- Two cuts of a text, of which the second parts are of one length, are one.
pub same_cut : (xs ys us vs : List ℕ) → length us ≡ length vs → xs ++ us ≡ ys ++ vs → (xs ≡ ys) × (us ≡ vs)
same_cut xs ys us vs long same =
    let place : length xs ≡ length ys = omega (arith, long, ap length same, length-append xs us, length-append ys vs) in
    let mine = cut_there (xs ++ us) xs us (length xs) refl refl in
    let yours = cut_there (xs ++ us) ys vs (length xs) same place in
    (sym mine.0 ∙ yours.0, sym mine.1 ∙ yours.1)

pub byte_at : (k : ℕ) (xs ys : List ℕ) → xs ≡ ys → get_or xs k 0 ≡ get_or ys k 0
byte_at k xs ys same = ap (λ t. get_or t k 0) same

-- ---- where a zone begins

other_end : (f g z w : List ℕ) → z ≡ 90 ∷ [] → length w ≡ 6 → get_or w 5 90 ≢ 90 → f ++ z ≡ g ++ w → ⊥
other_end f g z w is long other same =
    let one : length z ≡ 1 = ap length is in
    let place : length g + 5 ≡ length f + 0 = omega (arith, one, long, ap length same, length-append f z, length-append g w) in
    let mine : get_or (f ++ z) (length f + 0) 90 ≡ 90 = get_or-append-add f z 0 90 ∙ ap (λ t. get_or t 0 90) is in
    let yours : get_or (g ++ w) (length g + 5) 90 ≡ get_or w 5 90 = get_or-append-add g w 5 90 in
    other (sym yours ∙ (ap (λ n. get_or (g ++ w) n 90) place ∙ (ap (λ t. get_or t (length f + 0) 90) (sym same) ∙ mine)))

pub zones_cut : (f g z w : List ℕ) → IsZoneLong z → IsZoneLong w → f ++ z ≡ g ++ w → (f ≡ g) × (z ≡ w)
zones_cut f g z w (inl is) (inl also) same = same_cut f g z w (ap length (is ∙ sym also)) same
zones_cut f g z w (inl is) (inr also) same = absurd (other_end f g z w is also.0 also.1 same)
zones_cut f g z w (inr is) (inl also) same = absurd (other_end g f w z also is.0 is.1 (sym same))
zones_cut f g z w (inr is) (inr also) same = same_cut f g z w (is.0 ∙ sym also.0) same

offset_long : (sign minutes : ℕ) (zone : List ℕ) → IsOffset sign zone minutes → IsZoneLong zone
offset_long sign minutes zone is =
    let last : get_or zone 5 90 ≡ 48 + minutes % 60 % 10 = ap (λ t. get_or t 5 90) is.1 in
    inr (ap length is.1, λ other. omega (arith, last, other))

pub zone_long : (zone : List ℕ) (clock seconds : ℕ) → IsZone zone clock seconds → IsZoneLong zone
zone_long zone clock seconds (inl is) = inl is.0
zone_long zone clock seconds (inr (inl is)) = offset_long 43 is.0 zone is.1.0
zone_long zone clock seconds (inr (inr is)) = offset_long 45 is.0 zone is.1.0

-- ---- the clocks of a zone show one time

record SameOffset (sign other n m : ℕ) : Type 0 where
  pub signs : sign ≡ other
  pub minutes : n ≡ m

one_offset : (sign other n m : ℕ) (zone : List ℕ) → IsOffset sign zone n → IsOffset other zone m → SameOffset sign other n m
one_offset sign other n m zone is also =
    let same = sym is.1 ∙ also.1 in
    let b0 : sign ≡ other = byte_at 0 _ _ same in
    let b1 : 48 + n / 60 / 10 ≡ 48 + m / 60 / 10 = byte_at 1 _ _ same in
    let b2 : 48 + n / 60 % 10 ≡ 48 + m / 60 % 10 = byte_at 2 _ _ same in
    let b4 : 48 + n % 60 / 10 ≡ 48 + m % 60 / 10 = byte_at 4 _ _ same in
    let b5 : 48 + n % 60 % 10 ≡ 48 + m % 60 % 10 = byte_at 5 _ _ same in
    let hours : n / 60 ≡ m / 60 = omega (arith, b1, b2) in
    let minutes : n % 60 ≡ m % 60 = omega (arith, b4, b5) in
    record { signs = b0; minutes = omega (arith, hours, minutes) }

no_offset : (sign minutes : ℕ) (zone : List ℕ) → zone ≡ 90 ∷ [] → IsOffset sign zone minutes → ⊥
no_offset sign minutes zone is offset =
    let no : 1 ≡ 6 = ap length (sym is ∙ offset.1) in
    omega (arith, no)

other_sign : (n m : ℕ) (zone : List ℕ) → IsOffset 43 zone n → IsOffset 45 zone m → ⊥
other_sign n m zone is also =
    let signs : 43 ≡ 45 = (one_offset 43 45 n m zone is also).signs in
    omega (arith, signs)

pub one_zone : (zone : List ℕ) (clock n m : ℕ) → IsZone zone clock n → IsZone zone clock m → n ≡ m
one_zone zone clock n m (inl is) (inl also) = sym is.1 ∙ also.1
one_zone zone clock n m (inl is) (inr (inl also)) = absurd (no_offset 43 also.0 zone is.0 also.1.0)
one_zone zone clock n m (inl is) (inr (inr also)) = absurd (no_offset 45 also.0 zone is.0 also.1.0)
one_zone zone clock n m (inr (inl is)) (inl also) = absurd (no_offset 43 is.0 zone also.0 is.1.0)
one_zone zone clock n m (inr (inr is)) (inl also) = absurd (no_offset 45 is.0 zone also.0 is.1.0)
one_zone zone clock n m (inr (inl is)) (inr (inr also)) = absurd (other_sign is.0 also.0 zone is.1.0 also.1.0)
one_zone zone clock n m (inr (inr is)) (inr (inl also)) = absurd (other_sign also.0 is.0 zone also.1.0 is.1.0)
one_zone zone clock n m (inr (inl is)) (inr (inl also)) =
    let same = (one_offset 43 43 is.0 also.0 zone is.1.0 also.1.0).minutes in
    omega (arith, same, is.1.1, also.1.1)
one_zone zone clock n m (inr (inr is)) (inr (inr also)) =
    let same = (one_offset 45 45 is.0 also.0 zone is.1.0 also.1.0).minutes in
    omega (arith, same, is.1.1, also.1.1)
