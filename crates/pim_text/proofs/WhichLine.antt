-- Which line is asked for, by what is asked for.
use Rattle.pim_text.proofs.Words.{◌≡◌, ap, refl, ℕ, zero, suc, ◌<◌, ◌≤◌, true, List, Some, codes, get_or, arith}
use Rattle.pim_text.proofs.Words.{false≢true, Entry, AnyAddress, DelayLine, SetLine, Line, Hello, Holdtime, Delays}
use Rattle.pim_text.proofs.Words.{Priority, Generation, Secondary, Head, Set, Join, Prune, Expected, Message}
use Rattle.pim_text.proofs.Words.{IsEntryLine, IsLine, after, after_body, is_option}
use Rattle.pim_text.specs.declared.line.Head.{Head as HeadLine}
use Rattle.pim_text.proofs.FieldEnds.{same_some, not_some}

pub a_join : (j p s : ℕ) (text : List ℕ) (line : Line) (next : Expected) → 0 < j → after_body j p s line ≡ Some next → IsLine line text → (e : Entry AnyAddress) × IsEntryLine (codes "join ") e text × (line ≡ Join e)
a_join zero p s text line next some expects is = absurd (omega (arith, some))
a_join (suc j) p s text (Join e) next some expects is = (e, is, refl)
a_join (suc j) p s text line next some expects is = absurd (not_some next expects)

pub a_prune : (j p s : ℕ) (text : List ℕ) (line : Line) (next : Expected) → j ≤ 0 → 0 < p → after_body j p s line ≡ Some next → IsLine line text → (e : Entry AnyAddress) × IsEntryLine (codes "prune ") e text × (line ≡ Prune e)
a_prune (suc j) p s text line next none some expects is = absurd (omega (arith, none))
a_prune zero zero s text line next none some expects is = absurd (omega (arith, some))
a_prune zero (suc p) s text (Prune e) next none some expects is = (e, is, refl)
a_prune zero (suc p) s text line next none some expects is = absurd (not_some next expects)

pub a_set : (j p s : ℕ) (text : List ℕ) (line : Line) (next : Expected) → j ≤ 0 → p ≤ 0 → after_body j p s line ≡ Some next → IsLine line text → (x : SetLine) × IsLine (Set x) text × (line ≡ Set x)
a_set (suc j) p s text line next none nor expects is = absurd (omega (arith, none))
a_set zero (suc p) s text line next none nor expects is = absurd (omega (arith, nor))
a_set zero zero zero text line next none nor expects is = absurd (not_some next expects)
a_set zero zero (suc s) text (Set x) next none nor expects is = (x, is, refl)
a_set zero zero (suc s) text line next none nor expects is = absurd (not_some next expects)

pub a_head : (text : List ℕ) (line : Line) (next : Expected) → (text ≡ codes "hello\n" → ⊥) → after Message line ≡ Some next → IsLine line text → (h : HeadLine) × IsLine (Head h) text × (line ≡ Head h)
a_head text Hello next other expects is = absurd (other is)
a_head text (Head h) next other expects is = (h, is, refl)
a_head text line next other expects is = absurd (not_some next expects)

-- ---- options

abbrev letter : Line → ℕ
letter (Holdtime n) = 104
letter (Delays d) = 108
letter (Priority n) = 100
letter (Generation n) = 103
letter line = 97

first_byte : (line : Line) (text : List ℕ) → is_option line ≡ true → IsLine line text → get_or text 0 0 ≡ letter line
first_byte (Holdtime n) text so is = ap (λ (l : List ℕ). get_or l 0 0) is.1
first_byte (Delays d) text so is = ap (λ (l : List ℕ). get_or l 0 0) is.2
first_byte (Priority n) text so is = ap (λ (l : List ℕ). get_or l 0 0) is.1
first_byte (Generation n) text so is = ap (λ (l : List ℕ). get_or l 0 0) is.1
first_byte (Secondary a) text so is = ap (λ (l : List ℕ). get_or l 0 0) is.2
first_byte line text so is = absurd (false≢true so)

module _ (text : List ℕ) where
  pub only_delays : (d : DelayLine) → IsLine (Delays d) text → ((x : DelayLine) → IsLine (Delays x) text → Some d ≡ Some x) → (line : Line) → is_option line ≡ true → IsLine line text → Some (Delays d) ≡ Some line
  only_delays d is only (Delays x) so too = ap (λ (y : DelayLine). Some (Delays y)) (same_some d x (only x too))
  only_delays d is only (Holdtime x) so too = absurd (omega (arith, first_byte (Delays d) text refl is, first_byte (Holdtime x) text so too))
  only_delays d is only (Priority x) so too = absurd (omega (arith, first_byte (Delays d) text refl is, first_byte (Priority x) text so too))
  only_delays d is only (Generation x) so too = absurd (omega (arith, first_byte (Delays d) text refl is, first_byte (Generation x) text so too))
  only_delays d is only (Secondary x) so too = absurd (omega (arith, first_byte (Delays d) text refl is, first_byte (Secondary x) text so too))
  only_delays d is only line so too = absurd (false≢true so)

  pub only_secondary : (a : AnyAddress) → IsLine (Secondary a) text → ((x : AnyAddress) → IsLine (Secondary x) text → Some a ≡ Some x) → (line : Line) → is_option line ≡ true → IsLine line text → Some (Secondary a) ≡ Some line
  only_secondary a is only (Secondary x) so too = ap (λ (y : AnyAddress). Some (Secondary y)) (same_some a x (only x too))
  only_secondary a is only (Holdtime n) so too = absurd (omega (arith, first_byte (Secondary a) text refl is, first_byte (Holdtime n) text so too))
  only_secondary a is only (Delays d) so too = absurd (omega (arith, first_byte (Secondary a) text refl is, first_byte (Delays d) text so too))
  only_secondary a is only (Priority n) so too = absurd (omega (arith, first_byte (Secondary a) text refl is, first_byte (Priority n) text so too))
  only_secondary a is only (Generation n) so too = absurd (omega (arith, first_byte (Secondary a) text refl is, first_byte (Generation n) text so too))
  only_secondary a is only line so too = absurd (false≢true so)

  pub no_option : ((n : ℕ) → IsLine (Holdtime n) text → ⊥) → ((d : DelayLine) → IsLine (Delays d) text → ⊥) → ((n : ℕ) → IsLine (Priority n) text → ⊥) → ((n : ℕ) → IsLine (Generation n) text → ⊥) → ((a : AnyAddress) → IsLine (Secondary a) text → ⊥)
      → (line : Line) → is_option line ≡ true → IsLine line text → ⊥
  no_option h d p g a (Holdtime n) so is = h n is
  no_option h d p g a (Delays x) so is = d x is
  no_option h d p g a (Priority n) so is = p n is
  no_option h d p g a (Generation n) so is = g n is
  no_option h d p g a (Secondary x) so is = a x is
  no_option h d p g a line so is = absurd (false≢true so)
