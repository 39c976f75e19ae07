-- How the lists of a message are walked: one item, and then the others.
use Rattle.pim_jp.proofs.Words.{◌≡◌, ℕ, zero, suc, ◌+◌, ◌-◌, ◌*◌, ◌≤◌, ◌<◌, List, [], ◌∷◌, length, drop, refl, sym, ap}
use Rattle.pim_jp.proofs.Words.{◌∙◌, arith, drop-drop, AddressFamily, source_length, source_value, entry_of, entries_of}
use Rattle.pim_jp.proofs.Words.{set_of, sets_of, after_set, set_length, HoldsSets}
use Rattle.std.proofs.Math.Nat.{suc-mul, add-mul}

pub entries_count : (family : AddressFamily) (count : ℕ) (bytes : List ℕ) → length (entries_of family count bytes) ≡ count
unfolding entries_of
entries_count family zero bytes = refl
entries_count family (suc count) bytes = grind (arith, entries_count family count (drop (source_length family) bytes))

pub entries_end : (family : AddressFamily) (count : ℕ) (bytes : List ℕ) → count ≡ 0 → entries_of family count bytes ≡ []
unfolding entries_of
entries_end family count bytes e = rw e refl

pub entries_step : (family : AddressFamily) (count : ℕ) (bytes : List ℕ) → 0 < count
    → entries_of family count bytes ≡ entry_of (source_value family bytes) ∷ entries_of family (count - 1) (drop (source_length family) bytes)
unfolding entries_of
entries_step family zero bytes h = absurd (omega arith)
entries_step family (suc count) bytes h = let e : suc count - 1 ≡ count = omega arith in rw e refl

pub entries_passed : (family : AddressFamily) (count passed left : ℕ) (bytes : List ℕ) → count ≡ passed + left → entries_of family left (drop (passed * source_length family) bytes) ≡ drop passed (entries_of family count bytes)
unfolding entries_of
entries_passed family count zero left bytes e =
    let none : 0 * source_length family ≡ 0 = omega arith in
    let all : left ≡ count = omega arith in
    rw (none, all) refl
entries_passed family zero (suc passed) left bytes e = absurd (omega arith)
entries_passed family (suc count) (suc passed) left bytes e =
    let size = source_length family in
    let more : suc passed * size ≡ size + passed * size = omega (arith, suc-mul passed size) in
    rw more (ap (entries_of family left) (sym (drop-drop (passed * size) size bytes)) ∙ entries_passed family count passed left (drop size bytes) (omega arith))

pub entries_fit : (count passed left size : ℕ) → count ≡ passed + left → count * size ≡ passed * size + left * size
entries_fit count passed left size e = ap (λ n. n * size) e ∙ add-mul passed left size

pub sets_count : (family : AddressFamily) (count : ℕ) (bytes : List ℕ) → length (sets_of family count bytes) ≡ count
unfolding sets_of
sets_count family zero bytes = refl
sets_count family (suc count) bytes = grind (arith, sets_count family count (after_set family bytes))

pub sets_end : (family : AddressFamily) (count : ℕ) (bytes : List ℕ) → count ≡ 0 → sets_of family count bytes ≡ []
unfolding sets_of
sets_end family count bytes e = rw e refl

pub sets_step : (family : AddressFamily) (count : ℕ) (bytes : List ℕ) → 0 < count
    → sets_of family count bytes ≡ set_of family bytes ∷ sets_of family (count - 1) (after_set family bytes)
unfolding sets_of
sets_step family zero bytes h = absurd (omega arith)
sets_step family (suc count) bytes h = let e : suc count - 1 ≡ count = omega arith in rw e refl

pub holds_first : (family : AddressFamily) (count : ℕ) (bytes : List ℕ) → 0 < count → HoldsSets family count bytes → set_length family bytes ≤ length bytes
unfolding HoldsSets
holds_first family zero bytes h holds = absurd (omega arith)
holds_first family (suc count) bytes h holds = holds.0

pub holds_others : (family : AddressFamily) (count : ℕ) (bytes : List ℕ) → 0 < count → HoldsSets family count bytes → HoldsSets family (count - 1) (after_set family bytes)
unfolding HoldsSets
holds_others family zero bytes h holds = absurd (omega arith)
holds_others family (suc count) bytes h holds = let e : suc count - 1 ≡ count = omega arith in rw e holds.1
