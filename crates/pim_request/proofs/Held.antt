-- A text that is held line by line.
use Rattle.pim_request.proofs.Cited.{◌≡◌, ◌∙◌, sym, ap, refl, subst, ℕ, ◌<◌, ◌≤◌, Bool, true, false, ◌||◌, List, []}
use Rattle.pim_request.proofs.Cited.{◌∷◌, ◌++◌, length, arith, append_assoc, length-append, list_any, Text, text_after}
use Rattle.pim_request.proofs.Cited.{with_line, bytes_of_lines, has_long_line, is_long, text_limit, Holds, Held}
use Rattle.pim_request.proofs.Cited.{HoldsText, IsKnown, KeepsLine}
use Rattle.std.proofs.lemmas.List.Folds.{list_any-append}

-- ---- the bytes of lines

no_line : bytes_of_lines [] ≡ []
unfolding bytes_of_lines
no_line = refl

one_more : (lines : List (List ℕ)) (line : List ℕ) → bytes_of_lines (lines ++ line ∷ []) ≡ bytes_of_lines lines ++ (line ++ 10 ∷ [])
unfolding bytes_of_lines
one_more [] line = refl
one_more (first ∷ lines) line =
    ap (λ bytes. first ++ 10 ∷ bytes) (one_more lines line) ∙ sym (append_assoc first (10 ∷ bytes_of_lines lines) (line ++ 10 ∷ []))

or_last : (first others last : Bool) → (first || (others || (last || false))) ≡ ((first || others) || last)
or_last true others last = refl
or_last false true last = refl
or_last false false true = refl
or_last false false false = refl

or_false : (test : Bool) → (test || false) ≡ test
or_false true = refl
or_false false = refl

neither : (first second : Bool) → (first || second) ≡ false → (first ≡ false) × (second ≡ false)
neither true second is = absurd cc
neither false second is = (refl, is)

long_with : (text : Text) (line : List ℕ) → has_long_line (with_line line text) ≡ (has_long_line text || is_long line)
long_with text line =
    ap (λ test. is_long text.head || test) (list_any-append is_long text.lines (line ∷ []))
    ∙ or_last (is_long text.head) (list_any is_long text.lines) (is_long line)

-- ---- the beginning

pub begun : (head line from_line : List ℕ) (too_long : Bool) → IsKnown line too_long head → from_line ≡ line → HoldsText (text_after head) (record { from_line = from_line; bytes = []; has_long_line = too_long; is_too_long = false })
begun head line from_line too_long known same = record {
  has_long_line = known.long ∙ sym (or_false (is_long head));
  holds = λ short. (same ∙ known.same short, sym no_line, omega arith);
}

-- ---- one line more

-- a text that is too long is so with one line more
still_long : (text : Text) (line from_line bytes : List ℕ) (is_too_long : Bool) → is_too_long ≡ true → Holds is_too_long text from_line bytes → Holds is_too_long (with_line line text) from_line bytes
still_long text line from_line bytes true long holds =
    (holds.0, omega (arith, holds.1, ap length (one_more text.lines line), length-append (bytes_of_lines text.lines) (line ++ 10 ∷ [])))
still_long text line from_line bytes false long holds = absurd cc

longer : (text : Text) (line whole : List ℕ) (too_long : Bool) (held : Held) → IsKnown line too_long whole → HoldsText text held → (held.has_long_line || too_long) ≡ has_long_line (with_line whole text)
longer text line whole too_long held known holds =
    ap (λ test. test || too_long) holds.has_long_line ∙ ap (λ test. has_long_line text || test) known.long ∙ sym (long_with text whole)

-- the line isn't added
pub not_added : (text : Text) (line whole : List ℕ) (too_long : Bool) (held : Held) → IsKnown line too_long whole → HoldsText text held → ((held.has_long_line || too_long) ≡ false → held.is_too_long ≡ true) → HoldsText (with_line whole text) (record { from_line = held.from_line; bytes = held.bytes; has_long_line = held.has_long_line || too_long; is_too_long = held.is_too_long })
not_added text line whole too_long held known holds cause = record {
  has_long_line = longer text line whole too_long held known holds;
  holds = λ short. still_long text whole held.from_line held.bytes held.is_too_long (cause short) (holds.holds (neither held.has_long_line too_long short).0);
}

added_holds : (text : Text) (line whole from_line bytes kept : List ℕ) (too_long is_too_long : Bool) → IsKnown line too_long whole → too_long ≡ false → (from_line ≡ text.head) × (bytes ≡ bytes_of_lines text.lines) → KeepsLine bytes line kept is_too_long → length kept ≤ text_limit → Holds is_too_long (with_line whole text) from_line kept
added_holds text line whole from_line bytes kept too_long false known short same keeps low =
    (same.0, keeps ∙ ap (λ xs. xs ++ (line ++ 10 ∷ [])) same.1 ∙ ap (λ xs. bytes_of_lines text.lines ++ (xs ++ 10 ∷ [])) (known.same short) ∙ sym (one_more text.lines whole), low)
added_holds text line whole from_line bytes kept too_long true known short same keeps low =
    let all : bytes ++ (line ++ 10 ∷ []) ≡ bytes_of_lines (text.lines ++ whole ∷ []) =
    ap (λ xs. xs ++ (line ++ 10 ∷ [])) same.1 ∙ ap (λ xs. bytes_of_lines text.lines ++ (xs ++ 10 ∷ [])) (known.same short) ∙ sym (one_more text.lines whole) in
    (same.0, subst (λ xs. text_limit < length xs) all keeps.1)

holds_all : (text : Text) (held : Held) → held.is_too_long ≡ false → Holds held.is_too_long text held.from_line held.bytes → (held.from_line ≡ text.head) × (held.bytes ≡ bytes_of_lines text.lines)
holds_all text held short holds = let all = subst (λ long. Holds long text held.from_line held.bytes) short holds in (all.0, all.1)

-- the line is added, or isn't any more
pub added : (text : Text) (line whole kept : List ℕ) (too_long is_too_long : Bool) (held : Held) → IsKnown line too_long whole → HoldsText text held → held.is_too_long ≡ false → KeepsLine held.bytes line kept is_too_long → length kept ≤ text_limit → HoldsText (with_line whole text) (record { from_line = held.from_line; bytes = kept; has_long_line = held.has_long_line || too_long; is_too_long = is_too_long })
added text line whole kept too_long is_too_long held known holds short keeps low = record {
  has_long_line = longer text line whole too_long held known holds;
  holds = λ none. let tests = neither held.has_long_line too_long none in
      added_holds text line whole held.from_line held.bytes kept too_long is_too_long known tests.1 (holds_all text held short (holds.holds tests.0)) keeps low;
}
