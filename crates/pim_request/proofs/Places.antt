-- Bytes that lie in a buffer.
use Rattle.std.proofs.Common.{◌≡◌, ◌∙◌, sym, ap, ℕ, ◌+◌, ◌-◌, ◌≤◌, List, ◌++◌, length, take, drop, arith, length-take, length-drop}
use Rattle.std.proofs.lemmas.List.{take-append-drop, drop-drop, drop-take, take-take}

-- what is passed over is dropped
pub passed : (bytes : List ℕ) (start end count : ℕ) → start + count ≤ end → drop count (take (end - start) (drop start bytes)) ≡ take (end - (start + count)) (drop (start + count) bytes)
passed bytes start end count within =
    let sum : end - start ≡ count + (end - (start + count)) = omega arith in
    ap (λ n. drop count (take n (drop start bytes))) sum ∙ drop-take count (end - (start + count)) (drop start bytes)
    ∙ ap (take (end - (start + count))) (drop-drop count start bytes)

-- what was searched, and the rest
pub searched_and_rest : (bytes : List ℕ) (start end count : ℕ) → start + count ≤ end → take (end - start) (drop start bytes) ≡ take count (drop start bytes) ++ take (end - (start + count)) (drop (start + count) bytes)
searched_and_rest bytes start end count within =
    sym (take-append-drop count (take (end - start) (drop start bytes)))
    ∙ ap (λ front. front ++ drop count (take (end - start) (drop start bytes))) (take-take count (end - start) (drop start bytes) (omega arith))
    ∙ ap (λ back. take count (drop start bytes) ++ back) (passed bytes start end count within)

-- the length of bytes that lie in a buffer
pub length_within : (bytes : List ℕ) (start count : ℕ) → start + count ≤ length bytes → length (take count (drop start bytes)) ≡ count
length_within bytes start count within = omega (arith, length-take count (drop start bytes), length-drop start bytes)

-- bytes that were moved, and then kept while more were read after them
pub kept : (bytes moved read : List ℕ) (start at count : ℕ) → take count (drop at moved) ≡ take count (drop start bytes) → take (at + count) read ≡ take (at + count) moved → take count (drop at read) ≡ take count (drop start bytes)
kept bytes moved read start at count same front =
    sym (drop-take at count read) ∙ ap (drop at) front ∙ drop-take at count moved ∙ same

-- the same of fewer of them
pub kept_front : (bytes read : List ℕ) (start at count some : ℕ) → some ≤ count → take count (drop at read) ≡ take count (drop start bytes) → take some (drop at read) ≡ take some (drop start bytes)
kept_front bytes read start at count some low same =
    sym (take-take some count (drop at read) low) ∙ ap (take some) same ∙ take-take some count (drop start bytes) low
