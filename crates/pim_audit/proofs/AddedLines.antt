-- Lines that are added one list after the other.
use Rattle.std.proofs.Common.{◌≡◌, ◌∙◌, ◌<◌, ◌+◌, ℕ, List, ◌∷◌, ◌++◌, length, get_or, drop, sym, ap}
use Rattle.std.specs.List.{flat_map}
use Rattle.std.proofs.lemmas.List.{append_assoc, drop_more}

-- one item more of a walk
pub more_added : {X L : Type 0} (f : X → List L) (xs : List X) (i : ℕ) (x : X) (so_far so_far' all : List L) → i < length xs
    → x ≡ get_or xs i x → so_far ++ flat_map f (drop i xs) ≡ all → so_far' ≡ so_far ++ f x
    → so_far' ++ flat_map f (drop (i + 1) xs) ≡ all
more_added {X} {L} f xs i x so_far so_far' all within is is_all more =
    ap (λ (l : List L). l ++ flat_map f (drop (i + 1) xs)) more
    ∙ append_assoc so_far (f x) (flat_map f (drop (i + 1) xs))
    ∙ ap (λ (l : List X). so_far ++ flat_map f l)
    (ap (λ (y : X). y ∷ drop (i + 1) xs) is ∙ sym (drop_more xs i x within))
    ∙ is_all

-- four lists, one after the other
pub four_added : {L : Type 0} (before one two three four a b c d : List L) → one ≡ before ++ a → two ≡ one ++ b → three ≡ two ++ c
    → four ≡ three ++ d → four ≡ before ++ (a ++ (b ++ (c ++ d)))
four_added {L} before one two three four a b c d first second third fourth =
    fourth ∙ ap (λ (l : List L). l ++ d) third ∙ append_assoc two c d
    ∙ ap (λ (l : List L). l ++ (c ++ d)) second ∙ append_assoc one b (c ++ d)
    ∙ ap (λ (l : List L). l ++ (b ++ (c ++ d))) first ∙ append_assoc before a (b ++ (c ++ d))
