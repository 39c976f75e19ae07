-- A line that was added piece by piece.
use Rattle.pim_text.proofs.Words.{◌≡◌, ℕ, List, [], ◌∷◌, ◌++◌, ap, ◌∙◌, append_assoc, line}

-- three pieces of words and a value each, and the line feed
pub line_of_three : (start one two three end first a second b third c : List ℕ) → one ≡ start ++ (first ++ a) → two ≡ one ++ (second ++ b) → three ≡ two ++ (third ++ c) → end ≡ three ++ 10 ∷ []
    → end ≡ start ++ line (first ++ a ++ second ++ b ++ third ++ c)
line_of_three start one two three end first a second b third c p q r s = s ∙ ap (λ l. l ++ 10 ∷ []) (r ∙ ap (λ l. l ++ (third ++ c)) (q ∙ ap (λ l. l ++ (second ++ b)) p)) ∙ simp append_assoc

-- four texts, one after the other
pub four_texts : (start one two three end a b c d : List ℕ) → one ≡ start ++ a → two ≡ one ++ b → three ≡ two ++ c → end ≡ three ++ d → end ≡ start ++ (a ++ b ++ c ++ d)
four_texts start one two three end a b c d p q r s = s ∙ ap (λ l. l ++ d) (r ∙ ap (λ l. l ++ c) (q ∙ ap (λ l. l ++ b) p)) ∙ simp append_assoc
