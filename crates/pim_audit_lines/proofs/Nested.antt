-- Texts that are nested as a definition puts them together, and their parts one after the other as they are written.
use Rattle.std.proofs.Common.{◌≡◌, ℕ, List, [], ◌++◌, refl, sym, ap, ◌∙◌, append_assoc, append-nil}

pub data Text : Type 0 where
  part : List ℕ → Text
  both : Text → Text → Text

-- The text.
abbrev pub whole : Text → List ℕ
whole (part x) = x
whole (both a b) = whole a ++ whole b

-- Its parts one after the other, before another text.
abbrev pub spread : Text → List ℕ → List ℕ
spread (part x) behind = x ++ behind
spread (both a b) behind = spread a (spread b behind)

infixl 60 ◌⋄◌
infixl 60 ◌⊕◌
-- A text and a part.
abbrev pub ◌⋄◌ : Text → List ℕ → Text
text ⋄ x = both text (part x)

-- Two texts.
abbrev pub ◌⊕◌ : Text → Text → Text
a ⊕ b = both a b

spread_whole : (text : Text) (behind : List ℕ) → spread text behind ≡ whole text ++ behind
spread_whole (part x) behind = refl
spread_whole (both a b) behind =
    spread_whole a (spread b behind) ∙ ap (λ l. whole a ++ l) (spread_whole b behind) ∙ sym (append_assoc (whole a) (whole b) behind)

pub in_parts : (text : Text) → spread text [] ≡ whole text
in_parts text = spread_whole text [] ∙ append-nil (whole text)
