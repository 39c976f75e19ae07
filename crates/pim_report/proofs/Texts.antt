-- Texts and the pieces of which they are made.
use Rattle.std.proofs.Common.{◌≡◌, ℕ, List, [], ◌∷◌, ◌++◌, codes, decimal, refl, sym, ap, ◌∙◌, append_assoc, append-nil}
use Rattle.pim_addr.specs.declared.family.AddressFamily.{AddressFamily}
use Rattle.pim_addr.specs.Text.{address_text}
use Rattle.pim_router.specs.declared.verdict.Verdict.{Verdict}
use Rattle.pim_report.specs.PacketLine.{mark_of, unmarked_words, sender_words, verdict_words, verdict_line}

-- what is said of something, in its four pieces, before other words
said_last : (words name more digits reported behind : List ℕ) → words ++ (name ++ (more ++ digits)) ≡ reported → words ++ (name ++ (more ++ (digits ++ behind))) ≡ reported ++ behind
said_last words name more digits reported behind e = sym (ap (λ l. l ++ behind) (sym e) ∙ simp append_assoc)

-- what comes before a verdict, in its pieces
pub sender_pieces : (family : AddressFamily) (moment port : ℕ) (source at on sender : List ℕ) → at ≡ decimal moment → on ≡ decimal port → sender ≡ address_text family source
    → at ++ (codes " port " ++ (on ++ (codes " from " ++ (sender ++ codes " ")))) ≡ sender_words family moment port source
sender_pieces family moment port source at on sender p q r = rw (p, q, r) (simp append_assoc)

-- the line of a verdict, in its pieces
pub verdict_pieces : (verdict : Verdict) (mark words name more digits : List ℕ) → mark ≡ mark_of verdict → words ++ (name ++ (more ++ digits)) ≡ unmarked_words verdict
    → mark ++ (words ++ (name ++ (more ++ (digits ++ (10 ∷ []))))) ≡ verdict_line verdict
verdict_pieces verdict mark words name more digits s t =
    rw s (ap (λ l. mark_of verdict ++ l) (said_last words name more digits (unmarked_words verdict) (10 ∷ []) t) ∙ sym (append_assoc (mark_of verdict) (unmarked_words verdict) (10 ∷ [])))

-- the words of a verdict, in their pieces
pub words_pieces : (verdict : Verdict) (mark words name more digits : List ℕ) → mark ≡ mark_of verdict → words ++ (name ++ (more ++ digits)) ≡ unmarked_words verdict
    → mark ++ (words ++ (name ++ (more ++ (digits ++ [])))) ≡ verdict_words verdict
words_pieces verdict mark words name more digits s t =
    rw (s, append-nil digits, t) refl
