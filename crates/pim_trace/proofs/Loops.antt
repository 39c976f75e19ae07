-- Loops that tell what happens, one piece after the other.
use Rattle.std.proofs.Common.{◌≡◌, ℕ, List, [], ◌∷◌, ◌++◌, flat_map, Option, refl, sym, ap, subst, ◌∙◌}
use Rattle.pim_trace.proofs.Words.{Appends, AppendsFront, Happened, Occurrence, Cause, Transition, change_of}
use Rattle.pim_trace.proofs.Words.{changes_of, Ledger, with_change, with_changes, text_on}
use Rattle.pim_trace.proofs.Writing.{IsWriting, write_more, written_all, written_front, text-append, text-same}

-- ---- what each item of a list says

module _ {X : Type 0} (line : Occurrence → List ℕ) (ledger : Ledger) (ms port : ℕ) (says : X → List Happened) where
  abbrev pub told_of : List X → List ℕ
  told_of items = text_on line ledger ms port (flat_map says items)

  pub told_first : (left rest : List X) (item : X) → left ≡ item ∷ rest → told_of left ≡ text_on line ledger ms port (says item) ++ told_of rest
  told_first left rest item is = ap told_of is ∙ text-append line ledger ms port (says item) (flat_map says rest)

  pub item_told : (old now new : Option (List ℕ)) (left rest : List X) (item : X) (said : List Happened) (whole : List ℕ) → IsWriting old now (told_of left) whole → left ≡ item ∷ rest
      → said ≡ says item → Appends now new (text_on line ledger ms port said) → IsWriting old new (told_of rest) whole
  item_told old now new left rest item said whole w is same p =
      write_more old now new (text_on line ledger ms port (says item)) (told_of left) (told_of rest) whole w (told_first left rest item is)
      (subst (λ hs. Appends now new (text_on line ledger ms port hs)) same p)

  pub item_begun : (old now new : Option (List ℕ)) (left rest : List X) (item : X) (said : List Happened) (whole : List ℕ) → IsWriting old now (told_of left) whole → left ≡ item ∷ rest
      → said ≡ says item → AppendsFront now new (text_on line ledger ms port said) → AppendsFront old new whole
  item_begun old now new left rest item said whole w is same p =
      written_front old now new (text_on line ledger ms port (says item)) (told_of left) (told_of rest) whole w (told_first left rest item is)
      (subst (λ hs. AppendsFront now new (text_on line ledger ms port hs)) same p)

-- ---- machines that changed

module _ (line : Occurrence → List ℕ) (packet : Cause (List ℕ)) (port neighbours : ℕ) where
  abbrev pub text_of : Ledger → List (Transition (List ℕ)) → List ℕ
  text_of ledger changes = text_on line ledger packet.ms port (changes_of ledger packet neighbours changes)

  -- these changes are left to be told, from this ledger on
  pub record AreLeft (start : Ledger) (whole : List (Transition (List ℕ))) (ledger : Ledger) (left : List (Transition (List ℕ))) (old now : Option (List ℕ)) : Type 0 where
    pub written : IsWriting old now (text_of ledger left) (text_of start whole)
    pub kept : with_changes packet left ledger ≡ with_changes packet whole start

  changes_first : (ledger : Ledger) (change : Transition (List ℕ)) (rest : List (Transition (List ℕ)))
      → text_of ledger (change ∷ rest) ≡ text_on line ledger packet.ms port (change_of ledger packet neighbours change ∷ []) ++ text_of (with_change packet change ledger) rest
  unfolding changes_of
  changes_first ledger change rest =
      text-append line ledger packet.ms port (change_of ledger packet neighbours change ∷ []) (changes_of (with_change packet change ledger) packet neighbours rest)
      ∙ ap (λ l. text_on line ledger packet.ms port (change_of ledger packet neighbours change ∷ []) ++ l)
      (sym (text-same line ledger packet.ms port (with_change packet change ledger) refl (changes_of (with_change packet change ledger) packet neighbours rest)))

  kept_first : (ledger : Ledger) (change : Transition (List ℕ)) (rest : List (Transition (List ℕ))) → with_changes packet (change ∷ rest) ledger ≡ with_changes packet rest (with_change packet change ledger)
  unfolding with_changes
  kept_first ledger change rest = refl

  pub all_left : (start : Ledger) (whole : List (Transition (List ℕ))) (old : Option (List ℕ)) → IsWriting old old (text_of start whole) (text_of start whole) → AreLeft start whole start whole old old
  all_left start whole old w = record { written = w; kept = refl }

  pub change_told : (start : Ledger) (whole : List (Transition (List ℕ))) (ledger ledger' : Ledger) (left rest : List (Transition (List ℕ))) (change : Transition (List ℕ)) (old now new : Option (List ℕ))
      → AreLeft start whole ledger left old now → left ≡ change ∷ rest → ledger' ≡ with_change packet change ledger
      → Appends now new (text_on line ledger packet.ms port (change_of ledger packet neighbours change ∷ [])) → AreLeft start whole ledger' rest old new
  change_told start whole ledger ledger' left rest change old now new w is after p =
      subst (λ (l : Ledger). AreLeft start whole l rest old new) (sym after) (record {
        written = write_more old now new (text_on line ledger packet.ms port (change_of ledger packet neighbours change ∷ [])) (text_of ledger left) (text_of (with_change packet change ledger) rest) (text_of start whole)
            w.written (ap (text_of ledger) is ∙ changes_first ledger change rest) p;
        kept = sym (ap (λ cs. with_changes packet cs ledger) is ∙ kept_first ledger change rest) ∙ w.kept;
      })

  pub change_begun : (start : Ledger) (whole : List (Transition (List ℕ))) (ledger : Ledger) (left rest : List (Transition (List ℕ))) (change : Transition (List ℕ)) (old now new : Option (List ℕ))
      → AreLeft start whole ledger left old now → left ≡ change ∷ rest
      → AppendsFront now new (text_on line ledger packet.ms port (change_of ledger packet neighbours change ∷ [])) → AppendsFront old new (text_of start whole)
  change_begun start whole ledger left rest change old now new w is p =
      written_front old now new (text_on line ledger packet.ms port (change_of ledger packet neighbours change ∷ [])) (text_of ledger left) (text_of (with_change packet change ledger) rest) (text_of start whole)
      w.written (ap (text_of ledger) is ∙ changes_first ledger change rest) p

  pub no_text : (ledger : Ledger) (left : List (Transition (List ℕ))) → left ≡ [] → text_of ledger left ≡ []
  unfolding changes_of
  no_text ledger left is = ap (text_of ledger) is

  pub all_kept : (start : Ledger) (whole : List (Transition (List ℕ))) (ledger : Ledger) (left : List (Transition (List ℕ))) (old now : Option (List ℕ)) → AreLeft start whole ledger left old now → left ≡ []
      → ledger ≡ with_changes packet whole start
  unfolding with_changes
  all_kept start whole ledger left old now w is = sym (ap (λ cs. with_changes packet cs ledger) is) ∙ w.kept

  pub changes_told : (start : Ledger) (whole : List (Transition (List ℕ))) (ledger : Ledger) (left : List (Transition (List ℕ))) (old now : Option (List ℕ)) → AreLeft start whole ledger left old now → left ≡ []
      → Appends old now (text_of start whole)
  changes_told start whole ledger left old now w is = written_all old now (text_of ledger left) (text_of start whole) w.written (no_text ledger left is)

pub same_text : (line : Occurrence → List ℕ) (p q : Cause (List ℕ)) (port other n m : ℕ) (start : Ledger) (whole : List (Transition (List ℕ))) → p ≡ q → port ≡ other → n ≡ m
    → text_of line p port n start whole ≡ text_of line q other m start whole
same_text line p q port other n m start whole a b c =
    ap (λ (x : Cause (List ℕ)). text_of line x port n start whole) a ∙ ap (λ x. text_of line q x n start whole) b ∙ ap (λ x. text_of line q other x start whole) c
