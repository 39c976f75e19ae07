-- The first wrong word, slot by slot.
use Rattle.pim_request.proofs.Cited.{◌≡◌, ◌∙◌, sym, ap, subst, refl, inl, inr, ℕ, List, [], ◌∷◌, ◌++◌, map, Result, Ok, Err}
use Rattle.pim_request.proofs.Cited.{IfErr, Bor, WordsFault, Word, Address, Hex, Slot, key, digits, Fits, HasAddress, Takes}
use Rattle.pim_request.proofs.Cited.{Begins, AreOf, IsFirst, Expects, OneOf, IsWrongBy, IsFault, IsSlotFault, IsFrontFault}
use Rattle.std.specs.Result.{IsErrAnd}

-- ---- what the exit of a `?` returns

pub reported : {T : Type 0} (P : WordsFault → Type 0) (fault : WordsFault) (r : Result T WordsFault) → IsErrAnd r (λ other. other ≡ fault) → P fault → IfErr r P
reported P fault (Ok x) is has = absurd is
reported P fault (Err other) is has = subst P (sym is) has

-- ---- the slots that are asked for

pub wrong_by_same : (P Q : Slot → Type 0) → ((slot : Slot) → P slot → Q slot) → ((slot : Slot) → Q slot → P slot) → (text : List ℕ) (fault : WordsFault) → IsWrongBy P text fault → IsWrongBy Q text fault
wrong_by_same P Q there back text (Word word) is = (is.0, λ slot expected. is.1 slot (back slot expected), λ expected. is.2 (back digits expected))
wrong_by_same P Q there back text (Address word) (same, slot, expected, has) = (same, slot, there slot expected, has)
wrong_by_same P Q there back text Hex is = there digits is

-- ---- what is left of forms after a word

-- These forms are left of those after the word.
pub record Leaves (forms : List (List Slot)) (word : List ℕ) (left : List (List Slot)) : Type 1 where
  pub into : (P : List Slot → Type 0) → OneOf (Takes P word) forms → OneOf P left
  pub back : (P : List Slot → Type 0) → OneOf P left → OneOf (Takes P word) forms

pub onward : (forms left : List (List Slot)) (command word : List ℕ) (others : List (List ℕ)) (fault : WordsFault) → Leaves forms word left → IsFault left command others fault → IsFault forms command (word ∷ others) fault
onward forms left command word others fault leaves (inl m) = inl (record {
  begins = leaves.back (Begins others) m.begins;
  short = λ all. m.short (leaves.into (AreOf others) all);
  is = m.is;
})
onward forms left command word others fault leaves (inr (before, wrong, rest, same, first)) =
    inr (
      word ∷ before,
      wrong,
      rest,
      ap (λ (ws : List (List ℕ)). word ∷ ws) same,
      record {
        begins = leaves.back (Begins before) first.begins;
        wrong = λ slot expected. first.wrong slot (leaves.into (Expects slot before) expected);
        is = wrong_by_same (λ slot. OneOf (Expects slot before) left) (λ slot. OneOf (Expects slot (word ∷ before)) forms) (λ slot expected. leaves.back (Expects slot before) expected) (λ slot expected. leaves.into (Expects slot before) expected) wrong fault first.is;
      },
    )

-- ---- forms that all begin with one slot

abbrev pub each : Slot → List (List Slot) → List (List Slot)
each slot forms = map (λ form. slot ∷ form) forms

-- There are forms.
abbrev pub HasForms : List (List Slot) → Type 0
HasForms [] = ⊥
HasForms (form ∷ forms) = Unit {0}

module _ (slot : Slot) where
  into_each : (word : List ℕ) (P : List Slot → Type 0) (forms : List (List Slot)) → OneOf (Takes P word) (each slot forms) → OneOf P forms
  into_each word P [] all = all
  into_each word P (form ∷ forms) (inl one) = inl one.1
  into_each word P (form ∷ forms) (inr all) = inr (into_each word P forms all)

  back_each : (word : List ℕ) → Fits slot word → (P : List Slot → Type 0) (forms : List (List Slot)) → OneOf P forms → OneOf (Takes P word) (each slot forms)
  back_each word fits P [] all = all
  back_each word fits P (form ∷ forms) (inl one) = inl (fits, one)
  back_each word fits P (form ∷ forms) (inr all) = inr (back_each word fits P forms all)

  pub all_leave : (forms : List (List Slot)) (word : List ℕ) → Fits slot word → Leaves (each slot forms) word forms
  all_leave forms word fits = record { into = λ P all. into_each word P forms all; back = λ P all. back_each word fits P forms all }

  asked_is : (other : Slot) (forms : List (List Slot)) → OneOf (IsFirst other) (each slot forms) → slot ≡ other
  asked_is other [] all = absurd all
  asked_is other (form ∷ forms) (inl one) = one
  asked_is other (form ∷ forms) (inr all) = asked_is other forms all

  none_short : (forms : List (List Slot)) → OneOf (λ form. form ≡ []) (each slot forms) → ⊥
  none_short [] all = all
  none_short (form ∷ forms) (inl one) = absurd cc
  none_short (form ∷ forms) (inr all) = none_short forms all

  pub at_slot : (form : List Slot) (forms : List (List Slot)) (command : List ℕ) (words : List (List ℕ)) (fault : WordsFault) → IsSlotFault slot command words fault → IsFault (each slot (form ∷ forms)) command words fault
  at_slot form forms command [] fault is = inl (record { begins = inl tt; short = none_short (form ∷ forms); is = is })
  at_slot form forms command (word ∷ words) fault (unfit, is) = inr (
    [],
    word,
    words,
    refl,
    record {
      begins = inl tt;
      wrong = λ other expected fits. unfit (subst (λ (s : Slot). Fits s word) (sym (asked_is other (form ∷ forms) expected)) fits);
      is = wrong_by_same (λ other. slot ≡ other) (λ other. OneOf (IsFirst other) (each slot (form ∷ forms))) (λ other same. inl same) (λ other expected. asked_is other (form ∷ forms) expected) word fault is;
    },
  )

  pub at_each : (forms : List (List Slot)) → HasForms forms → (command : List ℕ) (words : List (List ℕ)) (fault : WordsFault) → IsSlotFault slot command words fault → IsFault (each slot forms) command words fault
  at_each [] some command words fault is = absurd some
  at_each (form ∷ forms) some command words fault is = at_slot form forms command words fault is

  pub step : (forms : List (List Slot)) (command word : List ℕ) (others words : List (List ℕ)) (fault : WordsFault) → words ≡ word ∷ others → Fits slot word → IsFault forms command others fault → IsFault (each slot forms) command words fault
  step forms command word others words fault same fits is =
      subst (λ (ws : List (List ℕ)). IsFault (each slot forms) command ws fault) (sym same)
      (onward (each slot forms) forms command word others fault (all_leave forms word fits) is)

-- ---- two slots

pub front_first : (a b : Slot) (command : List ℕ) (words : List (List ℕ)) (fault : WordsFault) → IsSlotFault a command words fault → IsFrontFault (a ∷ b ∷ []) command words fault
front_first a b command [] fault is = is
front_first a b command (word ∷ words) fault is = inl is

front_one : (b : Slot) (command : List ℕ) (words : List (List ℕ)) (fault : WordsFault) → IsSlotFault b command words fault → IsFrontFault (b ∷ []) command words fault
front_one b command [] fault is = is
front_one b command (word ∷ words) fault is = inl is

pub front_second : (a b : Slot) (command word : List ℕ) (others words : List (List ℕ)) (fault : WordsFault) → words ≡ word ∷ others → Fits a word → IsSlotFault b command others fault → IsFrontFault (a ∷ b ∷ []) command words fault
front_second a b command word others words fault same fits is =
    subst (λ (ws : List (List ℕ)). IsFrontFault (a ∷ b ∷ []) command ws fault) (sym same) (inr (fits, front_one b command others fault is))

one_front : (b : Slot) (command : List ℕ) (words : List (List ℕ)) (fault : WordsFault) → IsFrontFault (b ∷ []) command words fault → IsSlotFault b command words fault
one_front b command [] fault is = is
one_front b command (word ∷ words) fault (inl is) = is
one_front b command (word ∷ words) fault (inr is) = absurd is.1

pub at_front : (a b : Slot) (form : List Slot) (forms : List (List Slot)) (command : List ℕ) (words : List (List ℕ)) (fault : WordsFault) → IsFrontFault (a ∷ b ∷ []) command words fault → IsFault (each a (each b (form ∷ forms))) command words fault
at_front a b form forms command [] fault is = at_slot a (b ∷ form) (each b forms) command [] fault is
at_front a b form forms command (word ∷ words) fault (inl is) = at_slot a (b ∷ form) (each b forms) command (word ∷ words) fault is
at_front a b form forms command (word ∷ words) fault (inr (fits, is)) =
    step a (each b (form ∷ forms)) command word words (word ∷ words) fault refl fits
    (at_slot b form forms command words fault (one_front b command words fault is))

-- ---- the end of a line, and an optional word

pub too_many : (word : Bor (List ℕ)) (others words : List (List ℕ)) → words ≡ word.now ∷ others → (command : List ℕ) → IsFault ([] ∷ []) command words (Word word)
too_many word others words same command =
    subst (λ (ws : List (List ℕ)). IsFault ([] ∷ []) command ws (Word word)) (sym same)
    (inr (
      [],
      word.now,
      others,
      refl,
      record {
        begins = inl tt;
        wrong = λ slot expected fits. none slot expected;
        is = (refl, λ slot expected has. none slot expected, λ expected. none digits expected);
      },
    ))
  where
    none : (slot : Slot) → OneOf (IsFirst slot) ([] ∷ []) → ⊥
    none slot (inl one) = one
    none slot (inr all) = all

module _ (text : List ℕ) (rest : List Slot) where
  only_key : (slot : Slot) → OneOf (IsFirst slot) ([] ∷ (key text ∷ rest) ∷ []) → key text ≡ slot
  only_key slot (inl one) = absurd one
  only_key slot (inr (inl one)) = one
  only_key slot (inr (inr all)) = absurd all

  no_address : (slot : Slot) (word : List ℕ) → key text ≡ slot → HasAddress slot word → ⊥
  no_address slot word same has = subst (λ (s : Slot). HasAddress s word) (sym same) has

  no_digits : key text ≡ digits → ⊥
  no_digits same = absurd cc

  pub another : (word : Bor (List ℕ)) (others words : List (List ℕ)) → words ≡ word.now ∷ others → (word.now ≡ text → ⊥) → (command : List ℕ) → IsFault ([] ∷ (key text ∷ rest) ∷ []) command words (Word word)
  another word others words same unfit command =
      subst (λ (ws : List (List ℕ)). IsFault ([] ∷ (key text ∷ rest) ∷ []) command ws (Word word)) (sym same)
      (inr (
        [],
        word.now,
        others,
        refl,
        record {
          begins = inl tt;
          wrong = λ slot expected fits. unfit (subst (λ (s : Slot). Fits s word.now) (sym (only_key slot expected)) fits);
          is = (refl, λ slot expected has. no_address slot word.now (only_key slot expected) has, λ expected. no_digits (only_key digits expected));
        },
      ))

  key_leaves : (word : List ℕ) → word ≡ text → Leaves ([] ∷ (key text ∷ rest) ∷ []) word (rest ∷ [])
  key_leaves word same = record {
    into = λ P all. elim all [ inl one ↦ absurd one | inr some ↦ elim some [ inl one ↦ inl one.1 | inr none ↦ absurd none ] ];
    back = λ P all. elim all [ inl one ↦ inr (inl (same, one)) | inr none ↦ absurd none ];
  }

  pub after_key : (command word : List ℕ) (others words : List (List ℕ)) (fault : WordsFault) → words ≡ word ∷ others → word ≡ text → IsFault (rest ∷ []) command others fault → IsFault ([] ∷ (key text ∷ rest) ∷ []) command words fault
  after_key command word others words fault same is faulty =
      subst (λ (ws : List (List ℕ)). IsFault ([] ∷ (key text ∷ rest) ∷ []) command ws fault) (sym same)
      (onward ([] ∷ (key text ∷ rest) ∷ []) (rest ∷ []) command word others fault (key_leaves word is) faulty)

  -- a form that begins with another word changes nothing
  not_short : (words : List (List ℕ)) → ((others : List (List ℕ)) → words ≡ text ∷ others → ⊥) → AreOf words (key text ∷ rest) → ⊥
  not_short [] other all = absurd cc
  not_short (word ∷ words) other all = other words (ap (λ (w : List ℕ). w ∷ words) all.0)

  pub beside : (forms : List (List Slot)) (command : List ℕ) (words : List (List ℕ)) (fault : WordsFault) → ((others : List (List ℕ)) → words ≡ text ∷ others → ⊥) → IsFault forms command words fault → IsFault ((key text ∷ rest) ∷ forms) command words fault
  beside forms command words fault other (inl m) = inl (record {
    begins = inr m.begins;
    short = λ all. elim all [ inl one ↦ not_short words other one | inr some ↦ m.short some ];
    is = m.is;
  })
  beside forms command words fault other (inr ([], wrong, behind, same, first)) = inr (
    [],
    wrong,
    behind,
    same,
    record {
      begins = inr first.begins;
      wrong = λ slot expected fits. elim expected [
        | inl one ↦ other behind (same ∙ ap (λ (w : List ℕ). w ∷ behind) (subst (λ (s : Slot). Fits s wrong) (sym one) fits))
        | inr some ↦ first.wrong slot some fits
      ];
      is = by fault first.is;
    },
  )
    where
      by : (fault : WordsFault) → IsWrongBy (λ slot. OneOf (IsFirst slot) forms) wrong fault → IsWrongBy (λ slot. OneOf (IsFirst slot) ((key text ∷ rest) ∷ forms)) wrong fault
      by (Word word) is = (is.0, λ slot expected has. elim expected [ inl one ↦ no_address slot wrong one has | inr some ↦ is.1 slot some has ], λ expected. elim expected [ inl one ↦ no_digits one | inr some ↦ is.2 some ])
      by (Address word) (reported, slot, expected, has) = (reported, slot, inr expected, has)
      by Hex is = inr is
  beside forms command words fault other (inr (word ∷ before, wrong, behind, same, first)) = inr (
    word ∷ before,
    wrong,
    behind,
    same,
    record {
      begins = inr first.begins;
      wrong = λ slot expected fits. elim expected [ inl one ↦ absurd (never one.0) | inr some ↦ first.wrong slot some fits ];
      is = wrong_by_same (λ slot. OneOf (Expects slot (word ∷ before)) forms) (λ slot. OneOf (Expects slot (word ∷ before)) ((key text ∷ rest) ∷ forms)) (λ slot expected. inr expected) (λ slot expected. elim expected [ inl one ↦ absurd (never one.0) | inr some ↦ some ]) wrong fault first.is;
    },
  )
    where
      never : word ≡ text → ⊥
      never is = other (before ++ (wrong ∷ behind)) (same ∙ ap (λ (w : List ℕ). w ∷ (before ++ (wrong ∷ behind))) is)
