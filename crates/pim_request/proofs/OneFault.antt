-- The words of a line have at most one fault.
use Rattle.pim_request.proofs.Cited.{◌≡◌, ◌∙◌, ◌⊎◌, sym, ap, subst, refl, inl, inr, ℕ, Bool, true, false, ◌&&◌, not, List, []}
use Rattle.pim_request.proofs.Cited.{◌∷◌, ◌++◌, codes, if◌then◌else◌, list_all, bytes_eq, false≢true, and_parts, WordsFault, Word}
use Rattle.pim_request.proofs.Cited.{Address, Hex, Slot, digits, words_of, Fits, HasAddress, Begins, AreOf, Expects, OneOf}
use Rattle.pim_request.proofs.Cited.{IsWord, IsWrongBy, IsFirstWrong, IsFault, Usage, usage, usages, sender_forms, forms_in}
use Rattle.pim_request.proofs.Cited.{IsFaultOf, IsFaultAmong, SameFault, OneWordsFault, OneSenderFault}

-- ---- the slot that is asked for after some words

-- A slot is asked for after the words, and the next word fits it.
pub record Next (before : List (List ℕ)) (word : List ℕ) (form : List Slot) : Type 0 where
  pub slot : Slot
  pub asks : Expects slot before form
  pub fits : Fits slot word

pub record NextOf (before : List (List ℕ)) (word : List ℕ) (forms : List (List Slot)) : Type 0 where
  pub slot : Slot
  pub asks : OneOf (Expects slot before) forms
  pub fits : Fits slot word

begun_next : (before : List (List ℕ)) (word : List ℕ) (rest : List (List ℕ)) (form : List Slot) → Begins (before ++ (word ∷ rest)) form → Next before word form
begun_next [] word rest [] begins = absurd begins
begun_next [] word rest (slot ∷ form) begins = record { slot = slot; asks = refl; fits = begins.0 }
begun_next (first ∷ before) word rest [] begins = absurd begins
begun_next (first ∷ before) word rest (slot ∷ form) begins =
    let k = begun_next before word rest form begins.1 in
    record { slot = k.slot; asks = (begins.0, k.asks); fits = k.fits }

whole_next : (before : List (List ℕ)) (word : List ℕ) (rest : List (List ℕ)) (form : List Slot) → AreOf (before ++ (word ∷ rest)) form → Next before word form
whole_next [] word rest [] are = absurd are
whole_next [] word rest (slot ∷ form) are = record { slot = slot; asks = refl; fits = are.0 }
whole_next (first ∷ before) word rest [] are = absurd are
whole_next (first ∷ before) word rest (slot ∷ form) are =
    let k = whole_next before word rest form are.1 in
    record { slot = k.slot; asks = (are.0, k.asks); fits = k.fits }

module _ (before : List (List ℕ)) (word : List ℕ) where
  next_of : (P : List Slot → Type 0) → ((form : List Slot) → P form → Next before word form) → (forms : List (List Slot)) → OneOf P forms → NextOf before word forms
  next_of P next [] all = absurd all
  next_of P next (form ∷ forms) (inl one) = let k = next form one in record { slot = k.slot; asks = inl k.asks; fits = k.fits }
  next_of P next (form ∷ forms) (inr all) = let k = next_of P next forms all in record { slot = k.slot; asks = inr k.asks; fits = k.fits }

  not_begun : (rest : List (List ℕ)) (forms : List (List Slot)) (fault : WordsFault) → IsFirstWrong forms before word fault → OneOf (Begins (before ++ (word ∷ rest))) forms → ⊥
  not_begun rest forms fault first begins =
      let k = next_of (Begins (before ++ (word ∷ rest))) (λ form one. begun_next before word rest form one) forms begins in
      first.wrong k.slot k.asks k.fits

  not_whole : (rest : List (List ℕ)) (forms : List (List Slot)) (fault : WordsFault) → IsFirstWrong forms before word fault → OneOf (AreOf (before ++ (word ∷ rest))) forms → ⊥
  not_whole rest forms fault first are =
      let k = next_of (AreOf (before ++ (word ∷ rest))) (λ form one. whole_next before word rest form one) forms are in
      first.wrong k.slot k.asks k.fits

-- ---- words of a form have no fault

no_fault : (forms : List (List Slot)) (command : List ℕ) (words : List (List ℕ)) (fault : WordsFault) → OneOf (AreOf words) forms → IsFault forms command words fault → ⊥
no_fault forms command words fault are (inl missing) = missing.short are
no_fault forms command words fault are (inr (before, word, behind, cut, first)) =
    not_whole before word behind forms fault first (subst (λ (ws : List (List ℕ)). OneOf (AreOf ws) forms) cut are)

pub no_fault_of : (forms : List (List Slot)) (command : List ℕ) (words : List (List ℕ)) (fault : WordsFault) → OneOf (AreOf words) forms → IsFaultOf forms command words fault → ⊥
no_fault_of [] command words fault are is = are
no_fault_of (form ∷ forms) command words fault are is = no_fault (form ∷ forms) command words fault are is

pub no_fault_among : (among : List Usage) (line command : List ℕ) (words : List (List ℕ)) (fault : WordsFault) → words_of line ≡ command ∷ words → OneOf (AreOf words) (forms_in among command) → IsFaultAmong among line fault → ⊥
no_fault_among among line command words fault same are (other, others, too, is) =
    let both : other ∷ others ≡ command ∷ words = sym too ∙ same in
    let name : other ≡ command = cc in
    let rest : others ≡ words = cc in
    no_fault_of (forms_in among command) command words fault are
    (subst (λ (ws : List (List ℕ)). IsFaultOf (forms_in among command) command ws fault) rest
    (subst (λ (w : List ℕ). IsFaultOf (forms_in among w) w others fault) name is))

-- ---- one place of the first wrong word

pub record Longer (one : List (List ℕ)) (word : List ℕ) (other : List (List ℕ)) : Type 0 where
  pub rest : List (List ℕ)
  pub is : other ≡ one ++ (word ∷ rest)

cuts : (b d : List (List ℕ)) (x y : List ℕ) (xs ys : List (List ℕ)) → b ++ (x ∷ xs) ≡ d ++ (y ∷ ys) → ((b ≡ d) × (x ≡ y)) ⊎ Longer b x d ⊎ Longer d y b
cuts [] [] x y xs ys e = inl (refl, cc)
cuts [] (k ∷ d) x y xs ys e = let same : k ≡ x = cc in inr (inl (record { rest = d; is = ap (λ (w : List ℕ). w ∷ d) same }))
cuts (k ∷ b) [] x y xs ys e = let same : k ≡ y = cc in inr (inr (record { rest = b; is = ap (λ (w : List ℕ). w ∷ b) same }))
cuts (k ∷ b) (m ∷ d) x y xs ys e =
    let head : k ≡ m = cc in
    let tail : b ++ (x ∷ xs) ≡ d ++ (y ∷ ys) = cc in
    onto k m b d x y head (cuts b d x y xs ys tail)
  where
    onto : (k m : List ℕ) (b d : List (List ℕ)) (x y : List ℕ) → k ≡ m → ((b ≡ d) × (x ≡ y)) ⊎ Longer b x d ⊎ Longer d y b → ((k ∷ b ≡ m ∷ d) × (x ≡ y)) ⊎ Longer (k ∷ b) x (m ∷ d) ⊎ Longer (m ∷ d) y (k ∷ b)
    onto k m b d x y head (inl both) = let p = both.0 in inl ((λ i. head i ∷ p i), both.1)
    onto k m b d x y head (inr (inl more)) = let p = more.is in inr (inl (record { rest = more.rest; is = λ i. sym head i ∷ p i }))
    onto k m b d x y head (inr (inr more)) = let p = more.is in inr (inr (record { rest = more.rest; is = λ i. head i ∷ p i }))

-- ---- digits and an address are not asked for at one place

is_digits : Slot → Bool
is_digits digits = true
is_digits slot = false

lacks_digits : List Slot → Bool
lacks_digits [] = true
lacks_digits (slot ∷ form) = not (is_digits slot) && lacks_digits form

-- The only form, or none has digits.
is_clear : List (List Slot) → Bool
is_clear (form ∷ []) = true
is_clear forms = list_all lacks_digits forms

no_digits : (before : List (List ℕ)) (form : List Slot) → lacks_digits form ≡ true → Expects digits before form → ⊥
unfolding is_digits lacks_digits
no_digits [] [] lacks asks = asks
no_digits [] (slot ∷ form) lacks asks = false≢true (sym (ap (λ (s : Slot). not (is_digits s)) asks) ∙ (and_parts (not (is_digits slot)) (lacks_digits form) lacks).0)
no_digits (word ∷ before) [] lacks asks = asks
no_digits (word ∷ before) (slot ∷ form) lacks asks = no_digits before form (and_parts (not (is_digits slot)) (lacks_digits form) lacks).1 asks.1

none_of : (before : List (List ℕ)) (forms : List (List Slot)) → list_all lacks_digits forms ≡ true → OneOf (Expects digits before) forms → ⊥
none_of before [] lack all = all
none_of before (form ∷ forms) lack (inl one) = no_digits before form (and_parts (lacks_digits form) (list_all lacks_digits forms) lack).0 one
none_of before (form ∷ forms) lack (inr all) = none_of before forms (and_parts (lacks_digits form) (list_all lacks_digits forms) lack).1 all

asks_one : (before : List (List ℕ)) (form : List Slot) (slot other : Slot) → Expects slot before form → Expects other before form → slot ≡ other
asks_one [] [] slot other one two = absurd one
asks_one [] (first ∷ form) slot other one two = sym one ∙ two
asks_one (word ∷ before) [] slot other one two = absurd one
asks_one (word ∷ before) (first ∷ form) slot other one two = asks_one before form slot other one.1 two.1

apart : (forms : List (List Slot)) → is_clear forms ≡ true → (before : List (List ℕ)) (slot : Slot) (text : List ℕ) → OneOf (Expects slot before) forms → HasAddress slot text → OneOf (Expects digits before) forms → ⊥
unfolding is_clear
apart [] clear before slot text expected has all = all
apart (form ∷ []) clear before slot text (inl expected) has (inl all) = subst (λ (s : Slot). HasAddress s text) (asks_one before form slot digits expected all) has
apart (form ∷ []) clear before slot text (inr none) has all = absurd none
apart (form ∷ []) clear before slot text (inl expected) has (inr none) = absurd none
apart (form ∷ second ∷ forms) clear before slot text expected has all = none_of before (form ∷ second ∷ forms) clear all

clear_in : (among : List Usage) (command : List ℕ) → list_all (λ (usage : Usage). is_clear usage.forms) among ≡ true → is_clear (forms_in among command) ≡ true
unfolding is_clear
clear_in [] command clear = refl
clear_in (usage ∷ among) command clear =
    let parts = and_parts (is_clear usage.forms) (list_all (λ (one : Usage). is_clear one.forms) among) clear in
    at (bytes_eq usage.command command) usage.forms (forms_in among command) parts.0 (clear_in among command parts.1)
  where
    at : (t : Bool) (yes_forms no_forms : List (List Slot)) → is_clear yes_forms ≡ true → is_clear no_forms ≡ true → is_clear (if t then yes_forms else no_forms) ≡ true
    at true yes_forms no_forms p q = p
    at false yes_forms no_forms p q = q

-- ---- two faults

same_word : (text : List ℕ) (one other : WordsFault) → IsWord text one → IsWord text other → SameFault one other
same_word text (Word one) (Word other) is too = is ∙ sym too
same_word text (Word one) (Address other) is too = absurd too
same_word text (Word one) Hex is too = absurd too
same_word text (Address one) other is too = absurd is
same_word text Hex other is too = absurd is

same_wrong : (expected : Slot → Type 0) (text : List ℕ) → ((slot : Slot) → expected slot → HasAddress slot text → expected digits → ⊥) → (one other : WordsFault) → IsWrongBy expected text one → IsWrongBy expected text other → SameFault one other
same_wrong expected text differ (Word one) (Word other) is too = is.0 ∙ sym too.0
same_wrong expected text differ (Word one) (Address other) is too = absurd (is.1 too.1 too.2 too.3)
same_wrong expected text differ (Word one) Hex is too = absurd (is.2 too)
same_wrong expected text differ (Address one) (Word other) is too = absurd (too.1 is.1 is.2 is.3)
same_wrong expected text differ (Address one) (Address other) is too = is.0 ∙ sym too.0
same_wrong expected text differ (Address one) Hex is too = absurd (differ is.1 is.2 is.3 too)
same_wrong expected text differ Hex (Word other) is too = absurd (too.2 is)
same_wrong expected text differ Hex (Address other) is too = absurd (differ too.1 too.2 too.3 is)
same_wrong expected text differ Hex Hex is too = tt

module _ (forms : List (List Slot)) (clear : is_clear forms ≡ true) (one other : WordsFault) where
  same_first : (before d : List (List ℕ)) (word w : List ℕ) → before ≡ d → word ≡ w → IsFirstWrong forms before word one → IsFirstWrong forms d w other → SameFault one other
  same_first before d word w front same first too =
      let moved = subst (λ (b : List (List ℕ)). IsFirstWrong forms b word other) (sym front) (subst (λ (x : List ℕ). IsFirstWrong forms d x other) (sym same) too) in
      same_wrong (λ slot. OneOf (Expects slot before) forms) word (λ slot expected has all. apart forms clear before slot word expected has all) one other first.is moved.is

  one_fault : (command : List ℕ) (words : List (List ℕ)) → IsFault forms command words one → IsFault forms command words other → SameFault one other
  one_fault command words (inl missing) (inl too) = same_word command one other missing.is too.is
  one_fault command words (inl missing) (inr (before, word, behind, cut, first)) =
      absurd (not_begun before word behind forms other first (subst (λ (ws : List (List ℕ)). OneOf (Begins ws) forms) cut missing.begins))
  one_fault command words (inr (before, word, behind, cut, first)) (inl missing) =
      absurd (not_begun before word behind forms one first (subst (λ (ws : List (List ℕ)). OneOf (Begins ws) forms) cut missing.begins))
  one_fault command words (inr (before, word, behind, cut, first)) (inr (d, w, rest, too, second)) =
      elim (cuts before d word w behind rest (sym cut ∙ too)) [
        | inl both ↦ same_first before d word w both.0 both.1 first second
        | inr longer ↦ elim longer [
          | inl more ↦ absurd (not_begun before word more.rest forms one first (subst (λ (b : List (List ℕ)). OneOf (Begins b) forms) more.is second.begins))
          | inr more ↦ absurd (not_begun d w more.rest forms other second (subst (λ (b : List (List ℕ)). OneOf (Begins b) forms) more.is first.begins))
        ]
      ]

one_fault_of : (forms : List (List Slot)) → is_clear forms ≡ true → (command : List ℕ) (words : List (List ℕ)) (one other : WordsFault) → IsFaultOf forms command words one → IsFaultOf forms command words other → SameFault one other
one_fault_of [] clear command words one other is too = same_word command one other is too
one_fault_of (form ∷ forms) clear command words one other is too = one_fault (form ∷ forms) clear one other command words is too

one_among : (among : List Usage) → list_all (λ (usage : Usage). is_clear usage.forms) among ≡ true → (line : List ℕ) (one other : WordsFault) → IsFaultAmong among line one → IsFaultAmong among line other → SameFault one other
one_among among clear line one other (command, words, same, is) (name, rest, too, so) =
    let both : name ∷ rest ≡ command ∷ words = sym too ∙ same in
    let first : name ≡ command = cc in
    let others : rest ≡ words = cc in
    one_fault_of (forms_in among command) (clear_in among command clear) command words one other is
    (subst (λ (ws : List (List ℕ)). IsFaultOf (forms_in among command) command ws other) others
    (subst (λ (w : List ℕ). IsFaultOf (forms_in among w) w rest other) first so))

pub one_words_fault : OneWordsFault
unfolding is_digits lacks_digits is_clear
one_words_fault line one other is too = one_among usages refl line one other is too

pub one_sender_fault : OneSenderFault
unfolding is_digits lacks_digits is_clear
one_sender_fault line one other is too = one_among (usage (codes "from") sender_forms ∷ []) refl line one other is too
