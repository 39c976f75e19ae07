-- Dialogs and what was written of them, one after the other.
use Rattle.pim_session.proofs.Words.{◌≡◌, ℕ, ◌+◌, List, [], ◌∷◌, ◌++◌, length, take, Option, None, Some, refl, sym, ap, subst}
use Rattle.pim_session.proofs.Words.{◌∙◌, arith, append_assoc, append-nil, length-append, Appends-trans, Appends, Keeps}
use Rattle.pim_session.proofs.Words.{AppendsFront, Item, IsAnswer, IsDialog, AnswersFirst, AnswersAll, Wrote, Session, Went}

-- ---- bytes

-- all of the first piece was written, and a front of the second
pub front-more : (a b c : Option (List ℕ)) (bs cs : List ℕ) → Appends a b bs → AppendsFront b c cs → AppendsFront a c (bs ++ cs)
front-more None b c bs cs p q = tt
front-more (Some xs) None c bs cs p q = absurd p
front-more (Some xs) (Some ys) None bs cs p q = absurd q
front-more (Some xs) (Some ys) (Some zs) bs cs p q =
    let long : length ys ≡ length xs + length bs = ap length p ∙ length-append xs bs in
    (omega (arith, q.0), q.1 ∙ ap (λ l. take (length zs) (l ++ cs)) p ∙ ap (take (length zs)) (append_assoc xs bs cs))

-- bytes that stay grow by nothing
pub keeps_nil : (old new : Option (List ℕ)) → Keeps old new → Appends old new []
keeps_nil None new keeps = tt
keeps_nil (Some xs) None keeps = absurd keeps
keeps_nil (Some xs) (Some ys) keeps = keeps ∙ sym (append-nil xs)

-- ---- dialogs

-- a dialog after another
pub dialog_trans : (start mid end : Session) (xs ys : List Item) (t u : List ℕ) → IsDialog start xs t mid → IsDialog mid ys u end → IsDialog start (xs ++ ys) (t ++ u) end
unfolding IsDialog
dialog_trans start mid end [] ys t u (none, same) more =
    subst (λ (l : List ℕ). IsDialog start ys (l ++ u) end) (sym none) (subst (λ (s : Session). IsDialog s ys u end) same more)
dialog_trans start mid end (x ∷ xs) ys t u (first, between, others, answer, is, rest) more =
    (first, between, others ++ u, answer, ap (λ (l : List ℕ). l ++ u) is ∙ append_assoc first others u, dialog_trans between mid end xs ys others u rest more)

-- the dialog of one item
pub dialog_one : (start after : Session) (item : Item) (text : List ℕ) → IsAnswer start item text after → IsDialog start (item ∷ []) text after
unfolding IsDialog
dialog_one start after item text answer = (text, after, [], answer, sym (append-nil text), (refl, refl))

-- the dialog of none
pub dialog_none : (start : Session) → IsDialog start [] [] start
unfolding IsDialog
dialog_none start = (refl, refl)

-- ---- parts of a session

pub went_none : (start : Session) (items : List Item) (old new : Option (List ℕ)) → Keeps old new → Went start items old new items start
went_none start items old new keeps = record { done = []; text = []; are = refl; dialog = dialog_none start; written = keeps_nil old new keeps }

pub went_one : (now after : Session) (item : Item) (left : List Item) (old new : Option (List ℕ)) (text : List ℕ) → IsAnswer now item text after → Appends old new text → Went now (item ∷ left) old new left after
went_one now after item left old new text answer written =
    record { done = item ∷ []; text = text; are = refl; dialog = dialog_one now after item text answer; written = written }

module _ (start now : Session) (items left : List Item) (old mid new : Option (List ℕ)) (w : Went start items old mid left now) where
  pub went_on : (end : Session) (rest : List Item) → Went now left mid new rest end → Went start items old new rest end
  went_on end rest v = record {
    done = w.done ++ v.done;
    text = w.text ++ v.text;
    are = w.are ∙ ap (λ (l : List Item). w.done ++ l) v.are ∙ sym (append_assoc w.done v.done rest);
    dialog = dialog_trans start now end w.done v.done w.text v.text w.dialog v.dialog;
    written = Appends-trans old mid new w.text v.text w.written v.written;
  }

  pub went_all : Wrote (AnswersAll now left) (Appends mid new) → Wrote (AnswersAll start items) (Appends old new)
  went_all v = record {
    text = w.text ++ v.text;
    is = record {
      after = v.is.after;
      dialog = subst (λ (l : List Item). IsDialog start l (w.text ++ v.text) v.is.after) (sym w.are)
          (dialog_trans start now v.is.after w.done left w.text v.text w.dialog v.is.dialog);
    };
    written = Appends-trans old mid new w.text v.text w.written v.written;
  }

  first_too : (text : List ℕ) → AnswersFirst now left text → AnswersFirst start items (w.text ++ text)
  first_too text f = record {
    done = w.done ++ f.done;
    left = f.left;
    are = w.are ∙ ap (λ (l : List Item). w.done ++ l) f.are ∙ sym (append_assoc w.done f.done f.left);
    after = f.after;
    dialog = dialog_trans start now f.after w.done f.done w.text text w.dialog f.dialog;
  }

  pub went_first : Wrote (AnswersFirst now left) (Appends mid new) → Wrote (AnswersFirst start items) (Appends old new)
  went_first v = record { text = w.text ++ v.text; is = first_too v.text v.is; written = Appends-trans old mid new w.text v.text w.written v.written }

  pub went_front : Wrote (AnswersFirst now left) (AppendsFront mid new) → Wrote (AnswersFirst start items) (AppendsFront old new)
  went_front v = record { text = w.text ++ v.text; is = first_too v.text v.is; written = front-more old mid new w.text v.text w.written v.written }

-- a front of the answer to an item was written
pub front_one : (now after : Session) (item : Item) (left : List Item) (old new : Option (List ℕ)) (text : List ℕ) → IsAnswer now item text after → AppendsFront old new text → Wrote (AnswersFirst now (item ∷ left)) (AppendsFront old new)
front_one now after item left old new text answer written = record {
  text = text;
  is = record { done = item ∷ []; left = left; are = refl; after = after; dialog = dialog_one now after item text answer };
  written = written;
}
