-- A text that is written piece by piece.
use Rattle.pim_answers.proofs.Words.{◌≡◌, ℕ, ◌+◌, ◌≤◌, List, [], ◌∷◌, ◌++◌, length, take, Option, None, Some, Result}
use Rattle.pim_answers.proofs.Words.{Ok, Err, IsErr, refl, sym, ap, subst, ◌∙◌, arith, append_assoc, append-nil}
use Rattle.pim_answers.proofs.Words.{length-append, take-append-le, length-take, flat_map, Appends-nil, Appends-trans}
use Rattle.pim_answers.proofs.Words.{Appends, AppendsFront, AppendsAll}

-- nothing behind the first piece was written
pub front-longer : (a b : Option (List ℕ)) (bs cs : List ℕ) → AppendsFront a b bs → AppendsFront a b (bs ++ cs)
front-longer None b bs cs p = tt
front-longer (Some xs) None bs cs p = absurd p
front-longer (Some xs) (Some ys) bs cs p =
    let short : length ys ≤ length (xs ++ bs) = omega (arith, ap length p.1 ∙ length-take (length ys) (xs ++ bs)) in
    (p.0, p.1 ∙ sym (take-append-le (length ys) (xs ++ bs) cs short) ∙ ap (take (length ys)) (append_assoc xs bs cs))

-- all of the first piece was written, and a front of the second
pub front-more : (a b c : Option (List ℕ)) (bs cs : List ℕ) → Appends a b bs → AppendsFront b c cs → AppendsFront a c (bs ++ cs)
front-more None b c bs cs p q = tt
front-more (Some xs) None c bs cs p q = absurd p
front-more (Some xs) (Some ys) None bs cs p q = absurd q
front-more (Some xs) (Some ys) (Some zs) bs cs p q =
    let long : length ys ≡ length xs + length bs = ap length p ∙ length-append xs bs in
    (omega (arith, q.0), q.1 ∙ ap (λ l. take (length zs) (l ++ cs)) p ∙ ap (take (length zs)) (append_assoc xs bs cs))

-- Of `all`, this much is still to be written.
pub record IsLeft (old now : Option (List ℕ)) (left all : List ℕ) : Type 0 where
  pub done : List ℕ
  pub wrote : Appends old now done
  pub is_all : all ≡ done ++ left

pub left_all : (old : Option (List ℕ)) (all : List ℕ) → IsLeft old old all all
left_all old all = record { done = []; wrote = Appends-nil old; is_all = refl }

pub left_less : (old now new : Option (List ℕ)) (piece left all : List ℕ) → IsLeft old now (piece ++ left) all → Appends now new piece → IsLeft old new left all
left_less old now new piece left all w p = record {
  done = w.done ++ piece;
  wrote = Appends-trans old now new w.done piece w.wrote p;
  is_all = w.is_all ∙ sym (append_assoc w.done piece left);
}

pub left_none : (old now : Option (List ℕ)) (all : List ℕ) → IsLeft old now [] all → Appends old now all
left_none old now all w = subst (λ l. Appends old now l) (sym (w.is_all ∙ append-nil w.done)) w.wrote

pub left_stopped : (old now new : Option (List ℕ)) (piece left all : List ℕ) → IsLeft old now (piece ++ left) all → AppendsFront now new piece → AppendsFront old new all
left_stopped old now new piece left all w p =
    subst (λ l. AppendsFront old new l) (sym w.is_all) (front-more old now new w.done (piece ++ left) w.wrote (front-longer now new piece left p))

pub stopped : {A E : Type 0} (old new : Option (List ℕ)) (r : Result A E) (text : List ℕ) → IsErr r → AppendsFront old new text → AppendsAll old new r text
stopped old new (Ok x) text e p = absurd cc
stopped old new (Err x) text e p = p

-- ---- the texts of what a walk has left

module _ {X : Type 0} (f : X → List ℕ) (left more : List X) (first : X) (old now new : Option (List ℕ)) (all : List ℕ) (steps : left ≡ first ∷ more) (w : IsLeft old now (flat_map f left) all) where
  split_first : IsLeft old now (f first ++ flat_map f more) all
  split_first = subst (λ l. IsLeft old now (flat_map f l) all) steps w

  pub first_written : Appends now new (f first) → IsLeft old new (flat_map f more) all
  first_written p = left_less old now new (f first) (flat_map f more) all split_first p

  pub first_stopped : AppendsFront now new (f first) → AppendsFront old new all
  first_stopped p = left_stopped old now new (f first) (flat_map f more) all split_first p

pub none_left : {X : Type 0} (f : X → List ℕ) (left : List X) (old now : Option (List ℕ)) (all : List ℕ) → left ≡ [] → IsLeft old now (flat_map f left) all → Appends old now all
none_left f left old now all steps w = left_none old now all (subst (λ l. IsLeft old now (flat_map f l) all) steps w)

-- ---- two texts, one after the other

pub both : {A E : Type 0} (old now new : Option (List ℕ)) (r : Result A E) (first second : List ℕ) → Appends old now first → AppendsAll now new r second → AppendsAll old new r (first ++ second)
both old now new (Ok x) first second p q = Appends-trans old now new first second p q
both old now new (Err x) first second p q = front-more old now new first second p q

-- all of the first text was written, and a front of the second of three
pub stopped_second : {A E : Type 0} (old now new : Option (List ℕ)) (r : Result A E) (first second third : List ℕ) → IsErr r → Appends old now first → AppendsFront now new second
    → AppendsAll old new r (first ++ second ++ third)
stopped_second old now new r first second third e p q = stopped old new r (first ++ second ++ third) e (front-longer old new (first ++ second) third (front-more old now new first second p q))
