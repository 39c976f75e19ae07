-- A text that is written piece by piece.
use Rattle.std.proofs.Common.{◌≡◌, ◌≤◌, ℕ, ◌+◌, List, [], ◌++◌, length, take, Option, None, Some, Result, Ok, Err, IsErr, refl, sym}
use Rattle.std.proofs.Common.{ap, subst, ◌∙◌, arith, append_assoc, append-nil, length-append}
use Rattle.std.proofs.KnownBytes.{Appends-nil, Appends-trans}
use Rattle.std.proofs.lemmas.List.{length-take, take-append-le}
use Rattle.std.specs.Io.KnownBytes.{Appends}
use Rattle.pim_device.specs.Device.{AppendsAll, AppendsFront}

-- nothing behind the first piece was written
front-longer : (a b : Option (List ℕ)) (bs cs : List ℕ) → AppendsFront a b bs → AppendsFront a b (bs ++ cs)
front-longer None b bs cs p = tt
front-longer (Some xs) None bs cs p = absurd p
front-longer (Some xs) (Some ys) bs cs p =
    let short : length ys ≤ length (xs ++ bs) = omega (arith, ap length p.1 ∙ length-take (length ys) (xs ++ bs)) in
    (p.0, p.1 ∙ sym (take-append-le (length ys) (xs ++ bs) cs short) ∙ ap (take (length ys)) (append_assoc xs bs cs))

-- all of the first piece was written, and a front of the second
front-more : (a b c : Option (List ℕ)) (bs cs : List ℕ) → Appends a b bs → AppendsFront b c cs → AppendsFront a c (bs ++ cs)
front-more None b c bs cs p q = tt
front-more (Some xs) None c bs cs p q = absurd p
front-more (Some xs) (Some ys) None bs cs p q = absurd q
front-more (Some xs) (Some ys) (Some zs) bs cs p q =
    let long : length ys ≡ length xs + length bs = ap length p ∙ length-append xs bs in
    (omega (arith, q.0), q.1 ∙ ap (λ l. take (length zs) (l ++ cs)) p ∙ ap (take (length zs)) (append_assoc xs bs cs))

-- `left` is what is still to be written of the whole text
pub record IsWriting (old now : Option (List ℕ)) (left whole : List ℕ) : Type 0 where
  pub done : List ℕ
  pub written : Appends old now done
  pub parts : done ++ left ≡ whole

pub start_writing : (old : Option (List ℕ)) (whole : List ℕ) → IsWriting old old whole whole
start_writing old whole = record { done = []; written = Appends-nil old; parts = refl }

pub write_more : (old now new : Option (List ℕ)) (piece left rest whole : List ℕ) → IsWriting old now left whole → left ≡ piece ++ rest
    → Appends now new piece → IsWriting old new rest whole
write_more old now new piece left rest whole w is p = record {
  done = w.done ++ piece;
  written = Appends-trans old now new w.done piece w.written p;
  parts = append_assoc w.done piece rest ∙ ap (λ l. w.done ++ l) (sym is) ∙ w.parts;
}

pub written_all : (old now : Option (List ℕ)) (left whole : List ℕ) → IsWriting old now left whole → left ≡ [] → Appends old now whole
written_all old now left whole w is =
    subst (λ l. Appends old now l) (sym (append-nil w.done) ∙ ap (λ l. w.done ++ l) (sym is) ∙ w.parts) w.written

pub written_front : {A E : Type 0} (old now new : Option (List ℕ)) (r : Result A E) (piece left rest whole : List ℕ) → IsErr r
    → IsWriting old now left whole → left ≡ piece ++ rest → AppendsFront now new piece → AppendsAll old new r whole
written_front old now new (Ok x) piece left rest whole e w is p = absurd cc
written_front old now new (Err x) piece left rest whole e w is p =
    subst (λ l. AppendsFront old new l) (ap (λ l. w.done ++ l) (sym is) ∙ w.parts)
    (front-more old now new w.done (piece ++ rest) w.written (front-longer now new piece rest p))
