-- Texts that are written one after the other.
use Rattle.std.proofs.Common.{◌≡◌, ℕ, ◌+◌, ◌≤◌, List, ◌++◌, length, take, Option, None, Some, Result, Ok, Err, IsErr, refl, sym, ap, ◌∙◌, arith, append_assoc, length-append}
use Rattle.std.proofs.lemmas.List.{take-append-le, length-take}
use Rattle.std.proofs.KnownBytes.{Appends-trans}
use Rattle.std.specs.Io.KnownBytes.{Appends}
use Rattle.pim_device.specs.Device.{AppendsFront, AppendsAll}

-- nothing behind the first piece was written
pub front-longer : (a b : Option (List ℕ)) (bs cs : List ℕ) → AppendsFront a b bs → AppendsFront a b (bs ++ cs)
front-longer None b bs cs p = tt
front-longer (Some xs) None bs cs p = absurd p
front-longer (Some xs) (Some ys) bs cs p =
    let short : length ys ≤ length (xs ++ bs) = omega (arith, ap length p.1 ∙ length-take (length ys) (xs ++ bs)) in
    (p.0, p.1 ∙ sym (take-append-le (length ys) (xs ++ bs) cs short) ∙ ap (take (length ys)) (append_assoc xs bs cs))

-- all of the first piece was written, and a front of the second
pub front-more : (a b c : Option (List ℕ)) (bs cs : List ℕ) → Appends a b bs → AppendsFront b c cs → AppendsFront a c (bs ++ cs)
front-more None b c bs cs p q = tt
front-more (Some xs) None c bs cs p q = absurd p
front-more (Some xs) (Some ys) None bs cs p q = absurd q
front-more (Some xs) (Some ys) (Some zs) bs cs p q =
    let long : length ys ≡ length xs + length bs = ap length p ∙ length-append xs bs in
    (omega (arith, q.0), q.1 ∙ ap (λ l. take (length zs) (l ++ cs)) p ∙ ap (take (length zs)) (append_assoc xs bs cs))

pub stopped : {A E : Type 0} (old new : Option (List ℕ)) (r : Result A E) (text : List ℕ) → IsErr r → AppendsFront old new text → AppendsAll old new r text
stopped old new (Ok x) text e p = absurd cc
stopped old new (Err x) text e p = p

pub both : {A E : Type 0} (old now new : Option (List ℕ)) (r : Result A E) (first second : List ℕ) → Appends old now first → AppendsAll now new r second → AppendsAll old new r (first ++ second)
both old now new (Ok x) first second p q = Appends-trans old now new first second p q
both old now new (Err x) first second p q = front-more old now new first second p q

pub stopped_first : {A E : Type 0} (old new : Option (List ℕ)) (r : Result A E) (first second : List ℕ) → IsErr r → AppendsFront old new first → AppendsAll old new r (first ++ second)
stopped_first old new r first second e p = stopped old new r (first ++ second) e (front-longer old new first second p)

-- A head, whose time and place are known by equations, before what is said.
pub same_head : (head : Option ℕ → Option ℕ → List ℕ) (said : List ℕ) (epoch time port place : Option ℕ) → epoch ≡ time → port ≡ place
    → head epoch port ++ said ≡ head time place ++ said
same_head head said epoch time port place p0 p1 = rw (p0, p1) (refl {a = head time place ++ said})
