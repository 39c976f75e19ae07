-- Warnings that are written one after another.
use Rattle.pim_warnings.proofs.Words.{◌≡◌, refl, sym, ap, subst, ◌∙◌, ℕ, suc, ◌+◌, ◌≤◌, ◌<◌, Bool, true, false, cond}
use Rattle.pim_warnings.proofs.Words.{List, [], ◌∷◌, ◌++◌, length, take, get_or, Option, None, Some, Result, Ok, Err, IsErr}
use Rattle.pim_warnings.proofs.Words.{arith, append_assoc, length-append, take-append-le, length-take, Appends, AddressFamily}
use Rattle.pim_warnings.proofs.Words.{RouteTable, AppendsFront, AppendsAll, RouterSide, with_more, More, Port}
use Rattle.pim_warnings.proofs.Words.{is_in, known, port_warnings, warnings_from}
use Rattle.std.proofs.KnownBytes.{Appends-nil, Appends-trans}
use Rattle.pim_merge.specs.declared.tally.Tally.{Tally}
use Rattle.pim_merge.specs.Tally.{tally_at}
use Rattle.pim_warnings.proofs.Named.{left_from, one_port}

-- ---- a text that is written piece by piece

front-longer : (a b : Option (List ℕ)) (bs cs : List ℕ) → AppendsFront a b bs → AppendsFront a b (bs ++ cs)
front-longer None b bs cs p = tt
front-longer (Some xs) None bs cs p = absurd p
front-longer (Some xs) (Some ys) bs cs p =
    let short : length ys ≤ length (xs ++ bs) = omega (arith, ap length p.1 ∙ length-take (length ys) (xs ++ bs)) in
    (p.0, p.1 ∙ sym (take-append-le (length ys) (xs ++ bs) cs short) ∙ ap (take (length ys)) (append_assoc xs bs cs))

front-more : (a b c : Option (List ℕ)) (bs cs : List ℕ) → Appends a b bs → AppendsFront b c cs → AppendsFront a c (bs ++ cs)
front-more None b c bs cs p q = tt
front-more (Some xs) None c bs cs p q = absurd p
front-more (Some xs) (Some ys) None bs cs p q = absurd q
front-more (Some xs) (Some ys) (Some zs) bs cs p q =
    let long : length ys ≡ length xs + length bs = ap length p ∙ length-append xs bs in
    (omega (arith, q.0), q.1 ∙ ap (λ l. take (length zs) (l ++ cs)) p ∙ ap (take (length zs)) (append_assoc xs bs cs))

-- Of `all`, this much is still to be written.
pub record IsLeft (old now : Option (List ℕ)) (left all : List ℕ) : Type 0 where
  pub done : List ℕ
  pub wrote : Appends old now done
  pub is_all : all ≡ done ++ left

pub left_all : (old : Option (List ℕ)) (all : List ℕ) → IsLeft old old all all
left_all old all = record { done = []; wrote = Appends-nil old; is_all = refl }

left_less : (old now new : Option (List ℕ)) (piece left all : List ℕ) → IsLeft old now (piece ++ left) all → Appends now new piece → IsLeft old new left all
left_less old now new piece left all w p = record {
  done = w.done ++ piece;
  wrote = Appends-trans old now new w.done piece w.wrote p;
  is_all = w.is_all ∙ sym (append_assoc w.done piece left);
}

left_stopped : (old now new : Option (List ℕ)) (piece left all : List ℕ) → IsLeft old now (piece ++ left) all → AppendsFront now new piece → AppendsFront old new all
left_stopped old now new piece left all w p =
    subst (λ l. AppendsFront old new l) (sym w.is_all) (front-more old now new w.done (piece ++ left) w.wrote (front-longer now new piece left p))

pub stopped : {A E : Type 0} (old new : Option (List ℕ)) (r : Result A E) (text : List ℕ) → IsErr r → AppendsFront old new text → AppendsAll old new r text
stopped old new (Ok x) text e p = absurd cc
stopped old new (Err x) text e p = p

-- ---- the ports of a router

module _ {A : Type 0} (family : AddressFamily) (table : RouteTable) (whole : Bool) (side : Option RouterSide) (tallies : List Tally) (further : List More) (ports : List (Port A)) (at next place number : ℕ) (port : Port A) (more : next ≡ suc at) (below : place < length ports)
    (here : port ≡ get_or ports place port) where
  -- what is left before this port and after it
  left_at : (b : Bool) → is_in side port ≡ b → warnings_from family table whole number (left_from side further at place ports) tallies
      ≡ warnings_from family table whole number (cond b (with_more at further port ∷ left_from side further next (place + 1) ports) (left_from side further next (place + 1) ports)) tallies
  left_at b is = ap (λ l. warnings_from family table whole number l tallies) (one_port side further ports at next place port b more below is here)

  pub port_passed : (old now : Option (List ℕ)) (all : List ℕ) → is_in side port ≡ false → IsLeft old now (warnings_from family table whole number (left_from side further at place ports) tallies) all
      → IsLeft old now (warnings_from family table whole number (left_from side further next (place + 1) ports) tallies) all
  port_passed old now all is w = subst (λ l. IsLeft old now l all) (left_at false is) w

  pub port_warned : (old now new : Option (List ℕ)) (all : List ℕ) (later : ℕ) → later ≡ suc number → is_in side port ≡ true
      → IsLeft old now (warnings_from family table whole number (left_from side further at place ports) tallies) all → Appends now new (port_warnings family table (with_more at further port) (known whole (tally_at number tallies)))
      → IsLeft old new (warnings_from family table whole later (left_from side further next (place + 1) ports) tallies) all
  port_warned old now new all later one is w p =
      subst (λ n. IsLeft old new (warnings_from family table whole n (left_from side further next (place + 1) ports) tallies) all) (sym one)
      (left_less old now new (port_warnings family table (with_more at further port) (known whole (tally_at number tallies))) (warnings_from family table whole (suc number) (left_from side further next (place + 1) ports) tallies) all
      (subst (λ l. IsLeft old now l all) (left_at true is) w) p)

  pub port_stopped : (old now new : Option (List ℕ)) (all : List ℕ) → is_in side port ≡ true
      → IsLeft old now (warnings_from family table whole number (left_from side further at place ports) tallies) all
      → AppendsFront now new (port_warnings family table (with_more at further port) (known whole (tally_at number tallies))) → AppendsFront old new all
  port_stopped old now new all is w p =
      left_stopped old now new (port_warnings family table (with_more at further port) (known whole (tally_at number tallies))) (warnings_from family table whole (suc number) (left_from side further next (place + 1) ports) tallies) all
      (subst (λ l. IsLeft old now l all) (left_at true is) w) p
