-- The lines of a message are those of no other.
use Rattle.pim_text.proofs.Words.{◌≡◌, ◌∙◌, sym, ap, refl, ◌+◌, Bool, true, false, List, [], ◌∷◌, ◌++◌, Option, Some}
use Rattle.pim_text.proofs.Words.{None, length, drop, arith, length-append, map, flat_map, length-map, false≢true}
use Rattle.pim_text.proofs.Words.{Entry, AnyAddress, SetLine, Line, Hello, Holdtime, Priority, Generation, Secondary}
use Rattle.pim_text.proofs.Words.{Head, Set, Join, Prune, HelloValue, SetValue, TextValue, a_hello, a_message}
use Rattle.pim_text.proofs.Words.{option_line, delays_line_of, option_lines, set_lines, value_lines}
use Rattle.pim_text.specs.declared.line.Head.{Head as HeadLine}
use Rattle.pim_text.proofs.WrittenHello.{with_lines, these, options_of}

module _ {A : Type 0} where
  head_or : A → List A → A
  head_or d [] = d
  head_or d (x ∷ xs) = x

  same_head : (x y : A) (xs ys : List A) → x ∷ xs ≡ y ∷ ys → x ≡ y
  unfolding head_or
  same_head x y xs ys e = ap (head_or x) e

  same_tail : (x y : A) (xs ys : List A) → x ∷ xs ≡ y ∷ ys → xs ≡ ys
  same_tail x y xs ys e = ap (drop 1) e

  same_parts : (a b c d : List A) → length a ≡ length c → a ++ b ≡ c ++ d → (a ≡ c) × (b ≡ d)
  same_parts [] b [] d n e = (refl, e)
  same_parts [] b (y ∷ c) d n e = absurd (omega (arith, n))
  same_parts (x ∷ a) b [] d n e = absurd (omega (arith, n))
  same_parts (x ∷ a) b (y ∷ c) d n e =
      let k = same_parts a b c d (omega (arith, n)) (same_tail x y (a ++ b) (c ++ d) e) in
      let h = same_head x y (a ++ b) (c ++ d) e in
      let t = k.0 in
      ((λ i. h i ∷ t i), k.1)

-- ---- a Hello

any_names : List Line → List AnyAddress
any_names [] = []
any_names (Secondary a ∷ said) = a ∷ any_names said
any_names (line ∷ said) = any_names said

names_after : {A : Type 0} (line : A → Line) (o : Option A) (said : List Line) → ((x : A) (l : List Line) → any_names (line x ∷ l) ≡ any_names l) → any_names (option_line line o ++ said) ≡ any_names said
names_after line None said past = refl
names_after line (Some x) said past = past x said

names_are : (names : List AnyAddress) → any_names (map Secondary names) ≡ names
unfolding any_names
names_are [] = refl
names_are (a ∷ names) = ap (λ (l : List AnyAddress). a ∷ l) (names_are names)

names_of : (hello : HelloValue) → any_names (option_lines hello) ≡ hello.addresses
unfolding any_names
names_of hello =
    let p = hello.parameters in
    names_after Holdtime p.holdtime _ (λ x l. refl) ∙ (names_after delays_line_of p.lan _ (λ x l. refl) ∙ (names_after Priority p.priority _ (λ x l. refl)
    ∙ (names_after Generation p.generation _ (λ x l. refl) ∙ names_are hello.addresses)))

same_hello : (one other : HelloValue) → option_lines one ≡ option_lines other → one ≡ other
same_hello one other e =
    let p = sym (options_of one) ∙ (ap (λ l. with_lines l (these None None None None)) e ∙ options_of other) in
    let n = sym (names_of one) ∙ (ap any_names e ∙ names_of other) in
    λ i. record { parameters = p i; addresses = n i }

-- ---- a Join/Prune message

entries : List Line → List (Entry AnyAddress)
entries [] = []
entries (Join e ∷ said) = e ∷ entries said
entries (Prune e ∷ said) = e ∷ entries said
entries (line ∷ said) = entries said

joins_are : (es : List (Entry AnyAddress)) → entries (map Join es) ≡ es
unfolding entries
joins_are [] = refl
joins_are (e ∷ es) = ap (λ (l : List (Entry AnyAddress)). e ∷ l) (joins_are es)

prunes_are : (es : List (Entry AnyAddress)) → entries (map Prune es) ≡ es
unfolding entries
prunes_are [] = refl
prunes_are (e ∷ es) = ap (λ (l : List (Entry AnyAddress)). e ∷ l) (prunes_are es)

set_or : SetLine → Line → SetLine
set_or d (Set x) = x
set_or d line = d

same_set_line : (x y : SetLine) → Set x ≡ Set y → x ≡ y
unfolding set_or
same_set_line x y e = ap (set_or x) e

head_line_or : HeadLine → Line → HeadLine
head_line_or d (Head h) = h
head_line_or d line = d

same_head_line : (x y : HeadLine) → Head x ≡ Head y → x ≡ y
unfolding head_line_or
same_head_line x y e = ap (head_line_or x) e

same_sets : (one other : List SetValue) → length one ≡ length other → flat_map set_lines one ≡ flat_map set_lines other → one ≡ other
same_sets [] [] n e = refl
same_sets [] (y ∷ other) n e = absurd (omega (arith, n))
same_sets (x ∷ one) [] n e = absurd (omega (arith, n))
same_sets (x ∷ one) (y ∷ other) n e =
    let a : SetLine = record { group = x.group; joined = length x.joined; pruned = length x.pruned } in
    let b : SetLine = record { group = y.group; joined = length y.joined; pruned = length y.pruned } in
    let lx = map Join x.joined ++ map Prune x.pruned in
    let ly = map Join y.joined ++ map Prune y.pruned in
    let first = same_set_line a b (same_head (Set a) (Set b) (lx ++ flat_map set_lines one) (ly ++ flat_map set_lines other) e) in
    let j : length (map Join x.joined) ≡ length (map Join y.joined) = length-map x.joined Join ∙ (ap (λ (s : SetLine). s.joined) first ∙ sym (length-map y.joined Join)) in
    let p : length (map Prune x.pruned) ≡ length (map Prune y.pruned) = length-map x.pruned Prune ∙ (ap (λ (s : SetLine). s.pruned) first ∙ sym (length-map y.pruned Prune)) in
    let both : length lx ≡ length ly = length-append (map Join x.joined) (map Prune x.pruned) ∙ ((λ i. j i + p i) ∙ sym (length-append (map Join y.joined) (map Prune y.pruned))) in
    let parts = same_parts lx (flat_map set_lines one) ly (flat_map set_lines other) both (same_tail (Set a) (Set b) (lx ++ flat_map set_lines one) (ly ++ flat_map set_lines other) e) in
    let lists = same_parts (map Join x.joined) (map Prune x.pruned) (map Join y.joined) (map Prune y.pruned) j parts.0 in
    let joined = sym (joins_are x.joined) ∙ (ap entries lists.0 ∙ joins_are y.joined) in
    let pruned = sym (prunes_are x.pruned) ∙ (ap entries lists.1 ∙ prunes_are y.pruned) in
    let group = ap (λ (s : SetLine). s.group) first in
    let others = same_sets one other (omega (arith, n)) parts.1 in
    λ i. record { group = group i; joined = joined i; pruned = pruned i } ∷ others i

begins_hello : Line → Bool
begins_hello Hello = true
begins_hello line = false

pub same_value : (one other : TextValue) → value_lines one ≡ value_lines other → one ≡ other
unfolding begins_hello
same_value (a_hello one) (a_hello other) e = ap a_hello (same_hello one other (same_tail Hello Hello (option_lines one) (option_lines other) e))
same_value (a_hello one) (a_message other) e = absurd (false≢true (sym (ap begins_hello (same_head Hello (Head (record { upstream = other.upstream; holdtime = other.holdtime; sets = length other.sets })) (option_lines one) (flat_map set_lines other.sets) e))))
same_value (a_message one) (a_hello other) e = absurd (false≢true (ap begins_hello (same_head (Head (record { upstream = one.upstream; holdtime = one.holdtime; sets = length one.sets })) Hello (flat_map set_lines one.sets) (option_lines other) e)))
same_value (a_message one) (a_message other) e =
    let a : HeadLine = record { upstream = one.upstream; holdtime = one.holdtime; sets = length one.sets } in
    let b : HeadLine = record { upstream = other.upstream; holdtime = other.holdtime; sets = length other.sets } in
    let first = same_head_line a b (same_head (Head a) (Head b) (flat_map set_lines one.sets) (flat_map set_lines other.sets) e) in
    let upstream = ap (λ (h : HeadLine). h.upstream) first in
    let holdtime = ap (λ (h : HeadLine). h.holdtime) first in
    let sets = same_sets one.sets other.sets (ap (λ (h : HeadLine). h.sets) first) (same_tail (Head a) (Head b) (flat_map set_lines one.sets) (flat_map set_lines other.sets) e) in
    λ i. a_message (record { upstream = upstream i; holdtime = holdtime i; sets = sets i })
