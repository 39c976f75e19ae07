-- A text is at most one line, and has at most one list of lines.
use Rattle.pim_text.proofs.Words.{◌≡◌, ◌∙◌, sym, ap, refl, subst, ℕ, ◌<◌, ◌^◌, Bool, true, false, List, [], ◌∷◌, ◌++◌}
use Rattle.pim_text.proofs.Words.{Some, length, codes, decimal, get_or, eqb, ◌==◌, if◌then◌else◌, drop, arith}
use Rattle.pim_text.proofs.Words.{eqb-false, decimal_injective, append_cancel_left, Entry, Star, Source, Rpt}
use Rattle.pim_text.proofs.Words.{AnyAddress, DelayLine, SetLine, Line, Hello, Holdtime, Delays, Priority, Generation}
use Rattle.pim_text.proofs.Words.{Secondary, Head, Set, Join, Prune, IsField, IsLed, bit, IsAddressAfter, number_text}
use Rattle.pim_text.proofs.Words.{numbers_text, IsEntry, IsEntryLine, delays_text, IsLine, AreLines, Names, OneName}
use Rattle.pim_text.specs.declared.line.Head.{Head as HeadLine}
use Rattle.pim_text.proofs.Bytes.{decimal_is_field, named_is_field}
use Rattle.pim_text.proofs.FieldEnds.{end_is_found, cut_there, same_some, feed_is_led, led_then, space_is_led}
use Rattle.pim_text.proofs.OneEntry.{only_star, only_source, only_rpt}

-- ---- fields

same_fields : (f g b d : List ℕ) → IsField f → IsField g → IsLed b → IsLed d → f ++ b ≡ g ++ d → (f ≡ g) × (b ≡ d)
same_fields f g b d is so led too same =
    let one = end_is_found (f ++ b) f b is led refl in
    let two = end_is_found (f ++ b) g d so too same in
    let n : length f ≡ length g = same_some (length f) (length g) (sym one ∙ two) in
    let p = cut_there (f ++ b) f b (length f) refl refl in
    let q = cut_there (f ++ b) g d (length f) same n in
    (sym p.0 ∙ q.0, sym p.1 ∙ q.1)

one_number : (words : List ℕ) (m n : ℕ) → m < 2 ^ 64 → n < 2 ^ 64 → number_text words m ≡ number_text words n → m ≡ n
one_number words m n small few same =
    let left = append_cancel_left words (decimal m ++ (10 ∷ [])) (decimal n ++ (10 ∷ [])) same in
    let cut = same_fields (decimal m) (decimal n) (10 ∷ []) (10 ∷ []) (decimal_is_field m small) (decimal_is_field n few) feed_is_led feed_is_led left in
    decimal_injective m n small few cut.0

one_numbers : (words others : List ℕ) (m n k l : ℕ) → IsLed others → m < 2 ^ 64 → n < 2 ^ 64 → k < 2 ^ 64 → l < 2 ^ 64
    → numbers_text words m others k ≡ numbers_text words n others l → (m ≡ n) × (k ≡ l)
one_numbers words others m n k l led small few low less same =
    let left = append_cancel_left words (decimal m ++ number_text others k) (decimal n ++ number_text others l) same in
    let cut = same_fields (decimal m) (decimal n) (number_text others k) (number_text others l) (decimal_is_field m small) (decimal_is_field n few)
    (led_then others (decimal k ++ (10 ∷ [])) led) (led_then others (decimal l ++ (10 ∷ [])) led) left in
    (decimal_injective m n small few cut.0, one_number others k l low less cut.1)

one_bit : (t u : Bool) (xs ys : List ℕ) → bit t ++ xs ≡ bit u ++ ys → (t ≡ u) × (xs ≡ ys)
one_bit true true xs ys same = (refl, ap (λ (l : List ℕ). drop 1 l) same)
one_bit true false xs ys same = absurd (omega (arith, ap (λ (l : List ℕ). get_or l 0 0) same))
one_bit false true xs ys same = absurd (omega (arith, ap (λ (l : List ℕ). get_or l 0 0) same))
one_bit false false xs ys same = (refl, ap (λ (l : List ℕ). drop 1 l) same)

-- Which line a text is: by the first byte, and another one where that is `h` or `j`.
abbrev mark : List ℕ → ℕ
mark text = if get_or text 0 0 == 104 then get_or text 1 0 else if get_or text 0 0 == 106 then get_or text 4 0 else get_or text 0 0

abbrev kind : Line → ℕ
kind Hello = 101
kind (Holdtime n) = 111
kind (Delays d) = 108
kind (Priority n) = 100
kind (Generation n) = 103
kind (Secondary a) = 97
kind (Head h) = 47
kind (Set s) = 115
kind (Join e) = 32
kind (Prune e) = 112

mark_is : (line : Line) (text : List ℕ) → IsLine line text → mark text ≡ kind line
mark_is Hello text is = ap mark is
mark_is (Holdtime n) text is = ap mark is.1
mark_is (Delays d) text is = ap mark is.2
mark_is (Priority n) text is = ap mark is.1
mark_is (Generation n) text is = ap mark is.1
mark_is (Secondary a) text is = ap mark is.2
mark_is (Head h) text is = ap mark is.2.2
mark_is (Set s) text is = ap mark is.2.2
mark_is (Join e) text is = ap mark is.1
mark_is (Prune e) text is = ap mark is.1

differ : (m n : ℕ) → eqb m n ≡ false → m ≡ n → ⊥
differ m n = eqb-false m n

module _ (one : OneName) where
  one_named : (words behind other text : List ℕ) (a b : AnyAddress) → IsLed behind → IsLed other → IsAddressAfter words a behind text → IsAddressAfter words b other text → (a ≡ b) × (behind ≡ other)
  one_named words behind other text a b led too (named, names, is) (call, calls, so) =
      let left = append_cancel_left words (named ++ behind) (call ++ other) (sym is ∙ so) in
      let cut = same_fields named call behind other (named_is_field named a names) (named_is_field call b calls) led too left in
      (one named a b names (subst (λ (t : List ℕ). Names t b) (sym cut.0) calls), cut.1)

  at_end : (words text : List ℕ) (a b : AnyAddress) → IsAddressAfter words a (10 ∷ []) text → IsAddressAfter words b (10 ∷ []) text → a ≡ b
  at_end words text a b is so = (one_named words (10 ∷ []) (10 ∷ []) text a b feed_is_led feed_is_led is so).0

  some_at_end : (words text : List ℕ) (a : AnyAddress) → IsAddressAfter words a (10 ∷ []) text → (b : AnyAddress) → IsAddressAfter words b (10 ∷ []) text → Some a ≡ Some b
  some_at_end words text a is b so = ap (λ (x : AnyAddress). Some x) (at_end words text a b is so)

  one_entry : (text : List ℕ) (a b : Entry AnyAddress) → IsEntry a text → IsEntry b text → a ≡ b
  one_entry text (Star a) b is so = same_some (Star a) b (only_star text a is (some_at_end (codes "star ") text a is) b so)
  one_entry text (Source a) b is so = same_some (Source a) b (only_source text a is (some_at_end (codes "source ") text a is) b so)
  one_entry text (Rpt a) b is so = same_some (Rpt a) b (only_rpt text a is (some_at_end (codes "rpt ") text a is) b so)

  one_entry_line : (list text : List ℕ) (a b : Entry AnyAddress) → IsEntryLine list a text → IsEntryLine list b text → a ≡ b
  one_entry_line list text a b (rest, cut, is) (left, so, too) =
      let same = append_cancel_left list rest left (sym cut ∙ so) in
      one_entry rest a b is (subst (IsEntry b) (sym same) too)

  one_delays : (text : List ℕ) (d e : DelayLine) → IsLine (Delays d) text → IsLine (Delays e) text → d ≡ e
  one_delays text d e (small, low, is) (few, less, so) =
      let left = append_cancel_left (codes "lan-prune-delay t ") (bit d.t ++ delays_text d) (bit e.t ++ delays_text e) (sym is ∙ so) in
      let bits = one_bit d.t e.t (delays_text d) (delays_text e) left in
      let numbers = one_numbers (codes " propagation ") (codes " override ") d.propagation e.propagation d.override_ms e.override_ms (space_is_led (codes "override "))
      (omega (arith, small)) (omega (arith, few)) (omega (arith, low)) (omega (arith, less)) bits.1 in
      let t = bits.0 in
      let propagation = numbers.0 in
      let override_ms = numbers.1 in
      λ i. record { t = t i; propagation = propagation i; override_ms = override_ms i }

  two_numbers_led : (words others : List ℕ) (m k : ℕ) → IsLed words → IsLed (numbers_text words m others k)
  two_numbers_led words others m k led = led_then words (decimal m ++ number_text others k) led

  one_head : (text : List ℕ) (h k : HeadLine) → IsLine (Head h) text → IsLine (Head k) text → h ≡ k
  one_head text h k (small, low, is) (few, less, so) =
      let holdtime_led = space_is_led (codes "holdtime ") in
      let both = one_named (codes "join/prune upstream ") (numbers_text (codes " holdtime ") h.holdtime (codes " sets ") h.sets) (numbers_text (codes " holdtime ") k.holdtime (codes " sets ") k.sets) text h.upstream k.upstream
      (two_numbers_led (codes " holdtime ") (codes " sets ") h.holdtime h.sets holdtime_led) (two_numbers_led (codes " holdtime ") (codes " sets ") k.holdtime k.sets holdtime_led) is so in
      let numbers = one_numbers (codes " holdtime ") (codes " sets ") h.holdtime k.holdtime h.sets k.sets (space_is_led (codes "sets "))
      (omega (arith, small)) (omega (arith, few)) (omega (arith, low)) (omega (arith, less)) both.1 in
      let upstream = both.0 in
      let holdtime = numbers.0 in
      let sets = numbers.1 in
      λ i. record { upstream = upstream i; holdtime = holdtime i; sets = sets i }

  one_set : (text : List ℕ) (h k : SetLine) → IsLine (Set h) text → IsLine (Set k) text → h ≡ k
  one_set text h k (small, low, is) (few, less, so) =
      let joined_led = space_is_led (codes "joined ") in
      let both = one_named (codes "set ") (numbers_text (codes " joined ") h.joined (codes " pruned ") h.pruned) (numbers_text (codes " joined ") k.joined (codes " pruned ") k.pruned) text h.group k.group
      (two_numbers_led (codes " joined ") (codes " pruned ") h.joined h.pruned joined_led) (two_numbers_led (codes " joined ") (codes " pruned ") k.joined k.pruned joined_led) is so in
      let numbers = one_numbers (codes " joined ") (codes " pruned ") h.joined k.joined h.pruned k.pruned (space_is_led (codes "pruned "))
      (omega (arith, small)) (omega (arith, few)) (omega (arith, low)) (omega (arith, less)) both.1 in
      let group = both.0 in
      let joined = numbers.0 in
      let pruned = numbers.1 in
      λ i. record { group = group i; joined = joined i; pruned = pruned i }

  one_line : (line other : Line) (text : List ℕ) → IsLine line text → IsLine other text → line ≡ other
  one_line Hello Hello text is so = refl
  one_line (Holdtime m) (Holdtime n) text is so = ap (λ (x : ℕ). Holdtime x) (one_number (codes "holdtime ") m n (omega (arith, is.0)) (omega (arith, so.0)) (sym is.1 ∙ so.1))
  one_line (Delays d) (Delays e) text is so = ap (λ (x : DelayLine). Delays x) (one_delays text d e is so)
  one_line (Priority m) (Priority n) text is so = ap (λ (x : ℕ). Priority x) (one_number (codes "dr-priority ") m n (omega (arith, is.0)) (omega (arith, so.0)) (sym is.1 ∙ so.1))
  one_line (Generation m) (Generation n) text is so = ap (λ (x : ℕ). Generation x) (one_number (codes "generation ") m n (omega (arith, is.0)) (omega (arith, so.0)) (sym is.1 ∙ so.1))
  one_line (Secondary a) (Secondary b) text is so = ap (λ (x : AnyAddress). Secondary x) (at_end (codes "address ") text a b is so)
  one_line (Head h) (Head k) text is so = ap (λ (x : HeadLine). Head x) (one_head text h k is so)
  one_line (Set h) (Set k) text is so = ap (λ (x : SetLine). Set x) (one_set text h k is so)
  one_line (Join a) (Join b) text is so = ap (λ (x : Entry AnyAddress). Join x) (one_entry_line (codes "join ") text a b is so)
  one_line (Prune a) (Prune b) text is so = ap (λ (x : Entry AnyAddress). Prune x) (one_entry_line (codes "prune ") text a b is so)
  one_line line other text is so = absurd (differ (kind line) (kind other) refl (sym (mark_is line text is) ∙ mark_is other text so))

  pub one_list : (some others : List Line) (texts : List (List ℕ)) → AreLines some texts → AreLines others texts → some ≡ others
  one_list [] [] texts are too = refl
  one_list [] (line ∷ others) [] are too = absurd too
  one_list [] (line ∷ others) (text ∷ texts) are too = absurd are
  one_list (line ∷ some) [] [] are too = absurd are
  one_list (line ∷ some) [] (text ∷ texts) are too = absurd too
  one_list (line ∷ some) (other ∷ others) [] are too = absurd are
  one_list (line ∷ some) (other ∷ others) (text ∷ texts) are too =
      let head = one_line line other text are.0 too.0 in
      let tail = one_list some others texts are.1 too.1 in
      λ i. head i ∷ tail i
