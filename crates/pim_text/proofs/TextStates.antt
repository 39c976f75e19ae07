-- The text that is written of a message is cut into its lines.
use Rattle.pim_text.proofs.Words.{◌≡◌, ◌∙◌, sym, ap, refl, subst, ℕ, Bool, true, false, List, [], ◌∷◌, ◌++◌, Option, Some, None}
use Rattle.pim_text.proofs.Words.{length, arith, map, flat_map, length-map, false≢true, AddressFamily, Ipv4, Ipv6, Entry, Star}
use Rattle.pim_text.proofs.Words.{Source, Rpt, Line, Hello, Holdtime, Priority, Generation, Secondary, Head, Set, Join, Prune}
use Rattle.pim_text.proofs.Words.{option_line, delays_line_of, option_lines, set_lines, value_lines, entry_in, set_in, hello_in}
use Rattle.pim_text.proofs.Words.{message_in, address_in, Names, ◌<◌, ◌^◌, ◌==◌, ◌||◌, codes, decimal, append_assoc, append-nil}
use Rattle.pim_text.proofs.Words.{list_any, onto_first, AllByRecursion, ne_eqb, IsAddress, address_text, WrittenTextNames}
use Rattle.pim_text.proofs.Words.{ParametersFit, IsMessageEntry, IsMessageSet, IsMessage, line, message_line, set_line}
use Rattle.pim_text.proofs.Words.{entry_words, entry_line, set_text, message_text, lines, IsLine, AreLines, States, IsField}
use Rattle.pim_hello.specs.Hello.{Hello as HelloMessage}
use Rattle.pim_jp.specs.Message.{GroupSet, Message as JpMessage}
use Rattle.std.specs.Option.{IfSome}
use Rattle.pim_hello.specs.Hello.{Delays as DelaysValue}
use Rattle.pim_text.specs.HelloText.{number_text as option_text, bit, delays_text, address_line, hello_text}
use Rattle.pim_text.proofs.Bytes.{decimal_is_field, named_is_field}
use Rattle.pim_text.proofs.LineCuts.{lines_of_none}
use Rattle.pim_text.proofs.Runs.{are_append}

-- ---- texts without a line feed

abbrev IsFree : List ℕ → Type 0
IsFree text = list_any (λ byte. byte == 10) text ≡ false

neither : (a b : Bool) → (a || b) ≡ false → (a ≡ false) × (b ≡ false)
neither true b e = absurd (false≢true (sym e))
neither false b e = (refl, e)

free_then : (a b : List ℕ) → IsFree a → IsFree b → IsFree (a ++ b)
free_then [] b p q = q
free_then (x ∷ a) b p q =
    let k = neither (x == 10) (list_any (λ byte. byte == 10) a) p in
    let first = k.0 in
    let others = free_then a b k.1 q in
    λ i. first i || others i

field_free : (a : List ℕ) → IsField a → IsFree a
field_free [] is = refl
field_free (x ∷ a) is =
    let first : (x == 10) ≡ false = ne_eqb x 10 (λ e. absurd (omega (arith, e, is.0))) in
    let others = field_free a is.1 in
    λ i. first i || others i

lines_cons : (text behind : List ℕ) → IsFree text → lines (text ++ (10 ∷ behind)) ≡ (text ++ (10 ∷ [])) ∷ lines behind
unfolding lines
lines_cons [] behind free = refl
lines_cons (x ∷ text) behind free =
    let k = neither (x == 10) (list_any (λ byte. byte == 10) text) free in
    rw k.0 (ap (onto_first x) (lines_cons text behind k.1))

-- ---- texts of some lines

pub record TextOf (said : List Line) (text : List ℕ) : Type 0 where
  pub texts : List (List ℕ)
  pub are : AreLines said texts
  pub cut : (behind : List ℕ) → lines (text ++ behind) ≡ texts ++ lines behind

no_lines : TextOf [] []
no_lines = record { texts = []; are = tt; cut = λ behind. refl }

one_line : (said : Line) (text : List ℕ) → IsFree text → IsLine said (text ++ (10 ∷ [])) → TextOf (said ∷ []) (line text)
one_line said text free is = record {
  texts = (text ++ (10 ∷ [])) ∷ [];
  are = (is, tt);
  cut = λ behind. ap lines (append_assoc text (10 ∷ []) behind) ∙ lines_cons text behind free;
}

both_texts : (one two : List Line) (a b : List ℕ) → TextOf one a → TextOf two b → TextOf (one ++ two) (a ++ b)
both_texts one two a b x y = record {
  texts = x.texts ++ y.texts;
  are = are_append one two x.texts y.texts x.are y.are;
  cut = λ behind. ap lines (append_assoc a b behind) ∙ (x.cut (b ++ behind) ∙ (ap (λ (l : List (List ℕ)). x.texts ++ l) (y.cut behind) ∙ sym (append_assoc x.texts y.texts (lines behind))));
}

states_of : (said : List Line) (text : List ℕ) → TextOf said text → AreLines said (lines text)
states_of said text is =
    let whole : lines text ≡ is.texts = ap lines (sym (append-nil text)) ∙ (is.cut [] ∙ (ap (λ (l : List (List ℕ)). is.texts ++ l) lines_of_none ∙ append-nil is.texts)) in
    subst (AreLines said) (sym whole) is.are

module _ (written : WrittenTextNames) (family : AddressFamily) where
  names : (f : AddressFamily) (a : List ℕ) → IsAddress f a → Names (address_text f a) (address_in f a)
  names Ipv4 a is = written Ipv4 a is
  names Ipv6 a is = written Ipv6 a is

  name_free : (a : List ℕ) → IsAddress family a → IsFree (address_text family a)
  name_free a is = field_free (address_text family a) (named_is_field (address_text family a) (address_in family a) (names family a is))

  number_free : (n : ℕ) → n < 2 ^ 64 → IsFree (decimal n)
  number_free n small = field_free (decimal n) (decimal_is_field n small)

  -- ---- a Join/Prune message

  join_text : (e : Entry (List ℕ)) → IsMessageEntry family e → TextOf (Join (entry_in family e) ∷ []) (entry_line family (codes "join ") e)
  join_text (Star a) is = one_line (Join (entry_in family (Star a))) (codes "join " ++ entry_words family (Star a)) (name_free a is.0) (codes "star " ++ (address_text family a ++ (10 ∷ [])), refl, (address_text family a, names family a is.0, refl))
  join_text (Source a) is = one_line (Join (entry_in family (Source a))) (codes "join " ++ entry_words family (Source a)) (name_free a is.0) (codes "source " ++ (address_text family a ++ (10 ∷ [])), refl, (address_text family a, names family a is.0, refl))
  join_text (Rpt a) is = one_line (Join (entry_in family (Rpt a))) (codes "join " ++ entry_words family (Rpt a)) (name_free a is.0) (codes "rpt " ++ (address_text family a ++ (10 ∷ [])), refl, (address_text family a, names family a is.0, refl))

  prune_text : (e : Entry (List ℕ)) → IsMessageEntry family e → TextOf (Prune (entry_in family e) ∷ []) (entry_line family (codes "prune ") e)
  prune_text (Star a) is = one_line (Prune (entry_in family (Star a))) (codes "prune " ++ entry_words family (Star a)) (name_free a is.0) (codes "star " ++ (address_text family a ++ (10 ∷ [])), refl, (address_text family a, names family a is.0, refl))
  prune_text (Source a) is = one_line (Prune (entry_in family (Source a))) (codes "prune " ++ entry_words family (Source a)) (name_free a is.0) (codes "source " ++ (address_text family a ++ (10 ∷ [])), refl, (address_text family a, names family a is.0, refl))
  prune_text (Rpt a) is = one_line (Prune (entry_in family (Rpt a))) (codes "prune " ++ entry_words family (Rpt a)) (name_free a is.0) (codes "rpt " ++ (address_text family a ++ (10 ∷ [])), refl, (address_text family a, names family a is.0, refl))

  joins_text : (es : List (Entry (List ℕ))) → AllByRecursion (IsMessageEntry family) es → TextOf (map Join (map (entry_in family) es)) (flat_map (entry_line family (codes "join ")) es)
  joins_text [] are = no_lines
  joins_text (e ∷ es) are = both_texts (Join (entry_in family e) ∷ []) (map Join (map (entry_in family) es)) (entry_line family (codes "join ") e) (flat_map (entry_line family (codes "join ")) es) (join_text e are.0) (joins_text es are.1)

  prunes_text : (es : List (Entry (List ℕ))) → AllByRecursion (IsMessageEntry family) es → TextOf (map Prune (map (entry_in family) es)) (flat_map (entry_line family (codes "prune ")) es)
  prunes_text [] are = no_lines
  prunes_text (e ∷ es) are = both_texts (Prune (entry_in family e) ∷ []) (map Prune (map (entry_in family) es)) (entry_line family (codes "prune ") e) (flat_map (entry_line family (codes "prune ")) es) (prune_text e are.0) (prunes_text es are.1)

  -- words and an address, and twice words and a number
  five_free : (a b c d e f : List ℕ) → IsFree a → IsFree b → IsFree c → IsFree d → IsFree e → IsFree f → IsFree (a ++ b ++ c ++ d ++ e ++ f)
  five_free a b c d e f p q r s t u =
      free_then (a ++ b ++ c ++ d ++ e) f (free_then (a ++ b ++ c ++ d) e (free_then (a ++ b ++ c) d (free_then (a ++ b) c (free_then a b p q) r) s) t) u

  set_line_text : (g : List ℕ) (j p : ℕ) → IsAddress family g → j < 2 ^ 16 → p < 2 ^ 16
      → TextOf (Set (record { group = address_in family g; joined = j; pruned = p }) ∷ []) (line (codes "set " ++ address_text family g ++ codes " joined " ++ decimal j ++ codes " pruned " ++ decimal p))
  set_line_text g j p is few fewer =
      one_line (Set (record { group = address_in family g; joined = j; pruned = p })) (codes "set " ++ address_text family g ++ codes " joined " ++ decimal j ++ codes " pruned " ++ decimal p)
      (five_free (codes "set ") (address_text family g) (codes " joined ") (decimal j) (codes " pruned ") (decimal p) refl (name_free g is) refl (number_free j (omega (arith, few))) refl (number_free p (omega (arith, fewer))))
      (omega (arith, few), omega (arith, fewer), (address_text family g, names family g is, simp append_assoc))

  head_text : (u : List ℕ) (h n : ℕ) → IsAddress family u → h < 2 ^ 16 → n < 2 ^ 8
      → TextOf (Head (record { upstream = address_in family u; holdtime = h; sets = n }) ∷ []) (line (codes "join/prune upstream " ++ address_text family u ++ codes " holdtime " ++ decimal h ++ codes " sets " ++ decimal n))
  head_text u h n is few fewer =
      one_line (Head (record { upstream = address_in family u; holdtime = h; sets = n })) (codes "join/prune upstream " ++ address_text family u ++ codes " holdtime " ++ decimal h ++ codes " sets " ++ decimal n)
      (five_free (codes "join/prune upstream ") (address_text family u) (codes " holdtime ") (decimal h) (codes " sets ") (decimal n) refl (name_free u is) refl (number_free h (omega (arith, few))) refl (number_free n (omega (arith, fewer))))
      (omega (arith, few), omega (arith, fewer), (address_text family u, names family u is, simp append_assoc))

  set_text_of : (set : GroupSet) → IsMessageSet family set → TextOf (set_lines (set_in family set)) (set_text family set)
  set_text_of set is =
      let js = map (entry_in family) set.joined in
      let ps = map (entry_in family) set.pruned in
      let first = set_line_text set.group (length set.joined) (length set.pruned) is.0 is.3 is.5 in
      let counted = subst (λ (n : ℕ). TextOf (Set (record { group = address_in family set.group; joined = n; pruned = length ps }) ∷ []) (set_line family set)) (sym (length-map set.joined (entry_in family)))
      (subst (λ (n : ℕ). TextOf (Set (record { group = address_in family set.group; joined = length set.joined; pruned = n }) ∷ []) (set_line family set)) (sym (length-map set.pruned (entry_in family))) first) in
      let lists = both_texts (map Join js) (map Prune ps) (flat_map (entry_line family (codes "join ")) set.joined) (flat_map (entry_line family (codes "prune ")) set.pruned) (joins_text set.joined is.4) (prunes_text set.pruned is.6) in
      subst (TextOf (set_lines (set_in family set))) (sym (append_assoc (set_line family set) (flat_map (entry_line family (codes "join ")) set.joined) (flat_map (entry_line family (codes "prune ")) set.pruned)))
      (both_texts (Set (record { group = address_in family set.group; joined = length js; pruned = length ps }) ∷ []) (map Join js ++ map Prune ps) (set_line family set) (flat_map (entry_line family (codes "join ")) set.joined ++ flat_map (entry_line family (codes "prune ")) set.pruned) counted lists)

  sets_text_of : (sets : List GroupSet) → AllByRecursion (IsMessageSet family) sets → TextOf (flat_map set_lines (map (set_in family) sets)) (flat_map (set_text family) sets)
  sets_text_of [] are = no_lines
  sets_text_of (set ∷ sets) are = both_texts (set_lines (set_in family set)) (flat_map set_lines (map (set_in family) sets)) (set_text family set) (flat_map (set_text family) sets) (set_text_of set are.0) (sets_text_of sets are.1)

  message_text_of : (m : JpMessage) → IsMessage family m → TextOf (value_lines (message_in family m)) (message_text family m)
  message_text_of m is =
      let sets = map (set_in family) m.sets in
      let first = head_text m.upstream m.holdtime (length m.sets) is.0 is.1 is.2 in
      let counted = subst (λ (n : ℕ). TextOf (Head (record { upstream = address_in family m.upstream; holdtime = m.holdtime; sets = n }) ∷ []) (message_line family m)) (sym (length-map m.sets (set_in family))) first in
      both_texts (Head (record { upstream = address_in family m.upstream; holdtime = m.holdtime; sets = length sets }) ∷ []) (flat_map set_lines sets) (message_line family m) (flat_map (set_text family) m.sets) counted (sets_text_of m.sets is.3)

  -- ---- a Hello

  bit_free : (b : Bool) → IsFree (bit b)
  bit_free true = refl
  bit_free false = refl

  holdtime_text : (o : Option ℕ) → IfSome o (λ n. n < 2 ^ 16) → TextOf (option_line Holdtime o) (option_text (codes "holdtime ") o)
  holdtime_text None fit = no_lines
  holdtime_text (Some n) fit = one_line (Holdtime n) (codes "holdtime " ++ decimal n) (number_free n (omega (arith, fit))) (omega (arith, fit), refl)

  priority_text : (o : Option ℕ) → IfSome o (λ n. n < 2 ^ 32) → TextOf (option_line Priority o) (option_text (codes "dr-priority ") o)
  priority_text None fit = no_lines
  priority_text (Some n) fit = one_line (Priority n) (codes "dr-priority " ++ decimal n) (number_free n (omega (arith, fit))) (omega (arith, fit), refl)

  generation_text : (o : Option ℕ) → IfSome o (λ n. n < 2 ^ 32) → TextOf (option_line Generation o) (option_text (codes "generation ") o)
  generation_text None fit = no_lines
  generation_text (Some n) fit = one_line (Generation n) (codes "generation " ++ decimal n) (number_free n (omega (arith, fit))) (omega (arith, fit), refl)

  delays_text_of : (o : Option DelaysValue) → IfSome o (λ d. (d.propagation < 2 ^ 15) × (d.override_ms < 2 ^ 16)) → TextOf (option_line delays_line_of o) (delays_text o)
  delays_text_of None fit = no_lines
  delays_text_of (Some d) fit =
      one_line (delays_line_of d) (codes "lan-prune-delay t " ++ bit d.t ++ codes " propagation " ++ decimal d.propagation ++ codes " override " ++ decimal d.override_ms)
      (five_free (codes "lan-prune-delay t ") (bit d.t) (codes " propagation ") (decimal d.propagation) (codes " override ") (decimal d.override_ms) refl (bit_free d.t) refl
      (number_free d.propagation (omega (arith, fit.0))) refl (number_free d.override_ms (omega (arith, fit.1))))
      (omega (arith, fit.0), omega (arith, fit.1), simp append_assoc)

  addresses_text : (ns : List (List ℕ)) → AllByRecursion (IsAddress family) ns → TextOf (map Secondary (map (address_in family) ns)) (flat_map (address_line family) ns)
  addresses_text [] are = no_lines
  addresses_text (a ∷ ns) are =
      both_texts (Secondary (address_in family a) ∷ []) (map Secondary (map (address_in family) ns)) (address_line family a) (flat_map (address_line family) ns)
      (one_line (Secondary (address_in family a)) (codes "address " ++ address_text family a) (name_free a are.0) (address_text family a, names family a are.0, refl)) (addresses_text ns are.1)

  right_nested : (a b c d e : List ℕ) → (a ++ b ++ c ++ d) ++ e ≡ a ++ (b ++ (c ++ (d ++ e)))
  right_nested a b c d e = simp append_assoc

  hello_text_of : (hello : HelloMessage) → ParametersFit hello.parameters → AllByRecursion (IsAddress family) hello.addresses → TextOf (value_lines (hello_in family hello)) (hello_text family hello)
  hello_text_of hello fit are =
      let p = hello.parameters in
      let N = map Secondary (map (address_in family) hello.addresses) in
      let h = option_text (codes "holdtime ") p.holdtime in
      let d = delays_text p.lan in
      let r = option_text (codes "dr-priority ") p.priority in
      let g = option_text (codes "generation ") p.generation in
      let a = flat_map (address_line family) hello.addresses in
      let last = both_texts (option_line Generation p.generation) N g a (generation_text p.generation fit.generation) (addresses_text hello.addresses are) in
      let third = both_texts (option_line Priority p.priority) (option_line Generation p.generation ++ N) r (g ++ a) (priority_text p.priority fit.priority) last in
      let second = both_texts (option_line delays_line_of p.lan) (option_line Priority p.priority ++ (option_line Generation p.generation ++ N)) d (r ++ (g ++ a)) (delays_text_of p.lan fit.lan) third in
      let first = both_texts (option_line Holdtime p.holdtime) (option_line delays_line_of p.lan ++ (option_line Priority p.priority ++ (option_line Generation p.generation ++ N))) h (d ++ (r ++ (g ++ a))) (holdtime_text p.holdtime fit.holdtime) second in
      let options = option_lines (record { parameters = p; addresses = map (address_in family) hello.addresses }) in
      let nested = subst (TextOf options) (sym (right_nested h d r g a)) first in
      both_texts (Hello ∷ []) options (codes "hello\n") ((h ++ d ++ r ++ g) ++ a) (one_line Hello (codes "hello") refl refl) nested

pub message_states : (written : WrittenTextNames) (family : AddressFamily) (m : JpMessage) → IsMessage family m → States (message_text family m) (message_in family m)
message_states written family m is = states_of (value_lines (message_in family m)) (message_text family m) (message_text_of written family m is)

pub hello_states : (written : WrittenTextNames) (family : AddressFamily) (hello : HelloMessage) → ParametersFit hello.parameters → AllByRecursion (IsAddress family) hello.addresses → States (hello_text family hello) (hello_in family hello)
hello_states written family hello fit are = states_of (value_lines (hello_in family hello)) (hello_text family hello) (hello_text_of written family hello fit are)
