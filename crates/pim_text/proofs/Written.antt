-- A Join/Prune message whose lines are spelled one after the other.
use Rattle.pim_text.proofs.Words.{◌≡◌, ◌∙◌, sym, ap, refl, subst, ℕ, ◌<◌, ◌≤◌, Bool, true, false, ◌&&◌, List, [], ◌∷◌, ◌++◌, Some}
use Rattle.pim_text.proofs.Words.{None, length, append_assoc, append-nil, length-append, arith, map, flat_map, false≢true}
use Rattle.pim_text.proofs.Words.{AddressFamily, Ipv4, Ipv6, Entry, Star, Source, Rpt, big_bytes, canonical_group, canonical}
use Rattle.pim_text.proofs.Words.{canonical_head, canonical_set, canonical_entry, Line, Set, Join, Prune, LineStep, Expected}
use Rattle.pim_text.proofs.Words.{Message, entry_in, set_in, message_in, set_lines, value_lines, address_in, is_in, address_bytes}
use Rattle.pim_text.proofs.Words.{entry_is_in, line_is_in, all_in, IsLine, AreLines, lines, after, after_all, IsStep, OnlyStep}
use Rattle.pim_text.proofs.Words.{States, entry_bytes, line_bytes, length-map, list_all-append}
use Rattle.pim_jp.specs.Message.{GroupSet, Message as JpMessage}
use Rattle.pim_text.proofs.FieldEnds.{same_some}
use Rattle.pim_text.proofs.Runs.{first_step, value_runs}
use Rattle.std.proofs.lemmas.List.Concat.{flat_map-append}

-- ---- what belongs to one family

pub same_address : (family : AddressFamily) (address : List ℕ) → address_bytes (address_in family address) ≡ address
same_address Ipv4 address = refl
same_address Ipv6 address = refl

pub same_entry : (family : AddressFamily) (entry : Entry (List ℕ)) → entry_bytes (entry_in family entry) ≡ entry
same_entry family (Star rp) = ap (λ (a : List ℕ). Star a) (same_address family rp)
same_entry family (Source source) = ap (λ (a : List ℕ). Source a) (same_address family source)
same_entry family (Rpt source) = ap (λ (a : List ℕ). Rpt a) (same_address family source)

pub address_is_in : (family : AddressFamily) (address : List ℕ) → is_in family (address_in family address) ≡ true
address_is_in Ipv4 address = refl
address_is_in Ipv6 address = refl

entry_in_is_in : (family : AddressFamily) (entry : Entry (List ℕ)) → entry_is_in family (entry_in family entry) ≡ true
entry_in_is_in family (Star rp) = address_is_in family rp
entry_in_is_in family (Source source) = address_is_in family source
entry_in_is_in family (Rpt source) = address_is_in family source

module _ (family : AddressFamily) where
  pub all_in_both : (one two : List Line) → all_in family one ≡ true → all_in family two ≡ true → all_in family (one ++ two) ≡ true
  all_in_both one two a b = list_all-append (line_is_in family) one two ∙ (λ i. a i && b i)

  joins_in : (es : List (Entry (List ℕ))) → all_in family (map Join (map (entry_in family) es)) ≡ true
  joins_in [] = refl
  joins_in (e ∷ es) = let a = entry_in_is_in family e in let b = joins_in es in λ i. a i && b i

  prunes_in : (es : List (Entry (List ℕ))) → all_in family (map Prune (map (entry_in family) es)) ≡ true
  prunes_in [] = refl
  prunes_in (e ∷ es) = let a = entry_in_is_in family e in let b = prunes_in es in λ i. a i && b i

  set_is_in : (set : GroupSet) → all_in family (set_lines (set_in family set)) ≡ true
  set_is_in set =
      let a = address_is_in family set.group in
      let b = all_in_both (map Join (map (entry_in family) set.joined)) (map Prune (map (entry_in family) set.pruned)) (joins_in set.joined) (prunes_in set.pruned) in
      λ i. a i && b i

  sets_in : (sets : List GroupSet) → all_in family (flat_map set_lines (map (set_in family) sets)) ≡ true
  sets_in [] = refl
  sets_in (set ∷ sets) = all_in_both (set_lines (set_in family set)) (flat_map set_lines (map (set_in family) sets)) (set_is_in set) (sets_in sets)

  pub message_is_in : (m : JpMessage) → all_in family (value_lines (message_in family m)) ≡ true
  message_is_in m = let a = address_is_in family m.upstream in let b = sets_in m.sets in λ i. a i && b i

  -- ---- the spelling of the lines is that of the message

  abbrev spelled : List Line → List ℕ
  spelled said = flat_map (line_bytes family) said

  joins_spelled : (es : List (Entry (List ℕ))) → spelled (map Join (map (entry_in family) es)) ≡ flat_map (canonical_entry family) es
  joins_spelled [] = refl
  joins_spelled (e ∷ es) = let a = same_entry family e in let b = joins_spelled es in λ i. canonical_entry family (a i) ++ b i

  prunes_spelled : (es : List (Entry (List ℕ))) → spelled (map Prune (map (entry_in family) es)) ≡ flat_map (canonical_entry family) es
  prunes_spelled [] = refl
  prunes_spelled (e ∷ es) = let a = same_entry family e in let b = prunes_spelled es in λ i. canonical_entry family (a i) ++ b i

  abbrev set_line_of : (group : List ℕ) (joined pruned : ℕ) → List ℕ
  set_line_of group joined pruned = canonical_group family group ++ big_bytes 2 joined ++ big_bytes 2 pruned

  set_spelled : (set : GroupSet) → spelled (set_lines (set_in family set)) ≡ canonical_set family set
  set_spelled set =
      let g = same_address family set.group in
      let j = length-map set.joined (entry_in family) in
      let p = length-map set.pruned (entry_in family) in
      let a = joins_spelled set.joined in
      let b = prunes_spelled set.pruned in
      let both = flat_map-append (line_bytes family) (map Join (map (entry_in family) set.joined)) (map Prune (map (entry_in family) set.pruned)) in
      ap (λ (l : List ℕ). line_bytes family (Set (record { group = address_in family set.group; joined = length (map (entry_in family) set.joined); pruned = length (map (entry_in family) set.pruned) })) ++ l) both
      ∙ ((λ i. set_line_of (g i) (j i) (p i) ++ (a i ++ b i))
      ∙ sym (append_assoc (set_line_of set.group (length set.joined) (length set.pruned)) (flat_map (canonical_entry family) set.joined) (flat_map (canonical_entry family) set.pruned)))

  sets_spelled : (sets : List GroupSet) → spelled (flat_map set_lines (map (set_in family) sets)) ≡ flat_map (canonical_set family) sets
  sets_spelled [] = refl
  sets_spelled (set ∷ sets) =
      let a = set_spelled set in
      let b = sets_spelled sets in
      flat_map-append (line_bytes family) (set_lines (set_in family set)) (flat_map set_lines (map (set_in family) sets)) ∙ (λ i. a i ++ b i)

  pub message_spelled : (m : JpMessage) → spelled (value_lines (message_in family m)) ≡ canonical family m
  message_spelled m =
      let u = same_address family m.upstream in
      let n = length-map m.sets (set_in family) in
      let b = sets_spelled m.sets in
      λ i. canonical_head family (u i) (n i) m.holdtime ++ b i

  -- ---- line after line

  -- The bytes so far and those of the lines that are left are those of the message.
  pub record WritingOf (left : List (List ℕ)) (expected : Expected) (bytes : List ℕ) (m : JpMessage) : Type 0 where
    pub rest : List Line
    pub are : AreLines rest left
    pub end : Expected
    pub run : after_all expected rest ≡ Some end
    pub within : all_in family rest ≡ true
    pub so_far : bytes ++ spelled rest ≡ canonical family m

  pub record Writing (text : List ℕ) (left : List (List ℕ)) (expected : Expected) (bytes : List ℕ) : Type 0 where
    pub short : length bytes ≤ 65532
    pub each : (m : JpMessage) → States text (message_in family m) → WritingOf left expected bytes m

  pub at_start : (text : List ℕ) → Writing text (lines text) Message []
  at_start text = record {
    short = omega arith;
    each = λ m stated.
        let run = value_runs (message_in family m) in
        record { rest = value_lines (message_in family m); are = stated; end = run.0; run = run.1; within = message_is_in m; so_far = message_spelled m };
  }

  -- the next line
  pub record Next (line : List ℕ) (left : List (List ℕ)) (expected : Expected) (bytes : List ℕ) (m : JpMessage) : Type 0 where
    pub first : Line
    pub next : Expected
    pub is : IsLine first line
    pub expects : after expected first ≡ Some next
    pub inside : line_is_in family first ≡ true
    pub others : WritingOf left next (bytes ++ line_bytes family first) m

  pub both : (a b : Bool) → (a && b) ≡ true → (a ≡ true) × (b ≡ true)
  both true b e = (refl, e)
  both false b e = absurd (false≢true e)

  pub next_of : (line : List ℕ) (left : List (List ℕ)) (expected : Expected) (bytes : List ℕ) (m : JpMessage) → WritingOf (line ∷ left) expected bytes m → Next line left expected bytes m
  next_of line left expected bytes m w = by w.rest w.are w.run w.within w.so_far
    where
      by : (rest : List Line) → AreLines rest (line ∷ left) → after_all expected rest ≡ Some w.end → all_in family rest ≡ true → bytes ++ spelled rest ≡ canonical family m → Next line left expected bytes m
      by [] are run within so_far = absurd are
      by (first ∷ rest) are run within so_far =
          let k = first_step expected first rest w.end run in
          let split = both (line_is_in family first) (all_in family rest) within in
          record {
            first = first;
            next = k.0;
            is = are.0;
            expects = k.1;
            inside = split.0;
            others = record { rest = rest; are = are.1; end = w.end; run = k.2; within = split.1; so_far = append_assoc bytes (line_bytes family first) (spelled rest) ∙ so_far };
          }

  module _ (text line : List ℕ) (left : List (List ℕ)) (expected : Expected) (bytes : List ℕ) (writing : Writing text (line ∷ left) expected bytes) where
    pub is_asked : (m : JpMessage) → States text (message_in family m) → OnlyStep expected line None → ⊥
    is_asked m stated none = let n = next_of line left expected bytes m (writing.each m stated) in none n.first n.next n.expects n.is

    pub is_within : (m : JpMessage) → States text (message_in family m) → (found : LineStep) → OnlyStep expected line (Some found) → line_is_in family found.line ≡ true
    is_within m stated found only =
        let n = next_of line left expected bytes m (writing.each m stated) in
        ap (line_is_in family) (only n.first n.next n.expects n.is) ∙ n.inside

    further : (found : LineStep) → IsStep expected line found → OnlyStep expected line (Some found) → (m : JpMessage) → States text (message_in family m) → WritingOf left found.next (bytes ++ line_bytes family found.line) m
    further found is only m stated =
        let n = next_of line left expected bytes m (writing.each m stated) in
        let same = only n.first n.next n.expects n.is in
        let next : n.next ≡ found.next = same_some n.next found.next (sym n.expects ∙ (ap (after expected) (sym same) ∙ is.1)) in
        subst (λ (b : List ℕ). WritingOf left found.next b m) (ap (λ (l : Line). bytes ++ line_bytes family l) (sym same)) (subst (λ (a : Expected). WritingOf left a (bytes ++ line_bytes family n.first) m) next n.others)

    pub one_further : (found : LineStep) (new : List ℕ) → IsStep expected line found → OnlyStep expected line (Some found) → new ≡ bytes ++ line_bytes family found.line → length new ≤ 65532 → Writing text left found.next new
    one_further found new is only added short = record {
      short = short;
      each = λ m stated. subst (λ (b : List ℕ). WritingOf left found.next b m) (sym added) (further found is only m stated);
    }

    pub too_long : (found : LineStep) (new : List ℕ) → IsStep expected line found → OnlyStep expected line (Some found) → new ≡ bytes ++ line_bytes family found.line → 65532 < length new → (m : JpMessage) → States text (message_in family m) → 65532 < length (canonical family m)
    too_long found new is only added long m stated =
        let w = subst (λ (b : List ℕ). WritingOf left found.next b m) (sym added) (further found is only m stated) in
        omega (arith, long, ap length w.so_far, length-append new (spelled w.rest))

  pub at_end : (text : List ℕ) (expected : Expected) (bytes : List ℕ) → Writing text [] expected bytes → (m : JpMessage) → States text (message_in family m) → bytes ≡ canonical family m
  at_end text expected bytes writing m stated = by w.rest w.are w.so_far
    where
      w : WritingOf [] expected bytes m
      w = writing.each m stated

      by : (rest : List Line) → AreLines rest [] → bytes ++ spelled rest ≡ canonical family m → bytes ≡ canonical family m
      by [] are so_far = sym (append-nil bytes) ∙ so_far
      by (line ∷ rest) are so_far = absurd are
