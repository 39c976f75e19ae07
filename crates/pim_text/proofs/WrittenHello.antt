-- A Hello whose lines are gathered one after the other.
use Rattle.pim_text.proofs.Words.{◌≡◌, ◌∙◌, sym, ap, refl, subst, ℕ, true, ◌&&◌, List, [], ◌∷◌, ◌++◌, Option, Some, None, Result}
use Rattle.pim_text.proofs.Words.{Ok, Err, append_assoc, append-nil, arith, map, IfOk, IfErr, flat_map, AddressFamily, AnyAddress}
use Rattle.pim_text.proofs.Words.{Line, Holdtime, Delays, Priority, Generation, Secondary, LineStep, Expected, Message}
use Rattle.pim_text.proofs.Words.{HelloValue, option_lines, hello_in, option_line, delays_line_of, value_lines, address_in}
use Rattle.pim_text.proofs.Words.{line_is_in, all_in, IsLine, AreLines, lines, after, after_all, IsStep, OnlyStep, States}
use Rattle.pim_text.proofs.Words.{with_line, line_addresses, DelaysFit, HaveLength, hello_of}
use Rattle.pim_hello.specs.Hello.{Delays as DelaysValue, Parameters, Hello as HelloMessage}
use Rattle.pim_text.proofs.FieldEnds.{same_some}
use Rattle.pim_text.proofs.Runs.{first_step, value_runs}
use Rattle.pim_text.proofs.Written.{same_address, address_is_in, all_in_both, both}

pub if_ok_more : {A E : Type 0} (r : Result A E) (P Q : A → Type 0) → IfOk r P → ((x : A) → P x → Q x) → IfOk r Q
if_ok_more (Ok x) P Q p more = more x p
if_ok_more (Err e) P Q p more = tt

pub if_err_more : {A E : Type 0} (r : Result A E) (P Q : E → Type 0) → IfErr r P → ((x : E) → P x → Q x) → IfErr r Q
if_err_more (Ok x) P Q p more = tt
if_err_more (Err e) P Q p more = more e p

pub delays_fit : (line : Line) (text : List ℕ) → IsLine line text → DelaysFit line
delays_fit (Delays d) text is = is.0
delays_fit line text is = tt

-- ---- the options of these lines

pub with_lines : List Line → Parameters → Parameters
with_lines [] p = p
with_lines (line ∷ said) p = with_lines said (with_line line p)

module _ where
  options_then : (one two : List Line) (p : Parameters) → with_lines (one ++ two) p ≡ with_lines two (with_lines one p)
  unfolding with_lines
  options_then [] two p = refl
  options_then (line ∷ one) two p = options_then one two (with_line line p)

  abbrev pub these : Option ℕ → Option DelaysValue → Option ℕ → Option ℕ → Parameters
  these h d r g = record { holdtime = h; lan = d; priority = r; generation = g }

  with_holdtime : (o : Option ℕ) → with_lines (option_line Holdtime o) (these None None None None) ≡ these o None None None
  unfolding with_lines
  with_holdtime None = refl
  with_holdtime (Some n) = refl

  with_delays : (h : Option ℕ) (o : Option DelaysValue) → with_lines (option_line delays_line_of o) (these h None None None) ≡ these h o None None
  unfolding with_lines
  with_delays h None = refl
  with_delays h (Some d) = refl

  with_priority : (h : Option ℕ) (d : Option DelaysValue) (o : Option ℕ) → with_lines (option_line Priority o) (these h d None None) ≡ these h d o None
  unfolding with_lines
  with_priority h d None = refl
  with_priority h d (Some n) = refl

  with_generation : (h : Option ℕ) (d : Option DelaysValue) (r o : Option ℕ) → with_lines (option_line Generation o) (these h d r None) ≡ these h d r o
  unfolding with_lines
  with_generation h d r None = refl
  with_generation h d r (Some n) = refl

  with_names : (names : List AnyAddress) (p : Parameters) → with_lines (map Secondary names) p ≡ p
  unfolding with_lines
  with_names [] p = refl
  with_names (a ∷ names) p = with_names names p

  four : (h d r g n : List Line) (p a b c e : Parameters) → with_lines h p ≡ a → with_lines d a ≡ b → with_lines r b ≡ c → with_lines g c ≡ e → with_lines n e ≡ e → with_lines (h ++ (d ++ (r ++ (g ++ n)))) p ≡ e
  four h d r g n p a b c e first second third fourth last =
      options_then h (d ++ (r ++ (g ++ n))) p ∙ (ap (with_lines (d ++ (r ++ (g ++ n)))) first
      ∙ (options_then d (r ++ (g ++ n)) a ∙ (ap (with_lines (r ++ (g ++ n))) second
      ∙ (options_then r (g ++ n) b ∙ (ap (with_lines (g ++ n)) third ∙ (options_then g n c ∙ (ap (with_lines n) fourth ∙ last)))))))

  pub options_of : (hello : HelloValue) → with_lines (option_lines hello) (these None None None None) ≡ hello.parameters
  options_of hello =
      let p = hello.parameters in
      four (option_line Holdtime p.holdtime) (option_line delays_line_of p.lan) (option_line Priority p.priority) (option_line Generation p.generation) (map Secondary hello.addresses)
      (these None None None None) (these p.holdtime None None None) (these p.holdtime p.lan None None) (these p.holdtime p.lan p.priority None) p
      (with_holdtime p.holdtime) (with_delays p.holdtime p.lan) (with_priority p.holdtime p.lan p.priority) (with_generation p.holdtime p.lan p.priority p.generation) (with_names hello.addresses p)

  options_are : (family : AddressFamily) (hello : HelloMessage) → with_lines (value_lines (hello_in family hello)) (these None None None None) ≡ hello.parameters
  unfolding with_lines
  options_are family hello = options_of (record { parameters = hello.parameters; addresses = map (address_in family) hello.addresses })

-- ---- the addresses of these lines

abbrev named : List Line → List (List ℕ)
named said = flat_map line_addresses said

none_named : {A : Type 0} (line : A → Line) (o : Option A) (said : List Line) → ((x : A) → line_addresses (line x) ≡ []) → named (option_line line o ++ said) ≡ named said
none_named line None said none = refl
none_named line (Some x) said none = ap (λ (l : List (List ℕ)). l ++ named said) (none x)

names_named : (family : AddressFamily) (names : List (List ℕ)) → named (map Secondary (map (address_in family) names)) ≡ names
names_named family [] = refl
names_named family (a ∷ names) = let x = same_address family a in let xs = names_named family names in λ i. x i ∷ xs i

addresses_are : (family : AddressFamily) (hello : HelloMessage) → named (value_lines (hello_in family hello)) ≡ hello.addresses
addresses_are family hello =
    let p = hello.parameters in
    none_named Holdtime p.holdtime _ (λ x. refl) ∙ (none_named delays_line_of p.lan _ (λ x. refl) ∙ (none_named Priority p.priority _ (λ x. refl)
    ∙ (none_named Generation p.generation _ (λ x. refl) ∙ names_named family hello.addresses)))

-- ---- the family of these lines

module _ (family : AddressFamily) where
  option_in : {A : Type 0} (line : A → Line) (o : Option A) → ((x : A) → line_is_in family (line x) ≡ true) → all_in family (option_line line o) ≡ true
  option_in line None is = refl
  option_in line (Some x) is = let a = is x in λ i. a i && true

  names_in : (names : List (List ℕ)) → all_in family (map Secondary (map (address_in family) names)) ≡ true
  names_in [] = refl
  names_in (a ∷ names) = let x = address_is_in family a in let xs = names_in names in λ i. x i && xs i

  hello_is_in : (hello : HelloMessage) → all_in family (value_lines (hello_in family hello)) ≡ true
  hello_is_in hello =
      let p = hello.parameters in
      all_in_both family (option_line Holdtime p.holdtime) _ (option_in Holdtime p.holdtime (λ x. refl))
      (all_in_both family (option_line delays_line_of p.lan) _ (option_in delays_line_of p.lan (λ x. refl))
      (all_in_both family (option_line Priority p.priority) _ (option_in Priority p.priority (λ x. refl))
      (all_in_both family (option_line Generation p.generation) _ (option_in Generation p.generation (λ x. refl)) (names_in hello.addresses))))

  -- ---- line after line

  -- What was gathered, with the lines that are left, is the Hello.
  pub record GatheringOf (left : List (List ℕ)) (expected : Expected) (p : Parameters) (addresses : List (List ℕ)) (hello : HelloMessage) : Type 0 where
    pub rest : List Line
    pub are : AreLines rest left
    pub end : Expected
    pub run : after_all expected rest ≡ Some end
    pub within : all_in family rest ≡ true
    pub options : with_lines rest p ≡ hello.parameters
    pub names : addresses ++ named rest ≡ hello.addresses

  pub record Gathering (text : List ℕ) (left : List (List ℕ)) (expected : Expected) (p : Parameters) (addresses : List (List ℕ)) : Type 0 where
    pub lengths : HaveLength family addresses
    pub each : (hello : HelloMessage) → States text (hello_in family hello) → GatheringOf left expected p addresses hello

  pub at_start : (text : List ℕ) → Gathering text (lines text) Message (record { holdtime = None; lan = None; priority = None; generation = None }) []
  at_start text = record {
    lengths = omega arith;
    each = λ hello stated.
        let run = value_runs (hello_in family hello) in
        record { rest = value_lines (hello_in family hello); are = stated; end = run.0; run = run.1; within = hello_is_in hello; options = options_are family hello; names = addresses_are family hello };
  }

  pub record Next (line : List ℕ) (left : List (List ℕ)) (expected : Expected) (p : Parameters) (addresses : List (List ℕ)) (hello : HelloMessage) : Type 0 where
    pub first : Line
    pub next : Expected
    pub is : IsLine first line
    pub expects : after expected first ≡ Some next
    pub inside : line_is_in family first ≡ true
    pub others : GatheringOf left next (with_line first p) (addresses ++ line_addresses first) hello

  pub next_of : (line : List ℕ) (left : List (List ℕ)) (expected : Expected) (p : Parameters) (addresses : List (List ℕ)) (hello : HelloMessage) → GatheringOf (line ∷ left) expected p addresses hello → Next line left expected p addresses hello
  unfolding with_lines
  next_of line left expected p addresses hello w = by w.rest w.are w.run w.within w.options w.names
    where
      by : (rest : List Line) → AreLines rest (line ∷ left) → after_all expected rest ≡ Some w.end → all_in family rest ≡ true → with_lines rest p ≡ hello.parameters → addresses ++ named rest ≡ hello.addresses → Next line left expected p addresses hello
      by [] are run within options names = absurd are
      by (first ∷ rest) are run within options names =
          let k = first_step expected first rest w.end run in
          let split = both family (line_is_in family first) (all_in family rest) within in
          record {
            first = first;
            next = k.0;
            is = are.0;
            expects = k.1;
            inside = split.0;
            others = record { rest = rest; are = are.1; end = w.end; run = k.2; within = split.1; options = options; names = append_assoc addresses (line_addresses first) (named rest) ∙ names };
          }

  module _ (text line : List ℕ) (left : List (List ℕ)) (expected : Expected) (p : Parameters) (addresses : List (List ℕ)) (gathering : Gathering text (line ∷ left) expected p addresses) where
    pub is_asked : (hello : HelloMessage) → States text (hello_in family hello) → OnlyStep expected line None → ⊥
    is_asked hello stated none = let n = next_of line left expected p addresses hello (gathering.each hello stated) in none n.first n.next n.expects n.is

    pub is_within : (hello : HelloMessage) → States text (hello_in family hello) → (found : LineStep) → OnlyStep expected line (Some found) → line_is_in family found.line ≡ true
    is_within hello stated found only =
        let n = next_of line left expected p addresses hello (gathering.each hello stated) in
        ap (line_is_in family) (only n.first n.next n.expects n.is) ∙ n.inside

    further : (found : LineStep) → IsStep expected line found → OnlyStep expected line (Some found) → (hello : HelloMessage) → States text (hello_in family hello) → GatheringOf left found.next (with_line found.line p) (addresses ++ line_addresses found.line) hello
    further found is only hello stated =
        let n = next_of line left expected p addresses hello (gathering.each hello stated) in
        let same = only n.first n.next n.expects n.is in
        let next : n.next ≡ found.next = same_some n.next found.next (sym n.expects ∙ (ap (after expected) (sym same) ∙ is.1)) in
        subst (λ (l : Line). GatheringOf left found.next (with_line l p) (addresses ++ line_addresses l) hello) (sym same)
        (subst (λ (a : Expected). GatheringOf left a (with_line n.first p) (addresses ++ line_addresses n.first) hello) next n.others)

    pub one_further : (found : LineStep) (q : Parameters) (new : List (List ℕ)) → IsStep expected line found → OnlyStep expected line (Some found) → q ≡ with_line found.line p → new ≡ addresses ++ line_addresses found.line → HaveLength family new → Gathering text left found.next q new
    one_further found q new is only kept added lengths = record {
      lengths = lengths;
      each = λ hello stated.
          subst (λ (b : List (List ℕ)). GatheringOf left found.next q b hello) (sym added)
          (subst (λ (o : Parameters). GatheringOf left found.next o (addresses ++ line_addresses found.line) hello) (sym kept) (further found is only hello stated));
    }

  pub at_end : (text : List ℕ) (expected : Expected) (p : Parameters) (addresses : List (List ℕ)) → Gathering text [] expected p addresses → (hello : HelloMessage) → States text (hello_in family hello) → hello_of p addresses ≡ hello
  unfolding with_lines
  at_end text expected p addresses gathering hello stated = by w.rest w.are w.options w.names
    where
      w : GatheringOf [] expected p addresses hello
      w = gathering.each hello stated

      by : (rest : List Line) → AreLines rest [] → with_lines rest p ≡ hello.parameters → addresses ++ named rest ≡ hello.addresses → hello_of p addresses ≡ hello
      by [] are options names = let same = sym (append-nil addresses) ∙ names in λ i. hello_of (options i) (same i)
      by (line ∷ rest) are options names = absurd are
