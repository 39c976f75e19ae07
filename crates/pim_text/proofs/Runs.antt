-- The lines of a message, as they are asked for one after the other.
use Rattle.pim_text.proofs.Words.{◌≡◌, ◌∙◌, sym, ap, refl, ℕ, zero, suc, ◌<◌, ◌≤◌, Bool, true, false, List, [], ◌∷◌, ◌++◌, Option}
use Rattle.pim_text.proofs.Words.{Some, None, if◌then◌else◌, length, arith, false≢true, Entry, flat_map, map, AnyAddress, SetLine}
use Rattle.pim_text.proofs.Words.{Line, Hello, Holdtime, Delays, Priority, Generation, Secondary, Head, Set, Join, Prune}
use Rattle.pim_text.proofs.Words.{Expected, Message, Options, append_assoc, le-leb, leb-true, nat_le, AreLines, HelloValue}
use Rattle.pim_text.proofs.Words.{SetValue, TextValue, a_hello, a_message, option_line, delays_line_of, option_lines, set_lines}
use Rattle.pim_text.proofs.Words.{value_lines, option_after, after, onward, after_all, ends, is_whole, expects_options, is_hello}
use Rattle.pim_hello.specs.Hello.{Delays as DelaysValue}
use Rattle.pim_text.specs.declared.line.Expected.TheVariants.{Body as OfBody}
use Rattle.pim_text.proofs.FieldEnds.{same_some, not_some}

-- ---- lines and their texts, in two parts

pub are_append : (one two : List Line) (front behind : List (List ℕ)) → AreLines one front → AreLines two behind → AreLines (one ++ two) (front ++ behind)
are_append [] two [] behind a b = b
are_append [] two (text ∷ front) behind a b = absurd a
are_append (line ∷ one) two [] behind a b = absurd a
are_append (line ∷ one) two (text ∷ front) behind a b = (a.0, are_append one two front behind a.1 b)

pub record AreParts (all : List Line) (front behind : List (List ℕ)) : Type 0 where
  pub one : List Line
  pub two : List Line
  pub cut : all ≡ one ++ two
  pub first : AreLines one front
  pub second : AreLines two behind

pub are_split : (all : List Line) (front behind : List (List ℕ)) → AreLines all (front ++ behind) → AreParts all front behind
are_split all [] behind are = record { one = []; two = all; cut = refl; first = tt; second = are }
are_split [] (text ∷ front) behind are = absurd are
are_split (line ∷ all) (text ∷ front) behind are =
    let k = are_split all front behind are.1 in
    record { one = line ∷ k.one; two = k.two; cut = ap (λ (l : List Line). line ∷ l) k.cut; first = (are.0, k.first); second = k.second }

-- ---- what is asked for, in two parts

pub first_step : (expected : Expected) (line : Line) (others : List Line) (end : Expected) → after_all expected (line ∷ others) ≡ Some end → (next : Expected) × (after expected line ≡ Some next) × (after_all next others ≡ Some end)
first_step expected line others end run = at (after expected line) refl run
  where
    at : (t : Option Expected) → after expected line ≡ t → onward t (λ next. after_all next others) ≡ Some end → (next : Expected) × (after expected line ≡ Some next) × (after_all next others ≡ Some end)
    at None is e = absurd (not_some end e)
    at (Some next) is e = (next, is, e)

pub one_step : (expected next : Expected) (line : Line) (others : List Line) → after expected line ≡ Some next → after_all expected (line ∷ others) ≡ after_all next others
one_step expected next line others is = ap (λ (t : Option Expected). onward t (λ a. after_all a others)) is

pub run_append : (one two : List Line) (expected mid : Expected) → after_all expected one ≡ Some mid → after_all expected (one ++ two) ≡ after_all mid two
run_append [] two expected mid run = ap (λ (a : Expected). after_all a two) (same_some expected mid run)
run_append (line ∷ one) two expected mid run =
    let k = first_step expected line one mid run in
    one_step expected k.0 line (one ++ two) k.1 ∙ run_append one two k.0 mid k.2

pub run_split : (one two : List Line) (expected end : Expected) → after_all expected (one ++ two) ≡ Some end → (mid : Expected) × (after_all expected one ≡ Some mid) × (after_all mid two ≡ Some end)
run_split [] two expected end run = (expected, refl, run)
run_split (line ∷ one) two expected end run =
    let k = first_step expected line (one ++ two) end run in
    let m = run_split one two k.0 end k.2 in
    (m.0, one_step expected k.0 line one k.1 ∙ m.1, m.2)

-- ---- the lines of a message are asked for

abbrev pub body : ℕ → ℕ → ℕ → Expected
body joined pruned sets = OfBody (record { joined = joined; pruned = pruned; sets = sets })

joins_run : (es : List (Entry AnyAddress)) (pruned sets : ℕ) → after_all (body (length es) pruned sets) (map Join es) ≡ Some (body 0 pruned sets)
joins_run [] pruned sets = refl
joins_run (e ∷ es) pruned sets = joins_run es pruned sets

prunes_run : (es : List (Entry AnyAddress)) (sets : ℕ) → after_all (body 0 (length es) sets) (map Prune es) ≡ Some (body 0 0 sets)
prunes_run [] sets = refl
prunes_run (e ∷ es) sets = prunes_run es sets

set_runs : (set : SetValue) (sets : ℕ) → after_all (body 0 0 (suc sets)) (set_lines set) ≡ Some (body 0 0 sets)
set_runs set sets =
    run_append (map Join set.joined) (map Prune set.pruned) (body (length set.joined) (length set.pruned) sets) (body 0 (length set.pruned) sets) (joins_run set.joined (length set.pruned) sets)
    ∙ prunes_run set.pruned sets

sets_run : (sets : List SetValue) → after_all (body 0 0 (length sets)) (flat_map set_lines sets) ≡ Some (body 0 0 0)
sets_run [] = refl
sets_run (set ∷ sets) = run_append (set_lines set) (flat_map set_lines sets) (body 0 0 (suc (length sets))) (body 0 0 (length sets)) (set_runs set (length sets)) ∙ sets_run sets

option_runs : {A : Type 0} (line : A → Line) (o : Option A) (place from : ℕ) → from ≤ place → ((x : A) → after (Options from) (line x) ≡ option_after from place (suc place)) → (next : ℕ) × (next ≤ suc place) × (after_all (Options from) (option_line line o) ≡ Some (Options next))
option_runs line None place from low is = (from, omega arith, refl)
option_runs line (Some x) place from low is =
    let here : after (Options from) (line x) ≡ Some (Options (suc place)) = is x ∙ rw (le-leb from place low) refl in
    (suc place, omega arith, one_step (Options from) (Options (suc place)) (line x) [] here)

addresses_run : (names : List AnyAddress) (from : ℕ) → (next : ℕ) × (after_all (Options from) (map Secondary names) ≡ Some (Options next))
addresses_run [] from = (from, refl)
addresses_run (a ∷ names) from = addresses_run names 4

hello_runs : (hello : HelloValue) → (next : ℕ) × (after_all (Options 0) (option_lines hello) ≡ Some (Options next))
hello_runs hello =
    let p = hello.parameters in
    let h = option_runs Holdtime p.holdtime 0 0 (omega arith) (λ x. refl) in
    let d = option_runs delays_line_of p.lan 1 h.0 h.1 (λ x. refl) in
    let r = option_runs Priority p.priority 2 d.0 d.1 (λ x. refl) in
    let g = option_runs Generation p.generation 3 r.0 r.1 (λ x. refl) in
    let a = addresses_run hello.addresses g.0 in (
      a.0,
      run_append (option_line Holdtime p.holdtime) _ (Options 0) (Options h.0) h.2
          ∙ (run_append (option_line delays_line_of p.lan) _ (Options h.0) (Options d.0) d.2
          ∙ (run_append (option_line Priority p.priority) _ (Options d.0) (Options r.0) r.2
          ∙ (run_append (option_line Generation p.generation) _ (Options r.0) (Options g.0) g.2 ∙ a.1))),
    )

pub value_runs : (value : TextValue) → (end : Expected) × (after_all Message (value_lines value) ≡ Some end) × (is_whole end ≡ true) × (expects_options end ≡ is_hello value)
value_runs (a_hello hello) = let k = hello_runs hello in (Options k.0, k.1, refl, refl)
value_runs (a_message message) = (body 0 0 0, sets_run message.sets, refl, refl)

-- ---- lines that are asked for are those of a message

pub record IsBody (joined pruned sets : ℕ) (all : List Line) : Type 0 where
  pub joins : List (Entry AnyAddress)
  pub prunes : List (Entry AnyAddress)
  pub rest : List SetValue
  pub joined_count : length joins ≡ joined
  pub pruned_count : length prunes ≡ pruned
  pub set_count : length rest ≡ sets
  pub are : all ≡ map Join joins ++ (map Prune prunes ++ flat_map set_lines rest)

none_left : (es : List (Entry AnyAddress)) → length es ≡ 0 → es ≡ []
none_left [] e = refl
none_left (x ∷ es) e = absurd (omega (arith, e))

body_at_end : (joined pruned sets : ℕ) → ends joined pruned sets ≡ true → IsBody joined pruned sets []
body_at_end zero zero zero is = record { joins = []; prunes = []; rest = []; joined_count = refl; pruned_count = refl; set_count = refl; are = refl }
body_at_end zero zero (suc sets) is = absurd (false≢true is)
body_at_end zero (suc pruned) sets is = absurd (false≢true is)
body_at_end (suc joined) pruned sets is = absurd (false≢true is)

same_set : (x : SetLine) (joins prunes : List (Entry AnyAddress)) → length joins ≡ x.joined → length prunes ≡ x.pruned → Set x ≡ Set (record { group = x.group; joined = length joins; pruned = length prunes })
same_set x joins prunes j p = let a = sym j in let b = sym p in λ i. Set (record { group = x.group; joined = a i; pruned = b i })

body_value : (all : List Line) (joined pruned sets : ℕ) (end : Expected) → after_all (body joined pruned sets) all ≡ Some end → is_whole end ≡ true → IsBody joined pruned sets all
body_value [] joined pruned sets end run whole = body_at_end joined pruned sets (ap is_whole (same_some (body joined pruned sets) end run) ∙ whole)
body_value (Join e ∷ all) (suc joined) pruned sets end run whole =
    let k = body_value all joined pruned sets end run whole in
    record { joins = e ∷ k.joins; prunes = k.prunes; rest = k.rest; joined_count = ap suc k.joined_count; pruned_count = k.pruned_count; set_count = k.set_count; are = ap (λ (l : List Line). Join e ∷ l) k.are }
body_value (Prune e ∷ all) zero (suc pruned) sets end run whole =
    let k = body_value all 0 pruned sets end run whole in
    record {
      joins = [];
      prunes = e ∷ k.prunes;
      rest = k.rest;
      joined_count = refl;
      pruned_count = ap suc k.pruned_count;
      set_count = k.set_count;
      are = ap (λ (l : List Line). Prune e ∷ l) (k.are ∙ ap (λ (es : List (Entry AnyAddress)). map Join es ++ (map Prune k.prunes ++ flat_map set_lines k.rest)) (none_left k.joins k.joined_count));
    }
body_value (Set x ∷ all) zero zero (suc sets) end run whole =
    let k = body_value all x.joined x.pruned sets end run whole in
    let set : SetValue = record { group = x.group; joined = k.joins; pruned = k.prunes } in
    record {
      joins = [];
      prunes = [];
      rest = set ∷ k.rest;
      joined_count = refl;
      pruned_count = refl;
      set_count = ap suc k.set_count;
      are = (λ i. same_set x k.joins k.prunes k.joined_count k.pruned_count i ∷ k.are i)
          ∙ ap (λ (l : List Line). Set (record { group = x.group; joined = length k.joins; pruned = length k.prunes }) ∷ l) (sym (append_assoc (map Join k.joins) (map Prune k.prunes) (flat_map set_lines k.rest)));
    }
body_value (line ∷ all) (suc joined) pruned sets end run whole = absurd (not_some end run)
body_value (line ∷ all) zero (suc pruned) sets end run whole = absurd (not_some end run)
body_value (line ∷ all) zero zero (suc sets) end run whole = absurd (not_some end run)
body_value (line ∷ all) zero zero zero end run whole = absurd (not_some end run)

-- ---- the same of a Hello

pub record IsHello (from : ℕ) (all : List Line) : Type 0 where
  pub hello : HelloValue
  pub are : all ≡ option_lines hello
  pub no_holdtime : 0 < from → hello.parameters.holdtime ≡ None
  pub no_delays : 1 < from → hello.parameters.lan ≡ None
  pub no_priority : 2 < from → hello.parameters.priority ≡ None
  pub no_generation : 3 < from → hello.parameters.generation ≡ None

asked_from : (from place : ℕ) (next : Expected) → option_after from place (suc place) ≡ Some next → (from ≤ place) × (next ≡ Options (suc place))
asked_from from place next is = at (nat_le from place) refl is
  where
    at : (t : Bool) → nat_le from place ≡ t → (if t then Some (Options (suc place)) else None) ≡ Some next → (from ≤ place) × (next ≡ Options (suc place))
    at true so e = (leb-true from place so, sym (same_some (Options (suc place)) next e))
    at false so e = absurd (not_some next e)

abbrev hello_of : (h : Option ℕ) (d : Option DelaysValue) (r g : Option ℕ) → List AnyAddress → HelloValue
hello_of h d r g names = record { parameters = record { holdtime = h; lan = d; priority = r; generation = g }; addresses = names }

option_value : (all : List Line) (from : ℕ) (end : Expected) → after_all (Options from) all ≡ Some end → IsHello from all
option_value [] from end run = record { hello = hello_of None None None None []; are = refl; no_holdtime = λ _. refl; no_delays = λ _. refl; no_priority = λ _. refl; no_generation = λ _. refl }
option_value (Holdtime n ∷ all) from end run =
    let step = first_step (Options from) (Holdtime n) all end run in
    let low = asked_from from 0 step.0 step.1 in
    let k = option_value all 1 end (ap (λ (a : Expected). after_all a all) (sym low.1) ∙ step.2) in
    let p = k.hello.parameters in
    record {
      hello = hello_of (Some n) p.lan p.priority p.generation k.hello.addresses;
      are = ap (λ (l : List Line). Holdtime n ∷ l) (k.are ∙ ap (λ (o : Option ℕ). option_lines (hello_of o p.lan p.priority p.generation k.hello.addresses)) (k.no_holdtime (omega arith)));
      no_holdtime = λ h. absurd (omega (arith, h, low.0));
      no_delays = λ h. absurd (omega (arith, h, low.0));
      no_priority = λ h. absurd (omega (arith, h, low.0));
      no_generation = λ h. absurd (omega (arith, h, low.0));
    }
option_value (Delays d ∷ all) from end run =
    let step = first_step (Options from) (Delays d) all end run in
    let low = asked_from from 1 step.0 step.1 in
    let k = option_value all 2 end (ap (λ (a : Expected). after_all a all) (sym low.1) ∙ step.2) in
    let p = k.hello.parameters in
    let none = k.no_holdtime (omega arith) in
    let nor = k.no_delays (omega arith) in
    record {
      hello = hello_of None (Some (record { t = d.t; propagation = d.propagation; override_ms = d.override_ms })) p.priority p.generation k.hello.addresses;
      are = ap (λ (l : List Line). Delays d ∷ l) (k.are ∙ (λ i. option_lines (hello_of (none i) (nor i) p.priority p.generation k.hello.addresses)));
      no_holdtime = λ _. refl;
      no_delays = λ h. absurd (omega (arith, h, low.0));
      no_priority = λ h. absurd (omega (arith, h, low.0));
      no_generation = λ h. absurd (omega (arith, h, low.0));
    }
option_value (Priority n ∷ all) from end run =
    let step = first_step (Options from) (Priority n) all end run in
    let low = asked_from from 2 step.0 step.1 in
    let k = option_value all 3 end (ap (λ (a : Expected). after_all a all) (sym low.1) ∙ step.2) in
    let p = k.hello.parameters in
    let none = k.no_holdtime (omega arith) in
    let nor = k.no_delays (omega arith) in
    let not_so = k.no_priority (omega arith) in
    record {
      hello = hello_of None None (Some n) p.generation k.hello.addresses;
      are = ap (λ (l : List Line). Priority n ∷ l) (k.are ∙ (λ i. option_lines (hello_of (none i) (nor i) (not_so i) p.generation k.hello.addresses)));
      no_holdtime = λ _. refl;
      no_delays = λ _. refl;
      no_priority = λ h. absurd (omega (arith, h, low.0));
      no_generation = λ h. absurd (omega (arith, h, low.0));
    }
option_value (Generation n ∷ all) from end run =
    let step = first_step (Options from) (Generation n) all end run in
    let low = asked_from from 3 step.0 step.1 in
    let k = option_value all 4 end (ap (λ (a : Expected). after_all a all) (sym low.1) ∙ step.2) in
    let p = k.hello.parameters in
    let none = k.no_holdtime (omega arith) in
    let nor = k.no_delays (omega arith) in
    let not_so = k.no_priority (omega arith) in
    let never = k.no_generation (omega arith) in
    record {
      hello = hello_of None None None (Some n) k.hello.addresses;
      are = ap (λ (l : List Line). Generation n ∷ l) (k.are ∙ (λ i. option_lines (hello_of (none i) (nor i) (not_so i) (never i) k.hello.addresses)));
      no_holdtime = λ _. refl;
      no_delays = λ _. refl;
      no_priority = λ _. refl;
      no_generation = λ h. absurd (omega (arith, h, low.0));
    }
option_value (Secondary a ∷ all) from end run =
    let k = option_value all 4 end run in
    let none = k.no_holdtime (omega arith) in
    let nor = k.no_delays (omega arith) in
    let not_so = k.no_priority (omega arith) in
    let never = k.no_generation (omega arith) in
    record {
      hello = hello_of None None None None (a ∷ k.hello.addresses);
      are = ap (λ (l : List Line). Secondary a ∷ l) (k.are ∙ (λ i. option_lines (hello_of (none i) (nor i) (not_so i) (never i) k.hello.addresses)));
      no_holdtime = λ _. refl;
      no_delays = λ _. refl;
      no_priority = λ _. refl;
      no_generation = λ _. refl;
    }
option_value (line ∷ all) from end run = absurd (not_some end run)

-- ---- the same of any message

pub value_of_run : (all : List Line) (end : Expected) → after_all Message all ≡ Some end → is_whole end ≡ true → (value : TextValue) × (all ≡ value_lines value)
value_of_run [] end run whole = absurd (false≢true (ap is_whole (same_some Message end run) ∙ whole))
value_of_run (Hello ∷ all) end run whole = let k = option_value all 0 end run in (a_hello k.hello, ap (λ (l : List Line). Hello ∷ l) k.are)
value_of_run (Head h ∷ all) end run whole =
    let k = body_value all 0 0 h.sets end run whole in
    let count = sym k.set_count in
    let joins = none_left k.joins k.joined_count in
    let prunes = none_left k.prunes k.pruned_count in (
      a_message (record { upstream = h.upstream; holdtime = h.holdtime; sets = k.rest }),
      (λ i. Head (record { upstream = h.upstream; holdtime = h.holdtime; sets = count i }) ∷ all)
          ∙ ap (λ (l : List Line). Head (record { upstream = h.upstream; holdtime = h.holdtime; sets = length k.rest }) ∷ l) (k.are ∙ (λ i. map Join (joins i) ++ (map Prune (prunes i) ++ flat_map set_lines k.rest))),
    )
value_of_run (line ∷ all) end run whole = absurd (not_some end run)
