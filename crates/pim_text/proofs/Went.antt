-- A text that was read line by line.
use Rattle.pim_text.proofs.Words.{◌≡◌, ◌∙◌, sym, ap, refl, subst, ℕ, suc, ◌+◌, ◌<◌, ◌≤◌, Bool, true, false, List, [], ◌∷◌, ◌++◌}
use Rattle.pim_text.proofs.Words.{Some, length, arith, false≢true, Line, Expected, Message, take, ◌&&◌, append-nil, append_assoc}
use Rattle.pim_text.proofs.Words.{length-append, inl, inr, if◌then◌else◌, ◌==◌, ◌^◌, onto_first, take-append_seam}
use Rattle.pim_text.proofs.Words.{list_all-append, WrittenTextNames, AddressFamily, Ipv4, Ipv6, TextValue, value_lines}
use Rattle.pim_text.proofs.Words.{line_is_in, all_in, IsLine, AreLines, lines, after, after_all, is_whole, expects_options}
use Rattle.pim_text.proofs.Words.{Advanced, IsUnexpected, States, Begin, IsWrongLine, IsRead}
use Rattle.pim_text.specs.declared.line.TextProgress.{TextProgress}
use Rattle.pim_text.proofs.OneValue.{same_value}
use Rattle.pim_text.proofs.FieldEnds.{same_some}
use Rattle.pim_text.proofs.Runs.{are_append, are_split, first_step, one_step, run_append, run_split, value_runs, value_of_run}
use Rattle.pim_text.proofs.Fillers.{complete}

lines_within : (text : List ℕ) → length (lines text) ≤ length text
unfolding lines
lines_within [] = omega arith
lines_within (byte ∷ text) = at (byte == 10) (lines text) (lines_within text)
  where
    at : (t : Bool) (parts : List (List ℕ)) → length parts ≤ length text → length (if t then (byte ∷ []) ∷ parts else onto_first byte parts) ≤ suc (length text)
    at true parts below = omega (arith, below)
    at false [] below = omega arith
    at false (part ∷ parts) below = omega (arith, below)

-- The lines in front were read, and these are what they say.
pub record Went (all left : List (List ℕ)) (progress : TextProgress) (number : ℕ) : Type 0 where
  pub front : List (List ℕ)
  pub cut : all ≡ front ++ left
  pub numbered : number ≡ length front
  pub said : List Line
  pub are : AreLines said front
  pub expects : after_all Message said ≡ Some progress.expected
  pub only : (other : List Line) (end : Expected) → AreLines other front → after_all Message other ≡ Some end → other ≡ said
  pub ipv4 : progress.all_ipv4 ≡ all_in Ipv4 said
  pub ipv6 : progress.all_ipv6 ≡ all_in Ipv6 said

all_then : (family : AddressFamily) (said : List Line) (line : Line) → all_in family (said ++ (line ∷ [])) ≡ (all_in family said && line_is_in family line)
all_then family said line = list_all-append (line_is_in family) said (line ∷ []) ∙ ap (λ b. all_in family said && b) (and_true (line_is_in family line))
  where
    and_true : (b : Bool) → (b && true) ≡ b
    and_true true = refl
    and_true false = refl

only_nothing : (other : List Line) → AreLines other [] → other ≡ []
only_nothing [] are = refl
only_nothing (line ∷ other) are = absurd are

pub at_start : (all : List (List ℕ)) → Went all all (record { expected = Message; all_ipv4 = true; all_ipv6 = true }) 0
at_start all = record { front = []; cut = refl; numbered = refl; said = []; are = tt; expects = refl; only = λ other end are _. only_nothing other are; ipv4 = refl; ipv6 = refl }

-- one line more
is_one : (two : List Line) (text : List ℕ) → AreLines two (text ∷ []) → (line : Line) × (two ≡ line ∷ []) × IsLine line text
is_one [] text are = absurd are
is_one (line ∷ []) text are = (line, refl, are.0)
is_one (line ∷ other ∷ two) text are = absurd are.1

-- where lines before a line were read, the line is one that is asked for
module _ (all left : List (List ℕ)) (old : TextProgress) (number : ℕ) (text : List ℕ) (went : Went all (text ∷ left) old number) where
  pub record IsAsked (others : List Line) (line : Line) (behind : List Line) : Type 0 where
    pub before : others ≡ went.said
    pub next : Expected
    pub expects : after old.expected line ≡ Some next

  is_asked : (one : List Line) (line : Line) (behind : List Line) (end : Expected) → AreLines one went.front → after_all Message (one ++ (line ∷ behind)) ≡ Some end → IsAsked one line behind
  is_asked one line behind end are run =
      let parts = run_split one (line ∷ behind) Message end run in
      let same = went.only one parts.0 are parts.1 in
      let mid : old.expected ≡ parts.0 = same_some old.expected parts.0 (sym went.expects ∙ (ap (after_all Message) (sym same) ∙ parts.1)) in
      let k = first_step parts.0 line behind end parts.2 in
      record { before = same; next = k.0; expects = ap (λ (a : Expected). after a line) mid ∙ k.1 }

  only_more : (new : TextProgress) → Advanced old text new → (other : List Line) (end : Expected) → AreLines other (went.front ++ (text ∷ [])) → after_all Message other ≡ Some end → (line : Line) → ((other : Line) (next : Expected) → after old.expected other ≡ Some next → IsLine other text → line ≡ other) → other ≡ went.said ++ (line ∷ [])
  only_more new advanced other end are run line only =
      let parts = are_split other went.front (text ∷ []) are in
      let last = is_one parts.two text parts.second in
      let whole : other ≡ parts.one ++ (last.0 ∷ []) = parts.cut ∙ ap (λ (l : List Line). parts.one ++ l) last.1 in
      let k = is_asked parts.one last.0 [] end parts.first (ap (after_all Message) (sym whole) ∙ run) in
      let same = only last.0 k.next k.expects last.2 in
      let before = k.before in
      whole ∙ (let back = sym same in λ i. before i ++ (back i ∷ []))

  pub one_further : (new : TextProgress) → Advanced old text new → Went all left new (number + 1)
  one_further new advanced = record {
    front = went.front ++ (text ∷ []);
    cut = went.cut ∙ sym (append_assoc went.front (text ∷ []) left);
    numbered = ap (λ n. n + 1) went.numbered ∙ sym (length-append went.front (text ∷ []));
    said = went.said ++ (advanced.line ∷ []);
    are = are_append went.said (advanced.line ∷ []) went.front (text ∷ []) went.are (advanced.is, tt);
    expects = run_append went.said (advanced.line ∷ []) Message old.expected went.expects ∙ one_step old.expected new.expected advanced.line [] advanced.expects;
    only = λ other end are run. only_more new advanced other end are run advanced.line advanced.only;
    ipv4 = advanced.ipv4 ∙ (ap (λ b. b && line_is_in Ipv4 advanced.line) went.ipv4 ∙ sym (all_then Ipv4 went.said advanced.line));
    ipv6 = advanced.ipv6 ∙ (ap (λ b. b && line_is_in Ipv6 advanced.line) went.ipv6 ∙ sym (all_then Ipv6 went.said advanced.line));
  }

  -- the line is wrong
  begins_not : IsUnexpected old.expected text → Begin (went.front ++ (text ∷ [])) → ⊥
  begins_not unasked begin =
      let run = value_runs begin.value in
      let outer = are_split (value_lines begin.value) (went.front ++ (text ∷ [])) begin.behind begin.are in
      let inner = are_split outer.one went.front (text ∷ []) outer.first in
      let last = is_one inner.two text inner.second in
      let whole : value_lines begin.value ≡ inner.one ++ (last.0 ∷ outer.two) =
      outer.cut ∙ (ap (λ (l : List Line). l ++ outer.two) (inner.cut ∙ ap (λ (l : List Line). inner.one ++ l) last.1) ∙ append_assoc inner.one (last.0 ∷ []) outer.two) in
      let k = is_asked inner.one last.0 outer.two run.0 inner.first (ap (after_all Message) (sym whole) ∙ run.1) in
      unasked last.0 k.next k.expects last.2

-- the lines in front begin a message
begun : WrittenTextNames → (front : List (List ℕ)) (said : List Line) (expected : Expected) → AreLines said front → after_all Message said ≡ Some expected → Begin front
begun written front said expected are expects =
    let k = complete written expected in
    let value = value_of_run (said ++ k.rest) k.end (run_append said k.rest Message expected expects ∙ k.run) k.whole in
    record { value = value.0; behind = k.texts; are = subst (λ (l : List Line). AreLines l (front ++ k.texts)) value.1 (are_append said k.rest front k.texts are k.are) }

pub stopped : WrittenTextNames → (text : List ℕ) (line : List ℕ) (left : List (List ℕ)) (old : TextProgress) (number : ℕ) → Went (lines text) (line ∷ left) old number → IsUnexpected old.expected line → IsWrongLine text (number + 1)
stopped written text line left old number went unasked =
    let front : take (length went.front) (lines text) ≡ went.front = ap (take (length went.front)) went.cut ∙ take-append_seam went.front (line ∷ left) in
    let longer : lines text ≡ (went.front ++ (line ∷ [])) ++ left = went.cut ∙ sym (append_assoc went.front (line ∷ []) left) in
    let count : number + 1 ≡ length (went.front ++ (line ∷ [])) = ap (λ n. n + 1) went.numbered ∙ sym (length-append went.front (line ∷ [])) in
    let more : take (number + 1) (lines text) ≡ went.front ++ (line ∷ []) = ap (λ n. take n (lines text)) count ∙ (ap (take (length (went.front ++ (line ∷ [])))) longer ∙ take-append_seam (went.front ++ (line ∷ [])) left) in
    record {
      before = length went.front;
      numbered = omega (arith, went.numbered);
      within = omega (arith, ap length went.cut, length-append went.front (line ∷ left));
      begun = subst Begin (sym front) (begun written went.front went.said old.expected went.are went.expects);
      wrong = inl (λ begin. begins_not (lines text) left old number line went unasked (subst Begin more begin));
    }

-- the text is over
module _ (text : List ℕ) (progress : TextProgress) (number : ℕ) (went : Went (lines text) [] progress number) where
  over : lines text ≡ went.front
  over = went.cut ∙ append-nil went.front

  same_lines : (value : TextValue) → States text value → (value_lines value ≡ went.said) × (is_whole progress.expected ≡ true)
  same_lines value stated =
      let run = value_runs value in
      let same = went.only (value_lines value) run.0 (subst (AreLines (value_lines value)) over stated) run.1 in
      (same, ap is_whole (same_some progress.expected run.0 (sym went.expects ∙ (ap (after_all Message) (sym same) ∙ run.1))) ∙ run.2)

  pub read : is_whole progress.expected ≡ true → IsRead text (record { is_hello = expects_options progress.expected; all_ipv4 = progress.all_ipv4; all_ipv6 = progress.all_ipv6 })
  read whole =
      let value = value_of_run went.said progress.expected went.expects whole in
      let run = value_runs value.0 in
      let end : progress.expected ≡ run.0 = same_some progress.expected run.0 (sym went.expects ∙ (ap (after_all Message) value.1 ∙ run.1)) in
      record {
        value = value.0;
        states = subst (λ (l : List Line). AreLines l (lines text)) value.1 (subst (AreLines went.said) (sym over) went.are);
        only = λ other states. same_value other value.0 ((same_lines other states).0 ∙ value.1);
        kind = ap expects_options end ∙ run.3;
        ipv4 = went.ipv4 ∙ ap (all_in Ipv4) value.1;
        ipv6 = went.ipv6 ∙ ap (all_in Ipv6) value.1;
      }

  pub ends_early : WrittenTextNames → is_whole progress.expected ≡ false → IsWrongLine text (number + 1)
  ends_early written not_whole =
      let count : number ≡ length (lines text) = went.numbered ∙ ap length (sym over) in
      let front : take (length (lines text)) (lines text) ≡ went.front = ap (take (length (lines text))) (sym (append-nil (lines text))) ∙ (take-append_seam (lines text) [] ∙ over) in
      record {
        before = length (lines text);
        numbered = omega (arith, count);
        within = omega arith;
        begun = subst Begin (sym front) (begun written went.front went.said progress.expected went.are went.expects);
        wrong = inr (refl, λ value stated. false≢true (sym not_whole ∙ (same_lines value stated).1));
      }

pub number_is_small : (text : List ℕ) (left : List (List ℕ)) (progress : TextProgress) (number : ℕ) → length text < 2 ^ 32 → Went (lines text) left progress number → number < 2 ^ 32
number_is_small text left progress number small went = omega (arith, small, lines_within text, went.numbered, ap length went.cut, length-append went.front left)
