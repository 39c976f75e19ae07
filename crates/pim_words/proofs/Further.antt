-- The words for further files, read one by one.
use Rattle.pim_words.proofs.Words.{◌≡◌, ◌∙◌, sym, ap, subst, arith, ℕ, suc, ◌+◌, ◌<◌, ◌≤◌, Bool, true, false, not, cond}
use Rattle.pim_words.proofs.Words.{List, [], ◌∷◌, ◌++◌, length, append_assoc, append-nil, map, refl, count_by, filter}
use Rattle.pim_words.proofs.Words.{Bor, AllZip, AllByRecursion, length-append, Text, More, AreMore, ByKind, IsMore}
use Rattle.pim_words.proofs.Words.{is_more, more_words, port_words}
use Rattle.std.proofs.lemmas.List.Sums.{length-filter}

abbrev pub texts : List (Bor Text) → List Text
texts words = map (λ w. w.now) words

-- ---- the number of the words that name ports

same_length : (b : Bool) (w : Bor Text) (us : List (Bor Text)) (vs : List Text) → length us ≡ length vs → length (cond b (w ∷ us) us) ≡ length (cond b (w.now ∷ vs) vs)
same_length true w us vs same = ap suc same
same_length false w us vs same = same

same_lengths : (is_any : Bool) (words : List (Bor Text)) → length (filter (λ w. not (is_more is_any w.now)) words) ≡ length (port_words is_any (texts words))
same_lengths is_any [] = refl
same_lengths is_any (w ∷ ws) =
    same_length (not (is_more is_any w.now)) w (filter (λ v. not (is_more is_any v.now)) ws) (port_words is_any (texts ws)) (same_lengths is_any ws)

pub counted : (is_any : Bool) (words : List (Bor Text)) → count_by (λ w. not (is_more is_any w.now)) words ≡ length (port_words is_any (texts words))
counted is_any words = sym (length-filter (λ (w : Bor Text). not (is_more is_any w.now)) words) ∙ same_lengths is_any words

-- ---- a fact of a word, by its kind

pub of_more : (t : Bool) (M P : Type 0) → t ≡ true → M → ByKind t M P
of_more true M P kind is = is
of_more false M P kind is = absurd cc

pub of_port : (t : Bool) (M P : Type 0) → t ≡ false → P → ByKind t M P
of_port true M P kind is = absurd cc
of_port false M P kind is = is

-- the words that name ports, after one that does or doesn't
pub ports_with : (P : List Text → Type 0) (t : Bool) (word : Text) (left : List Text) → t ≡ false → P (word ∷ left) → P (cond (not t) (word ∷ left) left)
ports_with P true word left kind is = absurd cc
ports_with P false word left kind is = is

pub ports_without : (P : List Text → Type 0) (t : Bool) (word : Text) (left : List Text) → t ≡ true → P left → P (cond (not t) (word ∷ left) left)
ports_without P true word left kind is = is
ports_without P false word left kind is = absurd cc

-- ---- further files, after words for a number of ports

abbrev AreOf : List (ℕ × Text) → List More → Type 0
AreOf words more = AllZip (λ (at : ℕ × Text) one. IsMore at.0 at.1 one) words more

with_more : (t : Bool) (at : ℕ × Text) (words others : List (ℕ × Text)) (one : More) (later : List More) → t ≡ true → IsMore at.0 at.1 one → AreOf words later
    → AreOf (cond t (at ∷ words) others) (one ∷ later)
with_more true at words others one later kind is are = (is, are)
with_more false at words others one later kind is are = absurd cc

without_more : (t : Bool) (at : ℕ × Text) (words others : List (ℕ × Text)) (later : List More) → t ≡ false → AreOf others later → AreOf (cond t (at ∷ words) others) later
without_more true at words others later kind are = absurd cc
without_more false at words others later kind are = are

module _ (is_any : Bool) where
  -- These further files are those of the words before the ones that are left, which name this number of ports.
  pub record AreSoFar (ports : ℕ) (all left : List Text) (more : List More) : Type 0 where
    pub few : length more ≤ 4096
    pub goes_on : (later : List More) → AreOf (more_words is_any ports left) later → AreOf (more_words is_any 0 all) (more ++ later)

  pub past_port : (ports : ℕ) (all left : List Text) (more : List More) (word : Text) → AreSoFar ports all (word ∷ left) more → is_more is_any word ≡ false → AreSoFar (ports + 1) all left more
  past_port ports all left more word are kind = record {
    few = are.few;
    goes_on = λ later is.
        are.goes_on later (without_more (is_more is_any word) (ports, word) (more_words is_any ports left) (more_words is_any (ports + 1) left) later kind is);
  }

  pub past_more : (ports : ℕ) (all left : List Text) (more : List More) (word : Text) (one : More) → AreSoFar ports all (word ∷ left) more → is_more is_any word ≡ true → IsMore ports word one
      → length more < 4096 → AreSoFar ports all left (more ++ one ∷ [])
  past_more ports all left more word one are kind named room = record {
    few = omega (arith, room, length-append more (one ∷ []));
    goes_on = λ later is. subst (λ l. AreOf (more_words is_any 0 all) l) (sym (append_assoc more (one ∷ []) later))
        (are.goes_on (one ∷ later) (with_more (is_more is_any word) (ports, word) (more_words is_any ports left) (more_words is_any (ports + 1) left) one later kind named is));
  }

  pub all_of_them : (ports : ℕ) (all : List Text) (more : List More) → AreSoFar ports all [] more → AreMore is_any all more
  all_of_them ports all more are = record { named = subst (λ l. AreOf (more_words is_any 0 all) l) (append-nil more) (are.goes_on [] tt); few = are.few }

-- ---- each further file is of one of the ports

abbrev AreBelow : ℕ → List More → Type 0
AreBelow ports more = AllByRecursion (λ (one : More). one.port < ports) more

module _ (is_any : Bool) where
  below : (ports : ℕ) (words : List Text) (more : List More) → AreOf (more_words is_any ports words) more → AreBelow (ports + length (port_words is_any words)) more
  below ports [] [] are = tt
  below ports [] (one ∷ more) are = absurd are
  below ports (word ∷ words) more are = by (is_more is_any word) more (λ later is. below ports words later is) (λ later is. below (ports + 1) words later is) are
    where
      by : (t : Bool) (later : List More) → ((l : List More) → AreOf (more_words is_any ports words) l → AreBelow (ports + length (port_words is_any words)) l)
          → ((l : List More) → AreOf (more_words is_any (ports + 1) words) l → AreBelow (ports + 1 + length (port_words is_any words)) l)
          → AreOf (cond t ((ports, word) ∷ more_words is_any ports words) (more_words is_any (ports + 1) words)) later
          → AreBelow (ports + length (cond (not t) (word ∷ port_words is_any words) (port_words is_any words))) later
      by true [] same next is = absurd is
      by true (one ∷ later) same next is = let last : one.port + 1 ≡ ports = is.0.last in (omega (arith, last), same later is.1)
      by false later same next is =
          let n : ℕ = length (port_words is_any words) in
          let step : ports + 1 + n ≡ ports + suc n = omega arith in
          subst (λ (m : ℕ). AreBelow m later) step (next later is)

  pub below_ports : (words : List Text) (ports : ℕ) (more : List More) → AreMore is_any words more → ports ≡ length (port_words is_any words) → (length more ≤ 4096) × AreBelow ports more
  below_ports words ports more are count =
      let whole : 0 + length (port_words is_any words) ≡ ports = omega (arith, count) in
      (are.few, subst (λ (n : ℕ). AreBelow n more) whole (below 0 words more are.named))
