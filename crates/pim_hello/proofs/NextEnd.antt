-- The first moment at which a neighbour's time is over.
use Rattle.pim_hello.proofs.Words.{◌≡◌, ℕ, ◌+◌, ◌-◌, ◌≤◌, arith, Bool, true, false, cond, List, [], ◌∷◌, Option, Some, None, refl}
use Rattle.pim_hello.proofs.Words.{sym, ap, ◌∙◌, ◌||◌, nat_le, min, max, map, option_map, list_any, AllByRecursion, IsTotalOrder}
use Rattle.pim_hello.proofs.Words.{Ordering, BTreeMap, IsOrdered, is_at, lookup, false≢true, eq-eqb, eqb-true, recursion_from_All}
use Rattle.pim_hello.proofs.Words.{All-found, Neighbour, Table, waited, passed_to, is_over, sooner, least_left, next_end}
use Rattle.pim_hello.proofs.Words.{entry_at, ends_at, kept_ends_at, has_end, IndexesEnds, least_end, kept_seen, entry_seen}
use Rattle.pim_hello.proofs.Words.{table_seen, comes_by, Kept}
use Rattle.std.proofs.lemmas.Bool.Decides.{nat_tests}
use Rattle.pim_hello.proofs.Kept.{OrderOfBytes, lookup_seen}

-- ---- the least end

-- the end isn't before this moment, and it is no later
abbrev NotBefore : ℕ → Option ℕ → Type 0
NotBefore moment None = Unit {0}
NotBefore moment (Some end) = moment ≤ end

abbrev NoLater : ℕ → Option ℕ → Type 0
NoLater moment None = ⊥
NoLater moment (Some end) = end ≤ moment

both_late : (e : ℕ) (a b : Option ℕ) → NotBefore e a → NotBefore e b → NotBefore e (sooner a b)
both_late e None b h k = k
both_late e (Some a) None h k = h
both_late e (Some a) (Some b) h k = omega (arith, h, k)

first_by : (e : ℕ) (a b : Option ℕ) → NoLater e a → NoLater e (sooner a b)
first_by e None b h = absurd h
first_by e (Some a) None h = h
first_by e (Some a) (Some b) h = omega (arith, h)

second_by : (e : ℕ) (a b : Option ℕ) → NoLater e b → NoLater e (sooner a b)
second_by e None b h = h
second_by e (Some a) None h = absurd h
second_by e (Some a) (Some b) h = omega (arith, h)

one_late : (e : ℕ) (end : Option ℕ) → ((d : ℕ) → ends_at d end ≡ true → e ≤ d) → NotBefore e end
one_late e None h = tt
one_late e (Some d) h = h d (eq-eqb d d refl)

one_by : (e : ℕ) (end : Option ℕ) → ends_at e end ≡ true → NoLater e end
one_by e None t = absurd (false≢true t)
one_by e (Some d) t = let same : d ≡ e = eqb-true d e t in omega (arith, same)

exactly : (e : ℕ) (end : Option ℕ) → NotBefore e end → NoLater e end → end ≡ Some e
exactly e None h k = absurd k
exactly e (Some d) h k = ap Some (omega (arith, h, k))

no_end : (end : Option ℕ) → ((d : ℕ) → ends_at d end ≡ true → ⊥) → end ≡ None
no_end None h = refl
no_end (Some d) h = absurd (h d (eq-eqb d d refl))

module _ {A : Type 0} (cmp : A → A → Ordering) where
  abbrev Found : List (A × Kept) → List (A × Kept) → Type 0
  Found whole es = AllByRecursion (λ (e : A × Kept). lookup (is_at (cmp e.0)) whole ≡ Some e.1) es

  each_late : (e : ℕ) (whole es : List (A × Kept)) → ((d : ℕ) (b : A) → kept_ends_at d (lookup (is_at (cmp b)) whole) ≡ true → e ≤ d) → Found whole es → NotBefore e (least_end es)
  unfolding least_end
  each_late e whole [] h found = tt
  each_late e whole (x ∷ es) h found =
      both_late e x.1.end (least_end es) (one_late e x.1.end (λ d t. h d x.0 (ap (kept_ends_at d) found.0 ∙ t))) (each_late e whole es h found.1)

  some_by : (e : ℕ) (b : A) (es : List (A × Kept)) → kept_ends_at e (lookup (is_at (cmp b)) es) ≡ true → NoLater e (least_end es)
  unfolding least_end
  some_by e b [] t = absurd (false≢true t)
  some_by e b (x ∷ es) t =
      elim (is_at (cmp b) x.0) as (λ c. kept_ends_at e (cond c (Some x.1) (lookup (is_at (cmp b)) es)) ≡ true → NoLater e (sooner x.1.end (least_end es))) [
        | true ↦ λ h. first_by e x.1.end (least_end es) (one_by e x.1.end h)
        | false ↦ λ h. second_by e x.1.end (least_end es) (some_by e b es h)
      ] t

  each_none : (whole es : List (A × Kept)) → ((d : ℕ) (b : A) → kept_ends_at d (lookup (is_at (cmp b)) whole) ≡ true → ⊥) → Found whole es → least_end es ≡ None
  unfolding least_end
  each_none whole [] h found = refl
  each_none whole (x ∷ es) h found =
      rw (no_end x.1.end (λ d t. h d x.0 (ap (kept_ends_at d) found.0 ∙ t))) (each_none whole es h found.1)

  module _ (total : IsTotalOrder cmp) (m : BTreeMap A Kept) (ordered : IsOrdered cmp m) where
    found : Found m.entries m.entries
    found = recursion_from_All (λ e. lookup (is_at (cmp e.0)) m.entries ≡ Some e.1) m.entries (All-found total m ordered)

    -- an end of the index that no other comes before is the least
    pub first_is_least : (ends : List (ℕ × A)) (e : ℕ) (a : A) → IndexesEnds cmp ends m.entries → has_end cmp ends e a ≡ true →
        ((d : ℕ) (b : A) → has_end cmp ends d b ≡ true → e ≤ d) → Some e ≡ least_end m.entries
    first_is_least ends e a i here least =
        sym (exactly e (least_end m.entries) (each_late e m.entries m.entries (λ d b t. least d b (i d b ∙ t)) found) (some_by e a m.entries (sym (i e a) ∙ here)))

    -- without ends there is none
    pub none_is_least : (ends : List (ℕ × A)) → IndexesEnds cmp ends m.entries → ((d : ℕ) (b : A) → has_end cmp ends d b ≡ true → ⊥) → None ≡ least_end m.entries
    none_is_least ends i none = sym (each_none m.entries m.entries (λ d b t. none d b (i d b ∙ t)) found)

-- ---- as a table

sooner_left : (moment : ℕ) (a b : Option ℕ) → sooner (option_map (λ end. end - moment) a) (option_map (λ end. end - moment) b) ≡ option_map (λ end. end - moment) (sooner a b)
sooner_left moment None b = refl
sooner_left moment (Some a) None = refl
sooner_left moment (Some a) (Some b) = ap Some (omega arith)

least_seen : {A : Type 0} (bytes_of : A → List ℕ) (moment : ℕ) (es : List (A × Kept)) → least_left (map (entry_seen bytes_of moment) es) ≡ option_map (λ end. end - moment) (least_end es)
unfolding least_left least_end
least_seen bytes_of moment [] = refl
least_seen bytes_of moment (e ∷ es) =
    ap (sooner (kept_seen moment e.1).left) (least_seen bytes_of moment es) ∙ sooner_left moment e.1.end (least_end es)

at_least_now : (moment : ℕ) (end : Option ℕ) → option_map (λ left. moment + left) (option_map (λ end. end - moment) end) ≡ option_map (λ end. max end moment) end
at_least_now moment None = refl
at_least_now moment (Some end) = ap Some (omega arith)

pub next_seen : {A : Type 0} (bytes_of : A → List ℕ) (moment : ℕ) (es : List (A × Kept)) → option_map (λ end. max end moment) (least_end es) ≡ next_end (table_seen bytes_of moment es)
next_seen bytes_of moment es =
    sym (ap (option_map (λ left. moment + left)) (least_seen bytes_of moment es) ∙ at_least_now moment (least_end es))

-- ---- what the table has of an address

abbrev pub named : List ℕ → Neighbour → List ℕ × Neighbour
named bytes neighbour = (bytes, neighbour)

abbrev pub kept_named : List ℕ → ℕ → Kept → List ℕ × Neighbour
kept_named bytes moment kept = (bytes, kept_seen moment kept)

fused : (bytes : List ℕ) (moment : ℕ) (o : Option Kept) → option_map (kept_named bytes moment) o ≡ option_map (named bytes) (option_map (kept_seen moment) o)
fused bytes moment None = refl
fused bytes moment (Some kept) = refl

pub entry_there : {A : Type 0} (cmp : A → A → Ordering) (bytes_of : A → List ℕ) → OrderOfBytes cmp bytes_of → (moment : ℕ) (a : A) (es : List (A × Kept)) (o : Option Kept) → o ≡ lookup (is_at (cmp a)) es →
    option_map (kept_named (bytes_of a) moment) o ≡ entry_at (bytes_of a) (table_seen bytes_of moment es)
entry_there cmp bytes_of tie moment a es o e =
    ap (option_map (kept_named (bytes_of a) moment)) e ∙ fused (bytes_of a) moment (lookup (is_at (cmp a)) es)
    ∙ ap (option_map (named (bytes_of a))) (sym (lookup_seen cmp bytes_of tie moment a es))

-- ---- when a time is over

over_by : (moment passed : ℕ) (left : Option ℕ) → is_over (option_map (λ left. left - passed) left) ≡ comes_by (moment + passed) (option_map (λ left. moment + left) left)
over_by moment passed None = refl
over_by moment passed (Some left) = grind (arith, nat_tests)

min_by : (a b k : ℕ) → nat_le (min a b) k ≡ (nat_le a k || nat_le b k)
min_by a b k = grind (arith, nat_tests)

either_by : (at moment : ℕ) (a b : Option ℕ) → comes_by at (option_map (λ left. moment + left) (sooner a b)) ≡ (comes_by at (option_map (λ left. moment + left) a) || comes_by at (option_map (λ left. moment + left) b))
either_by at moment None b = refl
either_by at moment (Some a) None = or_false (nat_le (moment + a) at)
  where
    or_false : (b : Bool) → b ≡ (b || false)
    or_false true = refl
    or_false false = refl
either_by at moment (Some a) (Some b) = let same : moment + min a b ≡ min (moment + a) (moment + b) = omega arith in ap (λ n. nat_le n at) same ∙ min_by (moment + a) (moment + b) at

abbrev over : List ℕ × Neighbour → Bool
over entry = is_over entry.1.left

some_over : (moment passed : ℕ) (es : List (List ℕ × Neighbour)) → list_any over (map (λ (entry : List ℕ × Neighbour). (entry.0, waited passed entry.1)) es) ≡ comes_by (moment + passed) (option_map (λ left. moment + left) (least_left es))
unfolding least_left
some_over moment passed [] = refl
some_over moment passed (e ∷ es) =
    (λ i. over_by moment passed e.1.left i || some_over moment passed es i) ∙ sym (either_by (moment + passed) moment e.1.left (least_left es))

pub over_from_next : (table : Table) (moment : ℕ) → table.moment ≤ moment → list_any over (passed_to moment table).entries ≡ comes_by moment (next_end table)
over_from_next table moment le =
    let same : table.moment + (moment - table.moment) ≡ moment = omega (arith, le) in
    some_over table.moment (moment - table.moment) table.entries ∙ ap (λ n. comes_by n (next_end table)) same
