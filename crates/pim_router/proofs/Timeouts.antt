-- The first moment at which the time of a neighbour of some port is over.
use Rattle.pim_router.proofs.Words.{◌≡◌, ◌∙◌, ◌<◌, ◌≤◌, ℕ, zero, suc, ◌+◌, ◌-◌, Bool, true, false, List, [], ◌∷◌, length, drop}
use Rattle.pim_router.proofs.Words.{get_or, map, min, Option, Some, None, refl, sym, ap, arith, AllByRecursion, list_any}
use Rattle.pim_router.proofs.Words.{drop_more, drop_all, comes_by, TimeIsOverFromNextEnd, Neighbour, Table, waited, passed_to}
use Rattle.pim_router.proofs.Words.{sooner, next_end, at_moment, gone_from, gone_within, first_timeout}
use Rattle.pim_router.proofs.Words.{NobodyGoesBeforeFirstTimeout, TheEndedGoAtFirstTimeout, IsCurrent, has_ended}
use Rattle.std.specs.Prelude.{◌||◌, nat_le, option_map}
use Rattle.std.proofs.lemmas.Bool.Decides.{nat_tests}
use Rattle.pim_router.proofs.Current.{no_time_passes}
use Rattle.pim_router.proofs.Passing.{nobody, now_at}
use Rattle.pim_router.proofs.ToFiring.{none_from, gone_later}

sooner_of_three : (a b c : Option ℕ) → sooner (sooner a b) c ≡ sooner a (sooner b c)
sooner_of_three None b c = refl
sooner_of_three (Some a) None c = refl
sooner_of_three (Some a) (Some b) None = refl
sooner_of_three (Some a) (Some b) (Some c) = ap Some (omega arith)

never_sooner : (a : Option ℕ) → sooner a None ≡ a
never_sooner None = refl
never_sooner (Some a) = refl

pub one_more : (tables : List Table) (i : ℕ) (d : Table) (first next : Option ℕ) → i < length tables → next ≡ sooner first (next_end (get_or tables i d)) →
    sooner first (first_timeout (drop i tables)) ≡ first_timeout tables → sooner next (first_timeout (drop (i + 1) tables)) ≡ first_timeout tables
unfolding first_timeout
one_more tables i d first next within is all =
    ap (λ n. sooner n (first_timeout (drop (i + 1) tables))) is
    ∙ sooner_of_three first (next_end (get_or tables i d)) (first_timeout (drop (i + 1) tables))
    ∙ ap (λ ts. sooner first (first_timeout ts)) (sym (drop_more tables i d within)) ∙ all

pub no_more : (tables : List Table) (i : ℕ) (first : Option ℕ) → length tables ≤ i → sooner first (first_timeout (drop i tables)) ≡ first_timeout tables → first ≡ first_timeout tables
unfolding first_timeout
no_more tables i first past all = sym (never_sooner first) ∙ ap (λ ts. sooner first (first_timeout ts)) (sym (drop_all i tables past)) ∙ all

-- ---- who goes until then

abbrev AreAt : ℕ → List Table → Type 0
AreAt moment tables = AllByRecursion (λ (table : Table). table.moment ≡ moment) tables

present : (moment : ℕ) (tables : List Table) → AreAt moment tables → map (passed_to moment) tables ≡ tables
present moment [] all = refl
present moment (table ∷ tables) all =
    ap (λ t. t ∷ map (passed_to moment) tables) (no_time_passes table moment all.0) ∙ ap (λ ts. table ∷ ts) (present moment tables all.1)

next_at : (moment later : ℕ) → moment ≤ later → (tables : List Table) → AreAt moment tables → AreAt later (map (passed_to later) tables)
next_at moment later le [] all = tt
next_at moment later le (table ∷ tables) all = (now_at table.moment later (omega (arith, all.0, le)), next_at moment later le tables all.1)

less_twice : (a b c : ℕ) (left : Option ℕ) → a + b ≡ c → option_map (λ left. left - b) (option_map (λ left. left - a) left) ≡ option_map (λ left. left - c) left
less_twice a b c None sum = refl
less_twice a b c (Some left) sum = ap Some (omega (arith, sum))

abbrev wait : ℕ → List ℕ × Neighbour → List ℕ × Neighbour
wait passed entry = (entry.0, waited passed entry.1)

waited_twice : (a b c : ℕ) → a + b ≡ c → (entries : List (List ℕ × Neighbour)) → map (wait b) (map (wait a) entries) ≡ map (wait c) entries
waited_twice a b c sum [] = refl
waited_twice a b c sum (e ∷ es) = λ i. (e.0, record { parameters = e.1.parameters; left = less_twice a b c e.1.left sum i }) ∷ waited_twice a b c sum es i

passed_twice : (table : Table) (first second : ℕ) → table.moment ≤ first → first ≤ second → passed_to second (passed_to first table) ≡ passed_to second table
passed_twice table first second from on =
    let a : ℕ = first - table.moment in
    let b : ℕ = second - (table.moment + (first - table.moment)) in
    let sum : a + b ≡ second - table.moment = omega (arith, from, on) in
    let time : table.moment + a + b ≡ table.moment + (second - table.moment) = omega (arith, from, on) in
    let same = waited_twice a b (second - table.moment) sum table.entries in
    λ i. record { moment = time i; entries = same i }

all_twice : (moment first second : ℕ) → moment ≤ first → first ≤ second → (tables : List Table) → AreAt moment tables → map (passed_to second) (map (passed_to first) tables) ≡ map (passed_to second) tables
all_twice moment first second from on [] all = refl
all_twice moment first second from on (table ∷ tables) all =
    ap (λ t. t ∷ map (passed_to second) (map (passed_to first) tables)) (passed_twice table first second (omega (arith, all.0, from)) on)
    ∙ ap (λ ts. passed_to second table ∷ ts) (all_twice moment first second from on tables all.1)

-- where nobody's time is over before the end, those go whose time is over then
gone_at_end : (k moment : ℕ) (tables : List Table) → AreAt moment tables → ((j : ℕ) → j < k → list_any has_ended (map (passed_to (moment + j)) tables) ≡ false) →
    gone_within k moment tables ≡ at_moment (moment + k) (gone_from 0 (map (passed_to (moment + k)) tables))
unfolding gone_within
gone_at_end zero moment tables all none =
    let same : moment ≡ moment + 0 = omega arith in
    ap (λ ts. at_moment moment (gone_from 0 ts)) (sym (present moment tables all)) ∙ ap (λ n. at_moment n (gone_from 0 (map (passed_to n) tables))) same
gone_at_end (suc k) moment tables all none =
    let zero_on : moment + 0 ≡ moment = omega arith in
    let here : list_any has_ended tables ≡ false =
    ap (list_any has_ended) (sym (present moment tables all)) ∙ ap (λ n. list_any has_ended (map (passed_to n) tables)) (sym zero_on) ∙ none 0 (omega arith) in
    let twice : (j : ℕ) → map (passed_to (moment + 1 + j)) (map (passed_to (moment + 1)) tables) ≡ map (passed_to (moment + 1 + j)) tables =
    λ j. all_twice moment (moment + 1) (moment + 1 + j) (omega arith) (omega arith) tables all in
    let sum : (j : ℕ) → moment + 1 + j ≡ moment + suc j = λ j. omega arith in
    gone_later k moment tables here
    ∙ gone_at_end k (moment + 1) (map (passed_to (moment + 1)) tables) (next_at moment (moment + 1) (omega arith) tables all)
    (λ j less. ap (list_any has_ended) (twice j) ∙ ap (λ n. list_any has_ended (map (passed_to n) tables)) (sum j) ∙ none (suc j) (omega (arith, less)))
    ∙ ap (λ ts. at_moment (moment + 1 + k) (gone_from 0 ts)) (twice k)
    ∙ ap (λ n. at_moment n (gone_from 0 (map (passed_to n) tables))) (sum k)

-- ---- when the time of some is over

min_by : (a b k : ℕ) → nat_le (min a b) k ≡ (nat_le a k || nat_le b k)
min_by a b k = grind (arith, nat_tests)

comes_sooner : (moment : ℕ) (a b : Option ℕ) → comes_by moment (sooner a b) ≡ (comes_by moment a || comes_by moment b)
comes_sooner moment None b = refl
comes_sooner moment (Some a) None = or_false (nat_le a moment)
  where
    or_false : (b : Bool) → b ≡ (b || false)
    or_false true = refl
    or_false false = refl
comes_sooner moment (Some a) (Some b) = min_by a b moment

comes_before : (earlier later : ℕ) (o : Option ℕ) → earlier ≤ later → comes_by later o ≡ false → comes_by earlier o ≡ false
comes_before earlier later None le none = refl
comes_before earlier later (Some end) le none = grind (arith, nat_tests)

are_at : (moment : ℕ) (tables : List Table) → AllByRecursion (IsCurrent moment) tables → AreAt moment tables
are_at moment [] all = tt
are_at moment (table ∷ tables) all = (all.0.moment_now, are_at moment tables all.1)

nobody_now : (moment : ℕ) (tables : List Table) → AllByRecursion (IsCurrent moment) tables → list_any has_ended tables ≡ false
nobody_now moment [] all = refl
nobody_now moment (table ∷ tables) all = rw (nobody table.entries all.0.none_ended) (nobody_now moment tables all.1)

module _ (over_from : TimeIsOverFromNextEnd) where
  some_over : (moment later : ℕ) → moment ≤ later → (tables : List Table) → AreAt moment tables → list_any has_ended (map (passed_to later) tables) ≡ comes_by later (first_timeout tables)
  unfolding first_timeout
  some_over moment later le [] all = refl
  some_over moment later le (table ∷ tables) all =
      (λ i. over_from table later (omega (arith, all.0, le)) i || some_over moment later le tables all.1 i) ∙ sym (comes_sooner later (next_end table) (first_timeout tables))

  quiet_at : (moment later : ℕ) → moment ≤ later → (tables : List Table) → AreAt moment tables → comes_by later (first_timeout tables) ≡ false →
      (j : ℕ) → moment + j ≤ later → list_any has_ended (map (passed_to (moment + j)) tables) ≡ false
  quiet_at moment later le tables all none j less =
      some_over moment (moment + j) (omega arith) tables all ∙ comes_before (moment + j) later (first_timeout tables) less none

  pub nobody_before : NobodyGoesBeforeFirstTimeout
  nobody_before state passed sound none =
      let at = are_at state.machines.moment state.tables sound.current in
      let quiet = quiet_at state.machines.moment (state.machines.moment + passed) (omega arith) state.tables at none in
      gone_at_end passed state.machines.moment state.tables at (λ j less. quiet j (omega (arith, less)))
      ∙ ap (at_moment (state.machines.moment + passed)) (none_from 0 (map (passed_to (state.machines.moment + passed)) state.tables) (quiet passed (omega arith)))

  not_now : (moment end : ℕ) (tables : List Table) → AllByRecursion (IsCurrent moment) tables → first_timeout tables ≡ Some end → moment < end
  not_now moment end tables all first =
      let at = are_at moment tables all in
      let none : comes_by moment (first_timeout tables) ≡ false =
      sym (some_over moment moment (omega arith) tables at) ∙ ap (list_any has_ended) (present moment tables at) ∙ nobody_now moment tables all in
      let later : nat_le end moment ≡ false = ap (comes_by moment) (sym first) ∙ none in
      grind (arith, nat_tests)

  pub ended_at_first : TheEndedGoAtFirstTimeout
  ended_at_first state moment sound first =
      let on = not_now state.machines.moment moment state.tables sound.current first in
      let at = are_at state.machines.moment state.tables sound.current in
      let k : ℕ = moment - state.machines.moment in
      let sum : state.machines.moment + k ≡ moment = omega (arith, on) in
      let none : (j : ℕ) → j < k → comes_by (state.machines.moment + j) (first_timeout state.tables) ≡ false =
      λ j less. ap (comes_by (state.machines.moment + j)) first ∙ later (state.machines.moment + j) moment (omega (arith, less, sum)) in (
        on,
        gone_at_end k state.machines.moment state.tables at (λ j less. some_over state.machines.moment (state.machines.moment + j) (omega arith) state.tables at ∙ none j less)
            ∙ ap (λ n. at_moment n (gone_from 0 (map (passed_to n) state.tables))) sum,
      )
    where
      later : (now end : ℕ) → now < end → nat_le end now ≡ false
      later now end less = grind (arith, nat_tests)
