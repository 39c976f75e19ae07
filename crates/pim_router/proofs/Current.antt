-- Neighbours whose time isn't over.
use Rattle.pim_router.proofs.Words.{◌≡◌, ◌≢◌, ◌∙◌, ◌<◌, ◌≤◌, ◌-◌, ◌+◌, ◌*◌, ◌==◌, ℕ, zero, suc, Bool, true, false, not, List, []}
use Rattle.pim_router.proofs.Words.{◌∷◌, length, map, filter, get_or, set, Option, Some, None, refl, ap, arith, nat_eq}
use Rattle.pim_router.proofs.Words.{if◌then◌else◌, AllByRecursion, option_eq, eqb-false, ne_eqb, set-get_or, length-map}
use Rattle.pim_router.proofs.Words.{slice_cmp, Parameters, expired_at, Neighbour, Table, no_neighbours, is_over, without_ended}
use Rattle.pim_router.proofs.Words.{passed_to, waited, heard_from, lifetime, says_goodbye, is_address, HasTime, IsCurrent}
use Rattle.std.specs.Ordering.{nat_cmp, match_ordering}
use Rattle.std.specs.declared.cmp.Ordering.{Ordering}
use Rattle.std.specs.declared.cmp.Ordering.TheVariants.{Less, Equal, Greater}
use Rattle.std.specs.BTreeMap.{insert_entry}
use Rattle.std.specs.Map.{remove_entry}

-- ---- lists

pub all_at : {A : Type 0} (P : A → Type 0) (xs : List A) (i : ℕ) (d : A) → AllByRecursion P xs → i < length xs →
    P (get_or xs i d)
all_at P [] i d all less = absurd (omega (arith, less))
all_at P (x ∷ xs) zero d all less = all.0
all_at P (x ∷ xs) (suc i) d all less = all_at P xs i d all.1 (omega (arith, less))

pub all_set : {A : Type 0} (P : A → Type 0) (xs : List A) (i : ℕ) (y : A) → AllByRecursion P xs → P y →
    AllByRecursion P (set xs i y)
all_set P [] i y all this = tt
all_set P (x ∷ xs) zero y all this = (this, all.1)
all_set P (x ∷ xs) (suc i) y all this = (all.0, all_set P xs i y all.1 this)

filter_all : (es : List (List ℕ × Neighbour)) → AllByRecursion HasTime es →
    filter (λ (entry : List ℕ × Neighbour). not (is_over entry.1.left)) es ≡ es
filter_all [] all = refl
filter_all (e ∷ es) all = rw all.0 (ap (λ more. e ∷ more) (filter_all es all.1))

-- a row that is put back as it was leaves all rows
pub put_back : {A : Type 0} (xs : List A) (i : ℕ) (x y : A) → x ≡ get_or xs i x → y ≡ x → set xs i y ≡ xs
put_back xs i x y is same = ap (set xs i) (same ∙ is) ∙ set-get_or xs i x

-- ---- who is there at the present moment

pub all_there : (table : Table) → AllByRecursion HasTime table.entries → without_ended table ≡ table
all_there table all = ap (λ es. record { moment = table.moment; entries = es }) (filter_all table.entries all)

no_less : (l : ℕ) → l - 0 ≡ l
no_less l = omega arith

no_wait : (n : Neighbour) → waited 0 n ≡ n
no_wait n = elim n.left as (λ o. n.left ≡ o → waited 0 n ≡ n) [
  | None ↦ λ e. rw e refl
  | Some l ↦ λ e. rw e (ap (λ (k : ℕ). record { parameters = n.parameters; left = Some k }) (no_less l))
] refl

waited_all : (es : List (List ℕ × Neighbour)) → map (λ (entry : List ℕ × Neighbour). (entry.0, waited 0 entry.1)) es ≡ es
waited_all [] = refl
waited_all (e ∷ es) = ap (λ n. (e.0, n) ∷ map (λ (entry : List ℕ × Neighbour). (entry.0, waited 0 entry.1)) es) (no_wait e.1)
    ∙ ap (λ more. e ∷ more) (waited_all es)

no_more : (n : ℕ) → n + 0 ≡ n
no_more n = omega arith

-- no time passes up to the present moment
pub no_time_passes : (table : Table) (moment : ℕ) → table.moment ≡ moment → passed_to moment table ≡ table
no_time_passes table moment now =
    let none : moment - table.moment ≡ 0 = omega (arith, now) in
    ap (λ (k : ℕ). record { moment = table.moment + k; entries = map (λ (entry : List ℕ × Neighbour). (entry.0, waited k entry.1)) table.entries }) none
    ∙ ap (λ es. record { moment = table.moment + 0; entries = es }) (waited_all table.entries)
    ∙ ap (λ (k : ℕ). record { moment = k; entries = table.entries }) (no_more table.moment)

-- ---- a Hello

insert_step : (order : Ordering) (e : List ℕ × Neighbour) (es more : List (List ℕ × Neighbour)) (k : List ℕ) (v : Neighbour) →
    is_over v.left ≡ false → HasTime e → AllByRecursion HasTime es → AllByRecursion HasTime more →
    AllByRecursion HasTime (match_ordering order ((k, v) ∷ e ∷ es) ((e.0, v) ∷ es) (e ∷ more))
insert_step Less e es more k v this first others all = (this, (first, others))
insert_step Equal e es more k v this first others all = (this, others)
insert_step Greater e es more k v this first others all = (first, all)

pub all_insert : (es : List (List ℕ × Neighbour)) (k : List ℕ) (v : Neighbour) → AllByRecursion HasTime es →
    is_over v.left ≡ false → AllByRecursion HasTime (insert_entry (slice_cmp nat_cmp) es k v)
all_insert [] k v all this = (this, tt)
all_insert (e ∷ es) k v all this = insert_step (slice_cmp nat_cmp k e.0) e es (insert_entry (slice_cmp nat_cmp) es k v) k v this all.0 all.1
    (all_insert es k v all.1 this)

remove_step : (b : Bool) (e : List ℕ × Neighbour) (es more : List (List ℕ × Neighbour)) → HasTime e → AllByRecursion HasTime es →
    AllByRecursion HasTime more → AllByRecursion HasTime (if b then es else e ∷ more)
remove_step true e es more first others all = others
remove_step false e es more first others all = (first, all)

pub all_remove : (test : List ℕ → Bool) (es : List (List ℕ × Neighbour)) → AllByRecursion HasTime es →
    AllByRecursion HasTime (remove_entry test es)
all_remove test [] all = tt
all_remove test (e ∷ es) all = remove_step (test e.0) e es (remove_entry test es) all.0 all.1 (all_remove test es all.1)

times_thousand : (n : ℕ) → (n == 0) ≡ false → (1000 * n == 0) ≡ false
times_thousand n h = let apart : n ≢ 0 = eqb-false n 0 h in let far : 1000 * n ≢ 0 = omega (arith, apart) in ne_eqb (1000 * n) 0 far

for_ever : (b : Bool) (n : ℕ) → (n == 0) ≡ false → is_over (if b then None else Some (1000 * n)) ≡ false
for_ever true n h = refl
for_ever false n h = times_thousand n h

lives : (holdtime : Option ℕ) → option_eq nat_eq holdtime (Some 0) ≡ false → is_over (lifetime holdtime) ≡ false
lives None h = refl
lives (Some n) h = for_ever (n == 65535) n h

hello_step : (b : Bool) (said : Parameters) → says_goodbye said ≡ b → (sender : List ℕ) (table : Table) → AllByRecursion HasTime table.entries →
    AllByRecursion HasTime (heard_from sender said table).entries
hello_step true said is sender table all = rw is (all_remove (is_address sender) table.entries all)
hello_step false said is sender table all =
    rw is (all_insert table.entries sender (record { parameters = said; left = lifetime said.holdtime }) all (lives said.holdtime is))

-- A Hello leaves nobody whose time is over.
pub hello_keeps : (said : Parameters) (sender : List ℕ) (table : Table) (moment : ℕ) → IsCurrent moment table →
    IsCurrent moment (heard_from sender said table)
hello_keeps said sender table moment current = record {
  moment_now = current.moment_now;
  none_ended = hello_step (says_goodbye said) said refl sender table current.none_ended;
}

-- ---- how many there are

filter_shorter : (es : List (List ℕ × Neighbour)) → length (filter (λ (entry : List ℕ × Neighbour). not (is_over entry.1.left)) es) ≤ length es
filter_shorter [] = omega arith
filter_shorter (e ∷ es) = by (not (is_over e.1.left)) (filter_shorter es)
  where
    by : (b : Bool) → length (filter (λ (entry : List ℕ × Neighbour). not (is_over entry.1.left)) es) ≤ length es
        → length (if b then e ∷ filter (λ (entry : List ℕ × Neighbour). not (is_over entry.1.left)) es else filter (λ (entry : List ℕ × Neighbour). not (is_over entry.1.left)) es) ≤ suc (length es)
    by true less = omega (arith, less)
    by false less = omega (arith, less)

expired_fewer : (moment : ℕ) (table : Table) → length table.entries ≤ 1024 → length (expired_at moment table).entries ≤ 1024
expired_fewer moment table few =
    let passed : ℕ = moment - table.moment in
    let all = length-map {B = List ℕ × Neighbour} table.entries (λ (entry : List ℕ × Neighbour). (entry.0, waited passed entry.1)) in
    let less = filter_shorter (map (λ (entry : List ℕ × Neighbour). (entry.0, waited passed entry.1)) table.entries) in
    omega (arith, few, all, less)

-- Time leaves no port more neighbours.
pub few_later : (moment : ℕ) (tables : List Table) → AllByRecursion (λ (table : Table). length table.entries ≤ 1024) tables
    → AllByRecursion (λ (table : Table). length table.entries ≤ 1024) (map (expired_at moment) tables)
few_later moment [] all = tt
few_later moment (table ∷ tables) all = (expired_fewer moment table all.0, few_later moment tables all.1)

-- A port that isn't there has no neighbours.
pub few_at : (tables : List Table) (port : ℕ) → AllByRecursion (λ (table : Table). length table.entries ≤ 1024) tables
    → length (get_or tables port no_neighbours).entries ≤ 1024
few_at [] port all = omega arith
few_at (table ∷ tables) zero all = all.0
few_at (table ∷ tables) (suc port) all = few_at tables port all.1
