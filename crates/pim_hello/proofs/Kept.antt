-- What is kept, seen as a table: look-ups, changes and time commute with the view.
use Rattle.pim_hello.proofs.Words.{◌≡◌, ℕ, ◌+◌, ◌-◌, suc, arith, Bool, true, false, cond, List, [], ◌∷◌, length, Option, Some}
use Rattle.pim_hello.proofs.Words.{None, refl, sym, ap, ⊎_elim, ◌∙◌, not, ◌&&◌, nat_le, map, filter, max, option_map, is_some}
use Rattle.pim_hello.proofs.Words.{nat_cmp, is_eq, match_ordering, slice_cmp, Ordering, Less, Equal, Greater, IsTotalOrder}
use Rattle.pim_hello.proofs.Words.{AllByRecursion, false≢true, ne_eqb, eq-eqb, lt-leb, le-leb, cases_lt, recursion_from_All}
use Rattle.pim_hello.proofs.Words.{All-found, BTreeMap, IsOrdered, is_at, insert_entry, lookup, remove_entry, keys_of, values_of}
use Rattle.pim_hello.proofs.Words.{IsStrictlySortedBy, Parameters, Neighbour, Table, is_address, waited, passed_to, is_over}
use Rattle.pim_hello.proofs.Words.{without_ended, lifetime, says_goodbye, heard_unless_goodbye, heard_as, is_full}
use Rattle.pim_hello.proofs.Words.{needs_no_memory, IsAscending, heard_from, hellos_of, end_kept, ended_by, NoneEnded}
use Rattle.pim_hello.proofs.Words.{parameters_seen, kept_seen, entry_seen, table_seen, hello_of_kept, Kept}
use Rattle.pim_hello.specs.declared.parameters.Parameters.{Parameters as Sent}

-- the addresses are ordered as their bytes
abbrev pub OrderOfBytes : {A : Type 0} → (A → A → Ordering) → (A → List ℕ) → Type 0
OrderOfBytes {A} cmp bytes_of = (a b : A) → cmp a b ≡ slice_cmp nat_cmp (bytes_of a) (bytes_of b)

-- the entries, seen
abbrev pub entries_seen : {A : Type 0} → (A → List ℕ) → ℕ → List (A × Kept) → List (List ℕ × Neighbour)
entries_seen bytes_of moment entries = map (entry_seen bytes_of moment) entries

map_cond : {X Y : Type 0} (f : X → Y) (b : Bool) (x : X) (o : Option X) → cond b (Some (f x)) (option_map f o) ≡ option_map f (cond b (Some x) o)
map_cond f true x o = refl
map_cond f false x o = refl

list_cond : {X Y : Type 0} (f : X → Y) (b : Bool) (xs ys : List X) → map f (cond b xs ys) ≡ cond b (map f xs) (map f ys)
list_cond f true xs ys = refl
list_cond f false xs ys = refl

list_match : {X Y : Type 0} (f : X → Y) (o : Ordering) (xs ys zs : List X) → map f (match_ordering o xs ys zs) ≡ match_ordering o (map f xs) (map f ys) (map f zs)
list_match f Less xs ys zs = refl
list_match f Equal xs ys zs = refl
list_match f Greater xs ys zs = refl

is_some_map : {X Y : Type 0} (f : X → Y) (o : Option X) → is_some (option_map f o) ≡ is_some o
is_some_map f None = refl
is_some_map f (Some x) = refl

with_place : (m n : ℕ) (kept : Option Kept) (hello : Parameters) → heard_unless_goodbye (option_map (kept_seen m) kept) hello ≡ heard_unless_goodbye (option_map (kept_seen n) kept) hello
with_place m n None hello = refl
with_place m n (Some kept) hello = refl

length_seen : {A : Type 0} (bytes_of : A → List ℕ) (moment : ℕ) (es : List (A × Kept)) → length (entries_seen bytes_of moment es) ≡ length es
length_seen bytes_of moment [] = refl
length_seen bytes_of moment (e ∷ es) = ap suc (length_seen bytes_of moment es)

module _ {A : Type 0} (cmp : A → A → Ordering) (bytes_of : A → List ℕ) (tie : OrderOfBytes cmp bytes_of) where
  pub lookup_seen : (moment : ℕ) (a : A) (es : List (A × Kept)) →
      lookup (is_address (bytes_of a)) (entries_seen bytes_of moment es) ≡ option_map (kept_seen moment) (lookup (is_at (cmp a)) es)
  lookup_seen moment a [] = refl
  lookup_seen moment a (e ∷ es) = ap (λ o. cond (is_eq o) (Some (kept_seen moment e.1)) (lookup (is_address (bytes_of a)) (entries_seen bytes_of moment es))) (sym (tie a e.0))
      ∙ ap (cond (is_eq (cmp a e.0)) (Some (kept_seen moment e.1))) (lookup_seen moment a es) ∙ map_cond (kept_seen moment) (is_eq (cmp a e.0)) e.1 (lookup (is_at (cmp a)) es)

  pub remove_seen : (moment : ℕ) (a : A) (es : List (A × Kept)) →
      entries_seen bytes_of moment (remove_entry (is_at (cmp a)) es) ≡ remove_entry (is_address (bytes_of a)) (entries_seen bytes_of moment es)
  remove_seen moment a [] = refl
  remove_seen moment a (e ∷ es) = list_cond (entry_seen bytes_of moment) (is_eq (cmp a e.0)) es (e ∷ remove_entry (is_at (cmp a)) es)
      ∙ ap (λ xs. cond (is_eq (cmp a e.0)) (entries_seen bytes_of moment es) (entry_seen bytes_of moment e ∷ xs)) (remove_seen moment a es)
      ∙ ap (λ o. cond (is_eq o) (entries_seen bytes_of moment es) (entry_seen bytes_of moment e ∷ remove_entry (is_address (bytes_of a)) (entries_seen bytes_of moment es))) (tie a e.0)

  pub insert_seen : (moment : ℕ) (a : A) (kept : Kept) (es : List (A × Kept)) →
      entries_seen bytes_of moment (insert_entry cmp es a kept) ≡ insert_entry (slice_cmp nat_cmp) (entries_seen bytes_of moment es) (bytes_of a) (kept_seen moment kept)
  insert_seen moment a kept [] = refl
  insert_seen moment a kept (e ∷ es) = list_match (entry_seen bytes_of moment) (cmp a e.0) ((a, kept) ∷ e ∷ es) ((e.0, kept) ∷ es) (e ∷ insert_entry cmp es a kept)
      ∙ ap (λ xs. match_ordering (cmp a e.0) (entries_seen bytes_of moment ((a, kept) ∷ e ∷ es)) (entries_seen bytes_of moment ((e.0, kept) ∷ es)) (entry_seen bytes_of moment e ∷ xs)) (insert_seen moment a kept es)
      ∙ ap (λ o. match_ordering o (entries_seen bytes_of moment ((a, kept) ∷ e ∷ es)) (entries_seen bytes_of moment ((e.0, kept) ∷ es)) (entry_seen bytes_of moment e ∷ insert_entry (slice_cmp nat_cmp) (entries_seen bytes_of moment es) (bytes_of a) (kept_seen moment kept))) (tie a e.0)

  -- an address is known where its bytes are
  pub known_seen : (moment : ℕ) (a : A) (es : List (A × Kept)) → is_some (lookup (is_at (cmp a)) es) ≡ is_some (lookup (is_address (bytes_of a)) (entries_seen bytes_of moment es))
  known_seen moment a es = sym (is_some_map (kept_seen moment) (lookup (is_at (cmp a)) es)) ∙ sym (ap is_some (lookup_seen moment a es))

  -- what is told doesn't rest on the moment at which the neighbour is seen
  pub record_of_seen : (moment : ℕ) (a : A) (es : List (A × Kept)) (hello : Parameters) → says_goodbye hello ≡ false →
      heard_unless_goodbye (option_map (kept_seen 0) (lookup (is_at (cmp a)) es)) hello ≡ heard_as (lookup (is_address (bytes_of a)) (entries_seen bytes_of moment es)) hello
  record_of_seen moment a es hello stays = rw stays (with_place 0 moment (lookup (is_at (cmp a)) es) hello ∙ ap (λ o. heard_unless_goodbye o hello) (sym (lookup_seen moment a es)))

  -- whether there is no room
  pub full_seen : (moment : ℕ) (a : A) (es : List (A × Kept)) (hello : Parameters) (known : Option Kept) (count : ℕ) (full : Bool) → says_goodbye hello ≡ false →
      known ≡ lookup (is_at (cmp a)) es → count ≡ length es → full ≡ (not (is_some known) && nat_le 1024 count) →
      is_full (bytes_of a) hello (table_seen bytes_of moment es) ≡ full
  full_seen moment a es hello known count full stays k n f = rw (stays, ← known_seen moment a es, length_seen bytes_of moment es) (sym (f ∙ ap (λ o. not (is_some o) && nat_le 1024 count) k ∙ ap (λ m. not (is_some (lookup (is_at (cmp a)) es)) && nat_le 1024 m) n))

  below_seen : (moment : ℕ) (a : A) (es : List (A × Kept)) → AllByRecursion (λ b. cmp a b ≡ Less) (keys_of es) →
      AllByRecursion (λ (bs : List ℕ). slice_cmp nat_cmp (bytes_of a) bs ≡ Less) (keys_of (entries_seen bytes_of moment es))
  below_seen moment a [] h = tt
  below_seen moment a (e ∷ es) h = (sym (tie a e.0) ∙ h.0, below_seen moment a es h.1)

  -- the addresses ascend where their bytes do
  pub ascending_seen : (moment : ℕ) (es : List (A × Kept)) → IsStrictlySortedBy cmp (keys_of es) → IsAscending (table_seen bytes_of moment es)
  unfolding IsStrictlySortedBy
  ascending_seen moment [] h = tt
  ascending_seen moment (e ∷ es) h = (below_seen moment e.0 es h.0, ascending_seen moment es h.1)

  -- a refusal of memory, for a Hello that is no goodbye
  pub memory_seen : (moment : ℕ) (a : A) (es : List (A × Kept)) (hello : Sent) (end : Option ℕ) (then : ℕ) → says_goodbye (parameters_seen hello) ≡ false →
      end ≡ option_map (λ time. then + time) (lifetime hello.holdtime) → (is_some (lookup (is_at (cmp a)) es) && not (is_some end)) ≡ false →
      needs_no_memory (bytes_of a) (parameters_seen hello) (table_seen bytes_of moment es) ≡ false
  memory_seen moment a es hello end then stays t h = rw (stays, ← known_seen moment a es)
      (ap (λ b. is_some (lookup (is_at (cmp a)) es) && not b) (sym (ap is_some t ∙ is_some_map (λ time. then + time) (lifetime hello.holdtime))) ∙ h)

  -- nor does a Hello that finds no room come of a known sender
  pub no_room_seen : (moment : ℕ) (a : A) (es : List (A × Kept)) (hello : Parameters) (known : Option Kept) (count : ℕ) → says_goodbye hello ≡ false →
      known ≡ lookup (is_at (cmp a)) es → (not (is_some known) && nat_le 1024 count) ≡ true → needs_no_memory (bytes_of a) hello (table_seen bytes_of moment es) ≡ false
  no_room_seen moment a es hello None count stays k f = rw (stays, ← known_seen moment a es, ← k) refl
  no_room_seen moment a es hello (Some kept) count stays k f = absurd (false≢true f)

-- ---- time

waited_left : (moment passed : ℕ) (end : Option ℕ) → option_map (λ left. left - passed) (option_map (λ end. end - moment) end) ≡ option_map (λ end. end - (moment + passed)) end
waited_left moment passed None = refl
waited_left moment passed (Some end) = ap Some (omega arith)

waited_entries : {A : Type 0} (bytes_of : A → List ℕ) (moment passed : ℕ) (es : List (A × Kept)) →
    map (λ (entry : List ℕ × Neighbour). (entry.0, waited passed entry.1)) (entries_seen bytes_of moment es) ≡ entries_seen bytes_of (moment + passed) es
waited_entries bytes_of moment passed [] = refl
waited_entries bytes_of moment passed (e ∷ es) =
    ap (λ left. (bytes_of e.0, record { parameters = parameters_seen e.1.parameters; left = left }) ∷ map (λ (entry : List ℕ × Neighbour). (entry.0, waited passed entry.1)) (entries_seen bytes_of moment es)) (waited_left moment passed e.1.end)
    ∙ ap (λ xs. entry_seen bytes_of (moment + passed) e ∷ xs) (waited_entries bytes_of moment passed es)

-- the present moment moves on, and what is kept stays
pub passed_seen : {A : Type 0} (bytes_of : A → List ℕ) (moment now then : ℕ) (es : List (A × Kept)) → then ≡ max moment now →
    table_seen bytes_of then es ≡ passed_to now (table_seen bytes_of moment es)
passed_seen bytes_of moment now then es t = let e : then ≡ moment + (now - moment) = omega arith in
    ap (λ m. table_seen bytes_of m es) e ∙ ap (λ xs. record { moment = moment + (now - moment); entries = xs }) (sym (waited_entries bytes_of moment (now - moment) es))

-- the time that a Hello gives is what is left at its moment
lifetime_left : (moment : ℕ) (time : Option ℕ) → option_map (λ end. end - moment) (option_map (λ time. moment + time) time) ≡ time
lifetime_left moment None = refl
lifetime_left moment (Some time) = ap Some (omega arith)

pub heard_seen : (moment : ℕ) (hello : Sent) (end : Option ℕ) → end ≡ option_map (λ time. moment + time) (lifetime hello.holdtime) →
    kept_seen moment (record { parameters = hello; end = end }) ≡ record { parameters = parameters_seen hello; left = lifetime hello.holdtime }
heard_seen moment hello end e = ap (λ left. record { parameters = parameters_seen hello; left = left }) (ap (option_map (λ end. end - moment)) e ∙ lifetime_left moment (lifetime hello.holdtime))

-- ---- a Hello

after_goodbye : (sender : List ℕ) (hello : Parameters) (table : Table) → says_goodbye hello ≡ true →
    heard_from sender hello table ≡ record { moment = table.moment; entries = remove_entry (is_address sender) table.entries }
after_goodbye sender hello table goes = rw goes refl

after_stay : (sender : List ℕ) (hello : Parameters) (table : Table) → says_goodbye hello ≡ false →
    heard_from sender hello table ≡ record { moment = table.moment; entries = insert_entry (slice_cmp nat_cmp) table.entries sender (record { parameters = hello; left = lifetime hello.holdtime }) }
after_stay sender hello table stays = rw stays refl

module _ {A : Type 0} (cmp : A → A → Ordering) (bytes_of : A → List ℕ) (tie : OrderOfBytes cmp bytes_of) (moment now then : ℕ) (later : then ≡ max moment now) where
  pub goodbye_seen : (a : A) (hello : Sent) (es new : List (A × Kept)) → says_goodbye (parameters_seen hello) ≡ true → new ≡ remove_entry (is_at (cmp a)) es →
      table_seen bytes_of then new ≡ heard_from (bytes_of a) (parameters_seen hello) (passed_to now (table_seen bytes_of moment es))
  goodbye_seen a hello es new goes e = ap (λ xs. record { moment = then; entries = xs }) (ap (entries_seen bytes_of then) e ∙ remove_seen cmp bytes_of tie then a es)
      ∙ sym (after_goodbye (bytes_of a) (parameters_seen hello) (table_seen bytes_of then es) goes)
      ∙ ap (heard_from (bytes_of a) (parameters_seen hello)) (passed_seen bytes_of moment now then es later)

  pub keeps_seen : (a : A) (hello : Sent) (end : Option ℕ) (es new : List (A × Kept)) → says_goodbye (parameters_seen hello) ≡ false →
      end ≡ option_map (λ time. then + time) (lifetime hello.holdtime) → new ≡ insert_entry cmp es a (record { parameters = hello; end = end }) →
      table_seen bytes_of then new ≡ heard_from (bytes_of a) (parameters_seen hello) (passed_to now (table_seen bytes_of moment es))
  keeps_seen a hello end es new stays t e = ap (λ xs. record { moment = then; entries = xs }) (ap (entries_seen bytes_of then) e
      ∙ insert_seen cmp bytes_of tie then a (record { parameters = hello; end = end }) es
      ∙ ap (insert_entry (slice_cmp nat_cmp) (entries_seen bytes_of then es) (bytes_of a)) (heard_seen then hello end t))
      ∙ sym (after_stay (bytes_of a) (parameters_seen hello) (table_seen bytes_of then es) stays)
      ∙ ap (heard_from (bytes_of a) (parameters_seen hello)) (passed_seen bytes_of moment now then es later)

-- ---- the end of a time

-- no time is left exactly where the end has come
over_seen : (moment : ℕ) (end : Option ℕ) → is_over (option_map (λ end. end - moment) end) ≡ ended_by moment end
over_seen moment None = refl
over_seen moment (Some end) = ⊎_elim
    (λ past. ne_eqb (end - moment) 0 (λ e. omega arith) ∙ sym (lt-leb end moment past))
    (λ come. eq-eqb (end - moment) 0 (omega arith) ∙ sym (le-leb end moment come))
    (cases_lt moment end)

-- the entries whose time hasn't ended
abbrev rest_of : List (List ℕ × Neighbour) → List (List ℕ × Neighbour)
rest_of entries = filter (λ entry. not (is_over entry.1.left)) entries

module _ {A : Type 0} (cmp : A → A → Ordering) (bytes_of : A → List ℕ) (moment : ℕ) where
  remove_step : (found : Bool) (e : A × Kept) (es removed : List (A × Kept)) (later : Option Kept) → ended_by moment (end_kept (cond found (Some e.1) later)) ≡ true →
      (ended_by moment (end_kept later) ≡ true → rest_of (entries_seen bytes_of moment removed) ≡ rest_of (entries_seen bytes_of moment es)) →
      rest_of (entries_seen bytes_of moment (cond found es (e ∷ removed))) ≡ rest_of (entries_seen bytes_of moment (e ∷ es))
  remove_step true e es removed later h same = rw (over_seen moment e.1.end, h) refl
  remove_step false e es removed later h same = ap (λ xs. cond (not (is_over (kept_seen moment e.1).left)) (entry_seen bytes_of moment e ∷ xs) xs) (same h)

  removed_rest : (a : A) (es : List (A × Kept)) → ended_by moment (end_kept (lookup (is_at (cmp a)) es)) ≡ true →
      rest_of (entries_seen bytes_of moment (remove_entry (is_at (cmp a)) es)) ≡ rest_of (entries_seen bytes_of moment es)
  removed_rest a [] h = refl
  removed_rest a (e ∷ es) h = remove_step (is_at (cmp a) e.0) e es (remove_entry (is_at (cmp a)) es) (lookup (is_at (cmp a)) es) h (removed_rest a es)

  -- the removal of one whose time has ended leaves the others to be removed
  pub removed_seen : (a : A) (es new : List (A × Kept)) → ended_by moment (end_kept (lookup (is_at (cmp a)) es)) ≡ true → new ≡ remove_entry (is_at (cmp a)) es →
      without_ended (table_seen bytes_of moment new) ≡ without_ended (table_seen bytes_of moment es)
  removed_seen a es new h e = ap (λ xs. record { moment = moment; entries = rest_of (entries_seen bytes_of moment xs) }) e ∙ ap (λ xs. record { moment = moment; entries = xs }) (removed_rest a es h)

  all_stay : (es : List (A × Kept)) → AllByRecursion (λ e. ended_by moment e.1.end ≡ false) es → rest_of (entries_seen bytes_of moment es) ≡ entries_seen bytes_of moment es
  all_stay [] h = refl
  all_stay (e ∷ es) h = rw (over_seen moment e.1.end, h.0) (ap (λ xs. entry_seen bytes_of moment e ∷ xs) (all_stay es h.1))

  each_stays : (whole es : List (A × Kept)) → NoneEnded cmp moment whole → AllByRecursion (λ e. lookup (is_at (cmp e.0)) whole ≡ Some e.1) es → AllByRecursion (λ e. ended_by moment e.1.end ≡ false) es
  each_stays whole [] none found = tt
  each_stays whole (e ∷ es) none found = (sym (ap (λ o. ended_by moment (end_kept o)) found.0) ∙ none e.0, each_stays whole es none found.1)

  -- where nobody's time has ended, all stay
  pub settled_seen : IsTotalOrder cmp → (m : BTreeMap A Kept) → IsOrdered cmp m → NoneEnded cmp moment m.entries →
      without_ended (table_seen bytes_of moment m.entries) ≡ table_seen bytes_of moment m.entries
  settled_seen total m ordered none = ap (λ xs. record { moment = moment; entries = xs })
      (all_stay m.entries (each_stays m.entries m.entries none (recursion_from_All (λ e. lookup (is_at (cmp e.0)) m.entries ≡ Some e.1) m.entries (All-found total m ordered))))

-- ---- what the Hellos said

hellos_seen_at : {A : Type 0} (bytes_of : A → List ℕ) (moment : ℕ) (es : List (A × Kept)) →
    map hello_of_kept (values_of es) ≡ map (λ (entry : List ℕ × Neighbour). entry.1.parameters) (entries_seen bytes_of moment es)
hellos_seen_at bytes_of moment [] = refl
hellos_seen_at bytes_of moment (e ∷ es) = ap (λ hellos. hello_of_kept e.1 ∷ hellos) (hellos_seen_at bytes_of moment es)

pub hellos_seen : {A : Type 0} (bytes_of : A → List ℕ) (moment : ℕ) (es : List (A × Kept)) → map hello_of_kept (values_of es) ≡ hellos_of (table_seen bytes_of moment es)
hellos_seen bytes_of moment es = hellos_seen_at bytes_of moment es
