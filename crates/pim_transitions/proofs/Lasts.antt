-- The marks of a list in key order without those that the next one repeats.
use Rattle.pim_transitions.proofs.Words.{◌≡◌, ℕ, Bool, true, false, cond, ◌||◌, List, [], ◌∷◌, ◌++◌, map, refl, ap, subst, ◌∙◌}
use Rattle.pim_transitions.proofs.Words.{Less, AllByRecursion, IsStrictlySortedBy, false≢true, Key, key_cmp, same_key, Event}
use Rattle.pim_transitions.proofs.Words.{key_of, joins_after, Rise, is_repeated, if_last, lasts, is_marked}
use Rattle.pim_transitions.proofs.Keys.{same_keys, same_itself, behind, further, less_apart, on_port, same_on_port}

abbrev IsBehind : Event → Event → Type 0
IsBehind mark other = key_cmp (key_of 0 mark) (key_of 0 other) ≡ Less

-- all are behind what is before the first
all_behind : (mark next : Event) (marks : List Event) → IsBehind mark next → Rise (next ∷ marks) → AllByRecursion (IsBehind mark) (next ∷ marks)
unfolding Rise
all_behind mark next [] less up = (less, tt)
all_behind mark next (other ∷ marks) less up = (less, all_behind mark other marks (further (key_of 0 mark) (key_of 0 next) (key_of 0 other) less up.0) up.1)

rest_behind : (mark : Event) (marks : List Event) → Rise (mark ∷ marks) → is_repeated mark marks ≡ false → AllByRecursion (IsBehind mark) marks
unfolding Rise
rest_behind mark [] up apart = tt
rest_behind mark (next ∷ marks) up apart = all_behind mark next marks (behind (key_of 0 mark) (key_of 0 next) up.0 apart) up.1

pub lasts_all : (P : Event → Type 0) (marks : List Event) → AllByRecursion P marks → AllByRecursion P (lasts marks)
unfolding lasts
lasts_all P [] all = tt
lasts_all P (mark ∷ marks) all = by (is_repeated mark marks) (lasts_all P marks all.1)
  where
    by : (b : Bool) → AllByRecursion P (lasts marks) → AllByRecursion P (cond b (lasts marks) (mark ∷ lasts marks))
    by true rest = rest
    by false rest = (all.0, rest)

keys_behind : (port : ℕ) (mark : Event) (marks : List Event) → AllByRecursion (IsBehind mark) marks → AllByRecursion (λ k. key_cmp (key_of port mark) k ≡ Less) (map (key_of port) marks)
keys_behind port mark [] all = tt
keys_behind port mark (next ∷ marks) all = (on_port port mark next ∙ all.0, keys_behind port mark marks all.1)

-- they ascend
pub lasts_ascend : (port : ℕ) (marks : List Event) → Rise marks → IsStrictlySortedBy key_cmp (map (key_of port) (lasts marks))
unfolding lasts Rise IsStrictlySortedBy
lasts_ascend port [] up = tt
lasts_ascend port (mark ∷ marks) up = by (is_repeated mark marks) refl (lasts_ascend port marks up.1)
  where
    by : (b : Bool) → is_repeated mark marks ≡ b → IsStrictlySortedBy key_cmp (map (key_of port) (lasts marks)) → IsStrictlySortedBy key_cmp (map (key_of port) (cond b (lasts marks) (mark ∷ lasts marks)))
    by true e rest = rest
    by false e rest = (keys_behind port mark (lasts marks) (lasts_all (IsBehind mark) marks (rest_behind mark marks up e)), rest)

-- each is the last one of its machine
joins_same : (port : ℕ) (mark : Event) (joins : Bool) (marks : List Event) → AllByRecursion (IsBehind mark) marks → joins_after port (key_of port mark) joins marks ≡ joins
unfolding joins_after
joins_same port mark joins [] all = refl
joins_same port mark joins (next ∷ marks) all =
    let apart : same_key (key_of port next) (key_of port mark) ≡ false = less_apart (key_of port mark) (key_of port next) (on_port port mark next ∙ all.0) in
    ap (λ b. joins_after port (key_of port mark) (cond b next.joins joins) marks) apart ∙ joins_same port mark joins marks all.1

abbrev pub IsLastOf : ℕ → List Event → Event → Type 0
IsLastOf port marks mark = (joins : Bool) → joins_after port (key_of port mark) joins marks ≡ mark.joins

last_more : (port : ℕ) (mark : Event) (marks left : List Event) → AllByRecursion (IsLastOf port marks) left → AllByRecursion (IsLastOf port (mark ∷ marks)) left
unfolding joins_after
last_more port mark marks [] all = tt
last_more port mark marks (next ∷ left) all = ((λ joins. all.0 (cond (same_key (key_of port mark) (key_of port next)) mark.joins joins)), last_more port mark marks left all.1)

pub lasts_are_last : (port : ℕ) (marks : List Event) → Rise marks → AllByRecursion (IsLastOf port marks) (lasts marks)
unfolding lasts Rise joins_after
lasts_are_last port [] up = tt
lasts_are_last port (mark ∷ marks) up = by (is_repeated mark marks) refl (last_more port mark marks (lasts marks) (lasts_are_last port marks up.1))
  where
    by : (b : Bool) → is_repeated mark marks ≡ b → AllByRecursion (IsLastOf port (mark ∷ marks)) (lasts marks) → AllByRecursion (IsLastOf port (mark ∷ marks)) (cond b (lasts marks) (mark ∷ lasts marks))
    by true e rest = rest
    by false e rest = (
      (λ joins. ap (λ b. joins_after port (key_of port mark) (cond b mark.joins joins) marks) (same_itself (key_of port mark)) ∙ joins_same port mark mark.joins marks (rest_behind mark marks up e)),
      rest,
    )

-- and no machine is lost
marked_next : (port : ℕ) (key : Key (List ℕ)) (mark : Event) (marks : List Event) → is_repeated mark marks ≡ true → same_key (key_of port mark) key ≡ true → is_marked port key marks ≡ true
marked_next port key mark [] again same = absurd (false≢true again)
marked_next port key mark (next ∷ marks) again same =
    let keys : key_of port mark ≡ key_of port next = same_keys (key_of port mark) (key_of port next) (same_on_port port mark next ∙ again) in
    ap (λ b. b || is_marked port key marks) (subst (λ k. same_key k key ≡ true) keys same)

pub lasts_marked : (port : ℕ) (key : Key (List ℕ)) (marks : List Event) → is_marked port key marks ≡ true → is_marked port key (lasts marks) ≡ true
unfolding lasts
lasts_marked port key [] marked = absurd (false≢true marked)
lasts_marked port key (mark ∷ marks) marked = by (lasts_marked port key marks) (is_repeated mark marks) refl (same_key (key_of port mark) key) refl marked
  where
    by : (is_marked port key marks ≡ true → is_marked port key (lasts marks) ≡ true) → (b : Bool) → is_repeated mark marks ≡ b → (s : Bool) → same_key (key_of port mark) key ≡ s → (s || is_marked port key marks) ≡ true
        → is_marked port key (cond b (lasts marks) (mark ∷ lasts marks)) ≡ true
    by rest true again true same m = rest (marked_next port key mark marks again same)
    by rest true again false same m = rest m
    by rest false again true same m = rw same refl
    by rest false again false same m = rw same (rest m)

-- one mark, and then the others
pub lasts_first : (mark : Event) (marks : List Event) → lasts (mark ∷ marks) ≡ if_last mark marks ++ lasts marks
unfolding lasts
lasts_first mark marks = by (is_repeated mark marks)
  where
    by : (b : Bool) → cond b (lasts marks) (mark ∷ lasts marks) ≡ cond b [] (mark ∷ []) ++ lasts marks
    by true = refl
    by false = refl
