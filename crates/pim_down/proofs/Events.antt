-- A message's events, list by list and set by set.
use Rattle.pim_down.proofs.Words.{◌≡◌, ℕ, ◌+◌, ◌≤◌, Bool, true, false, cond, ◌&&◌, not, List, [], ◌∷◌, ◌++◌, Option, length, refl, sym, ap, subst, ◌∙◌, arith, flat_map, append_assoc, Entry, GroupSet, Star, Start, Record, Event, IsAscending, act, act_all, is_new, count_new, is_known, entry_events, list_events, set_events, HasRoom}
use Rattle.pim_jp.specs.declared.entry.Entry.TheVariants as entry
use Rattle.pim_down.proofs.Act.{IsAscending-act_all}
use Rattle.pim_down.proofs.Room.{room}

-- ---- one list of events, and then another

pub act_append : (port : ℕ) (start : Start) (xs ys : List Event) (records : List (Record (List ℕ))) → act_all port start (xs ++ ys) records ≡ act_all port start ys (act_all port start xs records)
unfolding act_all
act_append port start [] ys records = refl
act_append port start (x ∷ xs) ys records = act_append port start xs ys (act port start x records)

pub count_append : (port : ℕ) (records : List (Record (List ℕ))) (xs ys : List Event) → count_new port records (xs ++ ys) ≡ count_new port records xs + count_new port records ys
unfolding count_new
count_append port records [] ys = omega arith
count_append port records (x ∷ xs) ys = omega (arith, count_append port records xs ys)

pub room_first : (port : ℕ) (start : Start) (space : ℕ) (xs ys : List Event) (records : List (Record (List ℕ))) → HasRoom port start space (xs ++ ys) records → HasRoom port start space xs records
unfolding HasRoom
room_first port start space [] ys records r = tt
room_first port start space (x ∷ xs) ys records r = (r.0, room_first port start space xs ys (act port start x records) r.1)

pub room_then : (port : ℕ) (start : Start) (space : ℕ) (xs ys : List Event) (records : List (Record (List ℕ))) → HasRoom port start space (xs ++ ys) records → HasRoom port start space ys (act_all port start xs records)
unfolding HasRoom act_all
room_then port start space [] ys records r = r
room_then port start space (x ∷ xs) ys records r = room_then port start space xs ys (act port start x records) r.1

pub room_grows : (port : ℕ) (start : Start) (space more : ℕ) (events : List Event) (records : List (Record (List ℕ))) → space ≤ more → HasRoom port start space events records → HasRoom port start more events records
unfolding HasRoom
room_grows port start space more [] records le r = tt
room_grows port start space more (x ∷ xs) records le r = (omega (arith, r.0), room_grows port start space more xs (act port start x records) le r.1)

-- there is room for what is held and what the message creates anew
room_from : (port : ℕ) (start : Start) (space : ℕ) (before events : List Event) (held : List (Record (List ℕ))) → IsAscending held → length held + count_new port held (before ++ events) ≤ space → HasRoom port start space events (act_all port start before held)
unfolding HasRoom act_all
room_from port start space before [] held a fits = tt
room_from port start space before (x ∷ xs) held a fits =
    let joined : (before ++ x ∷ []) ++ xs ≡ before ++ x ∷ xs = append_assoc before (x ∷ []) xs in
    let next : act_all port start (before ++ x ∷ []) held ≡ act port start x (act_all port start before held) = act_append port start before (x ∷ []) held in
    let most = room port start (before ++ x ∷ []) held a (IsAscending-act_all port start (before ++ x ∷ []) held a) in
    let part = count_append port held (before ++ x ∷ []) xs in
    let whole = ap (count_new port held) joined in
    let here = ap length next in
    let rest = room_from port start space (before ++ x ∷ []) xs held a (omega (arith, whole)) in
    (omega arith, subst (HasRoom port start space xs) next rest)

pub room_for : (port : ℕ) (start : Start) (space : ℕ) (events : List Event) (held : List (Record (List ℕ))) → IsAscending held → length held + count_new port held events ≤ space → HasRoom port start space events held
unfolding act_all
room_for port start space events held a fits = room_from port start space [] events held a fits

-- ---- a bound on the count of a list

entry_bound : (port : ℕ) (held : List (Record (List ℕ))) (known : List ℕ → Option (List ℕ)) (joins : Bool) (group : List ℕ) (this : Entry (List ℕ)) → length (entry_events known joins group this) ≤ 1
entry_bound port held known joins group (entry.Star rp) = by (joins && not (is_known (known group) rp))
  where
    by : (b : Bool) → length {A = Event} (cond b [] (record { joins = joins; group = group; what = Star } ∷ [])) ≤ 1
    by true = omega arith
    by false = omega arith
entry_bound port held known joins group (entry.Source s) = omega arith
entry_bound port held known joins group (entry.Rpt s) = omega arith

one_new : (b : Bool) → cond b 1 0 ≤ 1
one_new true = omega arith
one_new false = omega arith

count_length : (port : ℕ) (held : List (Record (List ℕ))) (events : List Event) → count_new port held events ≤ length events
unfolding count_new
count_length port held [] = omega arith
count_length port held (x ∷ xs) = omega (arith, count_length port held xs, one_new (is_new port held x))

pub list_bound : (port : ℕ) (held : List (Record (List ℕ))) (known : List ℕ → Option (List ℕ)) (joins : Bool) (group : List ℕ) (entries : List (Entry (List ℕ))) → count_new port held (list_events known joins group entries) ≤ length entries
unfolding count_new
list_bound port held known joins group [] = omega arith
list_bound port held known joins group (this ∷ entries) =
    let split = count_append port held (entry_events known joins group this) (list_events known joins group entries) in
    let first = count_length port held (entry_events known joins group this) in
    let one = entry_bound port held known joins group this in
    omega (arith, list_bound port held known joins group entries)

-- ---- one entry, and then the others

pub events_one : (known : List ℕ → Option (List ℕ)) (joins : Bool) (group : List ℕ) (left rest : List (Entry (List ℕ))) (this : Entry (List ℕ)) (event : Event) → left ≡ this ∷ rest → event ∷ [] ≡ entry_events known joins group this → list_events known joins group left ≡ event ∷ list_events known joins group rest
events_one known joins group left rest this event split is = ap (list_events known joins group) split ∙ ap (λ (es : List Event). es ++ list_events known joins group rest) (sym is)

pub room_at : (port : ℕ) (start : Start) (space : ℕ) (event : Event) (all events : List Event) (records : List (Record (List ℕ))) → all ≡ event ∷ events → HasRoom port start space all records → (length (act port start event records) ≤ space) × HasRoom port start space events (act port start event records)
unfolding HasRoom
room_at port start space event all events records e r = subst (λ (es : List Event). HasRoom port start space es records) e r

pub left_at : (port : ℕ) (start : Start) (event : Event) (all events : List Event) (records : List (Record (List ℕ))) → all ≡ event ∷ events → act_all port start all records ≡ act_all port start events (act port start event records)
unfolding act_all
left_at port start event all events records e = ap (λ (es : List Event). act_all port start es records) e

pub nothing_left : (port : ℕ) (start : Start) (known : List ℕ → Option (List ℕ)) (joins : Bool) (group : List ℕ) (left : List (Entry (List ℕ))) (records : List (Record (List ℕ))) → left ≡ [] → act_all port start (list_events known joins group left) records ≡ records
unfolding act_all
nothing_left port start known joins group left records e = ap (λ (es : List (Entry (List ℕ))). act_all port start (list_events known joins group es) records) e

pub count_yes : (port : ℕ) (held : List (Record (List ℕ))) (event : Event) (all events : List Event) → all ≡ event ∷ events → is_new port held event ≡ true → count_new port held all ≡ 1 + count_new port held events
unfolding count_new
count_yes port held event all events e is = ap (count_new port held) e ∙ ap (λ b. cond b 1 0 + count_new port held events) is

pub count_no : (port : ℕ) (held : List (Record (List ℕ))) (event : Event) (all events : List Event) → all ≡ event ∷ events → is_new port held event ≡ false → count_new port held all ≡ count_new port held events
unfolding count_new
count_no port held event all events e is = ap (count_new port held) e ∙ ap (λ b. cond b 1 0 + count_new port held events) is ∙ (omega arith)

pub count_none : (port : ℕ) (known : List ℕ → Option (List ℕ)) (joins : Bool) (group : List ℕ) (left : List (Entry (List ℕ))) (held : List (Record (List ℕ))) → left ≡ [] → count_new port held (list_events known joins group left) ≡ 0
unfolding count_new
count_none port known joins group left held e = ap (λ (es : List (Entry (List ℕ))). count_new port held (list_events known joins group es)) e

-- ---- one set, and then the others

abbrev pub sets_events : (List ℕ → Option (List ℕ)) → List GroupSet → List Event
sets_events known sets = flat_map (set_events known) sets

abbrev joined_events : (List ℕ → Option (List ℕ)) → GroupSet → List Event
joined_events known set = list_events known true set.group set.joined

abbrev pruned_events : (List ℕ → Option (List ℕ)) → GroupSet → List Event
pruned_events known set = list_events known false set.group set.pruned

pub set_room : (port : ℕ) (start : Start) (space : ℕ) (known : List ℕ → Option (List ℕ)) (set : GroupSet) (left rest : List GroupSet) (records : List (Record (List ℕ))) → left ≡ set ∷ rest → HasRoom port start space (sets_events known left) records →
    HasRoom port start space (joined_events known set) records × HasRoom port start space (pruned_events known set) (act_all port start (joined_events known set) records) × HasRoom port start space (sets_events known rest) (act_all port start (pruned_events known set) (act_all port start (joined_events known set) records))
set_room port start space known set left rest records e r =
    let all = subst (λ (s : List GroupSet). HasRoom port start space (sets_events known s) records) e r in
    let here = room_first port start space (set_events known set) (sets_events known rest) records all in
    let later = room_then port start space (set_events known set) (sets_events known rest) records all in (
      room_first port start space (joined_events known set) (pruned_events known set) records here,
      room_then port start space (joined_events known set) (pruned_events known set) records here,
      subst (HasRoom port start space (sets_events known rest)) (act_append port start (joined_events known set) (pruned_events known set) records) later,
    )

pub set_left : (port : ℕ) (start : Start) (known : List ℕ → Option (List ℕ)) (set : GroupSet) (left rest : List GroupSet) (records : List (Record (List ℕ))) → left ≡ set ∷ rest → act_all port start (sets_events known left) records ≡ act_all port start (sets_events known rest) (act_all port start (pruned_events known set) (act_all port start (joined_events known set) records))
set_left port start known set left rest records e =
    ap (λ (s : List GroupSet). act_all port start (sets_events known s) records) e
    ∙ act_append port start (set_events known set) (sets_events known rest) records
    ∙ ap (act_all port start (sets_events known rest)) (act_append port start (joined_events known set) (pruned_events known set) records)

pub no_set_left : (port : ℕ) (start : Start) (known : List ℕ → Option (List ℕ)) (left : List GroupSet) (records : List (Record (List ℕ))) → left ≡ [] → act_all port start (sets_events known left) records ≡ records
unfolding act_all
no_set_left port start known left records e = ap (λ (s : List GroupSet). act_all port start (sets_events known s) records) e

pub set_count_is : (port : ℕ) (held : List (Record (List ℕ))) (known : List ℕ → Option (List ℕ)) (set : GroupSet) (left rest : List GroupSet) → left ≡ set ∷ rest → count_new port held (sets_events known left) ≡ count_new port held (joined_events known set) + count_new port held (pruned_events known set) + count_new port held (sets_events known rest)
set_count_is port held known set left rest e =
    ap (λ (s : List GroupSet). count_new port held (sets_events known s)) e
    ∙ count_append port held (set_events known set) (sets_events known rest)
    ∙ ap (λ n. n + count_new port held (sets_events known rest)) (count_append port held (joined_events known set) (pruned_events known set))

pub no_set_count : (port : ℕ) (held : List (Record (List ℕ))) (known : List ℕ → Option (List ℕ)) (left : List GroupSet) → left ≡ [] → count_new port held (sets_events known left) ≡ 0
unfolding count_new
no_set_count port held known left e = ap (λ (s : List GroupSet). count_new port held (sets_events known s)) e
