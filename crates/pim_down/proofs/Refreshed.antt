-- A run of refreshes does what its entries do, one after another.
use Rattle.pim_down.proofs.Words.{◌≡◌, ℕ, zero, suc, ◌+◌, ◌<◌, ◌≤◌, max, Bool, true, false, ◌&&◌, eqb, List, [], ◌∷◌, ◌++◌, Option, None, Some, map, length, take, drop, refl, sym, ap, subst, ◌∙◌, arith, All, pointwise, same_text, Less, false≢true, eqb-true, append_assoc, map-append, take-append-drop, take-map, drop-map, drop-drop, length-map, length-drop, All-cons, All-nil, Entry, Held, What, Star, Source, Rpt, Key, State, Join, PrunePending, Prune, PruneTmp, PrunePendingTmp, Machine, Record, Start, on_join, key_cmp, IsBelow, IsAscending, recorded, changed, Event, entry_events, list_events, act, act_all, record_seen, records_seen, put_off, put_off_from, is_of_source, is_source_of, is_join, is_time, is_joined_until, names_joined, AreJoinedUntil, flat_map-append, HasRoom}
use Rattle.pim_jp.specs.declared.entry.Entry.TheVariants as entry
use Rattle.pim_down.proofs.Order.{key_itself, less_back}
use Rattle.pim_down.proofs.Act.{IsAscending-act, IsAscending-act_all}
use Rattle.pim_down.proofs.Events.{act_append, room_then}

-- ---- what the test finds

both : (b c : Bool) → (b && c) ≡ true → (b ≡ true) × (c ≡ true)
both true c e = (refl, e)
both false c e = absurd (false≢true e)

-- the entry is of this source, and the record is in Join until this time
pub record IsNamed (port : ℕ) (group : List ℕ) (from : ℕ) (held : Record (List ℕ)) (named : Entry (List ℕ)) : Type 0 where
  pub source : List ℕ
  pub is : named ≡ entry.Source source
  pub key : held.key ≡ record { port = port; group = group; what = Source source }
  pub state : held.machine.state ≡ Join
  pub end : held.machine.expires_in ≡ Some from

what_is : (source : List ℕ) (what : What (List ℕ)) → is_of_source source what ≡ true → what ≡ Source source
what_is source Star e = absurd (false≢true e)
what_is source (Source held) e = ap (λ s. Source s) (same_text held source (sym e))
what_is source (Rpt held) e = absurd (false≢true e)

join_is : (state : State) → is_join state ≡ true → state ≡ Join
join_is Join e = refl
join_is PrunePending e = absurd (false≢true e)
join_is Prune e = absurd (false≢true e)
join_is PruneTmp e = absurd (false≢true e)
join_is PrunePendingTmp e = absurd (false≢true e)

time_is : (from : ℕ) (time : Option ℕ) → is_time from time ≡ true → time ≡ Some from
time_is from None e = absurd (false≢true e)
time_is from (Some ends) e = ap (λ n. Some n) (eqb-true ends from e)

pub is_named : (port : ℕ) (group : List ℕ) (from : ℕ) (held : Record (List ℕ)) (named : Entry (List ℕ)) → names_joined port group from held named ≡ true → IsNamed port group from held named
is_named port group from held (entry.Star rp) e = absurd (false≢true e)
is_named port group from held (entry.Rpt source) e = absurd (false≢true e)
is_named port group from held (entry.Source source) e =
    let parts = both (is_joined_until from held.machine) (is_source_of port group source held.key) e in
    let machine = both (is_time from held.machine.expires_in) (is_join held.machine.state) parts.0 in
    let key = both (is_of_source source held.key.what) (pointwise eqb held.key.group group && eqb held.key.port port) parts.1 in
    let place = both (pointwise eqb held.key.group group) (eqb held.key.port port) key.1 in
    let ports = eqb-true held.key.port port place.1 in
    let groups = same_text held.key.group group (sym place.0) in
    let whats = what_is source held.key.what key.0 in
    record {
      source = source;
      is = refl;
      key = λ i. record { port = ports i; group = groups i; what = whats i };
      state = join_is held.machine.state machine.1;
      end = time_is from held.machine.expires_in machine.0;
    }

-- ---- one refresh

-- the record with another end of its Expiry Timer
abbrev pub later : ℕ → Record (List ℕ) → Record (List ℕ)
later to held = record { key = held.key; machine = record { state = held.machine.state; expires_in = Some to; pending = held.machine.pending } }

greater_is : (from to : ℕ) → from < to → max from to ≡ to
greater_is from to h = omega arith

joined : (start : Start) (from to : ℕ) (machine : Machine) → from < to → start.expires_in ≡ Some to → machine.state ≡ Join → machine.expires_in ≡ Some from
    → on_join start (Some machine) ≡ Some (record { state = machine.state; expires_in = Some to; pending = machine.pending })
unfolding on_join
joined start from to machine h new state end = rw (state, end, new, greater_is from to h) refl

-- the change of a record after those with lesser keys
past_before : (key : Key (List ℕ)) (change : Option Machine → Option Machine) (machine : Machine) (before rest : List (Record (List ℕ))) → IsAscending (before ++ record { key = key; machine = machine } ∷ rest)
    → changed key change (before ++ record { key = key; machine = machine } ∷ rest) ≡ before ++ (recorded key (change (Some machine)) ++ rest)
unfolding changed IsAscending IsBelow
past_before key change machine [] rest a =
    rw (key_itself key) refl
past_before key change machine (first ∷ before) rest a =
    let held : Record (List ℕ) = record { key = key; machine = machine } in
    rw (less_back first.key key (below_there first.key before held rest a.0)) (ap (λ (rs : List (Record (List ℕ))). first ∷ rs) (past_before key change machine before rest a.1))
  where
    below_there : (k : Key (List ℕ)) (before : List (Record (List ℕ))) (held : Record (List ℕ)) (rest : List (Record (List ℕ))) → IsBelow k (before ++ held ∷ rest) → key_cmp k held.key ≡ Less
    below_there k [] held rest b = b.0
    below_there k (one ∷ before) held rest b = below_there k before held rest b.1

-- ---- several refreshes

-- Join(S,G)
abbrev join_of : List ℕ → List ℕ → Event
join_of group source = record { joins = true; group = group; what = Source source }

module _ (port : ℕ) (start : Start) (known : List ℕ → Option (List ℕ)) (group : List ℕ) (from to : ℕ) (longer : from < to) (new : start.expires_in ≡ Some to) where
  one_refreshed : (held : Record (List ℕ)) (named : Entry (List ℕ)) (before records : List (Record (List ℕ))) (is : IsNamed port group from held named) → IsAscending (before ++ held ∷ records)
      → act port start (join_of group is.source) (before ++ held ∷ records) ≡ before ++ later to held ∷ records
  one_refreshed held named before records is a =
      ap (λ (key : Key (List ℕ)). changed key (on_join start) (before ++ held ∷ records)) (sym is.key)
      ∙ past_before held.key (on_join start) held.machine before records a
      ∙ ap (λ (o : Option Machine). before ++ (recorded held.key o ++ records)) (joined start from to held.machine longer new is.state is.end)

  first_refreshed : (held : Record (List ℕ)) (named : Entry (List ℕ)) (before records : List (Record (List ℕ))) (more : List Event) → IsNamed port group from held named → IsAscending (before ++ held ∷ records)
      → act_all port start (entry_events known true group named ++ more) (before ++ held ∷ records) ≡ act_all port start more (before ++ later to held ∷ records)
  unfolding act_all
  first_refreshed held named before records more is a =
      ap (λ (e : Entry (List ℕ)). act_all port start (entry_events known true group e ++ more) (before ++ held ∷ records)) is.is
      ∙ ap (act_all port start more) (one_refreshed held named before records is a)

  still_ascending : (held : Record (List ℕ)) (named : Entry (List ℕ)) (before records : List (Record (List ℕ))) → IsNamed port group from held named → IsAscending (before ++ held ∷ records) → IsAscending ((before ++ later to held ∷ []) ++ records)
  still_ascending held named before records is a =
      subst IsAscending (one_refreshed held named before records is a ∙ sym (append_assoc before (later to held ∷ []) records)) (IsAscending-act port start (join_of group is.source) (before ++ held ∷ records) a)

  pub refreshed : (count : ℕ) (before records : List (Record (List ℕ))) (entries : List (Entry (List ℕ))) → IsAscending (before ++ records) → AreJoinedUntil port group from count records entries
      → act_all port start (list_events known true group (take count entries)) (before ++ records) ≡ before ++ (map (later to) (take count records) ++ drop count records)
  unfolding act_all AreJoinedUntil
  refreshed zero before records entries a are = refl
  refreshed (suc count) before [] entries a are = absurd (false≢true (sym are))
  refreshed (suc count) before (held ∷ records) [] a are = absurd (false≢true (sym are))
  refreshed (suc count) before (held ∷ records) (named ∷ entries) a are =
      let is = is_named port group from held named are.0 in
      let more = list_events known true group (take count entries) in
      first_refreshed held named before records more is a
      ∙ ap (act_all port start more) (sym (append_assoc before (later to held ∷ []) records))
      ∙ refreshed count (before ++ later to held ∷ []) records entries (still_ascending held named before records is a) are.1
      ∙ append_assoc before (later to held ∷ []) (map (later to) (take count records) ++ drop count records)

-- ---- how many there are

module _ (port : ℕ) (group : List ℕ) (from : ℕ) where
  pub fewer_joined : (fewer count : ℕ) (records : List (Record (List ℕ))) (entries : List (Entry (List ℕ))) → fewer ≤ count → AreJoinedUntil port group from count records entries → AreJoinedUntil port group from fewer records entries
  unfolding AreJoinedUntil
  fewer_joined zero count records entries h are = tt
  fewer_joined (suc fewer) zero records entries h are = absurd (omega arith)
  fewer_joined (suc fewer) (suc count) [] entries h are = are
  fewer_joined (suc fewer) (suc count) (held ∷ records) [] h are = are
  fewer_joined (suc fewer) (suc count) (held ∷ records) (named ∷ entries) h are = (are.0, fewer_joined fewer count records entries (omega arith) are.1)

  pub joined_within : (count : ℕ) (records : List (Record (List ℕ))) (entries : List (Entry (List ℕ))) → AreJoinedUntil port group from count records entries → (count ≤ length records) × (count ≤ length entries)
  unfolding AreJoinedUntil
  joined_within zero records entries are = (omega arith, omega arith)
  joined_within (suc count) [] entries are = absurd (false≢true (sym are))
  joined_within (suc count) (held ∷ records) [] are = absurd (false≢true (sym are))
  joined_within (suc count) (held ∷ records) (named ∷ entries) are = let rest = joined_within count records entries are.1 in (omega arith, omega arith)

  pub one_more_joined : (count : ℕ) (held : Record (List ℕ)) (named : Entry (List ℕ)) (left records : List (Record (List ℕ))) (these entries : List (Entry (List ℕ))) → left ≡ held ∷ records → these ≡ named ∷ entries → names_joined port group from held named ≡ true
      → AreJoinedUntil port group from count records entries → AreJoinedUntil port group from (suc count) left these
  unfolding AreJoinedUntil
  one_more_joined count held named left records these entries is_left is_these is are =
      let all : AreJoinedUntil port group from (suc count) (held ∷ records) (named ∷ entries) = (is, are) in
      rw (is_left, is_these) all

  pub none_joined : (records : List (Record (List ℕ))) (entries : List (Entry (List ℕ))) → AreJoinedUntil port group from 0 records entries
  unfolding AreJoinedUntil
  none_joined records entries = tt

  pub so_far : (count : ℕ) (left records : List (Record (List ℕ))) (these entries : List (Entry (List ℕ))) → ((n : ℕ) → AreJoinedUntil port group from n left these → AreJoinedUntil port group from (count + n) records entries) → AreJoinedUntil port group from count records entries
  so_far count left records these entries f =
      let e : count + 0 ≡ count = omega arith in
      subst (λ (n : ℕ). AreJoinedUntil port group from n records entries) e (f 0 (none_joined left these))

-- ---- records as the code holds them

module _ {A : Type 0} (bytes_of : A → List ℕ) where
  pub all_end : (port : ℕ) (group : List ℕ) (from count : ℕ) (items : List (Held A)) (entries : List (Entry (List ℕ))) → AreJoinedUntil port group from count (records_seen bytes_of items) entries → All (λ (held : Held A). held.machine.expires_at ≡ Some from) (take count items)
  unfolding AreJoinedUntil
  all_end port group from zero items entries are = All-nil (λ (held : Held A). held.machine.expires_at ≡ Some from)
  all_end port group from (suc count) [] entries are = absurd (false≢true (sym are))
  all_end port group from (suc count) (held ∷ items) [] are = absurd (false≢true (sym are))
  all_end port group from (suc count) (held ∷ items) (named ∷ entries) are =
      All-cons (λ (h : Held A). h.machine.expires_at ≡ Some from) held (take count items) (is_named port group from (record_seen bytes_of held) named are.0).end (all_end port group from count items entries are.1)

  pub joined_before : (port : ℕ) (group : List ℕ) (from most count : ℕ) (walk items : List (Held A)) (entries : List (Entry (List ℕ))) → walk ≡ take most items → AreJoinedUntil port group from count (records_seen bytes_of walk) entries → AreJoinedUntil port group from count (records_seen bytes_of items) entries
  unfolding AreJoinedUntil
  joined_before port group from most count walk items entries is are = by most count items entries (subst (λ (xs : List (Held A)). AreJoinedUntil port group from count (records_seen bytes_of xs) entries) is are)
    where
      by : (most count : ℕ) (items : List (Held A)) (entries : List (Entry (List ℕ))) → AreJoinedUntil port group from count (records_seen bytes_of (take most items)) entries → AreJoinedUntil port group from count (records_seen bytes_of items) entries
      by most zero items entries are = tt
      by zero (suc count) items entries are = absurd (false≢true (sym are))
      by (suc most) (suc count) [] entries are = are
      by (suc most) (suc count) (held ∷ items) [] are = are
      by (suc most) (suc count) (held ∷ items) (named ∷ entries) are = (are.0, by most count items entries are.1)

  pub fit : (port : ℕ) (group : List ℕ) (from index count : ℕ) (items : List (Held A)) (entries : List (Entry (List ℕ))) → index < length items → AreJoinedUntil port group from count (records_seen bytes_of (drop index items)) entries → index + count ≤ length items
  fit port group from index count items entries within are =
      let few = joined_within port group from count (records_seen bytes_of (drop index items)) entries are in
      let seen = length-map (drop index items) (record_seen bytes_of) in
      let left = length-drop index items in
      omega arith

  later_seen : (to : ℕ) (items : List (Held A)) → records_seen bytes_of (map (put_off to) items) ≡ map (later to) (records_seen bytes_of items)
  later_seen to [] = refl
  later_seen to (held ∷ items) = ap (λ (rs : List (Record (List ℕ))). record_seen bytes_of (put_off to held) ∷ rs) (later_seen to items)

  put_off_seen : (index count to : ℕ) (items : List (Held A)) → records_seen bytes_of (put_off_from index count to items)
      ≡ records_seen bytes_of (take index items) ++ (map (later to) (take count (records_seen bytes_of (drop index items))) ++ drop count (records_seen bytes_of (drop index items)))
  unfolding put_off_from
  put_off_seen index count to items =
      let front = take index items in
      let run = take count (drop index items) in
      let behind = drop (index + count) items in
      let rest : records_seen bytes_of behind ≡ drop count (records_seen bytes_of (drop index items)) = ap (records_seen bytes_of) (sym (drop-drop count index items)) ∙ sym (drop-map (record_seen bytes_of) count (drop index items)) in
      let these : records_seen bytes_of (map (put_off to) run) ≡ map (later to) (take count (records_seen bytes_of (drop index items))) = later_seen to run ∙ ap (map (later to)) (sym (take-map (record_seen bytes_of) count (drop index items))) in
      let split : records_seen bytes_of (put_off_from index count to items) ≡ (records_seen bytes_of front ++ records_seen bytes_of (map (put_off to) run)) ++ records_seen bytes_of behind = map-append (record_seen bytes_of) (front ++ map (put_off to) run) behind ∙ ap (λ (rs : List (Record (List ℕ))). rs ++ records_seen bytes_of behind) (map-append (record_seen bytes_of) front (map (put_off to) run)) in
      split ∙ append_assoc (records_seen bytes_of front) (records_seen bytes_of (map (put_off to) run)) (records_seen bytes_of behind) ∙ rw (these, rest) refl

  pub run_refreshed : (port : ℕ) (start : Start) (known : List ℕ → Option (List ℕ)) (group : List ℕ) (from to index count done : ℕ) (items after : List (Held A)) (entries : List (Entry (List ℕ))) → from < to → start.expires_in ≡ Some to → IsAscending (records_seen bytes_of items)
      → AreJoinedUntil port group from count (records_seen bytes_of (drop index items)) entries → done ≤ count → after ≡ put_off_from index done to items
      → records_seen bytes_of after ≡ act_all port start (list_events known true group (take done entries)) (records_seen bytes_of items)
  run_refreshed port start known group from to index count done items after entries longer new a are few is =
      let front = records_seen bytes_of (take index items) in
      let behind = records_seen bytes_of (drop index items) in
      let parts : front ++ behind ≡ records_seen bytes_of items = sym (map-append (record_seen bytes_of) (take index items) (drop index items)) ∙ ap (records_seen bytes_of) (take-append-drop index items) in
      let fewer = fewer_joined port group from done count behind entries few are in
      ap (records_seen bytes_of) is ∙ put_off_seen index done to items
      ∙ sym (refreshed port start known group from to longer new done front behind entries (subst IsAscending (sym parts) a) fewer)
      ∙ ap (act_all port start (list_events known true group (take done entries))) parts

-- ---- the entries after those in front

-- the second list of entries does from there what the first does from here
abbrev pub Follows : ℕ → Start → (List ℕ → Option (List ℕ)) → Bool → List ℕ → ℕ → List (Entry (List ℕ)) → List (Record (List ℕ)) → List (Entry (List ℕ)) → List (Record (List ℕ)) → Type 0
Follows port start known joins group space left records rest after =
    IsAscending after
    × HasRoom port start space (list_events known joins group rest) after
    × (act_all port start (list_events known joins group rest) after ≡ act_all port start (list_events known joins group left) records)

pub front_heard : (port : ℕ) (start : Start) (known : List ℕ → Option (List ℕ)) (joins : Bool) (group : List ℕ) (space more count : ℕ) (left rest : List (Entry (List ℕ))) (records after : List (Record (List ℕ))) → more ≡ space → rest ≡ drop count left → after ≡ act_all port start (list_events known joins group (take count left)) records
    → IsAscending records → HasRoom port start space (list_events known joins group left) records → Follows port start known joins group more left records rest after
front_heard port start known joins group space more count left rest records after wide is_rest is_after a room =
    let these = list_events known joins group (take count left) in
    let others = list_events known joins group (drop count left) in
    let parts : list_events known joins group left ≡ these ++ others = ap (list_events known joins group) (sym (take-append-drop count left)) ∙ flat_map-append (entry_events known joins group) (take count left) (drop count left) in
    let heard : Follows port start known joins group space left records (drop count left) (act_all port start these records) = (
      IsAscending-act_all port start these records a,
      room_then port start space these others records (subst (λ (es : List Event). HasRoom port start space es records) parts room),
      sym (ap (λ (es : List Event). act_all port start es records) parts ∙ act_append port start these others records),
    ) in
    let wider : Follows port start known joins group more left records (drop count left) (act_all port start these records) = subst (λ (n : ℕ). Follows port start known joins group n left records (drop count left) (act_all port start these records)) (sym wide) heard in
    let then_rest : Follows port start known joins group more left records rest (act_all port start these records) = subst (λ (es : List (Entry (List ℕ))). Follows port start known joins group more left records es (act_all port start these records)) (sym is_rest) wider in
    subst (λ (rs : List (Record (List ℕ))). Follows port start known joins group more left records rest rs) (sym is_after) then_rest

pub no_event : (known : List ℕ → Option (List ℕ)) (joins : Bool) (group : List ℕ) (left rest : List (Entry (List ℕ))) (this : Entry (List ℕ)) → left ≡ this ∷ rest → ◌≡◌ {A = List Event} [] (entry_events known joins group this) → list_events known joins group left ≡ list_events known joins group rest
no_event known joins group left rest this split is = ap (list_events known joins group) split ∙ ap (λ (es : List Event). es ++ list_events known joins group rest) (sym is)
