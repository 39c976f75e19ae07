-- One step of a message that is being made: the next piece is told, or has no room.
use Rattle.std.proofs.Common.{◌≡◌, ◌∙◌, ◌↔◌, ℕ, suc, zero, ◌+◌, ◌-◌, ◌*◌, ◌≤◌, ◌<◌, Bool, true, false, List, [], ◌∷◌, ◌++◌, Option, None, Some, length, map, take, drop, min, is_some, leb, refl, sym, ap, subst, arith, append_assoc, length-append}
use Rattle.pim_emit.proofs.Words.{if◌then◌else◌, AllByRecursion, filter, find, flat_map, Less, false≢true, leb-true, leb-false}
use Rattle.pim_emit.proofs.Words.{flat_map-append, append-nil, map-append, length-map, length-drop, drop_all, take-append-drop}
use Rattle.pim_emit.proofs.Words.{drop-append-le, length-take-le, take-append-add, AddressFamily, Ipv4, Ipv6, is_above}
use Rattle.pim_emit.proofs.Words.{address_cmp, canonical_set, canonical_set_length, GroupsAreCounted, star_entries}
use Rattle.pim_emit.proofs.Words.{excepted_entries, written_set, GroupForm, IsNormal, IsNormalGroup, AreExceptions, is_empty}
use Rattle.pim_emit.proofs.Words.{same_address, most_exceptions, StopsBefore, exceptions_of, group_in, WantUnit, source_unit}
use Rattle.pim_emit.proofs.Words.{star_units, group_units, units_of, run_entries, empty_message_size, empty_set_size, entry_size}
use Rattle.pim_emit.proofs.Words.{Draft, Piece, Position, Within, Behind, WrittenSources, DemandSeen, rp_of, IsDraft}
use Rattle.pim_emit.proofs.Words.{message_size, body_start, IsPiece, IsPosition, above, next_above, groups_above, left_at}
use Rattle.pim_emit.proofs.Words.{is_past, star_of, sources_in, piece_form, AreWritten, cut_piece, set_size}
use Rattle.std.specs.Int.{from_bool}
use Rattle.std.proofs.Math.Nat.{le-min, min-le_left, min-le_right}
use Rattle.pim_jp.specs.declared.entry.Entry.TheVariants.{Source, Rpt}
use Rattle.pim_emit.proofs.Above.{by_test, above_none, kept_here, dropped_here, found_later}
use Rattle.pim_emit.proofs.Addresses.{same_is, lt_less, less_trans}
use Rattle.pim_emit.proofs.DraftSizes.{IsSome, AreBefore, HasRoom, entries_of_star, units_more, entries_more, groups_more, all_append, ascending_more, size_more, stops_before_group, stops_before_source}

-- ---- what a form has of a group

group_named : (group : List ℕ) (form : List GroupForm) → (group_in group form).group ≡ group
unfolding group_in
group_named group [] = refl
group_named group (this ∷ form) =
    by_test (same_address group this.group)
    (λ e. rw e (sym (same_is group this.group e)))
    (λ e. rw e (group_named group form))

group_exceptions : (family : AddressFamily) (group : List ℕ) (form : List GroupForm) → AllByRecursion (IsNormalGroup family) form → AreExceptions family (group_in group form).star
unfolding group_in
group_exceptions family group [] normal = tt
group_exceptions family group (this ∷ form) normal =
    by_test (same_address group this.group)
    (λ e. rw e normal.0.exceptions)
    (λ e. rw e (group_exceptions family group form normal.1))

pub few_exceptions : (family : AddressFamily) (piece : Piece (List ℕ)) (form : List GroupForm) → IsNormal family form → length (exceptions_of (piece_form piece form).star) ≤ most_exceptions
few_exceptions family piece form normal = by piece.starred (star_of piece.group form) (group_exceptions family piece.group form normal.groups)
  where
    by : (starred : Bool) (star : Option (List (List ℕ))) → AreExceptions family star → length (exceptions_of (if starred then star else None)) ≤ most_exceptions
    by false star few = omega arith
    by true None few = omega arith
    by true (Some e) few = few.2

-- ---- what is left of its sources

pub record HasFirst {A : Type 0} (xs : List A) : Type 0 where
  pub head : A
  pub tail : List A
  pub is : xs ≡ head ∷ tail

has_first : {A : Type 0} (test : A → Bool) (xs : List A) → is_some (find test xs) ≡ true → HasFirst (filter test xs)
has_first test [] found = absurd (false≢true found)
has_first test (x ∷ xs) found =
    by_test (test x)
    (λ e. record { head = x; tail = filter test xs; is = kept_here test x xs e })
    (λ e.
    let later = has_first test xs (ap is_some (found_later test x xs (find test (x ∷ xs)) e refl) ∙ found) in
    record { head = later.head; tail = later.tail; is = dropped_here test x xs e ∙ later.is })

pub some_left : (bound : Option (List ℕ)) (sources : List (List ℕ)) → is_some (next_above bound sources) ≡ true → HasFirst (above bound sources)
some_left bound sources found = has_first (is_above bound) sources found

pub none_left : (bound : Option (List ℕ)) (sources : List (List ℕ)) → is_some (next_above bound sources) ≡ false → above bound sources ≡ []
none_left bound sources found = by (next_above bound sources) refl found
  where
    by : (r : Option (List ℕ)) → next_above bound sources ≡ r → is_some r ≡ false → above bound sources ≡ []
    by None e none = above_none bound sources e
    by (Some a) e none = absurd (false≢true (sym none))

-- where fewer were told than might be, none is left
pub all_told : (piece : Piece (List ℕ)) (form : List GroupForm) (most : ℕ) (reported : WrittenSources (List ℕ)) → AreWritten piece form most reported → (reported.count ≡ most → ⊥) → is_some (next_above reported.last (sources_in piece.group form)) ≡ false
all_told piece form most reported are fewer =
    let sources = (piece_form piece form).sources in
    let all : length sources ≤ reported.count = omega (arith, are.count, fewer) in
    ap is_some (none_first (is_above reported.last) (sources_in piece.group form) (are.left ∙ drop_all reported.count sources all))
  where
    none_first : {A : Type 0} (test : A → Bool) (xs : List A) → filter test xs ≡ [] → find test xs ≡ None
    none_first test [] none = refl
    none_first test (x ∷ xs) none = by_test (test x) (λ e. let kept : x ∷ filter test xs ≡ [] = sym (kept_here test x xs e) ∙ none in absurd cc) (λ e. sym (found_later test x xs (find test (x ∷ xs)) e refl) ∙ none_first test xs (sym (dropped_here test x xs e) ∙ none))

left_units : (family : AddressFamily) (group : List ℕ) (last : Option (List ℕ)) (form : List GroupForm)
    → units_of (left_at (Within group last) form) ≡ map (source_unit group) (above last (sources_in group form)) ++ units_of (groups_above (Some group) form)
left_units family group last form = ap (λ (g : List ℕ). map (source_unit g) (above last (sources_in group form)) ++ units_of (groups_above (Some group) form)) (group_named group form)

-- ---- sizes of a set

pub one_at_most : (b : Bool) → from_bool b ≤ 1
one_at_most false = omega arith
one_at_most true = omega arith

set_length_is : (family : AddressFamily) (joined pruned : ℕ) → canonical_set_length family joined pruned ≡ empty_set_size family + (joined + pruned) * entry_size family
set_length_is Ipv4 joined pruned = omega arith
set_length_is Ipv6 joined pruned = omega arith

body_start_is : (family : AddressFamily) → body_start family ≡ empty_message_size family
body_start_is Ipv4 = refl
body_start_is Ipv6 = refl

stars_of_set : (rp : Option (List ℕ)) (starred : Bool) (star : Option (List (List ℕ))) → (starred ≡ true → is_some star ≡ true) → (starred ≡ true → is_some rp ≡ true)
    → length (star_entries rp (if starred then star else None)) ≡ from_bool starred
stars_of_set rp false star has rps = refl
stars_of_set rp true None has rps = absurd (false≢true (has refl))
stars_of_set None true (Some e) has rps = absurd (false≢true (rps refl))
stars_of_set (Some rp) true (Some e) has rps = refl

entries_of_piece : (starred : Bool) (star : Option (List (List ℕ))) → (starred ≡ true → is_some star ≡ true)
    → entries_of_star (if starred then star else None) ≡ from_bool starred + length (exceptions_of (if starred then star else None))
entries_of_piece false star has = refl
entries_of_piece true None has = absurd (false≢true (has refl))
entries_of_piece true (Some e) has = refl

pruned_of_set : (star : Option (List (List ℕ))) → length (excepted_entries star) ≡ length (exceptions_of star)
pruned_of_set None = refl
pruned_of_set (Some e) = length-map e (λ source. Rpt source)

-- ---- how many sources are told

min_full : (most size count : ℕ) → count ≡ min most size → count < size → most ≤ count
min_full most size count is less =
    by_test (leb most count)
    (λ e. leb-true most count e)
    (λ e.
    let more = leb-false most count e in
    let both : count + 1 ≤ min most size = le-min (omega arith) (omega arith) in
    absurd (omega arith))

pub told_at_most : (piece : Piece (List ℕ)) (form : List GroupForm) (most : ℕ) (reported : WrittenSources (List ℕ)) → AreWritten piece form most reported → reported.count ≤ most
told_at_most piece form most reported are = omega (arith, are.count, min-le_left most (length (piece_form piece form).sources))

room_and_more : (family : AddressFamily) (room : ℕ) → room ≤ room * entry_size family
room_and_more Ipv4 room = omega arith
room_and_more Ipv6 room = omega arith

-- there is room for so many entries of one more group
pub has_room : (family : AddressFamily) (groups end budget room : ℕ) → 1 ≤ room
    → ((count : ℕ) → 1 ≤ count → (count ≤ room) ↔ ((groups < 255) × (end + empty_set_size family + count * entry_size family ≤ budget)))
    → (groups < 255) × (end + empty_set_size family + room * entry_size family ≤ budget)
has_room family groups end budget room some rooms = (rooms room some).0 (omega arith)

pub small_room : (family : AddressFamily) (groups end budget room : ℕ) → budget ≤ 65000 → 1 ≤ room
    → ((count : ℕ) → 1 ≤ count → (count ≤ room) ↔ ((groups < 255) × (end + empty_set_size family + count * entry_size family ≤ budget))) → room ≤ 65000
small_room family groups end budget room few some rooms = omega (arith, room_and_more family room, has_room family groups end budget room some rooms, few)

-- a piece that has a star or a source has one where some of its sources are told
cut_some : (star : Option (List (List ℕ))) (sources : List (List ℕ)) (most count : ℕ) → is_empty star sources ≡ false → count ≡ min most (length sources) → (entries_of_star star ≡ 0 → 1 ≤ most)
    → is_empty star (take count sources) ≡ false
cut_some (Some e) sources most count some is least = refl
cut_some None [] most count some is least = absurd (false≢true (sym some))
cut_some None (s ∷ sources) most zero some is least =
    let both : 1 ≤ min most (length (s ∷ sources)) = le-min (least refl) (omega arith) in
    absurd (omega arith)
cut_some None (s ∷ sources) most (suc n) some is least = refl

some_entries : (star : Option (List (List ℕ))) (sources : List (List ℕ)) → is_empty star sources ≡ false → 1 ≤ entries_of_star star + length sources
some_entries None [] some = absurd (false≢true (sym some))
some_entries None (s ∷ sources) some = omega arith
some_entries (Some e) sources some = omega arith

-- a piece's units are those that are told and those that are left
cut_units : (this : GroupForm) (count : ℕ) (behind : List WantUnit) → group_units this ++ behind
    ≡ group_units (record { group = this.group; star = this.star; sources = take count this.sources }) ++ (map (source_unit this.group) (drop count this.sources) ++ behind)
cut_units this count behind =
    let front = star_units this.group this.star in
    let unit = source_unit this.group in
    ap (λ (sources : List (List ℕ)). (front ++ map unit sources) ++ behind) (sym (take-append-drop count this.sources))
    ∙ ap (λ (units : List WantUnit). (front ++ units) ++ behind) (map-append unit (take count this.sources) (drop count this.sources))
    ∙ ap (λ (units : List WantUnit). units ++ behind) (sym (append_assoc front (map unit (take count this.sources)) (map unit (drop count this.sources))))
    ∙ append_assoc (front ++ map unit (take count this.sources)) (map unit (drop count this.sources)) behind

-- ---- the groups before another one

all_step : {A : Type 0} (P Q : A → Type 0) → ((a : A) → P a → Q a) → (xs : List A) → AllByRecursion P xs → AllByRecursion Q xs
all_step P Q step [] all = tt
all_step P Q step (x ∷ xs) all = (step x all.0, all_step P Q step xs all.1)

before_behind : (part : List GroupForm) (this : GroupForm) (group : List ℕ) → AreBefore this.group part → is_above (Some this.group) group ≡ true → AreBefore group (part ++ this ∷ [])
before_behind part this group before past =
    let less = lt_less (address_cmp this.group group) past in
    all_append (λ that. address_cmp that.group group ≡ Less) part (this ∷ [])
    (all_step (λ that. address_cmp that.group this.group ≡ Less) (λ that. address_cmp that.group group ≡ Less) (λ that h. less_trans that.group this.group group h less) part before)
    (less, tt)

-- ---- a message that is being made

abbrev pub full : Draft (List ℕ) → Draft (List ℕ)
full draft = record { position = draft.position; groups = draft.groups; end = draft.end; is_full = true }

module _ (family : AddressFamily) (budget : ℕ) (demand_seen : DemandSeen) (begun : Position (List ℕ)) (draft : Draft (List ℕ)) (bytes : List ℕ) (made : IsDraft family budget demand_seen begun draft bytes) where
  pub begins_within : body_start family ≤ draft.end
  begins_within = omega (arith, body_start_is family, made.end)

  filled : StopsBefore family budget (units_of made.part) (units_of (left_at draft.position demand_seen.form)) → IsDraft family budget demand_seen begun (full draft) bytes
  filled stops = record {
    part = made.part;
    reported = made.reported;
    position = made.position;
    ascending = made.ascending;
    some = made.some;
    groups = made.groups;
    few = made.few;
    end = made.end;
    within = made.within;
    sets = made.sets;
    goes_on = λ goes group past. absurd (false≢true (sym goes));
    stops = λ _. stops;
  }

  -- room for so many entries of one more group
  abbrev pub IsRoom : ℕ → Type 0
  IsRoom room = (count : ℕ) → 1 ≤ count → (count ≤ room) ↔ ((draft.groups < 255) × (draft.end + empty_set_size family + count * entry_size family ≤ budget))

  no_room : (room count : ℕ) → IsRoom room → 1 ≤ count → room < count → HasRoom family budget (length made.part + 1) (run_entries (units_of made.part) + count) → ⊥
  no_room room count rooms some less has =
      let size = size_more family (length made.part) (run_entries (units_of made.part)) count in
      let within : draft.end + empty_set_size family + count * entry_size family ≤ budget = omega (arith, size, has.0, made.end) in
      let few : draft.groups < 255 = omega (arith, has.1, made.groups) in
      omega (arith, (rooms count some).1 (few, within))

  module _ (counted : GroupsAreCounted) (goes : draft.is_full ≡ false) (piece : Piece (List ℕ)) (is : IsPiece family draft.position demand_seen.form piece) (room : ℕ) (rooms : IsRoom room) where
    abbrev this : GroupForm
    this = piece_form piece demand_seen.form

    before : AreBefore piece.group made.part
    before = made.goes_on goes piece.group is.past

    pub filled_before : room < 1 + length (exceptions_of this.star) → IsDraft family budget demand_seen begun (full draft) bytes
    filled_before less =
        let stop = stops_before_group counted family budget made.part made.ascending made.some this (units_of (groups_above (Some piece.group) demand_seen.form)) before is.some
        (no_room room (1 + length (exceptions_of this.star)) rooms (omega arith) less) in
        filled (subst (StopsBefore family budget (units_of made.part)) (sym is.units) stop)

    module _ (stars exceptions : ℕ) (is_stars : stars ≡ from_bool piece.starred) (counts : exceptions ≡ length (exceptions_of this.star)) (some : 1 ≤ room) (star : stars + exceptions ≤ room)
        (reported : WrittenSources (List ℕ)) (are : AreWritten piece demand_seen.form (room - (stars + exceptions)) reported) where
      abbrev cut : GroupForm
      cut = cut_piece reported.count piece demand_seen.form

      abbrev part : List GroupForm
      part = made.part ++ cut ∷ []

      abbrev entries : ℕ
      entries = stars + reported.count + exceptions

      star_counts : entries_of_star cut.star ≡ stars + exceptions
      star_counts = omega (arith, entries_of_piece piece.starred (star_of piece.group demand_seen.form) is.star, counts, is_stars)

      few_told : reported.count ≤ room - (stars + exceptions)
      few_told = omega (arith, are.count, min-le_left (room - (stars + exceptions)) (length this.sources))

      few_entries : entries ≤ room
      few_entries = omega (arith, few_told, star)

      told_length : length cut.sources ≡ reported.count
      told_length = length-take-le reported.count this.sources (omega (arith, are.count, min-le_right (room - (stars + exceptions)) (length this.sources)))

      is_cut_some : IsSome cut
      is_cut_some = cut_some this.star this.sources (room - (stars + exceptions)) reported.count is.some are.count (λ none. omega (arith, none, star_counts, some))

      some_told : 1 ≤ entries
      some_told = omega (arith, some_entries cut.star cut.sources is_cut_some, star_counts, told_length)

      entries_told : entries_of_star cut.star + length cut.sources ≡ entries
      entries_told = omega (arith, star_counts, told_length)

      room_told : (draft.groups < 255) × (draft.end + empty_set_size family + entries * entry_size family ≤ budget)
      room_told = (rooms entries some_told).0 few_entries

      pub ends_within : draft.end + canonical_set_length family (stars + reported.count) exceptions ≤ budget
      ends_within = omega (arith, set_length_is family (stars + reported.count) exceptions, room_told.1)

      end_is : draft.end + canonical_set_length family (stars + reported.count) exceptions ≡ message_size family (length part) (run_entries (units_of part))
      end_is =
          let size = size_more family (length made.part) (run_entries (units_of made.part)) entries in
          let counted_entries : run_entries (units_of part) ≡ run_entries (units_of made.part) + entries = entries_more made.part cut ∙ ap (λ (n : ℕ). run_entries (units_of made.part) + n) entries_told in
          let ends : draft.end + canonical_set_length family (stars + reported.count) exceptions ≡ message_size family (length made.part + 1) (run_entries (units_of made.part) + entries) =
          omega (arith, set_length_is family (stars + reported.count) exceptions, size, made.end) in
          ends ∙ ap (λ (n : ℕ). message_size family n (run_entries (units_of made.part) + entries)) (sym (groups_more made.part cut))
          ∙ ap (λ (n : ℕ). message_size family (length part) n) (sym counted_entries)

      module _ (rp : piece.starred ≡ true → is_some (rp_of family demand_seen.table piece.group) ≡ true) (front set : List ℕ) (is_front : front ≡ take draft.end bytes) (long : draft.end ≤ length bytes)
          (size : ℕ) (sized : size ≡ canonical_set_length family (stars + reported.count) exceptions)
          (written : take (set_size family (rp_of family demand_seen.table) cut) set ≡ canonical_set family (written_set (rp_of family demand_seen.table) cut)) where
        joined_counts : length (written_set (rp_of family demand_seen.table) cut).joined ≡ stars + reported.count
        joined_counts =
            let counted_stars = stars_of_set (rp_of family demand_seen.table piece.group) piece.starred (star_of piece.group demand_seen.form) is.star rp in
            let sources = length-map cut.sources (λ source. Source source) in
            length-append (star_entries (rp_of family demand_seen.table piece.group) cut.star) (map (λ source. Source source) cut.sources) ∙ omega (arith, counted_stars, is_stars, sources, told_length)

        pruned_counts : length (written_set (rp_of family demand_seen.table) cut).pruned ≡ exceptions
        pruned_counts = pruned_of_set cut.star ∙ sym counts

        size_is : size ≡ set_size family (rp_of family demand_seen.table) cut
        size_is = sized ∙ ap (λ (n : ℕ). canonical_set_length family n exceptions) (sym joined_counts)
            ∙ ap (λ (n : ℕ). canonical_set_length family (length (written_set (rp_of family demand_seen.table) cut).joined) n) (sym pruned_counts)

        sets_are : drop (body_start family) (take (draft.end + size) (front ++ set)) ≡ flat_map (canonical_set family) (map (written_set (rp_of family demand_seen.table)) part)
        sets_are =
            let long_front : length front ≡ draft.end = ap length is_front ∙ length-take-le draft.end bytes long in
            let this_set : take size set ≡ canonical_set family (written_set (rp_of family demand_seen.table) cut) = ap (λ (n : ℕ). take n set) size_is ∙ written in
            let starts : body_start family ≤ length front = omega (arith, long_front, begins_within) in
            ap (λ (n : ℕ). drop (body_start family) (take (n + size) (front ++ set))) (sym long_front)
            ∙ ap (drop (body_start family)) (take-append-add front set size ∙ ap (λ (l : List ℕ). front ++ l) this_set)
            ∙ drop-append-le (body_start family) front (canonical_set family (written_set (rp_of family demand_seen.table) cut)) starts
            ∙ ap (λ (l : List ℕ). drop (body_start family) l ++ canonical_set family (written_set (rp_of family demand_seen.table) cut)) is_front
            ∙ ap (λ (l : List ℕ). l ++ canonical_set family (written_set (rp_of family demand_seen.table) cut)) made.sets
            ∙ ap (λ (l : List ℕ). flat_map (canonical_set family) (map (written_set (rp_of family demand_seen.table)) made.part) ++ l) (sym (append-nil (canonical_set family (written_set (rp_of family demand_seen.table) cut))))
            ∙ sym (flat_map-append (canonical_set family) (map (written_set (rp_of family demand_seen.table)) made.part) (written_set (rp_of family demand_seen.table) cut ∷ []))
            ∙ ap (flat_map (canonical_set family)) (sym (map-append (written_set (rp_of family demand_seen.table)) made.part (cut ∷ [])))

        -- the step, to a place behind what is told
        to_place : (position : Position (List ℕ)) (is_full : Bool) → group_units this ++ units_of (groups_above (Some piece.group) demand_seen.form) ≡ group_units cut ++ units_of (left_at position demand_seen.form)
            → IsPosition family position
            → (is_full ≡ false → (group : List ℕ) → is_past position group ≡ true → AreBefore group part)
            → (is_full ≡ true → StopsBefore family budget (units_of part) (units_of (left_at position demand_seen.form)))
            → IsDraft family budget demand_seen begun (record { position = position; groups = draft.groups + 1; end = draft.end + size; is_full = is_full }) (front ++ set)
        to_place position is_full units is_position goes_on stops = record {
          part = part;
          reported = made.reported ∙ ap (λ (l : List WantUnit). units_of made.part ++ l) (is.units ∙ units) ∙ sym (append_assoc (units_of made.part) (group_units cut) (units_of (left_at position demand_seen.form)))
              ∙ ap (λ (l : List WantUnit). l ++ units_of (left_at position demand_seen.form)) (sym (units_more made.part cut));
          position = is_position;
          ascending = ascending_more made.part cut made.ascending before;
          some = all_append IsSome made.part (cut ∷ []) made.some (is_cut_some, tt);
          groups = ap (λ (n : ℕ). n + 1) made.groups ∙ sym (groups_more made.part cut);
          few = omega (arith, room_told.0);
          end = ap (λ (n : ℕ). draft.end + n) sized ∙ end_is;
          within = omega (arith, sized, ends_within);
          sets = sets_are;
          goes_on = goes_on;
          stops = stops;
        }

        pub to_behind : above reported.last (sources_in piece.group demand_seen.form) ≡ []
            → IsDraft family budget demand_seen begun (record { position = Behind piece.group; groups = draft.groups + 1; end = draft.end + size; is_full = draft.is_full }) (front ++ set)
        to_behind none =
            let units : group_units this ++ units_of (groups_above (Some piece.group) demand_seen.form) ≡ group_units cut ++ units_of (groups_above (Some piece.group) demand_seen.form) =
            cut_units this reported.count (units_of (groups_above (Some piece.group) demand_seen.form))
            ∙ ap (λ (sources : List (List ℕ)). group_units cut ++ (map (source_unit piece.group) sources ++ units_of (groups_above (Some piece.group) demand_seen.form))) (sym are.left ∙ none) in
            to_place (Behind piece.group) draft.is_full units tt (λ goes group past. before_behind made.part cut group before past) (λ is_full. absurd (false≢true (sym goes ∙ is_full)))

        pub to_within : HasFirst (above reported.last (sources_in piece.group demand_seen.form))
            → IsDraft family budget demand_seen begun (record { position = Within piece.group reported.last; groups = draft.groups + 1; end = draft.end + size; is_full = true }) (front ++ set)
        to_within first =
            let behind = units_of (groups_above (Some piece.group) demand_seen.form) in
            let left : units_of (left_at (Within piece.group reported.last) demand_seen.form) ≡ map (source_unit piece.group) (above reported.last (sources_in piece.group demand_seen.form)) ++ behind = left_units family piece.group reported.last demand_seen.form in
            let units : group_units this ++ behind ≡ group_units cut ++ units_of (left_at (Within piece.group reported.last) demand_seen.form) =
            cut_units this reported.count behind
            ∙ ap (λ (sources : List (List ℕ)). group_units cut ++ (map (source_unit piece.group) sources ++ behind)) (sym are.left)
            ∙ ap (λ (l : List WantUnit). group_units cut ++ l) (sym left) in
            let next : units_of (left_at (Within piece.group reported.last) demand_seen.form) ≡ source_unit piece.group first.head ∷ (map (source_unit piece.group) first.tail ++ behind) =
            left ∙ ap (λ (sources : List (List ℕ)). map (source_unit piece.group) sources ++ behind) first.is in
            let more : length (drop reported.count this.sources) ≡ suc (length first.tail) = ap length (sym are.left ∙ first.is) in
            let less : reported.count < length this.sources = omega (arith, more, length-drop reported.count this.sources) in
            let most : room - (stars + exceptions) ≤ reported.count = min_full (room - (stars + exceptions)) (length this.sources) reported.count are.count less in
            let stop = stops_before_source counted family budget made.part made.ascending made.some cut first.head (map (source_unit piece.group) first.tail ++ behind) before is_cut_some
            (no_room room (entries_of_star cut.star + (length cut.sources + 1)) rooms (omega (arith, entries_told, some_told)) (omega (arith, star_counts, told_length, most, star))) in
            to_place (Within piece.group reported.last) true units is.group (λ goes_on. absurd (false≢true (sym goes_on))) (λ is_full. subst (StopsBefore family budget (units_of part)) (sym next) stop)
