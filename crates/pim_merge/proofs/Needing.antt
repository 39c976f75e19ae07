-- What memory is asked for up to the next record of any container.
use Rattle.pim_merge.proofs.Words.{◌≡◌, ◌∙◌, ◌⊎◌, ◌≤◌, ◌<◌, max, ℕ, zero, suc, Bool, true, false, nat_lt, if◌then◌else◌, IfOk}
use Rattle.pim_merge.proofs.Words.{IfSome, List, [], ◌∷◌, drop, length, Option, None, Some, Result, Ok, Err, unwrap_or, refl, sym}
use Rattle.pim_merge.proofs.Words.{ap, subst, arith, inl, inr, false≢true, common_steps, option_map, CaptureFault, Event, Answer}
use Rattle.pim_merge.proofs.Words.{packet, skipped, ended, most_records, OnMemory, IsNext, IsRefusal, ContainerFault}
use Rattle.pim_merge.proofs.Words.{ReaderState, is_section, TakerState, event_given, state_after, asks_to_hold, report_of, reported, put, chosen, next_files, IsGiven}
use Rattle.pim_merge.proofs.Words.{is_end, failed, SomeExceeds, PassesNeeds, GrowsWithin, longest, Allocates, IsLonger}
use Rattle.pim_merge.proofs.Words.{first_answer, needs_unless, StaysComing, StaysHeld, begins_with_held, chosen_known, unless_cut}
use Rattle.pim_capture.specs.declared.fault.CaptureFault.TheVariants as fault
use Rattle.pim_container.specs.declared.link.BlockEndianness.TheVariants.{Big}
use Rattle.pim_container.specs.declared.fault.ContainerFault.TheVariants as of_any
use Rattle.pim_container.specs.declared.event.ContainerEvent as piece
use Rattle.pim_container.specs.declared.event.ContainerEvent.TheVariants as piece_kind
use Rattle.pim_container.specs.declared.interface.Interface.{Interface}
use Rattle.pim_container.specs.declared.container.Container.{Container}
use Rattle.pim_container.specs.declared.container.Container.TheVariants.{Classic, Blocks}
use Rattle.pim_container.specs.declared.reader.ReaderState.TheVariants.{Unbegun, Pieces, Ended, Failed}
use Rattle.pim_container.specs.EventSeen as any
use Rattle.pim_container.specs.Pieces as pieces
use Rattle.pim_container.specs.Next as next
use Rattle.pim_container.specs.Room.{Need, LacksRoom, GrowsBy, GrowsFor, GrowsList, length_in, first_length, next_length, count_in, DescribesFirst, DescribesNext, PassesNeed, describes, first_need, needs, needs_in, header_need, classic_needs}
use Rattle.pim_merge.proofs.Choosing.{put_is, left_after, all_reported, none_to_report, now_reported, known_reported, next_after}

-- ---- a fault that isn't refused memory

pub memory_weaker : (A B : Type 0) (f : CaptureFault) (P Q : Type 0) → (P → Q) → OnMemory {A = A} (Err f) P → OnMemory {A = B} (Err f) Q
memory_weaker A B fault.Memory P Q h p = h p
memory_weaker A B fault.Magic P Q h p = tt
memory_weaker A B fault.LinkType P Q h p = tt
memory_weaker A B fault.Truncated P Q h p = tt
memory_weaker A B fault.TooLong P Q h p = tt
memory_weaker A B fault.Read P Q h p = tt
memory_weaker A B fault.Failed P Q h p = tt
memory_weaker A B fault.Block P Q h p = tt
memory_weaker A B fault.Time P Q h p = tt
memory_weaker A B (fault.Vlans one other) P Q h p = tt
memory_weaker A B (fault.Interfaces one other) P Q h p = tt
memory_weaker A B (fault.InterfaceNames one other) P Q h p = tt
memory_weaker A B (fault.LinkNumber number) P Q h p = tt
memory_weaker A B fault.Gzip P Q h p = tt

pub memory_of : {A : Type 0} (r : Result A CaptureFault) (P Q : Type 0) → (P → Q) → OnMemory r P → OnMemory r Q
memory_of (Ok value) P Q h p = tt
memory_of {A = A} (Err f) P Q h p = memory_weaker A A f P Q h p

pub fails_memory : (b : Bool) (f : ContainerFault) (P Q : Type 0) → (P → Q) → next.OnMemory {A = piece.ContainerEvent} (Err f) P → OnMemory (failed b f) Q
fails_memory true f P Q h p = tt
fails_memory false of_any.Memory P Q h p = h p
fails_memory false of_any.Magic P Q h p = tt
fails_memory false of_any.Gzip P Q h p = tt
fails_memory false (of_any.LinkType n) P Q h p = tt
fails_memory false of_any.Truncated P Q h p = tt
fails_memory false of_any.TooLong P Q h p = tt
fails_memory false of_any.Block P Q h p = tt
fails_memory false of_any.Time P Q h p = tt
fails_memory false of_any.Read P Q h p = tt
fails_memory false of_any.Failed P Q h p = tt

refused_as : (A B : Type 0) (f : CaptureFault) (n n' : ℕ) → IsRefusal {A = A} n n' (Err f) → IsRefusal {A = B} n n' (Err f)
refused_as A B fault.Read n n' h = h
refused_as A B fault.Memory n n' h = h
refused_as A B fault.Magic n n' h = absurd h
refused_as A B fault.LinkType n n' h = absurd h
refused_as A B fault.Truncated n n' h = absurd h
refused_as A B fault.TooLong n n' h = absurd h
refused_as A B fault.Failed n n' h = absurd h
refused_as A B fault.Block n n' h = absurd h
refused_as A B fault.Time n n' h = absurd h
refused_as A B (fault.Vlans one other) n n' h = absurd h
refused_as A B (fault.Interfaces one other) n n' h = absurd h
refused_as A B (fault.InterfaceNames one other) n n' h = absurd h
refused_as A B (fault.LinkNumber number) n n' h = absurd h
refused_as A B fault.Gzip n n' h = absurd h

-- a fault after some pieces that gave no record
pub failed_after : (A B : Type 0) (f : CaptureFault) (n n' n'' : ℕ) (all now later : Option (List Answer)) → n' ≡ n → StaysComing all now → IsRefusal {A = A} n' n'' (Err f) ⊎ IsNext now (Err f) later
    → IsRefusal {A = B} n n'' (Err f) ⊎ IsNext all (Err f) later
failed_after A B f n n' n'' all now later same stays (inl h) = inl (subst (λ k. IsRefusal {A = B} k n'' (Err f)) same (refused_as A B f n' n'' h))
failed_after A B f n n' n'' all now later same stays (inr h) = inr (next_after all now later (Err f) stays h)

-- ---- the next piece

describes_true : (c : Container) (bytes : List ℕ) → next.Describes c bytes → describes c bytes ≡ true
describes_true (Classic format) bytes d = absurd d
describes_true (Blocks order) bytes d = grind (arith, common_steps)

no_more : (left : ℕ) (c : Container) (bytes : List ℕ) → left ≡ 0 → next_length left c bytes ≡ None
no_more left c bytes none = grind (arith, common_steps)

lacks_none : (capacity : ℕ) (named : Option ℕ) → named ≡ None → LacksRoom capacity (Some named) → ⊥
lacks_none capacity named none lacks = subst (λ it. LacksRoom capacity (Some it)) none lacks

asks_pieces : (capacity room left : ℕ) (c : Container) (count : ℕ) (is : List Interface) (bytes : List ℕ)
    → LacksRoom capacity (Some (next_length left c bytes)) ⊎ ((room ≤ count) × ((0 < left) × DescribesFirst c bytes))
    → SomeExceeds capacity room (needs left c count is bytes)
unfolding needs SomeExceeds
asks_pieces capacity room zero c count is bytes (inl lacks) = lacks_none capacity (next_length 0 c bytes) (no_more 0 c bytes refl) lacks
asks_pieces capacity room zero c count is bytes (inr full) = absurd (omega (arith, full.1.0))
asks_pieces capacity room (suc left) c count is bytes (inl lacks) = inl (inl lacks)
asks_pieces capacity room (suc left) c count is bytes (inr full) = inl (inr (full.0, describes_true _ _ full.1.1))

asks_begun : (capacity room : ℕ) (xs : List ℕ) (b : Bool) → is_section xs ≡ b
    → LacksRoom capacity (Some (if b then next_length most_records (Blocks Big) xs else (if nat_lt (length xs) 12 then None else Some 24)))
    ⊎ ((room ≤ 0) × ((b ≡ true) × DescribesFirst (Blocks Big) xs))
    → SomeExceeds capacity room (if b then needs most_records (Blocks Big) 0 [] xs else classic_needs xs)
unfolding SomeExceeds
asks_begun capacity room xs true e (inl lacks) = asks_pieces capacity room most_records (Blocks Big) 0 [] xs (inl lacks)
asks_begun capacity room xs true e (inr full) = asks_pieces capacity room most_records (Blocks Big) 0 [] xs (inr (full.0, (omega arith, full.1.1)))
asks_begun capacity room xs false e (inl lacks) =
    let same = ap (λ (t : Bool). if t then next_length most_records (Blocks Big) xs else (if nat_lt (length xs) 12 then None else Some 24)) e in
    inl (inl (subst (λ it. LacksRoom capacity (Some it)) (sym same) lacks))
asks_begun capacity room xs false e (inr full) = absurd (false≢true full.1.0)

pub asks_need : (capacity room : ℕ) (state : ReaderState) (count : ℕ) (is : List Interface) (old : Option (List ℕ))
    → LacksRoom capacity (option_map (length_in state) old) ⊎ ((room ≤ count_in state count) × IfSome old (DescribesNext state))
    → IfSome (option_map (needs_in state count is) old) (SomeExceeds capacity room)
asks_need capacity room state count is None h = tt
asks_need capacity room Unbegun count is (Some xs) (inl h) =
    asks_begun capacity room xs (is_section xs) refl (inl h)
asks_need capacity room Unbegun count is (Some xs) (inr h) =
    asks_begun capacity room xs (is_section xs) refl (inr h)
asks_need capacity room (Pieces c left) count is (Some xs) h = asks_pieces capacity room left c count is xs h
asks_need capacity room Ended count is (Some xs) (inl h) = absurd h
asks_need capacity room Ended count is (Some xs) (inr h) = absurd h.1
asks_need capacity room Failed count is (Some xs) (inl h) = absurd h
asks_need capacity room Failed count is (Some xs) (inr h) = absurd h.1

-- ---- how far the buffer of pieces grows

grows_bound : (named : Option ℕ) (old new : ℕ) → GrowsBy named old new → new ≤ max old (unwrap_or named 0)
grows_bound None old new g = omega arith
grows_bound (Some size) old new (inl g) = omega arith
grows_bound (Some size) old new (inr g) = omega arith

longest_is : (need : Need) (rest : List Need) → longest (need ∷ rest) ≡ max (unwrap_or need.size 0) (longest rest)
unfolding longest
longest_is need rest = refl

bound_first : (need : Need) (rest : List Need) (old new : ℕ) → new ≤ max old (unwrap_or need.size 0) → new ≤ max old (longest (need ∷ rest))
bound_first need rest old new h = let e = longest_is need rest in omega (arith, e, h)

grows_pieces : (left : ℕ) (c : Container) (count : ℕ) (is : List Interface) (bytes : List ℕ) (old new : ℕ) → GrowsBy (next_length left c bytes) old new → new ≤ max old (longest (needs left c count is bytes))
unfolding needs
grows_pieces zero c count is bytes old new g =
    let same : new ≡ old = subst (λ it. GrowsBy it old new) (no_more 0 c bytes refl) g in omega (arith, same)
grows_pieces (suc left) c count is bytes old new g =
    bound_first (first_need (suc left) c count bytes) _ old new (grows_bound (next_length (suc left) c bytes) old new g)

grows_begun : (xs : List ℕ) (b : Bool) (old new : ℕ) → is_section xs ≡ b
    → GrowsBy (if b then next_length most_records (Blocks Big) xs else (if nat_lt (length xs) 12 then None else Some 24)) old new
    → new ≤ max old (longest (if b then needs most_records (Blocks Big) 0 [] xs else classic_needs xs))
grows_begun xs true old new e g = grows_pieces most_records (Blocks Big) 0 [] xs old new g
grows_begun xs false old new e g =
    let same = ap (λ (t : Bool). if t then next_length most_records (Blocks Big) xs else (if nat_lt (length xs) 12 then None else Some 24)) e in
    bound_first (header_need xs) _ old new (grows_bound (first_length xs) old new (subst (λ it. GrowsBy it old new) (sym same) g))

pub grows_need : (old new : ℕ) (state : ReaderState) (count : ℕ) (is : List Interface) (bytes : Option (List ℕ)) → GrowsFor (option_map (length_in state) bytes) old new
    → GrowsWithin old new (option_map (needs_in state count is) bytes)
grows_need old new state count is None g = tt
grows_need old new Unbegun count is (Some xs) g = grows_begun xs (is_section xs) old new refl g
grows_need old new (Pieces c left) count is (Some xs) g = grows_pieces left c count is xs old new g
grows_need old new Ended count is (Some xs) g = omega (arith, g)
grows_need old new Failed count is (Some xs) g = omega (arith, g)

pub within_same : (room : ℕ) (needs : Option (List Need)) → GrowsWithin room room needs
within_same room None = tt
within_same room (Some all) = omega arith

-- ---- a piece that gives no record

pub passes_given : (state : TakerState) (e : piece.ContainerEvent) (bytes : List ℕ) (old new : Option (List Need)) →
    event_given state (any.event_seen bytes e) ≡ None → is_end e ≡ false
    → PassesNeed e old new → PassesNeeds old new
passes_given state (piece_kind.Packet millis origin ip) bytes old new none more h = absurd cc
passes_given state (piece_kind.Fragment millis origin ip part) bytes old new none more h = absurd cc
passes_given state (piece_kind.Skipped millis origin why) bytes old new none more h = absurd cc
passes_given state piece_kind.Untimed bytes old new none more h = absurd cc
passes_given state piece_kind.Section bytes old new none more h = h
passes_given state (piece_kind.Interface name) bytes old new none more h = h
passes_given state piece_kind.Passed bytes old new none more h = h
passes_given state piece_kind.End bytes old new none more h = absurd (false≢true (sym more))

-- what follows such a piece is held as before
held_passes : (state state' : TakerState) (e : piece.ContainerEvent) (bytes : List ℕ) (later : List pieces.Answer) →
    event_given state' (any.event_seen bytes e) ≡ None → is_end e ≡ false
    → begins_with_held state (next.in_front (Ok (any.event_seen bytes e)) later) ≡ begins_with_held state later
unfolding begins_with_held
held_passes state state' (piece_kind.Packet millis origin ip) bytes later none more = absurd cc
held_passes state state' (piece_kind.Fragment millis origin ip part) bytes later none more = absurd cc
held_passes state state' (piece_kind.Skipped millis origin why) bytes later none more = absurd cc
held_passes state state' piece_kind.Untimed bytes later none more = absurd cc
held_passes state state' piece_kind.Section bytes later none more = refl
held_passes state state' (piece_kind.Interface name) bytes later none more = refl
held_passes state state' piece_kind.Passed bytes later none more = refl
held_passes state state' piece_kind.End bytes later none more = absurd (false≢true (sym more))

-- such a piece leaves what was taken
state_stays : (state : TakerState) (e : piece.ContainerEvent) (bytes : List ℕ) →
    event_given state (any.event_seen bytes e) ≡ None → is_end e ≡ false
    → state_after state (any.event_seen bytes e) ≡ state
state_stays state (piece_kind.Packet millis origin ip) bytes none more = absurd cc
state_stays state (piece_kind.Fragment millis origin ip part) bytes none more = absurd cc
state_stays state (piece_kind.Skipped millis origin why) bytes none more = absurd cc
state_stays state piece_kind.Untimed bytes none more = absurd cc
state_stays state piece_kind.Section bytes none more = refl
state_stays state (piece_kind.Interface name) bytes none more = refl
state_stays state piece_kind.Passed bytes none more = refl
state_stays state piece_kind.End bytes none more = absurd (false≢true (sym more))

held_stays : (state state' : TakerState) (old new : Option (List pieces.Answer)) (e : piece.ContainerEvent) (bytes :
    List ℕ) → event_given state' (any.event_seen bytes e) ≡ None → is_end e ≡ false
    → next.IsNext old (Ok (any.event_seen bytes e)) new → StaysHeld (option_map (begins_with_held state) old)
    (option_map (begins_with_held state) new)
held_stays state state' None new e bytes none more is = tt
held_stays state state' (Some xs) None e bytes none more is = absurd is
held_stays state state' (Some xs) (Some ys) e bytes none more is = ap Some (sym (ap (begins_with_held state) is
    ∙ held_passes state state' e bytes ys none more))

pub stays_held : (cut : Bool) (state state' state'' : TakerState) (old new : Option (List pieces.Answer)) (e :
    piece.ContainerEvent) (bytes : List ℕ) → cut ≡ false → report_of state ≡ None → state' ≡ reported state →
    state'' ≡ state_after state' (any.event_seen bytes e) →
    event_given state' (any.event_seen bytes e) ≡ None → is_end e ≡ false
    → ⊥ ⊎ next.IsNext old (Ok (any.event_seen bytes e)) new → StaysHeld (option_map (begins_with_held state)
    (unless_cut cut old)) (option_map (begins_with_held state'') (unless_cut cut new))
stays_held cut state state' state'' old new e bytes uncut quiet same after none more (inl never) = absurd never
stays_held cut state state' state'' old new e bytes uncut quiet same after none more (inr is) =
    let stays : state'' ≡ state = after ∙ state_stays state' e bytes none more ∙ now_reported state state' quiet same
    ∙ sym (none_to_report state quiet) in
    subst (λ s. StaysHeld (option_map (begins_with_held state) (unless_cut cut old)) (option_map (begins_with_held s)
    (unless_cut cut new))) (sym stays)
    (subst (λ c. StaysHeld (option_map (begins_with_held state) (unless_cut c old)) (option_map (begins_with_held state)
    (unless_cut c new))) (sym uncut) (held_stays state state' old new e bytes none more is))

lacks_less : (p p' : ℕ) (size : Option ℕ) → p ≤ p' → LacksRoom p' (Some size) → LacksRoom p (Some size)
lacks_less p p' None le h = h
lacks_less p p' (Some n) le h = let less : p' < n = h in omega (arith, le, less)

exceeds_less : (p p' l l' : ℕ) (ns : List Need) → p ≤ p' → l ≤ l' → SomeExceeds p' l' ns → SomeExceeds p l ns
unfolding SomeExceeds
exceeds_less p p' l l' [] le le' h = h
exceeds_less p p' l l' (need ∷ ns) le le' (inl (inl h)) = inl (inl (lacks_less p p' need.size le h))
exceeds_less p p' l l' (need ∷ ns) le le' (inl (inr h)) = inl (inr (omega (arith, le', h.0), h.1))
exceeds_less p p' l l' (need ∷ ns) le le' (inr h) = inr (exceeds_less p p' l l' ns le le' h)

exceeds_later : (p l : ℕ) (ns : List Need) → SomeExceeds p l (drop 1 ns) → SomeExceeds p l ns
unfolding SomeExceeds
exceeds_later p l [] h = h
exceeds_later p l (need ∷ ns) h = inr h

longest_later : (ns : List Need) → longest (drop 1 ns) ≤ longest ns
longest_later [] = let same : longest (drop 1 []) ≡ longest [] = refl in omega (arith, same)
longest_later (need ∷ ns) =
    let same : longest (drop 1 (need ∷ ns)) ≡ longest ns = refl in
    let e = longest_is need ns in omega (arith, same, e)

longer_less : (r r' : ℕ) (o : Option Answer) → r ≤ r' → IsLonger r' o → IsLonger r o
longer_less r r' None le h = h
longer_less r r' (Some (Err f)) le h = h
longer_less r r' (Some (Ok (packet millis bytes datagram))) le h = let less : r' < length bytes = h in omega (arith, le, less)
longer_less r r' (Some (Ok (skipped millis why))) le h = h
longer_less r r' (Some (Ok ended)) le h = h

asks_back : (r r' p p' l l' : ℕ) (all later : Option (List Answer)) (needs needs' : Option (List Need)) (fragment
    fragment' : Option Bool) → r ≤ r' → p ≤ p' → l ≤ l' → StaysComing all later → PassesNeeds needs needs'
    → StaysHeld fragment fragment' → Allocates r' p' l' later needs' fragment' → Allocates r p l all needs fragment
asks_back r r' p p' l l' None later ns ns' f f' a b c stays passes keeps h = inl tt
asks_back r r' p p' l l' (Some xs) later ns ns' f f' a b c stays passes keeps (inl h) =
    inl (longer_less r r' (first_answer xs) a (subst (λ (it : Option (List Answer)). IfSome it (λ answers. IsLonger r' (first_answer answers))) stays h))
asks_back r r' p p' l l' (Some xs) later None ns' f f' a b c stays passes keeps (inr (inl h)) = inr (inl tt)
asks_back r r' p p' l l' (Some xs) later (Some ns) ns' f f' a b c stays passes keeps (inr (inl h)) =
    let left : SomeExceeds p' l' (drop 1 ns) = subst (λ (it : Option (List Need)). IfSome it (SomeExceeds p' l')) passes h in
    inr (inl (exceeds_less p p' l l' ns b c (exceeds_later p' l' ns left)))
asks_back r r' p p' l l' (Some xs) later ns ns' None f' a b c stays passes keeps (inr (inr h)) = inr (inr tt)
asks_back r r' p p' l l' (Some xs) later ns ns' (Some f) f' a b c stays passes keeps (inr (inr h)) =
    inr (inr (subst (λ (it : Option Bool). IfSome it (λ (is : Bool). is ≡ true)) keeps h))

within_back : (p p' p'' : ℕ) (needs needs' : Option (List Need)) → GrowsWithin p p' needs → PassesNeeds needs needs' → GrowsWithin p' p'' needs' → GrowsWithin p p'' needs
within_back p p' p'' None needs' g passes g' = tt
within_back p p' p'' (Some ns) needs' g passes g' =
    let le = longest_later ns in
    let less : p'' ≤ max p' (longest (drop 1 ns)) = subst (λ (it : Option (List Need)). IfSome it (λ all. p'' ≤ max p' (longest all))) passes g' in
    let one : p' ≤ max p (longest ns) = g in
    omega (arith, one, le, less)

-- ---- piece after piece

-- Some pieces were read that gave no record. What is asked for from here on was so from the start.
pub record HasHeld (r r' p p' l l' : ℕ) (all later : Option (List Answer)) (needs needs' : Option (List Need))
    (fragment fragment' : Option Bool) : Type 0 where
  pub asks : Allocates r' p' l' later needs' fragment' → Allocates r p l all needs fragment
  pub grown : GrowsWithin p p' needs
  pub within : (top : ℕ) → GrowsWithin p' top needs' → GrowsWithin p top needs

pub begin_holding : (r p l : ℕ) (all : Option (List Answer)) (needs : Option (List Need)) (fragment : Option Bool) →
    HasHeld r r p p l l all all needs needs fragment fragment
begin_holding r p l all needs fragment = record { asks = λ h. h; grown = within_same p needs; within = λ top g. g }

pub hold_more : (r r' r'' p p' p'' l l' l'' : ℕ) (all now later : Option (List Answer)) (needs needs' needs'' :
    Option (List Need)) (fragment fragment' fragment'' : Option Bool)
    → HasHeld r r' p p' l l' all now needs needs' fragment fragment'
    → StaysComing now later → PassesNeeds needs' needs'' → StaysHeld fragment' fragment'' →
    GrowsWithin p' p'' needs' → (p' ≤ p'') × (l' ≤ l'') × (r' ≤ r'')
    → HasHeld r r'' p p'' l l'' all later needs needs'' fragment fragment''
hold_more r r' r'' p p' p'' l l' l'' all now later needs needs' needs'' fragment fragment' fragment'' has stays
    passes keeps grown le = record {
      asks = λ h. has.asks (asks_back r' r'' p' p'' l' l'' now later needs' needs'' fragment' fragment'' le.2 le.0 le.1
          stays passes keeps h);
      grown = has.within p'' grown;
      within = λ top g. has.within top (within_back p' p'' top needs' needs'' grown passes g);
    }

-- ---- the bytes of a record

longer_given : (r : ℕ) (given : Option Answer) (later : List Answer) → IsLonger r given → IsLonger r (first_answer (put given later))
longer_given r None later h = absurd h
longer_given r (Some (Err f)) later h = absurd h
longer_given r (Some (Ok (packet millis bytes datagram))) later h = h
longer_given r (Some (Ok (skipped millis why))) later h = absurd h
longer_given r (Some (Ok ended)) later h = absurd h

longer_known : (r p l : ℕ) (begun : Bool) (state : TakerState) (old new : Option (List pieces.Answer)) (files :
    Option (List (List ℕ))) (reported : any.EventSeen) (needs : Option (List Need)) (fragment : Option Bool)
    → next.IsNext old (Ok reported) new → IsLonger r (event_given (all_reported state) reported) →
    Allocates r p l (chosen_known begun (all_reported state) old files) needs fragment
longer_known r p l begun state None new files reported needs fragment is h = inl tt
longer_known r p l begun state (Some xs) None files reported needs fragment is h = absurd is
longer_known r p l begun state (Some xs) (Some ys) None reported needs fragment is h = inl tt
longer_known r p l begun state (Some xs) (Some ys) (Some files) reported needs fragment is h =
    let behind = next_files files in
    let all = ap (chosen behind begun (all_reported state)) is ∙ put_is behind begun state reported ys in
    inl (subst (λ it. IsLonger r (first_answer it)) (sym all)
    (longer_given r (event_given (all_reported state) reported) (chosen behind true (state_after (all_reported state) reported)
    (left_after reported ys)) h))

held_begins : (state : TakerState) (reported : any.EventSeen) (later : List pieces.Answer) →
    asks_to_hold state reported ≡ true → begins_with_held state (next.in_front (Ok reported) later) ≡ true
unfolding begins_with_held
held_begins state (any.packet millis origin datagram) later is = absurd (false≢true is)
held_begins state (any.fragment millis origin datagram part) later is = is
held_begins state (any.skipped millis origin why) later is = absurd (false≢true is)
held_begins state any.untimed later is = absurd (false≢true is)
held_begins state any.section later is = absurd (false≢true is)
held_begins state (any.described name) later is = absurd (false≢true is)
held_begins state any.passed later is = absurd (false≢true is)
held_begins state any.ended later is = absurd (false≢true is)

held_known : (state : TakerState) (old new : Option (List pieces.Answer)) (reported : any.EventSeen) →
    next.IsNext old (Ok reported) new → asks_to_hold state reported ≡ true →
    IfSome (option_map (begins_with_held state) old) (λ (it : Bool). it ≡ true)
held_known state None new reported is h = tt
held_known state (Some xs) None reported is h = absurd is
held_known state (Some xs) (Some ys) reported is h =
    ap (begins_with_held state) is ∙ held_begins state reported ys h

pub asks_record : (r p l : ℕ) (cut begun : Bool) (state state' : TakerState) (old new : Option (List pieces.Answer))
    (files : Option (List (List ℕ))) (e : piece.ContainerEvent) (seen : List ℕ)
    (needs : Option (List Need)) → cut ≡ false → report_of state ≡ None → state' ≡ all_reported state →
    ⊥ ⊎ next.IsNext old (Ok (any.event_seen seen e)) new
    → IsLonger r (event_given state' (any.event_seen seen e)) ⊎ (asks_to_hold state' (any.event_seen seen e) ≡ true)
    → Allocates r p l (chosen_known begun state (unless_cut cut old) files) needs (option_map (begins_with_held state)
    (unless_cut cut old))
asks_record r p l cut begun state state' old new files e seen needs uncut none same (inl never) h = absurd never
asks_record r p l cut begun state state' old new files e seen needs uncut none same (inr is) h =
    subst (λ c. Allocates r p l (chosen_known begun state (unless_cut c old) files) needs (option_map
    (begins_with_held state) (unless_cut c old))) (sym uncut) (by h)
  where
    by : IsLonger r (event_given state' (any.event_seen seen e)) ⊎ (asks_to_hold state' (any.event_seen seen e)
        ≡ true) →
        Allocates r p l (chosen_known begun state old files) needs (option_map (begins_with_held state) old)
    by (inl longer) =
        subst (λ all. Allocates r p l all needs (option_map (begins_with_held state) old)) (sym (known_reported begun
        state old files none))
        (longer_known r p l begun state old new files (any.event_seen seen e) needs (option_map (begins_with_held
        state) old) is
        (subst (λ s. IsLonger r (event_given s (any.event_seen seen e))) same longer))
    by (inr asks) = inr (inr (held_known state old new (any.event_seen seen e) is
        (subst (λ s. asks_to_hold s (any.event_seen seen e) ≡ true) (same ∙ sym (none_to_report state none)) asks)))

-- ---- the needs of a file that isn't cut

pub uncut_needs : (cut : Bool) (needs : Option (List Need)) → cut ≡ false → needs_unless cut needs ≡ needs
uncut_needs cut needs uncut = ap (λ c. needs_unless c needs) uncut

pub passes_uncut : (cut : Bool) (old new : Option (List Need)) → cut ≡ false → PassesNeeds old new → PassesNeeds (needs_unless cut old) (needs_unless cut new)
passes_uncut cut old new uncut h = subst (λ c. PassesNeeds (needs_unless c old) (needs_unless c new)) (sym uncut) h

-- ---- the result of a step

pub given_none : (given : Option Answer) (bytes : List ℕ) (it : Option Event) → IsGiven given bytes (Ok it) →
    it ≡ None → given ≡ None
given_none given bytes None h none = h
given_none given bytes (Some event) h none = absurd cc

pub if_ok : {A : Type 0} (r : Result A CaptureFault) (P : A → Type 0) → ((a : A) → P a) → IfOk r P
if_ok (Ok a) P h = h a
if_ok (Err f) P h = tt

pub grows_up : (named : Option (Option ℕ)) (old new : ℕ) → GrowsFor named old new → old ≤ new
grows_up None old new g = g.0
grows_up (Some None) old new g = omega (arith, g)
grows_up (Some (Some size)) old new (inl g) = omega (arith, g)
grows_up (Some (Some size)) old new (inr g) = omega (arith, g)

pub list_up : (e : piece.ContainerEvent) (count old new : ℕ) → GrowsList e count old new → old ≤ new
list_up (piece_kind.Packet millis origin ip) count old new g = omega (arith, g)
list_up (piece_kind.Fragment millis origin ip part) count old new g = omega (arith, g)
list_up (piece_kind.Skipped millis origin why) count old new g = omega (arith, g)
list_up piece_kind.Untimed count old new g = omega (arith, g)
list_up piece_kind.Section count old new g = omega (arith, g)
list_up (piece_kind.Interface name) count old new (inl g) = omega (arith, g.1)
list_up (piece_kind.Interface name) count old new (inr g) = omega (arith, g.0, g.1)
list_up piece_kind.Passed count old new g = omega (arith, g)
list_up piece_kind.End count old new g = omega (arith, g)
