-- A line that is found at the front of the bytes to come.
use Rattle.pim_request.proofs.Cited.{◌≡◌, ◌∙◌, sym, ap, refl, subst, inl, inr, ◌⊎◌, ℕ, ◌+◌, ◌<◌, ◌≤◌, true, List, []}
use Rattle.pim_request.proofs.Cited.{◌∷◌, ◌++◌, Option, Some, None, length, take, drop, arith, append_assoc, append-nil}
use Rattle.pim_request.proofs.Cited.{length-append, take_all, drop_all, lt-ltb, IfSome, IsAtEnd, prepend_known, Found}
use Rattle.pim_request.proofs.Cited.{is_long, line_limit, Lines, NoFeed, IsFeedAt, IsCut, IsPassed, IsFound, IsTaken}
use Rattle.pim_request.proofs.Cited.{HasRead, coming_lines, sort_seen, room}
use Rattle.pim_request.proofs.Feeds.{no_feed_joined}

-- what is known of the bytes to come, is known of those that the device has left
pub prepended : (pending : List ℕ) (remaining : Option (List ℕ)) (bytes : List ℕ) → prepend_known pending remaining ≡ Some bytes → (rest : List ℕ) × (remaining ≡ Some rest) × (bytes ≡ pending ++ rest)
prepended pending None bytes is = absurd cc
prepended pending (Some rest) bytes is = (rest, refl, cc)

over : (remaining : Option (List ℕ)) (rest : List ℕ) → remaining ≡ Some rest → IsAtEnd remaining → rest ≡ []
over None rest is at_end = absurd cc
over (Some bytes) rest is at_end = cc

-- with its line feed
pub found_fed : (bytes : List ℕ) (reached named past : Lines) (found : Found) (place : ℕ) → coming_lines reached ≡ Some bytes → IsFeedAt place reached.pending → named ≡ record { line = take place reached.pending; pending = reached.pending; remaining = reached.remaining; unread = reached.unread; failures = reached.failures } → past ≡ record { line = named.line; pending = drop (place + 1) named.pending; remaining = named.remaining; unread = named.unread; failures = named.failures } → found.sort ≡ sort_seen past.line → found.is_long ≡ is_long past.line → IsFound bytes found past
found_fed bytes reached named past found place coming fed names passes sort long =
    let left = prepended reached.pending reached.remaining bytes coming in
    let front = take place reached.pending in
    let behind = drop (place + 1) reached.pending in
    let line : past.line ≡ front = ap (λ (lines : Lines). lines.line) passes ∙ ap (λ (lines : Lines). lines.line) names in
    let pending : past.pending ≡ behind = ap (λ (lines : Lines). lines.pending) passes ∙ ap (λ (lines : Lines). drop (place + 1) lines.pending) names in
    let remaining : past.remaining ≡ reached.remaining = ap (λ (lines : Lines). lines.remaining) passes ∙ ap (λ (lines : Lines). lines.remaining) names in
    record {
      whole = front;
      rest = behind ++ left.0;
      some = omega (arith, fed.within, ap length left.2, length-append reached.pending left.0);
      cut = record {
        no_feed = fed.before;
        cut = inl (left.2 ∙ ap (λ xs. xs ++ left.0) fed.feed ∙ append_assoc front (10 ∷ behind) left.0);
      };
      coming = ap (λ xs. prepend_known xs past.remaining) pending ∙ ap (prepend_known behind) (remaining ∙ left.1);
      sort = sort ∙ ap sort_seen line;
      is_long = long ∙ ap is_long line;
      line = λ short. line;
    }

-- the same, where its line feed was pending
pub taken_fed : (pending : List ℕ) (reached named past : Lines) (found : Found) (place : ℕ) → reached.pending ≡ pending → IsFeedAt place reached.pending → named ≡ record { line = take place reached.pending; pending = reached.pending; remaining = reached.remaining; unread = reached.unread; failures = reached.failures } → past ≡ record { line = named.line; pending = drop (place + 1) named.pending; remaining = named.remaining; unread = named.unread; failures = named.failures } → found.sort ≡ sort_seen past.line → found.is_long ≡ is_long past.line → IsTaken pending found past
taken_fed pending reached named past found place same fed names passes sort long =
    let front = take place reached.pending in
    let line : past.line ≡ front = ap (λ (lines : Lines). lines.line) passes ∙ ap (λ (lines : Lines). lines.line) names in
    let behind : past.pending ≡ drop (place + 1) reached.pending = ap (λ (lines : Lines). lines.pending) passes ∙ ap (λ (lines : Lines). drop (place + 1) lines.pending) names in
    record {
      whole = front;
      no_feed = fed.before;
      cut = sym same ∙ fed.feed ∙ ap (λ xs. front ++ 10 ∷ xs) (sym behind);
      sort = sort ∙ ap sort_seen line;
      is_long = long ∙ ap is_long line;
      line = λ short. line;
    }

-- the last one, without a line feed
pub found_unfed : (bytes : List ℕ) (reached named past : Lines) (found : Found) (count : ℕ) → coming_lines reached ≡ Some bytes → NoFeed reached.pending → IsAtEnd reached.remaining → count ≡ length reached.pending → 0 < count → named ≡ record { line = take count reached.pending; pending = reached.pending; remaining = reached.remaining; unread = reached.unread; failures = reached.failures } → past ≡ record { line = named.line; pending = drop count named.pending; remaining = named.remaining; unread = named.unread; failures = named.failures } → found.sort ≡ sort_seen past.line → found.is_long ≡ is_long past.line → IsFound bytes found past
found_unfed bytes reached named past found count coming none at_end counted some names passes sort long =
    let left = prepended reached.pending reached.remaining bytes coming in
    let ended = over reached.remaining left.0 left.1 at_end in
    let line : past.line ≡ reached.pending = ap (λ (lines : Lines). lines.line) passes ∙ ap (λ (lines : Lines). lines.line) names ∙ take_all count reached.pending (omega (arith, counted)) in
    let pending : past.pending ≡ [] = ap (λ (lines : Lines). lines.pending) passes ∙ ap (λ (lines : Lines). drop count lines.pending) names ∙ drop_all count reached.pending (omega (arith, counted)) in
    let remaining : past.remaining ≡ reached.remaining = ap (λ (lines : Lines). lines.remaining) passes ∙ ap (λ (lines : Lines). lines.remaining) names in
    record {
      whole = reached.pending;
      rest = [];
      some = omega (arith, counted, some, ap length left.2, length-append reached.pending left.0);
      cut = record { no_feed = none; cut = inr (left.2 ∙ ap (λ xs. reached.pending ++ xs) ended ∙ append-nil reached.pending, refl) };
      coming = ap (λ xs. prepend_known xs past.remaining) pending ∙ ap (prepend_known []) (remaining ∙ left.1 ∙ ap Some ended);
      sort = sort ∙ ap sort_seen line;
      is_long = long ∙ ap is_long line;
      line = λ short. line;
    }

sort_by_front : (front back : List ℕ) → 5 ≤ length front → sort_seen (front ++ back) ≡ sort_seen front
sort_by_front [] back long = absurd (omega arith)
sort_by_front (a ∷ []) back long = absurd (omega arith)
sort_by_front (a ∷ b ∷ []) back long = absurd (omega arith)
sort_by_front (a ∷ b ∷ c ∷ []) back long = absurd (omega arith)
sort_by_front (a ∷ b ∷ c ∷ d ∷ []) back long = absurd (omega arith)
sort_by_front (a ∷ b ∷ c ∷ d ∷ e ∷ front) back long = refl

cut_long : (bytes front rest passed left : List ℕ) → NoFeed front → bytes ≡ front ++ left → IsCut left passed rest → IsCut bytes (front ++ passed) rest
cut_long bytes front rest passed left none all cut = record { no_feed = no_feed_joined front passed none cut.no_feed; cut = by cut.cut }
  where
    by : ((left ≡ passed ++ 10 ∷ rest) ⊎ ((left ≡ passed) × (rest ≡ []))) → ((bytes ≡ (front ++ passed) ++ 10 ∷ rest) ⊎ ((bytes ≡ front ++ passed) × (rest ≡ [])))
    by (inl is) = inl (all ∙ ap (λ xs. front ++ xs) is ∙ sym (append_assoc front passed (10 ∷ rest)))
    by (inr is) = inr (all ∙ ap (λ xs. front ++ xs) is.0, is.1)

-- one that is too long
pub found_long : (bytes pending : List ℕ) (reached past : Lines) (found : Found) → coming_lines reached ≡ Some bytes → pending ≡ reached.pending → NoFeed reached.pending → length reached.pending ≡ room → IfSome reached.remaining (λ later. IsPassed later past) → found.sort ≡ sort_seen pending → found.is_long ≡ true → IsFound bytes found past
found_long bytes pending reached past found coming same none full passes sort long =
    let left = prepended reached.pending reached.remaining bytes coming in
    let passed = subst (λ known. IfSome known (λ later. IsPassed later past)) left.1 passes in
    let size : line_limit < length (reached.pending ++ passed.passed) = omega (arith, full, length-append reached.pending passed.passed) in
    record {
      whole = reached.pending ++ passed.passed;
      rest = passed.rest;
      some = omega (arith, full, ap length left.2, length-append reached.pending left.0);
      cut = cut_long bytes reached.pending passed.rest passed.passed left.0 none left.2 passed.cut;
      coming = passed.coming;
      sort = sort ∙ ap sort_seen same ∙ sym (sort_by_front reached.pending passed.passed (omega (arith, full)));
      is_long = long ∙ sym (lt-ltb line_limit (length (reached.pending ++ passed.passed)) size);
      line = λ short. absurd cc;
    }

-- one that is too long, of which a part was read
pub long_early : (bytes : List ℕ) (reached past : Lines) → coming_lines reached ≡ Some bytes → NoFeed reached.pending → IfSome reached.remaining (λ later. HasRead later NoFeed past) → HasRead bytes NoFeed past
long_early bytes reached past coming none early =
    let left = prepended reached.pending reached.remaining bytes coming in
    let has = subst (λ known. IfSome known (λ later. HasRead later NoFeed past)) left.1 early in
    record {
      read = reached.pending ++ has.read;
      later = has.later;
      all = left.2 ∙ ap (λ xs. reached.pending ++ xs) has.all ∙ sym (append_assoc reached.pending has.read has.later);
      said = no_feed_joined reached.pending has.read none has.said;
      remaining = has.remaining;
    }

-- none
pub none_left : (bytes : List ℕ) (reached : Lines) → coming_lines reached ≡ Some bytes → length reached.pending ≡ 0 → IsAtEnd reached.remaining → (bytes ≡ []) × (coming_lines reached ≡ Some [])
none_left bytes reached coming none at_end =
    let left = prepended reached.pending reached.remaining bytes coming in
    let ended = over reached.remaining left.0 left.1 at_end in
    let is : bytes ≡ [] = left.2 ∙ ap (λ xs. reached.pending ++ xs) ended ∙ append-nil reached.pending ∙ empty reached.pending none in
    (is, coming ∙ ap Some is)
  where
    empty : (xs : List ℕ) → length xs ≡ 0 → xs ≡ []
    empty [] none = refl
    empty (x ∷ xs) none = absurd (omega arith)
