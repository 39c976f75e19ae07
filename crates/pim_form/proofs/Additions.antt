-- A message behind those that were there.
use Rattle.pim_form.proofs.Words.{◌≡◌, ◌∙◌, ℕ, ◌+◌, ◌≤◌, List, [], ◌∷◌, ◌++◌, length, take, drop, refl, sym, ap, subst}
use Rattle.pim_form.proofs.Words.{arith, length-append, take-append_seam, drop-append_seam, take_all, take-append-le}
use Rattle.pim_form.proofs.Words.{map-append, AllByRecursion, Span, IsSpan, message_seen, messages_seen}
use Rattle.pim_form.proofs.Lists.{all_append}

-- what stands before the blank bytes that were added
pub front_stays : (old resized blank front : List ℕ) (start end : ℕ) → length old ≡ start → start ≤ end → resized ≡ take end old ++ blank → front ≡ take start resized → front ≡ old
front_stays old resized blank front start end long below is is_front =
    let whole : take end old ≡ old = take_all end old (omega (arith, long, below)) in
    is_front ∙ ap (take start) (is ∙ ap (λ (bytes : List ℕ). bytes ++ blank) whole) ∙ ap (λ (n : ℕ). take n (old ++ blank)) (sym long) ∙ take-append_seam old blank

-- what is left of a block that ends with the message
pub cut_behind : (front old message others : List ℕ) (len : ℕ) → length front + length message ≡ len → front ≡ old → take len ((front ++ message) ++ others) ≡ old ++ message
cut_behind front old message others len long is =
    let whole : length (front ++ message) ≡ len = omega (arith, long, length-append front message) in
    ap (λ (n : ℕ). take n ((front ++ message) ++ others)) (sym whole) ∙ take-append_seam (front ++ message) others ∙ ap (λ (bytes : List ℕ). bytes ++ message) is

-- ---- and where they stand

within_more : (size more : ℕ) → size ≤ more → (spans : List Span) → AllByRecursion (IsSpan size) spans → AllByRecursion (IsSpan more) spans
within_more size more long [] all = tt
within_more size more long (span ∷ spans) all = ((all.0.0, omega (arith, all.0.1, long)), within_more size more long spans all.1)

seen_stay : (before message : List ℕ) (spans : List Span) → AllByRecursion (IsSpan (length before)) spans → messages_seen (before ++ message) spans ≡ messages_seen before spans
seen_stay before message [] all = refl
seen_stay before message (span ∷ spans) all =
    let here : message_seen (before ++ message) span ≡ message_seen before span = ap (drop span.start) (take-append-le span.end before message all.0.1) in
    let others = seen_stay before message spans all.1 in
    λ i. here i ∷ others i

last_seen : (before message : List ℕ) → drop (length before) (take (length (before ++ message)) (before ++ message)) ≡ message
last_seen before message = ap (drop (length before)) (take_all (length (before ++ message)) (before ++ message) (omega arith)) ∙ drop-append_seam before message

all_seen : (before message : List ℕ) (spans : List Span) (span : Span) → AllByRecursion (IsSpan (length before)) spans → span.start ≡ length before → span.end ≡ length (before ++ message)
    → messages_seen (before ++ message) (spans ++ span ∷ []) ≡ messages_seen before spans ++ message ∷ []
all_seen before message spans span all starts ends =
    let last : message_seen (before ++ message) span ≡ message =
    ap (λ (n : ℕ). drop n (take span.end (before ++ message))) starts ∙ ap (λ (n : ℕ). drop (length before) (take n (before ++ message))) ends ∙ last_seen before message in
    map-append (message_seen (before ++ message)) spans (span ∷ []) ∙ ap (λ (messages : List (List ℕ)). messages ++ message_seen (before ++ message) span ∷ []) (seen_stay before message spans all)
    ∙ ap (λ (bytes : List ℕ). messages_seen before spans ++ bytes ∷ []) last

pub spans_within : (before message after : List ℕ) (spans new : List Span) (span : Span) → after ≡ before ++ message → AllByRecursion (IsSpan (length before)) spans → span.start ≡ length before → span.end ≡ length after
    → new ≡ spans ++ span ∷ [] → AllByRecursion (IsSpan (length after)) new
spans_within before message after spans new span more all starts ends is =
    let long : length before ≤ length after = omega (arith, ap length more, length-append before message) in
    subst (AllByRecursion (IsSpan (length after))) (sym is)
    (all_append (IsSpan (length after)) spans (span ∷ []) (within_more (length before) (length after) long spans all) ((omega (arith, starts, ends, long), omega (arith, ends)), tt))

pub message_added : (before message after : List ℕ) (spans new : List Span) (span : Span) → after ≡ before ++ message → AllByRecursion (IsSpan (length before)) spans → span.start ≡ length before → span.end ≡ length after
    → new ≡ spans ++ span ∷ [] → messages_seen after new ≡ messages_seen before spans ++ message ∷ []
message_added before message after spans new span more all starts ends is =
    ap (λ (bytes : List ℕ). messages_seen bytes new) more ∙ ap (messages_seen (before ++ message)) is ∙ all_seen before message spans span all starts (ends ∙ ap length more)
