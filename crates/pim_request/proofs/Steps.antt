-- The steps on a buffer of bytes.
use Rattle.pim_request.proofs.Cited.{◌≡◌, ◌∙◌, sym, ap, subst, ℕ, ◌+◌, ◌-◌, ◌≤◌, List, ◌++◌, Option, length, take, drop, arith}
use Rattle.pim_request.proofs.Cited.{None, Some, position, Consumes, IsAtEnd, IsSound, NoFeed, IsFeedAt, GivesMore, room}
use Rattle.pim_request.proofs.Feeds.{none_found, no_feed_joined, feed_found, is_feed}
use Rattle.pim_request.proofs.Places.{searched_and_rest, length_within, kept, kept_front}

-- after more was read
pub sound_after : (bytes moved read : List ℕ) (line_start line_length start end searched at last : ℕ) → IsSound bytes line_start line_length start end searched → take (end - start) (drop at moved) ≡ take (end - start) (drop start bytes) → take (at + (end - start)) read ≡ take (at + (end - start)) moved → length read ≡ length bytes → at + (end - start) ≤ last → last ≤ length read → IsSound read line_start line_length at last searched
sound_after bytes moved read line_start line_length start end searched at last sound same front size low high =
    let all = kept bytes moved read start at (end - start) same front in
    record {
      size = size ∙ sound.size;
      line = sound.line;
      short = sound.short;
      order = omega (arith, sound.order, low);
      within = omega (arith, sound.size, size, high);
      no_feed = subst NoFeed (sym (kept_front bytes read start at (end - start) searched (omega (arith, sound.order)) all)) sound.no_feed;
    }

-- what was read
pub more_read : {remaining later : Option (List ℕ)} (bytes moved read line other : List ℕ) (start end at count unread failures more_failures : ℕ) → take (end - start) (drop at moved) ≡ take (end - start) (drop start bytes) → take (at + (end - start)) read ≡ take (at + (end - start)) moved → length read ≡ room → at + (end - start) + count ≤ length read → count ≤ unread → Consumes remaining later (take count (drop (at + (end - start)) read)) → (count ≡ 0 → IsAtEnd later) → GivesMore count (record { line = line; pending = take (end - start) (drop start bytes); remaining = remaining; unread = unread; failures = failures }) (record { line = other; pending = take (at + (end - start) + count - at) (drop at read); remaining = later; unread = unread - count; failures = more_failures })
more_read bytes moved read line other start end at count unread failures more_failures same front size within low consumes ends = record {
  more = take count (drop (at + (end - start)) read);
  counted = length_within read (at + (end - start)) count within;
  pending =
      searched_and_rest read at (at + (end - start) + count) (end - start) (omega arith)
      ∙ ap (λ first. first ++ take (at + (end - start) + count - (at + (end - start))) (drop (at + (end - start)) read)) (kept bytes moved read start at (end - start) same front)
      ∙ ap (λ n. take (end - start) (drop start bytes) ++ take n (drop (at + (end - start)) read)) (omega arith);
  within = let long = length_within read at (at + (end - start) + count - at) (omega arith) in omega (arith, long, size, within);
  remaining = consumes;
  at_end = ends;
  unread = omega (arith, low);
}

-- nothing was found in the bytes that were not searched
pub sound_searched : (bytes : List ℕ) (line_start line_length start end searched : ℕ) → IsSound bytes line_start line_length start end searched → position is_feed (take (end - (start + searched)) (drop (start + searched) bytes)) ≡ None → NoFeed (take (end - start) (drop start bytes))
sound_searched bytes line_start line_length start end searched sound none =
    subst NoFeed (sym (searched_and_rest bytes start end searched sound.order)) (no_feed_joined _ _ sound.no_feed (none_found _ none))

-- the first line feed was found
pub found_after : (bytes : List ℕ) (line_start line_length start end searched place : ℕ) → IsSound bytes line_start line_length start end searched → position is_feed (take (end - (start + searched)) (drop (start + searched) bytes)) ≡ Some place → IsFeedAt (searched + place) (take (end - start) (drop start bytes))
found_after bytes line_start line_length start end searched place sound found =
    let front = take searched (drop start bytes) in
    let back = take (end - (start + searched)) (drop (start + searched) bytes) in
    let long : length front ≡ searched = length_within bytes start searched (omega (arith, sound.size, sound.order, sound.within)) in
    subst (λ all. IsFeedAt (searched + place) all) (sym (searched_and_rest bytes start end searched sound.order))
    (subst (λ n. IsFeedAt (n + place) (front ++ back)) long (feed_found front back place sound.no_feed found))
