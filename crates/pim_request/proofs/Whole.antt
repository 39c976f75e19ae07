-- What lies whole in some bytes.
use Rattle.pim_request.proofs.Cited.{◌≡◌, ◌∙◌, sym, ap, refl, ◌⊎◌, inl, inr, ℕ, Bool, true, false, List, [], ◌∷◌, ◌++◌}
use Rattle.pim_request.proofs.Cited.{Option, Some, None, Ok, subst, arith, ◌==◌, append_assoc, append-nil, list_any}
use Rattle.pim_request.proofs.Cited.{IfSome, false≢true, Found, Blank, From, Other, is_blank, begins_text, is_send}
use Rattle.pim_request.proofs.Cited.{onto_whole, whole_lines, lines_have_item, has_item, IsAfterFirst, Lines}
use Rattle.pim_request.proofs.Cited.{coming_lines, NoFeed, IsCut, IsTaken, TakesLine, HasRead, Lacks, Passes, sort_seen}
use Rattle.pim_request.proofs.Cited.{has_send, AtOnce, IsKnown, IsSome, IsSomeTaken, TakesSome}
use Rattle.pim_request.proofs.Devices.{at_value}
use Rattle.pim_request.proofs.Feeds.{rest_has_none}
use Rattle.pim_request.proofs.Sorts.{sort_blank, sort_from, sort_other}

-- ---- lines

fed : (line rest : List ℕ) → NoFeed line → whole_lines (line ++ 10 ∷ rest) ≡ line ∷ whole_lines rest
unfolding whole_lines
fed [] rest none = refl
fed (byte ∷ line) rest none =
    let first : byte == 10 ≡ false = none 0 0 (omega arith) in
    rw first (ap (onto_whole byte) (fed line rest (rest_has_none byte line none)))

unfed : (line : List ℕ) → NoFeed line → whole_lines line ≡ []
unfolding whole_lines
unfed [] none = refl
unfed (byte ∷ line) none =
    let first : byte == 10 ≡ false = none 0 0 (omega arith) in
    rw first (ap (onto_whole byte) (unfed line (rest_has_none byte line none)))

no_line : lines_have_item [] ≡ false
unfolding lines_have_item
no_line = refl

blank_first : (line : List ℕ) (lines : List (List ℕ)) → sort_seen line ≡ Blank → lines_have_item (line ∷ lines) ≡ lines_have_item lines
unfolding lines_have_item
blank_first line lines is = let blank = sort_blank (is_blank line) (begins_text line) is in rw blank refl

from_first : (line : List ℕ) (lines : List (List ℕ)) → sort_seen line ≡ From → lines_have_item (line ∷ lines) ≡ list_any is_send lines
unfolding lines_have_item
from_first line lines is = let tests = sort_from (is_blank line) (begins_text line) is in rw (tests.0, tests.1) refl

other_first : (line : List ℕ) (lines : List (List ℕ)) → sort_seen line ≡ Other → lines_have_item (line ∷ lines) ≡ true
unfolding lines_have_item
other_first line lines is = let tests = sort_other (is_blank line) (begins_text line) is in rw (tests.0, tests.1) refl

-- ---- the tests of bytes that begin with a line

pub no_item : (bytes : List ℕ) → NoFeed bytes → has_item bytes ≡ false
no_item bytes none = ap lines_have_item (unfed bytes none) ∙ no_line

pub no_send : (bytes : List ℕ) → NoFeed bytes → has_send bytes ≡ false
no_send bytes none = ap (list_any is_send) (unfed bytes none)

pub empty : NoFeed []
empty k d low = absurd (omega arith)

blank_item : (line : List ℕ) → NoFeed line → sort_seen line ≡ Blank → (front : List ℕ) → has_item (line ++ 10 ∷ front) ≡ has_item front
blank_item line none is front = ap lines_have_item (fed line front none) ∙ blank_first line (whole_lines front) is

from_item : (line : List ℕ) → NoFeed line → sort_seen line ≡ From → (front : List ℕ) → has_item (line ++ 10 ∷ front) ≡ has_send front
from_item line none is front = ap lines_have_item (fed line front none) ∙ from_first line (whole_lines front) is

other_item : (line : List ℕ) → NoFeed line → sort_seen line ≡ Other → has_item (line ++ 10 ∷ []) ≡ true
other_item line none is = ap lines_have_item (fed line [] none) ∙ other_first line (whole_lines []) is

unsent : (line : List ℕ) → NoFeed line → is_send line ≡ false → (front : List ℕ) → has_send (line ++ 10 ∷ front) ≡ has_send front
unsent line none is front = ap (list_any is_send) (fed line front none) ∙ rw is refl

sent : (line : List ℕ) → NoFeed line → is_send line ≡ true → has_send (line ++ 10 ∷ []) ≡ true
sent line none is = ap (list_any is_send) (fed line [] none) ∙ rw is refl

pub has_feed : (test : List ℕ → Bool) (bytes : List ℕ) → ((none : NoFeed bytes) → test bytes ≡ false) → test bytes ≡ true → NoFeed bytes → ⊥
has_feed test bytes lacks has none = false≢true (sym (lacks none) ∙ has)

-- ---- what is passed over

pub nothing_passed : (test : List ℕ → Bool) (bytes : List ℕ) → Passes test test bytes bytes
nothing_passed test bytes = record { passed = []; all = refl; same = λ front back is. refl }

pub passes_on : (first second third : List ℕ → Bool) (bytes middle later : List ℕ) → Passes first second bytes middle → Passes second third middle later → Passes first third bytes later
passes_on first second third bytes middle later one two = record {
  passed = one.passed ++ two.passed;
  all = one.all ∙ ap (λ xs. one.passed ++ xs) two.all ∙ sym (append_assoc one.passed two.passed later);
  same = λ front back is.
      ap first (append_assoc one.passed two.passed front)
      ∙ one.same (two.passed ++ front) back (two.all ∙ ap (λ xs. two.passed ++ xs) is ∙ sym (append_assoc two.passed front back))
      ∙ two.same front back is;
}

no_front : (front back : List ℕ) → [] ≡ front ++ back → front ≡ []
no_front [] back is = refl
no_front (byte ∷ front) back is = absurd cc

line_passed : (first second : List ℕ → Bool) (bytes line rest : List ℕ) → first line ≡ false → second [] ≡ false → ((front : List ℕ) → first (line ++ 10 ∷ front) ≡ second front) → ((bytes ≡ line ++ 10 ∷ rest) ⊎ ((bytes ≡ line) × (rest ≡ []))) → Passes first second bytes rest
line_passed first second bytes line rest lacks nothing step (inl is) = record {
  passed = line ++ 10 ∷ [];
  all = is ∙ sym (append_assoc line (10 ∷ []) rest);
  same = λ front back whole. ap first (append_assoc line (10 ∷ []) front) ∙ step front;
}
line_passed first second bytes line rest lacks nothing step (inr is) = record {
  passed = line;
  all = is.0 ∙ sym (append-nil line) ∙ ap (λ xs. line ++ xs) (sym is.1);
  same = λ front back whole.
      let none : front ≡ [] = no_front front back (sym is.1 ∙ whole) in
      ap (λ xs. first (line ++ xs)) none ∙ ap first (append-nil line) ∙ lacks ∙ sym nothing ∙ ap second (sym none);
}

pub blank_passes : (bytes line rest : List ℕ) → IsCut bytes line rest → sort_seen line ≡ Blank → Passes has_item has_item bytes rest
blank_passes bytes line rest cut is = line_passed has_item has_item bytes line rest (no_item line cut.no_feed) (no_item [] empty) (blank_item line cut.no_feed is) cut.cut

pub from_passes : (bytes line rest : List ℕ) → IsCut bytes line rest → sort_seen line ≡ From → Passes has_item has_send bytes rest
from_passes bytes line rest cut is = line_passed has_item has_send bytes line rest (no_item line cut.no_feed) (no_send [] empty) (from_item line cut.no_feed is) cut.cut

pub text_passes : (bytes line rest : List ℕ) → IsCut bytes line rest → is_send line ≡ false → Passes has_send has_send bytes rest
text_passes bytes line rest cut is = line_passed has_send has_send bytes line rest (no_send line cut.no_feed) (no_send [] empty) (unsent line cut.no_feed is) cut.cut

pub taken_cut : (pending : List ℕ) (found : Found) (lines : Lines) (is : IsTaken pending found lines) → IsCut pending is.whole lines.pending
taken_cut pending found lines is = record { no_feed = is.no_feed; cut = inl is.cut }

pub still_has : (first second : List ℕ → Bool) (bytes later : List ℕ) → Passes first second bytes later → first bytes ≡ true → second later ≡ true
still_has first second bytes later passes has = sym (passes.same later [] (sym (append-nil later))) ∙ ap first (sym passes.all) ∙ has

-- ---- the end of an item

pub after_passed : (first second : List ℕ → Bool) (bytes middle new : List ℕ) → Passes first second bytes middle → IsAfterFirst second middle new → IsAfterFirst first bytes new
after_passed first second bytes middle new passes is = record {
  front = passes.passed ++ is.front;
  all = passes.all ∙ ap (λ xs. passes.passed ++ xs) is.all ∙ sym (append_assoc passes.passed is.front (10 ∷ new));
  before = passes.same is.front (10 ∷ new) is.all ∙ is.before;
  with_feed =
      ap first (append_assoc passes.passed is.front (10 ∷ []))
      ∙ passes.same (is.front ++ 10 ∷ []) new (is.all ∙ sym (append_assoc is.front (10 ∷ []) new))
      ∙ is.with_feed;
}

pub line_ends : (pending : List ℕ) (found : Found) (lines : Lines) (is : IsTaken pending found lines) → sort_seen is.whole ≡ Other → IsAfterFirst has_item pending lines.pending
line_ends pending found lines is other = record { front = is.whole; all = is.cut; before = no_item is.whole is.no_feed; with_feed = other_item is.whole is.no_feed other }

pub send_ends : (pending : List ℕ) (found : Found) (lines : Lines) (is : IsTaken pending found lines) → is_send is.whole ≡ true → IsAfterFirst has_send pending lines.pending
send_ends pending found lines is send = record { front = is.whole; all = is.cut; before = no_send is.whole is.no_feed; with_feed = sent is.whole is.no_feed send }

-- ---- what was read before an early end

pub read_after : (first second : List ℕ → Bool) (bytes later : List ℕ) (lines : Lines) → Passes first second bytes later → HasRead later (Lacks second) lines → HasRead bytes (Lacks first) lines
read_after first second bytes later lines passes has = record {
  read = passes.passed ++ has.read;
  later = has.later;
  all = passes.all ∙ ap (λ xs. passes.passed ++ xs) has.all ∙ sym (append_assoc passes.passed has.read has.later);
  said = passes.same has.read has.later has.all ∙ has.said;
  remaining = has.remaining;
}

pub read_none : (test : List ℕ → Bool) (bytes : List ℕ) (lines : Lines) → ((read : List ℕ) → NoFeed read → test read ≡ false) → HasRead bytes NoFeed lines → HasRead bytes (Lacks test) lines
read_none test bytes lines lacks has = record { read = has.read; later = has.later; all = has.all; said = lacks has.read has.said; remaining = has.remaining }

-- ---- the loops over lines, while no line feed is missing

pub line_taken : (pending : List ℕ) (given : Option Found) (found : Found) (lines : Lines) → given ≡ Some found → TakesLine pending (Ok given) lines → IsTaken pending found lines
line_taken pending given found lines is takes = subst (λ some. TakesLine pending (Ok some) lines) is takes

pub none_taken : (pending : List ℕ) (given : Option Found) (lines : Lines) → ((found : Found) → given ≡ Some found → ⊥) → TakesLine pending (Ok given) lines → ⊥
none_taken pending None lines none takes = takes
none_taken pending (Some found) lines none takes = none found refl

pub some_taken : (pending : List ℕ) (given : Option Found) (found : Found) (lines : Lines) → given ≡ Some found → TakesSome pending (Ok given) lines → IsSomeTaken pending found lines
some_taken pending given found lines is takes = subst (λ some. TakesSome pending (Ok some) lines) is takes

pub known_taken : (line pending : List ℕ) (found : Found) (lines : Lines) (is : IsTaken pending found lines) → line ≡ lines.line → IsKnown line found.is_long is.whole
known_taken line pending found lines is same = record { long = is.is_long; same = λ short. same ∙ is.line short }

pub begun_at_once : {W : Type 0} (test : List ℕ → Bool) (answers : W) (lines : Lines) → AtOnce test answers answers lines lines
begun_at_once test answers lines = record { output = refl; unread = refl; passes = nothing_passed test lines.pending }

pub more_at_once : {W : Type 0} (test : List ℕ → Bool) (old middle new : W) (before between after : Lines) → AtOnce test old middle before between → new ≡ middle → after.unread ≡ between.unread → Passes test test between.pending after.pending → AtOnce test old new before after
more_at_once test old middle new before between after at_once output unread passes = record {
  output = output ∙ at_once.output;
  unread = unread ∙ at_once.unread;
  passes = passes_on test test test before.pending between.pending after.pending at_once.passes passes;
}

-- a line feed is pending
pub feed_pends : {W : Type 0} (test : List ℕ → Bool) (old new : W) (before after : Lines) → ((bytes : List ℕ) → NoFeed bytes → test bytes ≡ false) → test before.pending ≡ true → AtOnce test old new before after → NoFeed after.pending → ⊥
feed_pends test old new before after lacks has at_once =
    has_feed test after.pending (lacks after.pending) (still_has test test before.pending after.pending at_once.passes has)

-- ---- a text, after its `from` line

pub text_begun : (pending : List ℕ) (found : Found) (lines : Lines) → IsSomeTaken pending found lines → found.sort ≡ From → Passes has_item has_send pending lines.pending
text_begun pending found lines some begins =
    passes_on has_item has_item has_send pending some.later lines.pending some.passes
    (from_passes some.later some.is.whole lines.pending (taken_cut some.later found lines some.is) (sym some.is.sort ∙ begins))

pub text_read : (bytes : List ℕ) (found : Found) (between after : Lines) → IsSome bytes found between → found.sort ≡ From → IfSome (coming_lines between) (λ later. HasRead later (Lacks has_send) after) → HasRead bytes (Lacks has_item) after
text_read bytes found between after some begins early =
    let is = some.is in
    read_after has_item has_send bytes is.rest after
    (passes_on has_item has_item has_send bytes some.later is.rest some.passes (from_passes some.later is.whole is.rest is.cut (sym is.sort ∙ begins)))
    (at_value (λ later. HasRead later (Lacks has_send) after) (coming_lines between) is.rest is.coming early)
