-- The items of bytes whose first line was found.
use Rattle.pim_request.proofs.Cited.{◌≡◌, ◌∙◌, sym, ap, refl, ℕ, ◌<◌, Bool, true, false, List, [], ◌∷◌, ◌++◌, Option}
use Rattle.pim_request.proofs.Cited.{Some, None, Ok, subst, length, arith, ◌==◌, ◌⊎◌, inl, inr, onto_first, IfSome}
use Rattle.pim_request.proofs.Cited.{Found, Blank, From, Other, lines_of, items_from, items_of, has_item, Text, a_text}
use Rattle.pim_request.proofs.Cited.{sent, with_line, text_after, line_item, is_blank, begins_text, is_send, Holds}
use Rattle.pim_request.proofs.Cited.{NoFeed, IsCut, sort_seen, Lines, IsFound, GivesLine, coming_lines, Held, HoldsText}
use Rattle.pim_request.proofs.Cited.{IsKnown, SameItems, Continues, EndsText, PassesLines, has_send}
use Rattle.pim_request.proofs.Feeds.{rest_has_none}
use Rattle.pim_request.proofs.Sorts.{sort_blank, sort_from, sort_other}
use Rattle.pim_request.proofs.Whole.{blank_passes, text_passes, passes_on}

-- ---- lines

fed : (line rest : List ℕ) → NoFeed line → lines_of (line ++ 10 ∷ rest) ≡ line ∷ lines_of rest
unfolding lines_of
fed [] rest none = refl
fed (byte ∷ line) rest none =
    let first : byte == 10 ≡ false = none 0 0 (omega arith) in
    rw first (ap (onto_first byte) (fed line rest (rest_has_none byte line none)))

unfed : (line : List ℕ) → NoFeed line → 0 < length line → lines_of line ≡ line ∷ []
unfolding lines_of
unfed [] none some = absurd (omega arith)
unfed (byte ∷ []) none some = let first : byte == 10 ≡ false = none 0 0 (omega arith) in rw first refl
unfed (byte ∷ other ∷ line) none some =
    let first : byte == 10 ≡ false = none 0 0 (omega arith) in
    rw first (ap (onto_first byte) (unfed (other ∷ line) (rest_has_none byte (other ∷ line) none) (omega arith)))

no_lines : lines_of [] ≡ []
unfolding lines_of
no_lines = refl

cut_lines : (bytes line rest : List ℕ) → 0 < length bytes → NoFeed line → ((bytes ≡ line ++ 10 ∷ rest) ⊎ ((bytes ≡ line) × (rest ≡ []))) → lines_of bytes ≡ line ∷ lines_of rest
cut_lines bytes line rest some none (inl is) = ap lines_of is ∙ fed line rest none
cut_lines bytes line rest some none (inr is) =
    ap lines_of is.0 ∙ unfed line none (omega (arith, some, ap length is.0)) ∙ ap (λ lines. line ∷ lines) (sym no_lines ∙ ap lines_of (sym is.1))

pub first_line : (bytes line rest : List ℕ) → 0 < length bytes → IsCut bytes line rest → lines_of bytes ≡ line ∷ lines_of rest
first_line bytes line rest some cut = cut_lines bytes line rest some cut.no_feed cut.cut

-- ---- items

pub no_items : items_of [] ≡ []
unfolding lines_of items_from
no_items = refl

pub text_over : (text : Text) → items_from (Some text) (lines_of []) ≡ a_text text ∷ items_of []
unfolding lines_of items_from
text_over text = refl

pub blank_line : (line : List ℕ) (lines : List (List ℕ)) → sort_seen line ≡ Blank → items_from None (line ∷ lines) ≡ items_from None lines
unfolding items_from
blank_line line lines is = let blank = sort_blank (is_blank line) (begins_text line) is in rw blank refl

pub from_line : (line : List ℕ) (lines : List (List ℕ)) → sort_seen line ≡ From → items_from None (line ∷ lines) ≡ items_from (Some (text_after line)) lines
unfolding items_from
from_line line lines is = let tests = sort_from (is_blank line) (begins_text line) is in rw (tests.0, tests.1) refl

pub other_line : (line : List ℕ) (lines : List (List ℕ)) → sort_seen line ≡ Other → items_from None (line ∷ lines) ≡ line_item line ∷ items_from None lines
unfolding items_from
other_line line lines is = let tests = sort_other (is_blank line) (begins_text line) is in rw (tests.0, tests.1) refl

pub send_line : (text : Text) (line : List ℕ) (lines : List (List ℕ)) → is_send line ≡ true → items_from (Some text) (line ∷ lines) ≡ a_text (sent text) ∷ items_from None lines
unfolding items_from
send_line text line lines is = rw is refl

pub text_line : (text : Text) (line : List ℕ) (lines : List (List ℕ)) → is_send line ≡ false → items_from (Some text) (line ∷ lines) ≡ items_from (Some (with_line line text)) lines
unfolding items_from
text_line text line lines is = rw is refl

-- ---- one line more

pub given_none : (bytes : List ℕ) (found : Option Found) (lines : Lines) → ((some : Found) → found ≡ Some some → ⊥) → GivesLine bytes (Ok found) lines → (bytes ≡ []) × (coming_lines lines ≡ Some [])
given_none bytes None lines none gives = gives
given_none bytes (Some found) lines none gives = absurd (none found refl)

pub given_some : (bytes : List ℕ) (given : Option Found) (found : Found) (lines : Lines) → given ≡ Some found → GivesLine bytes (Ok given) lines → IsFound bytes found lines
given_some bytes given found lines is gives = subst (λ some. GivesLine bytes (Ok some) lines) is gives

-- where the bytes to come are known
pub at_known : (known : Option (List ℕ)) (bytes : List ℕ) (given : Option Found) (lines : Lines) → known ≡ Some bytes → IfSome known (λ some. GivesLine some (Ok given) lines) → GivesLine bytes (Ok given) lines
at_known known bytes given lines is gives = subst (λ some. IfSome some (λ bytes. GivesLine bytes (Ok given) lines)) is gives

pub blank_passed : (bytes : List ℕ) (found : Found) (before lines : Lines) (same : SameItems bytes before) → IsFound same.later found lines → found.sort ≡ Blank → SameItems bytes lines
blank_passed bytes found before lines same is blank = let later = same.later in record {
  later = is.rest;
  passes = passes_on has_item has_item has_item bytes later is.rest same.passes (blank_passes later is.whole is.rest is.cut (sym is.sort ∙ blank));
  coming = is.coming;
  items = same.items ∙ ap (items_from None) (first_line later is.whole is.rest is.some is.cut) ∙ blank_line is.whole (lines_of is.rest) (sym is.sort ∙ blank);
}

pub unsent_passed : (bytes : List ℕ) (found : Found) (before after : Lines) (passed : PassesLines bytes before) (is : IsFound passed.later found after) → is_send is.whole ≡ false → PassesLines bytes after
unsent_passed bytes found before after passed is unsent = record {
  later = is.rest;
  coming = is.coming;
  passes = passes_on has_send has_send has_send bytes passed.later is.rest passed.passes (text_passes passed.later is.whole is.rest is.cut unsent);
}

pub known_line : (line bytes : List ℕ) (found : Found) (lines : Lines) (is : IsFound bytes found lines) → line ≡ lines.line → IsKnown line found.is_long is.whole
known_line line bytes found lines is same = record { long = is.is_long; same = λ short. same ∙ is.line short }

same_text : (text : Text) (held : Held) → HoldsText text held → HoldsText (sent text) held
same_text text held holds = record { has_long_line = holds.has_long_line; holds = λ short. same_parts held.is_too_long (holds.holds short) }
  where
    same_parts : (is_too_long : Bool) → Holds is_too_long text held.from_line held.bytes → Holds is_too_long (sent text) held.from_line held.bytes
    same_parts false parts = parts
    same_parts true parts = parts

pub text_sent : (begun : Text) (bytes : List ℕ) (found : Found) (before after : Lines) (held : Held) (going : Continues begun bytes before held) (is : IsFound going.later found after) → is_send is.whole ≡ true → EndsText begun bytes true after held
text_sent begun bytes found before after held going is ends = record {
  text = sent going.text;
  rest = is.rest;
  items = going.items ∙ ap (items_from (Some going.text)) (first_line going.later is.whole is.rest is.some is.cut) ∙ send_line going.text is.whole (lines_of is.rest) ends;
  sent = refl;
  holds = same_text going.text held going.holds;
  coming = is.coming;
}

pub text_ended : (begun : Text) (bytes : List ℕ) (before after : Lines) (held : Held) (going : Continues begun bytes before held) → going.later ≡ [] → coming_lines after ≡ Some [] → EndsText begun bytes false after held
text_ended begun bytes before after held going none coming = record {
  text = going.text;
  rest = [];
  items = going.items ∙ ap (λ xs. items_from (Some going.text) (lines_of xs)) none ∙ text_over going.text;
  sent = going.unsent;
  holds = going.holds;
  coming = coming;
}

pub text_goes_on : (begun : Text) (bytes : List ℕ) (found : Found) (before after : Lines) (held more : Held) (going : Continues begun bytes before held) (is : IsFound going.later found after) → is_send is.whole ≡ false → HoldsText (with_line is.whole going.text) more → Continues begun bytes after more
text_goes_on begun bytes found before after held more going is goes holds = record {
  text = with_line is.whole going.text;
  later = is.rest;
  coming = is.coming;
  items = going.items ∙ ap (items_from (Some going.text)) (first_line going.later is.whole is.rest is.some is.cut) ∙ text_line going.text is.whole (lines_of is.rest) goes;
  unsent = refl;
  holds = holds;
}
