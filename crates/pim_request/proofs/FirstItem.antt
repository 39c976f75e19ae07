-- The first item of bytes whose first line that isn't blank was found.
use Rattle.pim_request.proofs.Cited.{◌≡◌, ◌∙◌, sym, ap, refl, subst, ℕ, true, false, List, ◌∷◌, Option, Some, None, Ok}
use Rattle.pim_request.proofs.Cited.{IfSome, Found, From, Other, a_line, a_long_line, a_text, lines_of, items_from}
use Rattle.pim_request.proofs.Cited.{items_of, is_long, line_item, Reading, IsFirstItem, Lines, coming_lines, Held}
use Rattle.pim_request.proofs.Cited.{IsKnown, IsSome, IsTextItem, GivesSome, GivesTextItem, reading_seen}
use Rattle.pim_request.specs.declared.items.Item.{Item}
use Rattle.pim_request.specs.declared.items.Item.TheVariants.{Line, LongLine}
use Rattle.pim_request.proofs.Itemized.{first_line, from_line, other_line}

pub some_given : (bytes : List ℕ) (given : Option Found) (found : Found) (lines : Lines) → given ≡ Some found → GivesSome bytes (Ok given) lines → IsSome bytes found lines
some_given bytes given found lines is gives = subst (λ some. GivesSome bytes (Ok some) lines) is gives

short_item : (line : List ℕ) → is_long line ≡ false → line_item line ≡ a_line line
short_item line short = rw short refl

long_item : (line : List ℕ) → is_long line ≡ true → line_item line ≡ a_long_line
long_item line long = rw long refl

pub is_line : (bytes : List ℕ) (found : Found) (lines : Lines) (held : Held) → IsSome bytes found lines → found.sort ≡ Other → found.is_long ≡ false → IsFirstItem bytes Line (reading_seen lines held false)
is_line bytes found lines held some other short =
    let is = some.is in
    record {
      first = a_line is.whole;
      rest = is.rest;
      items = some.items ∙ ap (items_from None) (first_line some.later is.whole is.rest is.some is.cut)
          ∙ other_line is.whole (lines_of is.rest) (sym is.sort ∙ other) ∙ ap (λ item. item ∷ items_of is.rest) (short_item is.whole (sym is.is_long ∙ short));
      is = is.line short;
      coming = is.coming;
    }

pub is_long_line : (bytes : List ℕ) (found : Found) (lines : Lines) (held : Held) → IsSome bytes found lines → found.sort ≡ Other → found.is_long ≡ true → IsFirstItem bytes LongLine (reading_seen lines held false)
is_long_line bytes found lines held some other long =
    let is = some.is in
    record {
      first = a_long_line;
      rest = is.rest;
      items = some.items ∙ ap (items_from None) (first_line some.later is.whole is.rest is.some is.cut)
          ∙ other_line is.whole (lines_of is.rest) (sym is.sort ∙ other) ∙ ap (λ item. item ∷ items_of is.rest) (long_item is.whole (sym is.is_long ∙ long));
      is = tt;
      coming = is.coming;
    }

pub is_text : (bytes : List ℕ) (found : Found) (lines : Lines) (item : Item) (reading : Reading) → IsSome bytes found lines → found.sort ≡ From → IfSome (coming_lines lines) (λ later. (head : List ℕ) → IsKnown lines.line found.is_long head → GivesTextItem head later (Ok item) reading) → IsFirstItem bytes item reading
is_text bytes found lines item reading some begins gives =
    let is = some.is in
    let given = subst (λ known. IfSome known (λ later. (head : List ℕ) → IsKnown lines.line found.is_long head → GivesTextItem head later (Ok item) reading)) is.coming gives in
    let text : IsTextItem is.whole is.rest item reading = given is.whole (record { long = is.is_long; same = is.line }) in
    record {
      first = a_text text.text;
      rest = text.rest;
      items = some.items ∙ ap (items_from None) (first_line some.later is.whole is.rest is.some is.cut)
          ∙ from_line is.whole (lines_of is.rest) (sym is.sort ∙ begins) ∙ text.items;
      is = text.is;
      coming = text.coming;
    }
