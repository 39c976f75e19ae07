-- What an item asks for, by what is held of it.
use Rattle.pim_session.proofs.Words.{◌≡◌, ℕ, ◌<◌, ◌≤◌, Bool, true, false, List, length, codes, Result, Ok, Err, sym, ap}
use Rattle.pim_session.proofs.Words.{subst, ◌∙◌, inl, inr, IsRead, Sender, WordsFault, StatesSender, IsSenderFault}
use Rattle.pim_session.proofs.Words.{Text, Item, a_line, a_long_line, a_text, bytes_of_lines, has_long_line, text_limit}
use Rattle.pim_session.proofs.Words.{Reading, Holds, IsText, IsItem, Request, Command, From, long_line_words}
use Rattle.pim_session.proofs.Words.{wrong_words, RequestsLine, RequestsText, Requests, RequestsFrom}
use Rattle.pim_request.specs.declared.items.Item.TheVariants.{Line, LongLine, Text as TextOf}
use Rattle.pim_request.specs.declared.items.TextItem.{TextItem}

-- ---- what is held

pub all_held : (is_too_long : Bool) (text : Text) (from_line bytes : List ℕ) → Holds is_too_long text from_line bytes → is_too_long ≡ false → (from_line ≡ text.head) × (bytes ≡ bytes_of_lines text.lines)
all_held false text from_line bytes holds short = (holds.0, holds.1)
all_held true text from_line bytes holds short = absurd cc

head_held : (is_too_long : Bool) (text : Text) (from_line bytes : List ℕ) → Holds is_too_long text from_line bytes → from_line ≡ text.head
head_held false text from_line bytes holds = holds.0
head_held true text from_line bytes holds = holds.0

long_held : (is_too_long : Bool) (text : Text) (from_line bytes : List ℕ) → Holds is_too_long text from_line bytes → is_too_long ≡ true → text_limit < length (bytes_of_lines text.lines)
long_held false text from_line bytes holds long = absurd cc
long_held true text from_line bytes holds long = holds.1

-- ---- a text with a fault

module _ (text : Text) (is_too_long : Bool) (from_line line bytes : List ℕ) (holds : Holds is_too_long text from_line bytes) (same : line ≡ from_line) where
  pub words_asked : (fault : WordsFault) (words : List ℕ) → IsSenderFault line fault → words ≡ wrong_words fault → RequestsText text (Err words)
  words_asked fault words wrong is = inl (fault, subst (λ (l : List ℕ). IsSenderFault l fault) (same ∙ head_held is_too_long text from_line bytes holds) wrong, is)

  pub long_asked_text : (sender : Sender) (words : List ℕ) → StatesSender line sender → is_too_long ≡ true → words ≡ codes "text too-long" → RequestsText text (Err words)
  long_asked_text sender words states long is =
      inr (sender, subst (λ (l : List ℕ). StatesSender l sender) (same ∙ head_held is_too_long text from_line bytes holds) states, inl (long_held is_too_long text from_line bytes holds long, is))

-- ---- a held text

pub from_asked : (text : Text) (sender : Sender) (bytes : List ℕ) (is_sent : Bool) (requested : Result Request (List ℕ)) → StatesSender text.head sender → bytes ≡ bytes_of_lines text.lines → length bytes ≤ text_limit → is_sent ≡ text.is_sent
    → RequestsFrom sender bytes is_sent requested → RequestsText text requested
from_asked text sender bytes is_sent (Ok (Command command)) states is short same requests = absurd requests
from_asked text sender bytes is_sent (Ok (From from)) states is short same requests =
    record {
      sender = subst (StatesSender text.head) (sym requests.0) states;
      is_sent = sym same ∙ requests.2;
      bytes = requests.1 ∙ is;
      short = subst (λ (l : List ℕ). length l ≤ text_limit) (sym requests.1) short;
      stated = subst (λ (l : List ℕ). IsRead l from.stated) (sym requests.1) requests.3;
    }
from_asked text sender bytes is_sent (Err words) states is short same requests =
    let limit : length (bytes_of_lines text.lines) ≤ text_limit = subst (λ (l : List ℕ). length l ≤ text_limit) is short in
    inr (sender, states, inr (limit, rw (sym is, sym same) requests))

-- ---- items

pub line_asked : (some : Item) (reading : Reading) (requested : Result Request (List ℕ)) → IsItem some Line reading → RequestsLine reading.line requested → Requests some requested
line_asked (a_line line) reading requested is requests = subst (λ (l : List ℕ). RequestsLine l requested) is requests
line_asked a_long_line reading requested is requests = absurd is
line_asked (a_text text) reading requested is requests = absurd is

pub long_asked : (some : Item) (reading : Reading) (words : List ℕ) → IsItem some LongLine reading → words ≡ long_line_words → Requests some (Err words)
long_asked (a_line line) reading words is same = absurd is
long_asked a_long_line reading words is same = ap Err same
long_asked (a_text text) reading words is same = absurd is

pub long_text_asked : (some : Item) (item : TextItem) (reading : Reading) (words : List ℕ) → IsItem some (TextOf item) reading → item.has_long_line ≡ true → words ≡ long_line_words → Requests some (Err words)
long_text_asked (a_line line) item reading words is long same = absurd is
long_text_asked a_long_line item reading words is long same = absurd is
long_text_asked (a_text text) item reading words is long same =
    let s : has_long_line text ≡ true = sym is.has_long_line ∙ long in rw s (ap Err same)

pub text_asked : (some : Item) (item : TextItem) (reading : Reading) (requested : Result Request (List ℕ)) → IsItem some (TextOf item) reading → item.has_long_line ≡ false
    → ((text : Text) → IsText text item reading → has_long_line text ≡ false → RequestsText text requested) → Requests some requested
text_asked (a_line line) item reading requested is short requests = absurd is
text_asked a_long_line item reading requested is short requests = absurd is
text_asked (a_text text) item reading requested is short requests =
    let s : has_long_line text ≡ false = sym is.has_long_line ∙ short in rw s (requests text is s)
