-- What contracts see of the lines of a device, and what each step does; for private functions.
use Rattle.std.specs.Prelude.{◌≡◌, ◌<◌, ◌≤◌, ◌⊎◌, ◌==◌, ℕ, ◌+◌, Bool, false, List, [], ◌∷◌, ◌++◌}
use Rattle.std.specs.Prelude.{length}
use Rattle.std.specs.Prelude.{take, drop}
use Rattle.std.specs.Prelude.{⊤, Option, None, Some, Result, Ok, Err, if◌then◌else◌}
use Rattle.std.specs.Option.{IfSome}
use Rattle.std.specs.List.{All}
use Rattle.std.specs.Io.KnownBytes.{Keeps, Consumes, IsAtEnd, prepend_known}
use Rattle.pim_request.specs.declared.input.Found.{Found}
use Rattle.pim_request.specs.declared.input.Stopped.{Stopped}
use Rattle.pim_request.specs.declared.input.Stopped.TheVariants.{Output}
use Rattle.pim_request.specs.declared.sort.Sort.{Sort}
use Rattle.pim_request.specs.declared.sort.Sort.TheVariants.{Blank, From, Other}
use Rattle.pim_request.specs.Items.{line_limit, is_long, is_blank, begins_text}

-- The lines of a device.
pub record Lines : Type 0 where
  -- the line that was found last
  pub line : List ℕ
  -- the bytes that were read and belong to no line so far
  pub pending : List ℕ
  -- the bytes that the device has left, where they are known
  pub remaining : Option (List ℕ)
  -- the number of bytes that may still be read
  pub unread : ℕ
  -- the count of failures of the device
  pub failures : ℕ

-- The length of the buffer.
abbrev pub room : ℕ
room = 1048577

-- None of the bytes is a line feed.
abbrev pub NoFeed : List ℕ → Type 0
NoFeed bytes = All (λ byte. (byte == 10) ≡ false) bytes

-- The places in the buffer are in order, and none of the searched bytes is a line feed.
pub record IsSound (buffer : List ℕ) (line_start line_length start end searched : ℕ) : Type 0 where
  pub size : length buffer ≡ room
  pub line : line_start + line_length ≤ room
  pub short : line_length ≤ line_limit
  pub order : start + searched ≤ end
  pub within : end ≤ room
  pub no_feed : NoFeed (take searched (drop start buffer))

-- The bytes that belong to no line so far, where they are known.
abbrev pub coming_lines : Lines → Option (List ℕ)
coming_lines lines = prepend_known lines.pending lines.remaining

-- The number of bytes that may belong to further lines.
abbrev pub bytes_left : Lines → ℕ
bytes_left lines = lines.unread + length lines.pending

-- What a line is by its front.
abbrev pub sort_seen : List ℕ → Sort
sort_seen line = if is_blank line then Blank else if begins_text line then From else Other

-- The first line feed is at this place.
pub record IsFeedAt (place : ℕ) (bytes : List ℕ) : Type 0 where
  pub within : place < length bytes
  pub before : NoFeed (take place bytes)
  pub feed : bytes ≡ take place bytes ++ 10 ∷ drop (place + 1) bytes

-- Some bytes more were read; none only at the end of the device.
pub record GivesMore (count : ℕ) (old new : Lines) : Type 0 where
  pub more : List ℕ
  pub counted : length more ≡ count
  pub pending : new.pending ≡ old.pending ++ more
  pub within : length new.pending ≤ room
  pub remaining : Consumes old.remaining new.remaining more
  pub at_end : count ≡ 0 → IsAtEnd new.remaining
  pub unread : new.unread + count ≡ old.unread

-- The bytes are this line, and the rest after its line feed. The last line may lack it.
pub record IsCut (bytes line rest : List ℕ) : Type 0 where
  pub no_feed : NoFeed line
  pub cut : (bytes ≡ line ++ 10 ∷ rest) ⊎ ((bytes ≡ line) × (rest ≡ []))

-- A read came last, before which the answers were passed on; unless they could not be.
abbrev pub HasPassedOn : {A : Type 0} → Result A Stopped → Type 0 → Type 0
HasPassedOn (Err Output) Passed = ⊤
HasPassedOn result Passed = Passed

-- The same bytes are to come.
abbrev pub StillCome : Lines → Lines → Type 0
StillCome old new = IfSome (coming_lines old) (λ bytes. coming_lines new ≡ Some bytes)

-- The search for a line feed ended at its place, with a full buffer, or at the end of the device.
abbrev pub IsReached : Option ℕ → Lines → Type 0 → Type 0
IsReached (Some place) lines Passed = IsFeedAt place lines.pending
IsReached None lines Passed =
    NoFeed lines.pending × ((length lines.pending ≡ room) ⊎ (IsAtEnd lines.remaining × Passed))

-- The rest of a line was passed over, where these bytes were to come.
pub record IsPassed (bytes : List ℕ) (lines : Lines) : Type 0 where
  pub passed : List ℕ
  pub rest : List ℕ
  pub cut : IsCut bytes passed rest
  pub coming : coming_lines lines ≡ Some rest

-- The first line of these bytes was found.
pub record IsFound (bytes : List ℕ) (found : Found) (lines : Lines) : Type 0 where
  pub whole : List ℕ
  pub rest : List ℕ
  pub some : 0 < length bytes
  pub cut : IsCut bytes whole rest
  pub coming : coming_lines lines ≡ Some rest
  pub sort : found.sort ≡ sort_seen whole
  pub is_long : found.is_long ≡ is_long whole
  pub line : found.is_long ≡ false → lines.line ≡ whole

-- What `next_line` gives where these bytes were to come.
abbrev pub GivesLine : List ℕ → Result (Option Found) Stopped → Lines → Type 0
GivesLine bytes (Ok (Some found)) lines = IsFound bytes found lines
GivesLine bytes (Ok None) lines = (bytes ≡ []) × (coming_lines lines ≡ Some [])
GivesLine bytes (Err stopped) lines = ⊤

-- What reading does to the two devices while none fails.
pub record Proceeds {W : Type 0} (contents passed_on : W → Option (List ℕ)) (failures : W → ℕ) (old new : W) (before after : Lines) : Type 0 where
  pub reads : after.failures ≡ before.failures
  pub output : failures new ≡ failures old
  pub kept : Keeps (contents old) (contents new)
  pub passed : ((new ≡ old) × (after.unread ≡ before.unread)) ⊎ (passed_on new ≡ contents new)

-- What the loops over reads keep.
pub record KeepsOn {W : Type 0} (contents passed_on : W → Option (List ℕ)) (failures : W → ℕ) (old new : W) (before after : Lines) : Type 0 where
  pub at_once : (NoFeed before.pending → ⊥) → (after ≡ before) × (new ≡ old)
  pub coming : StillCome before after
  pub left : bytes_left after ≡ bytes_left before
  pub proceeds : Proceeds contents passed_on failures old new before after

-- A line without a line feed so far is passed over, which began with these bytes.
pub record Passing (bytes : List ℕ) (lines : Lines) : Type 0 where
  pub passed : List ℕ
  pub later : List ℕ
  pub no_feed : NoFeed passed
  pub all : bytes ≡ passed ++ later
  pub remaining : lines.remaining ≡ Some later

-- What the loop that passes over a line keeps.
pub record PassesOver {W : Type 0} (contents passed_on : W → Option (List ℕ)) (failures : W → ℕ) (old new : W) (before after : Lines) : Type 0 where
  pub passing : IfSome before.remaining (λ bytes. Passing bytes after)
  pub left : after.unread ≤ before.unread
  pub proceeds : Proceeds contents passed_on failures old new before after

-- ---- what lies whole in what was read

-- The first line of what was pending was found, with its line feed.
pub record IsTaken (pending : List ℕ) (found : Found) (lines : Lines) : Type 0 where
  pub whole : List ℕ
  pub no_feed : NoFeed whole
  pub cut : pending ≡ whole ++ 10 ∷ lines.pending
  pub sort : found.sort ≡ sort_seen whole
  pub is_long : found.is_long ≡ is_long whole
  pub line : found.is_long ≡ false → lines.line ≡ whole

-- What `next_line` gives where a line feed was pending.
abbrev pub TakesLine : List ℕ → Result (Option Found) Stopped → Lines → Type 0
TakesLine pending (Ok (Some found)) lines = IsTaken pending found lines
TakesLine pending result lines = ⊥

-- A place was found.
abbrev pub GivesPlace : Result (Option ℕ) Stopped → Type 0
GivesPlace (Ok (Some place)) = ⊤
GivesPlace result = ⊥

-- Of these bytes some were read, of which this is said, and the device has left the later ones.
pub record HasRead (bytes : List ℕ) (Said : List ℕ → Type 0) (lines : Lines) : Type 0 where
  pub read : List ℕ
  pub later : List ℕ
  pub all : bytes ≡ read ++ later
  pub said : Said read
  pub remaining : lines.remaining ≡ Some later

-- The bytes fail the test.
abbrev pub Lacks : (List ℕ → Bool) → List ℕ → Type 0
Lacks test bytes = test bytes ≡ false

-- Some of the bytes were passed over before the later ones. With them, a front of the later bytes
-- passes the first test where it passes the second one without them.
pub record Passes (first second : List ℕ → Bool) (bytes later : List ℕ) : Type 0 where
  pub passed : List ℕ
  pub all : bytes ≡ passed ++ later
  pub same : (front back : List ℕ) → later ≡ front ++ back → first (passed ++ front) ≡ second front
