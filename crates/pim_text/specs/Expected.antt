-- What the lines of a text so far ask for: the steps by which a text is read.
use Rattle.std.specs.Prelude.{◌≡◌, ℕ, zero, suc, Bool, true, false, List, [], ◌∷◌, Option, Some, None, if◌then◌else◌, nat_le, MatchOption, ◌&&◌}
use Rattle.pim_text.specs.declared.line.Line.{Line}
use Rattle.pim_text.specs.declared.line.Line.TheVariants.{Hello, Holdtime, Delays, Priority, Generation, Secondary, Head, Set, Join, Prune}
use Rattle.pim_text.specs.declared.line.LineStep.{LineStep}
use Rattle.pim_text.specs.declared.line.TextProgress.{TextProgress}
use Rattle.pim_text.specs.Lines.{IsLine}
use Rattle.pim_text.specs.Families.{line_is_in}
use Rattle.pim_addr.specs.declared.family.AddressFamily.TheVariants.{Ipv4, Ipv6}
use Rattle.pim_text.specs.declared.line.Expected.{Expected}
use Rattle.pim_text.specs.declared.line.Expected.TheVariants.{Message, Options}
use Rattle.pim_text.specs.declared.line.Expected.TheVariants.{Body as OfBody}

-- An option of this place in a Hello, where options from the place `from` on are asked for.
abbrev pub option_after : ℕ → ℕ → ℕ → Option Expected
option_after from place next = if nat_le from place then Some (Options next) else None

-- What is asked for after a line of a Hello.
abbrev pub after_option : ℕ → Line → Option Expected
after_option from (Holdtime seconds) = option_after from 0 1
after_option from (Delays delays) = option_after from 1 2
after_option from (Priority number) = option_after from 2 3
after_option from (Generation number) = option_after from 3 4
after_option from (Secondary address) = Some (Options 4)
after_option from line = None

-- The line may follow `hello`.
abbrev pub is_option : Line → Bool
is_option (Holdtime seconds) = true
is_option (Delays delays) = true
is_option (Priority number) = true
is_option (Generation number) = true
is_option (Secondary address) = true
is_option line = false

-- What is asked for after a line of a Join/Prune message.
abbrev pub after_body : ℕ → ℕ → ℕ → Line → Option Expected
after_body (suc joined) pruned sets (Join entry) = Some (OfBody (record { joined = joined; pruned = pruned; sets = sets }))
after_body zero (suc pruned) sets (Prune entry) = Some (OfBody (record { joined = 0; pruned = pruned; sets = sets }))
after_body zero zero (suc sets) (Set s) = Some (OfBody (record { joined = s.joined; pruned = s.pruned; sets = sets }))
after_body joined pruned sets line = None

-- What is asked for after this line; `None` where it isn't asked for.
abbrev pub after : Expected → Line → Option Expected
after Message Hello = Some (Options 0)
after Message (Head h) = Some (OfBody (record { joined = 0; pruned = 0; sets = h.sets }))
after Message line = None
after (Options from) line = after_option from line
after (OfBody body) line = after_body body.joined body.pruned body.sets line

-- What follows where something is asked for.
abbrev pub onward : Option Expected → (Expected → Option Expected) → Option Expected
onward None follow = None
onward (Some expected) follow = follow expected

-- What is asked for after these lines.
abbrev pub after_all : Expected → List Line → Option Expected
after_all expected [] = Some expected
after_all expected (line ∷ others) = onward (after expected line) (λ next. after_all next others)

-- Neither an entry nor a set is left.
abbrev pub ends : ℕ → ℕ → ℕ → Bool
ends zero zero zero = true
ends joined pruned sets = false

-- Nothing more is needed.
abbrev pub is_whole : Expected → Bool
is_whole Message = false
is_whole (Options from) = true
is_whole (OfBody body) = ends body.joined body.pruned body.sets

-- The lines so far are those of a Hello.
abbrev pub expects_options : Expected → Bool
expects_options (Options from) = true
expects_options expected = false

-- The text is the line of the step, which is asked for and leads to the next.
abbrev pub IsStep : Expected → List ℕ → LineStep → Type 0
IsStep expected text step = IsLine step.line text × (after expected step.line ≡ Some step.next)

-- No other line that is asked for has this text, and none has it where nothing was read.
abbrev pub OnlyStep : Expected → List ℕ → Option LineStep → Type 0
OnlyStep expected text read = (line : Line) (next : Expected) → after expected line ≡ Some next → IsLine line text
    → MatchOption read ⊥ (λ step. step.line ≡ line)

-- What reading one line more did: this text is the one line that is asked for.
pub record Advanced (old : TextProgress) (text : List ℕ) (new : TextProgress) : Type 0 where
  pub line : Line
  pub is : IsLine line text
  pub expects : after old.expected line ≡ Some new.expected
  pub only : (other : Line) (next : Expected) → after old.expected other ≡ Some next → IsLine other text → line ≡ other
  pub ipv4 : new.all_ipv4 ≡ (old.all_ipv4 && line_is_in Ipv4 line)
  pub ipv6 : new.all_ipv6 ≡ (old.all_ipv6 && line_is_in Ipv6 line)

-- The text is no line that is asked for.
abbrev pub IsUnexpected : Expected → List ℕ → Type 0
IsUnexpected expected text = (line : Line) (next : Expected) → after expected line ≡ Some next → IsLine line text → ⊥
