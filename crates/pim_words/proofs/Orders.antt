-- A fault behind what was read well, or memory.
use Rattle.pim_words.proofs.Words.{◌≡◌, inl, inr, false, Option, None, Some, List, [], Result, Ok, Err, is_ok, is_err}
use Rattle.pim_words.proofs.Words.{if◌then◌else◌, Row, Text, CommandFault, Memory, CommandKind, time_text}
use Rattle.pim_words.proofs.Words.{IsTimed, IsTimely, Links, IsFirstWrong, AreChosenLinks, AreWrongPorts, IsWrongRun}
use Rattle.pim_words.proofs.Words.{IsWrongTrace, OrMemory, IsShown, IsWrongShown}
use Rattle.pim_time.specs.declared.reading.Time.{Time}
use Rattle.pim_words.specs.declared.shown.ShownEvents.{ShownEvents}
use Rattle.pim_words.specs.Given.{words_of}

pub or_memory : (P : CommandFault → Type 0) (fault : CommandFault) → P fault → OrMemory P fault
or_memory P Memory is = tt
or_memory P fault is = is

module _ (P Q : CommandFault → Type 0) where
  pub or_more : ((fault : CommandFault) → P fault → Q fault) → (fault : CommandFault) → OrMemory P fault → OrMemory Q fault
  or_more more Memory is = tt
  or_more more fault is = more fault is

pub timely : (given : Option Text) (time : Option Time) → IsTimed given time → IsTimely given
timely None time is = tt
timely (Some text) None is = absurd is
timely (Some text) (Some time) is = (time, is)

-- a push that wasn't refused
pub accepted : {E X : Type 0} (r : Result (Unit {0}) E) (new pushed old : X) → new ≡ (if is_ok r then pushed else old) → is_err r ≡ false → new ≡ pushed
accepted (Ok done) new pushed old same fine = same
accepted (Err error) new pushed old same fine = absurd cc

-- ---- the words of a run

module _ (command : CommandKind) (rows : List Row) where
  pub wrong_words_of : (links : Links) (fault : CommandFault) → AreChosenLinks command rows links → OrMemory (IsFirstWrong command links.is_any [] 0 (words_of rows)) fault → OrMemory (AreWrongPorts command rows) fault
  wrong_words_of links fault are is = or_more (IsFirstWrong command links.is_any [] 0 (words_of rows)) (AreWrongPorts command rows) (λ f e. inr (links, are, e)) fault is

  pub wrong_ports : (at : Option Time) (fault : CommandFault) → IsTimed (time_text rows) at → OrMemory (AreWrongPorts command rows) fault → OrMemory (IsWrongRun command rows) fault
  wrong_ports at fault timed is = or_more (AreWrongPorts command rows) (IsWrongRun command rows) (λ f e. inr (timely (time_text rows) at timed, e)) fault is

-- ---- the words of a trace or an audit

module _ (command : CommandKind) (rows : List Row) (at : Option Time) (timed : IsTimed (time_text rows) at) where
  pub wrong_shown : (fault : CommandFault) → OrMemory (IsWrongShown rows) fault → OrMemory (IsWrongTrace command rows) fault
  wrong_shown fault is = or_more (IsWrongShown rows) (IsWrongTrace command rows) (λ f e. inr (timely (time_text rows) at timed, inl e)) fault is

  pub wrong_words : (shown : ShownEvents) (fault : CommandFault) → IsShown rows shown → OrMemory (AreWrongPorts command rows) fault → OrMemory (IsWrongTrace command rows) fault
  wrong_words shown fault are is =
      or_more (AreWrongPorts command rows) (IsWrongTrace command rows) (λ f e. inr (timely (time_text rows) at timed, inr ((shown, are), e))) fault is
