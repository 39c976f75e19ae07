-- Which message a text states, and which of its lines is wrong.
use Rattle.std.specs.Prelude.{◌≡◌, ◌≤◌, ◌⊎◌, ℕ, suc, Bool, true, false, List, ◌++◌, length, take}
use Rattle.pim_addr.specs.declared.family.AddressFamily.TheVariants.{Ipv4, Ipv6}
use Rattle.pim_text.specs.declared.line.Stated.{Stated}
use Rattle.pim_text.specs.Value.{TextValue, a_hello, a_message, value_lines}
use Rattle.pim_text.specs.Families.{value_is_in}
use Rattle.pim_text.specs.Lines.{lines, AreLines}

-- The text states this message: its lines, in order, and nothing else.
abbrev pub States : List ℕ → TextValue → Type 0
States text value = AreLines (value_lines value) (lines text)

-- These lines, as they stand, begin the text of some message.
pub record Begin (front : List (List ℕ)) : Type 0 where
  pub value : TextValue
  pub behind : List (List ℕ)
  pub are : AreLines (value_lines value) (front ++ behind)

-- The line with this number, from 1, is the first wrong one. The lines before it begin the text of
-- a message, and with it they begin none. Or the text ends too early, and this is the number of the
-- missing line.
pub record IsWrongLine (text : List ℕ) (number : ℕ) : Type 0 where
  pub before : ℕ
  pub numbered : number ≡ suc before
  pub within : before ≤ length (lines text)
  pub begun : Begin (take before (lines text))
  pub wrong : (Begin (take number (lines text)) → ⊥)
      ⊎ ((before ≡ length (lines text)) × ((value : TextValue) → States text value → ⊥))

-- The message is a Hello.
abbrev pub is_hello : TextValue → Bool
is_hello (a_hello hello) = true
is_hello (a_message message) = false

-- The text states a message, and no other. Its kind and the families of its addresses are these.
pub record IsRead (text : List ℕ) (stated : Stated) : Type 0 where
  pub value : TextValue
  pub states : States text value
  pub only : (other : TextValue) → States text other → other ≡ value
  pub kind : stated.is_hello ≡ is_hello value
  pub ipv4 : stated.all_ipv4 ≡ value_is_in Ipv4 value
  pub ipv6 : stated.all_ipv6 ≡ value_is_in Ipv6 value
