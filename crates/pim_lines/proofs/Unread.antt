-- A text that names no address of either family.
use Rattle.std.specs.Prelude.{ℕ, List}
use Rattle.pim_addr.specs.declared.family.AddressFamily.TheVariants.{Ipv4, Ipv6}
use Rattle.pim_addr.specs.TextForms.{IsText}
use Rattle.pim_lines.specs.declared.either.AnyAddress.TheVariants.{V4, V6}
use Rattle.pim_lines.specs.AnyAddress.{IsUnread}

pub unread : (text : List ℕ) → ((address : List ℕ) → IsText Ipv4 text address → ⊥) → ((address : List ℕ) → IsText Ipv6 text address → ⊥) → IsUnread text
unread text four six (V4 address) named = four address named
unread text four six (V6 address) named = six address named
