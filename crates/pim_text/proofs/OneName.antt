-- A text names at most one address of either family.
use Rattle.pim_text.proofs.Words.{◌≡◌, ap, sym, subst, ℕ, List, Option, None, Some, MatchOption, IsText, OneAddress}
use Rattle.pim_text.proofs.Words.{Ipv4, Ipv6, AnyAddress, V4, V6, Names, IsUnread}
use Rattle.pim_text.proofs.Bytes.{not_both_families}

pub named_too : (text other : List ℕ) (a : AnyAddress) → text ≡ other → Names other a → Names text a
named_too text other (V4 address) same named = subst (λ (t : List ℕ). IsText Ipv4 t address) (sym same) named
named_too text other (V6 address) same named = subst (λ (t : List ℕ). IsText Ipv6 t address) (sym same) named

module _ (one : OneAddress) where
  pub one_name : (text : List ℕ) (a b : AnyAddress) → Names text a → Names text b → a ≡ b
  one_name text (V4 a) (V4 b) is too = ap V4 (one Ipv4 text a b is too)
  one_name text (V6 a) (V6 b) is too = ap V6 (one Ipv6 text a b is too)
  one_name text (V4 a) (V6 b) is too = absurd (not_both_families text a b is too)
  one_name text (V6 a) (V4 b) is too = absurd (not_both_families text b a too is)

  -- what is read of the same text is the address that it names
  pub only : (text other : List ℕ) (read : Option AnyAddress) → text ≡ other → MatchOption read (IsUnread text) (Names text) → (a : AnyAddress) → Names other a → read ≡ Some a
  only text other None same unread a named = absurd (unread a (named_too text other a same named))
  only text other (Some b) same is a named = ap Some (one_name text b a is (named_too text other a same named))
