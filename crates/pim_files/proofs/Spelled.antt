-- The row of a line, behind the word that begins it.
use Rattle.pim_files.proofs.Words.{◌≡◌, ◌∙◌, sym, ap, subst, ℕ, ◌<◌, List, ◌++◌, get_or, codes, arith, IsUtf8}
use Rattle.pim_files.proofs.Words.{append_cancel_left, Row, AddressFamily, FileRow, Rp, Via, Leads, IsRow, bits_of}
use Rattle.std.specs.Str.Pattern.{FindsTextPrefix, StripsPrefix}
use Rattle.pim_files.proofs.RowText.{row_is_text}
use Rattle.pim_files.proofs.Led.{IsUnread}

-- a text whose front was taken off
pub stripped : (front line led : List ℕ) → StripsPrefix (FindsTextPrefix front) line led → line ≡ front ++ led
stripped front line led (count, finds, is, long) = finds.1 ∙ ap (λ (l : List ℕ). front ++ l) (sym is)

module _ (family : AddressFamily) (line : List ℕ) where
  -- No row whose prefix has at most 255 bits is spelled.
  abbrev pub IsUnreadLine : Type 0
  IsUnreadLine = (row : FileRow Row) → IsRow family line row → 255 < bits_of row

  pub no_text : (IsUtf8 line → ⊥) → IsUnreadLine
  no_text bad row is = absurd (bad (row_is_text family line row is))

  not_both : (one other : List ℕ) → line ≡ codes "rp " ++ one → line ≡ codes "via " ++ other → ⊥
  not_both one other rp via = omega (arith, ap (λ (l : List ℕ). get_or l 0 0) (sym rp ∙ via))

  pub unread_rp : (led : List ℕ) → line ≡ codes "rp " ++ led → IsUnread family led → IsUnreadLine
  unread_rp led spelled unread (Rp row) (text, is, leads) =
      unread row (subst (λ (t : List ℕ). Leads family t row) (append_cancel_left (codes "rp ") text led (sym is ∙ spelled)) leads)
  unread_rp led spelled unread (Via row) (text, is, leads) = absurd (not_both led text spelled is)

  pub unread_via : (led : List ℕ) → line ≡ codes "via " ++ led → IsUnread family led → IsUnreadLine
  unread_via led spelled unread (Via row) (text, is, leads) =
      unread row (subst (λ (t : List ℕ). Leads family t row) (append_cancel_left (codes "via ") text led (sym is ∙ spelled)) leads)
  unread_via led spelled unread (Rp row) (text, is, leads) = absurd (not_both text led is spelled)

  pub only_rp : (led : List ℕ) (held : Row) → line ≡ codes "rp " ++ led → ((row : Row) → Leads family led row → row ≡ held) → (other : FileRow Row) → IsRow family line other → other ≡ Rp held
  only_rp led held spelled only (Rp row) (text, is, leads) =
      ap Rp (only row (subst (λ (t : List ℕ). Leads family t row) (append_cancel_left (codes "rp ") text led (sym is ∙ spelled)) leads))
  only_rp led held spelled only (Via row) (text, is, leads) = absurd (not_both led text spelled is)

  pub only_via : (led : List ℕ) (held : Row) → line ≡ codes "via " ++ led → ((row : Row) → Leads family led row → row ≡ held) → (other : FileRow Row) → IsRow family line other → other ≡ Via held
  only_via led held spelled only (Via row) (text, is, leads) =
      ap Via (only row (subst (λ (t : List ℕ). Leads family t row) (append_cancel_left (codes "via ") text led (sym is ∙ spelled)) leads))
  only_via led held spelled only (Rp row) (text, is, leads) = absurd (not_both text led is spelled)
