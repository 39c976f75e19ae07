-- A text that leads from a prefix: where it is cut, and that it spells one row.
use Rattle.pim_files.proofs.Words.{◌≡◌, ◌∙◌, sym, ap, subst, ℕ, ◌<◌, List, ◌∷◌, ◌++◌, Option, None, Some, append_assoc, lit<}
use Rattle.pim_files.proofs.Words.{IfNone, MatchOption, digits_value, IsText, OneAddress, Row, AddressFamily, IsDecimal, Leads}
use Rattle.std.specs.Borrow.{Bor}
use Rattle.std.proofs.lemmas.Str.Pattern.{IsSplitOnceResult, split_after}
use Rattle.pim_files.proofs.RowText.{text_is_solid, decimal_text_is_solid, lacks_slash, lacks_space}

pub if_none : {A X : Type 0} (r : Option A) → X → IfNone r X
if_none None x = x
if_none (Some a) x = tt

module _ (family : AddressFamily) (text : List ℕ) where
  -- what stands behind the slash
  abbrev behind : (row : Row) → Leads family text row → List ℕ
  behind row leads = leads.length_text ++ (32 ∷ leads.to_text)

  cut_at_slash : (row : Row) (leads : Leads family text row) (r : Option (Bor (List ℕ) × Bor (List ℕ))) → IsSplitOnceResult 47 text r → MatchOption r ⊥ (λ x. (x.0.now ≡ leads.prefix_text) × (x.1.now ≡ behind row leads))
  cut_at_slash row leads r cut =
      let whole : text ≡ leads.prefix_text ++ (47 ∷ behind row leads) = leads.spelled ∙ simp append_assoc in
      split_after 47 text leads.prefix_text (behind row leads) r cut (lit< tt) whole (lacks_slash leads.prefix_text (text_is_solid family leads.prefix_text row.0.address leads.prefix))

  cut_at_space : (row : Row) (leads : Leads family text row) (rest : List ℕ) → rest ≡ behind row leads → (r : Option (Bor (List ℕ) × Bor (List ℕ))) → IsSplitOnceResult 32 rest r → MatchOption r ⊥ (λ x. (x.0.now ≡ leads.length_text) × (x.1.now ≡ leads.to_text))
  cut_at_space row leads rest same r cut =
      split_after 32 rest leads.length_text leads.to_text r cut (lit< tt) same (lacks_space leads.length_text (decimal_text_is_solid leads.length_text row.0.bits leads.bits))

  -- No row whose prefix has at most 255 bits is spelled.
  abbrev pub IsUnread : Type 0
  IsUnread = (row : Row) → Leads family text row → 255 < row.0.bits

  pub no_slash : IsSplitOnceResult 47 text None → IsUnread
  no_slash cut row leads = absurd (cut_at_slash row leads None cut)

  pub no_space : (prefix rest : Bor (List ℕ)) → IsSplitOnceResult 47 text (Some (prefix, rest)) → IsSplitOnceResult 32 rest.now None → IsUnread
  no_space prefix rest slash space row leads = absurd (cut_at_space row leads rest.now (cut_at_slash row leads (Some (prefix, rest)) slash).1 None space)

  -- Each row that the text spells is spelled by these three texts.
  abbrev pub IsCut : List ℕ → List ℕ → List ℕ → Type 0
  IsCut prefix bits to = (row : Row) (leads : Leads family text row) → (prefix ≡ leads.prefix_text) × ((bits ≡ leads.length_text) × (to ≡ leads.to_text))

  pub is_cut : (prefix rest bits to : Bor (List ℕ)) → IsSplitOnceResult 47 text (Some (prefix, rest)) → IsSplitOnceResult 32 rest.now (Some (bits, to)) → IsCut prefix.now bits.now to.now
  is_cut prefix rest bits to slash space row leads =
      let first = cut_at_slash row leads (Some (prefix, rest)) slash in
      let second = cut_at_space row leads rest.now first.1 (Some (bits, to)) space in
      (first.0, (second.0, second.1))

  pub no_prefix : (prefix bits to : List ℕ) → IsCut prefix bits to → ((address : List ℕ) → IsText family prefix address → ⊥) → IsUnread
  no_prefix prefix bits to cut unread row leads = absurd (unread row.0.address (subst (λ (t : List ℕ). IsText family t row.0.address) (sym (cut row leads).0) leads.prefix))

  pub no_length : (prefix bits to : List ℕ) → IsCut prefix bits to → ((number : ℕ) → IsDecimal bits number → 255 < number) → IsUnread
  no_length prefix bits to cut unread row leads = unread row.0.bits (subst (λ (t : List ℕ). IsDecimal t row.0.bits) (sym (cut row leads).1.0) leads.bits)

  pub no_to : (prefix bits to : List ℕ) → IsCut prefix bits to → ((address : List ℕ) → IsText family to address → ⊥) → IsUnread
  no_to prefix bits to cut unread row leads = absurd (unread row.1 (subst (λ (t : List ℕ). IsText family t row.1) (sym (cut row leads).1.1) leads.to))

  same_row : (row : Row) (bits : ℕ) (address to : List ℕ) → row.0.bits ≡ bits → row.0.address ≡ address → row.1 ≡ to → row ≡ (record { bits = bits; address = address }, to)
  same_row row bits address to b a t = λ i. (record { bits = b i; address = a i }, t i)

  pub one_row : OneAddress → (prefix bits to : List ℕ) (address leads_to : List ℕ) (number : ℕ) → IsCut prefix bits to → IsText family prefix address → IsDecimal bits number → IsText family to leads_to
      → (row : Row) → Leads family text row → row ≡ (record { bits = number; address = address }, leads_to)
  one_row one prefix bits to address leads_to number cut is_prefix is_bits is_to row leads =
      let same = cut row leads in
      same_row row number address leads_to
      (sym leads.bits.value ∙ ap (digits_value 10) (sym same.1.0) ∙ is_bits.value)
      (one family leads.prefix_text row.0.address address leads.prefix (subst (λ (t : List ℕ). IsText family t address) same.0 is_prefix))
      (one family leads.to_text row.1 leads_to leads.to (subst (λ (t : List ℕ). IsText family t leads_to) same.1.1 is_to))
