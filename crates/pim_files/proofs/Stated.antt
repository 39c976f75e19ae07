-- Lines that state joins: where they are cut, and that each states one join.
use Rattle.pim_files.proofs.Words.{◌≡◌, ◌∙◌, sym, ap, subst, inl, inr, ℕ, List, ◌∷◌, ◌++◌, Option, None, Some, get_or, codes, arith, lit<}
use Rattle.pim_files.proofs.Words.{append_assoc, append_cancel_left, MatchOption, IsUtf8, IsText, OneAddress, AddressFamily}
use Rattle.std.specs.Prelude.{IfNone}
use Rattle.std.specs.Borrow.{Bor}
use Rattle.std.proofs.lemmas.Str.Pattern.{IsSplitOnceResult, split_after}
use Rattle.pim_files.proofs.Words.{Bool, true, false, [], refl, false≢true, is_passed_over}
use Rattle.std.specs.Prelude.{Err}
use Rattle.pim_local.specs.Joins.{Join, IsRefusedBy, join_faults}
use Rattle.pim_local.specs.declared.fault.LocalFault.{LocalFault}
use Rattle.pim_local.specs.declared.fault.LocalFault.TheVariants.{Kind, Full, Memory}
use Rattle.pim_files.specs.LocalFile.{IsSource, IsJoin, IsWrong}
use Rattle.pim_files.specs.LocalSeen.{IsLineFault, line_fault}
use Rattle.pim_files.proofs.RowText.{text_is_solid, lacks_space, ascii_is_text, solid_is_ascii, ascii_append, AreAscii}

same_joins : (join : Join) (group : List ℕ) (source : Option (List ℕ)) → join.group ≡ group → join.source ≡ source → join ≡ record { group = group; source = source }
same_joins join group source g s = λ i. record { group = g i; source = s i }

-- what follows of no result
pub none_found : {A X Y : Type 0} (r : Option A) → (X → Y) → IfNone r X → IfNone r Y
none_found None then h = then h
none_found (Some a) then h = tt

-- ---- the text after `source`

module _ (family : AddressFamily) (text : List ℕ) where
  -- No join is stated.
  abbrev pub IsUnread : Type 0
  IsUnread = (join : Join) → IsSource family text join → ⊥

  cut_at_space : (join : Join) (is : IsSource family text join) (r : Option (Bor (List ℕ) × Bor (List ℕ))) → IsSplitOnceResult 32 text r → MatchOption r ⊥ (λ x. (x.0.now ≡ is.source_text) × (x.1.now ≡ is.group_text))
  cut_at_space join is r cut =
      let all : text ≡ is.source_text ++ (32 ∷ is.group_text) = is.spelled ∙ simp append_assoc in
      split_after 32 text is.source_text is.group_text r cut (lit< tt) all (lacks_space is.source_text (text_is_solid family is.source_text is.source is.of_source))

  pub no_space : IsSplitOnceResult 32 text None → IsUnread
  no_space cut join is = absurd (cut_at_space join is None cut)

  pub no_source : (source group : Bor (List ℕ)) → IsSplitOnceResult 32 text (Some (source, group)) → ((address : List ℕ) → IsText family source.now address → ⊥) → IsUnread
  no_source source group cut unread join is =
      unread is.source (subst (λ (t : List ℕ). IsText family t is.source) (sym (cut_at_space join is (Some (source, group)) cut).0) is.of_source)

  pub no_group : (source group : Bor (List ℕ)) → IsSplitOnceResult 32 text (Some (source, group)) → ((address : List ℕ) → IsText family group.now address → ⊥) → IsUnread
  no_group source group cut unread join is =
      unread join.group (subst (λ (t : List ℕ). IsText family t join.group) (sym (cut_at_space join is (Some (source, group)) cut).1) is.of_group)

  pub one_source : OneAddress → (source group : Bor (List ℕ)) (source_address group_address : List ℕ) → IsSplitOnceResult 32 text (Some (source, group)) → IsText family source.now source_address
      → IsText family group.now group_address → (join : Join) → IsSource family text join → join ≡ record { group = group_address; source = Some source_address }
  one_source one source group source_address group_address cut is_source is_group join is =
      let same = cut_at_space join is (Some (source, group)) cut in
      let of_source = one family source.now is.source source_address (subst (λ (t : List ℕ). IsText family t is.source) (sym same.0) is.of_source) is_source in
      let of_group = one family group.now join.group group_address (subst (λ (t : List ℕ). IsText family t join.group) (sym same.1) is.of_group) is_group in
      same_joins join group_address (Some source_address) of_group (is.one ∙ ap Some of_source)

-- ---- whole lines

join_is_text : (family : AddressFamily) (line : List ℕ) (join : Join) → IsJoin family line join → IsUtf8 line
join_is_text family line join (inl (text, spelled, is)) =
    ascii_is_text line (subst AreAscii (sym spelled)
    (ascii_append (codes "star ") text (lit< tt, (lit< tt, (lit< tt, (lit< tt, (lit< tt, tt))))) (solid_is_ascii text (text_is_solid family text join.group is.of_group))))
join_is_text family line join (inr (text, spelled, is)) =
    let S = solid_is_ascii is.source_text (text_is_solid family is.source_text is.source is.of_source) in
    let G = solid_is_ascii is.group_text (text_is_solid family is.group_text join.group is.of_group) in
    let T = subst AreAscii (sym is.spelled) (ascii_append _ _ (ascii_append _ _ S (lit< tt, tt)) G) in
    ascii_is_text line (subst AreAscii (sym spelled) (ascii_append (codes "source ") text (lit< tt, (lit< tt, (lit< tt, (lit< tt, (lit< tt, (lit< tt, (lit< tt, tt))))))) T))

module _ (family : AddressFamily) (line : List ℕ) where
  -- No join is stated.
  abbrev pub IsUnreadLine : Type 0
  IsUnreadLine = (join : Join) → IsJoin family line join → ⊥

  pub no_text : (IsUtf8 line → ⊥) → IsUnreadLine
  no_text bad join is = bad (join_is_text family line join is)

  not_both : (one other : List ℕ) → line ≡ codes "star " ++ one → line ≡ codes "source " ++ other → ⊥
  not_both one other star source = omega (arith, ap (λ (l : List ℕ). get_or l 1 0) (sym star ∙ source))

  pub unread_star : (text : List ℕ) → line ≡ codes "star " ++ text → ((address : List ℕ) → IsText family text address → ⊥) → IsUnreadLine
  unread_star text spelled unread join (inl (other, is, star)) =
      unread join.group (subst (λ (t : List ℕ). IsText family t join.group) (append_cancel_left (codes "star ") other text (sym is ∙ spelled)) star.of_group)
  unread_star text spelled unread join (inr (other, is, source)) = absurd (not_both text other spelled is)

  pub unread_source : (text : List ℕ) → line ≡ codes "source " ++ text → IsUnread family text → IsUnreadLine
  unread_source text spelled unread join (inl (other, is, star)) = absurd (not_both other text is spelled)
  unread_source text spelled unread join (inr (other, is, source)) =
      unread join (subst (λ (t : List ℕ). IsSource family t join) (append_cancel_left (codes "source ") other text (sym is ∙ spelled)) source)

  pub only_star : OneAddress → (text : List ℕ) (group : List ℕ) → line ≡ codes "star " ++ text → IsText family text group → (join : Join) → IsJoin family line join → join ≡ record { group = group; source = None }
  only_star one text group spelled is_group join (inl (other, is, star)) =
      let here = subst (λ (t : List ℕ). IsText family t join.group) (append_cancel_left (codes "star ") other text (sym is ∙ spelled)) star.of_group in
      same_joins join group None (one family text join.group group here is_group) star.all
  only_star one text group spelled is_group join (inr (other, is, source)) = absurd (not_both text other spelled is)

  pub only_source : (text : List ℕ) (held : Join) → line ≡ codes "source " ++ text → ((join : Join) → IsSource family text join → join ≡ held) → (join : Join) → IsJoin family line join → join ≡ held
  only_source text held spelled only join (inl (other, is, star)) = absurd (not_both other text is spelled)
  only_source text held spelled only join (inr (other, is, source)) =
      only join (subst (λ (t : List ℕ). IsSource family t join) (append_cancel_left (codes "source ") other text (sym is ∙ spelled)) source)

-- ---- wrong lines

is_memory : LocalFault → Bool
is_memory Memory = true
is_memory fault = false

-- what a refusal says of the faults
are_faults : (faults : List LocalFault) (fault : LocalFault) → IsRefusedBy faults (Err fault) → (fault ≡ Memory → ⊥) → faults ≡ [] → ⊥
are_faults [] fault refused apart none = apart refused
are_faults (first ∷ others) fault refused apart none = absurd (false≢true (ap is_none none))
  where
    is_none : List LocalFault → Bool
    is_none [] = true
    is_none (one ∷ more) = false

module _ (family : AddressFamily) (line : List ℕ) (joins : List Join) (held : Join) (states : is_passed_over line ≡ false) (only : (join : Join) → IsJoin family line join → join ≡ held) where
  refused_line : (fault : LocalFault) → IsRefusedBy (join_faults family held joins) (Err fault) → (fault ≡ Memory → ⊥) → IsWrong family line joins
  refused_line fault refused apart =
      (states, λ join is none. are_faults (join_faults family held joins) fault refused apart (ap (λ (j : Join). join_faults family j joins) (sym (only join is)) ∙ none))

  pub refused : (number : ℕ) (fault : LocalFault) → IsRefusedBy (join_faults family held joins) (Err fault) → IsLineFault family line number joins (line_fault number fault)
  unfolding is_memory
  refused number Memory is = tt
  refused number Kind is = (refl, refused_line Kind is (λ e. false≢true (ap is_memory e)))
  refused number Full is = (refl, refused_line Full is (λ e. false≢true (ap is_memory e)))

pub unstated_line : (family : AddressFamily) (line : List ℕ) (joins : List Join) → is_passed_over line ≡ false → IsUnreadLine family line → IsWrong family line joins
unstated_line family line joins states unread = (states, λ join is none. unread join is)
