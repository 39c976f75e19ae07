-- Messages are the same exactly if the demands agree.
use Rattle.pim_form.proofs.Words.{◌≡◌, ◌∙◌, ◌↔◌, ℕ, List, Option, sym, ap, subst, AddressFamily, OneChecksum, Demand}
use Rattle.pim_form.proofs.Words.{Agree, IsFormOf, GroupForm, form_wants, Writing, IsWriting, HaveRps, AreCanonical}
use Rattle.pim_form.proofs.OneForm.{one_form}
use Rattle.pim_form.proofs.Told.{Reads, messages_tell, one_list}

module _ (family : AddressFamily) (writing : Writing) (rps : List ℕ → Option (List ℕ)) (this that : Demand) (one other : List GroupForm) (first second : List (List ℕ))
    (is_writing : IsWriting family writing) (reads : Reads family writing.own) (sole : OneChecksum)
    (of_this : IsFormOf family this one) (of_that : IsFormOf family that other) (have_one : HaveRps family rps one) (have_other : HaveRps family rps other)
    (told_first : AreCanonical family writing rps one first) (told_second : AreCanonical family writing rps other second) where
  agree : first ≡ second → Agree family this that
  agree same =
      let reported : AreCanonical family writing rps other first = subst (AreCanonical family writing rps other) (sym same) told_second in
      let forms : one ≡ other = messages_tell family writing rps is_writing reads one other first of_this.normal of_that.normal have_one have_other told_first reported in
      λ source group tree is is_group.
      of_this.wants source group tree is is_group ∙ ap (λ (form : List GroupForm). form_wants form source group tree) forms ∙ sym (of_that.wants source group tree is is_group)

  equal : Agree family this that → first ≡ second
  equal agrees =
      let forms : one ≡ other = one_form family one other of_this.normal of_that.normal (λ source group tree is is_group.
      sym (of_this.wants source group tree is is_group) ∙ agrees source group tree is is_group ∙ of_that.wants source group tree is is_group) in
      let reported : AreCanonical family writing rps one second = subst (λ (form : List GroupForm). AreCanonical family writing rps form second) (sym forms) told_second in
      one_list family writing rps sole one first second told_first reported

  pub same_messages : (first ≡ second) ↔ Agree family this that
  same_messages = (agree, equal)
