use Rattle.pim_answers.proofs.Words.{List, ℕ, ◌++◌, ◌∙◌, ap, sym, codes, subst, AppendsAll, form_fault_line, fault_line}
use Rattle.pim_answers.proofs.demanding.write_form_fault.Goals as goal

pub returns-in-TooBig-clause-bytes : goal.returns-in-TooBig-clause-bytes
returns-in-TooBig-clause-bytes g c =
    let old = g.W.Drain.contents c.args.answers.now in
    let new = g.W.Drain.contents c.write_fault.new.answers in
    subst (λ fault. AppendsAll old new c.write_fault.result (form_fault_line g.F.Family.family g.F.Family.bytes_of fault)) (sym c.in-TooBig.is)
    (subst (λ (words : List ℕ). AppendsAll old new c.write_fault.result (fault_line words))
    (c.with_name.ensures ∙ ap (λ (t : List ℕ). codes "too big " ++ t) (c.text.ensures ∙ c.address-group.ensures)) c.write_fault.ensures.bytes)
