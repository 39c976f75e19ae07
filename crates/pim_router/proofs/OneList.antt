-- What a router asks of a neighbour has one form, and so one list of messages.
use Rattle.pim_router.proofs.Words.{◌≡◌, ◌∙◌, sym, ap, subst, List, AddressFamily, OneListOfChange, rp_of, AreCanonical}
use Rattle.pim_router.proofs.Words.{GroupForm, Demand, IsFormOf}
use Rattle.pim_change.specs.Change.{change}
use Rattle.pim_change.specs.Written.{CarryChange}
use Rattle.pim_change.specs.TooBig as changed
use Rattle.pim_form.specs.Laws.{OneNormalForm, OneListOfMessages}
use Rattle.pim_form.specs.TooBig as form
use Rattle.pim_router.specs.OneList.{OneListIsDemanded, OneIsTooBig, OneListIsTheChange, OneChangeIsTooBig}

one_form : OneNormalForm → (family : AddressFamily) (demand : Demand) (one other : List GroupForm) → IsFormOf family demand one → IsFormOf family demand other → one ≡ other
one_form normal family demand one other is too =
    normal family one other is.normal too.normal
    (λ source group tree valid group_valid. sym (is.wants source group tree valid group_valid) ∙ too.wants source group tree valid group_valid)

pub one_list_is_demanded : OneNormalForm → OneListOfMessages → OneListIsDemanded
one_list_is_demanded normal list family writing state one other is too =
    let same = one_form normal family _ is.form too.form is.is too.is in
    list family writing (rp_of family state.routes) is.form one other is.reported
    (subst (λ (f : List GroupForm). AreCanonical family writing (rp_of family state.routes) f other) (sym same) too.reported)

pub one_is_too_big : OneNormalForm → OneIsTooBig
one_is_too_big normal family writing state one other is too =
    let same = one_form normal family _ is.form too.form is.is too.is in
    sym is.least ∙ (ap (form.too_big family writing.budget) same ∙ too.least)

pub one_list_is_the_change : OneNormalForm → OneListOfChange → OneListIsTheChange
one_list_is_the_change normal list family writing last state one other is too =
    let same = one_form normal family _ is.form too.form is.is too.is in
    list family writing (rp_of family state.routes) last is.form one other is.reported
    (subst (λ (f : List GroupForm). CarryChange family writing (rp_of family state.routes) last f other) (sym same) too.reported)

pub one_is_too_big_to_tell : OneNormalForm → OneChangeIsTooBig
one_is_too_big_to_tell normal family writing last state one other is too =
    let same = one_form normal family _ is.form too.form is.is too.is in
    sym is.least ∙ (ap (λ (f : List GroupForm). changed.too_big family writing.budget (change last f)) same ∙ too.least)
