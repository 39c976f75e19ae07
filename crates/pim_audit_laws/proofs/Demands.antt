-- What was asked for and what is demanded, if nothing is due.
use Rattle.pim_audit_laws.proofs.Words.{◌≡◌, ◌∙◌, List, [], refl, sym, ap, AddressFamily, GroupForm, rp_of}
use Rattle.pim_audit_laws.proofs.Words.{Agree, IsFormOf, form_wants, OneNormalForm, wants}
use Rattle.pim_audit_laws.proofs.Words.{Event, demanded, OneListIsDemanded, AreDue, SidesState, wanted_demand}
use Rattle.pim_audit_laws.proofs.Words.{IsOneDemand, NothingDueIsOneDemand, WithoutLocalIsDemanded, without_local}
use Rattle.pim_audit_laws.proofs.Words.{NothingDueIsOneForm, NothingDueIsOneList, OneListIsNothingDue}
use Rattle.pim_audit_laws.proofs.Words.{MessagesCarryTheForm, DemandedStarsHaveRps, HaveRps}
use Rattle.pim_form.specs.NormalForm.{Demand}

-- two normal forms of one demand are one
forms_of_one : OneNormalForm → (family : AddressFamily) (demand : Demand) (one other : List GroupForm)
    → IsFormOf family demand one → IsFormOf family demand other → one ≡ other
forms_of_one sole family demand one other is_one is_other =
    sole family one other is_one.normal is_other.normal
    (λ source group of valid is. sym (is_one.wants source group of valid is) ∙ is_other.wants source group of valid is)

agree_back : (family : AddressFamily) (one other : Demand) → Agree family one other → Agree family other one
agree_back family one other agree source group of valid is = sym (agree source group of valid is)

form_of_other : (family : AddressFamily) (one other : Demand) (form : List GroupForm) → Agree family one other
    → IsFormOf family one form → IsFormOf family other form
form_of_other family one other form agree is = record {
  normal = is.normal;
  wants = λ source group of valid is_group. sym (agree source group of valid is_group) ∙ is.wants source group of valid is_group;
}

module _ (sole : OneNormalForm) (one_form : NothingDueIsOneForm) (family : AddressFamily) (sides : SidesState)
    (entries : List Event) (due : AreDue family sides entries) where
  forms_are_one : entries ≡ [] → due.old ≡ due.new
  forms_are_one none = (one_form family due.old due.new due.of_asked.normal due.of_wanted.normal).0 (sym due.are ∙ none)

  demands_agree : entries ≡ [] → Agree family (wants sides.asked) (wanted_demand family sides)
  demands_agree none source group of valid is =
      due.of_asked.wants source group of valid is
      ∙ ap (λ (form : List GroupForm). form_wants form source group of) (forms_are_one none)
      ∙ sym (due.of_wanted.wants source group of valid is)

  is_one_demand : entries ≡ [] → IsOneDemand family sides
  is_one_demand none = record {
    agree = demands_agree none;
    forms = λ form. (
      form_of_other family (wants sides.asked) (wanted_demand family sides) form (demands_agree none),
      form_of_other family (wanted_demand family sides) (wants sides.asked) form
          (agree_back family (wants sides.asked) (wanted_demand family sides) (demands_agree none)),
    );
  }

  nothing_is_due : IsOneDemand family sides → entries ≡ []
  nothing_is_due one =
      let same : due.old ≡ due.new = sole family due.old due.new due.of_asked.normal due.of_wanted.normal
      (λ source group of valid is.
      sym (due.of_asked.wants source group of valid is) ∙ one.agree source group of valid is
      ∙ due.of_wanted.wants source group of valid is) in
      due.are ∙ (one_form family due.old due.new due.of_asked.normal due.of_wanted.normal).1 same

pub nothing_due_is_one_demand : OneNormalForm → NothingDueIsOneForm → NothingDueIsOneDemand
nothing_due_is_one_demand sole one_form family sides entries due =
    (is_one_demand sole one_form family sides entries due, nothing_is_due sole one_form family sides entries due)

pub nothing_due_is_one_list : NothingDueIsOneDemand → WithoutLocalIsDemanded → OneListIsDemanded → NothingDueIsOneList
nothing_due_is_one_list one_demand no_local one_list family writing asked state due =
    let sides : SidesState = without_local writing.upstream asked state in
    let one = (one_demand family sides [] due).0 refl in
    let agree = no_local family writing.upstream asked state in
    let wanted : Demand = wanted_demand family sides in
    let machines : Demand = demanded family writing.upstream state in
    let to = λ (form : List GroupForm) (is : IsFormOf family (wants asked) form).
    form_of_other family wanted machines form agree ((one.forms form).0 is) in
    let from = λ (form : List GroupForm) (is : IsFormOf family machines form).
    (one.forms form).1 (form_of_other family machines wanted form (agree_back family wanted machines agree) is) in
    record {
      same = λ messages. (
        λ told. record { form = told.form; is = to told.form told.is; reported = told.reported },
        λ told. record { form = told.form; is = from told.form told.is; reported = told.reported },
      );
      one = λ messages said told demanded_by. one_list family writing state messages said
          (record { form = told.form; is = to told.form told.is; reported = told.reported }) demanded_by;
    }

pub one_list_is_nothing_due : NothingDueIsOneForm → OneNormalForm → MessagesCarryTheForm → DemandedStarsHaveRps
    → WithoutLocalIsDemanded → OneListIsNothingDue
one_list_is_nothing_due one_form sole carry have no_local family writing asked state entries form messages is_writing sound due is
    have_asked reported demanded_by =
    let wanted : Demand = wanted_demand family (without_local writing.upstream asked state) in
    let machines : Demand = demanded family writing.upstream state in
    let has : HaveRps family (rp_of family state.routes) demanded_by.form =
    have family state.routes writing.upstream state.machines demanded_by.form sound demanded_by.is in
    let same : form ≡ demanded_by.form = carry family writing (rp_of family state.routes) form demanded_by.form messages
    is_writing is.normal demanded_by.is.normal have_asked has reported demanded_by.reported in
    let of_old : due.old ≡ form = forms_of_one sole family (wants asked) due.old form due.of_asked is in
    let of_new : due.new ≡ demanded_by.form = forms_of_one sole family machines due.new demanded_by.form
    (form_of_other family wanted machines due.new (no_local family writing.upstream asked state) due.of_wanted) demanded_by.is in
    due.are ∙ (one_form family due.old due.new due.of_asked.normal due.of_wanted.normal).1 (of_old ∙ same ∙ sym of_new)
