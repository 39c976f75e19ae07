-- A sound state has canonical messages exactly if no star of what it asks is too big.
use Rattle.pim_mirror.proofs.Words.{◌≡◌, ◌∙◌, ℕ, List, None, sym, ap, RouteTable, rp_of, AddressFamily, Downstream}
use Rattle.pim_mirror.proofs.Words.{OneNormalForm, MessagesAreThereUnlessTooBig, Writing, IsWriting, GroupForm}
use Rattle.pim_mirror.proofs.Words.{IsFormOf, demand_toward, AreMessagesOf, StateHasMessagesUnlessTooBig}
use Rattle.pim_form.specs.Demanded.{DemandedFormIsDemanded, demanded_form}
use Rattle.pim_form.specs.TooBig.{too_big}

module _ (sole : OneNormalForm) (there : MessagesAreThereUnlessTooBig) (family : AddressFamily) (table : RouteTable) (writing : Writing) (state : Downstream) (is_writing : IsWriting family writing) where
  none_too_big : (messages : List (List ℕ)) → AreMessagesOf family table writing state messages → (form : List GroupForm) → IsFormOf family (demand_toward family table writing.upstream state) form
      → too_big family writing.budget form ≡ None
  none_too_big messages demanded form is =
      let same : form ≡ demanded.form = sole family form demanded.form is.normal demanded.is.normal
      (λ source group tree valid valid_group. sym (is.wants source group tree valid valid_group) ∙ demanded.is.wants source group tree valid valid_group) in
      ap (too_big family writing.budget) same ∙ (there family writing (rp_of family table) demanded.form is_writing demanded.is.normal).0 (messages, demanded.reported)

pub state_has_messages : DemandedFormIsDemanded → OneNormalForm → MessagesAreThereUnlessTooBig → StateHasMessagesUnlessTooBig
state_has_messages are sole there family table writing state is_writing sound = (
  λ demanded. none_too_big sole there family table writing state is_writing demanded.0 demanded.1,
  λ fitting.
      let form = demanded_form family table writing.upstream state in
      let is = (are family table writing.upstream state sound).is in
      let reported = (there family writing (rp_of family table) form is_writing is.normal).1 (fitting form is) in
      (reported.0, record { form = form; is = is; reported = reported.1 }),
)
