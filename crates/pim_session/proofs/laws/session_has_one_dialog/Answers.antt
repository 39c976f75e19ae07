use Rattle.pim_session.proofs.OneDialog.{laws, dialog_with_room}
use Rattle.pim_session.proofs.laws.session_has_one_dialog.Goals as goal

pub returns-clause-one : goal.returns-clause-one
returns-clause-one c = laws c.item_has_one_answer.ensures

pub returns-clause-dialog : goal.returns-clause-dialog
returns-clause-dialog c = dialog_with_room
