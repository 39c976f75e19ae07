use Rattle.std.proofs.Common.{◌≤◌, length, rules}
use Rattle.pim_answers.proofs.Stores.{lacking}
use Rattle.pim_answers.proofs.kept.KeptForms.lacks_place.Goals as goal

pub returns-then-len-ge-NAME_LIMIT : goal.returns-then-len-ge-NAME_LIMIT
returns-then-len-ge-NAME_LIMIT c =
    let many : 64 ≤ length c.args.self.now.entries.items = search rules in
    lacking c.args.name.now c.args.self.now.entries.items c.knows-known.result c.if-name-gt-LONGEST_NAME.false many c.knows-known.ensures
