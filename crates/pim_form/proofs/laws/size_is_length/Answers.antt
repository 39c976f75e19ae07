use Rattle.pim_form.specs.Messages.{written_message}
use Rattle.pim_form.proofs.Normal.{groups_some}
use Rattle.pim_form.proofs.Spelled.{IsPart, units_valid, is_message, part_size}
use Rattle.pim_form.proofs.laws.size_is_length.Goals as goal

pub returns : goal.returns
returns c = λ family writing rps part bytes is_writing normal have fitting sealed.
    let whole : IsPart family writing rps part = record {
      ascending = normal.ascending;
      some = groups_some family part normal.groups;
      valid = units_valid family rps part normal.groups have;
      fitting = fitting;
    } in
    let body = c.canonical_has_its_length.ensures family (written_message writing rps part) (is_message family writing rps part is_writing whole) in
    part_size family writing rps part _ bytes whole body sealed.0
