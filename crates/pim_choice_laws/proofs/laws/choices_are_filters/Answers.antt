use Rattle.pim_choice_laws.proofs.Filters.{choices_are_filters}
use Rattle.pim_choice_laws.proofs.laws.choices_are_filters.Goals as goal

pub returns : goal.returns
returns c = choices_are_filters
