use Rattle.pim_form.proofs.Words.{◌∙◌, ◌||◌, sym}
use Rattle.pim_form.proofs.Merged.{merged_normal, merged_wants}
use Rattle.pim_form.proofs.toward_laws.merge_is_the_form_of_either.Goals as goal

pub returns : goal.returns
returns c = λ family one other first second is_first is_second. record {
  normal = merged_normal family first second is_first.normal is_second.normal;
  wants = λ source group tree valid is_group.
      (λ i. is_first.wants source group tree valid is_group i || is_second.wants source group tree valid is_group i)
      ∙ sym (merged_wants first second source group tree);
}
