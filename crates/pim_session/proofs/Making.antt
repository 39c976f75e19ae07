-- A router of either family: how it starts, and what is kept of it.
use Rattle.pim_session.proofs.Words.{◌≡◌, ℕ, List, [], ◌∷◌, Option, Result, Ok, Err, codes, refl, sym, ap, subst, ◌∙◌}
use Rattle.pim_session.proofs.Words.{inl, inr, AddressFamily, AppendsAll, config_faults, IsMadeUnless, RouterState}
use Rattle.pim_session.proofs.Words.{new_router, AnswerFault, Answered, AnswersKeep, fault_words, Kept, with_kept}
use Rattle.pim_session.proofs.Words.{ok_line, fault_line, setup_of, StartsIn, IsKeptFor, Gathered, serving}
use Rattle.pim_request.specs.declared.command.KeptWhat.{KeptWhat as Keeping}
use Rattle.pim_router.specs.declared.config.ConfigFault.{ConfigFault}
use Rattle.pim_answers.specs.declared.kept.AnyForm.{AnyForm}
use Rattle.pim_answers.specs.StoreSeen.{any_seen}
use Rattle.pim_session.proofs.Commanded.{answered_text}

-- ---- the start

module _ (family : AddressFamily) (gathered : Gathered) where
  started : (router : RouterState) (list : List ConfigFault) → config_faults family (setup_of gathered) ≡ list → IsMadeUnless list (new_router (setup_of gathered)) (Ok router)
      → StartsIn family gathered ok_line (serving family router)
  started router [] none made = rw none (inl (refl, ap (serving family) made))
  started router (first ∷ others) some made = absurd cc

  -- a router was made
  pub starts_made : (router : RouterState) → IsMadeUnless (config_faults family (setup_of gathered)) (new_router (setup_of gathered)) (Ok router) → StartsIn family gathered ok_line (serving family router)
  starts_made router made = started router (config_faults family (setup_of gathered)) refl made

-- ---- what is kept

module _ (family : AddressFamily) (keeping : Keeping) (router : RouterState) (kept : List Kept) where
  refused_text : (fault : AnswerFault) → IsKeptFor family keeping router kept (Err fault) → AnswersKeep family keeping router kept (fault_line (fault_words fault)) kept
  refused_text fault (inl (other, words)) = rw other (ap fault_line words, refl)
  refused_text fault (inr (inl (same, lacks, words))) = rw (same, lacks) (ap fault_line words, refl)
  refused_text fault (inr (inr (same, has, words))) = rw (same, has) (inr (ap fault_line words, refl))

  kept_text : (form : AnyForm) (after : List Kept) → IsKeptFor family keeping router kept (Ok form) → after ≡ with_kept (any_seen keeping.name.now form) kept → AnswersKeep family keeping router kept ok_line after
  kept_text form after (same, has, (demanded_form, is, seen)) holds =
      rw (same, has) (inl (demanded_form, is, (refl, holds ∙ ap (λ (one : Kept). with_kept one kept) (seen keeping.name.now))))

  unheld_text : (form : AnyForm) (words : List ℕ) → IsKeptFor family keeping router kept (Ok form) → words ≡ codes "memory" → AnswersKeep family keeping router kept (fault_line words) kept
  unheld_text form words (same, has, rest) are = rw (same, has) (inr (ap fault_line are, refl))

  module _ {A E : Type 0} (old new : Option (List ℕ)) (result : Result A E) where
    -- `keep` was refused
    pub keep_refused : (fault : AnswerFault) → IsKeptFor family keeping router kept (Err fault) → AppendsAll old new result (fault_line (fault_words fault))
        → Answered (AnswersKeep family keeping router kept) old new result (λ _. kept)
    keep_refused fault why written = answered_text (AnswersKeep family keeping router kept) old new result kept (fault_line (fault_words fault)) (refused_text fault why) written

    -- the form is kept
    pub keep_done : (form : AnyForm) (after : List Kept) → IsKeptFor family keeping router kept (Ok form) → after ≡ with_kept (any_seen keeping.name.now form) kept → AppendsAll old new result ok_line
        → Answered (AnswersKeep family keeping router kept) old new result (λ _. after)
    keep_done form after made holds written = answered_text (AnswersKeep family keeping router kept) old new result after ok_line (kept_text form after made holds) written

    -- there is no memory to keep it
    pub keep_unheld : (form : AnyForm) (words : List ℕ) (after : List Kept) → IsKeptFor family keeping router kept (Ok form) → words ≡ codes "memory" → after ≡ kept → AppendsAll old new result (fault_line words)
        → Answered (AnswersKeep family keeping router kept) old new result (λ _. after)
    keep_unheld form words after made are same written = subst (λ (k : List Kept). Answered (AnswersKeep family keeping router kept) old new result (λ _. k)) (sym same)
        (answered_text (AnswersKeep family keeping router kept) old new result kept (fault_line words) (unheld_text form words made are) written)
