-- What is written of events, where the device took all of it or a front.
use Rattle.pim_trace.proofs.Words.{ℕ, List, [], ◌∷◌, ◌++◌, Option, sym, subst, append-nil, flat_map, Appends}
use Rattle.pim_trace.proofs.Words.{Appends-nil, Appends-trans, AppendsFront, Occurrence, Wrote, WroteFront}
use Rattle.std.proofs.lemmas.Grind.{flat_map-append}
use Rattle.pim_trace.proofs.Written.{front-longer, front-more}
use Rattle.pim_trace.proofs.Writing.{all-is-front}

module _ (line : Occurrence → List ℕ) where
  -- nothing was written of no events
  pub none_told : (old : Option (List ℕ)) → Wrote line old old []
  none_told old = Appends-nil old

  -- the line of one event
  pub one_told : (old new : Option (List ℕ)) (event : Occurrence) → Appends old new (line event) → Wrote line old new (event ∷ [])
  one_told old new event p = subst (λ (text : List ℕ). Appends old new text) (sym (append-nil (line event))) p

  pub one_begun : (old new : Option (List ℕ)) (event : Occurrence) → AppendsFront old new (line event) → WroteFront line old new (event ∷ [])
  one_begun old new event p = subst (λ (text : List ℕ). AppendsFront old new text) (sym (append-nil (line event))) p

  -- all of what is written of events is a front of it
  pub all_told : (old new : Option (List ℕ)) (events : List Occurrence) → Wrote line old new events → WroteFront line old new events
  all_told old new events p = all-is-front old new (flat_map line events) p

  -- some events, and then others
  pub happens_then : (old mid new : Option (List ℕ)) (one more : List Occurrence) → Wrote line old mid one → Wrote line mid new more → Wrote line old new (one ++ more)
  happens_then old mid new one more p q =
      subst (λ (text : List ℕ). Appends old new text) (sym (flat_map-append line one more)) (Appends-trans old mid new (flat_map line one) (flat_map line more) p q)

  pub told_begun : (old mid new : Option (List ℕ)) (one more : List Occurrence) → Wrote line old mid one → WroteFront line mid new more → WroteFront line old new (one ++ more)
  told_begun old mid new one more p q =
      subst (λ (text : List ℕ). AppendsFront old new text) (sym (flat_map-append line one more)) (front-more old mid new (flat_map line one) (flat_map line more) p q)

  -- nothing behind the first events was written
  pub begun_longer : (old new : Option (List ℕ)) (one more : List Occurrence) → WroteFront line old new one → WroteFront line old new (one ++ more)
  begun_longer old new one more p =
      subst (λ (text : List ℕ). AppendsFront old new text) (sym (flat_map-append line one more)) (front-longer old new (flat_map line one) (flat_map line more) p)
