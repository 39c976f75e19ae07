-- Answers for which something holds, from their texts.
use Rattle.pim_answers.proofs.Words.{◌≡◌, ℕ, Bool, true, false, List, Option, Result, Ok, Err, codes, sym, ap, subst}
use Rattle.pim_answers.proofs.Words.{inl, inr, AppendsAll, RefusedIf, OrMemoryIf, Answered, Wrote, fault_line}

-- a text that was written
pub told_text : {A E : Type 0} (Says : List ℕ → Type 0) (old new : Option (List ℕ)) (r : Result A E) (text : List ℕ) → Says text → AppendsAll old new r text → Wrote Says old new r
told_text Says old new r text says written = record { text = text; says = says; written = written }

module _ {S : Type 0} where
  -- a text that was written, and the state after it
  pub answered_text : {A E : Type 0} (Does : List ℕ → S → Type 0) (old new : Option (List ℕ)) (r : Result A E) (after : S) (text : List ℕ) → Does text after → AppendsAll old new r text → Answered Does old new r (λ _. after)
  answered_text Does old new (Ok x) after text does written = record { text = text; does = does; written = written }
  answered_text Does old new (Err e) after text does written = record { text = text; after = after; does = does; written = written }

  -- what was answered, said otherwise
  pub answered_more : {A E : Type 0} (Does More : List ℕ → S → Type 0) (old new : Option (List ℕ)) (r : Result A E) (after : A → S) → ((text : List ℕ) (end : S) → Does text end → More text end) → Answered Does old new r after → Answered More old new r after
  answered_more Does More old new (Ok x) after more it = record { text = it.text; does = more it.text (after x) it.does; written = it.written }
  answered_more Does More old new (Err e) after more it = record { text = it.text; after = it.after; does = more it.text it.after it.does; written = it.written }

  -- a test that refuses a command
  pub refused_if : {A E : Type 0} (test : Bool) (words text : List ℕ) (state after : S) (Does : List ℕ → S → Type 0) (old new : Option (List ℕ)) (r : Result A E) → test ≡ true → text ≡ words → after ≡ state → AppendsAll old new r (fault_line text)
      → Answered (RefusedIf test words state Does) old new r (λ _. after)
  refused_if test words text state after Does old new r holds is same written =
      answered_text (RefusedIf test words state Does) old new r after (fault_line text)
      (subst (λ (b : Bool). RefusedIf b words state Does (fault_line text) after) (sym holds) (ap fault_line is, same)) written

  -- a test that lets a command pass
  pub passed_if : {A E : Type 0} (test : Bool) (words : List ℕ) (state : S) (Does : List ℕ → S → Type 0) (old new : Option (List ℕ)) (r : Result A E) (after : A → S) → test ≡ false → Answered Does old new r after
      → Answered (RefusedIf test words state Does) old new r after
  passed_if test words state Does old new r after fails it =
      subst (λ (b : Bool). Answered (RefusedIf b words state Does) old new r after) (sym fails) it

  -- memory that was refused, where it may be
  pub memory_refused : {A E : Type 0} (May : Type 0) (state after : S) (Does : List ℕ → S → Type 0) (old new : Option (List ℕ)) (r : Result A E) (text : List ℕ) → May → after ≡ state → text ≡ codes "memory" → AppendsAll old new r (fault_line text)
      → Answered (OrMemoryIf May state Does) old new r (λ _. after)
  memory_refused May state after Does old new r text may same is written =
      answered_text (OrMemoryIf May state Does) old new r after (fault_line text) (inr (may, ap fault_line is, same)) written

  -- what was done, where memory might have been refused
  pub memory_given : {A E : Type 0} (May : Type 0) (state : S) (Does : List ℕ → S → Type 0) (old new : Option (List ℕ)) (r : Result A E) (after : S) (text : List ℕ) → Does text after → AppendsAll old new r text → Answered (OrMemoryIf May state Does) old new r (λ _. after)
  memory_given May state Does old new r after text does written = answered_text (OrMemoryIf May state Does) old new r after text (inl does) written
