-- A merge has one end.
use Rattle.pim_merge.proofs.Words.{◌≡◌, ◌∙◌, ◌∷◌, [], ℕ, List, Option, None, Some, refl, sym, ap, subst, CaptureFault}
use Rattle.pim_merge.proofs.Words.{EventSeen, Answer, Time, Clock, Taken, IsMerge, IsMergeBy, ending, fails, takes}
use Rattle.pim_merge.proofs.Words.{clock_after, moment_of, event_time, after_turn}

takes_capture : (c d : ℕ) (t u : EventSeen) → takes c t ≡ takes d u → c ≡ d
takes_capture c d t u same = cc

takes_told : (c d : ℕ) (t u : EventSeen) → takes c t ≡ takes d u → t ≡ u
takes_told c d t u same = cc

fails_capture : (n m : ℕ) (f g : CaptureFault) → fails n f ≡ fails m g → n ≡ m
fails_capture n m f g same = cc

fails_fault : (n m : ℕ) (f g : CaptureFault) → fails n f ≡ fails m g → f ≡ g
fails_fault n m f g same = cc

same_ending : (fault reported : Option (ℕ × CaptureFault)) → ending fault ≡ ending reported → fault ≡ reported
same_ending None None same = refl
same_ending None (Some (m, g)) same = absurd cc
same_ending (Some (n, f)) None same = absurd cc
same_ending (Some (n, f)) (Some (m, g)) same = ap (λ k. Some (k, f)) (fails_capture n m f g same) ∙ ap (λ h. Some (m, h)) (fails_fault n m f g same)

ends_or_takes : (fault : Option (ℕ × CaptureFault)) (c : ℕ) (t : EventSeen) → ending fault ≡ takes c t → ⊥
ends_or_takes None c t same = cc
ends_or_takes (Some (n, f)) c t same = cc

made : ℕ → ℕ → EventSeen → Taken
made c m t = record { capture = c; moment = m; reported = t }

same_taken : (a b : Taken) → a.capture ≡ b.capture → a.moment ≡ b.moment → a.reported ≡ b.reported → a ≡ b
unfolding made
same_taken a b capture moment reported =
    ap (λ c. made c a.moment a.reported) capture ∙ (ap (λ m. made b.capture m a.reported) moment ∙ ap (λ t. made b.capture b.moment t) reported)

pub one_end_by : (last : Option Time) (clock : Option Clock) (captures : List (List Answer)) (taken other : List Taken) (fault reported : Option (ℕ × CaptureFault))
    → IsMergeBy last clock captures taken fault → IsMergeBy last clock captures other reported → (taken ≡ other) × (fault ≡ reported)
unfolding IsMergeBy
one_end_by last clock captures [] [] fault reported a b = (refl, same_ending fault reported (sym a ∙ b))
one_end_by last clock captures [] (second ∷ seconds) fault reported a b = absurd (ends_or_takes fault second.capture second.reported (sym a ∙ b.0))
one_end_by last clock captures (first ∷ firsts) [] fault reported a b = absurd (ends_or_takes reported first.capture first.reported (sym b ∙ a.0))
one_end_by last clock captures (first ∷ firsts) (second ∷ seconds) fault reported a b =
    let capture = takes_capture first.capture second.capture first.reported second.reported (sym a.0 ∙ b.0) in
    let same = takes_told first.capture second.capture first.reported second.reported (sym a.0 ∙ b.0) in
    let moment = a.1 ∙ (ap (λ t. moment_of (clock_after clock (event_time t))) same ∙ sym b.1) in
    let rest = one_end_by last (clock_after clock (event_time second.reported)) (after_turn second.capture captures) firsts seconds fault reported
    (subst (λ t. IsMergeBy last (clock_after clock (event_time t)) (after_turn second.capture captures) firsts fault) same
    (subst (λ c. IsMergeBy last (clock_after clock (event_time first.reported)) (after_turn c captures) firsts fault) capture a.2)) b.2 in
    (ap (λ t. t ∷ firsts) (same_taken first second capture moment same) ∙ ap (λ l. second ∷ l) rest.0, rest.1)

-- a merge without such a time
without_last : (clock : Option Clock) (captures : List (List Answer)) (taken : List Taken) (fault : Option (ℕ × CaptureFault)) → IsMerge clock captures taken fault → IsMergeBy None clock captures taken fault
unfolding IsMerge IsMergeBy
without_last clock captures [] fault is = is
without_last clock captures (first ∷ others) fault (one, at, more) =
    (one, at, without_last (clock_after clock (event_time first.reported)) (after_turn first.capture captures) others fault more)

pub one_end : (clock : Option Clock) (captures : List (List Answer)) (taken other : List Taken) (fault reported : Option (ℕ × CaptureFault))
    → IsMerge clock captures taken fault → IsMerge clock captures other reported → (taken ≡ other) × (fault ≡ reported)
one_end clock captures taken other fault reported a b =
    one_end_by None clock captures taken other fault reported (without_last clock captures taken fault a) (without_last clock captures other reported b)
