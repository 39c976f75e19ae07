-- Candidates, one after another: as they are made of marks, and as they are looked at after the message.
use Rattle.pim_transitions.proofs.Words.{◌≡◌, ℕ, true, false, cond, List, [], ◌∷◌, ◌++◌, map, Option, length}
use Rattle.pim_transitions.proofs.Words.{append_assoc, append-nil, refl, sym, ap, ◌∙◌, arith, map-append, Machine}
use Rattle.pim_transitions.proofs.Words.{Record, machine_at, Event, event_seen, By, Transition, Candidate, same_machine}
use Rattle.pim_transitions.proofs.Words.{kind_by, transition_to, transitions_to, candidate_seen, transition_seen}
use Rattle.pim_transitions.proofs.Words.{is_repeated, if_last, lasts, candidate_of}
use Rattle.pim_down.specs.declared.machines.event.Event.{Event as EventOf}
use Rattle.pim_transitions.proofs.Lasts.{lasts_first}

none_long : {X : Type 0} (xs : List X) → length xs ≡ 0 → xs ≡ []
none_long [] e = refl
none_long (x ∷ xs) e = absurd (omega (arith, e))

module _ (port : ℕ) (records : List (Record (List ℕ))) where
  pub skipped : (mark : Event) (marks : List Event) (old : List (Candidate (List ℕ))) → is_repeated mark marks ≡ true → old ≡ old ++ map (candidate_of port records) (if_last mark marks)
  skipped mark marks old e = sym (append-nil old) ∙ ap (λ b. old ++ map (candidate_of port records) (cond b [] (mark ∷ []))) (sym e)

  pub added : (mark : Event) (marks : List Event) (old : List (Candidate (List ℕ))) → is_repeated mark marks ≡ false → old ++ candidate_of port records mark ∷ [] ≡ old ++ map (candidate_of port records) (if_last mark marks)
  added mark marks old e = ap (λ b. old ++ map (candidate_of port records) (cond b [] (mark ∷ []))) (sym e)

  module _ {A : Type 0} (bytes_of : A → List ℕ) where
    abbrev cands : List Event → List (Candidate (List ℕ))
    cands marks = map (candidate_of port records) marks

    abbrev seen : List (EventOf A) → List Event
    seen marks = map (event_seen bytes_of) marks

    abbrev shown : List (Candidate A) → List (Candidate (List ℕ))
    shown candidates = map (candidate_seen bytes_of) candidates

    pub one_more : (left rest : List (EventOf A)) (mark : EventOf A) (old new : List (Candidate A)) (all : List (Candidate (List ℕ))) → left ≡ mark ∷ rest
        → shown new ≡ shown old ++ cands (if_last (event_seen bytes_of mark) (seen rest)) → shown old ++ cands (lasts (seen left)) ≡ all → shown new ++ cands (lasts (seen rest)) ≡ all
    one_more left rest mark old new all split pushed reported =
        let this = if_last (event_seen bytes_of mark) (seen rest) in
        ap (λ (cs : List (Candidate (List ℕ))). cs ++ cands (lasts (seen rest))) pushed
        ∙ append_assoc (shown old) (cands this) (cands (lasts (seen rest)))
        ∙ ap (λ (cs : List (Candidate (List ℕ))). shown old ++ cs) (sym (map-append (candidate_of port records) this (lasts (seen rest))))
        ∙ ap (λ (ms : List Event). shown old ++ cands ms) (sym (lasts_first (event_seen bytes_of mark) (seen rest)))
        ∙ ap (λ (ms : List (EventOf A)). shown old ++ cands (lasts (seen ms))) (sym split)
        ∙ reported

    pub no_more : (left : List (EventOf A)) (old : List (Candidate A)) (all : List (Candidate (List ℕ))) → length left ≡ 0 → shown old ++ cands (lasts (seen left)) ≡ all → shown old ≡ all
    unfolding lasts
    no_more left old all none reported = sym (append-nil (shown old)) ∙ ap (λ (ms : List (EventOf A)). shown old ++ cands (lasts (seen ms))) (sym (none_long left none)) ∙ reported

-- ---- after the message

module _ {A : Type 0} (bytes_of : A → List ℕ) (records : List (Record (List ℕ))) where
  abbrev now_at : Candidate A → Option Machine
  now_at candidate = machine_at (candidate_seen bytes_of candidate).key records

  abbrev reported : List (Candidate A) → List (Transition (List ℕ))
  reported candidates = transitions_to records (map (candidate_seen bytes_of) candidates)

  pub same_first : (left rest : List (Candidate A)) (candidate : Candidate A) (after : Option Machine) → left ≡ candidate ∷ rest → after ≡ now_at candidate → same_machine candidate.before after ≡ true → reported left ≡ reported rest
  unfolding transitions_to
  same_first left rest candidate after split now same =
      ap reported split ∙ ap (λ b. cond b (reported rest) (transition_to (candidate_seen bytes_of candidate) (now_at candidate) ∷ reported rest)) (ap (same_machine candidate.before) (sym now) ∙ same)

  pub changed_first : (left rest : List (Candidate A)) (candidate : Candidate A) (after : Option Machine) (by : By) → left ≡ candidate ∷ rest → after ≡ now_at candidate → by ≡ kind_by candidate.joins after → same_machine candidate.before after ≡ false
      → reported left ≡ transition_seen bytes_of (record { key = candidate.key; before = candidate.before; after = after; by = by }) ∷ reported rest
  unfolding transitions_to
  changed_first left rest candidate after by split now kind apart =
      ap reported split
      ∙ ap (λ b. cond b (reported rest) (transition_to (candidate_seen bytes_of candidate) (now_at candidate) ∷ reported rest)) (ap (same_machine candidate.before) (sym now) ∙ apart)
      ∙ ap (λ (m : Option Machine). transition_to (candidate_seen bytes_of candidate) m ∷ reported rest) (sym now)
      ∙ ap (λ (k : By). transition_seen bytes_of (record { key = candidate.key; before = candidate.before; after = after; by = k }) ∷ reported rest) (sym kind)

  pub none_first : (left all : List (Candidate A)) → length left ≡ 0 → reported all ≡ reported left → reported all ≡ []
  unfolding transitions_to
  none_first left all none same = same ∙ ap reported (none_long left none)

pub none_left : (records : List (Record (List ℕ))) → transitions_to records [] ≡ []
unfolding transitions_to
none_left records = refl
