-- The candidates that differ after a message are the machines that it changed.
use Rattle.std.proofs.Common.{◌≡◌, ℕ, Bool, true, false, cond, ◌&&◌, ◌||◌, ◌==◌, nat_eq, List, [], ◌∷◌, Option, None, Some, eqb-true, eq-eqb, refl, sym, ap, subst, ◌∙◌, arith}
use Rattle.std.specs.Option.{option_eq}
use Rattle.pim_transitions.proofs.Words.{Less, AllByRecursion, IsStrictlySortedBy, false≢true, Key, State, Machine, Record}
use Rattle.pim_transitions.proofs.Words.{key_cmp, same_key, machine_at, Start, is_rpt_on, hearing, heard_at, at_end}
use Rattle.pim_transitions.proofs.Words.{KeysAreDistinct, HearingActsAtEachKey, Transition, Candidate, number_of, caused_by}
use Rattle.pim_transitions.proofs.Words.{IsTransition, has_transition, keys_of_transitions, joins_after, is_reached, is_affected}
use Rattle.pim_transitions.proofs.Words.{keys_affected, IsCandidate, same_bool, same_pending, same_held, same_machine, kind_by}
use Rattle.pim_transitions.proofs.Words.{transition_to, transitions_to, CandidatesShowTransitions}
use Rattle.pim_down.specs.declared.machines.machine.State.TheVariants as state
use Rattle.pim_down.specs.declared.machines.machine.Pending.{Pending}
use Rattle.pim_transitions.proofs.Effects.{by_test, and_true, same_keys, quiet, end_quiet}
use Rattle.pim_transitions.proofs.Causes.{plain_kind, rpt_kind_is}

-- ---- machines that compare as the same

same_bool_is : (a b : Bool) → same_bool a b ≡ true → a ≡ b
same_bool_is true true e = refl
same_bool_is true false e = absurd (false≢true e)
same_bool_is false true e = absurd (false≢true e)
same_bool_is false false e = refl

same_bool_itself : (a : Bool) → same_bool a a ≡ true
same_bool_itself true = refl
same_bool_itself false = refl

same_pending_is : (a b : Pending) → same_pending a b ≡ true → a ≡ b
same_pending_is a b e =
    let parts = and_true (a.ends_in == b.ends_in) (same_bool a.several b.several) e in
    let ends = eqb-true a.ends_in b.ends_in parts.0 in
    let marks = same_bool_is a.several b.several parts.1 in
    λ i. record { ends_in = ends i; several = marks i }

module _ {X : Type 0} (test : X → X → Bool) where
  option_is : ((a b : X) → test a b ≡ true → a ≡ b) → (a b : Option X) → option_eq test a b ≡ true → a ≡ b
  option_is is None None e = refl
  option_is is None (Some b) e = absurd (false≢true e)
  option_is is (Some a) None e = absurd (false≢true e)
  option_is is (Some a) (Some b) e = ap (λ x. Some x) (is a b e)

  option_itself : ((a : X) → test a a ≡ true) → (a : Option X) → option_eq test a a ≡ true
  option_itself itself None = refl
  option_itself itself (Some a) = itself a

same_number_is : (a b : State) → number_of a ≡ number_of b → a ≡ b
same_number_is state.Join state.Join e = refl
same_number_is state.Join state.PrunePending e = absurd (omega (arith, e))
same_number_is state.Join state.Prune e = absurd (omega (arith, e))
same_number_is state.Join state.PruneTmp e = absurd (omega (arith, e))
same_number_is state.Join state.PrunePendingTmp e = absurd (omega (arith, e))
same_number_is state.PrunePending state.Join e = absurd (omega (arith, e))
same_number_is state.PrunePending state.PrunePending e = refl
same_number_is state.PrunePending state.Prune e = absurd (omega (arith, e))
same_number_is state.PrunePending state.PruneTmp e = absurd (omega (arith, e))
same_number_is state.PrunePending state.PrunePendingTmp e = absurd (omega (arith, e))
same_number_is state.Prune state.Join e = absurd (omega (arith, e))
same_number_is state.Prune state.PrunePending e = absurd (omega (arith, e))
same_number_is state.Prune state.Prune e = refl
same_number_is state.Prune state.PruneTmp e = absurd (omega (arith, e))
same_number_is state.Prune state.PrunePendingTmp e = absurd (omega (arith, e))
same_number_is state.PruneTmp state.Join e = absurd (omega (arith, e))
same_number_is state.PruneTmp state.PrunePending e = absurd (omega (arith, e))
same_number_is state.PruneTmp state.Prune e = absurd (omega (arith, e))
same_number_is state.PruneTmp state.PruneTmp e = refl
same_number_is state.PruneTmp state.PrunePendingTmp e = absurd (omega (arith, e))
same_number_is state.PrunePendingTmp state.Join e = absurd (omega (arith, e))
same_number_is state.PrunePendingTmp state.PrunePending e = absurd (omega (arith, e))
same_number_is state.PrunePendingTmp state.Prune e = absurd (omega (arith, e))
same_number_is state.PrunePendingTmp state.PruneTmp e = absurd (omega (arith, e))
same_number_is state.PrunePendingTmp state.PrunePendingTmp e = refl

nat_itself : (n : ℕ) → nat_eq n n ≡ true
nat_itself n = eq-eqb n n refl

same_held_is : (a b : Machine) → same_held a b ≡ true → a ≡ b
same_held_is a b e =
    let first = and_true (number_of a.state == number_of b.state) (option_eq nat_eq a.expires_in b.expires_in && option_eq same_pending a.pending b.pending) e in
    let second = and_true (option_eq nat_eq a.expires_in b.expires_in) (option_eq same_pending a.pending b.pending) first.1 in
    let states = same_number_is a.state b.state (eqb-true (number_of a.state) (number_of b.state) first.0) in
    let expiries = option_is nat_eq (λ m n f. eqb-true m n f) a.expires_in b.expires_in second.0 in
    let timers = option_is same_pending same_pending_is a.pending b.pending second.1 in
    λ i. record { state = states i; expires_in = expiries i; pending = timers i }

pub same_machine_is : (a b : Option Machine) → same_machine a b ≡ true → a ≡ b
same_machine_is a b e = option_is same_held same_held_is a b e

all_true : (a b c : Bool) → a ≡ true → b ≡ true → c ≡ true → a && (b && c) ≡ true
all_true a b c x y z = rw (x, y, z) refl

same_held_itself : (a : Machine) → same_held a a ≡ true
same_held_itself a =
    all_true (number_of a.state == number_of a.state) (option_eq nat_eq a.expires_in a.expires_in) (option_eq same_pending a.pending a.pending)
    (eq-eqb (number_of a.state) (number_of a.state) refl)
    (option_itself nat_eq nat_itself a.expires_in)
    (option_itself same_pending (λ p. rw (eq-eqb p.ends_in p.ends_in refl) (same_bool_itself p.several)) a.pending)

pub same_machine_itself : (a b : Option Machine) → a ≡ b → same_machine a b ≡ true
same_machine_itself a b e = subst (λ c. same_machine a c ≡ true) e (option_itself same_held same_held_itself a)

-- ---- lists

module _ (after : List (Record (List ℕ))) where
  kept_above : (key : Key (List ℕ)) (candidates : List (Candidate (List ℕ))) → AllByRecursion (λ other. key_cmp key other ≡ Less) (keys_affected candidates) → AllByRecursion (λ other. key_cmp key other ≡ Less) (keys_of_transitions (transitions_to after candidates))
  unfolding transitions_to
  kept_above key [] above = tt
  kept_above key (candidate ∷ candidates) above = by (same_machine candidate.before (machine_at candidate.key after)) (kept_above key candidates above.1)
    where
      by : (b : Bool) → AllByRecursion (λ other. key_cmp key other ≡ Less) (keys_of_transitions (transitions_to after candidates)) → AllByRecursion (λ other. key_cmp key other ≡ Less) (keys_of_transitions (cond b (transitions_to after candidates) (transition_to candidate (machine_at candidate.key after) ∷ transitions_to after candidates)))
      by true rest = rest
      by false rest = (above.0, rest)

  pub still_ascending : (candidates : List (Candidate (List ℕ))) → IsStrictlySortedBy key_cmp (keys_affected candidates) → IsStrictlySortedBy key_cmp (keys_of_transitions (transitions_to after candidates))
  unfolding transitions_to IsStrictlySortedBy
  still_ascending [] up = tt
  still_ascending (candidate ∷ candidates) up = by (same_machine candidate.before (machine_at candidate.key after)) (still_ascending candidates up.1)
    where
      by : (b : Bool) → IsStrictlySortedBy key_cmp (keys_of_transitions (transitions_to after candidates)) → IsStrictlySortedBy key_cmp (keys_of_transitions (cond b (transitions_to after candidates) (transition_to candidate (machine_at candidate.key after) ∷ transitions_to after candidates)))
      by true rest = rest
      by false rest = (kept_above candidate.key candidates up.0, rest)

  -- what holds of each candidate that differs holds of each transition
  pub each_kept : (P : Candidate (List ℕ) → Type 0) (Q : Transition (List ℕ) → Type 0) → ((candidate : Candidate (List ℕ)) → P candidate → same_machine candidate.before (machine_at candidate.key after) ≡ false → Q (transition_to candidate (machine_at candidate.key after)))
      → (candidates : List (Candidate (List ℕ))) → AllByRecursion P candidates → AllByRecursion Q (transitions_to after candidates)
  unfolding transitions_to
  each_kept P Q makes [] all = tt
  each_kept P Q makes (candidate ∷ candidates) all = by (same_machine candidate.before (machine_at candidate.key after)) refl (each_kept P Q makes candidates all.1)
    where
      by : (b : Bool) → same_machine candidate.before (machine_at candidate.key after) ≡ b → AllByRecursion Q (transitions_to after candidates) → AllByRecursion Q (cond b (transitions_to after candidates) (transition_to candidate (machine_at candidate.key after) ∷ transitions_to after candidates))
      by true e rest = rest
      by false e rest = (makes candidate all.0 e, rest)

  -- a candidate that differs is told
  pub differing_told : (keys : KeysAreDistinct) (port : ℕ) (start : Start) (before : List (Record (List ℕ))) (key : Key (List ℕ)) → (machine_at key before ≡ machine_at key after → ⊥)
      → (candidates : List (Candidate (List ℕ))) → AllByRecursion (λ candidate. candidate.before ≡ machine_at candidate.key before) candidates → is_affected key candidates ≡ true → has_transition key (transitions_to after candidates) ≡ true
  unfolding transitions_to
  differing_told keys port start before key differ [] all affected = absurd (false≢true affected)
  differing_told keys port start before key differ (candidate ∷ candidates) all affected =
      by (λ n. differing_told keys port start before key differ candidates all.1 n) (same_machine candidate.before (machine_at candidate.key after)) refl (same_key candidate.key key) refl affected
    where
      by : (is_affected key candidates ≡ true → has_transition key (transitions_to after candidates) ≡ true) → (b : Bool) → same_machine candidate.before (machine_at candidate.key after) ≡ b → (s : Bool) → same_key candidate.key key ≡ s → (s || is_affected key candidates) ≡ true
          → has_transition key (cond b (transitions_to after candidates) (transition_to candidate (machine_at candidate.key after) ∷ transitions_to after candidates)) ≡ true
      by rest true e true s n =
          let same : candidate.key ≡ key = same_keys keys port start candidate.key key s in
          absurd (differ (ap (λ (k : Key (List ℕ)). machine_at k before) (sym same) ∙ sym all.0 ∙ same_machine_is candidate.before (machine_at candidate.key after) e ∙ ap (λ (k : Key (List ℕ)). machine_at k after) same))
      by rest true e false s n = rest n
      by rest false e true s n = rw s refl
      by rest false e false s n = rw s (rest n)

all_and : {X : Type 0} (P Q : X → Type 0) → ((x : X) → P x → Q x) → (xs : List X) → AllByRecursion P xs → AllByRecursion Q xs
all_and P Q implies [] all = tt
all_and P Q implies (x ∷ xs) all = (implies x all.0, all_and P Q implies xs all.1)

-- ---- the law

pub candidates_tell : KeysAreDistinct → HearingActsAtEachKey → CandidatesShowTransitions
candidates_tell keys hears port start events records candidates ascending settled affected =
    let after = hearing port start events records in
    record {
      ascending = still_ascending after candidates affected.ascending;
      each = each_kept after (IsCandidate port events records) (IsTransition port start events records after) makes candidates affected.each;
      all = λ key differ. differing_told after keys port start records key differ candidates (all_and (IsCandidate port events records) (λ (c : Candidate (List ℕ)). c.before ≡ machine_at c.key records) (λ c is. is.was) candidates affected.each) (affected.all key (reached key differ));
    }
  where
    heard_is : (key : Key (List ℕ)) → machine_at key (hearing port start events records) ≡ heard_at port start events key (machine_at key records)
    heard_is key = hears port start events records ascending key

    reached : (key : Key (List ℕ)) → (machine_at key records ≡ machine_at key (hearing port start events records) → ⊥) → is_reached port events records key ≡ true
    reached key differ =
        by_test (is_reached port events records key)
        (λ e. e)
        (λ e. absurd (differ (sym (heard_is key ∙ ap (at_end port key) (quiet keys port start key records events e) ∙ end_quiet keys port start key records settled))))

    cause : (key : Key (List ℕ)) (held now : Option Machine) → now ≡ heard_at port start events key held → (held ≡ now → ⊥) → kind_by (joins_after port key false events) now ≡ caused_by port start events key held
    cause key held now is differ =
        by_test (is_rpt_on port key)
        (λ rpt. rpt_kind_is keys port start key rpt events held now is differ)
        (λ plain. plain_kind keys port start key plain events held now (joins_after port key false events) is differ)

    makes : (candidate : Candidate (List ℕ)) → IsCandidate port events records candidate → same_machine candidate.before (machine_at candidate.key (hearing port start events records)) ≡ false
        → IsTransition port start events records (hearing port start events records) (transition_to candidate (machine_at candidate.key (hearing port start events records)))
    makes candidate is apart =
        let now = machine_at candidate.key (hearing port start events records) in
        let differ : candidate.before ≡ now → ⊥ = λ e. false≢true (sym apart ∙ same_machine_itself candidate.before now e) in
        record {
          was = is.was;
          is = refl;
          differ = differ;
          cause = ap (λ joins. kind_by joins now) is.last ∙ cause candidate.key candidate.before now (heard_is candidate.key ∙ ap (heard_at port start events candidate.key) (sym is.was)) differ;
        }
