-- Courses: each list of packets and moments has one.
use Rattle.pim_router.proofs.Words.{◌≡◌, ◌∙◌, ℕ, List, [], ◌∷◌, ◌++◌, refl, sym, ap, subst, AddressFamily, What, Step}
use Rattle.pim_router.proofs.Words.{Echo, Refresh, Reached, Input, runs_to, takes, RouterReport, echo, refresh, verdict}
use Rattle.pim_router.proofs.Words.{Reaches, Gives, IsCourse, RouterState, Runs}
use Rattle.std.proofs.lemmas.List.{append_assoc}
use Rattle.pim_router.proofs.Runs.{run_once}

-- ---- a run to a moment until nothing is due has one end

-- what is told where a run stops
abbrev telling_of : Step (List ℕ) → List RouterReport
telling_of (Echo port group what) = echo port group what ∷ []
telling_of Refresh = refresh ∷ []
telling_of Reached = []

one_more : (a b : RouterReport) (more others : List RouterReport) → a ∷ [] ≡ b ∷ [] → more ≡ others → a ∷ more ≡ b ∷ others
one_more a b more others first rest = cc

some_none : (a : RouterReport) → ◌≡◌ {A = List RouterReport} (a ∷ []) [] → ⊥
some_none a e = cc

echo_refresh : (port : ℕ) (group : List ℕ) (what : What (List ℕ)) → echo port group what ∷ [] ≡ refresh ∷ [] → ⊥
echo_refresh port group what e = cc

module _ (moment : ℕ) where
  steps_once : (state after other : RouterState) (answer reported : Step (List ℕ)) → Runs moment state answer after → Runs moment state reported other →
      (telling_of answer ≡ telling_of reported) × (after ≡ other)
  steps_once state after other answer reported a b = let same = run_once moment state after other answer reported a b in (ap telling_of same.0, same.1)

  reaches_once : (reported said : List RouterReport) (state after other : RouterState) → Reaches moment reported state after → Reaches moment said state other →
      (reported ≡ said) × (after ≡ other)
  unfolding Reaches
  reaches_once (verdict v ∷ more) said state after other a b = absurd a
  reaches_once reported (verdict v ∷ more) state after other a b = absurd b
  reaches_once [] [] state after other a b = (refl, (run_once moment state after other Reached Reached a b).1)
  reaches_once [] (echo port group what ∷ said) state after other a b =
      absurd (some_none (echo port group what) (sym (steps_once state after b.0 Reached (Echo port group what) a b.1).0))
  reaches_once [] (refresh ∷ said) state after other a b = absurd (some_none refresh (sym (steps_once state after b.0 Reached Refresh a b.1).0))
  reaches_once (echo port group what ∷ reported) [] state after other a b =
      absurd (some_none (echo port group what) (steps_once state a.0 other (Echo port group what) Reached a.1 b).0)
  reaches_once (refresh ∷ reported) [] state after other a b = absurd (some_none refresh (steps_once state a.0 other Refresh Reached a.1 b).0)
  reaches_once (echo port group what ∷ reported) (refresh ∷ said) state after other a b =
      absurd (echo_refresh port group what (steps_once state a.0 b.0 (Echo port group what) Refresh a.1 b.1).0)
  reaches_once (refresh ∷ reported) (echo port group what ∷ said) state after other a b =
      absurd (echo_refresh port group what (sym (steps_once state a.0 b.0 Refresh (Echo port group what) a.1 b.1).0))
  reaches_once (refresh ∷ reported) (refresh ∷ said) state after other a b =
      let here = steps_once state a.0 b.0 Refresh Refresh a.1 b.1 in
      let more = reaches_once reported said a.0 after other a.2 (subst (λ s. Reaches moment said s other) (sym here.1) b.2) in
      (one_more refresh refresh reported said here.0 more.0, more.1)
  reaches_once (echo port group what ∷ reported) (echo link set which ∷ said) state after other a b =
      let here = steps_once state a.0 b.0 (Echo port group what) (Echo link set which) a.1 b.1 in
      let more = reaches_once reported said a.0 after other a.2 (subst (λ s. Reaches moment said s other) (sym here.1) b.2) in
      (one_more (echo port group what) (echo link set which) reported said here.0 more.0, more.1)

-- ---- so has a course

module _ (family : AddressFamily) where
  gives_once : (input : Input) (reported said : List RouterReport) (state after other : RouterState) → Gives family input reported state after →
      Gives family input said state other → (reported ≡ said) × (after ≡ other)
  gives_once (runs_to moment) reported said state after other a b = reaches_once moment reported said state after other a b
  gives_once (takes packet) reported said state after other a b = (a.0 ∙ sym b.0, a.1 ∙ sym b.1)

  both_joined : (a b c d reported said : List RouterReport) → reported ≡ a ++ b → said ≡ c ++ d → a ≡ c → b ≡ d → reported ≡ said
  both_joined a b c d reported said one other first rest = one ∙ ap (λ ts. ts ++ b) first ∙ ap (λ ts. c ++ ts) rest ∙ sym other

  pub course_once : (inputs : List Input) (state after other : RouterState) (reported said : List RouterReport) → IsCourse family inputs reported state after →
      IsCourse family inputs said state other → (reported ≡ said) × (after ≡ other)
  unfolding IsCourse
  course_once [] state after other reported said a b = (a.0 ∙ sym b.0, a.1 ∙ sym b.1)
  course_once (input ∷ inputs) state after other reported said a b =
      let first = gives_once input a.before b.before state a.between b.between a.begins b.begins in
      let rest = course_once inputs a.between after other a.behind b.behind a.goes_on
      (subst (λ s. IsCourse family inputs b.behind s other) (sym first.1) b.goes_on) in
      (both_joined a.before a.behind b.before b.behind reported said a.joined b.joined first.0 rest.0, rest.1)

  -- ---- one course after the other

  pub courses_join : (earlier later : List Input) (state between after : RouterState) (reported more : List RouterReport) →
      IsCourse family earlier reported state between → IsCourse family later more between after → IsCourse family (earlier ++ later) (reported ++ more) state after
  unfolding IsCourse
  courses_join [] later state between after reported more a b =
      subst (λ ts. IsCourse family later (ts ++ more) state after) (sym a.0) (subst (λ s. IsCourse family later more s after) a.1 b)
  courses_join (input ∷ earlier) later state between after reported more a b = record {
    before = a.before;
    behind = a.behind ++ more;
    between = a.between;
    joined = ap (λ ts. ts ++ more) a.joined ∙ append_assoc a.before a.behind more;
    begins = a.begins;
    goes_on = courses_join earlier later a.between between after a.behind more a.goes_on b;
  }
