-- What silence makes of the machines that are expected.
use Rattle.pim_fresh.proofs.Words.{◌≡◌, ℕ, ◌+◌, ◌-◌, ◌≤◌, Bool, true, false, cond, ◌&&◌, List, Option, Some, None, ltb, eqb, max}
use Rattle.pim_fresh.proofs.Words.{refl, sym, ap, ◌∙◌, arith, ltb-true, ltb-false, nat_tests, What, Star, Source, Rpt, Key, Join}
use Rattle.pim_fresh.proofs.Words.{PrunePending, Prune, greater, machine_in, expiry_after, machine_after, expiry_due, settled_at}
use Rattle.pim_fresh.proofs.Words.{after_silence, Exchange, starts, IsShorter, Span, time_left, unit_at}
use Rattle.pim_down.specs.declared.machines.machine.State.{State}

-- ---- ET

pub expiry_more : (a b c : ℕ) (expiry : Option ℕ) → a + b ≡ c → expiry_after b (expiry_after a expiry) ≡ expiry_after c expiry
expiry_more a b c None e = refl
expiry_more a b c (Some ends) e =
    let same : (ends - a) - b ≡ ends - c = omega arith in
    ap (λ n. Some n) same

pub expiry_quiet : (passed : ℕ) (expiry : Option ℕ) → IsShorter passed expiry → expiry_due (expiry_after passed expiry) ≡ false
expiry_quiet passed None shorter = refl
expiry_quiet passed (Some ends) shorter = grind (arith, nat_tests)

pub expiry_renewed : (passed : ℕ) (expiry : Option ℕ) → greater (expiry_after passed expiry) expiry ≡ expiry
expiry_renewed passed None = refl
expiry_renewed passed (Some ends) =
    let same : max (ends - passed) ends ≡ ends = omega arith in
    ap (λ n. Some n) same

-- ---- a machine whose ET doesn't end

-- no PPT runs
pub waits : (what : What (List ℕ)) (state : State) (expiry : Option ℕ) (passed : ℕ) → expiry_due (expiry_after passed expiry) ≡ false → settled_at what (machine_after passed (record { state = state; expires_in = expiry; pending = None })) ≡ machine_in state (expiry_after passed expiry) None
waits what state expiry passed quiet = rw quiet refl

-- PPT of an (S,G,rpt) machine
pub ends : (source : List ℕ) (expiry : Option ℕ) (wait passed : ℕ) (several : Bool) → expiry_due (expiry_after passed expiry) ≡ false →
    settled_at (Rpt source) (machine_after passed (record { state = PrunePending; expires_in = expiry; pending = Some (record { ends_in = wait; several = several }) }))
    ≡ cond (ltb passed wait) (machine_in PrunePending (expiry_after passed expiry) (Some (record { ends_in = wait - passed; several = several }))) (machine_in Prune (expiry_after passed expiry) None)
ends source expiry wait passed several quiet = rw quiet (by (ltb passed wait) refl)
  where
    by : (b : Bool) → ltb passed wait ≡ b →
        cond (eqb (wait - passed) 0) (machine_in Prune (expiry_after passed expiry) None) (Some (record { state = PrunePending; expires_in = expiry_after passed expiry; pending = Some (record { ends_in = wait - passed; several = several }) }))
        ≡ cond b (machine_in PrunePending (expiry_after passed expiry) (Some (record { ends_in = wait - passed; several = several }))) (machine_in Prune (expiry_after passed expiry) None)
    by true e =
        let less = ltb-true passed wait e in
        let running : eqb (wait - passed) 0 ≡ false = grind (arith, nat_tests) in
        rw running refl
    by false e =
        let reached = ltb-false passed wait e in
        let over : eqb (wait - passed) 0 ≡ true = grind (arith, nat_tests) in
        rw over refl

-- ---- the machines that are expected

module _ (exchange : Exchange) where
  pub left_later : (now moment : ℕ) (span : Span) → span.last ≤ now → now ≤ moment → expiry_after (moment - now) (time_left exchange now span) ≡ time_left exchange moment span
  left_later now moment span before later = expiry_more (now - span.last) (moment - now) (moment - span.last) (starts exchange).expires_in (omega arith)

  left_quiet : (now moment : ℕ) (span : Span) → span.last ≤ now → now ≤ moment → IsShorter (moment - span.last) (starts exchange).expires_in → expiry_due (expiry_after (moment - now) (time_left exchange now span)) ≡ false
  left_quiet now moment span before later shorter = ap expiry_due (left_later now moment span before later) ∙ expiry_quiet (moment - span.last) (starts exchange).expires_in shorter

  joined_later : (what : What (List ℕ)) (now moment : ℕ) (span : Span) → span.last ≤ now → now ≤ moment → IsShorter (moment - span.last) (starts exchange).expires_in →
      settled_at what (machine_after (moment - now) (record { state = Join; expires_in = time_left exchange now span; pending = None })) ≡ machine_in Join (time_left exchange moment span) None
  joined_later what now moment span before later shorter =
      waits what Join (time_left exchange now span) (moment - now) (left_quiet now moment span before later shorter)
      ∙ ap (λ e. machine_in Join e None) (left_later now moment span before later)

  pub pruned_later : (what : What (List ℕ)) (now moment : ℕ) (span : Span) → span.last ≤ now → now ≤ moment → IsShorter (moment - span.last) (starts exchange).expires_in →
      settled_at what (machine_after (moment - now) (record { state = Prune; expires_in = time_left exchange now span; pending = None })) ≡ machine_in Prune (time_left exchange moment span) None
  pruned_later what now moment span before later shorter =
      waits what Prune (time_left exchange now span) (moment - now) (left_quiet now moment span before later shorter)
      ∙ ap (λ e. machine_in Prune e None) (left_later now moment span before later)

  -- PPT that ends at the moment `end`
  pub pending_later : (source : List ℕ) (now moment end : ℕ) (several : Bool) (span : Span) → now ≤ end → span.last ≤ now → now ≤ moment → IsShorter (moment - span.last) (starts exchange).expires_in →
      settled_at (Rpt source) (machine_after (moment - now) (record { state = PrunePending; expires_in = time_left exchange now span; pending = Some (record { ends_in = end - now; several = several }) }))
      ≡ cond (ltb moment end) (machine_in PrunePending (time_left exchange moment span) (Some (record { ends_in = end - moment; several = several }))) (machine_in Prune (time_left exchange moment span) None)
  pending_later source now moment end several span begun before later shorter =
      let test : ltb (moment - now) (end - now) ≡ ltb moment end = tests in
      let left : (end - now) - (moment - now) ≡ end - moment = omega arith in
      let expires = left_later now moment span before later in
      ends source (time_left exchange now span) (end - now) (moment - now) several (left_quiet now moment span before later shorter)
      ∙ ap (λ e. cond (ltb (moment - now) (end - now)) (machine_in PrunePending e (Some (record { ends_in = (end - now) - (moment - now); several = several }))) (machine_in Prune e None)) expires
      ∙ ap (λ b. cond b (machine_in PrunePending (time_left exchange moment span) (Some (record { ends_in = (end - now) - (moment - now); several = several }))) (machine_in Prune (time_left exchange moment span) None)) test
      ∙ ap (λ n. cond (ltb moment end) (machine_in PrunePending (time_left exchange moment span) (Some (record { ends_in = n; several = several }))) (machine_in Prune (time_left exchange moment span) None)) left
    where
      tests : ltb (moment - now) (end - now) ≡ ltb moment end
      tests = grind (arith, nat_tests)

  pub unit_later : (key : Key (List ℕ)) (now moment : ℕ) (span : Span) → span.first ≤ span.last → span.last ≤ now → now ≤ moment → IsShorter (moment - span.last) (starts exchange).expires_in →
      after_silence (moment - now) key (unit_at exchange now key.what span) ≡ unit_at exchange moment key.what span
  unit_later key now moment span first before later shorter = by key.what
    where
      rpt : (source : List ℕ) (several : Bool) → several ≡ exchange.timing.several → (b : Bool) → ltb now (span.first + exchange.timing.override_ms) ≡ b →
          after_silence (moment - now) (record { port = key.port; group = key.group; what = Rpt source }) (cond (several && b) (machine_in PrunePending (time_left exchange now span) (Some (record { ends_in = (span.first + exchange.timing.override_ms) - now; several = true }))) (machine_in Prune (time_left exchange now span) None))
          ≡ cond (several && ltb moment (span.first + exchange.timing.override_ms)) (machine_in PrunePending (time_left exchange moment span) (Some (record { ends_in = (span.first + exchange.timing.override_ms) - moment; several = true }))) (machine_in Prune (time_left exchange moment span) None)
      rpt source false s b t = pruned_later (Rpt source) now moment span before later shorter
      rpt source true s true t =
          let less = ltb-true now (span.first + exchange.timing.override_ms) t in
          pending_later source now moment (span.first + exchange.timing.override_ms) true span (omega arith) before later shorter
      rpt source true s false t =
          let reached = ltb-false now (span.first + exchange.timing.override_ms) t in
          let over : ltb moment (span.first + exchange.timing.override_ms) ≡ false = grind (arith, nat_tests) in
          pruned_later (Rpt source) now moment span before later shorter
          ∙ ap (λ c. cond c (machine_in PrunePending (time_left exchange moment span) (Some (record { ends_in = (span.first + exchange.timing.override_ms) - moment; several = true }))) (machine_in Prune (time_left exchange moment span) None)) (sym over)

      by : (what : What (List ℕ)) → after_silence (moment - now) (record { port = key.port; group = key.group; what = what }) (unit_at exchange now what span) ≡ unit_at exchange moment what span
      by Star = joined_later Star now moment span before later shorter
      by (Source source) = joined_later (Source source) now moment span before later shorter
      by (Rpt source) = rpt source exchange.timing.several refl (ltb now (span.first + exchange.timing.override_ms)) refl
