-- What a message makes of the machines that are expected when it comes.
use Rattle.pim_fresh.proofs.Words.{◌≡◌, ℕ, ◌+◌, ◌-◌, ◌≤◌, Bool, true, false, cond, ◌&&◌, List, [], ◌∷◌, Option, Some, None, ltb}
use Rattle.pim_fresh.proofs.Words.{eqb, refl, sym, ap, subst, ◌∙◌, arith, false≢true, ltb-true, ltb-false, nat_tests, What, Star}
use Rattle.pim_fresh.proofs.Words.{Source, Rpt, Key, Join, PrunePending, Prune, Machine, greater, machine_in, on_join}
use Rattle.pim_fresh.proofs.Words.{on_rpt_prune, on_star_join, on_end, is_rpt, is_rpt_on, effects, at_end, heard_at, expiry_after}
use Rattle.pim_fresh.proofs.Words.{settled_at, machine_after, after_silence, KeysAreDistinct, Exchange, HasUnitsOnce, starts}
use Rattle.pim_fresh.proofs.Words.{has_unit_of, star_at, Delivery, IsShorter, IsTimely, Span, up_to, span_of, time_left}
use Rattle.pim_fresh.proofs.Words.{is_waiting, unit_at, unit_of, expected}
use Rattle.pim_fresh.proofs.Named.{named_port, star_is_named}
use Rattle.pim_fresh.proofs.Effects.{quiet, none, joined, starred}
use Rattle.pim_fresh.proofs.Waiting.{expiry_renewed, unit_later, pending_later, pruned_later}
use Rattle.pim_fresh.proofs.Spans.{names, comes, alive, in_order, span_named, span_other}

-- ---- End of Message

end_star : (port : ℕ) (key : Key (List ℕ)) (held : Option Machine) → is_rpt key.what ≡ false → at_end port key held ≡ held
end_star port key held r = ap (λ b. cond b (on_end held) held) (ap (λ b. eqb key.port port && b) r ∙ and_false (eqb key.port port))
  where
    and_false : (a : Bool) → (a && false) ≡ false
    and_false true = refl
    and_false false = refl

-- a machine that is in no Tmp state stays
end_stays : (port : ℕ) (key : Key (List ℕ)) (held : Option Machine) → on_end held ≡ held → at_end port key held ≡ held
end_stays port key held stays = by (is_rpt_on port key)
  where
    by : (b : Bool) → cond b (on_end held) held ≡ held
    by true = stays
    by false = refl

module _ (exchange : Exchange) where
  waiting_machine : ℕ → Span → Option Machine
  waiting_machine moment span = machine_in PrunePending (time_left exchange moment span) (Some (record { ends_in = (span.first + exchange.timing.override_ms) - moment; several = true }))

  end_unit : (what : What (List ℕ)) (moment : ℕ) (o : Option Span) → on_end (unit_of exchange moment what o) ≡ unit_of exchange moment what o
  unfolding on_end
  end_unit what moment None = refl
  end_unit Star moment (Some span) = refl
  end_unit (Source source) moment (Some span) = refl
  end_unit (Rpt source) moment (Some span) = by (is_waiting exchange.timing moment span)
    where
      by : (b : Bool) → on_end (cond b (machine_in PrunePending (time_left exchange moment span) (Some (record { ends_in = (span.first + exchange.timing.override_ms) - moment; several = true }))) (machine_in Prune (time_left exchange moment span) None))
          ≡ cond b (machine_in PrunePending (time_left exchange moment span) (Some (record { ends_in = (span.first + exchange.timing.override_ms) - moment; several = true }))) (machine_in Prune (time_left exchange moment span) None)
      by true = refl
      by false = refl

  -- ---- a message that names the machine renews its ET

  starts_whole : (moment first : ℕ) → (starts exchange).expires_in ≡ time_left exchange moment (record { first = first; last = moment })
  starts_whole moment first = by (starts exchange).expires_in
    where
      by : (expiry : Option ℕ) → expiry ≡ expiry_after (moment - moment) expiry
      by None = refl
      by (Some n) =
          let same : n ≡ n - (moment - moment) = omega arith in
          ap (λ m. Some m) same

  renewed : (moment : ℕ) (span : Span) → greater (time_left exchange moment span) (starts exchange).expires_in ≡ time_left exchange moment (record { first = span.first; last = moment })
  renewed moment span = expiry_renewed (moment - span.last) (starts exchange).expires_in ∙ starts_whole moment span.first

  join_renews : (what : What (List ℕ)) (now : ℕ) (o : Option Span) → is_rpt what ≡ false → on_join (starts exchange) (unit_of exchange now what o) ≡ unit_at exchange now what (up_to now o)
  unfolding on_join
  join_renews Star now None r = ap (λ e. machine_in Join e None) (starts_whole now now)
  join_renews Star now (Some span) r = ap (λ e. machine_in Join e None) (renewed now span)
  join_renews (Source source) now None r = ap (λ e. machine_in Join e None) (starts_whole now now)
  join_renews (Source source) now (Some span) r = ap (λ e. machine_in Join e None) (renewed now span)
  join_renews (Rpt source) now o r = absurd (false≢true (sym r))

  -- an (S,G,rpt) machine before any timer fires
  raw : ℕ → Option Span → Option Machine
  raw now None = machine_in PrunePending (time_left exchange now (up_to now None)) (Some (starts exchange).pending)
  raw now (Some span) =
      cond (is_waiting exchange.timing now span)
      (machine_in PrunePending (time_left exchange now (up_to now (Some span))) (Some (record { ends_in = (span.first + exchange.timing.override_ms) - now; several = true })))
      (machine_in Prune (time_left exchange now (up_to now (Some span))) None)

  prune_renews : (source : List ℕ) (now : ℕ) (o : Option Span) → on_rpt_prune (starts exchange) (on_star_join (unit_of exchange now (Rpt source) o)) ≡ raw now o
  unfolding on_rpt_prune on_star_join raw
  prune_renews source now None = ap (λ e. machine_in PrunePending e (Some (starts exchange).pending)) (starts_whole now now)
  prune_renews source now (Some span) = by (is_waiting exchange.timing now span)
    where
      by : (b : Bool) →
          on_rpt_prune (starts exchange) (on_star_join (cond b (machine_in PrunePending (time_left exchange now span) (Some (record { ends_in = (span.first + exchange.timing.override_ms) - now; several = true }))) (machine_in Prune (time_left exchange now span) None)))
          ≡ cond b (machine_in PrunePending (time_left exchange now (up_to now (Some span))) (Some (record { ends_in = (span.first + exchange.timing.override_ms) - now; several = true }))) (machine_in Prune (time_left exchange now (up_to now (Some span))) None)
      by true = ap (λ e. machine_in PrunePending e (Some (record { ends_in = (span.first + exchange.timing.override_ms) - now; several = true }))) (renewed now span)
      by false = ap (λ e. machine_in Prune e None) (renewed now span)

  raw_stays : (now : ℕ) (o : Option Span) → on_end (raw now o) ≡ raw now o
  unfolding on_end raw
  raw_stays now None = refl
  raw_stays now (Some span) = by (is_waiting exchange.timing now span)
    where
      by : (b : Bool) →
          on_end (cond b (machine_in PrunePending (time_left exchange now (up_to now (Some span))) (Some (record { ends_in = (span.first + exchange.timing.override_ms) - now; several = true }))) (machine_in Prune (time_left exchange now (up_to now (Some span))) None))
          ≡ cond b (machine_in PrunePending (time_left exchange now (up_to now (Some span))) (Some (record { ends_in = (span.first + exchange.timing.override_ms) - now; several = true }))) (machine_in Prune (time_left exchange now (up_to now (Some span))) None)
      by true = refl
      by false = refl

  -- ---- and the silence behind it

  module _ (now moment : ℕ) (later : now ≤ moment) (shorter : IsShorter (moment - now) (starts exchange).expires_in) where
    raw_first : (port : ℕ) (group source : List ℕ) (several : Bool) → several ≡ exchange.timing.several →
        after_silence (moment - now) (record { port = port; group = group; what = Rpt source }) (machine_in PrunePending (time_left exchange now (up_to now None)) (Some (record { ends_in = cond several exchange.timing.override_ms 0; several = several })))
        ≡ cond (several && ltb moment (now + exchange.timing.override_ms)) (waiting_machine moment (up_to now None)) (machine_in Prune (time_left exchange moment (up_to now None)) None)
    unfolding waiting_machine
    raw_first port group source true s =
        let whole : exchange.timing.override_ms ≡ (now + exchange.timing.override_ms) - now = omega arith in
        ap (λ n. settled_at (Rpt source) (machine_after (moment - now) (record { state = PrunePending; expires_in = time_left exchange now (up_to now None); pending = Some (record { ends_in = n; several = true }) }))) whole
        ∙ pending_later exchange source now moment (now + exchange.timing.override_ms) true (up_to now None) (omega arith) (omega arith) later shorter
    raw_first port group source false s =
        let none : 0 ≡ now - now = omega arith in
        let over : ltb moment now ≡ false = grind (arith, nat_tests) in
        ap (λ n. settled_at (Rpt source) (machine_after (moment - now) (record { state = PrunePending; expires_in = time_left exchange now (up_to now None); pending = Some (record { ends_in = n; several = false }) }))) none
        ∙ pending_later exchange source now moment now false (up_to now None) (omega arith) (omega arith) later shorter
        ∙ ap (λ b. cond b (machine_in PrunePending (time_left exchange moment (up_to now None)) (Some (record { ends_in = now - moment; several = false }))) (machine_in Prune (time_left exchange moment (up_to now None)) None)) over

    raw_again : (port : ℕ) (group source : List ℕ) (span : Span) (several : Bool) (b : Bool) → ltb now (span.first + exchange.timing.override_ms) ≡ b →
        after_silence (moment - now) (record { port = port; group = group; what = Rpt source }) (cond (several && b) (machine_in PrunePending (time_left exchange now (up_to now (Some span))) (Some (record { ends_in = (span.first + exchange.timing.override_ms) - now; several = true }))) (machine_in Prune (time_left exchange now (up_to now (Some span))) None))
        ≡ cond (several && ltb moment (span.first + exchange.timing.override_ms)) (waiting_machine moment (up_to now (Some span))) (machine_in Prune (time_left exchange moment (up_to now (Some span))) None)
    unfolding waiting_machine
    raw_again port group source span false b t = pruned_later exchange (Rpt source) now moment (up_to now (Some span)) (omega arith) later shorter
    raw_again port group source span true true t =
        let less = ltb-true now (span.first + exchange.timing.override_ms) t in
        pending_later exchange source now moment (span.first + exchange.timing.override_ms) true (up_to now (Some span)) (omega arith) (omega arith) later shorter
    raw_again port group source span true false t =
        let reached = ltb-false now (span.first + exchange.timing.override_ms) t in
        let over : ltb moment (span.first + exchange.timing.override_ms) ≡ false = grind (arith, nat_tests) in
        pruned_later exchange (Rpt source) now moment (up_to now (Some span)) (omega arith) later shorter
        ∙ ap (λ c. cond c (machine_in PrunePending (time_left exchange moment (up_to now (Some span))) (Some (record { ends_in = (span.first + exchange.timing.override_ms) - moment; several = true }))) (machine_in Prune (time_left exchange moment (up_to now (Some span))) None)) (sym over)

    raw_later : (port : ℕ) (group source : List ℕ) (o : Option Span) → after_silence (moment - now) (record { port = port; group = group; what = Rpt source }) (raw now o) ≡ unit_at exchange moment (Rpt source) (up_to now o)
    unfolding raw waiting_machine
    raw_later port group source None = raw_first port group source exchange.timing.several refl
    raw_later port group source (Some span) = raw_again port group source span exchange.timing.several (ltb now (span.first + exchange.timing.override_ms)) refl

-- ---- a delivery

module _ (keys : KeysAreDistinct) (exchange : Exchange) (carries : HasUnitsOnce exchange) where
  abbrev pub message_at : ℕ → Key (List ℕ) → Option Machine → Option Machine
  message_at message key held = heard_at exchange.port (starts exchange) (exchange.messages message) key held

  -- an (S,G,rpt) machine of an earlier message isn't met by the star of another one
  no_star : (key : Key (List ℕ)) (delivery : Delivery) (earlier : List Delivery) (span : Span) → names exchange key delivery ≡ false → span_of exchange key earlier ≡ Some span → is_rpt key.what ≡ true → has_unit_of exchange.port (star_at exchange.port key.group) (exchange.messages delivery.message) ≡ false
  no_star key delivery earlier span has_unit e r = by (has_unit_of exchange.port (star_at exchange.port key.group) (exchange.messages delivery.message)) refl
    where
      by : (b : Bool) → has_unit_of exchange.port (star_at exchange.port key.group) (exchange.messages delivery.message) ≡ b → b ≡ false
      by false s = refl
      by true s =
          let that = comes exchange key earlier span e in
          let star = star_is_named keys exchange.port key [] (exchange.messages that.message) (carries.units that.message) r that.has_unit in
          let same = carries.once that.message delivery.message (star_at exchange.port key.group) star s in
          absurd (false≢true (sym has_unit ∙ subst (λ (i : ℕ). has_unit_of exchange.port key (exchange.messages i) ≡ true) same that.has_unit))

  -- a message that doesn't name a machine leaves it
  pub message_passes : (key : Key (List ℕ)) (delivery : Delivery) (earlier : List Delivery) → names exchange key delivery ≡ false → message_at delivery.message key (expected exchange earlier delivery.moment key) ≡ expected exchange earlier delivery.moment key
  message_passes key delivery earlier has_unit =
      ap (at_end exchange.port key) (by (span_of exchange key earlier) refl)
      ∙ end_stays exchange.port key (expected exchange earlier delivery.moment key) (end_unit exchange key.what delivery.moment (span_of exchange key earlier))
    where
      by : (o : Option Span) → span_of exchange key earlier ≡ o → effects exchange.port (starts exchange) (exchange.messages delivery.message) key (unit_of exchange delivery.moment key.what o) ≡ unit_of exchange delivery.moment key.what o
      by None e = none keys exchange.port (starts exchange) key (exchange.messages delivery.message) has_unit
      by (Some span) e = quiet keys exchange.port (starts exchange) key (exchange.messages delivery.message) (unit_at exchange delivery.moment key.what span) (has_unit, no_star key delivery earlier span has_unit e)

  -- one that names a (*,G) or (S,G) machine
  pub message_joins : (key : Key (List ℕ)) (message now : ℕ) (o : Option Span) → is_rpt key.what ≡ false → has_unit_of exchange.port key (exchange.messages message) ≡ true → message_at message key (unit_of exchange now key.what o) ≡ unit_at exchange now key.what (up_to now o)
  message_joins key message now o r has_unit =
      end_star exchange.port key (effects exchange.port (starts exchange) (exchange.messages message) key (unit_of exchange now key.what o)) r
      ∙ joined keys exchange.port (starts exchange) key [] (exchange.messages message) (unit_of exchange now key.what o) (carries.units message) r has_unit
      ∙ join_renews exchange key.what now o r

  -- so the (*,G) and (S,G) machines are as expected before any time passes
  pub message_star : (key : Key (List ℕ)) (delivery : Delivery) (earlier : List Delivery) → is_rpt key.what ≡ false → message_at delivery.message key (expected exchange earlier delivery.moment key) ≡ expected exchange (delivery ∷ earlier) delivery.moment key
  message_star key delivery earlier r = by (names exchange key delivery) refl
    where
      by : (b : Bool) → names exchange key delivery ≡ b → message_at delivery.message key (expected exchange earlier delivery.moment key) ≡ expected exchange (delivery ∷ earlier) delivery.moment key
      by true n = message_joins key delivery.message delivery.moment (span_of exchange key earlier) r n ∙ ap (unit_of exchange delivery.moment key.what) (sym (span_named exchange key delivery earlier n))
      by false n = message_passes key delivery earlier n ∙ ap (unit_of exchange delivery.moment key.what) (sym (span_other exchange key delivery earlier n))

  -- one that names an (S,G,rpt) machine
  message_prunes : (key : Key (List ℕ)) (source : List ℕ) (message now : ℕ) (o : Option Span) → key.what ≡ Rpt source → has_unit_of exchange.port key (exchange.messages message) ≡ true → message_at message key (unit_of exchange now (Rpt source) o) ≡ raw exchange now o
  message_prunes key source message now o what has_unit =
      let r : is_rpt key.what ≡ true = ap is_rpt what in
      let on = named_port keys exchange.port key (exchange.messages message) has_unit in
      let value = starred keys exchange.port (starts exchange) key [] (exchange.messages message) (unit_of exchange now (Rpt source) o) (carries.units message) on r refl has_unit ∙ prune_renews exchange source now o in
      ap (at_end exchange.port key) value ∙ end_stays exchange.port key (raw exchange now o) (raw_stays exchange now o)

  -- ---- the silence behind a delivery

  module _ (delivery : Delivery) (earlier : List Delivery) (moment : ℕ) (timely : IsTimely (starts exchange).expires_in moment (delivery ∷ earlier)) where
    later : delivery.moment ≤ moment
    unfolding IsTimely
    later = timely.0

    shorter : (key : Key (List ℕ)) (span : Span) → span_of exchange key (delivery ∷ earlier) ≡ Some span → IsShorter (moment - span.last) (starts exchange).expires_in
    unfolding IsTimely
    shorter key span e = alive exchange key (starts exchange).expires_in moment (delivery ∷ earlier) span timely.1 e

    before : IsTimely (starts exchange).expires_in delivery.moment earlier
    unfolding IsTimely
    before = timely.2

    passes_later : (key : Key (List ℕ)) → names exchange key delivery ≡ false → after_silence (moment - delivery.moment) key (expected exchange earlier delivery.moment key) ≡ expected exchange earlier moment key
    passes_later key has_unit = by (span_of exchange key earlier) refl
      where
        by : (o : Option Span) → span_of exchange key earlier ≡ o → after_silence (moment - delivery.moment) key (unit_of exchange delivery.moment key.what o) ≡ unit_of exchange moment key.what o
        by None e = refl
        by (Some span) e =
            let order = in_order exchange key (starts exchange).expires_in delivery.moment earlier span before e in
            unit_later exchange key delivery.moment moment span order.first order.last later (shorter key span (span_other exchange key delivery earlier has_unit ∙ e))

    up_to_last : (now : ℕ) (o : Option Span) → (up_to now o).last ≡ now
    up_to_last now None = refl
    up_to_last now (Some s) = refl

    still : (key : Key (List ℕ)) → names exchange key delivery ≡ true → IsShorter (moment - delivery.moment) (starts exchange).expires_in
    still key has_unit = subst (λ (last : ℕ). IsShorter (moment - last) (starts exchange).expires_in) (up_to_last delivery.moment (span_of exchange key earlier)) (shorter key (up_to delivery.moment (span_of exchange key earlier)) (span_named exchange key delivery earlier has_unit))

    joins_later : (key : Key (List ℕ)) → is_rpt key.what ≡ false → names exchange key delivery ≡ true → after_silence (moment - delivery.moment) key (message_at delivery.message key (expected exchange earlier delivery.moment key)) ≡ unit_at exchange moment key.what (up_to delivery.moment (span_of exchange key earlier))
    joins_later key r has_unit =
        let here = span_named exchange key delivery earlier has_unit in
        let order = in_order exchange key (starts exchange).expires_in moment (delivery ∷ earlier) (up_to delivery.moment (span_of exchange key earlier)) timely here in
        let last = up_to_last delivery.moment (span_of exchange key earlier) in
        ap (after_silence (moment - delivery.moment) key) (message_joins key delivery.message delivery.moment (span_of exchange key earlier) r has_unit)
        ∙ unit_later exchange key delivery.moment moment (up_to delivery.moment (span_of exchange key earlier)) order.first (omega arith) later (shorter key (up_to delivery.moment (span_of exchange key earlier)) here)

    prunes_later : (key : Key (List ℕ)) (source : List ℕ) → key.what ≡ Rpt source → names exchange key delivery ≡ true → after_silence (moment - delivery.moment) key (message_at delivery.message key (expected exchange earlier delivery.moment key)) ≡ unit_at exchange moment key.what (up_to delivery.moment (span_of exchange key earlier))
    prunes_later key source what has_unit =
        let whole : key ≡ record { port = key.port; group = key.group; what = Rpt source } = (λ i. record { port = key.port; group = key.group; what = what i }) in
        ap (λ w. after_silence (moment - delivery.moment) key (message_at delivery.message key (unit_of exchange delivery.moment w (span_of exchange key earlier)))) what
        ∙ ap (after_silence (moment - delivery.moment) key) (message_prunes key source delivery.message delivery.moment (span_of exchange key earlier) what has_unit)
        ∙ ap (λ (k : Key (List ℕ)). after_silence (moment - delivery.moment) k (raw exchange delivery.moment (span_of exchange key earlier))) whole
        ∙ raw_later exchange delivery.moment moment later (still key has_unit) key.port key.group source (span_of exchange key earlier)
        ∙ ap (λ w. unit_at exchange moment w (up_to delivery.moment (span_of exchange key earlier))) (sym what)

    named_later : (key : Key (List ℕ)) → names exchange key delivery ≡ true → after_silence (moment - delivery.moment) key (message_at delivery.message key (expected exchange earlier delivery.moment key)) ≡ unit_at exchange moment key.what (up_to delivery.moment (span_of exchange key earlier))
    named_later key has_unit = by key.what refl
      where
        by : (what : What (List ℕ)) → key.what ≡ what → after_silence (moment - delivery.moment) key (message_at delivery.message key (expected exchange earlier delivery.moment key)) ≡ unit_at exchange moment key.what (up_to delivery.moment (span_of exchange key earlier))
        by Star e = joins_later key (ap is_rpt e) has_unit
        by (Source source) e = joins_later key (ap is_rpt e) has_unit
        by (Rpt source) e = prunes_later key source e has_unit

    -- the delivery and the silence behind it leave what is expected
    pub delivered : (key : Key (List ℕ)) → after_silence (moment - delivery.moment) key (message_at delivery.message key (expected exchange earlier delivery.moment key)) ≡ expected exchange (delivery ∷ earlier) moment key
    delivered key =
        elim (names exchange key delivery) as (λ b. names exchange key delivery ≡ b → after_silence (moment - delivery.moment) key (message_at delivery.message key (expected exchange earlier delivery.moment key)) ≡ expected exchange (delivery ∷ earlier) moment key) [
          | true ↦ λ n. named_later key n ∙ ap (unit_of exchange moment key.what) (sym (span_named exchange key delivery earlier n))
          | false ↦ λ n.
              ap (after_silence (moment - delivery.moment) key) (message_passes key delivery earlier n)
              ∙ passes_later key n
              ∙ ap (unit_of exchange moment key.what) (sym (span_other exchange key delivery earlier n))
        ] refl
