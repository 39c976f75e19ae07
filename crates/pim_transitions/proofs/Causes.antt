-- The last event that changed a machine's state, by the machine after the message.
use Rattle.pim_transitions.proofs.Words.{◌≡◌, ℕ, Bool, true, false, cond, not, ◌&&◌, ◌==◌, List, [], ◌∷◌, Option, None, Some}
use Rattle.pim_transitions.proofs.Words.{is_some, unwrap_or, eqb-true, eq-eqb, refl, sym, ap, subst, ◌∙◌, arith, false≢true, What}
use Rattle.pim_transitions.proofs.Words.{Star, Source, Rpt, Key, State, Machine, Start, on_join, join_in, on_prune, prune_in}
use Rattle.pim_transitions.proofs.Words.{on_star_join, star_join_in, on_rpt_prune, rpt_prune_in, on_end, end_in, Event, on_own}
use Rattle.pim_transitions.proofs.Words.{is_rpt, is_rpt_on, effect, effects, at_end, heard_at, KeysAreDistinct, By, number_of}
use Rattle.pim_transitions.proofs.Words.{state_number, same_state, kind_of, changed_by, last_of, changed_last, by_state}
use Rattle.pim_transitions.proofs.Words.{caused_by, joins_after, kind_by}
use Rattle.pim_down.specs.declared.machines.machine.State.TheVariants as state
use Rattle.pim_transitions.specs.declared.transition.By.TheVariants as kind
use Rattle.pim_transitions.proofs.Effects.{by_effect, own_plain, own_rpt, no_star, plain_some, gone_joined}

same_state_is : (a b : Option Machine) → same_state a b ≡ true → state_number a ≡ state_number b
same_state_is a b e = eqb-true (state_number a) (state_number b) e

is_same_state : (a b : Option Machine) → a ≡ b → same_state a b ≡ true
is_same_state a b e = eq-eqb (state_number a) (state_number b) (ap state_number e)

-- ---- one induction for all machines

-- Where the state last changed by an event of kind `last`, if it did: what leads to `final` is of the kind that `goal` says
-- of it, and where no event changed the state, it is that of `held`, and `final` is one at which a message may end.
module _ (good : ℕ → Bool) (goal : ℕ → By) where
  abbrev pub Leads : Option By → Option Machine → Option Machine → Type 0
  Leads None held final = (state_number held ≡ state_number final) × (good (state_number final) ≡ true)
  Leads (Some by) held final = by ≡ goal (state_number final)

  leads_more : (by : By) (held next final : Option Machine) (last : Option By)
      → (same_state held next ≡ false → good (state_number next) ≡ true → by ≡ goal (state_number next))
      → Leads last next final → Leads (last_of (changed_by by held next) last) held final
  leads_more by held next final (Some later) moved leads = leads
  leads_more by held next final None moved leads = either (same_state held next) refl
    where
      either : (b : Bool) → same_state held next ≡ b → Leads (cond b None (Some by)) held final
      either true e = (same_state_is held next e ∙ leads.0, leads.1)
      either false e = moved e (ap good leads.0 ∙ leads.1) ∙ ap goal leads.0

  module _ (port : ℕ) (start : Start) (key : Key (List ℕ))
      (ends : (held : Option Machine) → Leads (changed_by kind.End held (at_end port key held)) held held)
      (moves : (event : Event) (held : Option Machine) → same_state held (effect port start event key held) ≡ false → good (state_number (effect port start event key held)) ≡ true → kind_of event ≡ goal (state_number (effect port start event key held))) where
    pub leads_all : (events : List Event) (held : Option Machine) → Leads (changed_last port start events key held) held (effects port start events key held)
    unfolding changed_last effects
    leads_all [] held = ends held
    leads_all (event ∷ events) held =
        let next = effect port start event key held in
        leads_more (kind_of event) held next (effects port start events key next) (changed_last port start events key next) (moves event held) (leads_all events next)

-- ---- the moves of the tables

abbrev state_kind : ℕ → By
state_kind n = cond (n == 1) kind.Join kind.Prune

module _ (start : Start) where
  join_moves : (held : Option Machine) → same_state held (on_join start held) ≡ false → kind.Join ≡ state_kind (state_number (on_join start held))
  unfolding on_join
  join_moves None e = refl
  join_moves (Some m) e = by m.state e
    where
      by : (s : State) → same_state (Some m) (join_in s start m) ≡ false → kind.Join ≡ state_kind (state_number (join_in s start m))
      by state.Join e = refl
      by state.PrunePending e = refl
      by state.Prune e = absurd (false≢true (sym e ∙ is_same_state (Some m) (Some m) refl))
      by state.PruneTmp e = absurd (false≢true (sym e ∙ is_same_state (Some m) (Some m) refl))
      by state.PrunePendingTmp e = absurd (false≢true (sym e ∙ is_same_state (Some m) (Some m) refl))

  prune_moves : (held : Option Machine) → same_state held (on_prune start held) ≡ false → kind.Prune ≡ state_kind (state_number (on_prune start held))
  unfolding on_prune
  prune_moves None e = absurd (false≢true (sym e))
  prune_moves (Some m) e = by m.state e
    where
      by : (s : State) → same_state (Some m) (prune_in s start m) ≡ false → kind.Prune ≡ state_kind (state_number (prune_in s start m))
      by state.Join e = refl
      by state.PrunePending e = absurd (false≢true (sym e ∙ is_same_state (Some m) (Some m) refl))
      by state.Prune e = absurd (false≢true (sym e ∙ is_same_state (Some m) (Some m) refl))
      by state.PruneTmp e = absurd (false≢true (sym e ∙ is_same_state (Some m) (Some m) refl))
      by state.PrunePendingTmp e = absurd (false≢true (sym e ∙ is_same_state (Some m) (Some m) refl))

-- ---- a machine that is no (S,G,rpt) machine of the port

module _ (keys : KeysAreDistinct) (port : ℕ) (start : Start) (key : Key (List ℕ)) (plain : is_rpt_on port key ≡ false) where
  abbrev any_state : ℕ → Bool
  any_state n = true

  plain_end : (held : Option Machine) → at_end port key held ≡ held
  plain_end held = ap (λ b. cond b (on_end held) held) plain

  plain_ends : (held : Option Machine) → Leads any_state state_kind (changed_by kind.End held (at_end port key held)) held held
  plain_ends held = subst (λ b. Leads any_state state_kind (cond b None (Some kind.End)) held held) (sym (is_same_state held (at_end port key held) (sym (plain_end held)))) (refl, refl)

  own_moves : (joins : Bool) (what : What (List ℕ)) (held : Option Machine) → is_rpt what ≡ false → same_state held (on_own joins what start held) ≡ false
      → cond joins kind.Join kind.Prune ≡ state_kind (state_number (on_own joins what start held))
  own_moves true Star held p e = join_moves start held e
  own_moves true (Source source) held p e = join_moves start held e
  own_moves true (Rpt source) held p e = absurd (false≢true (sym p))
  own_moves false Star held p e = prune_moves start held e
  own_moves false (Source source) held p e = prune_moves start held e
  own_moves false (Rpt source) held p e = absurd (false≢true (sym p))

  plain_moves : (event : Event) (held : Option Machine) → same_state held (effect port start event key held) ≡ false → any_state (state_number (effect port start event key held)) ≡ true → kind_of event ≡ state_kind (state_number (effect port start event key held))
  plain_moves event held e g =
      by_effect keys port start (λ next. same_state held next ≡ false → kind_of event ≡ state_kind (state_number next)) event key held
      (λ s d. own_moves event.joins event.what held (own_plain keys port start event key plain s) d)
      (λ s j r d. absurd (no_star keys port start event key plain r))
      (λ s n d. absurd (false≢true (sym d ∙ is_same_state held held refl)))
      e

  plain_leads : (events : List Event) (held : Option Machine) → Leads any_state state_kind (changed_last port start events key held) held (effects port start events key held)
  plain_leads events held = leads_all any_state state_kind port start key plain_ends plain_moves events held

  from_last : (last : Option By) (held final : Option Machine) → Leads any_state state_kind last held final → unwrap_or last (by_state final) ≡ by_state final
  from_last None held final leads = refl
  from_last (Some by) held final leads = leads

  plain_cause : (events : List Event) (held : Option Machine) → caused_by port start events key held ≡ by_state (effects port start events key held)
  plain_cause events held =
      ap (λ (now : Option Machine). unwrap_or (changed_last port start events key held) (by_state now)) (plain_end (effects port start events key held))
      ∙ from_last (changed_last port start events key held) held (effects port start events key held) (plain_leads events held)

  -- the kind that a later look tells is the cause
  pub plain_kind : (events : List Event) (held now : Option Machine) (joins : Bool) → now ≡ heard_at port start events key held → (held ≡ now → ⊥)
      → kind_by joins now ≡ caused_by port start events key held
  plain_kind events held now joins is differ = by now held (is ∙ plain_end (effects port start events key held)) differ
    where
      by : (now held : Option Machine) → now ≡ effects port start events key held → (held ≡ now → ⊥) → kind_by joins now ≡ caused_by port start events key held
      by None None is differ = absurd (differ refl)
      by None (Some m) is differ = absurd (false≢true (ap is_some is ∙ plain_some keys port start key plain events (Some m) refl))
      by (Some n) held is differ = ap by_state is ∙ sym (plain_cause events held)

-- ---- an (S,G,rpt) machine of the port

module _ (keys : KeysAreDistinct) (port : ℕ) (start : Start) (key : Key (List ℕ)) (rpt : is_rpt_on port key ≡ true) where
  -- no state of a message alone
  abbrev lasting : ℕ → Bool
  lasting n = not (n == 4) && not (n == 5)

  -- how a machine came to this state: NoInfo by a Join(S,G,rpt), one of a message alone ends with the message
  abbrev rpt_kind : ℕ → By
  rpt_kind n = cond (n == 0) kind.Join (cond (lasting n) (state_kind n) kind.End)

  rpt_end : (held : Option Machine) → at_end port key held ≡ on_end held
  rpt_end held = ap (λ b. cond b (on_end held) held) rpt

  end_leads : (held : Option Machine) → Leads lasting rpt_kind (changed_by kind.End held (on_end held)) held held
  unfolding on_end
  end_leads None = (refl, refl)
  end_leads (Some m) = by m.state refl
    where
      stays : (s : State) → m.state ≡ s → lasting (number_of s) ≡ true → Leads lasting rpt_kind (changed_by kind.End (Some m) (Some m)) (Some m) (Some m)
      stays s e l = subst (λ b. Leads lasting rpt_kind (cond b None (Some kind.End)) (Some m) (Some m)) (sym (is_same_state (Some m) (Some m) refl)) (refl, ap (λ t. lasting (number_of t)) e ∙ l)

      by : (s : State) → m.state ≡ s → Leads lasting rpt_kind (changed_by kind.End (Some m) (end_in s m)) (Some m) (Some m)
      by state.Join e = stays state.Join e refl
      by state.PrunePending e = stays state.PrunePending e refl
      by state.Prune e = stays state.Prune e refl
      by state.PruneTmp e = subst (λ t. Leads lasting rpt_kind (cond (number_of t == 0) None (Some kind.End)) (Some (record { state = t; expires_in = m.expires_in; pending = m.pending })) (Some (record { state = t; expires_in = m.expires_in; pending = m.pending }))) (sym e) refl
      by state.PrunePendingTmp e = subst (λ t. Leads lasting rpt_kind (cond (number_of t == 0) None (Some kind.End)) (Some (record { state = t; expires_in = m.expires_in; pending = m.pending })) (Some (record { state = t; expires_in = m.expires_in; pending = m.pending }))) (sym e) refl

  rpt_ends : (held : Option Machine) → Leads lasting rpt_kind (changed_by kind.End held (at_end port key held)) held held
  rpt_ends held = subst (λ next. Leads lasting rpt_kind (changed_by kind.End held next) held held) (sym (rpt_end held)) (end_leads held)

  rpt_prune_moves : (held : Option Machine) → same_state held (on_rpt_prune start held) ≡ false → kind.Prune ≡ rpt_kind (state_number (on_rpt_prune start held))
  unfolding on_rpt_prune
  rpt_prune_moves None e = refl
  rpt_prune_moves (Some m) e = by m.state e
    where
      by : (s : State) → same_state (Some m) (rpt_prune_in s start m) ≡ false → kind.Prune ≡ rpt_kind (state_number (rpt_prune_in s start m))
      by state.Join e = absurd (false≢true (sym e ∙ is_same_state (Some m) (Some m) refl))
      by state.PrunePending e = absurd (false≢true (sym e ∙ is_same_state (Some m) (Some m) refl))
      by state.Prune e = refl
      by state.PruneTmp e = refl
      by state.PrunePendingTmp e = refl

  own_rpt_moves : (joins : Bool) (what : What (List ℕ)) (held : Option Machine) → is_rpt what ≡ true → same_state held (on_own joins what start held) ≡ false
      → cond joins kind.Join kind.Prune ≡ rpt_kind (state_number (on_own joins what start held))
  own_rpt_moves true Star held p e = absurd (false≢true p)
  own_rpt_moves true (Source source) held p e = absurd (false≢true p)
  own_rpt_moves true (Rpt source) held p e = refl
  own_rpt_moves false Star held p e = absurd (false≢true p)
  own_rpt_moves false (Source source) held p e = absurd (false≢true p)
  own_rpt_moves false (Rpt source) held p e = rpt_prune_moves held e

  -- a Join(*,G) leads only to a state of the message alone
  star_moves : (held : Option Machine) → same_state held (on_star_join held) ≡ false → lasting (state_number (on_star_join held)) ≡ true → ⊥
  unfolding on_star_join
  star_moves None e l = false≢true (sym e)
  star_moves (Some m) e l = by m.state e l
    where
      by : (s : State) → same_state (Some m) (star_join_in s m) ≡ false → lasting (state_number (star_join_in s m)) ≡ true → ⊥
      by state.Join e l = false≢true (sym e ∙ is_same_state (Some m) (Some m) refl)
      by state.PrunePending e l = false≢true l
      by state.Prune e l = false≢true l
      by state.PruneTmp e l = false≢true (sym e ∙ is_same_state (Some m) (Some m) refl)
      by state.PrunePendingTmp e l = false≢true (sym e ∙ is_same_state (Some m) (Some m) refl)

  rpt_moves : (event : Event) (held : Option Machine) → same_state held (effect port start event key held) ≡ false → lasting (state_number (effect port start event key held)) ≡ true → kind_of event ≡ rpt_kind (state_number (effect port start event key held))
  rpt_moves event held e g =
      by_effect keys port start (λ next. same_state held next ≡ false → lasting (state_number next) ≡ true → kind_of event ≡ rpt_kind (state_number next)) event key held
      (λ s d l. own_rpt_moves event.joins event.what held (own_rpt keys port start event key rpt s) d)
      (λ s j r d l. absurd (star_moves held d l))
      (λ s n d l. absurd (false≢true (sym d ∙ is_same_state held held refl)))
      e g

  rpt_leads : (events : List Event) (held : Option Machine) → Leads lasting rpt_kind (changed_last port start events key held) held (effects port start events key held)
  rpt_leads events held = leads_all lasting rpt_kind port start key rpt_ends rpt_moves events held

  -- the machine at the end of the message, before End of Message
  zero_none : (held : Option Machine) → state_number held ≡ 0 → held ≡ None
  zero_none None e = refl
  zero_none (Some m) e = absurd (by m.state e)
    where
      by : (s : State) → number_of s ≡ 0 → ⊥
      by state.Join e = absurd (omega (arith, e))
      by state.PrunePending e = absurd (omega (arith, e))
      by state.Prune e = absurd (omega (arith, e))
      by state.PruneTmp e = absurd (omega (arith, e))
      by state.PrunePendingTmp e = absurd (omega (arith, e))

  no_joins : (b : Bool) → true ≡ not b → cond b kind.Join kind.End ≡ kind.End
  no_joins true e = absurd (false≢true (sym e))
  no_joins false e = refl

  all_joins : (b : Bool) → false ≡ not b → cond b kind.Join kind.End ≡ kind.Join
  all_joins true e = refl
  all_joins false e = absurd (false≢true e)

  -- the kind that a later look tells is the one that led there
  ended : (last : Option By) (held final : Option Machine) (joins : Bool) → Leads lasting rpt_kind last held final → (on_end final ≡ None → is_some final ≡ not joins) → (held ≡ on_end final → ⊥)
      → kind_by joins (on_end final) ≡ unwrap_or last (by_state (on_end final))
  unfolding on_end
  ended None held None joins leads gone differ = absurd (differ (zero_none held leads.0))
  ended (Some by) held None joins leads gone differ = all_joins joins (gone refl) ∙ sym leads
  ended last held (Some m) joins leads gone differ = by last m.state refl leads
    where
      here : (s : State) → m.state ≡ s → rpt_kind (number_of m.state) ≡ rpt_kind (number_of s)
      here s e = ap (λ t. rpt_kind (number_of t)) e

      tmp : (last : Option By) (s : State) → m.state ≡ s → end_in s m ≡ None → lasting (number_of s) ≡ false → rpt_kind (number_of s) ≡ kind.End → Leads lasting rpt_kind last held (Some m) → cond joins kind.Join kind.End ≡ unwrap_or last kind.Prune
      tmp None s e n l k leads = absurd (false≢true (sym l ∙ ap (λ t. lasting (number_of t)) (sym e) ∙ leads.1))
      tmp (Some by) s e n l k leads = no_joins joins (gone (ap (λ t. end_in t m) e ∙ n)) ∙ sym (leads ∙ here s e ∙ k)

      kept : (last : Option By) (s : State) → m.state ≡ s → rpt_kind (number_of s) ≡ state_kind (number_of s) → Leads lasting rpt_kind last held (Some m) → by_state (Some m) ≡ unwrap_or last (by_state (Some m))
      kept None s e k leads = refl
      kept (Some by) s e k leads = ap (λ t. state_kind (number_of t)) e ∙ sym (leads ∙ here s e ∙ k)

      by : (last : Option By) (s : State) → m.state ≡ s → Leads lasting rpt_kind last held (Some m) → kind_by joins (end_in s m) ≡ unwrap_or last (by_state (end_in s m))
      by last state.Join e leads = kept last state.Join e refl leads
      by last state.PrunePending e leads = kept last state.PrunePending e refl leads
      by last state.Prune e leads = kept last state.Prune e refl leads
      by last state.PruneTmp e leads = tmp last state.PruneTmp e refl refl refl leads
      by last state.PrunePendingTmp e leads = tmp last state.PrunePendingTmp e refl refl refl leads

  some_held : (held now : Option Machine) → (held ≡ now → ⊥) → now ≡ None → is_some held ≡ true
  some_held None now differ e = absurd (differ (sym e))
  some_held (Some m) now differ e = refl

  -- the kind that a later look tells is the cause
  pub rpt_kind_is : (events : List Event) (held now : Option Machine) → now ≡ heard_at port start events key held → (held ≡ now → ⊥)
      → kind_by (joins_after port key false events) now ≡ caused_by port start events key held
  rpt_kind_is events held now is differ =
      let final = effects port start events key held in
      let last = changed_last port start events key held in
      let joins = joins_after port key false events in
      let at : now ≡ on_end final = is ∙ rpt_end final in
      ap (kind_by joins) at
      ∙ ended last held final joins (rpt_leads events held)
      (λ e. gone_joined keys port start key rpt events held false (some_held held now differ (at ∙ e)))
      (λ e. differ (e ∙ sym at))
      ∙ ap (λ (after : Option Machine). unwrap_or last (by_state after)) (sym (rpt_end final))
