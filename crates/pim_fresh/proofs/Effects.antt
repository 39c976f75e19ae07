-- What the events of a message leave at a machine.
use Rattle.pim_fresh.proofs.Words.{◌≡◌, ℕ, Bool, true, false, cond, ◌&&◌, ◌||◌, List, [], ◌∷◌, Option, None, eqb, refl, sym, ap}
use Rattle.pim_fresh.proofs.Words.{subst, ◌∙◌, pointwise, same_text, lists_equiv, nat_eq_equiv, nat_eq, false≢true, eq-eqb, What}
use Rattle.pim_fresh.proofs.Words.{Star, Source, Rpt, Key, Machine, same_key, Start, on_join, on_rpt_prune, on_star_join, Event}
use Rattle.pim_fresh.proofs.Words.{key_of, on_own, is_rpt, is_star, is_star_join, is_rpt_on, is_rpt_of, on_rpts, effect, effects}
use Rattle.pim_fresh.proofs.Words.{creates_by, creates, KeysAreDistinct, has_unit_of, star_at, AreUnits}
use Rattle.pim_fresh.proofs.Named.{or_true, or_false, star_key, star_joins, same_keys, apart}

-- ---- a creating event at its own machine

own_join : (start : Start) (event : Event) (held : Option Machine) → creates event ≡ true → is_rpt event.what ≡ false → on_own event.joins event.what start held ≡ on_join start held
own_join start event held c r = by event.joins event.what c r
  where
    by : (joins : Bool) (what : What (List ℕ)) → creates_by joins what ≡ true → is_rpt what ≡ false → on_own joins what start held ≡ on_join start held
    by true Star c r = refl
    by true (Source source) c r = refl
    by true (Rpt source) c r = absurd (false≢true (sym r))
    by false Star c r = absurd (false≢true c)
    by false (Source source) c r = absurd (false≢true c)
    by false (Rpt source) c r = absurd (false≢true (sym r))

own_prune : (start : Start) (event : Event) (held : Option Machine) → creates event ≡ true → is_rpt event.what ≡ true → on_own event.joins event.what start held ≡ on_rpt_prune start held
own_prune start event held c r = by event.joins event.what c r
  where
    by : (joins : Bool) (what : What (List ℕ)) → creates_by joins what ≡ true → is_rpt what ≡ true → on_own joins what start held ≡ on_rpt_prune start held
    by true Star c r = absurd (false≢true r)
    by true (Source source) c r = absurd (false≢true r)
    by true (Rpt source) c r = absurd (false≢true c)
    by false Star c r = absurd (false≢true c)
    by false (Source source) c r = absurd (false≢true c)
    by false (Rpt source) c r = refl

-- ---- Join(*,G) at the (S,G,rpt) machines

and_true : (a b : Bool) → (a && b) ≡ true → (a ≡ true) × (b ≡ true)
and_true true b e = (refl, e)
and_true false b e = absurd (false≢true e)

rpts_none : (port : ℕ) (group : List ℕ) (key : Key (List ℕ)) → on_rpts port group key None ≡ None
unfolding on_star_join
rpts_none port group key = elim (is_rpt_of port group key) as (λ b. cond b (on_star_join None) None ≡ None) [ true ↦ refl | false ↦ refl ]

rpts_own : (port : ℕ) (group : List ℕ) (key : Key (List ℕ)) (held : Option Machine) → key.port ≡ port → key.group ≡ group → is_rpt key.what ≡ true → on_rpts port group key held ≡ on_star_join held
rpts_own port group key held on same r =
    let ports : eqb key.port port ≡ true = eq-eqb key.port port on in
    let groups : pointwise nat_eq key.group group ≡ true = subst (λ (g : List ℕ). pointwise nat_eq key.group g ≡ true) same ((lists_equiv nat_eq_equiv).refl key.group) in
    let own : is_rpt_of port group key ≡ true = ap (λ b. (b && is_rpt key.what) && pointwise nat_eq key.group group) ports ∙ ap (λ b. b && pointwise nat_eq key.group group) r ∙ groups in
    ap (λ b. cond b (on_star_join held) held) own

module _ (keys : KeysAreDistinct) (port : ℕ) (start : Start) where
  -- ---- events that don't touch a machine

  -- none of them names it, nor comes to it as a Join(*,G)
  abbrev pub Misses : Key (List ℕ) → List Event → Type 0
  Misses key events = (has_unit_of port key events ≡ false) × (is_rpt key.what ≡ true → has_unit_of port (star_at port key.group) events ≡ false)

  misses_first : (key : Key (List ℕ)) (event : Event) (events : List Event) → Misses key (event ∷ events) → (same_key (key_of port event) key ≡ false) × (is_rpt key.what ≡ true → same_key (key_of port event) (star_at port key.group) ≡ false) × Misses key events
  misses_first key event events misses =
      let own = or_false (same_key (key_of port event) key) (has_unit_of port key events) misses.0 in
      let star = λ (r : is_rpt key.what ≡ true). or_false (same_key (key_of port event) (star_at port key.group)) (has_unit_of port (star_at port key.group) events) (misses.1 r) in
      (own.0, λ r. (star r).0, (own.1, λ r. (star r).1))

  -- a Join(*,G) of another group
  rpts_apart : (key : Key (List ℕ)) (event : Event) (held : Option Machine) → is_star_join event ≡ true → (is_rpt key.what ≡ true → same_key (key_of port event) (star_at port key.group) ≡ false) → on_rpts port event.group key held ≡ held
  rpts_apart key event held joins star = by (is_rpt_of port event.group key) refl
    where
      by : (b : Bool) → is_rpt_of port event.group key ≡ b → cond b (on_star_join held) held ≡ held
      by false e = refl
      by true e =
          let parts = and_true (is_rpt_on port key) (pointwise nat_eq key.group event.group) e in
          let on = and_true (eqb key.port port) (is_rpt key.what) parts.0 in
          let group : key.group ≡ event.group = same_text key.group event.group (sym parts.1) in
          let own : key_of port event ≡ star_at port key.group = star_key port event joins ∙ ap (star_at port) (sym group) in
          absurd (false≢true (sym (star on.1) ∙ (keys (key_of port event) (star_at port key.group)).1.1 own))

  quiet_one : (key : Key (List ℕ)) (event : Event) (held : Option Machine) → same_key (key_of port event) key ≡ false → (is_rpt key.what ≡ true → same_key (key_of port event) (star_at port key.group) ≡ false) → effect port start event key held ≡ held
  quiet_one key event held own star = rw own (by (is_star_join event) refl)
    where
      by : (b : Bool) → is_star_join event ≡ b → cond b (on_rpts port event.group key held) held ≡ held
      by false e = refl
      by true e = rpts_apart key event held e star

  pub quiet : (key : Key (List ℕ)) (events : List Event) (held : Option Machine) → Misses key events → effects port start events key held ≡ held
  unfolding effects
  quiet key [] held misses = refl
  quiet key (event ∷ events) held misses =
      let parts = misses_first key event events misses in
      ap (effects port start events key) (quiet_one key event held parts.0 parts.1) ∙ quiet key events held parts.2

  -- nothing comes of nothing, but by an event that names the machine
  none_one : (key : Key (List ℕ)) (event : Event) → same_key (key_of port event) key ≡ false → effect port start event key None ≡ None
  none_one key event own = rw own (by (is_star_join event))
    where
      by : (b : Bool) → cond b (on_rpts port event.group key None) None ≡ None
      by false = refl
      by true = rpts_none port event.group key

  pub none : (key : Key (List ℕ)) (events : List Event) → has_unit_of port key events ≡ false → effects port start events key None ≡ None
  unfolding effects
  none key [] has_unit = refl
  none key (event ∷ events) has_unit =
      let parts = or_false (same_key (key_of port event) key) (has_unit_of port key events) has_unit in
      ap (effects port start events key) (none_one key event parts.0) ∙ none key events parts.1

  -- ---- (*,G) and (S,G)

  own_first : (key : Key (List ℕ)) (event : Event) (held : Option Machine) → same_key (key_of port event) key ≡ true → effect port start event key held ≡ on_own event.joins event.what start held
  own_first key event held s = rw s refl

  rpt_of : (key : Key (List ℕ)) (event : Event) → same_key (key_of port event) key ≡ true → is_rpt event.what ≡ is_rpt key.what
  rpt_of key event s = ap (λ (k : Key (List ℕ)). is_rpt k.what) (same_keys keys port (key_of port event) key s)

  pub joined : (key : Key (List ℕ)) (before events : List Event) (held : Option Machine) → AreUnits port before events → is_rpt key.what ≡ false → has_unit_of port key events ≡ true → effects port start events key held ≡ on_join start held
  unfolding effects AreUnits
  joined key before [] held units r has_unit = absurd (false≢true has_unit)
  joined key before (event ∷ events) held units r has_unit =
      elim (same_key (key_of port event) key) as (λ b. same_key (key_of port event) key ≡ b → (b || has_unit_of port key events) ≡ true → effects port start events key (effect port start event key held) ≡ on_join start held) [
        | true ↦ λ s f.
            let here : effect port start event key held ≡ on_join start held = own_first key event held s ∙ own_join start event held units.0 (rpt_of key event s ∙ r) in
            let gone : has_unit_of port key events ≡ false = apart keys port key (event ∷ before) events units.3 (ap (λ b. b || has_unit_of port key before) s) in
            ap (effects port start events key) here ∙ quiet key events (on_join start held) (gone, λ t. absurd (false≢true (sym r ∙ t)))
        | false ↦ λ s f.
            ap (effects port start events key) (quiet_one key event held s (λ t. absurd (false≢true (sym r ∙ t))))
            ∙ joined key (event ∷ before) events held units.3 r f
      ] refl has_unit

  -- ---- (S,G,rpt)

  later : (key : Key (List ℕ)) (event : Event) (before : List Event) → has_unit_of port key before ≡ true → has_unit_of port key (event ∷ before) ≡ true
  later key event before has_unit = ap (λ b. same_key (key_of port event) key || b) has_unit ∙ or_true (same_key (key_of port event) key)

  -- behind the star of its group
  pruned : (key : Key (List ℕ)) (before events : List Event) (held : Option Machine) → AreUnits port before events → is_rpt key.what ≡ true → has_unit_of port (star_at port key.group) before ≡ true → has_unit_of port key events ≡ true → effects port start events key held ≡ on_rpt_prune start held
  unfolding effects AreUnits
  pruned key before [] held units r star has_unit = absurd (false≢true has_unit)
  pruned key before (event ∷ events) held units r star has_unit =
      elim (same_key (key_of port event) key) as (λ b. same_key (key_of port event) key ≡ b → (b || has_unit_of port key events) ≡ true → effects port start events key (effect port start event key held) ≡ on_rpt_prune start held) [
        | true ↦ λ s f.
            let here : effect port start event key held ≡ on_rpt_prune start held = own_first key event held s ∙ own_prune start event held units.0 (rpt_of key event s ∙ r) in
            let gone : has_unit_of port key events ≡ false = apart keys port key (event ∷ before) events units.3 (ap (λ b. b || has_unit_of port key before) s) in
            ap (effects port start events key) here ∙ quiet key events (on_rpt_prune start held) (gone, λ t. stars.1)
        | false ↦ λ s f.
            ap (effects port start events key) (quiet_one key event held s (λ t. stars.0))
            ∙ pruned key (event ∷ before) events held units.3 r (later (star_at port key.group) event before star) f
      ] refl has_unit
    where
      stars : (same_key (key_of port event) (star_at port key.group) ≡ false) × (has_unit_of port (star_at port key.group) events ≡ false)
      stars = or_false (same_key (key_of port event) (star_at port key.group)) (has_unit_of port (star_at port key.group) events) (apart keys port (star_at port key.group) before (event ∷ events) units star)

  star_first : (key : Key (List ℕ)) (event : Event) (held : Option Machine) → creates event ≡ true → key.port ≡ port → is_rpt key.what ≡ true → same_key (key_of port event) (star_at port key.group) ≡ true → effect port start event key held ≡ on_star_join held
  star_first key event held creating on r s =
      let same : key_of port event ≡ star_at port key.group = same_keys keys port (key_of port event) (star_at port key.group) s in
      let star : is_star event.what ≡ true = ap (λ (k : Key (List ℕ)). is_star k.what) same in
      let joins : is_star_join event ≡ true = star_joins event creating star in
      let not_rpt : is_rpt event.what ≡ false = ap (λ (k : Key (List ℕ)). is_rpt k.what) same in
      let group : key.group ≡ event.group = ap (λ (k : Key (List ℕ)). k.group) (sym same) in
      other (same_key (key_of port event) key) refl not_rpt ∙ ap (λ b. cond b (on_rpts port event.group key held) held) joins ∙ rpts_own port event.group key held on group r
    where
      other : (b : Bool) → same_key (key_of port event) key ≡ b → is_rpt event.what ≡ false → cond b (on_own event.joins event.what start held) (cond (is_star_join event) (on_rpts port event.group key held) held) ≡ cond (is_star_join event) (on_rpts port event.group key held) held
      other false t n = refl
      other true t n = absurd (false≢true (sym n ∙ rpt_of key event t ∙ r))

  pub starred : (key : Key (List ℕ)) (before events : List Event) (held : Option Machine) → AreUnits port before events → key.port ≡ port → is_rpt key.what ≡ true → has_unit_of port (star_at port key.group) before ≡ false → has_unit_of port key events ≡ true → effects port start events key held ≡ on_rpt_prune start (on_star_join held)
  unfolding effects AreUnits
  starred key before [] held units on r star has_unit = absurd (false≢true has_unit)
  starred key before (event ∷ events) held units on r star has_unit =
      elim (same_key (key_of port event) (star_at port key.group)) as (λ b. same_key (key_of port event) (star_at port key.group) ≡ b → effects port start events key (effect port start event key held) ≡ on_rpt_prune start (on_star_join held)) [
        | true ↦ λ s.
            ap (effects port start events key) (star_first key event held units.0 on r s)
            ∙ pruned key (event ∷ before) events (on_star_join held) units.3 r (ap (λ b. b || has_unit_of port (star_at port key.group) before) s) (behind s)
        | false ↦ λ s.
            let own = not_own in
            ap (effects port start events key) (quiet_one key event held own.0 (λ t. s))
            ∙ starred key (event ∷ before) events held units.3 on r (ap (λ b. b || has_unit_of port (star_at port key.group) before) s ∙ star) own.1
      ] refl
    where
      split : (b : Bool) → (b || has_unit_of port key events) ≡ true → b ≡ false → has_unit_of port key events ≡ true
      split true e f = absurd (false≢true (sym f))
      split false e f = e

      -- the star is another machine
      behind : same_key (key_of port event) (star_at port key.group) ≡ true → has_unit_of port key events ≡ true
      behind s =
          let not_rpt : is_rpt event.what ≡ false = ap (λ (k : Key (List ℕ)). is_rpt k.what) (same_keys keys port (key_of port event) (star_at port key.group) s) in
          split (same_key (key_of port event) key) has_unit (by (same_key (key_of port event) key) refl not_rpt)
        where
          by : (b : Bool) → same_key (key_of port event) key ≡ b → is_rpt event.what ≡ false → b ≡ false
          by false t n = refl
          by true t n = absurd (false≢true (sym n ∙ rpt_of key event t ∙ r))

      -- the machine itself comes behind its star alone
      not_own : (same_key (key_of port event) key ≡ false) × (has_unit_of port key events ≡ true)
      not_own = by (same_key (key_of port event) key) refl has_unit
        where
          by : (b : Bool) → same_key (key_of port event) key ≡ b → (b || has_unit_of port key events) ≡ true → (b ≡ false) × (has_unit_of port key events ≡ true)
          by false t f = (refl, f)
          by true t f =
              let group : event.group ≡ key.group = ap (λ (k : Key (List ℕ)). k.group) (same_keys keys port (key_of port event) key t) in
              absurd (false≢true (sym star ∙ subst (λ (g : List ℕ). has_unit_of port (star_at port g) before ≡ true) group (units.2 (rpt_of key event t ∙ r))))
