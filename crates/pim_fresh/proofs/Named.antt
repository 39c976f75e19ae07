-- Which machines the events of a message name.
use Rattle.pim_fresh.proofs.Words.{◌≡◌, ℕ, Bool, true, false, ◌&&◌, ◌||◌, List, [], ◌∷◌, refl, sym, ap, subst, ◌∙◌}
use Rattle.pim_fresh.proofs.Words.{false≢true, What, Star, Source, Rpt, Key, same_key, Event, key_of, is_rpt, is_star}
use Rattle.pim_fresh.proofs.Words.{is_star_join, creates_by, creates, KeysAreDistinct, has_unit_of, star_at, AreUnits}

-- ---- tests

pub or_true : (a : Bool) → (a || true) ≡ true
or_true true = refl
or_true false = refl

pub or_false : (a b : Bool) → (a || b) ≡ false → (a ≡ false) × (b ≡ false)
or_false true b e = absurd (false≢true (sym e))
or_false false b e = (refl, e)

-- ---- keys

pub star_key : (port : ℕ) (event : Event) → is_star_join event ≡ true → key_of port event ≡ star_at port event.group
star_key port event e = by event.joins event.what e
  where
    by : (joins : Bool) (what : What (List ℕ)) → (joins && is_star what) ≡ true → key_of port (record { joins = joins; group = event.group; what = what }) ≡ star_at port event.group
    by true Star f = refl
    by true (Source source) f = absurd (false≢true f)
    by true (Rpt source) f = absurd (false≢true f)
    by false Star f = absurd (false≢true f)
    by false (Source source) f = absurd (false≢true f)
    by false (Rpt source) f = absurd (false≢true f)

-- a creating event at a (*,G) machine is a Join(*,G)
pub star_joins : (event : Event) → creates event ≡ true → is_star event.what ≡ true → is_star_join event ≡ true
star_joins event c s = by event.joins event.what c s
  where
    by : (joins : Bool) (what : What (List ℕ)) → creates_by joins what ≡ true → is_star what ≡ true → (joins && is_star what) ≡ true
    by true what c s = s
    by false Star c s = absurd (false≢true c)
    by false (Source source) c s = absurd (false≢true s)
    by false (Rpt source) c s = absurd (false≢true s)

module _ (keys : KeysAreDistinct) (port : ℕ) where
  pub same_keys : (a b : Key (List ℕ)) → same_key a b ≡ true → a ≡ b
  same_keys a b e = (keys a b).1.0 e

  pub same_itself : (a : Key (List ℕ)) → same_key a a ≡ true
  same_itself a = (keys a a).1.1 refl

  -- what is named is on the port
  pub named_port : (key : Key (List ℕ)) (events : List Event) → has_unit_of port key events ≡ true → key.port ≡ port
  named_port key [] e = absurd (false≢true e)
  named_port key (event ∷ events) e =
      elim (same_key (key_of port event) key) as (λ b. same_key (key_of port event) key ≡ b → (b || has_unit_of port key events) ≡ true → key.port ≡ port) [
        | true ↦ λ s f. ap (λ (k : Key (List ℕ)). k.port) (sym (same_keys (key_of port event) key s))
        | false ↦ λ s f. named_port key events f
      ] refl e

  -- what was named before isn't named again
  pub apart : (key : Key (List ℕ)) (before events : List Event) → AreUnits port before events → has_unit_of port key before ≡ true → has_unit_of port key events ≡ false
  unfolding AreUnits
  apart key before [] units has_unit = refl
  apart key before (event ∷ events) units has_unit =
      elim (same_key (key_of port event) key) as (λ b. same_key (key_of port event) key ≡ b → (b || has_unit_of port key events) ≡ false) [
        | true ↦ λ s. absurd (false≢true (sym (subst (λ (k : Key (List ℕ)). has_unit_of port k before ≡ false) (same_keys (key_of port event) key s) units.1) ∙ has_unit))
        | false ↦ λ s. apart key (event ∷ before) events units.3 (ap (λ b. same_key (key_of port event) key || b) has_unit ∙ or_true (same_key (key_of port event) key))
      ] refl

  -- an (S,G,rpt) machine is named only where the star of its group is
  pub star_is_named : (key : Key (List ℕ)) (before events : List Event) → AreUnits port before events → is_rpt key.what ≡ true → has_unit_of port key events ≡ true →
      (has_unit_of port (star_at port key.group) before || has_unit_of port (star_at port key.group) events) ≡ true
  unfolding AreUnits
  star_is_named key before [] units rpt has_unit = absurd (false≢true has_unit)
  star_is_named key before (event ∷ events) units rpt has_unit =
      elim (same_key (key_of port event) key) as (λ b. same_key (key_of port event) key ≡ b → (b || has_unit_of port key events) ≡ true → (has_unit_of port star before || has_unit_of port star (event ∷ events)) ≡ true) [
        | true ↦ λ s f. ap (λ b. b || has_unit_of port star (event ∷ events)) (here (same_keys (key_of port event) key s))
        | false ↦ λ s f. moved (same_key (key_of port event) star) (has_unit_of port star before) (has_unit_of port star events) (star_is_named key (event ∷ before) events units.3 rpt f)
      ] refl has_unit
    where
      star : Key (List ℕ)
      star = star_at port key.group

      here : key_of port event ≡ key → has_unit_of port star before ≡ true
      here e =
          let rpt_event : is_rpt event.what ≡ true = ap (λ (k : Key (List ℕ)). is_rpt k.what) e ∙ rpt in
          subst (λ (group : List ℕ). has_unit_of port (star_at port group) before ≡ true) (ap (λ (k : Key (List ℕ)). k.group) e) (units.2 rpt_event)

      moved : (a b c : Bool) → ((a || b) || c) ≡ true → (b || (a || c)) ≡ true
      moved true b c e = or_true b
      moved false b c e = e
