-- What an event leaves at every key, and how many records a message may make.
use Rattle.pim_down.proofs.Words.{◌≡◌, ℕ, Bool, true, false, cond, ◌&&◌, List, [], ◌∷◌, None, eqb, refl, ap, subst, ◌∙◌, false≢true, What, Star, Source, Rpt, Key, Start, Record, Event, same_key, on_star_join, on_end, IsAscending, machine_at, changed, each_changed, key_of, on_own, is_star, is_rpt, is_star_join, is_rpt_on, is_rpt_of, on_rpts, effect, effects, act, act_all, at_end, heard_at, hearing}
use Rattle.pim_down.proofs.Order.{same_keys, same_back}
use Rattle.pim_down.proofs.Map.{IsAscending-changed, at_changed, at_other_changed, IsAscending-each_changed, at_each_changed}

-- ---- nothing comes of nothing, but by an event that creates

rpts_none : (port : ℕ) (group : List ℕ) (key : Key (List ℕ)) → on_rpts port group key None ≡ None
unfolding on_star_join
rpts_none port group key = elim (is_rpt_of port group key) as (λ b. cond b (on_star_join None) None ≡ None) [ true ↦ refl | false ↦ refl ]

end_none : (port : ℕ) (key : Key (List ℕ)) → at_end port key None ≡ None
unfolding on_end
end_none port key = elim (is_rpt_on port key) as (λ b. cond b (on_end None) None ≡ None) [ true ↦ refl | false ↦ refl ]

-- ---- what an event leaves at every key

pub IsAscending-act : (port : ℕ) (start : Start) (event : Event) (records : List (Record (List ℕ))) → IsAscending records → IsAscending (act port start event records)
IsAscending-act port start event records a =
    let own = changed (key_of port event) (on_own event.joins event.what start) records in
    let b = IsAscending-changed (key_of port event) (on_own event.joins event.what start) records a in
    elim (is_star_join event) as (λ s. IsAscending (cond s (each_changed (on_rpts port event.group) own) own)) [
      | true ↦ IsAscending-each_changed (on_rpts port event.group) own b
      | false ↦ b
    ]

pub IsAscending-act_all : (port : ℕ) (start : Start) (events : List Event) (records : List (Record (List ℕ))) → IsAscending records → IsAscending (act_all port start events records)
unfolding act_all
IsAscending-act_all port start [] records a = a
IsAscending-act_all port start (event ∷ events) records a = IsAscending-act_all port start events (act port start event records) (IsAscending-act port start event records a)

pub IsAscending-hearing : (port : ℕ) (start : Start) (events : List Event) (records : List (Record (List ℕ))) → IsAscending records → IsAscending (hearing port start events records)
IsAscending-hearing port start events records a = IsAscending-each_changed (at_end port) (act_all port start events records) (IsAscending-act_all port start events records a)

own_at : (port : ℕ) (start : Start) (event : Event) (records : List (Record (List ℕ))) → IsAscending records → (key : Key (List ℕ)) → machine_at key (changed (key_of port event) (on_own event.joins event.what start) records) ≡ cond (same_key (key_of port event) key) (on_own event.joins event.what start (machine_at key records)) (machine_at key records)
own_at port start event records a key =
    let change = on_own event.joins event.what start in
    elim (same_key (key_of port event) key) as (λ b. same_key (key_of port event) key ≡ b → machine_at key (changed (key_of port event) change records) ≡ cond b (change (machine_at key records)) (machine_at key records)) [
      | true ↦ λ e. subst (λ (k : Key (List ℕ)). machine_at k (changed (key_of port event) change records) ≡ change (machine_at k records)) (same_keys (key_of port event) key e) (at_changed (key_of port event) change records a)
      | false ↦ λ e. at_other_changed (key_of port event) change key records (same_back (key_of port event) key e)
    ] refl

-- the machine that a Join(*,G) names is no (S,G,rpt) machine
star_no_rpt : (port : ℕ) (event : Event) (key : Key (List ℕ)) → is_star_join event ≡ true → same_key (key_of port event) key ≡ true → is_rpt_of port event.group key ≡ false
star_no_rpt port event key star same = subst (λ (k : Key (List ℕ)). is_rpt_of port event.group k ≡ false) (same_keys (key_of port event) key same) (by event.joins event.what star)
  where
    and_false : (b : Bool) → (b && false) ≡ false
    and_false true = refl
    and_false false = refl

    star_is : (w : What (List ℕ)) → is_star w ≡ true → is_rpt w ≡ false
    star_is Star e = refl
    star_is (Source s) e = refl
    star_is (Rpt s) e = absurd (false≢true e)

    second : (b c : Bool) → (b && c) ≡ true → c ≡ true
    second true c e = e
    second false c e = absurd (false≢true e)

    by : (j : Bool) (w : What (List ℕ)) → (j && is_star w) ≡ true → is_rpt_of port event.group (record { port = port; group = event.group; what = w }) ≡ false
    by j w e = rw (star_is w (second j (is_star w) e), and_false (eqb port port)) refl

pub at_act : (port : ℕ) (start : Start) (event : Event) (records : List (Record (List ℕ))) → IsAscending records → (key : Key (List ℕ)) → machine_at key (act port start event records) ≡ effect port start event key (machine_at key records)
at_act port start event records a key =
    let own = changed (key_of port event) (on_own event.joins event.what start) records in
    let here = own_at port start event records a key in
    elim (is_star_join event) as (λ s. is_star_join event ≡ s → machine_at key (cond s (each_changed (on_rpts port event.group) own) own) ≡ cond (same_key (key_of port event) key) (on_own event.joins event.what start (machine_at key records)) (cond s (on_rpts port event.group key (machine_at key records)) (machine_at key records))) [
      | true ↦ λ star. at_each_changed (on_rpts port event.group) (rpts_none port event.group) key own (IsAscending-changed (key_of port event) (on_own event.joins event.what start) records a)
          ∙ ap (on_rpts port event.group key) here
          ∙ star_case star (same_key (key_of port event) key) refl
      | false ↦ λ star. here
    ] refl
  where
    star_case : is_star_join event ≡ true → (b : Bool) → same_key (key_of port event) key ≡ b → on_rpts port event.group key (cond b (on_own event.joins event.what start (machine_at key records)) (machine_at key records)) ≡ cond b (on_own event.joins event.what start (machine_at key records)) (on_rpts port event.group key (machine_at key records))
    star_case star true e = rw (star_no_rpt port event key star e) refl
    star_case star false e = refl

pub at_all : (port : ℕ) (start : Start) (events : List Event) (records : List (Record (List ℕ))) → IsAscending records → (key : Key (List ℕ)) → machine_at key (act_all port start events records) ≡ effects port start events key (machine_at key records)
unfolding act_all effects
at_all port start [] records a key = refl
at_all port start (event ∷ events) records a key =
    at_all port start events (act port start event records) (IsAscending-act port start event records a) key
    ∙ ap (effects port start events key) (at_act port start event records a key)

pub at_hearing_end : (port : ℕ) (records : List (Record (List ℕ))) → IsAscending records → (key : Key (List ℕ)) → machine_at key (each_changed (at_end port) records) ≡ at_end port key (machine_at key records)
at_hearing_end port records a key = at_each_changed (at_end port) (end_none port) key records a

pub at_hearing : (port : ℕ) (start : Start) (events : List Event) (records : List (Record (List ℕ))) → IsAscending records → (key : Key (List ℕ)) → machine_at key (hearing port start events records) ≡ heard_at port start events key (machine_at key records)
at_hearing port start events records a key =
    at_hearing_end port (act_all port start events records) (IsAscending-act_all port start events records a) key
    ∙ ap (at_end port key) (at_all port start events records a key)
