-- What is told while time passes, from the start up to now.
use Rattle.pim_trace.proofs.Words.{◌≡◌, ◌∙◌, ◌≤◌, ℕ, List, [], ◌∷◌, ◌++◌, Option, Result, Ok, Err, refl, sym, ap, subst}
use Rattle.pim_trace.proofs.Words.{append_assoc, append-nil, arith, flat_map, Appends, Appends-trans, Appends-nil, AppendsFront}
use Rattle.pim_trace.proofs.Words.{Happening, Passes, Happens, HappeningGoesOn, EveryStateGoesOn, RouterState, Occurrence, Ledger}
use Rattle.pim_trace.proofs.Words.{event_of, after_happening, events_in, after_all, PassesTime, HasWritten, HasBegun, Writes}
use Rattle.std.proofs.lemmas.List.Concat.{flat_map-append}
use Rattle.pim_trace.proofs.Written.{front-longer, front-more}

abbrev EventSeen : Type 0
EventSeen = List (ℕ × Happening)

-- ---- events of two parts

pub events_joined : (xs ys : EventSeen) (ledger : Ledger) → events_in ledger (xs ++ ys) ≡ events_in ledger xs ++ events_in (after_all ledger xs) ys
unfolding events_in after_all
events_joined [] ys ledger = refl
events_joined (x ∷ xs) ys ledger = ap (λ es. event_of ledger x.0 x.1 ∷ es) (events_joined xs ys (after_happening x.1 ledger))

pub ledger_joined : (xs ys : EventSeen) (ledger : Ledger) → after_all ledger (xs ++ ys) ≡ after_all (after_all ledger xs) ys
unfolding after_all
ledger_joined [] ys ledger = refl
ledger_joined (x ∷ xs) ys ledger = ledger_joined xs ys (after_happening x.1 ledger)

-- ---- on the way

module _ (line : Occurrence → List ℕ) where
  abbrev pub said : Ledger → EventSeen → List ℕ
  said ledger happened = flat_map line (events_in ledger happened)

  pub said_joined : (xs ys : EventSeen) (ledger : Ledger) → said ledger (xs ++ ys) ≡ said ledger xs ++ said (after_all ledger xs) ys
  said_joined xs ys ledger = ap (flat_map line) (events_joined xs ys ledger) ∙ flat_map-append line (events_in ledger xs) (events_in (after_all ledger xs) ys)

  module _ (moment : ℕ) (first : Ledger) (start : RouterState) (old : Option (List ℕ)) where
    -- What happens from here happens from the start, behind what was told so far.
    pub record IsOnTheWay (ledger : Ledger) (now : RouterState) (new : Option (List ℕ)) : Type 0 where
      pub done : EventSeen
      pub goes_on : (more : EventSeen) (after : RouterState) → Happens moment now more after → Happens moment start (done ++ more) after
      pub ledger_is : ledger ≡ after_all first done
      pub written : Appends old new (said first done)

    pub begin : IsOnTheWay first start old
    unfolding events_in after_all
    begin = record {
      done = [];
      goes_on = λ more after happens. happens;
      ledger_is = refl;
      written = Appends-nil old;
    }

    module _ (go : HappeningGoesOn) (ledger : Ledger) (now : RouterState) (new : Option (List ℕ)) (w : IsOnTheWay ledger now new)
        (earlier : ℕ) (le : earlier ≤ moment) (happened : EventSeen) (then : RouterState) (passes : Passes earlier now happened then) (newer : Option (List ℕ)) where
      -- this much further
      pub further : (ledger' : Ledger) → ledger' ≡ after_all ledger happened → Appends new newer (said ledger happened) → IsOnTheWay ledger' then newer
      further ledger' is written =
          let here = w.ledger_is in
          record {
            done = w.done ++ happened;
            goes_on = λ more after happens. subst (λ t. Happens moment start t after) (sym (append_assoc w.done happened more))
                (w.goes_on (happened ++ more) after (go earlier moment now then after happened more le passes happens));
            ledger_is = is ∙ ap (λ l. after_all l happened) here ∙ sym (ledger_joined w.done happened first);
            written = subst (λ bs. Appends old newer bs)
                (ap (λ l. said first w.done ++ said l happened) here ∙ sym (said_joined w.done happened first))
                (Appends-trans old new newer (said first w.done) (said ledger happened) w.written written);
          }

      -- a front of what is said of this was written
      pub stopped : EveryStateGoesOn → AppendsFront new newer (said ledger happened) → HasBegun line (PassesTime moment first start) old newer
      stopped every front =
          let here = w.ledger_is in
          let rest = every moment then in
          let all : EventSeen = w.done ++ (happened ++ rest.reported) in
          let parts : flat_map line (events_in first all) ≡ said first w.done ++ (said ledger happened ++ said (after_all ledger happened) rest.reported) =
          said_joined w.done (happened ++ rest.reported) first
          ∙ ap (λ l. said first w.done ++ said l (happened ++ rest.reported)) (sym here)
          ∙ ap (λ bs. said first w.done ++ bs) (said_joined happened rest.reported ledger) in
          record {
            events = events_in first all;
            ledger = after_all first all;
            after = rest.after;
            are = record {
              happened = all;
              happens = w.goes_on (happened ++ rest.reported) rest.after (go earlier moment now then rest.after happened rest.reported le passes rest.happens);
              events_are = refl;
              ledger_is = refl;
            };
            written = subst (λ bs. AppendsFront old newer bs) (sym parts)
                (front-more old new newer (said first w.done) (said ledger happened ++ said (after_all ledger happened) rest.reported) w.written
                (front-longer new newer (said ledger happened) (said (after_all ledger happened) rest.reported) front));
          }

    module _ (ledger : Ledger) (now : RouterState) (new : Option (List ℕ)) (w : IsOnTheWay ledger now new) where
      -- the moment is reached, and nothing more happened
      pub arrived : (then : RouterState) → Happens moment now [] then → HasWritten line (PassesTime moment first start) ledger then old new
      arrived then happens =
          let none : w.done ++ [] ≡ w.done = append-nil w.done in
          record {
            events = events_in first w.done;
            are = record {
              happened = w.done;
              happens = subst (λ t. Happens moment start t then) none (w.goes_on [] then happens);
              events_are = refl;
              ledger_is = w.ledger_is;
            };
            written = w.written;
          }

      module _ (go : HappeningGoesOn) (earlier : ℕ) (le : earlier ≤ moment) where
        -- a part up to an earlier moment was told
        pub part_told : (ledger' : Ledger) (then : RouterState) (newer : Option (List ℕ)) → HasWritten line (PassesTime earlier ledger now) ledger' then new newer → IsOnTheWay ledger' then newer
        part_told ledger' then newer t =
            further go ledger now new w earlier le t.are.happened then t.are.happens.passes newer ledger' t.are.ledger_is
            (subst (λ es. Appends new newer (flat_map line es)) t.are.events_are t.written)

        -- a part up to the moment was told, and that is all
        pub all_told : (ledger' : Ledger) (then : RouterState) (newer : Option (List ℕ)) → HasWritten line (PassesTime moment ledger now) ledger' then new newer →
            HasWritten line (PassesTime moment first start) ledger' then old newer
        all_told ledger' then newer t =
            let here = w.ledger_is in
            let all : EventSeen = w.done ++ t.are.happened in
            record {
              events = events_in first all;
              are = record {
                happened = all;
                happens = w.goes_on t.are.happened then t.are.happens;
                events_are = refl;
                ledger_is = t.are.ledger_is ∙ ap (λ l. after_all l t.are.happened) here ∙ sym (ledger_joined w.done t.are.happened first);
              };
              written = subst (λ bs. Appends old newer bs)
                  (ap (λ l. said first w.done ++ said l t.are.happened) here ∙ sym (said_joined w.done t.are.happened first))
                  (Appends-trans old new newer (said first w.done) (said ledger t.are.happened) w.written
                  (subst (λ es. Appends new newer (flat_map line es)) t.are.events_are t.written));
            }

        -- a part up to an earlier moment began
        pub part_begun : EveryStateGoesOn → (newer : Option (List ℕ)) → HasBegun line (PassesTime earlier ledger now) new newer → HasBegun line (PassesTime moment first start) old newer
        part_begun every newer t =
            stopped go ledger now new w earlier le t.are.happened t.after t.are.happens.passes newer every
            (subst (λ es. AppendsFront new newer (flat_map line es)) t.are.events_are t.written)

        -- what the last part tells
        pub rest_tells : {A E : Type 0} → EveryStateGoesOn → (ledger' : Ledger) (then : RouterState) (newer : Option (List ℕ)) (r : Result A E) → Writes line (PassesTime moment ledger now) ledger' then new newer r →
            Writes line (PassesTime moment first start) ledger' then old newer r
        rest_tells every ledger' then newer (Ok fine) t = all_told ledger' then newer t
        rest_tells every ledger' then newer (Err fault) t =
            stopped go ledger now new w moment (omega arith) t.are.happened t.after t.are.happens.passes newer every
            (subst (λ es. AppendsFront new newer (flat_map line es)) t.are.events_are t.written)
