-- A list of what happened that is told item by item.
use Rattle.pim_trace.proofs.Words.{◌≡◌, ◌∙◌, ◌<◌, ◌≤◌, ◌+◌, ◌-◌, ℕ, zero, suc, Bool, true, false, cond, List, [], ◌∷◌, ◌++◌}
use Rattle.pim_trace.proofs.Words.{length, drop, get_or, Option, Some, Result, Ok, Err, refl, sym, ap, subst, arith, append_assoc}
use Rattle.pim_trace.proofs.Words.{append-nil, AllByRecursion, Appends, false≢true, Appends-trans, Appends-nil, drop_more}
use Rattle.pim_trace.proofs.Words.{drop_all, map-append, AppendsFront, AppendsAll, top_count, Neighbour, Table, is_over, waited}
use Rattle.pim_trace.proofs.Words.{passed_to, no_neighbours, Happening, timed_out, timer_fired, at_moment, gone_of, gone_from}
use Rattle.pim_trace.proofs.Words.{IsCurrent, RouterState, Occurrence, Happened, Ledger, forgetting, event_on, event_of}
use Rattle.pim_trace.proofs.Words.{after_happening, events_in, after_all, WritesAll, time_outs, time_outs_on, HasBegun, Writes}
use Rattle.std.specs.Prelude.{map, filter, min, option_map, is_some}
use Rattle.std.specs.Result.{IsErr}
use Rattle.pim_trace.proofs.Written.{front-longer, front-more}
use Rattle.pim_trace.proofs.OnTheWay.{said, said_joined, ledger_joined}

abbrev EventSeen : Type 0
EventSeen = List (ℕ × Happening)

module _ (line : Occurrence → List ℕ) where
  module _ (first : Ledger) (all : EventSeen) (old : Option (List ℕ)) where
    -- The items before `left` were told.
    pub record IsTelling (ledger : Ledger) (left : EventSeen) (new : Option (List ℕ)) : Type 0 where
      pub done : EventSeen
      pub all_is : all ≡ done ++ left
      pub ledger_is : ledger ≡ after_all first done
      pub written : Appends old new (said line first done)

    pub begin : IsTelling first all old
    unfolding events_in after_all
    begin = record { done = []; all_is = refl; ledger_is = refl; written = Appends-nil old }

    module _ (ledger : Ledger) (left : EventSeen) (new : Option (List ℕ)) (w : IsTelling ledger left new) where
      -- what is left, written otherwise
      pub same_left : (other : EventSeen) → left ≡ other → IsTelling ledger other new
      same_left other e = record { done = w.done; all_is = w.all_is ∙ ap (λ l. w.done ++ l) e; ledger_is = w.ledger_is; written = w.written }

      pub all_told : left ≡ [] → (ledger ≡ after_all first all) × Appends old new (said line first all)
      all_told e =
          let is : all ≡ w.done = w.all_is ∙ ap (λ l. w.done ++ l) e ∙ append-nil w.done in
          (w.ledger_is ∙ ap (after_all first) (sym is), subst (λ t. Appends old new (said line first t)) (sym is) w.written)

      module _ (part more : EventSeen) (e : left ≡ part ++ more) where
        pub part_told : (ledger' : Ledger) (newer : Option (List ℕ)) → (ledger' ≡ after_all ledger part) × Appends new newer (said line ledger part) → IsTelling ledger' more newer
        part_told ledger' newer t =
            let here = w.ledger_is in
            record {
              done = w.done ++ part;
              all_is = w.all_is ∙ ap (λ l. w.done ++ l) e ∙ sym (append_assoc w.done part more);
              ledger_is = t.0 ∙ ap (λ l. after_all l part) here ∙ sym (ledger_joined w.done part first);
              written = subst (λ bs. Appends old newer bs)
                  (ap (λ l. said line first w.done ++ said line l part) here ∙ sym (said_joined line w.done part first))
                  (Appends-trans old new newer (said line first w.done) (said line ledger part) w.written t.1);
            }

        pub part_begun : (newer : Option (List ℕ)) → AppendsFront new newer (said line ledger part) → AppendsFront old newer (said line first all)
        part_begun newer front =
            let here = w.ledger_is in
            let whole : said line first all ≡ said line first w.done ++ (said line ledger part ++ said line (after_all ledger part) more) =
            ap (said line first) (w.all_is ∙ ap (λ l. w.done ++ l) e)
            ∙ said_joined line w.done (part ++ more) first
            ∙ ap (λ l. said line first w.done ++ said line l (part ++ more)) (sym here)
            ∙ ap (λ bs. said line first w.done ++ bs) (said_joined line part more ledger) in
            subst (λ bs. AppendsFront old newer bs) (sym whole)
            (front-more old new newer (said line first w.done) (said line ledger part ++ said line (after_all ledger part) more) w.written
            (front-longer new newer (said line ledger part) (said line (after_all ledger part) more) front))

-- ---- the neighbours of a port

module _ (port end passed : ℕ) where
  abbrev wait : List ℕ × Neighbour → List ℕ × Neighbour
  wait entry = (entry.0, waited passed entry.1)

  -- those of these neighbours whose time is over then
  pub over_in : List (List ℕ × Neighbour) → EventSeen
  over_in entries = at_moment end (map (λ (entry : List ℕ × Neighbour). timed_out port entry.0)
      (filter (λ (entry : List ℕ × Neighbour). is_over entry.1.left) (map wait entries)))

  pub over_none : over_in [] ≡ []
  unfolding over_in
  over_none = refl

  module _ (entry : List ℕ × Neighbour) (entries : List (List ℕ × Neighbour)) where
    pub over_first : is_over (waited passed entry.1).left ≡ true → over_in (entry ∷ entries) ≡ ((end, timed_out port entry.0) ∷ []) ++ over_in entries
    unfolding over_in
    over_first is = rw is refl

    pub over_not : is_over (waited passed entry.1).left ≡ false → over_in (entry ∷ entries) ≡ over_in entries
    unfolding over_in
    over_not is = rw is refl

pub over_on : (port end now passed : ℕ) (table : Table) → table.moment ≡ now → passed ≡ end - now → time_outs_on port end table ≡ over_in port end passed table.entries
unfolding over_in
over_on port end now passed table at is =
    ap (λ p. at_moment end (map (λ (entry : List ℕ × Neighbour). timed_out port entry.0)
    (filter (λ (entry : List ℕ × Neighbour). is_over entry.1.left) (map (λ (entry : List ℕ × Neighbour). (entry.0, waited p entry.1)) table.entries))))
    (ap (λ m. end - m) at ∙ sym is)

-- ---- the ports

pub all_current : (moment : ℕ) (tables : List Table) (i : ℕ) (d : Table) → AllByRecursion (IsCurrent moment) tables → i < length tables → (get_or tables i d).moment ≡ moment
all_current moment [] i d all less = absurd (omega (arith, less))
all_current moment (table ∷ tables) zero d all less = all.0.moment_now
all_current moment (table ∷ tables) (suc i) d all less = all_current moment tables i d all.1 (omega (arith, less))

-- those of the ports from this one on
pub over_from : ℕ → List Table → ℕ → EventSeen
over_from end tables port = at_moment end (gone_from port (map (passed_to end) (drop port tables)))

pub from_first : (end : ℕ) (tables : List Table) → time_outs end tables ≡ over_from end tables 0
unfolding over_from
from_first end tables = refl

pub from_next : (end : ℕ) (tables : List Table) (port : ℕ) → port < length tables →
    over_from end tables port ≡ time_outs_on port end (get_or tables port no_neighbours) ++ over_from end tables (port + 1)
unfolding over_from gone_from
from_next end tables port less =
    ap (λ ts. at_moment end (gone_from port (map (passed_to end) ts))) (drop_more tables port no_neighbours less)
    ∙ map-append (λ (happening : Happening). (end, happening)) (gone_of port (passed_to end (get_or tables port no_neighbours)))
    (gone_from (port + 1) (map (passed_to end) (drop (port + 1) tables)))

pub from_none : (end : ℕ) (tables : List Table) (port : ℕ) → length tables ≤ port → over_from end tables port ≡ []
unfolding over_from gone_from
from_none end tables port past = ap (λ ts. at_moment end (gone_from port (map (passed_to end) ts))) (drop_all port tables past)

-- ---- one item

module _ (line : Occurrence → List ℕ) (ledger ledger' : Ledger) (ms : ℕ) (happening : Happening) (old new : Option (List ℕ)) where
  one_said : said line ledger ((ms, happening) ∷ []) ≡ line (event_of ledger ms happening)
  unfolding events_in
  one_said = append-nil (line (event_of ledger ms happening))

  pub tells_one : {A E : Type 0} (r : Result A E) → ledger' ≡ after_happening happening ledger → AppendsAll old new r (line (event_of ledger ms happening)) →
      WritesAll line ((ms, happening) ∷ []) ledger ledger' old new r
  unfolding after_all
  tells_one (Ok done) is written = (is, subst (λ bs. Appends old new bs) (sym one_said) written)
  tells_one (Err fault) is written = subst (λ bs. AppendsFront old new bs) (sym one_said) written

-- ---- what stays as it was

pub same_event : (ledger ledger' : Ledger) (ms port : ℕ) (what what' : Happened) → ledger'.begin ≡ ledger.begin → what ≡ what' → event_on ledger' ms port what ≡ event_on ledger ms port what'
same_event ledger ledger' ms port what what' begin is =
    λ i. record { ms = ms; epoch = option_map (λ b. min (b + ms) top_count) (begin i); port = Some port; what = is i }

-- the fields that no happening changes
pub record Stays (ledger ledger' : Ledger) : Type 0 where
  pub begin : ledger'.begin ≡ ledger.begin
  pub frames : ledger'.frames ≡ ledger.frames
  pub own : ledger'.own ≡ ledger.own

stays_if : (ledger other : Ledger) (b : Bool) → Stays ledger other → Stays ledger (cond b ledger other)
stays_if ledger other true s = record { begin = refl; frames = refl; own = refl }
stays_if ledger other false s = s

pub after_stays : (happening : Happening) (ledger : Ledger) → Stays ledger (after_happening happening ledger)
after_stays (timed_out port address) ledger = record { begin = refl; frames = refl; own = refl }
after_stays (timer_fired firing) ledger = stays_if ledger (forgetting firing.before.key ledger) (is_some firing.after) (record { begin = refl; frames = refl; own = refl })

pub is_stays : (happening : Happening) (ledger ledger' : Ledger) → ledger' ≡ after_happening happening ledger → Stays ledger ledger'
is_stays happening ledger ledger' e = subst (λ l. Stays ledger l) (sym e) (after_stays happening ledger)

-- ---- a failed call

pub all_err : {A E : Type 0} (line : Occurrence → List ℕ) (happened : EventSeen) (ledger ledger' : Ledger) (old new : Option (List ℕ)) (r : Result A E) → IsErr r →
    AppendsFront old new (said line ledger happened) → WritesAll line happened ledger ledger' old new r
all_err line happened ledger ledger' old new (Ok done) e front = absurd (false≢true e)
all_err line happened ledger ledger' old new (Err fault) e front = front

pub tells_err : {A E : Type 0} (line : Occurrence → List ℕ) (Are : List Occurrence → Ledger → RouterState → Type 0) (ledger : Ledger) (after : RouterState) (old new : Option (List ℕ)) (r : Result A E) → IsErr r →
    HasBegun line Are old new → Writes line Are ledger after old new r
tells_err line Are ledger after old new (Ok done) e begun = absurd (false≢true e)
tells_err line Are ledger after old new (Err fault) e begun = begun
