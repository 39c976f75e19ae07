-- A mirror of a form is settled at it.
use Rattle.std.proofs.Common.{◌≡◌, ◌∙◌, ℕ, ◌+◌, ◌-◌, ◌≤◌, max, Bool, true, false, ◌&&◌, ◌||◌, cond, if◌then◌else◌, ◌==◌, List, [], ◌∷◌, length, Option, None, Some, refl, sym, ap, subst, arith}
use Rattle.std.specs.List.{AllByRecursion}
use Rattle.std.specs.List.Sorted.{IsStrictlySortedBy}
use Rattle.std.specs.Option.{is_some}
use Rattle.std.specs.Ordering.{nat_cmp, is_eq}
use Rattle.std.specs.declared.cmp.Ordering.TheVariants.{Less}
use Rattle.std.specs.Cmp.Lexicographic.{slice_cmp, same_text, texts_ties}
use Rattle.std.proofs.lemmas.Bool.{false≢true}
use Rattle.pim_down.specs.declared.machines.key.What.{What}
use Rattle.pim_down.specs.declared.machines.key.What.TheVariants.{Star, Source, Rpt}
use Rattle.pim_down.specs.declared.machines.key.Key.{Key}
use Rattle.pim_down.specs.declared.machines.machine.Machine.{Machine}
use Rattle.pim_down.specs.declared.machines.machine.State.{State}
use Rattle.pim_down.specs.Records.{machine_at, state_of_machine}
use Rattle.pim_down.specs.Time.{Downstream, expiry_after}
use Rattle.pim_form.specs.NormalForm.{GroupForm, AreAscending, same_address, is_listed, groups_of}
use Rattle.pim_form.specs.Rows.{exceptions_of}
use Rattle.pim_form.specs.Settled.{group_in, is_in_join, is_in_no_info, joins_if, prunes_if, rpt_settles, machine_settles}
use Rattle.pim_form.specs.Wants.{is_pruned, state_on}
use Rattle.pim_fresh.specs.Deliveries.{Delivery, IsShorter, last_of, final_moment, is_delivered}
use Rattle.pim_fresh.specs.Exchange.{Exchange}
use Rattle.pim_fresh.specs.Expected.{state_wanted}
use Rattle.pim_mirror.specs.CanonicalUnits.{group_names, form_names}
use Rattle.pim_mirror.specs.Config.{newest_first, interval_of}
use Rattle.pim_mirror.specs.Fits.{expiry_of}
use Rattle.pim_mirror.specs.Headline.{fresh_exchange, HoldsTheForm}
use Rattle.pim_moving.specs.Laws.{MirrorIsSettled}

-- ---- what a form names of a group

none_behind : (group : List ℕ) (what : What (List ℕ)) (form : List GroupForm) → AllByRecursion (λ g. slice_cmp nat_cmp group g ≡ Less) (groups_of form) → form_names form group what ≡ false
none_behind group what [] below = refl
none_behind group what (this ∷ form) below =
    ap (λ b. (b && group_names this what) || form_names form group what) (texts_ties group this.group ∙ ap is_eq below.0) ∙ none_behind group what form below.1

or_none : (a b : Bool) → b ≡ false → (a || b) ≡ a
or_none true b e = refl
or_none false b e = e

nothing_named : (group : List ℕ) (what : What (List ℕ)) → false ≡ group_names (group_in group []) what
unfolding group_in
nothing_named group Star = refl
nothing_named group (Source source) = refl
nothing_named group (Rpt source) = refl

names_its_group : (form : List GroupForm) (group : List ℕ) (what : What (List ℕ)) → AreAscending (groups_of form) → form_names form group what ≡ group_names (group_in group form) what
unfolding group_in IsStrictlySortedBy
names_its_group [] group what up = nothing_named group what
names_its_group (this ∷ form) group what up =
    elim (same_address group this.group) as (λ b. same_address group this.group ≡ b → ((b && group_names this what) || form_names form group what) ≡ group_names (cond b this (group_in group form)) what) [
      | true ↦ λ s.
          let same : group ≡ this.group = same_text group this.group (sym s) in
          or_none (group_names this what) (form_names form group what)
          (none_behind group what form (subst (λ (g : List ℕ). AllByRecursion (λ h. slice_cmp nat_cmp g h ≡ Less) (groups_of form)) (sym same) up.0))
      | false ↦ λ s. names_its_group form group what up.1
    ] refl

-- ---- a machine that is held exactly if it is named, in its state

record IsAsNamed (named : Bool) (what : What (List ℕ)) (state : Option State) : Type 0 where
  held : named ≡ true → state ≡ Some (state_wanted what)
  others : named ≡ false → state ≡ None

joins : (named : Bool) (state : Option State) (what : What (List ℕ)) → is_in_join (Some (state_wanted what)) ≡ true → IsAsNamed named what state → joins_if named state ≡ true
joins true state what e is = ap is_in_join (is.held refl) ∙ e
joins false state what e is = ap is_in_no_info (is.others refl)

rpt_is : (star : Option (List (List ℕ))) (source : List ℕ) (state : Option State) → IsAsNamed (is_listed source (exceptions_of star)) (Rpt source) state → rpt_settles star source state ≡ true
rpt_is None source state is = ap (λ s. is_pruned s || is_in_no_info s) (is.others refl)
rpt_is (Some exceptions) source state is =
    elim (is_listed source exceptions) as (λ b. is_listed source exceptions ≡ b → prunes_if b state ≡ true) [
      | true ↦ λ e. ap is_pruned (is.held e)
      | false ↦ λ e. ap is_in_no_info (is.others e)
    ] refl

settles : (this : GroupForm) (what : What (List ℕ)) (state : Option State) → IsAsNamed (group_names this what) what state → machine_settles this what state ≡ true
settles this Star state is = joins (is_some this.star) state Star refl is
settles this (Source source) state is = joins (is_listed source this.sources) state (Source source) refl is
settles this (Rpt source) state is = rpt_is this.star source state is

-- ---- what the mirror holds

module _ (exchange : Exchange) (count : ℕ) (form : List GroupForm) (deliveries : List Delivery) (moment : ℕ) (state : Downstream) (holds : HoldsTheForm exchange count form deliveries moment state) where
  not_held : (machine : Option Machine) → (is_some machine ≡ true → ⊥) → machine ≡ None
  not_held None none = refl
  not_held (Some machine) none = absurd (none refl)

  as_named : AreAscending (groups_of form) → (group : List ℕ) (what : What (List ℕ)) → IsAsNamed (group_names (group_in group form) what) what (state_on state.records exchange.port group what)
  as_named up group what = record {
    held = λ e. ap state_of_machine (holds.held key refl (names ∙ e)).is;
    others = λ e. ap state_of_machine (not_held (machine_at key state.records) (λ some. false≢true (sym (names ∙ e) ∙ (holds.no_others key some).1)));
  }
    where
      key : Key (List ℕ)
      key = record { port = exchange.port; group = group; what = what }

      names : form_names form group what ≡ group_names (group_in group form) what
      names = names_its_group form group what up

-- ---- its timers

last_by : (interval message last : ℕ) (deliveries : List Delivery) → last_of message deliveries ≡ Some last → last ≤ final_moment interval deliveries
unfolding last_of final_moment
last_by interval message last [] e = absurd (none e)
  where
    none : ◌≡◌ {A = Option ℕ} None (Some last) → ⊥
    none f = cc
last_by interval message last (delivery ∷ earlier) e = by (delivery.message == message) e (last_by interval message last earlier)
  where
    some : ◌≡◌ {A = Option ℕ} (Some delivery.moment) (Some last) → delivery.moment ≡ last
    some f = cc

    here : (b : Bool) → delivery.moment ≤ max (if b then delivery.moment else delivery.moment + interval) (final_moment interval earlier)
    here true = omega arith
    here false = omega arith

    by : (b : Bool) → (if b then Some delivery.moment else last_of message earlier) ≡ Some last → (last_of message earlier ≡ Some last → last ≤ final_moment interval earlier)
        → last ≤ max (if is_delivered delivery.message earlier then delivery.moment else delivery.moment + interval) (final_moment interval earlier)
    by true f before = subst (λ n. n ≤ max (if is_delivered delivery.message earlier then delivery.moment else delivery.moment + interval) (final_moment interval earlier)) (some f) (here (is_delivered delivery.message earlier))
    by false f before = omega (arith, before f)

time_left : (last moment came : ℕ) (expiry : Option ℕ) → came ≤ moment → moment ≤ last → IsShorter (last - came) expiry → IsShorter (last - moment) (expiry_after (moment - came) expiry)
time_left last moment came None before early p = tt
time_left last moment came (Some ends) before early p = omega (arith, before, early, p)

pub settled : MirrorIsSettled
settled family table writing form messages fresh moment last reported later normal from early alive mirrors = (
  λ group what. settles (group_in group form) what (state_on later.machines.records 0 group what) (as_named exchange (length messages) form (newest_first fresh) moment later.machines mirrors.holds normal.ascending group what),
  λ key machine e. lasts key machine e,
)
  where
    exchange : Exchange
    exchange = fresh_exchange family table writing messages fresh

    lasts : (key : Key (List ℕ)) (machine : Machine) → machine_at key later.machines.records ≡ Some machine → IsShorter (last - later.machines.moment) machine.expires_in
    lasts key machine e =
        let named = mirrors.holds.no_others key (ap is_some e) in
        let held = mirrors.holds.held key named.0 named.1 in
        let left = time_left last moment held.last (expiry_of writing.holdtime) (omega (arith, from, last_by (interval_of fresh) held.message held.last (newest_first fresh) held.came)) early (alive held.message held.last held.came) in
        let same : machine ≡ record { state = state_wanted key.what; expires_in = expiry_after (moment - held.last) (expiry_of writing.holdtime); pending = None } = cc in
        subst (λ (m : Machine). IsShorter (last - later.machines.moment) m.expires_in) (sym same) (subst (λ (n : ℕ). IsShorter (last - n) (expiry_after (moment - held.last) (expiry_of writing.holdtime))) (sym mirrors.moment_is) left)
