-- A port that heard all the messages of a form asks again for what the form asks for.
use Rattle.pim_mirror.proofs.Words.{◌≡◌, ◌∙◌, ℕ, Bool, true, false, ◌&&◌, ◌||◌, ◌==◌, not, if◌then◌else◌, List, [], ◌∷◌, Option}
use Rattle.pim_mirror.proofs.Words.{None, Some, length, refl, sym, ap, ap₂, subst, is_some, list_any, false≢true, eqb-true}
use Rattle.pim_mirror.proofs.Words.{AddressFamily, RouteTable, rp_of, What, Star, Source, Rpt, Key, Downstream, RunKeepsItsBounds}
use Rattle.pim_mirror.proofs.Words.{GroupForm, AreAscending, groups_of, Agree, form_wants, IsFormOf, Writing, AreCanonical}
use Rattle.pim_mirror.proofs.Words.{via_of, rpf_neighbour, is_neighbour, demand_toward, is_joined, is_pruned, state_on, wants_on}
use Rattle.pim_mirror.proofs.Words.{some_below, wants, OneNormalForm, OneListOfMessages, Exchange, has_unit_of, Delivery}
use Rattle.pim_mirror.proofs.Words.{is_delivered, fresh, after_message, Leaves, StaysAsWanted, form_names, exchange_in, IsCarried}
use Rattle.pim_mirror.proofs.Words.{CarriesForm, AllCame, DemandsAgain, CanonicalMessagesCarryForm, DemandedStarsHaveRps}
use Rattle.pim_mirror.proofs.Words.{HeardMessagesAreDemandedAgain}
use Rattle.pim_down.specs.declared.machines.machine.State.{State}
use Rattle.pim_down.specs.declared.machines.machine.State.TheVariants.{Join, Prune}
use Rattle.pim_down.specs.declared.machines.step.Step.TheVariants.{Reached}
use Rattle.pim_down.specs.Records.{state_of, state_of_machine}
use Rattle.pim_form.specs.declared.tree.Tree.{Tree}
use Rattle.pim_form.specs.declared.tree.Tree.TheVariants.{Shared, Source as OwnTree}
use Rattle.pim_fresh.specs.Expected.{Span, up_to, span_of, state_wanted, machine_wanted as asked_machine, IsAsWanted}
use Rattle.pim_mirror.proofs.SameAddresses.{second_true, or_none}
use Rattle.pim_mirror.proofs.FormMeaning.{shared_wants}

-- ---- which machines have a span

same_truth : (a b : Bool) → (a ≡ true → b ≡ true) → (b ≡ true → a ≡ true) → a ≡ b
same_truth true b to from = sym (to refl)
same_truth false true to from = from refl
same_truth false false to from = refl

module _ (exchange : Exchange) (key : Key (List ℕ)) where
  was_named : List Delivery → Bool
  was_named deliveries = list_any (λ (d : Delivery). has_unit_of exchange.port key (exchange.messages d.message)) deliveries

  has_span : (deliveries : List Delivery) → is_some (span_of exchange key deliveries) ≡ was_named deliveries
  unfolding span_of was_named
  has_span [] = refl
  has_span (delivery ∷ earlier) =
      elim (has_unit_of exchange.port key (exchange.messages delivery.message)) as
      (λ b. is_some (if b then Some (up_to delivery.moment (span_of exchange key earlier)) else span_of exchange key earlier) ≡ (b || was_named earlier)) [
        | true ↦ refl
        | false ↦ has_span earlier
      ]

  came_named : (message : ℕ) (deliveries : List Delivery) → is_delivered message deliveries ≡ true → has_unit_of exchange.port key (exchange.messages message) ≡ true → was_named deliveries ≡ true
  unfolding was_named
  came_named message [] came listed = absurd (false≢true came)
  came_named message (delivery ∷ earlier) came listed =
      elim (delivery.message == message) as (λ b. (delivery.message == message) ≡ b → (b || is_delivered message earlier) ≡ true → (has_unit_of exchange.port key (exchange.messages delivery.message) || was_named earlier) ≡ true) [
        | true ↦ λ e f. ap (λ b. b || was_named earlier) (subst (λ (i : ℕ). has_unit_of exchange.port key (exchange.messages i) ≡ true) (sym (eqb-true delivery.message message e)) listed)
        | false ↦ λ e f. by (has_unit_of exchange.port key (exchange.messages delivery.message)) (came_named message earlier f listed)
      ] refl came
    where
      by : (a : Bool) → was_named earlier ≡ true → (a || was_named earlier) ≡ true
      by true e = refl
      by false e = e

  module _ (count : ℕ) (form : List GroupForm) (carries : CarriesForm exchange count form) where
    named_of_form : (deliveries : List Delivery) → was_named deliveries ≡ true → form_names form key.group key.what ≡ true
    unfolding was_named
    named_of_form [] listed = absurd (false≢true listed)
    named_of_form (delivery ∷ earlier) listed =
        elim (has_unit_of exchange.port key (exchange.messages delivery.message)) as
        (λ b. has_unit_of exchange.port key (exchange.messages delivery.message) ≡ b → (b || was_named earlier) ≡ true → form_names form key.group key.what ≡ true) [
          | true ↦ λ e f. (carries.no_others delivery.message key e).listed
          | false ↦ λ e f. named_of_form earlier f
        ] refl listed

    form_is_named : (deliveries : List Delivery) → AllCame count deliveries → key.port ≡ exchange.port → form_names form key.group key.what ≡ true → was_named deliveries ≡ true
    form_is_named deliveries came on listed =
        let reported : IsCarried exchange count key = carries.all key on listed in
        came_named reported.message deliveries (came reported.message reported.within) reported.listed

    abbrev asked_if : Bool → Option State
    asked_if b = if b then Some (state_wanted key.what) else None

    span_state : (moment : ℕ) (span : Option Span) → state_of_machine (asked_machine exchange moment key.what span) ≡ asked_if (is_some span)
    span_state moment None = refl
    span_state moment (Some span) = refl

    -- a machine is in the state that is asked of it where the form names it, and isn't held elsewhere
    state_asked : (deliveries : List Delivery) (moment : ℕ) (state : Downstream) → AllCame count deliveries → IsAsWanted exchange deliveries moment state → key.port ≡ exchange.port
        → state_of key state.records ≡ asked_if (form_names form key.group key.what)
    state_asked deliveries moment state came demanded on =
        ap state_of_machine (demanded key) ∙ span_state moment (span_of exchange key deliveries)
        ∙ ap asked_if (has_span deliveries ∙ same_truth (was_named deliveries) (form_names form key.group key.what) (named_of_form deliveries) (form_is_named deliveries came on))

-- ---- what is wanted

joined_if : (b : Bool) → is_joined (if b then Some Join else None) ≡ b
joined_if true = refl
joined_if false = refl

pruned_if : (b : Bool) → is_pruned (if b then Some Prune else None) ≡ b
pruned_if true = refl
pruned_if false = refl

module _ (exchange : Exchange) (first : exchange.port ≡ 0) (count : ℕ) (form : List GroupForm) (carries : CarriesForm exchange count form) (deliveries : List Delivery) (moment : ℕ) (state : Downstream)
    (came : AllCame count deliveries) (demanded : IsAsWanted exchange deliveries moment state) where
  state_is : (group : List ℕ) (what : What (List ℕ)) → state_on state.records 0 group what ≡ (if form_names form group what then Some (state_wanted what) else None)
  state_is group what = state_asked exchange (record { port = 0; group = group; what = what }) count form carries deliveries moment state came demanded (sym first)

  wanted_here : AreAscending (groups_of form) → (source group : List ℕ) (tree : Tree) → wants_on state.records source group tree 0 ≡ form_wants form source group tree
  wanted_here up source group Shared =
      ap₂ (λ a b. is_joined a && not (is_pruned b)) (state_is group Star) (state_is group (Rpt source))
      ∙ ap₂ (λ a b. a && not b) (joined_if (form_names form group Star)) (pruned_if (form_names form group (Rpt source)))
      ∙ shared_wants source group form up
  wanted_here up source group OwnTree = ap is_joined (state_is group (Source source)) ∙ joined_if (form_names form group (Source source))

  wanted_by : AreAscending (groups_of form) → state.ports ≡ 1 → (source group : List ℕ) (tree : Tree) → wants state source group tree ≡ form_wants form source group tree
  unfolding some_below
  wanted_by up ports source group tree =
      ap (λ (n : ℕ). some_below n (wants_on state.records source group tree)) ports
      ∙ or_none (wants_on state.records source group tree 0) ∙ wanted_here up source group tree

-- ---- the ports stay

leaves_ports : RunKeepsItsBounds → (exchange : Exchange) (ports limit : ℕ) (deliveries : List Delivery) (moment : ℕ) (after : Downstream) → Leaves exchange ports limit deliveries moment after → after.ports ≡ ports
unfolding Leaves
leaves_ports bounds exchange ports limit [] moment after leaves = (bounds moment (fresh ports limit) after Reached leaves).0
leaves_ports bounds exchange ports limit (delivery ∷ earlier) moment after leaves =
    (bounds moment (after_message exchange delivery.message leaves.before) after Reached leaves.runs).0
    ∙ leaves_ports bounds exchange ports limit earlier delivery.moment leaves.before leaves.was

-- ---- what is asked of the neighbour

and_known : (a b : Bool) → (a ≡ true → b ≡ true) → (a && b) ≡ a
and_known true b h = h refl
and_known false b h = refl

module _ (family : AddressFamily) (table : RouteTable) (writing : Writing) (sender : Downstream) (form : List GroupForm) (messages : List (List ℕ)) (state : Downstream)
    (is : IsFormOf family (demand_toward family table writing.upstream sender) form)
    (wanted : (source group : List ℕ) (tree : Tree) → wants state source group tree ≡ form_wants form source group tree) where
  abbrev demanding : List ℕ → List ℕ → Tree → Bool
  demanding source group tree = is_neighbour writing.upstream (rpf_neighbour (rp_of family table) (via_of family table) source group tree)

  agrees : Agree family (demand_toward family table writing.upstream state) (form_wants form)
  agrees source group tree valid is_group =
      ap (λ b. b && demanding source group tree) (wanted source group tree)
      ∙ and_known (form_wants form source group tree) (demanding source group tree)
      (λ some. second_true (wants sender source group tree) (demanding source group tree) (is.wants source group tree valid is_group ∙ some))

  asks_again : OneNormalForm → OneListOfMessages → AreCanonical family writing (rp_of family table) form messages → DemandsAgain family table writing form messages state
  asks_again one_normal one_list reported = record {
    wanted = wanted;
    is_form = record { normal = is.normal; wants = agrees };
    one_form = one;
    same_messages = λ other others is_other told_other.
        one_list family writing (rp_of family table) form others messages
        (subst (λ (f : List GroupForm). AreCanonical family writing (rp_of family table) f others) (one other is_other) told_other) reported;
  }
    where
      one : (other : List GroupForm) → IsFormOf family (demand_toward family table writing.upstream state) other → other ≡ form
      one other is_other = one_normal family other form is_other.normal is.normal
          (λ source group tree valid is_group. sym (is_other.wants source group tree valid is_group) ∙ agrees source group tree valid is_group)

pub asked_again : CanonicalMessagesCarryForm → DemandedStarsHaveRps → StaysAsWanted → RunKeepsItsBounds → OneNormalForm → OneListOfMessages → HeardMessagesAreDemandedAgain
asked_again tell_form stars stays bounds one_normal one_list family table writing sender form messages timing limit deliveries moment later state after answer sound is_writing is reported came final order timely leaves runs =
    let rps = rp_of family table in
    let exchange : Exchange = exchange_in family rps writing 0 timing messages in
    let carries : CarriesForm exchange (length messages) form = tell_form family writing rps form messages 0 timing is_writing is.normal (stars family table writing.upstream sender form sound is) reported in
    let stayed = stays exchange 1 limit deliveries moment later state after answer carries.once final order timely leaves runs in
    let ports : after.ports ≡ 1 = (bounds later state after answer runs).0 ∙ leaves_ports bounds exchange 1 limit deliveries moment state leaves in (
      stayed,
      asks_again family table writing sender form messages after is
          (wanted_by exchange refl (length messages) form carries deliveries later after came stayed.as_wanted is.normal.ascending ports) one_normal one_list reported,
    )
