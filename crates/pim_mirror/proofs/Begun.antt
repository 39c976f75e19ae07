-- A fresh router behind its Hellos: it goes on with the deliveries.
use Rattle.std.proofs.Common.{◌≡◌, ◌∙◌, ℕ, ◌<◌, List, [], ◌∷◌, ◌++◌, length, map, Option, sym, ap, subst, append-nil, append_assoc}
use mathlib.Core.List.{reverse_aux}
use Rattle.pim_mirror.proofs.Words.{AllByRecursion, flat_map, AddressFamily, RouteTable, IsRouteTable, rp_of, Downstream, Writing}
use Rattle.pim_mirror.proofs.Words.{IsWriting, HaveRps, AreCanonical, Delivery, Input, RouterReport, runs_to, takes, IsCourse}
use Rattle.pim_mirror.proofs.Words.{RouterState, new_router, Fresh, newest_first, end_of, setup_of, Fits, AreOf, inputs_of}
use Rattle.pim_mirror.proofs.Words.{HasMet, WrittenHellosAreRead, HellosAreHeard, DemandedStarsHaveRps, delivery_inputs}
use Rattle.pim_mirror.proofs.Words.{GoesThrough, AreMessagesOf}
use Rattle.pim_mirror.proofs.CourseSteps.{parts}

all_turned : {X : Type 0} (P : X → Type 0) (xs ys : List X) → AllByRecursion P xs → AllByRecursion P ys → AllByRecursion P (reverse_aux xs ys)
all_turned P [] ys all others = others
all_turned P (x ∷ xs) ys all others = all_turned P xs (x ∷ ys) all.1 (all.0, others)

-- what it is given, from the newest delivery back
module _ (family : AddressFamily) (writing : Writing) (messages : List (List ℕ)) where
  abbrev each : Delivery → List Input
  each = delivery_inputs family messages writing.own

  turned : (deliveries earlier : List Delivery) → inputs_of family writing 0 messages (reverse_aux deliveries earlier) ≡ inputs_of family writing 0 messages earlier ++ flat_map each deliveries
  unfolding inputs_of
  turned [] earlier = sym (append-nil (inputs_of family writing 0 messages earlier))
  turned (delivery ∷ deliveries) earlier =
      turned deliveries (delivery ∷ earlier) ∙ append_assoc (inputs_of family writing 0 messages earlier) (each delivery) (flat_map each deliveries)

  newest_last : (fresh : Fresh) → fresh.sender ≡ writing.own → flat_map (delivery_inputs family messages fresh.sender) fresh.deliveries ≡ inputs_of family writing 0 messages (newest_first fresh)
  unfolding inputs_of
  newest_last fresh sender =
      ap (λ (own : List ℕ). flat_map (delivery_inputs family messages own) fresh.deliveries) sender ∙ sym (turned fresh.deliveries [])

module _ (read : WrittenHellosAreRead) (hellos_heard : HellosAreHeard) (stars : DemandedStarsHaveRps)
    (family : AddressFamily) (table : RouteTable) (writing : Writing) (state : Downstream) (messages : List (List ℕ)) (fresh : Fresh) (needed : Option ℕ) (router : RouterState)
    (sound : IsRouteTable family table) (is_writing : IsWriting family writing) (demanded : AreMessagesOf family table writing state messages) (fits : Fits messages writing table fresh) (goes : GoesThrough family messages fresh needed router) where
  pub record Begun : Type 0 where
    pub start : RouterState
    pub reported : List RouterReport
    pub said : List RouterReport
    pub joined : goes.reported ≡ reported ++ said
    pub hellos : IsCourse family (map (λ packet. takes packet) goes.hellos) reported (new_router (setup_of fresh)) start
    pub met : HasMet writing fresh start
    pub routes : start.routes ≡ table
    pub have : HaveRps family (rp_of family start.routes) demanded.form
    pub messages_are : AreCanonical family writing (rp_of family start.routes) demanded.form messages
    pub are_of : AreOf (length messages) (newest_first fresh)
    pub course : IsCourse family (inputs_of family writing 0 messages (newest_first fresh) ++ runs_to (end_of fresh) ∷ []) said start router

  pub begun : Begun
  begun =
      let hellos : List Input = map (λ packet. takes packet) goes.hellos in
      let course = subst (λ (inputs : List Input). IsCourse family (hellos ++ (inputs ++ runs_to (end_of fresh) ∷ [])) goes.reported (new_router (setup_of fresh)) router) (newest_last family writing messages fresh fits.sender) goes.course in
      let two = parts family hellos (inputs_of family writing 0 messages (newest_first fresh) ++ runs_to (end_of fresh) ∷ []) goes.reported (new_router (setup_of fresh)) router course in
      let met : HasMet writing fresh two.between = hellos_heard family messages writing table fresh goes.hellos two.reported two.between is_writing fits (read family _ goes.hellos goes.are_hellos) two.first in
      let same : two.between.routes ≡ table = met.routes ∙ fits.routes in
      record {
        start = two.between;
        reported = two.reported;
        said = two.said;
        joined = two.joined;
        hellos = two.first;
        met = met;
        routes = same;
        have = subst (λ (t : RouteTable). HaveRps family (rp_of family t) demanded.form) (sym same) (stars family table writing.upstream state demanded.form sound demanded.is);
        messages_are = subst (λ (t : RouteTable). AreCanonical family writing (rp_of family t) demanded.form messages) (sym same) demanded.reported;
        are_of = all_turned (λ (delivery : Delivery). delivery.message < length messages) fresh.deliveries [] fits.listed tt;
        course = two.second;
      }
