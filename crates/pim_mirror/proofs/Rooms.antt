-- A message has no room exactly where the units of the different messages pass the limit.
use Rattle.pim_mirror.proofs.Words.{◌≡◌, ◌∙◌, ℕ, ◌≤◌, Bool, true, false, nat_lt, if◌then◌else◌, List, [], ◌∷◌, ◌++◌, length, map}
use Rattle.pim_mirror.proofs.Words.{Option, None, Some, refl, sym, ap, ap₂, subst, arith, append_assoc, zero-le, le-ltb}
use Rattle.pim_mirror.proofs.Words.{ltb-false, ltb-true, AddressFamily, RouteTable, IsRouteTable, rp_of, Timing, start_of}
use Rattle.pim_mirror.proofs.Words.{GroupForm, IsNormal, Writing, IsWriting, HaveRps, AreCanonical, Exchange, Delivery, IsTimely}
use Rattle.pim_mirror.proofs.Words.{Input, RouterReport, echo, refresh, verdict, takes, runs_to, Reaches, IsCourse, Packet}
use Rattle.pim_mirror.proofs.Words.{received, RouterState, new_router, Verdict, Neighbour, Fresh, newest_first, end_of, setup_of}
use Rattle.pim_mirror.proofs.Words.{neighbours, AreOf, HoldsNothing, Lasts, inputs_of, IsTaken, exchange_in, packet_of}
use Rattle.pim_mirror.proofs.Words.{HearsWriter, heard_exchange, AreHellosFrom, timing_of, WrittenHellosAreRead, HellosAreHeard}
use Rattle.pim_mirror.proofs.Words.{DemandedStarsHaveRps, DeliveryIsTaken, CourseHearsAll, needed_by, or_later, first_needed}
use Rattle.pim_mirror.proofs.Words.{GoesThrough, Fits, Downstream, AreMessagesOf, fresh_exchange, all_entries, if_over}
use Rattle.pim_mirror.proofs.Words.{first_over, RoomIsForTheUnits}
use Rattle.pim_fresh.specs.Expected.{units_of}
use Rattle.pim_mirror.proofs.EntryCounts.{units_are_entries}
use Rattle.pim_mirror.proofs.Begun.{Begun, begun}
use Rattle.pim_mirror.proofs.Course.{fewer_units, timely_before}
use Rattle.pim_mirror.proofs.CourseSteps.{parts, last_run, first_by}
use Rattle.pim_mirror.proofs.Hellos.{hello_wants_no_room}
use Rattle.pim_mirror.proofs.Quiet.{took}
use Rattle.pim_mirror.proofs.Ways.{joined}

-- ---- within the limit

not_some : (count : ℕ) → ◌≡◌ {A = Option ℕ} (Some count) None → ⊥
not_some count e = cc

second_none : (a b : Option ℕ) → or_later a b ≡ None → b ≡ None
second_none None b e = e
second_none (Some n) b e = absurd (not_some n e)

isnt_over : (limit count : ℕ) → if_over limit count ≡ None → count ≤ limit
isnt_over limit count e = by (nat_lt limit count) refl e
  where
    by : (b : Bool) → nat_lt limit count ≡ b → (if b then Some count else None) ≡ None → count ≤ limit
    by true t f = absurd (not_some count f)
    by false t f = ltb-false limit count t

pub within : (exchange : Exchange) (limit : ℕ) (deliveries : List Delivery) → first_over exchange limit deliveries ≡ None → length (units_of exchange deliveries) ≤ limit
unfolding first_over units_of
within exchange limit [] e = zero-le
within exchange limit (delivery ∷ earlier) e =
    isnt_over limit (length (units_of exchange (delivery ∷ earlier)))
    (second_none (first_over exchange limit earlier) (if_over limit (length (units_of exchange (delivery ∷ earlier)))) e)

pub never_over : (exchange : Exchange) (limit : ℕ) (deliveries : List Delivery) → length (units_of exchange deliveries) ≤ limit → first_over exchange limit deliveries ≡ None
unfolding first_over
never_over exchange limit [] few = refl
never_over exchange limit (delivery ∷ earlier) few =
    ap₂ (λ (a : Option ℕ) (b : Bool). or_later a (if b then Some (length (units_of exchange (delivery ∷ earlier))) else None))
    (never_over exchange limit earlier (fewer_units exchange limit delivery earlier few)) (le-ltb limit (length (units_of exchange (delivery ∷ earlier))) few)

-- ---- what a course tells

run_needs_none : (moment : ℕ) (reported : List RouterReport) (start after : RouterState) → Reaches moment reported start after → first_needed reported ≡ None
unfolding Reaches first_needed
run_needs_none moment [] start after reaches = refl
run_needs_none moment (echo port group what ∷ more) start after reaches = run_needs_none moment more reaches.0 after reaches.2
run_needs_none moment (refresh ∷ more) start after reaches = run_needs_none moment more reaches.0 after reaches.2
run_needs_none moment (verdict of_packet ∷ more) start after reaches = absurd reaches

or_none : (a : Option ℕ) → or_later a None ≡ a
or_none None = refl
or_none (Some n) = refl

needed_as : (reported before behind : List RouterReport) (a b : Option ℕ) → reported ≡ before ++ behind → first_needed before ≡ a → first_needed behind ≡ b → first_needed reported ≡ or_later a b
needed_as reported before behind a b split first second = ap first_needed split ∙ joined before behind ∙ ap₂ or_later first second

last_needs_none : (family : AddressFamily) (moment : ℕ) (reported : List RouterReport) (start after : RouterState) → IsCourse family (runs_to moment ∷ []) reported start after → first_needed reported ≡ None
unfolding first_needed
last_needs_none family moment reported start after course =
    let run = last_run family moment reported start after course in
    needed_as reported run.said [] None None run.is (run_needs_none moment run.said start after run.reaches) refl

packet_needs : (family : AddressFamily) (packet : Packet) (reported : List RouterReport) (start after : RouterState) → IsCourse family (takes packet ∷ []) reported start after → first_needed reported ≡ needed_by (received family packet start).0
unfolding first_needed
packet_needs family packet reported start after course =
    ap first_needed (took family packet reported start after course).told_is ∙ or_none (needed_by (received family packet start).0)

hellos_need_none : (family : AddressFamily) (neighbours : List Neighbour) (hellos : List Packet) (reported : List RouterReport) (start after : RouterState) → AreHellosFrom family neighbours hellos
    → IsCourse family (map (λ packet. takes packet) hellos) reported start after → first_needed reported ≡ None
unfolding IsCourse AreHellosFrom first_needed
hellos_need_none family [] [] reported start after are course = ap first_needed course.0
hellos_need_none family [] (hello ∷ hellos) reported start after are course = absurd are
hellos_need_none family (neighbour ∷ neighbours) [] reported start after are course = absurd are
hellos_need_none family (neighbour ∷ neighbours) (hello ∷ hellos) reported start after are course =
    needed_as reported course.before course.behind None None course.joined
    (ap first_needed course.begins.0 ∙ or_none (needed_by (received family hello start).0) ∙ hello_wants_no_room family hello start are.0.body are.0.holds)
    (hellos_need_none family neighbours hellos course.behind course.between after are.1 course.goes_on)

module _ (taken : DeliveryIsTaken) (course_hears : CourseHearsAll)
    (family : AddressFamily) (writing : Writing) (form : List GroupForm) (messages : List (List ℕ)) (timing : Timing) (limit last : ℕ) (start : RouterState)
    (is_writing : IsWriting family writing) (is : IsNormal family form) (have : HaveRps family (rp_of family start.routes) form) (are : AreCanonical family writing (rp_of family start.routes) form messages)
    (nothing : HoldsNothing limit start) (lasts : Lasts last start) (hears : HearsWriter writing 0 timing start) where
  abbrev exchange : Exchange
  exchange = heard_exchange family writing 0 timing messages start

  abbrev packet : Delivery → Packet
  packet delivery = packet_of family writing 0 messages delivery.message

  verdict_needs : (delivery : Delivery) (earlier : List Delivery) (before : RouterState) → IsTaken family exchange limit delivery earlier (packet delivery) before
      → needed_by (received family (packet delivery) before).0 ≡ if_over limit (length (units_of exchange (delivery ∷ earlier)))
  verdict_needs delivery earlier before is_taken = by (nat_lt limit (length (units_of exchange (delivery ∷ earlier)))) refl
    where
      by : (b : Bool) → nat_lt limit (length (units_of exchange (delivery ∷ earlier))) ≡ b
          → needed_by (received family (packet delivery) before).0 ≡ (if b then Some (length (units_of exchange (delivery ∷ earlier))) else None)
      by true e = ap (λ (end : Verdict × RouterState). needed_by end.0) (is_taken.full (ltb-true limit (length (units_of exchange (delivery ∷ earlier))) e))
      by false e = ap (λ (end : Verdict × RouterState). needed_by end.0) (is_taken.applied (ltb-false limit (length (units_of exchange (delivery ∷ earlier))) e))

  either : (a x y : Option ℕ) → (a ≡ None → x ≡ y) → or_later a x ≡ or_later a y
  either None x y same = same refl
  either (Some n) x y same = refl

  needs_over : (deliveries : List Delivery) (moment : ℕ) (reported : List RouterReport) (after : RouterState) → AreOf (length messages) deliveries → IsTimely (start_of writing.holdtime timing).expires_in moment deliveries
      → moment ≤ last → IsCourse family (inputs_of family writing 0 messages deliveries) reported start after → first_needed reported ≡ first_over exchange limit deliveries
  unfolding inputs_of first_over first_needed IsCourse
  needs_over [] moment reported after of timely early course = ap first_needed course.0
  needs_over (delivery ∷ earlier) moment reported after of timely early course =
      let timely_here = timely_before (start_of writing.holdtime timing).expires_in delivery earlier moment timely in
      let early_here : delivery.moment ≤ last = omega (arith, early, first_by (start_of writing.holdtime timing).expires_in delivery earlier moment timely) in
      let front : List Input = inputs_of family writing 0 messages earlier ++ runs_to delivery.moment ∷ [] in
      let split = sym (append_assoc (inputs_of family writing 0 messages earlier) (runs_to delivery.moment ∷ []) (takes (packet delivery) ∷ [])) in
      let one = parts family front (takes (packet delivery) ∷ []) reported start after (subst (λ (inputs : List Input). IsCourse family inputs reported start after) split course) in
      let zero = parts family (inputs_of family writing 0 messages earlier) (runs_to delivery.moment ∷ []) one.reported start one.between one.first in
      let before = needed_as one.reported zero.reported zero.said (first_over exchange limit earlier) None zero.joined (needs_over earlier delivery.moment zero.reported zero.between of.1 timely_here early_here zero.first)
      (last_needs_none family delivery.moment zero.said zero.between one.between zero.second) ∙ or_none (first_over exchange limit earlier) in
      needed_as reported one.reported one.said (first_over exchange limit earlier) (needed_by (received family (packet delivery) one.between).0) one.joined before
      (packet_needs family (packet delivery) one.said one.between after one.second)
      ∙ either (first_over exchange limit earlier) (needed_by (received family (packet delivery) one.between).0) (if_over limit (length (units_of exchange (delivery ∷ earlier))))
      (λ none. verdict_needs delivery earlier one.between (taken_here one.reported one.between of timely_here early_here (within exchange limit earlier none) one.first))
    where
      taken_here : (reported : List RouterReport) (before : RouterState) → AreOf (length messages) (delivery ∷ earlier) → IsTimely (start_of writing.holdtime timing).expires_in delivery.moment earlier → delivery.moment ≤ last
          → length (units_of exchange earlier) ≤ limit → IsCourse family (inputs_of family writing 0 messages earlier ++ runs_to delivery.moment ∷ []) reported start before
          → IsTaken family exchange limit delivery earlier (packet delivery) before
      taken_here reported before of timely early few course =
          let heard = course_hears family writing form messages timing limit last start earlier delivery.moment reported before is_writing is have are nothing of.1 timely few early lasts hears course in
          taken family writing form messages timing limit start delivery earlier before is_writing is have are nothing of timely few heard.0 heard.2

-- what the first message without room needs
first_without : WrittenHellosAreRead → HellosAreHeard → DemandedStarsHaveRps → DeliveryIsTaken → CourseHearsAll → (family : AddressFamily) (table : RouteTable) (writing : Writing) (state : Downstream) (messages : List (List ℕ)) (fresh : Fresh) (needed : Option ℕ) (after : RouterState)
    → IsRouteTable family table → IsWriting family writing → AreMessagesOf family table writing state messages → Fits messages writing table fresh → GoesThrough family messages fresh needed after
    → (needed ≡ first_over (fresh_exchange family table writing messages fresh) fresh.limit (newest_first fresh)) × AreOf (length messages) (newest_first fresh)
first_without read hellos_heard stars taken course_hears family table writing state messages fresh needed after sound is_writing demanded fits goes =
    let first : Begun read hellos_heard stars family table writing state messages fresh needed after sound is_writing demanded fits goes = begun read hellos_heard stars family table writing state messages fresh needed after sound is_writing demanded fits goes in
    let two = parts family (inputs_of family writing 0 messages (newest_first fresh)) (runs_to (end_of fresh) ∷ []) first.said first.start after first.course in
    let deliveries_need : first_needed two.reported ≡ first_over (heard_exchange family writing 0 (timing_of fresh) messages first.start) fresh.limit (newest_first fresh) =
    needs_over taken course_hears family writing demanded.form messages (timing_of fresh) fresh.limit (end_of fresh) first.start is_writing demanded.is.normal first.have first.messages_are first.met.nothing (first.met.lasts (end_of fresh) fits.others_stay) first.met.hears
    (newest_first fresh) (end_of fresh) two.reported two.between first.are_of fits.timely (omega arith) two.first in
    let said_needs = needed_as first.said two.reported two.said (first_over (heard_exchange family writing 0 (timing_of fresh) messages first.start) fresh.limit (newest_first fresh)) None two.joined deliveries_need (last_needs_none family (end_of fresh) two.said two.between after two.second) in
    let same : needed ≡ first_over (fresh_exchange family table writing messages fresh) fresh.limit (newest_first fresh) =
    sym goes.needed_is
    ∙ needed_as goes.reported first.reported first.said None (or_later (first_over (heard_exchange family writing 0 (timing_of fresh) messages first.start) fresh.limit (newest_first fresh)) None) first.joined
    (hellos_need_none family (neighbours fresh) goes.hellos first.reported (new_router (setup_of fresh)) first.start (read family (neighbours fresh) goes.hellos goes.are_hellos) first.hellos) said_needs
    ∙ or_none (first_over (heard_exchange family writing 0 (timing_of fresh) messages first.start) fresh.limit (newest_first fresh))
    ∙ ap (λ (t : RouteTable). first_over (exchange_in family (rp_of family t) writing 0 (timing_of fresh) messages) fresh.limit (newest_first fresh)) first.routes in
    (same, first.are_of)

pub room_is_for_the_units : WrittenHellosAreRead → HellosAreHeard → DemandedStarsHaveRps → DeliveryIsTaken → CourseHearsAll → RoomIsForTheUnits
room_is_for_the_units read hellos_heard stars taken course_hears family table writing state messages fresh needed after sound is_writing demanded fits goes =
    let exchange : Exchange = fresh_exchange family table writing messages fresh in
    let first = first_without read hellos_heard stars taken course_hears family table writing state messages fresh needed after sound is_writing demanded fits goes in
    let count : length (units_of exchange (newest_first fresh)) ≡ all_entries family table writing messages fresh = units_are_entries exchange (newest_first fresh) (length messages) first.1 fits.delivered in (
      first.0,
      (
        λ none. let few = within exchange fresh.limit (newest_first fresh) (sym first.0 ∙ none) in omega (arith, few, count),
        λ few. first.0 ∙ never_over exchange fresh.limit (newest_first fresh) (omega (arith, few, count)),
      ),
    )
