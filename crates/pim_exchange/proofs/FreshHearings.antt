-- A fresh router that hears each message once fits its sender.
use Rattle.std.specs.Prelude.{option_map}
use Rattle.pim_exchange.proofs.Words.{◌≡◌, ◌≤◌, ◌<◌, ◌^◌, ◌+◌, ◌-◌, ◌*◌, ◌==◌, max, ℕ, zero, suc, List, [], ◌∷◌, ◌++◌, length}
use Rattle.pim_exchange.proofs.Words.{map, reverse, Option, None, Some, Result, Ok, Err, Bool, true, false, if◌then◌else◌, refl}
use Rattle.pim_exchange.proofs.Words.{sym, ap, subst, ◌∙◌, ◌≢◌, arith, add-one, AllByRecursion, IsDistinct, eqb-false}
use Rattle.pim_exchange.proofs.Words.{reverse-append, map-append, AddressFamily, RouteTable, IsRouteTable, rp_of, OneNormalForm}
use Rattle.pim_exchange.proofs.Words.{Writing, IsWriting, AreCanonical, GroupForm, Demand, IsFormOf, too_big, demand_toward}
use Rattle.pim_exchange.proofs.Words.{Delivery, IsShorter, IsTimely, AreAlive, last_of, is_delivered, final_moment, Fresh}
use Rattle.pim_exchange.proofs.Words.{delivery_seen, newest_first, end_of, Fits, expiry_of, CarriesTheForm}
use Rattle.pim_exchange.proofs.Words.{MirrorAnswersForTheForm, Mirrors, MirrorFault, IsDemandedBy, IsTooBig, RouterState}
use Rattle.pim_exchange.proofs.Words.{delivered_at, each_at, fresh_of, AreSent, HaveRoom, IsAgain, Mirrored, HeardAgain, Demands}
use Rattle.pim_form.specs.Refused.{group_too_big}
use Rattle.pim_mirror.specs.declared.config.Delivery as code
use Rattle.pim_mirror.specs.declared.mirroring.MirrorFault.TheVariants as fault
use Rattle.pim_form.specs.declared.fault.FormFault.{FormFault}
use Rattle.pim_form.specs.declared.fault.FormFault.TheVariants.{TooBig}

-- the same, the newest first
unfoldable pub newest_at : ℕ → ℕ → List Delivery
newest_at moment zero = []
newest_at moment (suc count) = delivered_at moment count ∷ newest_at moment count

abbrev newest : ℕ → List Delivery
newest count = newest_at 0 count

newest_is : (count : ℕ) → reverse (each_at 0 count) ≡ newest count
unfolding each_at newest_at
newest_is zero = refl
newest_is (suc count) = reverse-append (each_at 0 count) (delivered_at 0 count ∷ []) ∙ ap (λ l. delivered_at 0 count ∷ l) (newest_is count)

all_named : (most count : ℕ) → count ≤ most → AllByRecursion (λ (delivery : Delivery). delivery.message < most) (each_at 0 count)
unfolding each_at
all_named most zero within = tt
all_named most (suc count) within = both (each_at 0 count) (all_named most count (omega (arith, within)))
  where
    both : (front : List Delivery) → AllByRecursion (λ (delivery : Delivery). delivery.message < most) front
        → AllByRecursion (λ (delivery : Delivery). delivery.message < most) (front ++ delivered_at 0 count ∷ [])
    both [] all = (omega (arith, within), tt)
    both (first ∷ front) all = (all.0, both front all.1)

pub all_early : (moment count : ℕ) → moment ≤ 10 ^ 14 → AllByRecursion (λ (delivery : Delivery). delivery.moment ≤ 10 ^ 14) (each_at moment count)
unfolding each_at
all_early moment zero early = tt
all_early moment (suc count) early = both (each_at moment count) (all_early moment count early)
  where
    both : (front : List Delivery) → AllByRecursion (λ (delivery : Delivery). delivery.moment ≤ 10 ^ 14) front
        → AllByRecursion (λ (delivery : Delivery). delivery.moment ≤ 10 ^ 14) (front ++ delivered_at moment count ∷ [])
    both [] all = (early, tt)
    both (first ∷ front) all = (all.0, both front all.1)

-- ---- the newest first

below : (message count : ℕ) → message < suc count → message ≢ count → message < count
below message count within other = omega (arith, within, other)

pub came : (moment message count : ℕ) → message < count → is_delivered message (newest_at moment count) ≡ true
unfolding newest_at
came moment message zero within = absurd (omega (arith, within))
came moment message (suc count) within = by (count == message) refl (λ less. came moment message count less)
  where
    by : (b : Bool) → count == message ≡ b → (message < count → is_delivered message (newest_at moment count) ≡ true) → is_delivered message (newest_at moment (suc count)) ≡ true
    by true is before = rw is refl
    by false is before = rw is (before (below message count within (λ same. eqb-false count message is (sym same))))

pub ends_by : (interval moment count : ℕ) → final_moment interval (newest_at moment count) ≤ moment + interval
unfolding final_moment newest_at
ends_by interval moment zero = omega arith
ends_by interval moment (suc count) = by (is_delivered count (newest_at moment count)) (ends_by interval moment count)
  where
    by : (b : Bool) → final_moment interval (newest_at moment count) ≤ moment + interval → max (if b then moment else moment + interval) (final_moment interval (newest_at moment count)) ≤ moment + interval
    by true before = omega (arith, before)
    by false before = omega (arith, before)

last_is : (message count last : ℕ) → last_of message (newest count) ≡ Some last → last ≡ 0
unfolding last_of newest_at
last_is message zero last is = absurd (none is)
  where
    none : ◌≡◌ {A = Option ℕ} None (Some last) → ⊥
    none e = cc
last_is message (suc count) last is = by (count == message) is (last_is message count last)
  where
    some : ◌≡◌ {A = Option ℕ} (Some 0) (Some last) → last ≡ 0
    some e = cc

    by : (b : Bool) → (if b then Some 0 else last_of message (newest count)) ≡ Some last → (last_of message (newest count) ≡ Some last → last ≡ 0) → last ≡ 0
    by true at before = some at
    by false at before = before at

pub shorter : (moment : ℕ) (expiry : Option ℕ) → IsShorter moment expiry → (other : ℕ) → other ≤ moment → IsShorter other expiry
shorter moment None p other less = tt
shorter moment (Some time) p other less = omega (arith, p, less)

pub alive : (expiry : Option ℕ) (moment count : ℕ) → IsShorter moment expiry → AreAlive expiry moment (newest count)
alive expiry moment count short = λ message last is. shorter moment expiry short (moment - last) (omega arith)

timely : (expiry : Option ℕ) (moment count : ℕ) → IsShorter moment expiry → IsTimely expiry moment (newest count)
unfolding IsTimely newest_at
timely expiry moment zero short = tt
timely expiry moment (suc count) short =
    (omega arith, alive expiry moment (suc count) short, timely expiry 0 count (shorter moment expiry short 0 (omega arith)))

pub lasts : (holdtime : ℕ) → 99 ≤ holdtime → (moment : ℕ) → moment ≤ 6000 → IsShorter moment (expiry_of holdtime)
lasts holdtime long moment early = by (holdtime == 65535) refl
  where
    by : (b : Bool) → holdtime == 65535 ≡ b → IsShorter moment (if b then None else Some (holdtime * 1000))
    by true is = tt
    by false is = omega (arith, long, early)

-- ---- the conditions

module _ (family : AddressFamily) (table : RouteTable) (writing : Writing) (limit : ℕ) (messages : List (List ℕ)) where
  abbrev pub its : Fresh
  its = fresh_of table writing limit messages

  pub newest_of : newest_first its ≡ newest_at 0 (length messages)
  newest_of = newest_is (length messages)

  pub end_early : end_of its ≤ 3000
  end_early = subst (λ (l : List Delivery). final_moment 3000 l ≤ 3000) (sym newest_of) (ends_by 3000 0 (length messages))

  pub fitting : 99 ≤ writing.holdtime → 1 ≤ limit → limit ≤ 100000 → Fits messages writing table its
  unfolding IsDistinct
  fitting long least most = record {
    one_port = refl;
    address = refl;
    sender = refl;
    routes = refl;
    propagation = omega arith;
    limit_least = least;
    limit_most = most;
    others_differ = tt;
    others_are_not_fresh = tt;
    others_are_not_sender = tt;
    others_count = omega arith;
    others_stay = tt;
    listed = all_named (length messages) (length messages) (omega arith);
    delivered = λ message within. subst (λ (l : List Delivery). is_delivered message l ≡ true) (sym newest_of) (came 0 message (length messages) within);
    early = all_early 0 (length messages) (omega arith);
    timely = subst (λ (l : List Delivery). IsTimely (expiry_of writing.holdtime) (end_of its) l) (sym newest_of)
        (timely (expiry_of writing.holdtime) (end_of its) (length messages) (lasts writing.holdtime long (end_of its) (omega (arith, end_early))));
  }

-- ---- messages are short enough to be heard

pub all_short : (most : ℕ) → most ≤ 65000 → (messages : List (List ℕ)) → AllByRecursion (λ (message : List ℕ). length message ≤ most) messages
    → AllByRecursion (λ (message : List ℕ). length message < 2 ^ 32) messages
all_short most small [] all = tt
all_short most small (message ∷ messages) all = (omega (arith, all.0, small), all_short most small messages all.1)

-- ---- what the fresh router is

module _ (family : AddressFamily) (table : RouteTable) (writing : Writing) (limit : ℕ) (messages : List (List ℕ)) where
  told_once : (sent : AreSent family table writing messages) (result : Result RouterState MirrorFault)
      → CarriesTheForm family table writing sent.demanded.form messages (fresh_of table writing limit messages) result → Mirrored family table writing limit messages result
  told_once sent (Ok router) wrote = (
    wrote.answers.room,
    record { form = sent.demanded.form; fitting = sent.fitting; routes = wrote.answers.at_first.routes; demanding = wrote.answers.at_first.demanding },
  )
  told_once sent (Err (fault.Full needed)) wrote = record { over = wrote.answers.0; first = wrote.answers.1 }
  told_once sent (Err fault.Memory) wrote = tt

  -- the course of the fresh router determines the meaning of the result
  pub tells_once : MirrorAnswersForTheForm → IsRouteTable family table → IsWriting family writing → 1 ≤ limit → limit ≤ 100000 → (sent : AreSent family table writing messages) (fresh : Fresh)
      (result : Result RouterState MirrorFault) → fresh ≡ fresh_of table writing limit messages → Mirrors family messages fresh result
      → CarriesTheForm family table writing sent.demanded.form messages (fresh_of table writing limit messages) result
  tells_once law sound is_writing least most sent fresh result same goes =
      let course : Mirrors family messages (fresh_of table writing limit messages) result = subst (λ (f : Fresh). Mirrors family messages f result) same goes in
      record {
        course = course;
        answers = law family table writing sent.state messages (fresh_of table writing limit messages) result sound is_writing sent.demanded (fitting family table writing limit messages is_writing.long least most) course;
      }

  pub mirrored : MirrorAnswersForTheForm → IsRouteTable family table → IsWriting family writing → 1 ≤ limit → limit ≤ 100000 → (sent : AreSent family table writing messages) (fresh : Fresh)
      (result : Result RouterState MirrorFault) → fresh ≡ fresh_of table writing limit messages → Mirrors family messages fresh result → Mirrored family table writing limit messages result
  mirrored law sound is_writing least most sent fresh result same goes = told_once sent result (tells_once law sound is_writing least most sent fresh result same goes)

module _ (family : AddressFamily) (table : RouteTable) (writing : Writing) (messages : List (List ℕ)) (router : RouterState) (again : IsAgain family table writing messages router) where
  pub same_again : (others : List (List ℕ)) → IsDemandedBy family writing router others → others ≡ messages
  same_again others demanded = again.demanding.same_messages demanded.form others
      (subst (λ t. IsFormOf family (demand_toward family t writing.upstream router.machines) demanded.form) again.routes demanded.is)
      (subst (λ t. AreCanonical family writing (rp_of family t) demanded.form others) again.routes demanded.reported)

  pub fits_again : IsTooBig family writing router None
  fits_again = record {
    form = again.form;
    is = subst (λ t. IsFormOf family (demand_toward family t writing.upstream router.machines) again.form) (sym again.routes) again.demanding.is_form;
    least = again.fitting;
  }

  pub heard_again : (limit : ℕ) (result : Result (List (List ℕ)) MirrorFault) → HaveRoom family table writing limit messages → Demands family writing router result → HeardAgain family table writing limit messages result
  heard_again limit (Ok others) room demanded = (room, same_again others demanded)
  heard_again limit (Err (fault.Full needed)) room demanded = absurd demanded
  heard_again limit (Err fault.Memory) room demanded = tt

-- a star that is told as too big
pub told_big : {T F A N : Type 0} (bytes_of : A → List ℕ) (IsSo : Option (List ℕ) → Type 0) (result : Result T (FormFault F A N)) (why : FormFault F A N) (group : A) → result ≡ Err why → why ≡ TooBig group
    → IsSo (option_map bytes_of (group_too_big result)) → IsSo (Some (bytes_of group))
told_big bytes_of IsSo result why group is big reported = subst (λ r. IsSo (option_map bytes_of (group_too_big r))) (is ∙ ap (λ f. Err f) big) reported

-- a router has one form: its stars fit, or one doesn't
pub fits_or_not : OneNormalForm → (family : AddressFamily) (writing : Writing) (router : RouterState) (group : List ℕ) → IsTooBig family writing router None → IsTooBig family writing router (Some group) → ⊥
fits_or_not one family writing router group fits big = none (sym fits.least ∙ (ap (too_big family writing.budget) same ∙ big.least))
  where
    same : fits.form ≡ big.form
    same = one family fits.form big.form fits.is.normal big.is.normal (λ source group tree valid of_group. sym (fits.is.wants source group tree valid of_group) ∙ big.is.wants source group tree valid of_group)

    none : ◌≡◌ {A = Option (List ℕ)} None (Some group) → ⊥
    none e = cc

-- ---- what a router sends

pub one_of : OneNormalForm → (family : AddressFamily) (demand : Demand) (form other : List GroupForm) → IsFormOf family demand form → IsFormOf family demand other → form ≡ other
one_of one family demand form other p q = one family form other p.normal q.normal (λ source group tree valid of_group. sym (p.wants source group tree valid of_group) ∙ q.wants source group tree valid of_group)

abbrev pub sent_by : OneNormalForm → (family : AddressFamily) (table : RouteTable) (writing : Writing) (router : RouterState) (messages : List (List ℕ)) → table ≡ router.routes
    → IsDemandedBy family writing router messages → IsTooBig family writing router None → AreSent family table writing messages
sent_by one family table writing router messages same demanded fits = record {
  state = router.machines;
  demanded = record {
    form = demanded.form;
    is = subst (λ t. IsFormOf family (demand_toward family t writing.upstream router.machines) demanded.form) (sym same) demanded.is;
    reported = subst (λ t. AreCanonical family writing (rp_of family t) demanded.form messages) (sym same) demanded.reported;
  };
  fitting = ap (too_big family writing.budget) (one_of one family (demand_toward family router.routes writing.upstream router.machines) demanded.form fits.form demanded.is fits.is) ∙ fits.least;
}

-- ---- the deliveries, one after the other

pub none_yet : (moment : ℕ) → map {A = code.Delivery} delivery_seen [] ≡ each_at moment 0
unfolding each_at
none_yet moment = refl

pub one_more : (moment : ℕ) (deliveries more : List code.Delivery) (message : ℕ) → more ≡ deliveries ++ record { message = message; moment = moment } ∷ [] → map delivery_seen deliveries ≡ each_at moment message
    → map delivery_seen more ≡ each_at moment (message + 1)
unfolding each_at
one_more moment deliveries more message is so_far = ap (map delivery_seen) is ∙ (map-append delivery_seen deliveries (record { message = message; moment = moment } ∷ []) ∙ (ap (λ l. l ++ delivered_at moment message ∷ []) so_far ∙ sym (ap (each_at moment) (add-one message))))
