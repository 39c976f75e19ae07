-- A new router that takes the Hellos of its neighbours knows them all.
use Rattle.std.proofs.Common.{◌≡◌, ◌≢◌, ◌∙◌, ℕ, suc, ◌+◌, ◌-◌, ◌≤◌, ◌<◌, Bool, true, false, ◌&&◌, not, leb, ltb, nat_eq, cond, slice_index_or, List, [], ◌∷◌, ◌++◌, length, map, replicate, Option, None, Some, if◌then◌else◌, refl, sym, ap, ap₂, subst, arith, zero-le}
use Rattle.pim_mirror.proofs.Words.{is_some, option_eq, AllByRecursion, IsDistinct, lookup, remove_entry}
use Rattle.pim_mirror.proofs.Words.{eq_by_cmp_equiv, nat_list_cmp_total, pointwise, false≢true, eqb-true, leb-true}
use Rattle.pim_mirror.proofs.Words.{AddressFamily, jp_override_interval, no_neighbours, is_address, without_ended}
use Rattle.pim_mirror.proofs.Words.{lifetime, says_goodbye, is_full, Writing, same_address, AreDifferent, IsShorter}
use Rattle.pim_mirror.proofs.Words.{takes, RouterReport, IsCourse, Packet, own_address, neighbours_on, timing_on}
use Rattle.pim_mirror.proofs.Words.{hello_heard, Port, RouterState, new_router, refresh_period, Verdict, Neighbour}
use Rattle.pim_mirror.proofs.Words.{Fresh, first_port, port_of, sender_hello, neighbours, interval_of, end_of, setup_of}
use Rattle.pim_mirror.proofs.Words.{Fits, OthersStay, Lasts, AreHellosFrom, timing_of, HasMet, HellosAreHeard}
use Rattle.pim_fresh.specs.Hearing.{fresh as no_machines}
use Rattle.pim_mirror.proofs.SameAddresses.{same_itself, same_is, and_false}
use Rattle.pim_mirror.proofs.StaysHeard.{AllLast, all_stay}
use Rattle.pim_mirror.proofs.HelloPackets.{received_is}
use Rattle.pim_mirror.proofs.Inserted.{Entry, IsApart, AreApart, inserted, all_inserted, holds_inserted, each_holds, count_inserted, count_all, is_known, known_all, hellos_in, interval_all}

-- what a table has of a neighbour behind its Hello at the moment 0
abbrev kept : Neighbour → Entry
kept neighbour = (neighbour.address, record { parameters = neighbour.hello; left = lifetime neighbour.hello.holdtime })

-- ---- each is another

unfoldable Differ : List Neighbour → Type 0
Differ [] = Unit {0}
Differ (neighbour ∷ others) = AllByRecursion (λ (other : Neighbour). other.address ≢ neighbour.address) others × Differ others

still_apart : (es : List Entry) (neighbour : Neighbour) (others : List Neighbour) → IsApart neighbour.address es → AllByRecursion (λ (other : Neighbour). IsApart other.address es) others
    → AllByRecursion (λ (other : Neighbour). other.address ≢ neighbour.address) others → AllByRecursion (λ (other : Neighbour). IsApart other.address (inserted es (kept neighbour))) others
still_apart es neighbour [] here apart differ = tt
still_apart es neighbour (other ∷ others) here apart differ = (
  holds_inserted (λ (entry : Entry). other.address ≢ entry.0) neighbour.address (kept neighbour).1 es here differ.0 apart.0,
  still_apart es neighbour others here apart.1 differ.1,
)

apart_from : (es : List Entry) (others : List Neighbour) → AllByRecursion (λ (other : Neighbour). IsApart other.address es) others → Differ others → AreApart es (map kept others)
unfolding AreApart Differ
apart_from es [] apart differ = tt
apart_from es (neighbour ∷ others) apart differ =
    (apart.0, apart_from (inserted es (kept neighbour)) others (still_apart es neighbour others apart.0 apart.1 differ.0) differ.1)

none_apart : (others : List Neighbour) → AllByRecursion (λ (other : Neighbour). IsApart other.address []) others
none_apart [] = tt
none_apart (other ∷ others) = (tt, none_apart others)

each_other : (address : List ℕ) (others : List Neighbour) → AllByRecursion (λ (other : List ℕ). pointwise nat_eq address other ≡ false) (map (λ (other : Neighbour). other.address) others)
    → AllByRecursion (λ (other : Neighbour). other.address ≢ address) others
each_other address [] all = tt
each_other address (other ∷ others) all = (
  λ same. false≢true (sym (subst (λ (a : List ℕ). same_address address a ≡ false) same all.0) ∙ same_itself address),
  each_other address others all.1,
)

they_differ : (others : List Neighbour) → AreDifferent (map (λ (other : Neighbour). other.address) others) → Differ others
unfolding IsDistinct Differ
they_differ [] d = tt
they_differ (other ∷ others) d = (each_other other.address others d.0, they_differ others d.1)

-- ---- a Hello that can be met

record CanBeMet (own : List ℕ) (end : ℕ) (neighbour : Neighbour) : Type 0 where
  other : neighbour.address ≢ own
  stays : IsShorter end (lifetime neighbour.hello.holdtime)

each_can : (own : List ℕ) (end : ℕ) (others : List Neighbour) → AllByRecursion (λ (other : Neighbour). other.address ≢ own) others
    → AllByRecursion (λ (other : Neighbour). IsShorter end (lifetime other.hello.holdtime)) others → AllByRecursion (CanBeMet own end) others
each_can own end [] others stay = tt
each_can own end (other ∷ more) others stay = (record { other = others.0; stays = stay.0 }, each_can own end more others.1 stay.1)

apart_test : (a b : List ℕ) → a ≢ b → same_address a b ≡ false
apart_test a b differ = by (same_address a b) refl
  where
    by : (t : Bool) → same_address a b ≡ t → t ≡ false
    by false e = refl
    by true e = absurd (differ (same_is a b e))

no_goodbye : (end : ℕ) (holdtime : Option ℕ) → IsShorter end (lifetime holdtime) → option_eq nat_eq holdtime (Some 0) ≡ false
no_goodbye end None stays = refl
no_goodbye end (Some seconds) stays = by (nat_eq seconds 0) refl
  where
    by : (b : Bool) → nat_eq seconds 0 ≡ b → b ≡ false
    by false e = refl
    by true e =
        let short : end < 0 = subst (λ (n : ℕ). IsShorter end (lifetime (Some n))) (eqb-true seconds 0 e) stays in
        absurd (omega (arith, short))

few_test : (count : ℕ) → count < 1024 → leb 1024 count ≡ false
few_test count few = by (leb 1024 count) refl
  where
    by : (b : Bool) → leb 1024 count ≡ b → b ≡ false
    by false e = refl
    by true e = let many = leb-true 1024 count e in absurd (omega (arith, many, few))

-- ---- the router

module _ (fresh : Fresh) where
  abbrev knowing : List Entry → RouterState
  knowing entries = record {
    ports = fresh.ports;
    routes = fresh.routes;
    machines = no_machines 1 fresh.limit;
    tables = record { moment = 0; entries = entries } ∷ [];
    refresh = refresh_period;
  }

  abbrev begun : ℕ → RouterState
  begun count = record {
    ports = fresh.ports;
    routes = fresh.routes;
    machines = no_machines count fresh.limit;
    tables = replicate count no_neighbours;
    refresh = refresh_period;
  }

  begins : length fresh.ports ≡ 1 → new_router (setup_of fresh) ≡ knowing []
  begins one = ap begun one

  module _ (family : AddressFamily) (end : ℕ) where
    room_is : (neighbour : Neighbour) (es : List Entry) → AllLast end es → length es < 1024 → is_full neighbour.address neighbour.hello (neighbours_on 0 (knowing es)) ≡ false
    unfolding AllLast
    room_is neighbour es last few =
        ap (λ (es : List Entry). (not (says_goodbye neighbour.hello) && not (is_known neighbour.address es)) && leb 1024 (length es)) (all_stay end es last)
        ∙ ap (λ b. (not (says_goodbye neighbour.hello) && not (is_known neighbour.address es)) && b) (few_test (length es) few)
        ∙ and_false (not (says_goodbye neighbour.hello) && not (is_known neighbour.address es))

    taken_is : (neighbour : Neighbour) (es : List Entry) → AllLast end es → IsShorter end (lifetime neighbour.hello.holdtime)
        → (hello_heard 0 neighbour.address (knowing es) neighbour.hello).1 ≡ knowing (inserted es (kept neighbour))
    unfolding AllLast
    taken_is neighbour es last stays =
        ap (λ (es : List Entry). knowing (if says_goodbye neighbour.hello then remove_entry (is_address neighbour.address) es else inserted es (kept neighbour))) (all_stay end es last)
        ∙ ap (λ b. knowing (if b then remove_entry (is_address neighbour.address) es else inserted es (kept neighbour))) (no_goodbye end neighbour.hello.holdtime stays)

    met_all : (others : List Neighbour) (hellos : List Packet) (reported : List RouterReport) (es : List Entry) (after : RouterState) → AreHellosFrom family others hellos
        → IsCourse family (map (λ packet. takes packet) hellos) reported (knowing es) after → AllByRecursion (CanBeMet (own_address 0 (knowing [])) end) others → AreApart es (map kept others) → AllLast end es
        → length es + length others ≤ 1024 → after ≡ knowing (all_inserted es (map kept others))
    unfolding IsCourse AreHellosFrom AreApart all_inserted AllLast
    met_all [] [] reported es after are course can apart last few = course.1
    met_all [] (packet ∷ packets) reported es after are course can apart last few = absurd are
    met_all (neighbour ∷ others) [] reported es after are course can apart last few = absurd are
    met_all (neighbour ∷ others) (packet ∷ packets) reported es after are course can apart last few =
        let heard = received_is family neighbour packet (knowing es) are.0 (apart_test neighbour.address (own_address 0 (knowing [])) can.0.other) (room_is neighbour es last (omega (arith, few))) in
        let next : course.between ≡ knowing (inserted es (kept neighbour)) =
        course.begins.1 ∙ ap (λ (end : Verdict × RouterState). end.1) heard ∙ taken_is neighbour es last can.0.stays in
        let count = count_inserted neighbour.address (kept neighbour).1 es apart.0 in
        met_all others packets course.behind (inserted es (kept neighbour)) after are.1 (subst (λ (state : RouterState). IsCourse family (map (λ packet. takes packet) packets) course.behind state after) next course.goes_on)
        can.1 apart.1 (last_more neighbour es can.0.stays apart.0 last) (omega (arith, count, few))
      where
        last_more : (neighbour : Neighbour) (es : List Entry) → IsShorter end (lifetime neighbour.hello.holdtime) → IsApart neighbour.address es → AllLast end es → AllLast end (inserted es (kept neighbour))
        last_more neighbour es stays apart last = holds_inserted (λ (entry : Entry). IsShorter end entry.1.left) neighbour.address (kept neighbour).1 es apart stays last

-- ---- behind the Hellos

hellos_kept : (others : List Neighbour) → hellos_in (map kept others ++ []) ≡ map (λ (other : Neighbour). other.hello) others
hellos_kept [] = refl
hellos_kept (other ∷ others) = ap (λ hellos. other.hello ∷ hellos) (hellos_kept others)

count_kept : (others : List Neighbour) → length (map kept others ++ []) ≡ length others
count_kept [] = refl
count_kept (other ∷ others) = ap suc (count_kept others)

each_lasts : (end : ℕ) (others : List Neighbour) → AllByRecursion (λ (other : Neighbour). IsShorter end (lifetime other.hello.holdtime)) others → AllLast end (map kept others)
unfolding AllLast
each_lasts end [] stay = tt
each_lasts end (other ∷ others) stay = (stay.0, each_lasts end others stay.1)

module _ (fresh : Fresh) where
  only_port : (ports : List Port) → slice_index_or ports 0 (record { address = []; propagation = 0; override_ms = 0 }) ≡ first_port ports
  only_port [] = refl
  only_port (port ∷ ports) = refl

  lasts : (last : ℕ) (entries : List Entry) → AllLast last entries → Lasts last (knowing fresh entries)
  unfolding AllLast
  lasts last entries all = record {
    by_then = zero-le;
    now = (refl, tt);
    left = (subst (λ (n : ℕ). AllLast n entries) (none_passed last) all, tt);
  }
    where
      none_passed : (n : ℕ) → n ≡ n - 0
      none_passed n = omega arith

  module _ (writing : Writing) (entries : List Entry) (last : AllLast (end_of fresh) entries) where
    stay : (without_ended (record { moment = 0; entries = entries })).entries ≡ entries
    stay = all_stay (end_of fresh) entries last

    timing_is : jp_override_interval (port_of fresh).propagation (port_of fresh).override_ms (hellos_in entries) ≡ interval_of fresh → length entries ≡ length (neighbours fresh)
        → timing_of fresh ≡ timing_on 0 (knowing fresh entries)
    timing_is interval count =
        ap₂ (λ (n m : ℕ). record { override_ms = n; several = ltb 1 m })
        (sym interval ∙ ap₂ (λ (port : Port) (es : List Entry). jp_override_interval port.propagation port.override_ms (hellos_in es)) (sym (only_port fresh.ports)) (sym stay))
        (sym count ∙ ap length (sym stay))

    met : ((end : ℕ) → OthersStay fresh end → AllLast end entries) → (port_of fresh).address ≡ writing.upstream → is_known writing.own entries ≡ true
        → jp_override_interval (port_of fresh).propagation (port_of fresh).override_ms (hellos_in entries) ≡ interval_of fresh → length entries ≡ length (neighbours fresh)
        → HasMet writing fresh (knowing fresh entries)
    met all address known interval count = record {
      nothing = refl;
      routes = refl;
      lasts = λ end others. lasts end entries (all end others);
      hears = record {
        own = ap (λ (port : Port). port.address) (only_port fresh.ports) ∙ address;
        known = ap (is_known writing.own) stay ∙ known;
        timing_is = timing_is interval count;
      };
    }

same_key : (a : List ℕ) → is_address a a ≡ true
same_key a = (eq_by_cmp_equiv nat_list_cmp_total).refl a

pub hellos_are_heard : HellosAreHeard
unfolding Differ AllLast
hellos_are_heard family messages writing table fresh hellos reported after is_writing fits are course =
    let own : own_address 0 (knowing fresh []) ≡ writing.upstream = ap (λ (port : Port). port.address) (only_port fresh fresh.ports) ∙ fits.address in
    let apart : AreApart [] (map kept (neighbours fresh)) = apart_from [] (neighbours fresh) (none_apart (neighbours fresh)) (differ fits) in
    let end = met_all fresh family (end_of fresh) (neighbours fresh) hellos reported [] after are
    (subst (λ (state : RouterState). IsCourse family (map (λ packet. takes packet) hellos) reported state after) (begins fresh fits.one_port) course)
    (can fits own) apart (none_last (end_of fresh)) (omega (arith, fits.others_count)) in
    let entries : List Entry = all_inserted [] (map kept (neighbours fresh)) in
    subst (HasMet writing fresh) (sym end)
    (met fresh writing entries (lasting apart (end_of fresh) fits.others_stay) (lasting apart) fits.address
    (known_all writing.own [] (map kept (neighbours fresh)) apart ∙ known_first fits)
    (interval_all (port_of fresh).propagation (port_of fresh).override_ms [] (map kept (neighbours fresh)) apart ∙ ap (jp_override_interval (port_of fresh).propagation (port_of fresh).override_ms) (hellos_kept (neighbours fresh)))
    (count_all [] (map kept (neighbours fresh)) apart ∙ count_kept (neighbours fresh)))
  where
    differ : Fits messages writing table fresh → Differ (neighbours fresh)
    differ fits = (fits.others_are_not_sender, they_differ fresh.others fits.others_differ)

    can : Fits messages writing table fresh → own_address 0 (knowing fresh []) ≡ writing.upstream → AllByRecursion (CanBeMet (own_address 0 (knowing fresh [])) (end_of fresh)) (neighbours fresh)
    can fits own = (
      record { other = λ same. is_writing.apart (sym fits.sender ∙ same ∙ own); stays = tt },
      each_can (own_address 0 (knowing fresh [])) (end_of fresh) fresh.others
          (subst (λ (address : List ℕ). AllByRecursion (λ (other : Neighbour). other.address ≢ address) fresh.others) (fits.address ∙ sym own) fits.others_are_not_fresh) fits.others_stay,
    )

    none_last : (end : ℕ) → AllLast end []
    none_last end = tt

    lasting : AreApart [] (map kept (neighbours fresh)) → (last : ℕ) → OthersStay fresh last → AllLast last (all_inserted [] (map kept (neighbours fresh)))
    lasting apart last others = each_holds (λ (entry : Entry). IsShorter last entry.1.left) [] (map kept (neighbours fresh)) apart tt (tt, each_lasts last fresh.others others)

    known_first : Fits messages writing table fresh → is_known writing.own (map kept (neighbours fresh) ++ []) ≡ true
    known_first fits =
        ap (λ b. is_some (cond b (Some (kept (record { address = fresh.sender; hello = sender_hello (port_of fresh) })).1) (lookup (is_address writing.own) (map kept fresh.others ++ []))))
        (ap (is_address writing.own) fits.sender ∙ same_key writing.own)
