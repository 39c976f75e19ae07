-- Canonical messages, told one after the other.
use Rattle.pim_emit.proofs.Words.{◌≡◌, ◌∙◌, ℕ, ◌+◌, ◌*◌, ◌-◌, ◌≤◌, true, List, [], ◌∷◌, ◌++◌, Option, None, Some, length, take}
use Rattle.pim_emit.proofs.Words.{refl, sym, ap, subst, arith, length-append, append_assoc, Appends, Appends-trans}
use Rattle.pim_emit.proofs.Words.{take-append-add, take-length, append-nil, take-append-le, flat_map-append, AddressFamily}
use Rattle.pim_emit.proofs.Words.{RouteTable, rp_of, Downstream, IsSound, DemandedFormIsDemanded, IsDemandedForm, demanded_form}
use Rattle.pim_emit.proofs.Words.{Writing, CarriesRun, CarryRuns, AreCanonical, GroupForm, IsFormOf, fits, IsNonempty}
use Rattle.pim_emit.proofs.Words.{StopsBefore, AreRuns, IsPacking, demand_toward, WantUnit, units_of, Position, Start, DemandSeen}
use Rattle.pim_emit.proofs.Words.{IsMessage, left_at, framed, all_framed, HaveGoneOut, HasGoneOut}
use Rattle.pim_form.specs.Laws.{FirstRunIsWritten, OneListOfMessages, OneNormalForm}

-- ---- one message of a list

module _ (family : AddressFamily) (writing : Writing) (rps : List ℕ → Option (List ℕ)) where
  -- a run alone, and the message that tells it
  alone : (run : List WantUnit) (bytes : List ℕ) (part : List GroupForm) → units_of part ≡ run → IsNonempty run → fits family writing.budget run ≡ true → CarriesRun family writing rps run bytes
      → AreCanonical family writing rps part (bytes ∷ [])
  unfolding AreRuns
  alone run bytes part is some fitting carries = record {
    runs = run ∷ [];
    packing = record { whole = append-nil run ∙ sym is; cut = (some, fitting, tt, tt) };
    reported = (carries, tt);
  }

  one_message : OneListOfMessages → (run : List WantUnit) (one other : List ℕ) → IsNonempty run → fits family writing.budget run ≡ true → CarriesRun family writing rps run one → CarriesRun family writing rps run other → one ≡ other
  one_message law run one other some fitting tells_one tells_other =
      let same = law family writing rps tells_one.part (one ∷ []) (other ∷ []) (alone run one tells_one.part tells_one.units some fitting tells_one) (alone run other tells_one.part tells_one.units some fitting tells_other) in
      cc

  -- what is told first, and messages of what is left
  pub record HasRest (reported : List (List ℕ)) (left : List GroupForm) (messages : List (List ℕ)) : Type 0 where
    pub rest : List (List ℕ)
    pub split : messages ≡ reported ++ rest
    pub canonical : AreCanonical family writing rps left rest

module _ (family : AddressFamily) (writing : Writing) (demand_seen : DemandSeen) (from to : Position (List ℕ)) (bytes : List ℕ) (is : IsMessage family writing demand_seen from to bytes) where
  abbrev Canonical : List GroupForm → List (List ℕ) → Type 0
  Canonical = AreCanonical family writing (rp_of family demand_seen.table)

  pub told_first : (rest : List (List ℕ)) → Canonical (left_at to demand_seen.form) rest → Canonical (left_at from demand_seen.form) (bytes ∷ rest)
  unfolding AreRuns
  told_first rest others = record {
    runs = is.run ∷ others.runs;
    packing = record {
      whole = ap (λ l. is.run ++ l) others.packing.whole ∙ sym is.units;
      cut = (is.some, is.fitting, subst (StopsBefore family writing.budget is.run) (sym others.packing.whole) is.stops, others.packing.cut);
    };
    reported = (is.carries, others.reported);
  }

  begins : OneListOfMessages → (others : List (List WantUnit)) (messages : List (List ℕ)) → IsPacking family writing.budget (units_of (left_at to demand_seen.form)) others
      → CarryRuns family writing (rp_of family demand_seen.table) (is.run ∷ others) messages → HasRest family writing (rp_of family demand_seen.table) (bytes ∷ []) (left_at to demand_seen.form) messages
  begins law others [] packing reported = absurd reported
  begins law others (m ∷ messages) packing reported =
      let same : m ≡ bytes = one_message family writing (rp_of family demand_seen.table) law is.run m bytes is.some is.fitting reported.0 is.carries in
      record {
        rest = messages;
        split = ap (λ l. l ∷ messages) same;
        canonical = record { runs = others; packing = packing; reported = reported.1 };
      }

  pub first_told : FirstRunIsWritten → OneListOfMessages → (messages : List (List ℕ)) → Canonical (left_at from demand_seen.form) messages
      → HasRest family writing (rp_of family demand_seen.table) (bytes ∷ []) (left_at to demand_seen.form) messages
  first_told first law messages whole =
      let packing = subst (λ units. IsPacking family writing.budget units whole.runs) is.units whole.packing in
      let cut = first family writing.budget is.run (units_of (left_at to demand_seen.form)) whole.runs is.some is.fitting is.stops packing in
      begins law cut.others messages cut.packing (subst (λ runs. CarryRuns family writing (rp_of family demand_seen.table) runs messages) cut.begins whole.reported)

-- ---- messages underway

-- These messages went out, and those of what is left behind the place, behind them, are all.
pub record AreUnderway (family : AddressFamily) (writing : Writing) (demand_seen : DemandSeen) (position : Position (List ℕ)) (count sent : ℕ) (old new : Option (List ℕ)) : Type 0 where
  pub reported : List (List ℕ)
  pub builds : (rest : List (List ℕ)) → AreCanonical family writing (rp_of family demand_seen.table) (left_at position demand_seen.form) rest → AreCanonical family writing (rp_of family demand_seen.table) demand_seen.form (reported ++ rest)
  pub agrees : (messages : List (List ℕ)) → AreCanonical family writing (rp_of family demand_seen.table) demand_seen.form messages
      → HasRest family writing (rp_of family demand_seen.table) reported (left_at position demand_seen.form) messages
  pub counted : count ≡ length reported
  pub bytes : sent ≡ length (all_framed reported)
  pub gone : Appends old new (all_framed reported)
  pub few : count + length (units_of (left_at position demand_seen.form)) ≤ 6400000
  pub short : sent ≤ count * 65002

appends_nothing : (state : Option (List ℕ)) → Appends state state []
appends_nothing None = tt
appends_nothing (Some xs) = sym (append-nil xs)

module _ (family : AddressFamily) (writing : Writing) (demand_seen : DemandSeen) where
  pub none_gone : (state : Option (List ℕ)) → length (units_of demand_seen.form) ≤ 6400000 → AreUnderway family writing demand_seen Start 0 0 state state
  none_gone state few = record {
    reported = [];
    builds = λ rest is. is;
    agrees = λ messages is. record { rest = messages; split = refl; canonical = is };
    counted = refl;
    bytes = refl;
    gone = appends_nothing state;
    few = omega (arith, few);
    short = omega arith;
  }

  framed_more : (reported : List (List ℕ)) (m : List ℕ) → all_framed (reported ++ m ∷ []) ≡ all_framed reported ++ framed m
  framed_more reported m = flat_map-append framed reported (m ∷ []) ∙ ap (λ l. all_framed reported ++ l) (append-nil (framed m))

  one_unit : (run : List WantUnit) → IsNonempty run → 1 ≤ length run
  one_unit [] some = absurd some
  one_unit (u ∷ run) some = omega arith

  pub one_more_gone : FirstRunIsWritten → OneListOfMessages → (from to : Position (List ℕ)) (m : List ℕ) (count sent sent' : ℕ) (old between new : Option (List ℕ))
      → AreUnderway family writing demand_seen from count sent old between → IsMessage family writing demand_seen from to m → length m ≤ 65000
      → sent' ≡ sent + length (framed m) → Appends between new (take (sent' - sent) (framed m))
      → AreUnderway family writing demand_seen to (count + 1) sent' old new
  one_more_gone first law from to m count sent sent' old between new is message short more went =
      let size : sent' - sent ≡ length (framed m) = omega (arith, more) in
      let whole : take (sent' - sent) (framed m) ≡ framed m = ap (λ n. take n (framed m)) size ∙ take-length (framed m) in
      record {
        reported = is.reported ++ m ∷ [];
        builds = λ rest others. subst (AreCanonical family writing (rp_of family demand_seen.table) demand_seen.form) (sym (append_assoc is.reported (m ∷ []) rest)) (is.builds (m ∷ rest) (told_first family writing demand_seen from to m message rest others));
        agrees = λ messages all.
            let behind = is.agrees messages all in
            let then_rest = first_told family writing demand_seen from to m message first law behind.rest behind.canonical in
            record { rest = then_rest.rest; split = behind.split ∙ ap (λ l. is.reported ++ l) then_rest.split ∙ sym (append_assoc is.reported (m ∷ []) then_rest.rest); canonical = then_rest.canonical };
        counted = omega (arith, is.counted, length-append is.reported (m ∷ []));
        bytes = omega (arith, more, is.bytes, ap length (framed_more is.reported m), length-append (all_framed is.reported) (framed m));
        gone = subst (Appends old new) (ap (λ l. all_framed is.reported ++ l) whole ∙ sym (framed_more is.reported m)) (Appends-trans old between new _ _ is.gone went);
        few = omega (arith, is.few, ap length message.units, length-append message.run (units_of (left_at to demand_seen.form)), one_unit message.run message.some);
        short = omega (arith, is.short, more, short);
      }

-- ---- all, or some, went out

module _ (family : AddressFamily) (writing : Writing) (table : RouteTable) (state : Downstream) (demand_seen : DemandSeen) (demand : IsFormOf family (demand_toward family table writing.upstream state) demand_seen.form) (tables : demand_seen.table ≡ table) where
  rps_are : rp_of family demand_seen.table ≡ rp_of family table
  rps_are = ap (rp_of family) tables

  pub all_gone : (position : Position (List ℕ)) (count sent : ℕ) (old new : Option (List ℕ)) → AreUnderway family writing demand_seen position count sent old new → units_of (left_at position demand_seen.form) ≡ []
      → HaveGoneOut family writing table state old new count
  unfolding AreRuns
  all_gone position count sent old new is none =
      let whole = is.builds [] (record { runs = []; packing = record { whole = sym none; cut = tt }; reported = tt }) in
      let reported : AreCanonical family writing (rp_of family demand_seen.table) demand_seen.form is.reported = subst (AreCanonical family writing (rp_of family demand_seen.table) demand_seen.form) (append-nil is.reported) whole in
      record {
        messages = is.reported;
        demand_by = record { form = demand_seen.form; is = demand; reported = subst (λ rps. AreCanonical family writing rps demand_seen.form is.reported) rps_are reported };
        counted = is.counted;
        gone = is.gone;
      }

  pub some_gone : OneNormalForm → FirstRunIsWritten → OneListOfMessages → (from to : Position (List ℕ)) (m : List ℕ) (count sent sent' : ℕ) (old between new : Option (List ℕ))
      → AreUnderway family writing demand_seen from count sent old between → IsMessage family writing demand_seen from to m
      → sent ≤ sent' → sent' ≤ sent + length (framed m) → Appends between new (take (sent' - sent) (framed m))
      → HasGoneOut family writing table state old new sent'
  some_gone one first law from to m count sent sent' old between new is message rises most went messages demand_by =
      let same : demand_by.form ≡ demand_seen.form = one family demand_by.form demand_seen.form demand_by.is.normal demand.normal (λ s g t valid is_group. sym (demand_by.is.wants s g t valid is_group) ∙ demand.wants s g t valid is_group) in
      let reported : AreCanonical family writing (rp_of family demand_seen.table) demand_seen.form messages =
      subst (λ rps. AreCanonical family writing rps demand_seen.form messages) (sym rps_are) (subst (λ form. AreCanonical family writing (rp_of family table) form messages) same demand_by.reported) in
      let behind = is.agrees messages reported in
      let next = first_told family writing demand_seen from to m message first law behind.rest behind.canonical in
      let more = sent' - sent in
      let split : all_framed messages ≡ all_framed is.reported ++ (framed m ++ all_framed next.rest) =
      ap all_framed (behind.split ∙ ap (λ l. is.reported ++ l) next.split) ∙ flat_map-append framed is.reported (m ∷ next.rest) in
      let sum : sent' ≡ length (all_framed is.reported) + more = omega (arith, is.bytes, rises) in
      let few : more ≤ length (framed m) = omega (arith, most) in
      let front : take sent' (all_framed messages) ≡ all_framed is.reported ++ take more (framed m) =
      ap (take sent') split ∙ ap (λ n. take n (all_framed is.reported ++ (framed m ++ all_framed next.rest))) sum
      ∙ take-append-add (all_framed is.reported) (framed m ++ all_framed next.rest) more
      ∙ ap (λ l. all_framed is.reported ++ l) (take-append-le more (framed m) (all_framed next.rest) few) in (
        omega (arith, ap length split, length-append (all_framed is.reported) (framed m ++ all_framed next.rest), length-append (framed m) (all_framed next.rest), is.bytes, most),
        subst (Appends old new) (sym front) (Appends-trans old between new _ _ is.gone went),
      )

-- what is asked of the writer's upstream neighbour has a normal form
pub asked_of_writer : (family : AddressFamily) (writing : Writing) (table : RouteTable) (state : Downstream) (demand_seen : DemandSeen) (upstream : List ℕ) → DemandedFormIsDemanded → IsSound family state
    → demand_seen ≡ record { form = demanded_form family table upstream state; table = table; machines = state } → upstream ≡ writing.upstream → IsDemandedForm family table writing.upstream state demand_seen.form
asked_of_writer family writing table state demand_seen upstream law sound is same =
    let form : demand_seen.form ≡ demanded_form family table writing.upstream state = ap (λ (a : DemandSeen). a.form) is ∙ ap (λ (u : List ℕ). demanded_form family table u state) same in
    subst (IsDemandedForm family table writing.upstream state) (sym form) (law family table writing.upstream state sound)
