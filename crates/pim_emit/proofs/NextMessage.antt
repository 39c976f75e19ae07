-- The message that comes next: how it begins, and what it is when it is full.
use Rattle.pim_emit.proofs.Words.{◌≡◌, ◌∙◌, ℕ, ◌≤◌, Bool, true, false, List, [], ◌∷◌, ◌++◌, Option, None, Some, length, map, take}
use Rattle.pim_emit.proofs.Words.{drop, refl, sym, ap, subst, arith, append_assoc, if◌then◌else◌, AllByRecursion, filter}
use Rattle.pim_emit.proofs.Words.{IsStrictlySortedBy, false≢true, take-append_seam, drop_all, length-take, length-map}
use Rattle.pim_emit.proofs.Words.{AddressFamily, Ipv4, Ipv6, is_above, all_routers, IsSealed, JoinPrune, canonical_head}
use Rattle.pim_emit.proofs.Words.{canonical, GroupsAreCounted, Writing, written_set, written_message, GroupForm, is_empty, fits}
use Rattle.pim_emit.proofs.Words.{IsNonempty, StopsBefore, star_fits, too_big, WantUnit, star_unit, source_unit, star_units}
use Rattle.pim_emit.proofs.Words.{units_of, run_entries, Draft, Position, Start, Within, Behind, DemandSeen, rp_of, body_start}
use Rattle.pim_emit.proofs.Words.{message_size, IsDraft, IsMessage, left_at, IsPosition}
use Rattle.pim_emit.proofs.Above.{by_test}
use Rattle.pim_emit.proofs.DraftSizes.{fits_by, IsSome}

-- ---- a message without groups

begins_small : (family : AddressFamily) → body_start family ≤ 70
begins_small Ipv4 = omega arith
begins_small Ipv6 = omega arith

begins_empty : (family : AddressFamily) → body_start family ≡ message_size family 0 (run_entries [])
unfolding run_entries
begins_empty Ipv4 = refl
begins_empty Ipv6 = refl

no_sets : (n : ℕ) (bytes : List ℕ) → drop n (take n bytes) ≡ []
no_sets n bytes = drop_all n (take n bytes) (omega (arith, length-take n bytes))

pub draft_begins : (family : AddressFamily) (budget : ℕ) (demand_seen : DemandSeen) (position : Position (List ℕ)) (bytes : List ℕ) → IsPosition family position → 70 ≤ budget
    → IsDraft family budget demand_seen position (record { position = position; groups = 0; end = body_start family; is_full = false }) bytes
unfolding IsStrictlySortedBy
draft_begins family budget demand_seen position bytes is least = record {
  part = [];
  reported = refl;
  position = is;
  ascending = tt;
  some = tt;
  groups = refl;
  few = omega arith;
  end = begins_empty family;
  within = omega (arith, least, begins_small family);
  sets = no_sets (body_start family) bytes;
  goes_on = λ going group past. tt;
  stops = λ full. absurd (false≢true full);
}

-- ---- nothing is told: nothing is left

source_fits : (family : AddressFamily) (budget : ℕ) (group source : List ℕ) → GroupsAreCounted → 70 ≤ budget → fits family budget (source_unit group source ∷ []) ≡ true
unfolding IsStrictlySortedBy run_entries
source_fits Ipv4 budget group source counted least = fits_by counted Ipv4 budget (record { group = group; star = None; sources = source ∷ [] } ∷ []) (tt, tt) (refl, tt) (omega (arith, least), omega arith)
source_fits Ipv6 budget group source counted least = fits_by counted Ipv6 budget (record { group = group; star = None; sources = source ∷ [] } ∷ []) (tt, tt) (refl, tt) (omega (arith, least), omega arith)

abbrev StarFits : AddressFamily → ℕ → GroupForm → Type 0
StarFits family budget this = star_fits family budget this.group this.star ≡ true

all_fit : (family : AddressFamily) (budget : ℕ) (form : List GroupForm) → too_big family budget form ≡ None → AllByRecursion (StarFits family budget) form
all_fit family budget [] none = tt
all_fit family budget (this ∷ form) none =
    by_test (star_fits family budget this.group this.star)
    (λ e. (e, all_fit family budget form (subst (λ (b : Bool). (if b then too_big family budget form else Some this.group) ≡ None) e none)))
    (λ e. absurd (let clash : Some this.group ≡ None = subst (λ (b : Bool). (if b then too_big family budget form else Some this.group) ≡ None) e none in cc))

filtered : {A : Type 0} (P : A → Type 0) (test : A → Bool) (xs : List A) → AllByRecursion P xs → AllByRecursion P (filter test xs)
filtered P test [] all = tt
filtered P test (x ∷ xs) all =
    by_test (test x)
    (λ e. rw e (all.0, filtered P test xs all.1))
    (λ e. rw e (filtered P test xs all.1))

left_fits : (family : AddressFamily) (budget : ℕ) (position : Position (List ℕ)) (form : List GroupForm) → AllByRecursion (StarFits family budget) form → AllByRecursion (StarFits family budget) (left_at position form)
left_fits family budget Start form all = all
left_fits family budget (Within group source) form all = (refl, filtered (StarFits family budget) (λ this. is_above (Some group) this.group) form all)
left_fits family budget (Behind group) form all = filtered (StarFits family budget) (λ this. is_above (Some group) this.group) form all

first_fits : (family : AddressFamily) (budget : ℕ) → GroupsAreCounted → 70 ≤ budget → (form : List GroupForm) → AllByRecursion (StarFits family budget) form → (first : WantUnit) (left : List WantUnit)
    → units_of form ≡ first ∷ left → fits family budget (first ∷ []) ≡ true
first_fits family budget counted least [] all first left is = absurd cc
first_fits family budget counted least (this ∷ form) all first left is =
    by this.star this.sources all.0 is (λ is'. first_fits family budget counted least form all.1 first left is')
  where
    by : (star : Option (List (List ℕ))) (sources : List (List ℕ)) → star_fits family budget this.group star ≡ true
        → (star_units this.group star ++ map (source_unit this.group) sources) ++ units_of form ≡ first ∷ left
        → (units_of form ≡ first ∷ left → fits family budget (first ∷ []) ≡ true) → fits family budget (first ∷ []) ≡ true
    by None [] fit is behind = behind is
    by None (s ∷ sources) fit is behind =
        let head : source_unit this.group s ≡ first = cc in
        subst (λ (u : WantUnit). fits family budget (u ∷ []) ≡ true) head (source_fits family budget this.group s counted least)
    by (Some exceptions) sources fit is behind =
        let head : star_unit this.group exceptions ≡ first = cc in
        subst (λ (u : WantUnit). fits family budget (u ∷ []) ≡ true) head fit

pub nothing_left : (family : AddressFamily) (budget : ℕ) (demand_seen : DemandSeen) (begun : Position (List ℕ)) (draft : Draft (List ℕ)) (bytes : List ℕ) → GroupsAreCounted → 70 ≤ budget
    → too_big family budget demand_seen.form ≡ None → IsDraft family budget demand_seen begun draft bytes → draft.is_full ≡ true → draft.groups ≡ 0 → units_of (left_at begun demand_seen.form) ≡ []
nothing_left family budget demand_seen begun draft bytes counted least fitting is full none =
    is.reported ∙ by is.part (units_of (left_at draft.position demand_seen.form)) refl (is.stops full) (sym is.groups ∙ none)
  where
    by : (part : List GroupForm) (left : List WantUnit) → units_of (left_at draft.position demand_seen.form) ≡ left → StopsBefore family budget (units_of part) left → length part ≡ 0 → units_of part ++ left ≡ []
    by [] [] e stops count = refl
    by [] (first ∷ left) e stops count =
        absurd (false≢true (sym stops ∙ first_fits family budget counted least (left_at draft.position demand_seen.form)
        (left_fits family budget draft.position demand_seen.form (all_fit family budget demand_seen.form fitting)) first left e))
    by (this ∷ part) left e stops count = absurd (omega (arith, count))

-- ---- a message with groups

nonempty : (part : List GroupForm) → AllByRecursion IsSome part → (length part ≡ 0 → ⊥) → IsNonempty (units_of part)
nonempty [] some not_none = absurd (not_none refl)
nonempty (this ∷ part) some not_none = by this.star this.sources some.0
  where
    by : (star : Option (List (List ℕ))) (sources : List (List ℕ)) → is_empty star sources ≡ false → IsNonempty ((star_units this.group star ++ map (source_unit this.group) sources) ++ units_of part)
    by None [] e = absurd (false≢true (sym e))
    by None (s ∷ sources) e = tt
    by (Some exceptions) sources e = tt

pub message_made : (family : AddressFamily) (writing : Writing) (demand_seen : DemandSeen) (begun : Position (List ℕ)) (draft : Draft (List ℕ)) (bytes sealed : List ℕ) (sets : ℕ) → GroupsAreCounted
    → IsDraft family writing.budget demand_seen begun draft bytes → draft.is_full ≡ true → (draft.groups ≡ 0 → ⊥)
    → sets ≡ draft.groups
    → IsSealed family writing.own (all_routers family) JoinPrune (canonical_head family writing.upstream sets writing.holdtime ++ drop (body_start family) (take draft.end bytes)) sealed
    → IsMessage family writing demand_seen begun draft.position sealed
message_made family writing demand_seen begun draft bytes sealed sets counted is full some sets_are seal =
    let count : sets ≡ length (map (written_set (rp_of family demand_seen.table)) is.part) = sets_are ∙ is.groups ∙ sym (length-map is.part (written_set (rp_of family demand_seen.table))) in
    let body : canonical_head family writing.upstream sets writing.holdtime ++ drop (body_start family) (take draft.end bytes) ≡ canonical family (written_message writing (rp_of family demand_seen.table) is.part) =
    λ i. canonical_head family writing.upstream (count i) writing.holdtime ++ is.sets i in
    record {
      run = units_of is.part;
      units = is.reported;
      some = nonempty is.part is.some (λ none. some (is.groups ∙ none));
      fitting = fits_by counted family writing.budget is.part is.ascending is.some (omega (arith, is.end, is.within), omega (arith, is.groups, is.few));
      stops = is.stops full;
      carries = record { part = is.part; units = refl; ascending = is.ascending; some = is.some; sealed = subst (λ b. IsSealed family writing.own (all_routers family) JoinPrune b sealed) body seal };
      position = is.position;
    }

pub front_alone : (n : ℕ) (front middle behind : List ℕ) → length front ≡ n → take n ((front ++ middle) ++ behind) ≡ front
front_alone n front middle behind long =
    ap (take n) (append_assoc front middle behind) ∙ ap (λ k. take k (front ++ (middle ++ behind))) (sym long) ∙ take-append_seam front (middle ++ behind)
