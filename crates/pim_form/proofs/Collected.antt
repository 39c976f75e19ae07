-- The records of one port collect to the normal form of what it wants.
use Rattle.pim_form.proofs.Words.{◌≡◌, ◌∙◌, ℕ, suc, ◌+◌, ◌≤◌, ◌⊎◌, inl, inr, Bool, true, false, cond, List, [], ◌∷◌, ◌++◌, Option}
use Rattle.pim_form.proofs.Words.{None, Some, length, refl, sym, ap, subst, arith, Less, Equal, Greater, AllByRecursion}
use Rattle.pim_form.proofs.Words.{IsStrictlySortedBy, nat_cmp, ordering_then, slice_cmp, false≢true, nat_list_cmp_total}
use Rattle.pim_form.proofs.Words.{nat_cmp_total, tied_itself, AddressFamily, IsGroupAddress, IsSourceAddress, What, Star, Source}
use Rattle.pim_form.proofs.Words.{Rpt, State, Record, key_cmp, what_cmp, IsBelow, IsAscending, IsReal, HasSource, GroupForm}
use Rattle.pim_form.proofs.Words.{AreAscending, AreExceptions, IsNormalGroup, IsNormal, same_address, is_empty, groups_of}
use Rattle.pim_form.proofs.Words.{exceptions_of, is_joined, is_pruned, Takes, fresh, with_exception, star_with, sources_with}
use Rattle.pim_form.proofs.Words.{added, closed, collected_behind, collected, AreOfPort}
use Rattle.std.specs.declared.cmp.Ordering.{Ordering}
use Rattle.pim_form.proofs.Addresses.{same_itself, same_is, equal_is, less_apart_back}
use Rattle.pim_form.proofs.Lists.{all_append}

either : {X : Type 0} (P : X → Type 0) (b : Bool) (x y : X) → P x → P y → P (cond b x y)
either P true x y p q = p
either P false x y p q = q

-- ---- the order of one port's records

-- the first record stands before the second
abbrev pub Precedes : Record (List ℕ) → Record (List ℕ) → Type 0
Precedes one other = (slice_cmp nat_cmp one.key.group other.key.group ≡ Less) ⊎ ((one.key.group ≡ other.key.group) × (what_cmp one.key.what other.key.what ≡ Less))

abbrev pub IsRun : List (Record (List ℕ)) → Type 0
IsRun [] = Unit {0}
IsRun (held ∷ records) = AllByRecursion (Precedes held) records × IsRun records

same_nat : (n : ℕ) → nat_cmp n n ≡ Equal
same_nat n = tied_itself nat_cmp_total n

parts : (r s : Ordering) → ordering_then r s ≡ Less → (r ≡ Less) ⊎ ((r ≡ Equal) × (s ≡ Less))
parts Less s e = inl refl
parts Equal s e = inr (refl, e)
parts Greater s e = absurd cc

precedes : (port : ℕ) (one other : Record (List ℕ)) → one.key.port ≡ port → other.key.port ≡ port → key_cmp one.key other.key ≡ Less → Precedes one other
unfolding key_cmp
precedes port one other on on' e =
    by (parts (slice_cmp nat_cmp one.key.group other.key.group) (what_cmp one.key.what other.key.what) rest)
  where
    ports : nat_cmp one.key.port other.key.port ≡ Equal
    ports = (λ i. nat_cmp (on i) (on' i)) ∙ same_nat port

    rest : ordering_then (slice_cmp nat_cmp one.key.group other.key.group) (what_cmp one.key.what other.key.what) ≡ Less
    rest = ap (λ r. ordering_then (ordering_then r (slice_cmp nat_cmp one.key.group other.key.group)) (what_cmp one.key.what other.key.what)) (sym ports) ∙ e

    by : (slice_cmp nat_cmp one.key.group other.key.group ≡ Less) ⊎ ((slice_cmp nat_cmp one.key.group other.key.group ≡ Equal) × (what_cmp one.key.what other.key.what ≡ Less)) → Precedes one other
    by (inl less) = inl less
    by (inr both) = inr (equal_is one.key.group other.key.group both.0, both.1)

all_precede : (port : ℕ) (one : Record (List ℕ)) (records : List (Record (List ℕ))) → one.key.port ≡ port → AllByRecursion (λ held. held.key.port ≡ port) records → IsBelow one.key records → AllByRecursion (Precedes one) records
unfolding IsBelow
all_precede port one [] on ons below = tt
all_precede port one (held ∷ records) on ons below = (precedes port one held on ons.0 below.0, all_precede port one records on ons.1 below.1)

pub is_run : (port : ℕ) (records : List (Record (List ℕ))) → AllByRecursion (λ held. held.key.port ≡ port) records → IsAscending records → IsRun records
unfolding IsAscending
is_run port [] ons up = tt
is_run port (held ∷ records) ons up = (all_precede port held records ons.0 ons.1 up.0, is_run port records ons.1 up.1)

-- ---- what may follow a group

abbrev pub IsNext : GroupForm → Record (List ℕ) → Type 0
IsNext form held = (slice_cmp nat_cmp form.group held.key.group ≡ Less) ⊎ ((form.group ≡ held.key.group) × Takes held.key.what form)

pub takes_fresh : (what : What (List ℕ)) (group : List ℕ) → Takes what (fresh group)
takes_fresh Star group = refl
takes_fresh (Source source) group = (refl, tt)
takes_fresh (Rpt source) group = tt

star_kept : (P : Option (List (List ℕ)) → Type 0) (state : State) (star : Option (List (List ℕ))) → P (Some []) → P star → P (star_with Star state star)
star_kept P state star p q = either P (is_joined (Some state)) (Some []) star p q

all_with : (P : List ℕ → Type 0) (source : List ℕ) (star : Option (List (List ℕ))) → AllByRecursion P (exceptions_of star) → P source → AllByRecursion P (exceptions_of (with_exception source star))
all_with P source None all p = tt
all_with P source (Some exceptions) all p = all_append P exceptions (source ∷ []) all (p, tt)

then_takes : (one other : What (List ℕ)) (state : State) (form : GroupForm) → what_cmp one other ≡ Less → Takes other form
    → Takes other (record { group = form.group; star = star_with one state form.star; sources = sources_with one state form.sources })
unfolding what_cmp
then_takes Star Star state form less takes = absurd cc
then_takes Star (Source t) state form less takes = (star_kept (λ star. exceptions_of star ≡ []) state form.star refl takes.0, takes.1)
then_takes Star (Rpt t) state form less takes = star_kept (λ star. AllByRecursion (λ s. slice_cmp nat_cmp s t ≡ Less) (exceptions_of star)) state form.star tt takes
then_takes (Source s) Star state form less takes = absurd cc
then_takes (Source s) (Source t) state form less takes =
    (takes.0, either (AllByRecursion (λ r. slice_cmp nat_cmp r t ≡ Less)) (is_joined (Some state)) (form.sources ++ s ∷ []) form.sources (all_append (λ r. slice_cmp nat_cmp r t ≡ Less) form.sources (s ∷ []) takes.1 (less, tt)) takes.1)
then_takes (Source s) (Rpt t) state form less takes = takes
then_takes (Rpt s) Star state form less takes = absurd cc
then_takes (Rpt s) (Source t) state form less takes = absurd cc
then_takes (Rpt s) (Rpt t) state form less takes =
    either (λ star. AllByRecursion (λ r. slice_cmp nat_cmp r t ≡ Less) (exceptions_of star)) (is_pruned (Some state)) (with_exception s form.star) form.star (all_with (λ r. slice_cmp nat_cmp r t ≡ Less) s form.star takes less) takes

next_behind : (form : GroupForm) (held next : Record (List ℕ)) → form.group ≡ held.key.group → Precedes held next → IsNext form next → IsNext (added held form) next
next_behind form held next same (inl less) is = inl (subst (λ g. slice_cmp nat_cmp g next.key.group ≡ Less) (sym same) less)
next_behind form held next same (inr both) (inl less) = inl less
next_behind form held next same (inr both) (inr here) = inr (here.0, then_takes held.key.what next.key.what held.machine.state form both.1 here.1)

pub all_next : (form : GroupForm) (held : Record (List ℕ)) (records : List (Record (List ℕ))) → form.group ≡ held.key.group → AllByRecursion (Precedes held) records → AllByRecursion (IsNext form) records → AllByRecursion (IsNext (added held form)) records
all_next form held [] same behind all = tt
all_next form held (next ∷ records) same behind all = (next_behind form held next same behind.0 all.0, all_next form held records same behind.1 all.1)

-- behind the first record of a group
next_first : (held next : Record (List ℕ)) → Precedes held next → IsNext (fresh held.key.group) next
next_first held next (inl less) = inl less
next_first held next (inr both) = inr (both.0, takes_fresh next.key.what held.key.group)

pub all_first : (held : Record (List ℕ)) (records : List (Record (List ℕ))) → AllByRecursion (Precedes held) records → AllByRecursion (IsNext (added held (fresh held.key.group))) records
all_first held records behind = all_next (fresh held.key.group) held records refl behind (each records behind)
  where
    each : (records : List (Record (List ℕ))) → AllByRecursion (Precedes held) records → AllByRecursion (IsNext (fresh held.key.group)) records
    each [] behind = tt
    each (next ∷ records) behind = (next_first held next behind.0, each records behind.1)

-- a record of another group is behind
pub later : (form : GroupForm) (held : Record (List ℕ)) → IsNext form held → same_address held.key.group form.group ≡ false → slice_cmp nat_cmp form.group held.key.group ≡ Less
later form held (inl less) apart = less
later form held (inr both) apart = absurd (false≢true (sym apart ∙ subst (λ g. same_address g form.group ≡ true) both.0 (same_itself form.group)))

pub taken : (form : GroupForm) (held : Record (List ℕ)) → IsNext form held → same_address held.key.group form.group ≡ true → Takes held.key.what form
taken form held (inl less) same = absurd (false≢true (sym (less_apart_back form.group held.key.group less) ∙ same))
taken form held (inr both) same = both.1

-- ---- normal forms

-- a group as it is while its records are read
pub record IsOpen (family : AddressFamily) (form : GroupForm) : Type 0 where
  pub group : IsGroupAddress family form.group
  pub excepted : AreAscending (exceptions_of form.star)
  pub exceptions : AllByRecursion (IsSourceAddress family) (exceptions_of form.star)
  pub ascending : AreAscending form.sources
  pub sources : AllByRecursion (IsSourceAddress family) form.sources

-- its exceptions, with as many more as there are records left
abbrev HasRoom : GroupForm → List (Record (List ℕ)) → Type 0
HasRoom form records = length (exceptions_of form.star) + length records ≤ 100000

ascending_with : (x : List ℕ) (xs : List (List ℕ)) → AreAscending xs → AllByRecursion (λ s. slice_cmp nat_cmp s x ≡ Less) xs → AreAscending (xs ++ x ∷ [])
unfolding IsStrictlySortedBy
ascending_with x [] up below = (tt, tt)
ascending_with x (y ∷ xs) up below = (all_append (λ s. slice_cmp nat_cmp y s ≡ Less) xs (x ∷ []) up.0 (below.0, tt), ascending_with x xs up.1 below.1)

with_up : (source : List ℕ) (star : Option (List (List ℕ))) → AreAscending (exceptions_of star) → AllByRecursion (λ s. slice_cmp nat_cmp s source ≡ Less) (exceptions_of star) → AreAscending (exceptions_of (with_exception source star))
with_up source None up below = up
with_up source (Some exceptions) up below = ascending_with source exceptions up below

length_with : (xs : List (List ℕ)) (x : List ℕ) → length (xs ++ x ∷ []) ≡ suc (length xs)
length_with [] x = refl
length_with (y ∷ xs) x = ap suc (length_with xs x)

none_up : AreAscending []
unfolding IsStrictlySortedBy
none_up = tt

-- ---- groups in order

above : (a : List ℕ) (form : GroupForm) → slice_cmp nat_cmp a form.group ≡ Less → AllByRecursion (λ g. slice_cmp nat_cmp a g ≡ Less) (groups_of (closed form))
above a form less =
    elim (is_empty form.star form.sources) as (λ b. AllByRecursion (λ g. slice_cmp nat_cmp a g ≡ Less) (groups_of (cond b [] (form ∷ [])))) [
      | true ↦ tt
      | false ↦ (less, tt)
    ]

groups_append : (one other : List GroupForm) → groups_of (one ++ other) ≡ groups_of one ++ groups_of other
groups_append [] other = refl
groups_append (this ∷ one) other = ap (λ (gs : List (List ℕ)). this.group ∷ gs) (groups_append one other)

all_above : (a : List ℕ) (form : GroupForm) (records : List (Record (List ℕ))) → slice_cmp nat_cmp a form.group ≡ Less → AllByRecursion (λ held. slice_cmp nat_cmp a held.key.group ≡ Less) records
    → AllByRecursion (λ g. slice_cmp nat_cmp a g ≡ Less) (groups_of (collected_behind form records))
unfolding collected_behind
all_above a form [] less all = above a form less
all_above a form (held ∷ records) less all =
    let before : AllByRecursion (λ g. slice_cmp nat_cmp a g ≡ Less) (groups_of (closed form ++ collected_behind (added held (fresh held.key.group)) records)) =
    subst (AllByRecursion (λ g. slice_cmp nat_cmp a g ≡ Less)) (sym (groups_append (closed form) (collected_behind (added held (fresh held.key.group)) records)))
    (all_append (λ g. slice_cmp nat_cmp a g ≡ Less) (groups_of (closed form)) (groups_of (collected_behind (added held (fresh held.key.group)) records)) (above a form less) (all_above a (added held (fresh held.key.group)) records all.0 all.1)) in
    either (λ fs. AllByRecursion (λ g. slice_cmp nat_cmp a g ≡ Less) (groups_of fs)) (same_address held.key.group form.group)
    (collected_behind (added held form) records) (closed form ++ collected_behind (added held (fresh held.key.group)) records)
    (all_above a (added held form) records less all.1) before

-- all of these are of groups behind this one
rising : (a : List ℕ) (held next : Record (List ℕ)) → slice_cmp nat_cmp a held.key.group ≡ Less → Precedes held next → slice_cmp nat_cmp a next.key.group ≡ Less
rising a held next less (inl further) = nat_list_cmp_total.trans a held.key.group next.key.group less further
rising a held next less (inr both) = subst (λ g. slice_cmp nat_cmp a g ≡ Less) both.0 less

pub all_rising : (a : List ℕ) (held : Record (List ℕ)) (records : List (Record (List ℕ))) → slice_cmp nat_cmp a held.key.group ≡ Less → AllByRecursion (Precedes held) records → AllByRecursion (λ next. slice_cmp nat_cmp a next.key.group ≡ Less) records
all_rising a held [] less behind = tt
all_rising a held (next ∷ records) less behind = (rising a held next less behind.0, all_rising a held records less behind.1)

module _ (family : AddressFamily) where
  open_with : (what : What (List ℕ)) (state : State) (form : GroupForm) → IsOpen family form → HasSource family what → Takes what form
      → IsOpen family (record { group = form.group; star = star_with what state form.star; sources = sources_with what state form.sources })
  open_with Star state form is valid takes = record {
    group = is.group;
    excepted = star_kept (λ star. AreAscending (exceptions_of star)) state form.star none_up is.excepted;
    exceptions = star_kept (λ star. AllByRecursion (IsSourceAddress family) (exceptions_of star)) state form.star tt is.exceptions;
    ascending = is.ascending;
    sources = is.sources;
  }
  open_with (Source source) state form is valid takes = record {
    group = is.group;
    excepted = is.excepted;
    exceptions = is.exceptions;
    ascending = either AreAscending (is_joined (Some state)) (form.sources ++ source ∷ []) form.sources (ascending_with source form.sources is.ascending takes.1) is.ascending;
    sources = either (AllByRecursion (IsSourceAddress family)) (is_joined (Some state)) (form.sources ++ source ∷ []) form.sources (all_append (IsSourceAddress family) form.sources (source ∷ []) is.sources (valid, tt)) is.sources;
  }
  open_with (Rpt source) state form is valid takes = record {
    group = is.group;
    excepted = either (λ star. AreAscending (exceptions_of star)) (is_pruned (Some state)) (with_exception source form.star) form.star (with_up source form.star is.excepted takes) is.excepted;
    exceptions = either (λ star. AllByRecursion (IsSourceAddress family) (exceptions_of star)) (is_pruned (Some state)) (with_exception source form.star) form.star (all_with (IsSourceAddress family) source form.star is.exceptions valid) is.exceptions;
    ascending = is.ascending;
    sources = is.sources;
  }

  longer : (source : List ℕ) (star : Option (List (List ℕ))) → length (exceptions_of (with_exception source star)) ≤ suc (length (exceptions_of star))
  longer source None = omega arith
  longer source (Some exceptions) = let long = length_with exceptions source in omega arith

  room_with : (what : What (List ℕ)) (state : State) (star : Option (List (List ℕ))) → length (exceptions_of (star_with what state star)) ≤ suc (length (exceptions_of star))
  room_with Star state star = star_kept (λ now. length (exceptions_of now) ≤ suc (length (exceptions_of star))) state star (omega arith) (omega arith)
  room_with (Source source) state star = omega arith
  room_with (Rpt source) state star = either (λ now. length (exceptions_of now) ≤ suc (length (exceptions_of star))) (is_pruned (Some state)) (with_exception source star) star (longer source star) (omega arith)

  pub open_added : (form : GroupForm) (held : Record (List ℕ)) → IsOpen family form → IsGroupAddress family held.key.group × HasSource family held.key.what → Takes held.key.what form → IsOpen family (added held form)
  open_added form held is valid takes = open_with held.key.what held.machine.state form is valid.1 takes

  pub open_fresh : (group : List ℕ) → IsGroupAddress family group → IsOpen family (fresh group)
  open_fresh group is = record { group = is; excepted = none_up; exceptions = tt; ascending = none_up; sources = tt }

  pub room_added : (form : GroupForm) (held : Record (List ℕ)) (records : List (Record (List ℕ))) → HasRoom form (held ∷ records) → HasRoom (added held form) records
  room_added form held records room = let most = room_with held.key.what held.machine.state form.star in omega arith

  few_exceptions : (star : Option (List (List ℕ))) → AreAscending (exceptions_of star) → AllByRecursion (IsSourceAddress family) (exceptions_of star) → length (exceptions_of star) ≤ 100000 → AreExceptions family star
  few_exceptions None up all few = tt
  few_exceptions (Some exceptions) up all few = (up, all, few)

  closed_normal : (form : GroupForm) (rest : List GroupForm) → IsOpen family form → length (exceptions_of form.star) ≤ 100000 → AllByRecursion (λ g. slice_cmp nat_cmp form.group g ≡ Less) (groups_of rest) → IsNormal family rest → IsNormal family (closed form ++ rest)
  unfolding IsStrictlySortedBy
  closed_normal form rest is few behind normal = by (is_empty form.star form.sources) refl
    where
      by : (b : Bool) → is_empty form.star form.sources ≡ b → IsNormal family (cond (is_empty form.star form.sources) [] (form ∷ []) ++ rest)
      by true e = rw e normal
      by false e =
          let this : IsNormalGroup family form = record {
            group = is.group;
            exceptions = few_exceptions form.star is.excepted is.exceptions few;
            ascending = is.ascending;
            sources = is.sources;
            some = e;
          } in
          subst (λ b. IsNormal family (cond b [] (form ∷ []) ++ rest)) (sym e) (record { ascending = (behind, normal.ascending); groups = (this, normal.groups) })

  nothing_normal : IsNormal family []
  unfolding IsStrictlySortedBy
  nothing_normal = record { ascending = tt; groups = tt }

  pub normal_behind : (form : GroupForm) (records : List (Record (List ℕ))) → IsOpen family form → HasRoom form records → AllByRecursion (IsNext form) records → IsRun records
      → AllByRecursion (λ held. IsGroupAddress family held.key.group × HasSource family held.key.what) records → IsNormal family (collected_behind form records)
  unfolding collected_behind
  normal_behind form [] is room next run valid =
      subst (IsNormal family) (append_none (closed form)) (closed_normal form [] is (omega arith) tt nothing_normal)
    where
      append_none : (xs : List GroupForm) → xs ++ [] ≡ xs
      append_none [] = refl
      append_none (x ∷ xs) = ap (λ (ys : List GroupForm). x ∷ ys) (append_none xs)
  normal_behind form (held ∷ records) is room next run valid =
      by (λ same. normal_behind (added held form) records (open_added form held is valid.0 (taken form held next.0 same)) (room_added form held records room) (all_next form held records (sym (same_is held.key.group form.group same)) run.0 next.1) run.1 valid.1)
      (normal_behind (added held (fresh held.key.group)) records (open_added (fresh held.key.group) held (open_fresh held.key.group valid.0.0) valid.0 (takes_fresh held.key.what held.key.group)) (room_added (fresh held.key.group) held records (omega arith)) (all_first held records run.0) run.1 valid.1)
      (same_address held.key.group form.group) refl
    where
      by : (same_address held.key.group form.group ≡ true → IsNormal family (collected_behind (added held form) records)) → IsNormal family (collected_behind (added held (fresh held.key.group)) records) → (b : Bool) → same_address held.key.group form.group ≡ b
          → IsNormal family (cond (same_address held.key.group form.group) (collected_behind (added held form) records) (closed form ++ collected_behind (added held (fresh held.key.group)) records))
      by here there true e = rw e (here e)
      by here there false e =
          let less = later form held next.0 e in
          rw e (closed_normal form (collected_behind (added held (fresh held.key.group)) records) is (omega arith)
          (all_above form.group (added held (fresh held.key.group)) records less (all_rising form.group held records less run.0)) there)

  valid_of : (ports : ℕ) (records : List (Record (List ℕ))) → AllByRecursion (IsReal family ports) records → AllByRecursion (λ held. IsGroupAddress family held.key.group × HasSource family held.key.what) records
  valid_of ports [] real = tt
  valid_of ports (held ∷ records) real = ((real.0.group, real.0.source), valid_of ports records real.1)

  pub collected_normal : (port ports : ℕ) (records : List (Record (List ℕ))) → AreOfPort family port ports records → IsNormal family (collected records)
  unfolding collected IsStrictlySortedBy
  collected_normal port ports [] are = record { ascending = tt; groups = tt }
  collected_normal port ports (held ∷ records) are =
      let run = is_run port (held ∷ records) are.here are.ascending in
      let valid = valid_of ports (held ∷ records) are.real in
      let few = are.few in
      normal_behind (added held (fresh held.key.group)) records (open_added (fresh held.key.group) held (open_fresh held.key.group valid.0.0) valid.0 (takes_fresh held.key.what held.key.group)) (room_added (fresh held.key.group) held records (omega arith)) (all_first held records run.0) run.1 valid.1
