-- The form that one port's records collect to wants what the port wants.
use Rattle.pim_form.proofs.Words.{◌≡◌, ◌∙◌, ℕ, inl, inr, Bool, true, false, ◌||◌, ◌&&◌, not, cond, List, [], ◌∷◌, ◌++◌, Option}
use Rattle.pim_form.proofs.Words.{None, Some, refl, sym, ap, subst, Less, AllByRecursion, list_any, nat_cmp, slice_cmp}
use Rattle.pim_form.proofs.Words.{false≢true, AddressFamily, What, Star, Source, Rpt, State, Record, what_cmp, KeysAreDistinct}
use Rattle.pim_form.proofs.Words.{IsSound, Downstream, Tree, GroupForm, same_address, is_listed, is_excepted, is_empty}
use Rattle.pim_form.proofs.Words.{group_wants, form_wants, IsFormOf, exceptions_of, is_joined, is_pruned, Takes, wants_at, fresh}
use Rattle.pim_form.proofs.Words.{with_exception, star_with, sources_with, added, closed, collected_behind, collected, of_port}
use Rattle.std.specs.Option.{is_some}
use Rattle.pim_form.specs.declared.tree.Tree.TheVariants.{Shared, Source as SourceTree}
use Rattle.pim_form.proofs.Addresses.{same_is, less_apart}
use Rattle.pim_form.proofs.PortDemand.{same_what, carries, some_tell, told_wants, port_wants, are_of_port}
use Rattle.pim_form.proofs.Collected.{Precedes, IsRun, is_run, IsNext, takes_fresh, all_next, all_first, later, taken, all_rising, collected_normal}

-- ---- truth values

or_nothing : (p : Bool) → (p || false) ≡ p
or_nothing true = refl
or_nothing false = refl

or_assoc : (p q r : Bool) → ((p || q) || r) ≡ (p || (q || r))
or_assoc true q r = refl
or_assoc false q r = refl

and_nothing : (p : Bool) → (p && false) ≡ false
and_nothing true = refl
and_nothing false = refl

and_or : (p q r : Bool) → (p && (q || r)) ≡ ((p && q) || (p && r))
and_or true q r = refl
and_or false q r = refl

listed_with : (s x : List ℕ) (xs : List (List ℕ)) → is_listed s (xs ++ x ∷ []) ≡ (is_listed s xs || same_address s x)
listed_with s x [] = or_nothing (same_address s x)
listed_with s x (y ∷ xs) = ap (λ b. same_address s y || b) (listed_with s x xs) ∙ sym (or_assoc (same_address s y) (is_listed s xs) (same_address s x))

-- ---- one group

-- what a group and the records behind it want; a group without a star has no exceptions
abbrev wants_behind : GroupForm → List (Record (List ℕ)) → List ℕ → List ℕ → Tree → Bool
wants_behind form records s group Shared =
    ((same_address group form.group && is_some form.star) || some_tell is_joined group Star records)
    && not ((same_address group form.group && is_listed s (exceptions_of form.star)) || some_tell is_pruned group (Rpt s) records)
wants_behind form records s group SourceTree = (same_address group form.group && is_listed s form.sources) || some_tell is_joined group (Source s) records

star_alone : (s : List ℕ) (star : Option (List (List ℕ))) → not (is_excepted s star) ≡ (is_some star && not (is_listed s (exceptions_of star)))
star_alone s None = refl
star_alone s (Some exceptions) = refl

empty_wants : (star : Option (List (List ℕ))) (sources : List (List ℕ)) (group s : List ℕ) (tree : Tree) → is_empty star sources ≡ true → group_wants (record { group = group; star = star; sources = sources }) s tree ≡ false
empty_wants None [] group s Shared e = refl
empty_wants None [] group s SourceTree e = refl
empty_wants None (x ∷ sources) group s tree e = absurd (false≢true e)
empty_wants (Some exceptions) sources group s tree e = absurd (false≢true e)

closed_wants : (form : GroupForm) (s group : List ℕ) (tree : Tree) → form_wants (closed form) s group tree ≡ (same_address group form.group && group_wants form s tree)
closed_wants form s group tree = by (is_empty form.star form.sources) refl
  where
    by : (b : Bool) → is_empty form.star form.sources ≡ b → form_wants (cond (is_empty form.star form.sources) [] (form ∷ [])) s group tree ≡ (same_address group form.group && group_wants form s tree)
    by true e = rw e (sym (ap (λ w. same_address group form.group && w) (empty_wants form.star form.sources form.group s tree e) ∙ and_nothing (same_address group form.group)))
    by false e = rw e (or_nothing (same_address group form.group && group_wants form s tree))

alone_wants : (form : GroupForm) (s group : List ℕ) (tree : Tree) → (same_address group form.group && group_wants form s tree) ≡ wants_behind form [] s group tree
alone_wants form s group Shared =
    ap (λ w. same_address group form.group && w) (star_alone s form.star)
    ∙ shared (same_address group form.group) (is_some form.star) (is_listed s (exceptions_of form.star))
  where
    shared : (p q r : Bool) → (p && (q && not r)) ≡ (((p && q) || false) && not ((p && r) || false))
    shared true true true = refl
    shared true true false = refl
    shared true false r = refl
    shared false q r = refl
alone_wants form s group SourceTree = sym (or_nothing (same_address group form.group && is_listed s form.sources))

-- ---- one record more of the group

-- whether the record makes the source one of the group's
source_step : (s : List ℕ) (what : What (List ℕ)) (state : State) (sources : List (List ℕ)) → is_listed s (sources_with what state sources) ≡ (is_listed s sources || (same_what (Source s) what && is_joined (Some state)))
source_step s Star state sources = sym (or_nothing (is_listed s sources))
source_step s (Rpt t) state sources = sym (or_nothing (is_listed s sources))
source_step s (Source t) state sources = by (is_joined (Some state))
  where
    and_true : (p : Bool) → p ≡ (p && true)
    and_true true = refl
    and_true false = refl

    by : (b : Bool) → is_listed s (cond b (sources ++ t ∷ []) sources) ≡ (is_listed s sources || (same_address s t && b))
    by true = listed_with s t sources ∙ ap (λ p. is_listed s sources || p) (and_true (same_address s t))
    by false = sym (ap (λ p. is_listed s sources || p) (and_nothing (same_address s t)) ∙ or_nothing (is_listed s sources))

-- the same of the star and its exceptions; behind an (S,G,rpt) there is no star
star_step : (s : List ℕ) (what : What (List ℕ)) (state : State) (form : GroupForm) (stars rpts : Bool) → Takes what form → ((t : List ℕ) → what ≡ Rpt t → stars ≡ false)
    → ((is_some (star_with what state form.star) || stars) && not (is_listed s (exceptions_of (star_with what state form.star)) || rpts))
    ≡ ((is_some form.star || ((same_what Star what && is_joined (Some state)) || stars)) && not (is_listed s (exceptions_of form.star) || ((same_what (Rpt s) what && is_pruned (Some state)) || rpts)))
star_step s Star state form stars rpts takes none = rw takes (by (is_joined (Some state)))
  where
    by : (b : Bool) → ((is_some {T = List (List ℕ)} (cond b (Some []) None) || stars) && not (is_listed s (exceptions_of (cond b (Some []) None)) || rpts)) ≡ ((false || ((true && b) || stars)) && not (false || ((false && is_pruned (Some state)) || rpts)))
    by true = refl
    by false = refl
star_step s (Source t) state form stars rpts takes none = refl
star_step s (Rpt t) state form stars rpts takes none = by form.star (is_pruned (Some state))
  where
    gone : stars ≡ false
    gone = none t refl

    bools : (p q r : Bool) → ((p || q) || r) ≡ (p || ((q && true) || r))
    bools true q r = refl
    bools false true r = refl
    bools false false r = refl

    by : (star : Option (List (List ℕ))) (b : Bool) → ((is_some (cond b (with_exception t star) star) || stars) && not (is_listed s (exceptions_of (cond b (with_exception t star) star)) || rpts))
        ≡ ((is_some star || ((false && is_joined (Some state)) || stars)) && not (is_listed s (exceptions_of star) || ((same_address s t && b) || rpts)))
    by None true = rw gone refl
    by None false = rw gone refl
    by (Some exceptions) true = ap not (ap (λ l. l || rpts) (listed_with s t exceptions) ∙ bools (is_listed s exceptions) (same_address s t) rpts)
    by (Some exceptions) false = ap (λ p. not (is_listed s exceptions || (p || rpts))) (sym (and_nothing (same_address s t)))

not_star : (t : List ℕ) (what : What (List ℕ)) (state : State) → what_cmp (Rpt t) what ≡ Less → (same_what Star what && is_joined (Some state)) ≡ false
unfolding what_cmp
not_star t Star state less = absurd cc
not_star t (Source u) state less = refl
not_star t (Rpt u) state less = refl

no_star : (group t : List ℕ) (held : Record (List ℕ)) (records : List (Record (List ℕ))) → held.key.what ≡ Rpt t → AllByRecursion (Precedes held) records → same_address group held.key.group ≡ true → some_tell is_joined group Star records ≡ false
no_star group t held [] is behind same = refl
no_star group t held (next ∷ records) is behind same = rw (one behind.0) (no_star group t held records is behind.1 same)
  where
    here : group ≡ held.key.group
    here = same_is group held.key.group same

    one : Precedes held next → carries is_joined group Star next ≡ false
    one (inl less) = rw (subst (λ g. same_address g next.key.group ≡ false) (sym here) (less_apart held.key.group next.key.group less)) refl
    one (inr both) =
        ap (λ b. same_address group next.key.group && b) (not_star t next.key.what next.machine.state (subst (λ w. what_cmp w next.key.what ≡ Less) is both.1)) ∙ and_nothing (same_address group next.key.group)

one_more : (form : GroupForm) (held : Record (List ℕ)) (records : List (Record (List ℕ))) (s group : List ℕ) (tree : Tree) → held.key.group ≡ form.group → Takes held.key.what form → AllByRecursion (Precedes held) records
    → wants_behind (added held form) records s group tree ≡ wants_behind form (held ∷ records) s group tree
one_more form held records s group SourceTree same takes behind =
    ap (λ l. (same_address group form.group && l) || some_tell is_joined group (Source s) records) (source_step s held.key.what held.machine.state form.sources)
    ∙ ap (λ b. b || some_tell is_joined group (Source s) records) (and_or (same_address group form.group) (is_listed s form.sources) (same_what (Source s) held.key.what && is_joined (Some held.machine.state)))
    ∙ or_assoc (same_address group form.group && is_listed s form.sources) (same_address group form.group && (same_what (Source s) held.key.what && is_joined (Some held.machine.state))) (some_tell is_joined group (Source s) records)
    ∙ ap (λ g. (same_address group form.group && is_listed s form.sources) || ((same_address group g && (same_what (Source s) held.key.what && is_joined (Some held.machine.state))) || some_tell is_joined group (Source s) records)) (sym same)
one_more form held records s group Shared same takes behind =
    by (same_address group form.group) refl
    ∙ ap (λ g. ((same_address group form.group && is_some form.star) || ((same_address group g && (same_what Star held.key.what && is_joined (Some held.machine.state))) || some_tell is_joined group Star records))
    && not ((same_address group form.group && is_listed s (exceptions_of form.star)) || ((same_address group g && (same_what (Rpt s) held.key.what && is_pruned (Some held.machine.state))) || some_tell is_pruned group (Rpt s) records))) (sym same)
  where
    by : (p : Bool) → same_address group form.group ≡ p
        → (((same_address group form.group && is_some (star_with held.key.what held.machine.state form.star)) || some_tell is_joined group Star records) && not ((same_address group form.group && is_listed s (exceptions_of (star_with held.key.what held.machine.state form.star))) || some_tell is_pruned group (Rpt s) records))
        ≡ (((same_address group form.group && is_some form.star) || ((same_address group form.group && (same_what Star held.key.what && is_joined (Some held.machine.state))) || some_tell is_joined group Star records))
        && not ((same_address group form.group && is_listed s (exceptions_of form.star)) || ((same_address group form.group && (same_what (Rpt s) held.key.what && is_pruned (Some held.machine.state))) || some_tell is_pruned group (Rpt s) records)))
    by true e = rw e (star_step s held.key.what held.machine.state form (some_tell is_joined group Star records) (some_tell is_pruned group (Rpt s) records) takes
        (λ t is. no_star group t held records is behind (subst (λ g. same_address group g ≡ true) (sym same) e)))
    by false e = rw e refl

-- ---- a record of another group

none_tell : (good : Option State → Bool) (group : List ℕ) (what : What (List ℕ)) (records : List (Record (List ℕ))) → AllByRecursion (λ next. slice_cmp nat_cmp group next.key.group ≡ Less) records → some_tell good group what records ≡ false
none_tell good group what [] all = refl
none_tell good group what (next ∷ records) all = rw (less_apart group next.key.group all.0) (none_tell good group what records all.1)

fresh_wants : (held : Record (List ℕ)) (records : List (Record (List ℕ))) (s group : List ℕ) (tree : Tree) → AllByRecursion (Precedes held) records
    → wants_behind (added held (fresh held.key.group)) records s group tree ≡ told_wants (held ∷ records) s group tree
fresh_wants held records s group Shared behind =
    one_more (fresh held.key.group) held records s group Shared refl (takes_fresh held.key.what held.key.group) behind ∙ nothing (same_address group held.key.group) (some_tell is_joined group Star (held ∷ records)) (some_tell is_pruned group (Rpt s) (held ∷ records))
  where
    nothing : (p a r : Bool) → (((p && false) || a) && not ((p && false) || r)) ≡ (a && not r)
    nothing true a r = refl
    nothing false a r = refl
fresh_wants held records s group SourceTree behind =
    one_more (fresh held.key.group) held records s group SourceTree refl (takes_fresh held.key.what held.key.group) behind ∙ nothing (same_address group held.key.group) (some_tell is_joined group (Source s) (held ∷ records))
  where
    nothing : (p a : Bool) → ((p && false) || a) ≡ a
    nothing true a = refl
    nothing false a = refl

other_group : (form : GroupForm) (records : List (Record (List ℕ))) (s group : List ℕ) (tree : Tree) → AllByRecursion (λ next. slice_cmp nat_cmp form.group next.key.group ≡ Less) records
    → ((same_address group form.group && group_wants form s tree) || told_wants records s group tree) ≡ wants_behind form records s group tree
other_group form records s group tree behind = by tree (same_address group form.group) refl
  where
    none : (good : Option State → Bool) (what : What (List ℕ)) → same_address group form.group ≡ true → some_tell good group what records ≡ false
    none good what e = subst (λ g. some_tell good g what records ≡ false) (sym (same_is group form.group e)) (none_tell good form.group what records behind)

    shared : (q r : Bool) → ((q && not r) || (false && not false)) ≡ ((q || false) && not (r || false))
    shared true true = refl
    shared true false = refl
    shared false r = refl

    by : (tree : Tree) (p : Bool) → same_address group form.group ≡ p → ((same_address group form.group && group_wants form s tree) || told_wants records s group tree) ≡ wants_behind form records s group tree
    by Shared true e =
        rw (e, none is_joined Star e, none is_pruned (Rpt s) e)
        (ap (λ b. b || (false && not false)) (star_alone s form.star) ∙ shared (is_some form.star) (is_listed s (exceptions_of form.star)))
    by Shared false e = rw e refl
    by SourceTree p e = refl

any_append : (test : GroupForm → Bool) (one other : List GroupForm) → list_any test (one ++ other) ≡ (list_any test one || list_any test other)
any_append test [] other = refl
any_append test (this ∷ one) other = ap (λ b. test this || b) (any_append test one other) ∙ sym (or_assoc (test this) (list_any test one) (list_any test other))

-- ---- all records

behind_wants : (form : GroupForm) (records : List (Record (List ℕ))) (s group : List ℕ) (tree : Tree) → AllByRecursion (IsNext form) records → IsRun records
    → form_wants (collected_behind form records) s group tree ≡ wants_behind form records s group tree
unfolding collected_behind
behind_wants form [] s group tree next run = closed_wants form s group tree ∙ alone_wants form s group tree
behind_wants form (held ∷ records) s group tree next run =
    by (λ same. behind_wants (added held form) records s group tree (all_next form held records (sym (same_is held.key.group form.group same)) run.0 next.1) run.1)
    (behind_wants (added held (fresh held.key.group)) records s group tree (all_first held records run.0) run.1)
    (same_address held.key.group form.group) refl
  where
    by : (same_address held.key.group form.group ≡ true → form_wants (collected_behind (added held form) records) s group tree ≡ wants_behind (added held form) records s group tree)
        → form_wants (collected_behind (added held (fresh held.key.group)) records) s group tree ≡ wants_behind (added held (fresh held.key.group)) records s group tree
        → (b : Bool) → same_address held.key.group form.group ≡ b
        → form_wants (cond (same_address held.key.group form.group) (collected_behind (added held form) records) (closed form ++ collected_behind (added held (fresh held.key.group)) records)) s group tree ≡ wants_behind form (held ∷ records) s group tree
    by here there true e = rw e (here e ∙ one_more form held records s group tree (same_is held.key.group form.group e) (taken form held next.0 e) run.0)
    by here there false e =
        let less = later form held next.0 e in
        rw e (any_append (λ this. same_address group this.group && group_wants this s tree) (closed form) (collected_behind (added held (fresh held.key.group)) records)
        ∙ (λ i. closed_wants form s group tree i || there i)
        ∙ ap (λ w. (same_address group form.group && group_wants form s tree) || w) (fresh_wants held records s group tree run.0)
        ∙ other_group form (held ∷ records) s group tree (less, all_rising form.group held records less run.0))

collected_wants : (records : List (Record (List ℕ))) (s group : List ℕ) (tree : Tree) → IsRun records → form_wants (collected records) s group tree ≡ told_wants records s group tree
unfolding collected
collected_wants [] s group Shared run = refl
collected_wants [] s group SourceTree run = refl
collected_wants (held ∷ records) s group tree run = behind_wants (added held (fresh held.key.group)) records s group tree (all_first held records run.0) run.1 ∙ fresh_wants held records s group tree run.0

pub port_form : (apart : KeysAreDistinct) (family : AddressFamily) (state : Downstream) (port : ℕ) → IsSound family state
    → IsFormOf family (wants_at port state) (collected (of_port port state))
port_form apart family state port sound =
    let are = are_of_port family state port sound in
    record {
      normal = collected_normal family port state.ports (of_port port state) are;
      wants = λ source group tree is is_group. port_wants apart state.records port sound.ascending source group tree ∙ sym (collected_wants (of_port port state) source group tree (is_run port (of_port port state) are.here are.ascending));
    }
