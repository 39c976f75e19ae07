-- What the reader finds in one list, told of the parts of the body.
use Rattle.pim_jp.proofs.Words.{◌≡◌, ◌∙◌, sym, ap, ℕ, zero, suc, ◌+◌, ◌-◌, ◌*◌, ◌≤◌, ◌<◌, Bool, true, false, ◌||◌, ◌&&◌, not}
use Rattle.pim_jp.proofs.Words.{List, [], ◌∷◌, ◌++◌, length, drop, nat_lt, refl, ⊎_elim, arith, append_assoc, append-nil, map}
use Rattle.pim_jp.proofs.Words.{if◌then◌else◌, list_any, le-ltb, or_parts, cases_lt, list_any-append, AddressFamily, is_source}
use Rattle.pim_jp.proofs.Words.{fault_if, judged, source_faults, source_length, source_value, Entry, Star, Source, Rpt, JpKind}
use Rattle.pim_jp.proofs.Words.{Flags, NotSource, SecondStar, BothLists, JpFault, entry_of, entries_of, is_star, same_source}
use Rattle.pim_jp.proofs.Words.{Part, entry, entry_parts, is_typeless, entry_of_bytes, address_kind, kinds_at, part_faults}
use Rattle.pim_jp.proofs.Words.{faults_of, Reports, Stops, own_kinds, lone_kinds, kinds_at_place, entry_at, AreClean, StopsAt}
use Rattle.pim_jp.proofs.Words.{is_in, AreApart, ClashesAt, is_source_entry, is_rpt_entry, EntriesPass}
use Rattle.std.specs.Prelude.{Result, Ok, Err, IfOk, IfErr}
use Rattle.pim_jp.proofs.Front.{append_none, map_none, none_if}
use Rattle.pim_jp.proofs.Forms.{source_legal}
use Rattle.pim_jp.proofs.Judged.{judged_first}
use Rattle.pim_jp.proofs.Parts.{part_passes, part_stops}
use Rattle.pim_jp.proofs.EntryLoop.{drop_no, drop_more, entries_more}

-- ---- one entry

split_kinds : {K : Type 0} (short : Bool) (a b c d e : List K)
    → a ++ (if short then [] else b ++ c ++ d ++ e) ≡ ((a ++ (if short then [] else b ++ c)) ++ (if short then [] else d)) ++ (if short then [] else e)
split_kinds true a b c d e = simp append-nil refl
split_kinds false a b c d e = simp append_assoc refl

-- its kinds are those but for the other list, and then that of the other list
abbrev both_kinds : AddressFamily → List (Entry (List ℕ)) → List ℕ → List JpKind
both_kinds family other bytes =
    if nat_lt (length bytes) (source_length family) then [] else fault_if (list_any (λ this. list_any (same_source this) other) (entry_of_bytes (source_value family bytes))) BothLists

entry_split : (family : AddressFamily) (earlier other : List (Entry (List ℕ))) (bytes : List ℕ)
    → kinds_at family (entry earlier other) bytes ≡ lone_kinds family (list_any is_star earlier) bytes ++ both_kinds family other bytes
entry_split family earlier other bytes =
    split_kinds (nat_lt (length bytes) (source_length family)) (map address_kind (source_faults family bytes))
    (fault_if (is_typeless (source_value family bytes)) Flags)
    (fault_if (not (is_source family (source_value family bytes).address)) NotSource)
    (fault_if (list_any is_star (entry_of_bytes (source_value family bytes)) && list_any is_star earlier) SecondStar)
    (fault_if (list_any (λ this. list_any (same_source this) other) (entry_of_bytes (source_value family bytes))) BothLists)

-- an entry without such a fault is whole and of a kind
clean_entry : (family : AddressFamily) (has_star : Bool) (bytes : List ℕ) → lone_kinds family has_star bytes ≡ []
    → (source_length family ≤ length bytes) × (is_typeless (source_value family bytes) ≡ false)
clean_entry family has_star bytes none =
    let own = (append_none (own_kinds family bytes) _ none).0 in
    let form = append_none (map address_kind (source_faults family bytes)) _ own in
    let long = (source_legal family bytes (map_none address_kind _ form.0)).0 in
    let not_short : nat_lt (length bytes) (source_length family) ≡ false = le-ltb _ _ long in
    let whole = append_none (fault_if (is_typeless (source_value family bytes)) Flags) _ (rw not_short at form.1) in
    (long, none_if _ Flags whole.0)

or_false : (b : Bool) → (b || false) ≡ b
or_false true = refl
or_false false = refl

both_is : (family : AddressFamily) (has_star : Bool) (other : List (Entry (List ℕ))) (bytes : List ℕ) → lone_kinds family has_star bytes ≡ []
    → both_kinds family other bytes ≡ fault_if (is_in other (entry_of (source_value family bytes))) BothLists
both_is family has_star other bytes none =
    let whole = clean_entry family has_star bytes none in
    let not_short : nat_lt (length bytes) (source_length family) ≡ false = le-ltb _ _ whole.0 in
    rw (not_short, whole.1) (ap (λ b. fault_if b BothLists) (or_false (is_in other (entry_of (source_value family bytes)))))

-- what is told of it but for the other list stands first
entry_told : (family : AddressFamily) (earlier other : List (Entry (List ℕ))) (bytes : List ℕ) (kind : JpKind)
    → Reports (lone_kinds family (list_any is_star earlier) bytes) kind → Reports (kinds_at family (entry earlier other) bytes) kind
entry_told family earlier other bytes kind reported =
    ap (λ kinds. judged kinds tt) (entry_split family earlier other bytes) ∙ judged_first _ (both_kinds family other bytes) tt tt kind reported

entry_apart : (family : AddressFamily) (earlier other : List (Entry (List ℕ))) (bytes : List ℕ) → lone_kinds family (list_any is_star earlier) bytes ≡ []
    → is_in other (entry_of (source_value family bytes)) ≡ false → kinds_at family (entry earlier other) bytes ≡ []
entry_apart family earlier other bytes none apart =
    entry_split family earlier other bytes ∙ rw (none, both_is family (list_any is_star earlier) other bytes none, apart) refl

entry_clash : (family : AddressFamily) (earlier other : List (Entry (List ℕ))) (bytes : List ℕ) → lone_kinds family (list_any is_star earlier) bytes ≡ []
    → is_in other (entry_of (source_value family bytes)) ≡ true → Reports (kinds_at family (entry earlier other) bytes) BothLists
entry_clash family earlier other bytes none clash =
    ap (λ kinds. judged kinds tt) (entry_split family earlier other bytes) ∙ rw (none, both_is family (list_any is_star earlier) other bytes none, clash) refl

-- ---- a part, and those behind it

with_place : (at : ℕ) (kinds : List JpKind) (kind : JpKind) → Reports kinds kind → Reports {E = JpFault} (map (λ kind. record { at = at; kind = kind }) kinds) (record { at = at; kind = kind })
with_place at [] kind reported = absurd cc
with_place at (first ∷ kinds) kind reported = cc

entry_step : (family : AddressFamily) (count : ℕ) (earlier other : List (Entry (List ℕ))) (at : ℕ) (bytes : List ℕ) (next : List (Entry (List ℕ)) → ℕ → List ℕ → List Part)
    → kinds_at family (entry earlier other) bytes ≡ []
    → is_typeless (source_value family bytes) ≡ false → source_length family ≤ length bytes
    → faults_of family (entry_parts family (suc count) earlier other at bytes next)
    ≡ faults_of family (entry_parts family count (earlier ++ entry_of (source_value family bytes) ∷ []) other (at + source_length family) (drop (source_length family) bytes) next)
unfolding entry_parts
entry_step family count earlier other at bytes next none kind whole =
    let named : entry_of_bytes (source_value family bytes) ≡ entry_of (source_value family bytes) ∷ [] = rw kind refl in
    let none' : part_faults family (record { shape = entry earlier other; at = at; bytes = bytes }) ≡ [] = rw none refl in
    part_passes family (entry earlier other) (source_length family) at bytes
    (λ at bytes'. entry_parts family count (earlier ++ entry_of_bytes (source_value family bytes)) other at bytes' next) none' whole
    ∙ ap (λ kinds. faults_of family (entry_parts family count (earlier ++ kinds) other (at + source_length family) (drop (source_length family) bytes) next)) named

entry_stop : (family : AddressFamily) (count : ℕ) (earlier other : List (Entry (List ℕ))) (at : ℕ) (bytes : List ℕ) (next : List (Entry (List ℕ)) → ℕ → List ℕ → List Part) (kind : JpKind)
    → Reports (kinds_at family (entry earlier other) bytes) kind
    → Reports (faults_of family (entry_parts family (suc count) earlier other at bytes next)) (record { at = at; kind = kind })
unfolding entry_parts
entry_stop family count earlier other at bytes next kind reported =
    part_stops family (entry earlier other) (source_length family) at bytes
    (λ at bytes'. entry_parts family count (earlier ++ entry_of_bytes (source_value family bytes)) other at bytes' next) (record { at = at; kind = kind })
    (with_place at (kinds_at family (entry earlier other) bytes) kind reported)

entry_end : (family : AddressFamily) (count : ℕ) (earlier other : List (Entry (List ℕ))) (at : ℕ) (bytes : List ℕ) (next : List (Entry (List ℕ)) → ℕ → List ℕ → List Part)
    → count ≡ 0 → entry_parts family count earlier other at bytes next ≡ next earlier at bytes
unfolding entry_parts
entry_end family count earlier other at bytes next none = rw none refl

-- ---- so many parts

-- the kinds at a place are told beside the entries before it
star_before : (family : AddressFamily) (earlier : List (Entry (List ℕ))) (has_star : Bool) (place : ℕ) (bytes : List ℕ) → list_any is_star earlier ≡ has_star
    → lone_kinds family (list_any is_star (earlier ++ entries_of family place bytes)) (drop (place * source_length family) bytes) ≡ kinds_at_place family has_star place bytes
star_before family earlier has_star place bytes star =
    ap (λ b. lone_kinds family b (drop (place * source_length family) bytes))
    (list_any-append is_star earlier (entries_of family place bytes) ∙ ap (λ b. b || list_any is_star (entries_of family place bytes)) star)

-- the parts from this place on
abbrev parts_from : AddressFamily → ℕ → List (Entry (List ℕ)) → List (Entry (List ℕ)) → ℕ → List ℕ → ℕ → (List (Entry (List ℕ)) → ℕ → List ℕ → List Part) → List Part
parts_from family count earlier other at bytes place next =
    entry_parts family (count - place) (earlier ++ entries_of family place bytes) other (at + place * source_length family) (drop (place * source_length family) bytes) next

pass_to : (family : AddressFamily) (count : ℕ) (earlier other : List (Entry (List ℕ))) (has_star : Bool) (at : ℕ) (bytes : List ℕ) (place : ℕ)
    → list_any is_star earlier ≡ has_star → place ≤ count → AreClean family has_star place bytes → AreApart family other place bytes
    → (next : List (Entry (List ℕ)) → ℕ → List ℕ → List Part)
    → faults_of family (entry_parts family count earlier other at bytes next) ≡ faults_of family (parts_from family count earlier other at bytes place next)
unfolding entries_of
pass_to family count earlier other has_star at bytes zero star below clean apart next =
    let all : count - 0 ≡ count = omega arith in
    let here : at + 0 * source_length family ≡ at = omega arith in
    let front = sym (drop_no (source_length family) bytes) in
    rw (all, here, front, append-nil) refl
pass_to family count earlier other has_star at bytes (suc place) star below clean apart next =
    let before = pass_to family count earlier other has_star at bytes place star (omega arith) (λ i h. clean i (omega arith)) (λ i h. apart i (omega arith)) next in
    let step : count - place ≡ suc (count - suc place) = omega arith in
    let rest = drop (place * source_length family) bytes in
    let none = star_before family earlier has_star place bytes star ∙ clean place (omega arith) in
    let whole = clean_entry family _ rest none in
    let kinds = entry_apart family (earlier ++ entries_of family place bytes) other rest none (apart place (omega arith)) in
    let grown : (earlier ++ entries_of family place bytes) ++ entry_at family place bytes ∷ [] ≡ earlier ++ entries_of family (suc place) bytes =
    append_assoc earlier (entries_of family place bytes) (entry_at family place bytes ∷ []) ∙ ap (λ es. earlier ++ es) (sym (entries_more family place bytes)) in
    let far : at + place * source_length family + source_length family ≡ at + suc place * source_length family = omega arith in
    let one : place + 1 ≡ suc place = omega arith in
    let behind : drop (source_length family) rest ≡ drop (suc place * source_length family) bytes = drop_more (source_length family) place bytes ∙ ap (λ n. drop (n * source_length family) bytes) one in
    before ∙ ap (λ n. faults_of family (entry_parts family n (earlier ++ entries_of family place bytes) other (at + place * source_length family) rest next)) step
    ∙ entry_step family (count - suc place) (earlier ++ entries_of family place bytes) other (at + place * source_length family) rest next kinds whole.1 whole.0
    ∙ rw (grown, far, behind) refl

-- all entries pass
pub list_passes : (family : AddressFamily) (count : ℕ) (joined : List (Entry (List ℕ))) (has_star : Bool) (at : ℕ) (bytes : List ℕ)
    → list_any is_star joined ≡ has_star → AreClean family has_star count bytes → AreApart family joined count bytes → EntriesPass family count joined at bytes
list_passes family count joined has_star at bytes star clean apart = λ next.
    let none : count - count ≡ 0 = omega arith in
    pass_to family count joined joined has_star at bytes count star (omega arith) clean apart next
    ∙ ap (faults_of family) (entry_end family (count - count) (joined ++ entries_of family count bytes) joined (at + count * source_length family) (drop (count * source_length family) bytes) next none)

stop_at : (family : AddressFamily) (count : ℕ) (joined : List (Entry (List ℕ))) (has_star : Bool) (at : ℕ) (bytes : List ℕ) (place : ℕ) (kind : JpKind)
    → list_any is_star joined ≡ has_star → place < count → AreClean family has_star place bytes → AreApart family joined place bytes
    → Reports (kinds_at family (entry (joined ++ entries_of family place bytes) joined) (drop (place * source_length family) bytes)) kind
    → Stops family (entry_parts family count joined joined at bytes) (record { at = at + place * source_length family; kind = kind })
stop_at family count joined has_star at bytes place kind star below clean apart reported = λ next.
    let step : count - place ≡ suc (count - suc place) = omega arith in
    let rest = drop (place * source_length family) bytes in
    ap (λ faults. judged faults tt)
    (pass_to family count joined joined has_star at bytes place star (omega arith) clean apart next
    ∙ ap (λ n. faults_of family (entry_parts family n (joined ++ entries_of family place bytes) joined (at + place * source_length family) rest next)) step)
    ∙ entry_stop family (count - suc place) (joined ++ entries_of family place bytes) joined (at + place * source_length family) rest next kind reported

-- the first fault is one that an entry has but for the other list
pub list_stops : (family : AddressFamily) (count : ℕ) (joined : List (Entry (List ℕ))) (has_star : Bool) (at : ℕ) (bytes : List ℕ) (place : ℕ) (kind : JpKind)
    → list_any is_star joined ≡ has_star → StopsAt family has_star count bytes place kind → AreApart family joined place bytes
    → Stops family (entry_parts family count joined joined at bytes) (record { at = at + place * source_length family; kind = kind })
list_stops family count joined has_star at bytes place kind star (below, clean, reported) apart =
    let reported' = entry_told family (joined ++ entries_of family place bytes) joined (drop (place * source_length family) bytes) kind
    (rw (← star_before family joined has_star place bytes star) at reported) in
    stop_at family count joined has_star at bytes place kind star below clean apart reported'

-- the first fault is that a source is in both lists
pub list_clashes : (family : AddressFamily) (count : ℕ) (joined : List (Entry (List ℕ))) (has_star : Bool) (at : ℕ) (bytes : List ℕ) (few place : ℕ)
    → list_any is_star joined ≡ has_star → AreClean family has_star few bytes → few ≤ count → place < few → AreApart family joined place bytes
    → is_in joined (entry_at family place bytes) ≡ true
    → Stops family (entry_parts family count joined joined at bytes) (record { at = at + place * source_length family; kind = BothLists })
list_clashes family count joined has_star at bytes few place star clean within below apart clash =
    let none = star_before family joined has_star place bytes star ∙ clean place below in
    let reported = entry_clash family (joined ++ entries_of family place bytes) joined (drop (place * source_length family) bytes) none clash in
    stop_at family count joined has_star at bytes place BothLists star (omega arith) (λ i h. clean i (omega arith)) apart reported

pub list_clashed : (family : AddressFamily) (count : ℕ) (joined : List (Entry (List ℕ))) (has_star : Bool) (at : ℕ) (bytes : List ℕ) (few : ℕ) (fault : JpFault)
    → list_any is_star joined ≡ has_star → AreClean family has_star few bytes → few ≤ count → ClashesAt family joined few at bytes fault
    → Stops family (entry_parts family count joined joined at bytes) fault
list_clashed family count joined has_star at bytes few fault star clean within (place, below, apart, clash, is) =
    rw is (list_clashes family count joined has_star at bytes few place star clean within below apart clash)

-- ---- from one answer to another

pub ok_then : {A E : Type 0} {P Q : Type 0} (answer : Result A E) → (P → Q) → IfOk answer (λ _. P) → IfOk answer (λ _. Q)
ok_then (Ok x) f p = f p
ok_then (Err e) f p = p

pub err_then : {A E : Type 0} {P Q : E → Type 0} (answer : Result A E) → ((e : E) → P e → Q e) → IfErr answer P → IfErr answer Q
err_then (Ok x) f p = p
err_then (Err e) f p = f e p

-- ---- types of entries that don't meet

in_none : (this : Entry (List ℕ)) → is_in [] this ≡ false
in_none this = refl

pub apart_from_none : (family : AddressFamily) (count : ℕ) (bytes : List ℕ) → AreApart family [] count bytes
apart_from_none family count bytes = λ place below. in_none (entry_at family place bytes)

any_at : (family : AddressFamily) (is : Entry (List ℕ) → Bool) (count place : ℕ) (bytes : List ℕ) → place < count → list_any is (entries_of family count bytes) ≡ false → is (entry_at family place bytes) ≡ false
any_at family is zero place bytes below none = absurd (omega arith)
any_at family is (suc count) place bytes below none =
    let parts = or_parts (list_any is (entries_of family count bytes)) (is (entry_at family count bytes) || false)
    (sym (list_any-append is (entries_of family count bytes) (entry_at family count bytes ∷ [])) ∙ ap (list_any is) (sym (entries_more family count bytes)) ∙ none) in
    ⊎_elim
    (λ (before : place < count). any_at family is count place bytes before parts.0)
    (λ (not_before : count ≤ place). let same : place ≡ count = omega arith in rw same (sym (or_false (is (entry_at family count bytes))) ∙ parts.1))
    (cases_lt place count)

-- a source is in no list that has no entry of its kind
in_no_type : (this : Entry (List ℕ)) (other : List (Entry (List ℕ))) → is_source_entry this && list_any is_source_entry other ≡ false → is_rpt_entry this && list_any is_rpt_entry other ≡ false
    → is_in other this ≡ false
in_no_type this [] source rpt = refl
in_no_type (Star rp) (that ∷ other) source rpt = in_no_type (Star rp) other refl refl
in_no_type (Source s) (Star rp ∷ other) source rpt = in_no_type (Source s) other source refl
in_no_type (Source s) (Source t ∷ other) source rpt = absurd cc
in_no_type (Source s) (Rpt t ∷ other) source rpt = in_no_type (Source s) other source refl
in_no_type (Rpt s) (Star rp ∷ other) source rpt = in_no_type (Rpt s) other refl rpt
in_no_type (Rpt s) (Source t ∷ other) source rpt = in_no_type (Rpt s) other refl rpt
in_no_type (Rpt s) (Rpt t ∷ other) source rpt = absurd cc

and_false : (a b c : Bool) → (a ≡ false → c ≡ false) → a && b ≡ false → c && b ≡ false
and_false true true c h e = absurd cc
and_false true false true h e = refl
and_false true false false h e = refl
and_false false b c h e = rw (h refl) refl

pub types_apart : (family : AddressFamily) (count : ℕ) (joined : List (Entry (List ℕ))) (bytes : List ℕ) (source rpt joined_source joined_rpt : Bool)
    → source ≡ list_any is_source_entry (entries_of family count bytes) → rpt ≡ list_any is_rpt_entry (entries_of family count bytes)
    → joined_source ≡ list_any is_source_entry joined → joined_rpt ≡ list_any is_rpt_entry joined
    → ((source && joined_source) || (rpt && joined_rpt)) ≡ false → AreApart family joined count bytes
types_apart family count joined bytes source rpt joined_source joined_rpt source_is rpt_is joined_source_is joined_rpt_is never = λ place below.
    let parts = or_parts (source && joined_source) (rpt && joined_rpt) never in
    in_no_type (entry_at family place bytes) joined
    (rw joined_source_is at (and_false source joined_source (is_source_entry (entry_at family place bytes)) (λ none. any_at family is_source_entry count place bytes below (sym source_is ∙ none)) parts.0))
    (rw joined_rpt_is at (and_false rpt joined_rpt (is_rpt_entry (entry_at family place bytes)) (λ none. any_at family is_rpt_entry count place bytes below (sym rpt_is ∙ none)) parts.1))

pub apart_more : (family : AddressFamily) (other : List (Entry (List ℕ))) (count : ℕ) (bytes : List ℕ) → AreApart family other count bytes → is_in other (entry_at family count bytes) ≡ false
    → AreApart family other (count + 1) bytes
apart_more family other count bytes apart none = λ place below.
    ⊎_elim
    (λ (before : place < count). apart place before)
    (λ (not_before : count ≤ place). let same : place ≡ count = omega arith in rw same none)
    (cases_lt place count)
