-- A body, option by option from its front.
use Rattle.pim_hello.proofs.Words.{◌≡◌, ℕ, zero, suc, ◌+◌, ◌-◌, ◌<◌, ◌≤◌, Bool, true, false, cond, eqb, leb, List, [], ◌∷◌, ◌++◌}
use Rattle.pim_hello.proofs.Words.{length, take, drop, Option, Some, None, Result, Ok, Err, refl, sym, ap, ◌∙◌, arith, inl, inr}
use Rattle.pim_hello.proofs.Words.{length-drop, flat_map, cases_Bool, and_parts, eq-eqb, eqb-false, ne_eqb, leb-true, cond-true}
use Rattle.pim_hello.proofs.Words.{cond-false, big_number, AddressFamily, judged, HelloFault, Delays, Hello, is_whole}
use Rattle.pim_hello.proofs.Words.{value_length, behind_option, Content, whole, partial, content_at, Part, part_then}
use Rattle.pim_hello.proofs.Words.{parts_within, last_of, parts, part_faults, faults_of, faults, addresses_of, if_of, delays_of}
use Rattle.pim_hello.proofs.Words.{hello_of, with_option, over}
use Rattle.std.specs.Option.{option_map, option_or, unwrap_or}
use Rattle.pim_hello.proofs.Rows.{row_empty}

-- the parts of what is left of a body
abbrev pub parts_left : List ℕ → List ℕ → List Part
parts_left body rest = parts_within (length rest) (length body - length rest) rest

-- ---- the bound on the number of parts doesn't matter, once there is one for each byte

pub behind_shorter : (bytes : List ℕ) → 0 < length bytes → length (behind_option bytes) < length bytes
behind_shorter bytes some = omega (arith, length-drop (value_length bytes) (drop 4 bytes), length-drop 4 bytes)

enough : (n m at : ℕ) (bytes : List ℕ) → length bytes ≤ n → length bytes ≤ m → parts_within n at bytes ≡ parts_within m at bytes
unfolding parts_within
enough zero zero at bytes p q = refl
enough zero (suc m) at bytes p q = sym (cond-true (eqb (length bytes) 0) _ _ (eq-eqb _ _ (omega arith)))
enough (suc n) zero at bytes p q = cond-true (eqb (length bytes) 0) _ _ (eq-eqb _ _ (omega arith))
enough (suc n) (suc m) at bytes p q =
    elim (cases_Bool (eqb (length bytes) 0)) [
      | inl e ↦ rw e refl
      | inr e ↦ rw e (let some = eqb-false (length bytes) 0 e in
          let shorter = behind_shorter bytes (omega arith) in
          ap (part_then at (content_at bytes)) (enough n m (at + (4 + value_length bytes)) (behind_option bytes) (omega arith) (omega arith)))
    ]

pub parts_first : (at : ℕ) (bytes : List ℕ) → 0 < length bytes
    → parts_within (length bytes) at bytes ≡ part_then at (content_at bytes) (parts_within (length (behind_option bytes)) (at + (4 + value_length bytes)) (behind_option bytes))
unfolding parts_within
parts_first at [] some = absurd (omega arith)
parts_first at (b ∷ bs) some =
    let shorter = behind_shorter (b ∷ bs) some in
    cond-false (eqb (length (b ∷ bs)) 0) _ _ (ne_eqb _ _ (λ e. omega arith))
    ∙ ap (part_then at (content_at (b ∷ bs))) (enough (length bs) (length (behind_option (b ∷ bs))) (at + (4 + value_length (b ∷ bs))) (behind_option (b ∷ bs)) (omega arith) (omega arith))

pub parts_empty : (at : ℕ) (bytes : List ℕ) → length bytes ≡ 0 → parts_within (length bytes) at bytes ≡ []
unfolding parts_within
parts_empty at [] e = refl
parts_empty at (b ∷ bs) e = absurd (omega arith)

-- ---- an answer that is the value, and one that is a fault

no_fault : {E A : Type 0} (fs : List E) (value x : A) → judged fs value ≡ Ok x → (fs ≡ []) × (value ≡ x)
no_fault [] value x e = (refl, cc)
no_fault (f ∷ fs) value x e = absurd cc

some_fault : {E A : Type 0} (fs : List E) (value : A) (f : E) → judged fs value ≡ Err f → (others : List E) × (fs ≡ f ∷ others)
some_fault [] value f e = absurd cc
some_fault (g ∷ fs) value f e = (fs, cc)

-- a part of these bytes at this offset
abbrev pub front_faults : ℕ → List ℕ → List HelloFault
front_faults at bytes = part_faults (record { at = at; content = content_at bytes })

partial_faulty : {A : Type 0} (at : ℕ) (value x : A) → judged (part_faults (record { at = at; content = partial })) value ≡ Ok x → ⊥
partial_faulty at value x e = absurd cc

legal_whole : {A : Type 0} (at : ℕ) (bytes : List ℕ) (value x : A) → judged (front_faults at bytes) value ≡ Ok x → is_whole bytes ≡ true
legal_whole at bytes value x e =
    elim (cases_Bool (is_whole bytes)) [
      | inl h ↦ h
      | inr h ↦ absurd (partial_faulty at value x (ap (λ w. judged (part_faults (record { at = at; content = cond w (whole (big_number 2 bytes) (take (value_length bytes) (drop 4 bytes))) partial })) value) (sym h) ∙ e))
    ]

-- ---- what is told of a part and of those behind it

told_ok : {A : Type 0} (at : ℕ) (content : Content) (others : List Part) (value x : A) → judged (part_faults (record { at = at; content = content })) value ≡ Ok x
    → faults_of (part_then at content others) ≡ faults_of others
told_ok at partial others value x e = absurd (partial_faulty at value x e)
told_ok at (whole type_code bytes) others value x e = ap (λ fs. fs ++ faults_of others) (no_fault (part_faults (record { at = at; content = whole type_code bytes })) value x e).0

told_err : {A B : Type 0} (at : ℕ) (content : Content) (others : List Part) (value : A) (x : B) (fault : HelloFault) → judged (part_faults (record { at = at; content = content })) value ≡ Err fault
    → judged (faults_of (part_then at content others)) x ≡ Err fault
told_err at partial others value x fault e = cc
told_err at (whole this bytes) others value x fault e =
    ap (λ (fs : List HelloFault). judged (fs ++ faults_of others) x) (some_fault (part_faults (record { at = at; content = whole this bytes })) value fault e).1

-- ---- what a part says, and those behind it over it

field_more : {A : Type 0} (f : List ℕ → A) (o : Option (List ℕ)) (b : Bool) (value : List ℕ) (before : Option A)
    → option_or (option_map f (option_or o (cond b (Some value) None))) before ≡ option_or (option_map f o) (cond b (Some (f value)) before)
field_more f None true value before = refl
field_more f None false value before = refl
field_more f (Some x) b value before = refl

list_more : {A : Type 0} (f : List ℕ → A) (o : Option (List ℕ)) (b : Bool) (value : List ℕ) (before : A)
    → unwrap_or (option_map f (option_or o (cond b (Some value) None))) before ≡ unwrap_or (option_map f o) (cond b (f value) before)
list_more f None true value before = refl
list_more f None false value before = refl
list_more f (Some x) b value before = refl

abbrev said_by : Option ℕ → Option Delays → Option ℕ → Option ℕ → List (List ℕ) → Hello
said_by holdtime lan priority generation addresses = record { parameters = record { holdtime = holdtime; lan = lan; priority = priority; generation = generation }; addresses = addresses }

pub same_hello : (a b : Hello) → a.parameters.holdtime ≡ b.parameters.holdtime → a.parameters.lan ≡ b.parameters.lan → a.parameters.priority ≡ b.parameters.priority
    → a.parameters.generation ≡ b.parameters.generation → a.addresses ≡ b.addresses → a ≡ b
same_hello a b holdtime lan priority generation addresses =
    ap (λ x. said_by x a.parameters.lan a.parameters.priority a.parameters.generation a.addresses) holdtime
    ∙ ap (λ x. said_by b.parameters.holdtime x a.parameters.priority a.parameters.generation a.addresses) lan
    ∙ ap (λ x. said_by b.parameters.holdtime b.parameters.lan x a.parameters.generation a.addresses) priority
    ∙ ap (λ x. said_by b.parameters.holdtime b.parameters.lan b.parameters.priority x a.addresses) generation
    ∙ ap (λ x. said_by b.parameters.holdtime b.parameters.lan b.parameters.priority b.parameters.generation x) addresses

over_more : (family : AddressFamily) (hello : Hello) (at type_code : ℕ) (value : List ℕ) (others : List Part)
    → over family hello (part_then at (whole type_code value) others) ≡ over family (with_option family (whole type_code value) hello) others
unfolding over with_option last_of
over_more family hello at type_code value others = same_hello _ _
    (field_more (big_number 2) (last_of 1 others) (eqb type_code 1) value hello.parameters.holdtime)
    (field_more delays_of (last_of 2 others) (eqb type_code 2) value hello.parameters.lan)
    (field_more (big_number 4) (last_of 19 others) (eqb type_code 19) value hello.parameters.priority)
    (field_more (big_number 4) (last_of 20 others) (eqb type_code 20) value hello.parameters.generation)
    (list_more (addresses_of family) (last_of 24 others) (eqb type_code 24) value hello.addresses)

over_end : (family : AddressFamily) (hello : Hello) → over family hello [] ≡ hello
unfolding over last_of
over_end family hello = refl

pub or_none : {A : Type 0} (o : Option A) → option_or o None ≡ o
or_none None = refl
or_none (Some x) = refl

or_empty : (family : AddressFamily) (o : Option (List ℕ)) → unwrap_or (option_map (addresses_of family) o) [] ≡ addresses_of family (unwrap_or o [])
or_empty family None = sym (ap (flat_map (if_of family)) (row_empty [] refl))
or_empty family (Some value) = refl

abbrev pub nothing_said : Hello
nothing_said = record { parameters = record { holdtime = None; lan = None; priority = None; generation = None }; addresses = [] }

pub over_start : (family : AddressFamily) (body : List ℕ) → over family nothing_said (parts body) ≡ hello_of family body
unfolding over
over_start family body = same_hello _ _ (or_none _) (or_none _) (or_none _) (or_none _) (or_empty family (last_of 24 (parts body)))

-- ---- the step and the end of the reader's loop

left_more : (body rest : List ℕ) → 0 < length rest → length rest ≤ length body → is_whole rest ≡ true
    → parts_left body rest ≡ part_then (length body - length rest) (content_at rest) (parts_left body (behind_option rest))
left_more body rest some inside is =
    let fits = and_parts (leb 4 (length rest)) (leb (value_length rest) (length (drop 4 rest))) is in
    let long = leb-true _ _ fits.0 in
    let longer = leb-true _ _ fits.1 in
    let next : length body - length rest + (4 + value_length rest) ≡ length body - length (behind_option rest) =
    omega (arith, length-drop (value_length rest) (drop 4 rest), length-drop 4 rest) in
    parts_first (length body - length rest) rest some
    ∙ ap (λ (n : ℕ). part_then (length body - length rest) (content_at rest) (parts_within (length (behind_option rest)) n (behind_option rest))) next

pub keep_told : {A : Type 0} (body rest : List ℕ) (value x : A) → 0 < length rest → length rest ≤ length body → judged (front_faults (length body - length rest) rest) value ≡ Ok x
    → faults_of (parts_left body (behind_option rest)) ≡ faults_of (parts_left body rest)
keep_told body rest value x some inside e =
    sym (ap faults_of (left_more body rest some inside (legal_whole _ rest value x e))
    ∙ told_ok (length body - length rest) (content_at rest) (parts_left body (behind_option rest)) value x e)

over_content : {A : Type 0} (family : AddressFamily) (hello : Hello) (at : ℕ) (content : Content) (others : List Part) (value x : A)
    → judged (part_faults (record { at = at; content = content })) value ≡ Ok x
    → over family hello (part_then at content others) ≡ over family (with_option family content hello) others
over_content family hello at (whole type_code bytes) others value x e = over_more family hello at type_code bytes others
over_content family hello at partial others value x e = absurd (partial_faulty at value x e)

pub keep_said : (family : AddressFamily) (hello next : Hello) (body rest : List ℕ) → 0 < length rest → length rest ≤ length body
    → judged (front_faults (length body - length rest) rest) (with_option family (content_at rest) hello) ≡ Ok next
    → over family next (parts_left body (behind_option rest)) ≡ over family hello (parts_left body rest)
keep_said family hello next body rest some inside e =
    sym (ap (over family hello) (left_more body rest some inside (legal_whole _ rest _ next e))
    ∙ over_content family hello (length body - length rest) (content_at rest) (parts_left body (behind_option rest)) _ next e
    ∙ ap (λ (h : Hello). over family h (parts_left body (behind_option rest))) (no_fault (front_faults (length body - length rest) rest) _ next e).1)

pub fault_told : {A B : Type 0} (body rest : List ℕ) (value : A) (x : B) (fault : HelloFault) → 0 < length rest → judged (front_faults (length body - length rest) rest) value ≡ Err fault
    → judged (faults_of (parts_left body rest)) x ≡ Err fault
fault_told body rest value x fault some e =
    ap (λ (ps : List Part). judged (faults_of ps) x) (parts_first (length body - length rest) rest some)
    ∙ told_err (length body - length rest) (content_at rest) _ value x fault e

pub left_end : (body rest : List ℕ) → length rest ≡ 0 → parts_left body rest ≡ []
left_end body rest e = parts_empty (length body - length rest) rest e

pub read_start : (family : AddressFamily) (hello : Hello) (body : List ℕ) → hello ≡ nothing_said
    → (faults_of (parts_left body body) ≡ faults body) × (over family hello (parts_left body body) ≡ hello_of family body)
read_start family hello body e =
    let start : parts_left body body ≡ parts body = ap (λ (n : ℕ). parts_within (length body) n body) (omega arith) in
    (ap faults_of start, ap (λ (h : Hello). over family h (parts_left body body)) e ∙ ap (over family nothing_said) start ∙ over_start family body)

pub read_end : (family : AddressFamily) (hello : Hello) (body rest : List ℕ) → length rest ≡ 0 → faults_of (parts_left body rest) ≡ faults body
    → over family hello (parts_left body rest) ≡ hello_of family body → judged (faults body) (hello_of family body) ≡ Ok hello
read_end family hello body rest e delays_heard said =
    ap (λ (fs : List HelloFault). judged fs (hello_of family body)) (sym delays_heard ∙ ap faults_of (left_end body rest e))
    ∙ ap {B = Result Hello HelloFault} Ok (sym said ∙ ap (over family hello) (left_end body rest e) ∙ over_end family hello)
