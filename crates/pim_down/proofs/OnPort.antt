-- The records of one port stand together.
use Rattle.pim_down.proofs.Words.{◌≡◌, ℕ, zero, suc, ◌+◌, ◌<◌, ◌≤◌, Bool, true, false, ◌&&◌, cond, List, [], ◌∷◌, map, length, take, drop, get_or, eqb, ltb, refl, sym, ap, subst, ◌∙◌, arith, Ordering, Less, Greater, ordering_then, nat_cmp, nat_cmp_is, filter, AllByRecursion, IsNonDecreasingBy, IsPartitionPoint, IsNonDecreasingBy-drop, AddressFamily, ltb-true, ltb-false, nat_tests, get_or-drop, length-drop, length-map, Held, Key, Record, is_rpt, is_rpt_on, rpt_count_on, address_cmp, what_cmp, key_cmp, IsBelow, IsAscending, count_on, is_on, record_after, record_seen, records_seen, IsReal}
use Rattle.pim_down.proofs.Each.{seen_filter}

-- ---- ports don't fall

not_greater : (r s : Ordering) → ordering_then r s ≡ Less → r ≡ Greater → ⊥
not_greater r s e g = cc

pub ports_rise : (a b : Key (List ℕ)) → key_cmp a b ≡ Less → a.port ≤ b.port
unfolding key_cmp
ports_rise a b e = by (ltb b.port a.port) refl
  where
    by : (t : Bool) → ltb b.port a.port ≡ t → a.port ≤ b.port
    by true t =
        let lt : b.port < a.port = ltb-true b.port a.port t in
        let greater : nat_cmp a.port b.port ≡ Greater = sym (nat_cmp_is a.port b.port Greater lt) in
        absurd (not_greater (ordering_then (nat_cmp a.port b.port) (address_cmp a.group b.group)) (what_cmp a.what b.what) e (ap (λ r. ordering_then r (address_cmp a.group b.group)) greater))
    by false t = ltb-false b.port a.port t

module _ {A : Type 0} (bytes_of : A → List ℕ) where
  below_at : (key : Key (List ℕ)) (records : List (Held A)) → IsBelow key (records_seen bytes_of records) → (j : ℕ) (d : Held A) → j < length records → key.port ≤ (get_or records j d).key.port
  unfolding IsBelow
  below_at key [] below j d within = absurd (omega arith)
  below_at key (held ∷ records) below zero d within = ports_rise key _ below.0
  below_at key (held ∷ records) below (suc j) d within = below_at key records below.1 j d (omega arith)

  pub rising : (records : List (Held A)) → IsAscending (records_seen bytes_of records) → IsNonDecreasingBy (λ (held : Held A). held.key.port) records
  unfolding IsAscending
  rising [] a i j d le within = absurd (omega arith)
  rising (held ∷ records) a zero zero d le within = omega arith
  rising (held ∷ records) a zero (suc j) d le within = below_at _ records a.0 j d (omega arith)
  rising (held ∷ records) a (suc i) zero d le within = absurd (omega arith)
  rising (held ∷ records) a (suc i) (suc j) d le within = rising records a.1 i j d (omega arith) (omega arith)

-- ---- what passes stands together

module _ {X : Type 0} (p : X → Bool) where
  no_more : (xs : List X) → ((k : ℕ) (d : X) → k < length xs → p (get_or xs k d) ≡ false) → filter p xs ≡ []
  no_more [] fails = refl
  no_more (x ∷ xs) fails = let first : p x ≡ false = fails 0 x (omega arith) in rw first (no_more xs (λ k d h. fails (suc k) d (omega arith)))

  behind : (xs : List X) (first : ℕ) → ((k : ℕ) (d : X) → k < first → k < length xs → p (get_or xs k d) ≡ false) → filter p (drop first xs) ≡ filter p xs
  behind xs zero fails = refl
  behind [] (suc first) fails = refl
  behind (x ∷ xs) (suc first) fails =
      let none : p x ≡ false = fails 0 x (omega arith) (omega arith) in
      rw none (behind xs first (λ k d h w. fails (suc k) d (omega arith) (omega arith)))

-- ---- the records of a port

apart : (a b : ℕ) → ltb a b ≡ true → eqb a b ≡ false
apart a b e = grind (arith, nat_tests)

-- so many there are
pub count_filter : (port : ℕ) (records : List (Record (List ℕ))) → count_on port records ≡ length (filter (is_on port) records)
unfolding count_on
count_filter port [] = refl
count_filter port (held ∷ records) =
    elim (is_on port held) as (λ b. cond b 1 0 + count_on port records ≡ length (cond b (held ∷ filter (is_on port) records) (filter (is_on port) records))) [
      | true ↦ let rest = count_filter port records in omega arith
      | false ↦ let rest = count_filter port records in omega arith
    ]

above : (a b c : ℕ) → a ≤ c → ltb a b ≡ false → eqb a b ≡ false → eqb c b ≡ false
above a b c le e f = grind (arith, nat_tests)

module _ {A : Type 0} (bytes_of : A → List ℕ) (port : ℕ) where
  abbrev here : Held A → Bool
  here held = eqb held.key.port port

  -- the first of records of this port and greater ones
  front : (xs : List (Held A)) → IsNonDecreasingBy (λ (held : Held A). held.key.port) xs → ((k : ℕ) (d : Held A) → k < length xs → ltb (get_or xs k d).key.port port ≡ false) → take (length (filter here xs)) xs ≡ filter here xs
  front [] rise least = refl
  front (x ∷ xs) rise least = by (front xs (λ i j d le w. rise (suc i) (suc j) d (omega arith) (omega arith)) (λ k d w. least (suc k) d (omega arith))) (here x) refl
    where
      by : take (length (filter here xs)) xs ≡ filter here xs → (t : Bool) → here x ≡ t → take (length (cond t (x ∷ filter here xs) (filter here xs))) (x ∷ xs) ≡ cond t (x ∷ filter here xs) (filter here xs)
      by rest true e = ap (λ (ys : List (Held A)). x ∷ ys) rest
      by rest false e =
          let none : filter here xs ≡ [] = no_more here xs (λ k d w. above x.key.port port (get_or xs k d).key.port (rise 0 (suc k) d (omega arith) (omega arith)) (least 0 x (omega arith)) e) in
          rw none refl

  pub together : (records : List (Held A)) (first : ℕ) → IsAscending (records_seen bytes_of records) →
      IsPartitionPoint (λ (held : Held A). ltb held.key.port port ≡ true) (λ (held : Held A). ltb held.key.port port ≡ false) records first →
      records_seen bytes_of (take (count_on port (records_seen bytes_of records)) (drop first records)) ≡ filter (is_on port) (records_seen bytes_of records)
  together records first ascending parts =
      let from = drop first records in
      let long = length-drop first records in
      let rise = IsNonDecreasingBy-drop (λ (held : Held A). held.key.port) first records (rising bytes_of records ascending) in
      let least : (k : ℕ) (d : Held A) → k < length from → ltb (get_or from k d).key.port port ≡ false = λ k d w.
      subst (λ (held : Held A). ltb held.key.port port ≡ false) (sym (get_or-drop first records k d)) (parts.1 (first + k) d (omega arith) (omega arith)) in
      let same : filter here from ≡ filter here records = behind here records first (λ k d h w. apart _ _ (parts.0 k d (omega arith) h)) in
      let count : length (filter here records) ≡ count_on port (records_seen bytes_of records) =
      sym (length-map (filter here records) (record_seen bytes_of)) ∙ ap length (seen_filter bytes_of (is_on port) records) ∙ sym (count_filter port (records_seen bytes_of records)) in
      ap (λ n. records_seen bytes_of (take n from)) (sym count ∙ ap length (sym same))
      ∙ ap (records_seen bytes_of) (front from rise least ∙ same)
      ∙ seen_filter bytes_of (is_on port) records

-- ---- a port that isn't there

pub none_on_port : (family : AddressFamily) (ports port : ℕ) (records : List (Record (List ℕ))) → ports ≤ port → AllByRecursion (IsReal family ports) records → filter (is_on port) records ≡ []
none_on_port family ports port [] le real = refl
none_on_port family ports port (held ∷ records) le real =
    let other : eqb held.key.port port ≡ false = less_apart held.key.port port ports real.0.port le in
    rw other (none_on_port family ports port records le real.1)
  where
    less_apart : (a b c : ℕ) → a < c → c ≤ b → eqb a b ≡ false
    less_apart a b c lt le = grind (arith, nat_tests)

pub count_none : (family : AddressFamily) (ports port : ℕ) (records : List (Record (List ℕ))) → ports ≤ port → AllByRecursion (IsReal family ports) records → count_on port records ≡ 0
count_none family ports port records le real = count_filter port records ∙ ap length (none_on_port family ports port records le real)

pub on_later : (k port : ℕ) (records : List (Record (List ℕ))) → map (record_after k) (filter (is_on port) records) ≡ filter (is_on port) (map (record_after k) records)
on_later k port [] = refl
on_later k port (held ∷ records) =
    elim (is_on port held) as (λ b. map (record_after k) (cond b (held ∷ filter (is_on port) records) (filter (is_on port) records)) ≡ cond b (record_after k held ∷ filter (is_on port) (map (record_after k) records)) (filter (is_on port) (map (record_after k) records))) [
      | true ↦ ap (λ (rs : List (Record (List ℕ))). record_after k held ∷ rs) (on_later k port records)
      | false ↦ on_later k port records
    ]

module _ {A : Type 0} (bytes_of : A → List ℕ) (port : ℕ) (records : List (Record (List ℕ))) (here : List (Held A)) (is : records_seen bytes_of here ≡ filter (is_on port) records) where
  pub shown_later : (k : ℕ) (later : List (Record (List ℕ))) → later ≡ map (record_after k) records → map (record_after k) (records_seen bytes_of here) ≡ filter (is_on port) later
  shown_later k later e = ap (map (record_after k)) is ∙ on_later k port records ∙ ap (filter (is_on port)) (sym e)

-- ---- how many (S,G,rpt) ones a port has

module _ (port : ℕ) where
  abbrev on_port : Record (List ℕ) → Bool
  on_port held = is_rpt_on port held.key

  pub rpts_few : (records : List (Record (List ℕ))) → rpt_count_on port records ≤ count_on port records
  unfolding count_on
  rpts_few [] = omega arith
  rpts_few (held ∷ records) =
      let rest = rpts_few records in
      elim (eqb held.key.port port) as (λ b. length (cond (b && is_rpt held.key.what) (held ∷ filter on_port records) (filter on_port records)) ≤ cond b 1 0 + count_on port records) [
        | true ↦ elim (is_rpt held.key.what) as (λ c. length (cond c (held ∷ filter on_port records) (filter on_port records)) ≤ 1 + count_on port records) [
          | true ↦ omega (arith, rest)
          | false ↦ omega (arith, rest)
        ]
        | false ↦ omega (arith, rest)
      ]

  pub rpts_later : (k : ℕ) (records : List (Record (List ℕ))) → rpt_count_on port (map (record_after k) records) ≡ rpt_count_on port records
  rpts_later k [] = refl
  rpts_later k (held ∷ records) =
      elim (is_rpt_on port held.key) as (λ b. length (cond b (record_after k held ∷ filter on_port (map (record_after k) records)) (filter on_port (map (record_after k) records))) ≡ length (cond b (held ∷ filter on_port records) (filter on_port records))) [
        | true ↦ ap suc (rpts_later k records)
        | false ↦ rpts_later k records
      ]
