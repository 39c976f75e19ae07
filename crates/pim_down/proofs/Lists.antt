-- What edits of a list of records leave, as a contract sees them.
use Rattle.pim_down.proofs.Words.{◌≡◌, ℕ, suc, ◌+◌, ◌<◌, List, ◌∷◌, ◌++◌, Option, Some, None, map, length, take, drop, set, get_or, sym, ap, ◌∙◌, arith, add-one, insert, remove, map-append, take-map, drop-map, set_split, get_or-map, Held, Key, Timed, recorded, machine_seen, key_seen, record_seen, records_seen}

module _ {X Y : Type 0} (f : X → Y) where
  map_parts : (xs ys : List X) (x : X) → map f (xs ++ x ∷ ys) ≡ map f xs ++ f x ∷ map f ys
  map_parts xs ys x = map-append f xs (x ∷ ys)

  pub map_set : (xs : List X) (i : ℕ) (x : X) → i < length xs → map f (set xs i x) ≡ take i (map f xs) ++ f x ∷ drop (i + 1) (map f xs)
  map_set xs i x within =
      let split : set xs i x ≡ take i xs ++ x ∷ drop (i + 1) xs = rw add-one (set_split xs i x within) in
      ap (map f) split ∙ map_parts (take i xs) (drop (i + 1) xs) x
      ∙ (λ k. sym (take-map f i xs) k ++ f x ∷ sym (drop-map f (i + 1) xs) k)

  pub map_remove : (xs : List X) (i : ℕ) → map f (remove xs i) ≡ take i (map f xs) ++ drop (i + 1) (map f xs)
  map_remove xs i =
      let n : suc i ≡ i + 1 = omega arith in
      map-append f (take i xs) (drop (suc i) xs)
      ∙ (λ k. sym (take-map f i xs) k ++ sym (drop-map f (suc i) xs) k)
      ∙ ap (λ m. take i (map f xs) ++ drop m (map f xs)) n

  pub map_insert : (xs : List X) (i : ℕ) (x : X) → map f (insert xs i x) ≡ take i (map f xs) ++ f x ∷ drop i (map f xs)
  map_insert xs i x =
      map_parts (take i xs) (drop i xs) x
      ∙ (λ k. sym (take-map f i xs) k ++ f x ∷ sym (drop-map f i xs) k)

  pub map_at : (xs : List X) (i : ℕ) (x : X) → i < length xs → x ≡ get_or xs i x → (d : Y) → get_or (map f xs) i d ≡ f x
  map_at xs i x within at d = get_or-map f xs i x d within ∙ ap f (sym at)

module _ {A : Type 0} (bytes_of : A → List ℕ) where
  pub replaced_some : (items : List (Held A)) (place : ℕ) (key : Key A) (machine : Timed) (option : Option Timed) → place < length items → option ≡ Some machine →
      records_seen bytes_of (set items place (record { key = key; machine = machine })) ≡ take place (records_seen bytes_of items) ++ (recorded (key_seen bytes_of key) (machine_seen option) ++ drop (place + 1) (records_seen bytes_of items))
  replaced_some items place key machine option within some =
      let new : Held A = record { key = key; machine = machine } in
      map_set (record_seen bytes_of) items place new within
      ∙ (λ i. take place (records_seen bytes_of items) ++ (recorded (key_seen bytes_of key) (machine_seen (sym some i)) ++ drop (place + 1) (records_seen bytes_of items)))

  pub replaced_none : (items new : List (Held A)) (place : ℕ) (key : Key (List ℕ)) (option : Option Timed) → new ≡ remove items place → option ≡ None →
      records_seen bytes_of new ≡ take place (records_seen bytes_of items) ++ (recorded key (machine_seen option) ++ drop (place + 1) (records_seen bytes_of items))
  replaced_none items new place key option removed none =
      ap (records_seen bytes_of) removed ∙ map_remove (record_seen bytes_of) items place
      ∙ ap (λ (o : Option Timed). take place (records_seen bytes_of items) ++ (recorded key (machine_seen o) ++ drop (place + 1) (records_seen bytes_of items))) (sym none)

  pub inserted : (items new : List (Held A)) (place : ℕ) (key : Key A) (machine : Timed) (option : Option Timed) → new ≡ insert items place (record { key = key; machine = machine }) → option ≡ Some machine →
      records_seen bytes_of new ≡ take place (records_seen bytes_of items) ++ (recorded (key_seen bytes_of key) (machine_seen option) ++ drop place (records_seen bytes_of items))
  inserted items new place key machine option put some =
      ap (records_seen bytes_of) put ∙ map_insert (record_seen bytes_of) items place (record { key = key; machine = machine })
      ∙ ap (λ (o : Option Timed). take place (records_seen bytes_of items) ++ (recorded (key_seen bytes_of key) (machine_seen o) ++ drop place (records_seen bytes_of items))) (sym some)
