-- The maps of a ledger are the functions of its definition: look-ups and changes.
use Rattle.pim_trace.proofs.Words.{◌≡◌, ◌∙◌, ℕ, Bool, true, false, cond, List, [], Option, None, refl, sym, ap, subst}
use Rattle.pim_trace.proofs.Words.{nat_cmp, is_eq, ordering_then, Ordering, tied_then, unsigned_tied, slice_cmp}
use Rattle.pim_trace.proofs.Words.{pointwise, texts_ties, is_at, lookup, Key, same_key, key_seen, Causes, Sent}
use Rattle.pim_trace.proofs.Words.{causes_seen, hellos_in, causes_in, held_for, Holds}
use Rattle.std.specs.Prelude.{◌==◌, ◌&&◌, nat_eq, option_map}

cond_map : {X Y : Type 0} (f : X → Y) (b : Bool) (x y : Option X) → option_map f (cond b x y) ≡ cond b (option_map f x) (option_map f y)
cond_map f true x y = refl
cond_map f false x y = refl

-- equal tests find the same
same_lookup : {K X : Type 0} (t u : K → Bool) (es : List (K × X)) → ((k : K) → t k ≡ u k) → lookup t es ≡ lookup u es
same_lookup t u es h = λ i. lookup (λ k. h k i) es

-- the addresses are ordered as their bytes
abbrev pub OrderOfBytes : {A : Type 0} → (A → A → Ordering) → (A → List ℕ) → Type 0
OrderOfBytes {A} cmp bytes_of = (a b : A) → cmp a b ≡ slice_cmp nat_cmp (bytes_of a) (bytes_of b)

module _ {A : Type 0} (bytes_of : A → List ℕ) (address_of : List ℕ → A) (back : (b : List ℕ) → bytes_of (address_of b) ≡ b) where
  -- ---- Hellos

  module _ (cmp : A → A → Ordering) (tie : OrderOfBytes cmp bytes_of) where
    -- the order of neighbours: by port, then by address
    abbrev pub pair_cmp : ℕ × A → ℕ × A → Ordering
    pair_cmp x y = ordering_then (nat_cmp x.0 y.0) (cmp x.1 y.1)

    pair_test : (port : ℕ) (a : A) (q : ℕ × A) → is_at (pair_cmp (port, a)) q ≡ ((port == q.0) && pointwise nat_eq (bytes_of a) (bytes_of q.1))
    pair_test port a q =
        sym (tied_then (nat_cmp port q.0) (cmp a q.1))
        ∙ (λ i. unsigned_tied port q.0 i && is_eq (tie a q.1 i))
        ∙ ap (λ t. (port == q.0) && t) (sym (texts_ties (bytes_of a) (bytes_of q.1)))

    -- what the map has for a neighbour
    pub hello_found : (entries : List ((ℕ × A) × Sent)) (port : ℕ) (a : A) → hellos_in bytes_of entries port (bytes_of a) ≡ lookup (is_at (pair_cmp (port, a))) entries
    unfolding hellos_in
    hello_found entries port a =
        same_lookup (λ (at : ℕ × A). (port == at.0) && pointwise nat_eq (bytes_of a) (bytes_of at.1)) (is_at (pair_cmp (port, a))) entries (λ q. sym (pair_test port a q))

    module _ (old new : List ((ℕ × A) × Sent)) (port : ℕ) (a : A) (w : Option Sent)
        (h : (q : ℕ × A) → lookup (is_at (pair_cmp q)) new ≡ cond (is_at (pair_cmp (port, a)) q) w (lookup (is_at (pair_cmp q)) old)) where
      hello_changed : (at : ℕ) (from : List ℕ) → hellos_in bytes_of new at from ≡ cond ((port == at) && pointwise nat_eq (bytes_of a) from) w (hellos_in bytes_of old at from)
      hello_changed at from =
          let b : A = address_of from in
          let there : hellos_in bytes_of new at (bytes_of b) ≡ cond ((port == at) && pointwise nat_eq (bytes_of a) (bytes_of b)) w (hellos_in bytes_of old at (bytes_of b)) =
          hello_found new at b ∙ h (at, b)
          ∙ ap (λ t. cond t w (lookup (is_at (pair_cmp (at, b))) old)) (pair_test port a (at, b))
          ∙ ap (cond ((port == at) && pointwise nat_eq (bytes_of a) (bytes_of b)) w) (sym (hello_found old at b)) in
          subst (λ (f : List ℕ). hellos_in bytes_of new at f ≡ cond ((port == at) && pointwise nat_eq (bytes_of a) f) w (hellos_in bytes_of old at f)) (back from) there

      pub hello_put : hellos_in bytes_of new ≡ (λ at from. cond ((port == at) && pointwise nat_eq (bytes_of a) from) w (hellos_in bytes_of old at from))
      hello_put = λ i at from. hello_changed at from i

-- a map with no entry
module _ {A : Type 0} (bytes_of : A → List ℕ) where
  pub no_hellos : (entries : List ((ℕ × A) × Sent)) → entries ≡ [] → hellos_in bytes_of entries ≡ (λ port address. None)
  unfolding hellos_in
  no_hellos entries e = λ i port address. lookup (λ (at : ℕ × A). (port == at.0) && pointwise nat_eq address (bytes_of at.1)) (e i)

  -- ---- causes

  pub no_causes : (items : List (Key A × Causes A)) → items ≡ [] → causes_in bytes_of items ≡ (λ key. None)
  unfolding causes_in held_for
  no_causes items e = λ i key. option_map (causes_seen bytes_of) (lookup (λ (at : Key A). same_key key (key_seen bytes_of at)) (e i))

  -- what is held for a machine
  pub causes_found : (items : List (Key A × Causes A)) (key : Key A) (w : Option (Causes A)) → w ≡ held_for bytes_of items (key_seen bytes_of key) → option_map (causes_seen bytes_of) w ≡ causes_in bytes_of items (key_seen bytes_of key)
  unfolding causes_in
  causes_found items key w e = ap (option_map (causes_seen bytes_of)) e

  pub causes_put : (old new : List (Key A × Causes A)) (k : Key A) (w : Option (Causes A)) (v : Option (Causes (List ℕ))) → option_map (causes_seen bytes_of) w ≡ v → Holds bytes_of k w old new →
      causes_in bytes_of new ≡ (λ key. cond (same_key (key_seen bytes_of k) key) v (causes_in bytes_of old key))
  unfolding causes_in
  causes_put old new k w v is holds = λ i key. changed key i
    where
      changed : (key : Key (List ℕ)) → option_map (causes_seen bytes_of) (held_for bytes_of new key) ≡ cond (same_key (key_seen bytes_of k) key) v (option_map (causes_seen bytes_of) (held_for bytes_of old key))
      changed key =
          ap (option_map (causes_seen bytes_of)) (holds key)
          ∙ cond_map (causes_seen bytes_of) (same_key (key_seen bytes_of k) key) w (held_for bytes_of old key)
          ∙ ap (λ o. cond (same_key (key_seen bytes_of k) key) o (option_map (causes_seen bytes_of) (held_for bytes_of old key))) is
