-- The least of what comes next on some ports, port by port.
use Rattle.pim_emit.proofs.Words.{◌≡◌, ◌∙◌, ℕ, ◌+◌, ◌<◌, ◌≤◌, Bool, true, false, ◌&&◌, List, Option, None, Some, get_or}
use Rattle.pim_emit.proofs.Words.{refl, sym, ap, subst, arith, ⊎_elim, IfSome, Less, Equal, Greater, is_eq, is_le}
use Rattle.pim_emit.proofs.Words.{ordering_reverse, texts_ties, false≢true, cases_lt, is_above, address_cmp, Downstream}
use Rattle.pim_emit.proofs.Words.{some_below, is_this, IsNextOn, IsNextSource, SourceAhead, its_source, AreNext}
use Rattle.pim_emit.proofs.Words.{LeastSeen, source_of_least, IsLeastBelow, AreLeastBelow, is_source_joined}
use Rattle.pim_emit.proofs.Above.{by_test}
use Rattle.pim_emit.proofs.Addresses.{equal_is, itself, same_is, back}
use Rattle.pim_emit.proofs.LeastOfTwo.{up_to_trans}
use Rattle.pim_emit.proofs.PortsBelow.{found_below, which_below}

-- the address comes before this one or is it, where there is one
abbrev IsUpTo : List ℕ → Option (List ℕ) → Type 0
IsUpTo least next = IfSome next (λ source. is_le (address_cmp least source) ≡ true)

lower : (lesser least : List ℕ) (next : Option (List ℕ)) → is_le (address_cmp lesser least) ≡ true → IsUpTo least next → IsUpTo lesser next
lower lesser least None le up_to = tt
lower lesser least (Some source) le up_to = up_to_trans lesser least source le up_to

-- what isn't before the greater of two isn't the lesser one
not_lesser : (lesser least : List ℕ) (next : Option (List ℕ)) → address_cmp lesser least ≡ Less → IsUpTo least next → is_this lesser next ≡ true → ⊥
not_lesser lesser least None less up_to this = false≢true this
not_lesser lesser least (Some source) less up_to this =
    false≢true (sym (ap is_le (back lesser least ∙ ap ordering_reverse less)) ∙ subst (λ (s : List ℕ). is_le (address_cmp least s) ≡ true) (same_is source lesser this) up_to)

-- one more port, on which this comes next
module _ (nexts : List (Option SourceAhead)) (port : ℕ) (next : Option (List ℕ)) (here : (other : Option SourceAhead) → its_source (get_or nexts port other) ≡ next) where
  each : (P : ℕ → Option (List ℕ) → Type 0) → ((place : ℕ) (other : Option SourceAhead) → place < port → P place (its_source (get_or nexts place other))) → P port next
      → (place : ℕ) (other : Option SourceAhead) → place < port + 1 → P place (its_source (get_or nexts place other))
  each P before this place other below =
      ⊎_elim
      (λ (early : place < port). before place other early)
      (λ (late : port ≤ place).
      let same : port ≡ place = omega (arith, late, below) in
      subst (λ n. P n (its_source (get_or nexts n other))) same (subst (P port) (sym (here other)) this))
      (cases_lt place port)

  -- that is not before the least, and is not it
  abbrev Stays : LeastSeen → Type 0
  Stays least = IsUpTo least.source next × (is_this least.source next ≡ true → ⊥)

  pub least_stays : (least : LeastSeen) → Stays least → IsLeastBelow port nexts least → IsLeastBelow (port + 1) nexts least
  least_stays least stays before = record {
    within = omega (arith, before.within);
    is_there = before.is_there;
    up_to = each (λ place source. IsUpTo least.source source) before.up_to stays.0;
    alone = λ alone. each (λ place source. is_this least.source source ≡ true → place ≡ least.port) (before.alone alone) (λ this. absurd (stays.1 this));
  }

  -- it is the least, and none before is up to it
  abbrev pub here_alone : List ℕ → LeastSeen
  here_alone source = record { source = source; port = port; is_alone = true }

  is_least : (source : List ℕ) → next ≡ Some source → ((place : ℕ) (other : Option SourceAhead) → place < port → IsUpTo source (its_source (get_or nexts place other)))
      → ((place : ℕ) (other : Option SourceAhead) → place < port → is_this source (its_source (get_or nexts place other)) ≡ true → ⊥) → IsLeastBelow (port + 1) nexts (here_alone source)
  is_least source is up_to apart = record {
    within = omega arith;
    is_there = λ other. here other ∙ is;
    up_to = each (λ place this. IsUpTo source this) up_to (subst (IsUpTo source) (sym is) (ap is_le (itself source)));
    alone = λ alone. each (λ place this. is_this source this ≡ true → place ≡ port) (λ place other below this. absurd (apart place other below this)) (λ this. refl);
  }

  pub lesser_is_least : (source : List ℕ) (least : LeastSeen) → next ≡ Some source → address_cmp source least.source ≡ Less → IsLeastBelow port nexts least → IsLeastBelow (port + 1) nexts (here_alone source)
  lesser_is_least source least is less before =
      is_least source is
      (λ place other below. lower source least.source (its_source (get_or nexts place other)) (ap is_le less) (before.up_to place other below))
      (λ place other below. not_lesser source least.source (its_source (get_or nexts place other)) less (before.up_to place other below))

  -- the least comes next here, too
  pub same_stays : (source : List ℕ) (least : LeastSeen) → next ≡ Some source → address_cmp source least.source ≡ Equal → IsLeastBelow port nexts least → IsLeastBelow (port + 1) nexts (record { source = least.source; port = least.port; is_alone = false })
  same_stays source least is equal before = record {
    within = omega (arith, before.within);
    is_there = before.is_there;
    up_to = each (λ place this. IsUpTo least.source this) before.up_to (subst (IsUpTo least.source) (sym is) (subst (λ (s : List ℕ). is_le (address_cmp least.source s) ≡ true) (sym (equal_is source least.source equal)) (ap is_le (itself least.source))));
    alone = λ alone. absurd (false≢true alone);
  }

  pub greater_stays : (source : List ℕ) (least : LeastSeen) → next ≡ Some source → address_cmp source least.source ≡ Greater → IsLeastBelow port nexts least → IsLeastBelow (port + 1) nexts least
  greater_stays source least is greater before = least_stays least (subst StaysBy (sym is) (ap is_le (back source least.source ∙ ap ordering_reverse greater), apart)) before
    where
      StaysBy : Option (List ℕ) → Type 0
      StaysBy this = IsUpTo least.source this × (is_this least.source this ≡ true → ⊥)

      apart : is_this least.source (Some source) ≡ true → ⊥
      apart this = false≢true (sym (texts_ties source least.source ∙ ap is_eq greater) ∙ this)

-- ---- of all ports

module _ (state : Downstream) (group : List ℕ) (bound : Option (List ℕ)) (nexts : List (Option SourceAhead)) (are : AreNext state group bound nexts) where
  -- on this port it is above the bound, and joined
  abbrev comes_on : List ℕ → ℕ → Bool
  comes_on source port = is_above bound source && is_source_joined state group source port

  -- the least is up to what comes on a port
  is_up_to : (least source : List ℕ) (port : ℕ) (next : Option (List ℕ)) → IsNextOn state group bound port next → IsUpTo least next → comes_on source port ≡ true → is_le (address_cmp least source) ≡ true
  is_up_to least source port None none up_to comes = absurd (false≢true (sym (none source) ∙ comes))
  is_up_to least source port (Some next) is up_to comes = up_to_trans least next source up_to (is.1 source comes)

  -- the least of what comes next on each port comes next of all
  pub least_is_next : (least : Option LeastSeen) → AreLeastBelow state.ports nexts least → IsNextSource state group bound (source_of_least least)
  least_is_next None none = λ source.
      by_test (some_below state.ports (comes_on source))
      (λ e.
      let found = which_below (comes_on source) state.ports e in
      absurd (false≢true (sym (subst (IsNextOn state group bound found.0) (none found.0 None found.1) (are found.0 None found.1).next source) ∙ found.2)))
      (λ e. e)
  least_is_next (Some least) is = (
    found_below (comes_on least.source) state.ports least.port is.within
        (subst (IsNextOn state group bound least.port) (is.is_there None) (are least.port None is.within).next).0,
    λ source passes.
        let found = which_below (comes_on source) state.ports passes in
        is_up_to least.source source found.0 (its_source (get_or nexts found.0 None)) (are found.0 None found.1).next (is.up_to found.0 None found.1) found.2,
  )
