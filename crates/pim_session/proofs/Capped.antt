-- What the route table says of a row whose length is capped at 255, above the bits of each address.
use Rattle.pim_session.proofs.Words.{◌≡◌, ℕ, ◌≤◌, ◌⊎◌, Bool, true, false, nat_lt, min, not, ◌&&◌, List, [], ◌∷◌, ◌++◌, Result, Ok}
use Rattle.pim_session.proofs.Words.{Err, refl, sym, ap, subst, ◌∙◌, inl, inr, arith, ltb-true, ltb-false, lt-ltb, AddressFamily}
use Rattle.pim_session.proofs.Words.{Ipv4, Ipv6, RouteFault, IsRefusedBy, Prefix, RouteTable, prefix_faults, room_faults}
use Rattle.pim_session.proofs.Words.{is_group_prefix, rp_faults, via_faults, with_rp, with_via, is_in, address_bytes, RouteRow}
use Rattle.pim_session.proofs.Words.{AnswerFault, fault_words, done_text, ok_line, fault_line, family_with, prefix_of}
use Rattle.pim_session.proofs.Words.{with_routes, route_words, AddsRow, AddsRp, AddsVia, IsAdded, fixed_after, Gathered}
use Rattle.std.specs.Prelude.{OnOk, OnErr}
use Rattle.pim_addr.specs.declared.route_fault.RouteFault.TheVariants.{Length, Kind}
use Rattle.pim_addr.specs.Address.{mask_length, is_source}
use Rattle.pim_addr.specs.Faults.{fault_if}
use Rattle.pim_session.proofs.Setups.{row_added, row_refused, row_unheld}

-- ---- lengths

most_bits : (family : AddressFamily) → mask_length family ≤ 128
most_bits Ipv4 = omega arith
most_bits Ipv6 = omega arith

abbrev Fits : AddressFamily → ℕ → ℕ → Type 0
Fits family bits small = (small ≡ bits) ⊎ ((nat_lt (mask_length family) small ≡ true) × (nat_lt (mask_length family) bits ≡ true))

by_length : (family : AddressFamily) (bits small : ℕ) → small ≡ min bits 255 → (b : Bool) → nat_lt 255 bits ≡ b → Fits family bits small
by_length family bits small is true long =
    let more = ltb-true 255 bits long in
    let most = most_bits family in
    inr (lt-ltb (mask_length family) small (omega (arith, is, more, most)), lt-ltb (mask_length family) bits (omega (arith, more, most)))
by_length family bits small is false short =
    let less = ltb-false 255 bits short in inl (omega (arith, is, less))

-- the capped length is the length, or both are above the bits of an address
capped_fits : (family : AddressFamily) (bits small : ℕ) → small ≡ min bits 255 → Fits family bits small
capped_fits family bits small is = by_length family bits small is (nat_lt 255 bits) refl

-- ---- faults

abbrev faults_at : AddressFamily → List ℕ → (ℕ → List RouteFault) → ℕ → List RouteFault
faults_at family address others bits = prefix_faults family (record { bits = bits; address = address }) ++ others bits

record Same (family : AddressFamily) (address : List ℕ) (others : ℕ → List RouteFault) (bits small : ℕ) (reported : Result (Unit {0}) RouteFault) : Type 0 where
  pub refused : IsRefusedBy (faults_at family address others bits) reported
  pub taken : OnOk reported (small ≡ bits)

ok_is : (reported : Result (Unit {0}) RouteFault) (P : Type 0) → P → OnOk reported P
ok_is (Ok done) P p = p
ok_is (Err fault) P p = tt

err_is : (reported : Result (Unit {0}) RouteFault) (fault : RouteFault) (P : Type 0) → reported ≡ Err fault → OnOk reported P
err_is (Ok done) fault P is = absurd cc
err_is (Err other) fault P is = tt

first_told : (family : AddressFamily) (address : List ℕ) (others : ℕ → List RouteFault) (bits : ℕ) (reported : Result (Unit {0}) RouteFault) → nat_lt (mask_length family) bits ≡ true
    → (IsRefusedBy (faults_at family address others bits) reported → reported ≡ Err Length) × (reported ≡ Err Length → IsRefusedBy (faults_at family address others bits) reported)
first_told family address others bits reported long = rw long ((λ p. p), (λ p. p))

same_told : (family : AddressFamily) (address : List ℕ) (others : ℕ → List RouteFault) (bits small : ℕ) (reported : Result (Unit {0}) RouteFault) → Fits family bits small
    → IsRefusedBy (faults_at family address others small) reported → Same family address others bits small reported
same_told family address others bits small reported (inl same) refused =
    record { refused = subst (λ (n : ℕ). IsRefusedBy (faults_at family address others n) reported) same refused; taken = ok_is reported (small ≡ bits) same }
same_told family address others bits small reported (inr (low, high)) refused =
    let is : reported ≡ Err Length = (first_told family address others small reported low).0 refused in
    record { refused = (first_told family address others bits reported high).1 is; taken = err_is reported Length (small ≡ bits) is }

both_ok : (reported : Result (Unit {0}) RouteFault) (P Q R : Type 0) → (P → Q → R) → OnOk reported P → OnOk reported Q → OnOk reported R
both_ok (Ok done) P Q R f p q = f p q
both_ok (Err fault) P Q R f p q = tt

-- ---- rows

-- what is gathered where the table is then this one
abbrev pub after : AddressFamily → Gathered → Result (Unit {0}) AnswerFault → RouteTable → Gathered
after family gathered result routes =
    record { family = fixed_after gathered.family family result; ports = gathered.ports; routes = routes; limit = gathered.limit }

module _ (family : AddressFamily) (row : RouteRow) (gathered : Gathered) (same : family_with gathered row.prefix ≡ family) (within : is_in family row.prefix ≡ true) (also : is_in family row.to ≡ true) where
  by_faults : (faults : AddressFamily → List RouteFault) (table new : RouteTable) (reported : Result (Unit {0}) RouteFault) (result : Result (Unit {0}) AnswerFault) (list : List RouteFault) → faults family ≡ list → IsRefusedBy list reported → IsAdded reported result
      → OnOk reported (new ≡ table) → OnErr reported (new ≡ gathered.routes) → AddsRow row faults table gathered (done_text result) (after family gathered result new)
  by_faults faults table new (Ok done) (Ok one) [] none refused added ok err =
      subst (λ (t : RouteTable). AddsRow row faults table gathered ok_line (with_routes family t gathered)) (sym ok) (row_added family row gathered faults table same within also none)
  by_faults faults table new (Ok done) (Ok one) (first ∷ others) some refused added ok err = absurd cc
  by_faults faults table new (Ok done) (Err fault) list is refused added ok err = absurd added
  by_faults faults table new (Err reported) (Ok one) list is refused added ok err = absurd added
  by_faults faults table new (Err reported) (Err fault) [] none refused added ok err =
      subst (λ (t : RouteTable). AddsRow row faults table gathered (fault_line (fault_words fault)) (after family gathered (Err fault) t)) (sym err)
      (row_unheld family row gathered faults table same (fault_words fault) within also none (added ∙ ap route_words refused))
  by_faults faults table new (Err reported) (Err fault) (first ∷ others) some refused added ok err =
      let e : reported ≡ first = cc in
      subst (λ (t : RouteTable). AddsRow row faults table gathered (fault_line (fault_words fault)) (after family gathered (Err fault) t)) (sym err)
      (row_refused family row gathered faults table same first others (fault_words fault) within also some (added ∙ ap route_words e))

  abbrev rp_others : ℕ → List RouteFault
  rp_others bits = let prefix : Prefix = record { bits = bits; address = address_bytes row.prefix } in
      fault_if (not (is_source family (address_bytes row.to) && is_group_prefix family prefix)) Kind ++ room_faults prefix gathered.routes.rps

  abbrev via_others : ℕ → List RouteFault
  via_others bits = let prefix : Prefix = record { bits = bits; address = address_bytes row.prefix } in
      fault_if (not (is_source family (address_bytes row.to))) Kind ++ room_faults prefix gathered.routes.vias

  rp_at : (small : ℕ) (new : RouteTable) (reported : Result (Unit {0}) RouteFault) (result : Result (Unit {0}) AnswerFault) → small ≡ min row.length 255
      → OnOk reported (new ≡ with_rp (record { bits = small; address = address_bytes row.prefix }) (address_bytes row.to) gathered.routes) → OnErr reported (new ≡ gathered.routes)
      → IsRefusedBy (rp_faults family (record { bits = small; address = address_bytes row.prefix }) (address_bytes row.to) gathered.routes.rps) reported → IsAdded reported result
      → AddsRp row gathered (done_text result) (after family gathered result new)
  rp_at small new reported result is ok err refused added =
      let said : Same family (address_bytes row.prefix) rp_others row.length small reported =
      same_told family (address_bytes row.prefix) rp_others row.length small reported (capped_fits family row.length small is) refused in
      let held : OnOk reported (new ≡ with_rp (prefix_of row) (address_bytes row.to) gathered.routes) =
      both_ok reported (small ≡ row.length) (new ≡ with_rp (record { bits = small; address = address_bytes row.prefix }) (address_bytes row.to) gathered.routes) (new ≡ with_rp (prefix_of row) (address_bytes row.to) gathered.routes)
      (λ e p. subst (λ (n : ℕ). new ≡ with_rp (record { bits = n; address = address_bytes row.prefix }) (address_bytes row.to) gathered.routes) e p) said.taken ok in
      by_faults (λ family. rp_faults family (prefix_of row) (address_bytes row.to) gathered.routes.rps) (with_rp (prefix_of row) (address_bytes row.to) gathered.routes) new reported result
      (rp_faults family (prefix_of row) (address_bytes row.to) gathered.routes.rps) refl said.refused added held err

  -- a row to an RP
  pub rp_told : (small : ℕ) (address to : List ℕ) (new : RouteTable) (reported : Result (Unit {0}) RouteFault) (result : Result (Unit {0}) AnswerFault) → small ≡ min row.length 255 → address ≡ address_bytes row.prefix → to ≡ address_bytes row.to
      → OnOk reported (new ≡ with_rp (record { bits = small; address = address }) to gathered.routes) → OnErr reported (new ≡ gathered.routes)
      → IsRefusedBy (rp_faults family (record { bits = small; address = address }) to gathered.routes.rps) reported → IsAdded reported result
      → AddsRp row gathered (done_text result) (after family gathered result new)
  rp_told small address to new reported result is from onto ok err refused added =
      rp_at small new reported result is
      (subst (λ (t : List ℕ). OnOk reported (new ≡ with_rp (record { bits = small; address = address_bytes row.prefix }) t gathered.routes)) onto
      (subst (λ (a : List ℕ). OnOk reported (new ≡ with_rp (record { bits = small; address = a }) to gathered.routes)) from ok)) err
      (subst (λ (t : List ℕ). IsRefusedBy (rp_faults family (record { bits = small; address = address_bytes row.prefix }) t gathered.routes.rps) reported) onto
      (subst (λ (a : List ℕ). IsRefusedBy (rp_faults family (record { bits = small; address = a }) to gathered.routes.rps) reported) from refused)) added

  via_at : (small : ℕ) (new : RouteTable) (reported : Result (Unit {0}) RouteFault) (result : Result (Unit {0}) AnswerFault) → small ≡ min row.length 255
      → OnOk reported (new ≡ with_via (record { bits = small; address = address_bytes row.prefix }) (address_bytes row.to) gathered.routes) → OnErr reported (new ≡ gathered.routes)
      → IsRefusedBy (via_faults family (record { bits = small; address = address_bytes row.prefix }) (address_bytes row.to) gathered.routes.vias) reported → IsAdded reported result
      → AddsVia row gathered (done_text result) (after family gathered result new)
  via_at small new reported result is ok err refused added =
      let said : Same family (address_bytes row.prefix) via_others row.length small reported =
      same_told family (address_bytes row.prefix) via_others row.length small reported (capped_fits family row.length small is) refused in
      let held : OnOk reported (new ≡ with_via (prefix_of row) (address_bytes row.to) gathered.routes) =
      both_ok reported (small ≡ row.length) (new ≡ with_via (record { bits = small; address = address_bytes row.prefix }) (address_bytes row.to) gathered.routes) (new ≡ with_via (prefix_of row) (address_bytes row.to) gathered.routes)
      (λ e p. subst (λ (n : ℕ). new ≡ with_via (record { bits = n; address = address_bytes row.prefix }) (address_bytes row.to) gathered.routes) e p) said.taken ok in
      by_faults (λ family. via_faults family (prefix_of row) (address_bytes row.to) gathered.routes.vias) (with_via (prefix_of row) (address_bytes row.to) gathered.routes) new reported result
      (via_faults family (prefix_of row) (address_bytes row.to) gathered.routes.vias) refl said.refused added held err

  -- a row to an upstream neighbour
  pub via_told : (small : ℕ) (address to : List ℕ) (new : RouteTable) (reported : Result (Unit {0}) RouteFault) (result : Result (Unit {0}) AnswerFault) → small ≡ min row.length 255 → address ≡ address_bytes row.prefix → to ≡ address_bytes row.to
      → OnOk reported (new ≡ with_via (record { bits = small; address = address }) to gathered.routes) → OnErr reported (new ≡ gathered.routes)
      → IsRefusedBy (via_faults family (record { bits = small; address = address }) to gathered.routes.vias) reported → IsAdded reported result
      → AddsVia row gathered (done_text result) (after family gathered result new)
  via_told small address to new reported result is from onto ok err refused added =
      via_at small new reported result is
      (subst (λ (t : List ℕ). OnOk reported (new ≡ with_via (record { bits = small; address = address_bytes row.prefix }) t gathered.routes)) onto
      (subst (λ (a : List ℕ). OnOk reported (new ≡ with_via (record { bits = small; address = a }) to gathered.routes)) from ok)) err
      (subst (λ (t : List ℕ). IsRefusedBy (via_faults family (record { bits = small; address = address_bytes row.prefix }) t gathered.routes.vias) reported) onto
      (subst (λ (a : List ℕ). IsRefusedBy (via_faults family (record { bits = small; address = a }) to gathered.routes.vias) reported) from refused)) added
