-- Rows that compare equal are seen as equal rows, and the other way round.
use Rattle.pim_addr.proofs.Words.{◌≡◌, ℕ, Bool, true, ◌&&◌, List, [], ◌∷◌, refl, ap, nat_eq, ◌↔◌, pointwise, false≢true}
use Rattle.pim_addr.proofs.Words.{and_parts, and_from, eq-eqb, eqb-true, Route, Row, row_seen, rows_seen}

module _ {A : Type 0} (bytes_of : A → List ℕ) (same : A → A → Bool) (decides : (a b : A) → (same a b ≡ true) ↔ (bytes_of a ≡ bytes_of b)) where
  one_row : (x y : Route A) → (same x.prefix y.prefix && (nat_eq x.length y.length && same x.to y.to)) ≡ true → row_seen bytes_of x ≡ row_seen bytes_of y
  one_row x y e =
      let first = and_parts (same x.prefix y.prefix) (nat_eq x.length y.length && same x.to y.to) e in
      let later = and_parts (nat_eq x.length y.length) (same x.to y.to) first.1 in
      let prefix = (decides x.prefix y.prefix).0 first.0 in
      let bits = eqb-true x.length y.length later.0 in
      let to = (decides x.to y.to).0 later.1 in
      λ i. (record { bits = bits i; address = prefix i }, to i)

  same_row : (x y : Route A) → row_seen bytes_of x ≡ row_seen bytes_of y → (same x.prefix y.prefix && (nat_eq x.length y.length && same x.to y.to)) ≡ true
  same_row x y e =
      and_from (same x.prefix y.prefix) (nat_eq x.length y.length && same x.to y.to) ((decides x.prefix y.prefix).1 (ap (λ (r : Row). r.0.address) e))
      (and_from (nat_eq x.length y.length) (same x.to y.to) (eq-eqb x.length y.length (ap (λ (r : Row). r.0.bits) e)) ((decides x.to y.to).1 (ap (λ (r : Row). r.1) e)))

  pub same_rows : (xs ys : List (Route A)) → (pointwise (λ (x y : Route A). same x.prefix y.prefix && (nat_eq x.length y.length && same x.to y.to)) xs ys ≡ true) ↔ (rows_seen bytes_of xs ≡ rows_seen bytes_of ys)
  same_rows [] [] = (λ e. refl, λ e. refl)
  same_rows [] (y ∷ ys) = (λ e. absurd (false≢true e), λ e. absurd (cc))
  same_rows (x ∷ xs) [] = (λ e. absurd (false≢true e), λ e. absurd (cc))
  same_rows (x ∷ xs) (y ∷ ys) = by (same_rows xs ys)
    where
      here : Bool
      here = same x.prefix y.prefix && (nat_eq x.length y.length && same x.to y.to)

      others : Bool
      others = pointwise (λ (x y : Route A). same x.prefix y.prefix && (nat_eq x.length y.length && same x.to y.to)) xs ys

      head : row_seen bytes_of x ∷ rows_seen bytes_of xs ≡ row_seen bytes_of y ∷ rows_seen bytes_of ys → row_seen bytes_of x ≡ row_seen bytes_of y
      head e = cc

      tail : row_seen bytes_of x ∷ rows_seen bytes_of xs ≡ row_seen bytes_of y ∷ rows_seen bytes_of ys → rows_seen bytes_of xs ≡ rows_seen bytes_of ys
      tail e = cc

      by : (others ≡ true) ↔ (rows_seen bytes_of xs ≡ rows_seen bytes_of ys) → ((here && others) ≡ true) ↔ (row_seen bytes_of x ∷ rows_seen bytes_of xs ≡ row_seen bytes_of y ∷ rows_seen bytes_of ys)
      by later = (
        λ e. let both = and_parts here others e in λ i. one_row x y both.0 i ∷ later.0 both.1 i,
        λ e. and_from here others (same_row x y (head e)) (later.1 (tail e)),
      )
