-- Jumps from deadline to deadline, in records whose times count from the moment 0, are the run of milliseconds.
use Rattle.pim_down.proofs.Words.{◌≡◌, ℕ, ◌+◌, ◌-◌, ◌<◌, ◌≤◌, true, false, List, Option, Some, None, map, leb, max, refl, sym, ap, subst, ◌∙◌, arith, is_some, nat_tests, Held, Step, Downstream, record_after, fired, ticks, is_due_after, IsQuietFor, IsNextDue, AreLate, first_end, ends_by, weight, records_seen, shown, downstream_at}
use Rattle.pim_down.proofs.Time.{records_more, ticks_is, fired_by}
use Rattle.pim_down.proofs.Late.{late_first}
use Rattle.pim_down.proofs.FirstDue.{weight_fired, weight_later}

module _ {A : Type 0} (bytes_of : A → List ℕ) where
  -- so many milliseconds later
  shown_more : (k now : ℕ) (records : List (Held A)) → map (record_after k) (shown bytes_of now records) ≡ shown bytes_of (now + k) records
  shown_more k now records = records_more now k (records_seen bytes_of records)

  pub ticks_shown : (ports limit k now : ℕ) (records : List (Held A)) → ticks k (downstream_at bytes_of ports limit now records) ≡ downstream_at bytes_of ports limit (now + k) records
  ticks_shown ports limit k now records =
      ticks_is k (downstream_at bytes_of ports limit now records) ∙ (λ i. record { ports = ports; limit = limit; moment = now + k; records = shown_more k now records i })

  pub due_shown : (ports limit k now : ℕ) (records : List (Held A)) → is_due_after k (downstream_at bytes_of ports limit now records) ≡ ends_by (now + k) (first_end (records_seen bytes_of records))
  due_shown ports limit k now records =
      ap (λ (s : Downstream). is_some (fired s.records)) (ticks_shown ports limit k now records) ∙ fired_by (now + k) (records_seen bytes_of records)

  not_by : (t e : ℕ) → t < e → leb e t ≡ false
  not_by t e h = grind (arith, nat_tests)

  is_by : (t e : ℕ) → e ≤ t → leb e t ≡ true
  is_by t e h = grind (arith, nat_tests)

  -- nothing is due before the first end
  pub quiet_until : (ports limit now k e : ℕ) (records : List (Held A)) → first_end (records_seen bytes_of records) ≡ Some e → now + k ≤ max now e → IsQuietFor k (downstream_at bytes_of ports limit now records)
  quiet_until ports limit now k e records first within j h = due_shown ports limit j now records ∙ ap (ends_by (now + j)) first ∙ not_by (now + j) e (omega arith)

  -- the records are lighter after a timer has fired
  pub lighter : (now : ℕ) (records new : List (Held A)) (answer : Step (List ℕ)) → fired (shown bytes_of now records) ≡ Some (answer, shown bytes_of now new) → weight (records_seen bytes_of new) < weight (records_seen bytes_of records)
  lighter now records new answer e =
      let less = weight_fired (shown bytes_of now records) (shown bytes_of now new) answer e in
      let old = weight_later now (records_seen bytes_of records) in
      let after = weight_later now (records_seen bytes_of new) in
      omega arith

  -- the next moment at which a timer fires
  next_some : (ports limit now e : ℕ) (records : List (Held A)) → first_end (records_seen bytes_of records) ≡ Some e → IsNextDue (downstream_at bytes_of ports limit now records) (Some (max now e))
  next_some ports limit now e records first = (
    omega arith,
    due_shown ports limit (max now e - now) now records ∙ ap (ends_by (now + (max now e - now))) first ∙ is_by (now + (max now e - now)) e (omega arith),
    quiet_until ports limit now (max now e - now) e records first (omega arith),
  )

  next_none : (ports limit now : ℕ) (records : List (Held A)) → first_end (records_seen bytes_of records) ≡ None → IsNextDue (downstream_at bytes_of ports limit now records) None
  next_none ports limit now records none k = due_shown ports limit k now records ∙ ap (ends_by (now + k)) none

  pub not_yet : (t last : ℕ) (end : Option ℕ) → t ≤ last → ends_by last end ≡ false → ends_by t end ≡ false
  not_yet t last None le quiet = refl
  not_yet t last (Some e) le quiet = grind (arith, nat_tests)

  -- the first end is no earlier than now
  pub next_is : (ports limit now : ℕ) (records : List (Held A)) (end : Option ℕ) → end ≡ first_end (records_seen bytes_of records) → AreLate now (records_seen bytes_of records) → IsNextDue (downstream_at bytes_of ports limit now records) end
  next_is ports limit now records None is late = next_none ports limit now records (sym is)
  next_is ports limit now records (Some e) is late =
      let from = late_first now e (records_seen bytes_of records) late (sym is) in
      let same : max now e ≡ e = omega (arith, from) in
      subst (λ (n : ℕ). IsNextDue (downstream_at bytes_of ports limit now records) (Some n)) same (next_some ports limit now e records (sym is))
