-- The order of keys is that of entries.
use Rattle.std.proofs.Common.{◌≡◌, ◌∙◌, ℕ, Bool, true, false, ◌&&◌, not, List, Option, None, Some, refl, sym, ap, ap₂}
use Rattle.std.proofs.lemmas.Cmp.{nat_cmp_total, on_total, then_total}
use Rattle.std.specs.BTreeMap.Range.{range_contains}
use Rattle.std.specs.Cmp.{IsTotalOrder}
use Rattle.std.specs.Cmp.Lexicographic.{slice_cmp, texts_ties}
use Rattle.std.specs.Option.{option_cmp}
use Rattle.std.specs.Ordering.{is_eq, is_le, nat_cmp, ordering_reverse, ordering_then}
use Rattle.std.specs.declared.cmp.Ordering.{Ordering}
use Rattle.std.specs.declared.cmp.Ordering.TheVariants.{Less, Equal, Greater}
use Rattle.std.specs.declared.ops.Bound.TheVariants.{Included, Excluded}
unfoldable use Rattle.pim_down.specs.Key.{what_cmp}
use Rattle.pim_down.specs.Key.{address_cmp}
use Rattle.pim_down.specs.Seen.{event_seen, what_seen}
use Rattle.pim_down.specs.declared.machines.event.Event.{Event as EventOf}
use Rattle.pim_down.specs.declared.machines.key.What.{What}
use Rattle.pim_down.specs.declared.machines.key.What.TheVariants.{Star, Source, Rpt}
use Rattle.pim_audit.specs.Dued.{is_exception_of}
use Rattle.pim_audit.specs.Keyed.{key_cmp, key_of, source_if_any}
use Rattle.pim_audit.specs.Order.{join_rank, ranked}
unfoldable use Rattle.pim_audit.specs.Order.{entry_cmp}
use Rattle.pim_audit.specs.Seen.{due_seen}
use Rattle.pim_audit.specs.Touched.{is_exception}
use Rattle.pim_audit.specs.declared.due.Due.{Due}
use Rattle.pim_audit.specs.declared.entry_key.EntryKey.{EntryKey}

option_total : {A : Type 0} {cmp : A → A → Ordering} → IsTotalOrder cmp → IsTotalOrder (option_cmp cmp)
option_total {A} {cmp} total = record { antisymm = antisymm; trans = trans; congr = congr }
  where
    antisymm : (a b : Option A) → option_cmp cmp a b ≡ ordering_reverse (option_cmp cmp b a)
    antisymm None None = refl
    antisymm None (Some b) = refl
    antisymm (Some a) None = refl
    antisymm (Some a) (Some b) = total.antisymm a b

    trans : (a b c : Option A) → option_cmp cmp a b ≡ Less → option_cmp cmp b c ≡ Less → option_cmp cmp a c ≡ Less
    trans None None c h k = k
    trans None (Some b) None h k = cc
    trans None (Some b) (Some c) h k = refl
    trans (Some a) None None h k = cc
    trans (Some a) None (Some c) h k = cc
    trans (Some a) (Some b) None h k = k
    trans (Some a) (Some b) (Some c) h k = total.trans a b c h k

    congr : (a b c : Option A) → option_cmp cmp a b ≡ Equal → option_cmp cmp a c ≡ option_cmp cmp b c
    congr None None c h = refl
    congr None (Some b) c h = cc
    congr (Some a) None c h = cc
    congr (Some a) (Some b) None h = refl
    congr (Some a) (Some b) (Some c) h = total.congr a b c h

-- keys are in a total order
pub key_total : {A : Type 0} {cmp : A → A → Ordering} → IsTotalOrder cmp → IsTotalOrder (key_cmp cmp)
key_total {A} {cmp} total =
    then_total (on_total (λ (k : EntryKey A). k.group) total)
    (then_total (on_total (λ (k : EntryKey A). k.rank) nat_cmp_total) (on_total (λ (k : EntryKey A). k.source) (option_total total)))

regrouped : (o p q : Ordering) → ordering_then o (ordering_then p q) ≡ ordering_then (ordering_then o p) q
regrouped Less p q = refl
regrouped Equal p q = refl
regrouped Greater p q = refl

module _ {A : Type 0} (bytes_of : A → List ℕ) (cmp : A → A → Ordering)
    (order : (a b : A) → cmp a b ≡ slice_cmp nat_cmp (bytes_of a) (bytes_of b)) where
  -- of one rank and group, sources decide
  inner : (ja jb : Bool) (a b : What A)
      → ordering_then (nat_cmp (ranked ja (join_rank (what_seen bytes_of a))) (ranked jb (join_rank (what_seen bytes_of b))))
      (option_cmp cmp (source_if_any a) (source_if_any b))
      ≡ ordering_then (nat_cmp (ranked ja (join_rank (what_seen bytes_of a))) (ranked jb (join_rank (what_seen bytes_of b))))
      (what_cmp (what_seen bytes_of a) (what_seen bytes_of b))
  unfolding what_cmp
  inner ja jb Star Star = refl
  inner true true Star (Source t) = refl
  inner true false Star (Source t) = refl
  inner false true Star (Source t) = refl
  inner false false Star (Source t) = refl
  inner true true Star (Rpt t) = refl
  inner true false Star (Rpt t) = refl
  inner false true Star (Rpt t) = refl
  inner false false Star (Rpt t) = refl
  inner true true (Source s) Star = refl
  inner true false (Source s) Star = refl
  inner false true (Source s) Star = refl
  inner false false (Source s) Star = refl
  inner ja jb (Source s) (Source t) = ap (ordering_then (nat_cmp (ranked ja (join_rank (what_seen bytes_of (Source s))))
      (ranked jb (join_rank (what_seen bytes_of (Source t)))))) (order s t)
  inner true true (Source s) (Rpt t) = refl
  inner true false (Source s) (Rpt t) = refl
  inner false true (Source s) (Rpt t) = refl
  inner false false (Source s) (Rpt t) = refl
  inner true true (Rpt s) Star = refl
  inner true false (Rpt s) Star = refl
  inner false true (Rpt s) Star = refl
  inner false false (Rpt s) Star = refl
  inner true true (Rpt s) (Source t) = refl
  inner true false (Rpt s) (Source t) = refl
  inner false true (Rpt s) (Source t) = refl
  inner false false (Rpt s) (Source t) = refl
  inner ja jb (Rpt s) (Rpt t) = ap (ordering_then (nat_cmp (ranked ja (join_rank (what_seen bytes_of (Rpt s))))
      (ranked jb (join_rank (what_seen bytes_of (Rpt t)))))) (order s t)

  -- keys compare as their entries
  pub tied : (a b : EventOf A) → key_cmp cmp (key_of bytes_of a) (key_of bytes_of b)
      ≡ entry_cmp (event_seen bytes_of a) (event_seen bytes_of b)
  unfolding entry_cmp
  tied a b =
      ap₂ ordering_then (order a.group b.group) (inner a.joins b.joins a.what b.what)
      ∙ regrouped (address_cmp (bytes_of a.group) (bytes_of b.group))
      (nat_cmp (ranked a.joins (join_rank (what_seen bytes_of a.what))) (ranked b.joins (join_rank (what_seen bytes_of b.what))))
      (what_cmp (what_seen bytes_of a.what) (what_seen bytes_of b.what))

  between : (o : Ordering) (joins : Bool) (what : What A)
      → (is_le (ordering_then o (ordering_then (nat_cmp 2 (ranked joins (join_rank (what_seen bytes_of what))))
      (option_cmp cmp None (source_if_any what))))
      && not (is_le (ordering_then o (ordering_then (nat_cmp 4 (ranked joins (join_rank (what_seen bytes_of what))))
      (option_cmp cmp None (source_if_any what))))))
      ≡ (is_eq o && is_exception (what_seen bytes_of what))
  between Less joins what = refl
  between Greater joins what = refl
  between Equal true Star = refl
  between Equal false Star = refl
  between Equal true (Source source) = refl
  between Equal false (Source source) = refl
  between Equal true (Rpt source) = refl
  between Equal false (Rpt source) = refl

  -- the keys of a group's (S,G,rpt) stand together
  pub exceptions_between : (group : A) (d : Due A)
      → range_contains (key_cmp cmp) (Included (record { group = group; rank = 2; source = None }))
      (Excluded (record { group = group; rank = 4; source = None })) (key_of bytes_of d.entry)
      ≡ is_exception_of (bytes_of group) (due_seen bytes_of d)
  exceptions_between group d =
      between (cmp group d.entry.group) d.entry.joins d.entry.what
      ∙ ap (λ b. b && is_exception (what_seen bytes_of d.entry.what))
      (ap is_eq (order group d.entry.group) ∙ sym (texts_ties (bytes_of group) (bytes_of d.entry.group)))
