-- Counts of a message, entry by entry and set by set.
use Rattle.std.proofs.Common.{◌≡◌, ◌∙◌, ◌≤◌, ◌<◌, ◌+◌, ℕ, suc, Bool, true, false, if◌then◌else◌}
use Rattle.std.proofs.Common.{List, [], ◌∷◌, ◌++◌, length, refl}
use Rattle.std.proofs.Common.{drop, get_or, slice_set, Option, ap, sym, arith}
use Rattle.pim_summary.proofs.Ordered.{lt_true}
use Rattle.std.proofs.lemmas.List.{at_drop_more, at_drop_all}
use Rattle.pim_addr.specs.declared.family.AddressFamily.{AddressFamily}
use Rattle.pim_capture.specs.declared.link.Link.{Link}
use Rattle.pim_jp.specs.declared.entry.Entry.{Entry}
use Rattle.pim_jp.specs.Message.{GroupSet}
use Rattle.pim_summary.specs.declared.facts.LinkFacts.{LinkFacts}
use Rattle.pim_summary.specs.declared.facts.RpFacts.{RpFacts}
use Rattle.pim_summary.specs.Routers.{one_more, Rps, with_entry, with_entries, with_sets, more}
use Rattle.pim_summary.specs.Routers.{joined_in, pruned_in, more_joined, most_joined}
use Rattle.pim_summary.specs.Summary.{same_link, link_place, keeps_link, with_link}

module _ (family : AddressFamily) where
  -- one entry more
  pub entry_counted : (left later : List (Entry (List ℕ))) (entry : Entry (List ℕ)) (known known'
      all : Rps) → left ≡ entry ∷ later → known' ≡ with_entry family entry known
      → with_entries family left known ≡ all → with_entries family later known' ≡ all
  unfolding with_entries
  entry_counted left later entry known known' all more is w =
      ap (with_entries family later) is ∙ sym (ap (λ l. with_entries family l known) more) ∙ w

  -- none is left
  pub entries_counted : (left : List (Entry (List ℕ))) (known all : Rps) → left ≡ []
      → with_entries family left known ≡ all → known ≡ all
  unfolding with_entries
  entries_counted left known all none w = sym (ap (λ l. with_entries family l known) none) ∙ w

  -- one set more
  pub set_counted : (left later : List GroupSet) (set : GroupSet) (known known' all : Rps)
      → left ≡ set ∷ later → known' ≡ with_entries family set.joined known
      → with_sets family left known ≡ all → with_sets family later known' ≡ all
  unfolding with_sets
  set_counted left later set known known' all more is w =
      ap (with_sets family later) is ∙ sym (ap (λ l. with_sets family l known) more) ∙ w

  -- none is left
  pub sets_counted : (left : List GroupSet) (known all : Rps) → left ≡ []
      → with_sets family left known ≡ all → known ≡ all
  unfolding with_sets
  sets_counted left known all none w = sym (ap (λ l. with_sets family l known) none) ∙ w

sum_of : (n a b : ℕ) → more (more n a) b ≡ more n (a + b)
sum_of n a b = omega arith

-- the joined entries of one set more
pub joined_added : (left later : List GroupSet) (set : GroupSet) (n n' size all : ℕ)
    → left ≡ set ∷ later → size ≡ length set.joined → n' ≡ more n size
    → more n (joined_in left) ≡ all → more n' (joined_in later) ≡ all
unfolding joined_in
joined_added left later set n n' size all step long is w =
    ap (λ k. more k (joined_in later)) (is ∙ ap (more n) long)
    ∙ sum_of n (length set.joined) (joined_in later)
    ∙ sym (ap (λ l. more n (joined_in l)) step) ∙ w

pub joined_done : (left : List GroupSet) (n all : ℕ) → left ≡ [] → n ≤ 18446744073709551615
    → more n (joined_in left) ≡ all → n ≡ all
unfolding joined_in
joined_done left n all none small w =
    let e : more n 0 ≡ all = sym (ap (λ l. more n (joined_in l)) none) ∙ w in
    omega (arith, e, small)

-- the pruned entries of one set more
pub pruned_added : (left later : List GroupSet) (set : GroupSet) (n n' size all : ℕ)
    → left ≡ set ∷ later → size ≡ length set.pruned → n' ≡ more n size
    → more n (pruned_in left) ≡ all → more n' (pruned_in later) ≡ all
unfolding pruned_in
pruned_added left later set n n' size all step long is w =
    ap (λ k. more k (pruned_in later)) (is ∙ ap (more n) long)
    ∙ sum_of n (length set.pruned) (pruned_in later)
    ∙ sym (ap (λ l. more n (pruned_in l)) step) ∙ w

pub pruned_done : (left : List GroupSet) (n all : ℕ) → left ≡ [] → n ≤ 18446744073709551615
    → more n (pruned_in left) ≡ all → n ≡ all
unfolding pruned_in
pruned_done left n all none small w =
    let e : more n 0 ≡ all = sym (ap (λ l. more n (pruned_in l)) none) ∙ w in
    omega (arith, e, small)

-- one RP more
module _ (rps : List RpFacts) (i : ℕ) (best all : Option RpFacts) where
  pub rp_passed : (d : RpFacts) (best' : Option RpFacts) → i < length rps
      → best' ≡ more_joined best (get_or rps i d)
      → most_joined best (drop i rps) ≡ all → most_joined best' (drop (i + 1) rps) ≡ all
  unfolding most_joined
  rp_passed d best' within is w = ap (λ it. most_joined it (drop (i + 1) rps)) is
      ∙ sym (at_drop_more (most_joined best) rps i d within) ∙ w

  pub rps_passed : length rps ≤ i → most_joined best (drop i rps) ≡ all → best ≡ all
  unfolding most_joined
  rps_passed past w = sym (at_drop_all (most_joined best) rps i past) ∙ w

-- the place of a link
module _ (link : Link) (links : List LinkFacts) (i : ℕ) where
  step : (d : LinkFacts) → i < length links → (b : Bool)
      → same_link link (get_or links i d).link ≡ b
      → link_place link (drop i links)
      ≡ (if b then 0 else suc (link_place link (drop (i + 1) links)))
  unfolding link_place
  step d within b is = at_drop_more (link_place link) links i d within
      ∙ ap (λ (b : Bool). if b then 0 else suc (link_place link (drop (i + 1) links))) is

  end : length links ≤ i → link_place link (drop i links) ≡ 0
  unfolding link_place
  end past = at_drop_all (link_place link) links i past

  pub link_here : (place all : ℕ) (d : LinkFacts) → i < length links
      → same_link link (get_or links i d).link ≡ true
      → place + link_place link (drop i links) ≡ all → place ≡ all
  link_here place all d within is w = let e = step d within true is in omega (arith, e, w)

  pub link_later : (place all : ℕ) (d : LinkFacts) → i < length links
      → same_link link (get_or links i d).link ≡ false
      → place + link_place link (drop i links) ≡ all
      → place + 1 + link_place link (drop (i + 1) links) ≡ all
  link_later place all d within is w = let e = step d within false is in omega (arith, e, w)

  pub link_none : (place all : ℕ) → length links ≤ i
      → place + link_place link (drop i links) ≡ all → place ≡ all
  link_none place all past w = let e = end past in omega (arith, e, w)

-- a link that is there has one message more
module _ (link : Link) where
  made : Link → ℕ → LinkFacts
  made link messages = record { link = link; messages = messages }

  there : (links : List LinkFacts) (x y : LinkFacts) → link_place link links < length links
      → x ≡ get_or links (link_place link links) x → y ≡ get_or links (link_place link links) y
      → slice_set links (link_place link links) (made x.link (one_more y.messages))
      ≡ with_link link links
  unfolding link_place with_link made
  there [] x y w e f = absurd (omega (arith, w))
  there (facts ∷ links) x y w e f = by (same_link link facts.link) (there links x y) w e f
    where
      by : (b : Bool)
          → (link_place link links < length links → x ≡ get_or links (link_place link links) x
          → y ≡ get_or links (link_place link links) y
          → slice_set links (link_place link links) (made x.link (one_more y.messages))
          ≡ with_link link links)
          → (if b then 0 else suc (link_place link links)) < length (facts ∷ links)
          → x ≡ get_or (facts ∷ links) (if b then 0 else suc (link_place link links)) x
          → y ≡ get_or (facts ∷ links) (if b then 0 else suc (link_place link links)) y
          → slice_set (facts ∷ links) (if b then 0 else suc (link_place link links)) (made x.link
          (one_more y.messages))
          ≡ (if b then made facts.link (one_more facts.messages) ∷ links else facts ∷ with_link
          link links)
      by true h w e f = ap (λ (it : LinkFacts). made it.link (one_more y.messages) ∷ links) e
          ∙ ap (λ (it : LinkFacts). made facts.link (one_more it.messages) ∷ links) f
      by false h w e f = ap (λ it. facts ∷ it) (h (omega (arith, w)) e f)

  new_one : (links : List LinkFacts) → length links ≤ link_place link links
      → links ++ made link 1 ∷ [] ≡ with_link link links
  unfolding link_place with_link made
  new_one [] w = refl
  new_one (facts ∷ links) w = by (same_link link facts.link) (new_one links) w
    where
      by : (b : Bool) → (length links ≤ link_place link links
          → links ++ made link 1 ∷ [] ≡ with_link link links)
          → length (facts ∷ links) ≤ (if b then 0 else suc (link_place link links))
          → facts ∷ (links ++ made link 1 ∷ [])
          ≡ (if b then made facts.link (one_more facts.messages) ∷ links else facts ∷ with_link
          link links)
      by true h w = absurd (omega (arith, w))
      by false h w = ap (λ it. facts ∷ it) (h (omega (arith, w)))

  kept : (links : List LinkFacts) (place : ℕ) → place ≡ link_place link links → place < 16
      → (if keeps_link link links then with_link link links else links) ≡ with_link link links
  kept links place is few = ap (λ b. if b then with_link link links else links) (lt_true
      (link_place link links) 16 (omega (arith, is, few)))

  pub link_counted : (links : List LinkFacts) (place messages : ℕ) (x y : LinkFacts)
      → place ≡ link_place link links → place < 16 → place < length links → x ≡ get_or links place x
      → y ≡ get_or links place y → messages ≡ one_more y.messages
      → slice_set links place (record { link = x.link; messages = messages })
      ≡ (if keeps_link link links then with_link link links else links)
  unfolding made
  link_counted links place messages x y is few within e f more =
      ap (λ n. slice_set links place (made x.link n)) more
      ∙ ap (λ n. slice_set links n (made x.link (one_more y.messages))) is
      ∙ there links x y (omega (arith, is, within)) (e ∙ ap (λ n. get_or links n x) is) (f
      ∙ ap (λ n. get_or links n y) is)
      ∙ sym (kept links place is few)

  pub link_new : (links final : List LinkFacts) (place : ℕ) → place ≡ link_place link links
      → place < 16 → length links ≤ place
      → final ≡ links ++ record { link = link; messages = 1 } ∷ []
      → final ≡ (if keeps_link link links then with_link link links else links)
  unfolding made
  link_new links final place is few past e = e ∙ new_one links (omega (arith, is, past))
      ∙ sym (kept links place is few)
