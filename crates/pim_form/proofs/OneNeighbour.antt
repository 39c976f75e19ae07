-- Where all addresses are reached by one neighbour.
use Rattle.pim_form.proofs.Words.{◌≡◌, ◌∙◌, ℕ, Bool, true, false, ◌&&◌, List, Option, None, Some, is_some, refl, ap, false≢true}
use Rattle.pim_form.proofs.Words.{Tree, Demand, star_rpf_neighbour, rpf_neighbour, is_neighbour, toward, SharedHaveRps}
use Rattle.pim_form.specs.declared.tree.Tree.TheVariants.{Shared, Source}
use Rattle.pim_form.proofs.Addresses.{same_itself}

and_known : (a b : Bool) → (a ≡ true → b ≡ true) → a && b ≡ a
and_known true b h = h refl
and_known false b h = refl

module _ (rps via : List ℕ → Option (List ℕ)) (neighbour : List ℕ) (all : (address : List ℕ) → via address ≡ Some neighbour) where
  reached : (address : List ℕ) → is_neighbour neighbour (via address) ≡ true
  reached address = ap (is_neighbour neighbour) (all address) ∙ same_itself neighbour

  by_rp : (rp : Option (List ℕ)) → is_some rp ≡ true → is_neighbour neighbour (star_rpf_neighbour via rp) ≡ true
  by_rp None h = absurd (false≢true h)
  by_rp (Some rp) h = reached rp

  pub asked_for_all : (demand : Demand) → SharedHaveRps rps via demand → (source group : List ℕ) (tree : Tree) → toward rps via neighbour demand source group tree ≡ demand source group tree
  asked_for_all demand have source group Shared =
      and_known (demand source group Shared) (is_neighbour neighbour (rpf_neighbour rps via source group Shared)) (λ wanted. by_rp (rps group) (have source group wanted))
  asked_for_all demand have source group Source =
      and_known (demand source group Source) (is_neighbour neighbour (rpf_neighbour rps via source group Source)) (λ wanted. reached source)
