-- A router without local receivers wants what its machines want.
use Rattle.pim_audit_laws.proofs.Words.{◌≡◌, ◌∙◌, ℕ, Bool, true, false, ◌&&◌, ◌||◌, List, [], refl, ap, Tree, rp_of}
use Rattle.pim_audit_laws.proofs.Words.{is_neighbour, rpf_neighbour, via_of, wants, some_below, machine_at, local_port}
use Rattle.pim_audit_laws.proofs.Words.{WithoutLocalIsDemanded}
use Rattle.pim_form.specs.declared.tree.Tree.TheVariants as tree

or_false : (a : Bool) → (a || false) ≡ a
or_false true = refl
or_false false = refl

nothing_local : (source group : List ℕ) (of : Tree) → wants (local_port []) source group of ≡ false
unfolding some_below machine_at
nothing_local source group tree.Shared = refl
nothing_local source group tree.Source = refl

pub without_local_is_demanded : WithoutLocalIsDemanded
without_local_is_demanded family upstream asked state source group of valid is =
    let machines = wants state.machines source group of in
    let neighbour = rpf_neighbour (rp_of family state.routes) (via_of family state.routes) source group of in
    ap (λ (b : Bool). b && is_neighbour upstream neighbour)
    (ap (λ (b : Bool). machines || b) (nothing_local source group of) ∙ or_false machines)
