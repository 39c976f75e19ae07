use Rattle.pim_addr.proofs.Words.{◌≡◌, true, sym, ◌∙◌, false≢true, Prefix, is_group_prefix}
use Rattle.pim_addr.proofs.OneMoreRow.{all_added}
use Rattle.pim_addr.proofs.routes.Routes.add_rp.Goals as goal
use Rattle.pim_addr.proofs.routes.Routes.add_rp.Goals.{then-is_source, else-is_source}

pub invariant_of-self : goal.invariant_of-self
invariant_of-self g c =
    let prefix : Prefix = record { bits = c.args.length; address = g.F.Family.bytes_of c.args.prefix } in
    let group : is_group_prefix g.F.Family.family prefix ≡ true = elim c.if-is_source.branch [ then-is_source w ↦ sym w.is_group_prefix.ensures ∙ sym w.value-is ∙ c.if-not-is_group_prefix.false | else-is_source w ↦ absurd (false≢true (sym w.if-is_source.false ∙ sym w.value-is ∙ c.if-not-is_group_prefix.false)) ] in
    all_added (λ p. is_group_prefix g.F.Family.family p ≡ true) prefix (g.F.Family.bytes_of c.args.rp) c.self.inside.rps c.add.new.self c.add.result c.add.ensures.ok c.add.ensures.err group c.self.invariant
