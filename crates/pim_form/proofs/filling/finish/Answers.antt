use Rattle.pim_form.proofs.Words.{◌≡◌, ◌∙◌, sym, ap, subst, [], Filled, IsFilling}
use Rattle.pim_form.proofs.PlanFilling.{last_closes, plan_ends}
use Rattle.pim_form.proofs.filling.finish.Goals.{then-filling-ne0+in_ok-close, else-filling-ne0}
use Rattle.pim_form.proofs.filling.finish.Goals as goal

pub returns : goal.returns
returns g c = λ budget row places filling.
    let A = g.row.F-Addr.Denot in
    let bytes_of = g.F.Family.bytes_of in
    let family = g.F.Family.family in
    let seen : Filled A = record {
      pieces = c.filling-2.inside.pieces.items;
      ends = c.filling-2.inside.ends.items;
      groups = c.filling-2.inside.groups;
      entries = c.filling-2.inside.entries;
    } in
    let before : c.filling.inside.groups ≡ c.args.filling.groups = ap (λ (f : Filled A). f.groups) c.filling.view_is in
    elim c.if-filling-ne0.branch [
      | then-filling-ne0+in_ok-close w ↦
          let is = c.filling-2.view_is ∙ w.filling-is ∙ w.in_ok-close.ensures {u = tt} in
          let closed = last_closes bytes_of family budget row places c.args.filling filling (λ none. w.if-filling-ne0.true (before ∙ none)) in
          let at : IsFilling bytes_of family budget row places [] seen = subst (IsFilling bytes_of family budget row places []) (sym is) closed in
          plan_ends bytes_of family budget row places seen at (ap (λ (f : Filled A). f.groups) is)
      | else-filling-ne0 w ↦
          let is = c.filling-2.view_is ∙ w.filling-is in
          let at : IsFilling bytes_of family budget row places [] seen = subst (IsFilling bytes_of family budget row places []) (sym is) filling in
          plan_ends bytes_of family budget row places seen at (ap (λ (f : Filled A). f.groups) is ∙ sym before ∙ w.if-filling-ne0.false)
    ]
