use Rattle.pim_emit.proofs.Words.{◌∙◌, ◌∷◌, List, refl, sym, subst, IsStrictlySortedBy, address_cmp, GroupForm}
use Rattle.pim_emit.proofs.Words.{AreAscending, groups_of}
use Rattle.pim_emit.proofs.NewStars.{HaveSameStarsFrom, passed, star_here, no_star, no_star_before, stars_above}
use Rattle.pim_emit.proofs.new_star.has_star_in.Goals as goal

pub loop-this-init : goal.loop-this-init
loop-this-init g c = record { same = λ this from. refl; ascending = c.requires }

pub loop-this-preserved : goal.loop-this-preserved
unfolding IsStrictlySortedBy
loop-this-preserved g c =
    let group = g.F.Family.bytes_of c.args.group in
    let up : AreAscending (groups_of (c.in-Some.this ∷ c.in-Some.behind)) = subst (λ (l : List GroupForm). AreAscending (groups_of l)) c.in-Some.ensures c.loop-this.invariant.ascending in
    record {
      same = passed group c.in-Some.this c.in-Some.behind c.args.left.now
          ((λ i. address_cmp (sym c.group.ensures i) group) ∙ sym (g.met.F.Family.order_of_bytes c.group.result c.args.group) ∙ sym c.in-Less.ensures)
          (subst (λ (l : List GroupForm). HaveSameStarsFrom group l c.args.left.now) c.in-Some.ensures c.loop-this.invariant.same);
      ascending = up.1;
    }

pub returns-in-Equal-clause-star : goal.returns-in-Equal-clause-star
returns-in-Equal-clause-star g c =
    let group = g.F.Family.bytes_of c.args.group in
    c.star.ensures ∙ star_here group c.in-Some.this c.in-Some.behind c.args.left.now
    ((λ i. address_cmp (sym c.group.ensures i) group) ∙ sym (g.met.F.Family.order_of_bytes c.group.result c.args.group) ∙ sym c.in-Equal.ensures)
    (subst (λ (l : List GroupForm). HaveSameStarsFrom group l c.args.left.now) c.in-Some.ensures c.loop-this.invariant.same)

pub returns-in-Equal-clause-left : goal.returns-in-Equal-clause-left
returns-in-Equal-clause-left g c = stars_above (g.F.Family.bytes_of c.args.group) c.loop-this.left c.args.left.now c.loop-this.invariant.same

pub returns-in-Greater-clause-star : goal.returns-in-Greater-clause-star
returns-in-Greater-clause-star g c =
    let group = g.F.Family.bytes_of c.args.group in
    no_star_before group c.in-Some.this c.in-Some.behind c.args.left.now
    (subst (λ (l : List GroupForm). AreAscending (groups_of l)) c.in-Some.ensures c.loop-this.invariant.ascending)
    ((λ i. address_cmp (sym c.group.ensures i) group) ∙ sym (g.met.F.Family.order_of_bytes c.group.result c.args.group) ∙ sym c.in-Greater.ensures)
    (subst (λ (l : List GroupForm). HaveSameStarsFrom group l c.args.left.now) c.in-Some.ensures c.loop-this.invariant.same)

pub returns-in-Greater-clause-left : goal.returns-in-Greater-clause-left
returns-in-Greater-clause-left g c = stars_above (g.F.Family.bytes_of c.args.group) c.loop-this.left c.args.left.now c.loop-this.invariant.same

pub returns-clause-star : goal.returns-clause-star
returns-clause-star g c =
    let group = g.F.Family.bytes_of c.args.group in
    no_star group c.args.left.now (subst (λ (l : List GroupForm). HaveSameStarsFrom group l c.args.left.now) c.in_default.ensures c.loop-this.invariant.same)

pub returns-clause-left : goal.returns-clause-left
returns-clause-left g c = stars_above (g.F.Family.bytes_of c.args.group) c.loop-this.left c.args.left.now c.loop-this.invariant.same
