use Rattle.pim_local.proofs.Words.{refl, subst, sym, ap, arith, ◌∙◌, AreInOrder, join_seen, is_listed}
use Rattle.pim_local.proofs.Added.{stays, listed, listed_still, is_there, one_more, sound_still, fits, is_there_already}
use Rattle.pim_local.proofs.joins.LocalJoins.add.Goals as goal

pub returns-in_default-clause-ok : goal.returns-in_default-clause-ok
returns-in_default-clause-ok g c =
    let join = join_seen g.F.Family.bytes_of c.args.join in
    let there = is_there (join_seen g.F.Family.bytes_of) c.args.self.now _ _ c.self.view_is c.deref.ensures.value join c.in_default.ensures in
    sym (stays join c.args.self.now (subst AreInOrder c.self.view_is c.self.invariant.ascending) there)

pub returns-in_default-clause-listed : goal.returns-in_default-clause-listed
returns-in_default-clause-listed g c =
    let join = join_seen g.F.Family.bytes_of c.args.join in
    let there = is_there (join_seen g.F.Family.bytes_of) c.args.self.now _ _ c.self.view_is c.deref.ensures.value join c.in_default.ensures in
    listed_still join c.args.self.now (subst AreInOrder c.self.view_is c.self.invariant.ascending) there

pub returns-in_default-clause-reported : goal.returns-in_default-clause-reported
returns-in_default-clause-reported g c =
    let join = join_seen g.F.Family.bytes_of c.args.join in
    let there = is_there (join_seen g.F.Family.bytes_of) c.args.self.now _ _ c.self.view_is c.deref.ensures.value join c.in_default.ensures in
    rw (is_there_already g.F.Family.family join c.args.self.now (sym c.if-not-is_valid.ensures.test) there) tt

pub returns-in_default-insert-clause-reported : goal.returns-in_default-insert-clause-reported
returns-in_default-insert-clause-reported g c =
    rw (fits (join_seen g.F.Family.bytes_of) c.args.self.now c.self.inside.joins.items c.deref.result.now c.self.view_is c.deref.ensures.value g.F.Family.family (join_seen g.F.Family.bytes_of c.args.join) c.in-Err.place
    (sym c.if-not-is_valid.ensures.test) c.in-Err.ensures (omega (arith, c.if-len-ge-JOIN_LIMIT.false, c.len.ensures))) refl

pub invariant_of-self-2 : goal.invariant_of-self-2
invariant_of-self-2 g c =
    sound_still (join_seen g.F.Family.bytes_of) c.args.self.now c.self.inside.joins.items c.deref.result.now c.self.view_is c.deref.ensures.value g.F.Family.family c.insert.new.self.items c.args.join c.in-Err.place c.in-Err.ensures
    c.in-Ok.ensures.items c.self.invariant (omega (arith, c.if-len-ge-JOIN_LIMIT.false, c.len.ensures, c.in-Ok.ensures.len, c.insert.new.self.ok.0)) (c.if-not-is_valid.ensures.valid refl)

pub returns-clause-ok : goal.returns-clause-ok
returns-clause-ok g c =
    one_more (join_seen g.F.Family.bytes_of) c.args.self.now c.self.inside.joins.items c.deref.result.now c.self.view_is c.deref.ensures.value c.insert.new.self.items c.args.join c.in-Err.place c.in-Err.ensures
    c.in-Ok.ensures.items

pub returns-clause-listed : goal.returns-clause-listed
returns-clause-listed g c = λ other. ap (is_listed other) (returns-clause-ok g c) ∙ listed (join_seen g.F.Family.bytes_of c.args.join) c.args.self.now other

pub returns-clause-reported : goal.returns-clause-reported
returns-clause-reported g c =
    rw (fits (join_seen g.F.Family.bytes_of) c.args.self.now c.self.inside.joins.items c.deref.result.now c.self.view_is c.deref.ensures.value g.F.Family.family (join_seen g.F.Family.bytes_of c.args.join) c.in-Err.place
    (sym c.if-not-is_valid.ensures.test) c.in-Err.ensures (omega (arith, c.if-len-ge-JOIN_LIMIT.false, c.len.ensures))) tt
