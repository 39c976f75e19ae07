use Rattle.pim_audit.proofs.Words.{◌∙◌, ap, map, event_seen, dues_seen, AuditState}
use Rattle.pim_audit.specs.Audited.{has_neighbour}
use Rattle.pim_audit.specs.Touched.{machines_seen}
use Rattle.pim_audit.proofs.Looking.{changes_now}
use Rattle.pim_audit.proofs.audit.Audit.changes_now.Goals as goal

pub returns-clause-changes : goal.returns-clause-changes
returns-clause-changes g c =
    let bytes_of = g.F.Family.bytes_of in
    (changes_now g.F.Family.family c.args.self.now c.args.router.now c.args.touched.now c.has_neighbour-is_known.result c.sides-sides.result
    c.self.inside.dues (machines_seen bytes_of c.in_ok-machines.machines.keys) (map (event_seen bytes_of) c.in_ok-changes.changes.new.items)
    (dues_seen bytes_of c.in_ok-changes.changes.gone.items)
    (c.has_neighbour-is_known.ensures ∙ ap (λ (a : AuditState). has_neighbour a.upstream c.args.router.now) c.self.view_is)
    c.sides-sides.ensures (ap (λ (a : AuditState). a.due) c.self.view_is) c.requires
    (c.in_ok-machines.ensures c.has_neighbour-is_known.result) c.in_ok-changes.ensures.new c.in_ok-changes.ensures.gone).0

pub returns-clause-exact : goal.returns-clause-exact
returns-clause-exact g c =
    let bytes_of = g.F.Family.bytes_of in
    (changes_now g.F.Family.family c.args.self.now c.args.router.now c.args.touched.now c.has_neighbour-is_known.result c.sides-sides.result
    c.self.inside.dues (machines_seen bytes_of c.in_ok-machines.machines.keys) (map (event_seen bytes_of) c.in_ok-changes.changes.new.items)
    (dues_seen bytes_of c.in_ok-changes.changes.gone.items)
    (c.has_neighbour-is_known.ensures ∙ ap (λ (a : AuditState). has_neighbour a.upstream c.args.router.now) c.self.view_is)
    c.sides-sides.ensures (ap (λ (a : AuditState). a.due) c.self.view_is) c.requires
    (c.in_ok-machines.ensures c.has_neighbour-is_known.result) c.in_ok-changes.ensures.new c.in_ok-changes.ensures.gone).1
