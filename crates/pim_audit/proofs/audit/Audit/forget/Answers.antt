use Rattle.pim_audit.proofs.Words.{◌≡◌, ◌∙◌, max, sym, ap, arith, Downstream, AuditState, with_asked, without_records}
use Rattle.pim_audit.proofs.FiresOn.{stays_empty}
use Rattle.pim_audit.proofs.audit.Audit.forget.Goals as goal

pub returns-clause-forgets : goal.returns-clause-forgets
returns-clause-forgets g c =
    let begun = c.new-asked.ensures in
    let first : max 0 c.now.result ≡ c.now.result = omega arith in
    let ports = c.pass_to.ensures.ports ∙ ap (λ (a : Downstream). a.ports) begun ∙ sym c.self.invariant.port in
    let limit = c.pass_to.ensures.limit ∙ ap (λ (a : Downstream). a.limit) begun ∙ c.limit.ensures in
    let moment = c.pass_to.ensures.moment ∙ ap (λ (a : Downstream). max a.moment c.now.result) begun ∙ first ∙ c.now.ensures in
    let records = stays_empty c.now.result c.new-asked.result c.pass_to.new.asked (ap (λ (a : Downstream). a.records) begun) c.pass_to.ensures.passes in
    let same : c.pass_to.new.asked ≡ without_records c.self.inside.asked =
    λ i. record { ports = ports i; limit = limit i; moment = moment i; records = records i } in
    let before : AuditState = record {
      upstream = g.F.Family.bytes_of c.self.inside.upstream;
      grace = c.self.inside.grace;
      local = c.self.inside.local.now;
      asked = c.self.inside.asked;
      due = c.self.inside.dues;
    } in
    ap (λ (a : Downstream). with_asked before a) same ∙ ap (λ (a : AuditState). with_asked a (without_records a.asked)) c.self.view_is
