use Rattle.pim_session.proofs.Words.{ℕ, List, Some, sym, subst, Ipv4, Ipv6, done_text, AnyRows, rows_seen, any_seen, Adds}
use Rattle.pim_session.proofs.Adding.{more_added}
use Rattle.pim_session.proofs.setup.Setup.add.Goals as goal

pub returns-in-Ipv4 : goal.returns-in-Ipv4
returns-in-Ipv4 c =
    let limit : ℕ = c.args.self.now.limit in
    subst (λ (r : AnyRows). Adds c.args.row.now (any_seen limit r) (done_text c.add.result) (rows_seen (λ (a : List ℕ). a) (Some Ipv4) limit c.add.new.self)) (sym c.in-Ipv4.is)
    (more_added Ipv4 (λ (a : List ℕ). a) c.args.row.now c.in-Ipv4.rows c.add.new.self c.add.result c.add.ensures limit)

pub returns-in-Ipv6 : goal.returns-in-Ipv6
returns-in-Ipv6 c =
    let limit : ℕ = c.args.self.now.limit in
    subst (λ (r : AnyRows). Adds c.args.row.now (any_seen limit r) (done_text c.add-in-Ipv6.result) (rows_seen (λ (a : List ℕ). a) (Some Ipv6) limit c.add-in-Ipv6.new.self)) (sym c.in-Ipv6.is)
    (more_added Ipv6 (λ (a : List ℕ). a) c.args.row.now c.in-Ipv6.rows c.add-in-Ipv6.new.self c.add-in-Ipv6.result c.add-in-Ipv6.ensures limit)
