use Rattle.pim_jp.proofs.Words.{◌≤◌, ◌-◌, length, drop, ap, ◌∙◌, arith, source_length, entries_of}
use Rattle.pim_jp.proofs.Walks.{entries_count, entries_passed, entries_fit}
use Rattle.pim_jp.proofs.entries.Entries.pass.Goals as goal

pub split_at-requires : goal.split_at-requires
split_at-requires g c =
    let family = g.F.Family.family in
    let count = ap length c.self.view_is in
    let all = entries_count family c.self.inside.left c.self.inside.bytes.now in
    let within : c.args.count ≤ c.self.inside.left = omega (arith, c.requires) in
    let parts = entries_fit c.self.inside.left c.args.count (c.self.inside.left - c.args.count) (source_length family) (omega arith) in
    omega (arith, c.entries_size.ensures, c.self.invariant)

pub overflow_sub-self : goal.overflow_sub-self
overflow_sub-self g c =
    let family = g.F.Family.family in
    let count = ap length c.self.view_is in
    let all = entries_count family c.self.inside.left c.self.inside.bytes.now in
    omega (arith, c.requires)

pub returns : goal.returns
returns g c =
    let family = g.F.Family.family in
    let count = ap length c.self.view_is in
    let all = entries_count family c.self.inside.left c.self.inside.bytes.now in
    let within : c.args.count ≤ c.self.inside.left = omega (arith, c.requires) in
    let left = c.self.inside.left - c.args.count in
    ap (entries_of family left) (c.split_at.ensures.back ∙ ap (λ n. drop n c.self.inside.bytes.now) c.entries_size.ensures)
    ∙ entries_passed family c.self.inside.left c.args.count left c.self.inside.bytes.now (omega arith)
    ∙ ap (drop c.args.count) c.self.view_is
