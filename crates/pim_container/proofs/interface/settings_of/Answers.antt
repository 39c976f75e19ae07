use Rattle.std.proofs.Common.{◌≡◌, ◌+◌, length, sym, ap, ◌∙◌, arith}
use Rattle.pim_container.specs.Interface.{option_end, padded, settings_of, settings_from}
use Rattle.pim_container.proofs.Options.{read, cut, at_end, at_code}
use Rattle.pim_container.proofs.interface.settings_of.Goals as goal

pub returns-then-read_u16_at-eq0-clause-value : goal.returns-then-read_u16_at-eq0-clause-value
returns-then-read_u16_at-eq0-clause-value c =
    sym (c.loop-at.invariant.0 ∙ at_code c.args.order c.loop-at.settings c.loop-at.at c.args.bytes.now (omega arith))

pub returns-then-bytes-end-clause-value : goal.returns-then-bytes-end-clause-value
returns-then-bytes-end-clause-value c =
    sym (c.loop-at.invariant.0 ∙ cut c.args.order c.loop-at.settings c.loop-at.at c.args.bytes.now (omega arith) (omega arith) (omega arith))

pub loop-at-preserved : goal.loop-at-preserved
loop-at-preserved c =
    let end : option_end c.args.order c.loop-at.at c.args.bytes.now ≡ c.loop-at.at + 4 + padded c.from-size.result = omega arith in
    let step = read c.args.order c.loop-at.settings c.loop-at.at c.args.bytes.now (omega arith) (omega arith) (omega (arith, end)) in
    let next : settings_of c.args.order c.args.bytes.now ≡ settings_from (length c.args.bytes.now) c.args.order c.settings_with-settings.result (c.loop-at.at + 4 + padded c.from-size.result) c.args.bytes.now =
    c.loop-at.invariant.0 ∙ step
    ∙ ap (λ s. settings_from (length c.args.bytes.now) c.args.order s (option_end c.args.order c.loop-at.at c.args.bytes.now) c.args.bytes.now) (sym c.settings_with-settings.ensures.value)
    ∙ ap (λ n. settings_from (length c.args.bytes.now) c.args.order c.settings_with-settings.result n c.args.bytes.now) end in
    (next, omega arith, omega arith, c.settings_with-settings.ensures.name)

pub returns-clause-value : goal.returns-clause-value
returns-clause-value c =
    sym (c.loop-at.invariant.0 ∙ at_end c.args.order c.loop-at.settings c.loop-at.at c.args.bytes.now (omega arith))
