use Rattle.pim_commands.proofs.Words.{◌∙◌, ap, subst, ℕ, List, end_of, line_of, TracesAsAsked}
use Rattle.pim_commands.proofs.Traced.{as_json, as_text}
use Rattle.pim_commands.proofs.tracing.trace_by.Goals as goal

pub returns-then-tracing-clause-events : goal.returns-then-tracing-clause-events
returns-then-tracing-clause-events g c =
    subst (λ line. TracesAsAsked c.args.requested.1.now.state line g.F.Family.family (end_of c.args.requested.0.now) c.args.merge.now c.trace_on.new.merge c.args.router.now c.trace_on.new.router
    (g.W.Drain.contents c.args.writer.now) (g.W.Drain.contents c.trace_on.new.writer) c.trace_on.result)
    (as_json g.F.Family.family g.F.Family.bytes_of c.deref.result.now c.deref-then-tracing.result.now c.args.requested.1.now c.filter_of-filter.result
    c.filter_of-filter.ensures.all c.filter_of-filter.ensures.groups c.filter_of-filter.ensures.sources c.filter_of-filter.ensures.from c.if-tracing.true
    ∙ ap (λ (ports : List (List ℕ)). line_of g.F.Family.family g.F.Family.bytes_of ports c.deref-then-tracing.result.now c.args.requested.1.now) c.deref.ensures.value
    ∙ ap (λ (files : List (List (List ℕ))). line_of g.F.Family.family g.F.Family.bytes_of c.args.names.now.ports.items files c.args.requested.1.now) c.deref-then-tracing.ensures.value)
    c.trace_on.ensures.events

pub returns-clause-events : goal.returns-clause-events
returns-clause-events g c =
    subst (λ line. TracesAsAsked c.args.requested.1.now.state line g.F.Family.family (end_of c.args.requested.0.now) c.args.merge.now c.trace_on-2.new.merge c.args.router.now c.trace_on-2.new.router
    (g.W.Drain.contents c.args.writer.now) (g.W.Drain.contents c.trace_on-2.new.writer) c.trace_on-2.result)
    (as_text g.F.Family.family g.F.Family.bytes_of c.deref-2.result.now c.deref-3.result.now c.args.requested.1.now c.filter_of-filter.result
    c.filter_of-filter.ensures.all c.filter_of-filter.ensures.groups c.filter_of-filter.ensures.sources c.filter_of-filter.ensures.from c.if-tracing.false
    ∙ ap (λ (ports : List (List ℕ)). line_of g.F.Family.family g.F.Family.bytes_of ports c.deref-3.result.now c.args.requested.1.now) c.deref-2.ensures.value
    ∙ ap (λ (files : List (List (List ℕ))). line_of g.F.Family.family g.F.Family.bytes_of c.args.names.now.ports.items files c.args.requested.1.now) c.deref-3.ensures.value)
    c.trace_on-2.ensures.events
