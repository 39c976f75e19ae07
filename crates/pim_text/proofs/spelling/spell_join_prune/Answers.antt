use Rattle.std.proofs.Common.{subst, ℕ, List, arith}
use Rattle.pim_text.proofs.Written.{Writing, at_start, is_asked, is_within, one_further, too_long, at_end}
use Rattle.pim_text.proofs.spelling.spell_join_prune.Goals as goal

pub loop-line-init : goal.loop-line-init
loop-line-init g c = rw (c.into_iter-line-iterator.ensures.into_iter_gives, c.new-line-items.ensures, c.new-body.ensures.items) (at_start g.F.Family.family c.args.text.now)

pub unreachable-requires : goal.unreachable-requires
unreachable-requires g c =
    let writing = subst (λ (left : List (List ℕ)). Writing g.F.Family.family c.args.text.now left c.loop-line.expected c.loop-line.body.items) c.in-Some.ensures.steps c.loop-line.invariant in
    is_asked g.F.Family.family c.args.text.now c.in-Some.line.now c.next.new.self c.loop-line.expected c.loop-line.body.items writing c.requires.0 c.requires.1 c.in_default.ensures.only

pub push_line-requires : goal.push_line-requires
push_line-requires g c =
    let writing = subst (λ (left : List (List ℕ)). Writing g.F.Family.family c.args.text.now left c.loop-line.expected c.loop-line.body.items) c.in-Some.ensures.steps c.loop-line.invariant in
    is_within g.F.Family.family c.args.text.now c.in-Some.line.now c.next.new.self c.loop-line.expected c.loop-line.body.items writing c.requires.0 c.requires.1 c.in-Some-step.found c.in-Some-step.ensures.only

pub returns-then-len-gt-LONGEST_BODY-clause-fault : goal.returns-then-len-gt-LONGEST_BODY-clause-fault
returns-then-len-gt-LONGEST_BODY-clause-fault g c m stated =
    let writing = subst (λ (left : List (List ℕ)). Writing g.F.Family.family c.args.text.now left c.loop-line.expected c.loop-line.body.items) c.in-Some.ensures.steps c.loop-line.invariant in
    too_long g.F.Family.family c.args.text.now c.in-Some.line.now c.next.new.self c.loop-line.expected c.loop-line.body.items writing c.in-Some-step.found c.push_line.new.bytes.items c.in-Some-step.ensures.read c.in-Some-step.ensures.only c.in-Ok.ensures (omega (arith, c.if-len-gt-LONGEST_BODY.true, c.len.ensures)) m stated

pub loop-line-preserved : goal.loop-line-preserved
loop-line-preserved g c =
    let writing = subst (λ (left : List (List ℕ)). Writing g.F.Family.family c.args.text.now left c.loop-line.expected c.loop-line.body.items) c.in-Some.ensures.steps c.loop-line.invariant in
    one_further g.F.Family.family c.args.text.now c.in-Some.line.now c.next.new.self c.loop-line.expected c.loop-line.body.items writing c.in-Some-step.found c.push_line.new.bytes.items c.in-Some-step.ensures.read c.in-Some-step.ensures.only c.in-Ok.ensures (omega (arith, c.if-len-gt-LONGEST_BODY.false, c.len.ensures))

pub returns-clause-spelled : goal.returns-clause-spelled
returns-clause-spelled g c m stated =
    let writing = subst (λ (left : List (List ℕ)). Writing g.F.Family.family c.args.text.now left c.loop-line.expected c.loop-line.body.items) c.in-None.ensures.steps.0 c.loop-line.invariant in
    at_end g.F.Family.family c.args.text.now c.loop-line.expected c.loop-line.body.items writing m stated
