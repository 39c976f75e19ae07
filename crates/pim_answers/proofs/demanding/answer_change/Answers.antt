use Rattle.pim_answers.proofs.Words.{subst, Option, SaysChange, fault_words, Kept, IsFound}
use Rattle.pim_answers.proofs.Makings.{named_other, named_unknown, named_badly, named_told}
use Rattle.pim_answers.proofs.demanding.answer_change.Goals as goal

pub returns-in_default-clause-reported : goal.returns-in_default-clause-reported
returns-in_default-clause-reported g c kept is =
    named_other g.F.Family.family c.args.command.now c.args.router.now (λ writer. SaysChange g.F.Family.family writer c.args.router.now) (g.W.Drain.contents c.args.answers.now) (g.W.Drain.contents c.write_fault.new.answers) c.write_fault.result kept
    (fault_words c.family.result) c.in_default.ensures.other c.family.ensures c.write_fault.ensures.bytes

pub returns-then-not-is_known-clause-reported : goal.returns-then-not-is_known-clause-reported
returns-then-not-is_known-clause-reported g c kept is =
    named_unknown g.F.Family.family c.args.command.now c.args.router.now (λ writer. SaysChange g.F.Family.family writer c.args.router.now) (g.W.Drain.contents c.args.answers.now) (g.W.Drain.contents c.write_fault-then-not-is_known.new.answers) c.write_fault-then-not-is_known.result kept
    c.in-Some.ensures.same (fault_words c.with_name.result) (c.if-not-is_known.ensures c.args.command.now.name.now kept is) c.with_name.ensures c.write_fault-then-not-is_known.ensures.bytes

pub returns-in-Ok-clause-reported : goal.returns-in-Ok-clause-reported
returns-in-Ok-clause-reported g c kept is =
    named_told g.F.Family.family c.args.command.now c.args.router.now (λ writer. SaysChange g.F.Family.family writer c.args.router.now) (g.W.Drain.contents c.args.answers.now) (g.W.Drain.contents c.change_found.new.answers) c.change_found.result kept
    c.in-Ok.writer c.in-Some.ensures.same (c.if-not-is_known.ensures c.args.command.now.name.now kept is) c.in-Ok.ensures.0 c.in-Ok.ensures.1
    (λ known here. c.change_found.ensures.reported c.args.command.now.name.now known
    (subst (λ (k : Option Kept). IsFound g.F.Family.family g.F.Family.bytes_of c.args.command.now.name.now c.args.found.now k) here is))

pub returns-in-Err-clause-reported : goal.returns-in-Err-clause-reported
returns-in-Err-clause-reported g c kept is =
    named_badly g.F.Family.family c.args.command.now c.args.router.now (λ writer. SaysChange g.F.Family.family writer c.args.router.now) (g.W.Drain.contents c.args.answers.now) (g.W.Drain.contents c.write_fault-in-Err.new.answers) c.write_fault-in-Err.result kept
    c.in-Some.ensures.same c.in-Err.fault (c.if-not-is_known.ensures c.args.command.now.name.now kept is) c.in-Err.ensures c.write_fault-in-Err.ensures.bytes
