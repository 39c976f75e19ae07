use Rattle.pim_hello.proofs.Words.{◌<◌, ℕ, List, length, sym, ap, ◌∙◌, arith, judged, HelloFault, faults_of, hello_of}
use Rattle.pim_hello.proofs.Words.{hello_seen, over}
use Rattle.std.proofs.lemmas.Result.{err_from_is_err_and}
use Rattle.pim_hello.proofs.Parts.{parts_left, behind_shorter, read_start, read_end, keep_told, keep_said, fault_told}
use Rattle.pim_hello.proofs.hello.Hello.read.Goals as goal

pub loop-rest-init : goal.loop-rest-init
loop-rest-init g c =
    let start = read_start g.F.Family.family (hello_seen g.F.Family.family c.empty-hello.result) c.args.body.now c.empty-hello.ensures in
    record { inside = omega arith; delays_heard = start.0; said = start.1 }

pub returns-in_err-rest : goal.returns-in_err-rest
returns-in_err-rest g c =
    let p = err_from_is_err_and c.from_residual.result c.from_residual.ensures.1 in
    let some : 0 < length c.loop-rest.rest.now = grind arith in
    let value = hello_of g.F.Family.family c.args.body.now in
    let delays_heard = fault_told c.args.body.now c.loop-rest.rest.now _ value c.in_err-rest.field-0.0 some c.in_err-rest.ensures.answer in
    rw (p.1, p.2) (ap (λ (fs : List HelloFault). judged fs value) (sym c.loop-rest.invariant.delays_heard) ∙ delays_heard)

pub loop-rest-preserved : goal.loop-rest-preserved
loop-rest-preserved g c =
    let e = c.in_ok-rest.ensures.answer in
    let behind = c.in_ok-rest.ensures.behind in
    let some : 0 < length c.loop-rest.rest.now = grind arith in
    let shorter = behind_shorter c.loop-rest.rest.now some in
    let delays_heard = keep_told c.args.body.now c.loop-rest.rest.now _ _ some c.loop-rest.invariant.inside e in
    let next = hello_seen g.F.Family.family c.take_option.new.self in
    let said = keep_said g.F.Family.family (hello_seen g.F.Family.family c.loop-rest.hello) next c.args.body.now c.loop-rest.rest.now some c.loop-rest.invariant.inside e in
    record {
      inside = omega (arith, ap length behind);
      delays_heard = ap (λ (r : List ℕ). faults_of (parts_left c.args.body.now r)) behind ∙ delays_heard ∙ c.loop-rest.invariant.delays_heard;
      said = ap (λ (r : List ℕ). over g.F.Family.family next (parts_left c.args.body.now r)) behind ∙ said ∙ c.loop-rest.invariant.said;
    }

pub returns : goal.returns
returns g c = read_end g.F.Family.family (hello_seen g.F.Family.family c.loop-rest.hello) c.args.body.now c.loop-rest.rest.now (grind arith) c.loop-rest.invariant.delays_heard c.loop-rest.invariant.said
