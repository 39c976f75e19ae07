use Rattle.pim_text.proofs.Words.{◌≡◌, ◌∙◌, ap, subst, ℕ, List, map, parameters_seen, spelling_of, hello_of}
use Rattle.pim_text.proofs.Words.{SpellsHello, IsHelloFault, IsTooLong}
use Rattle.pim_text.proofs.WrittenHello.{Gathering, at_start, is_asked, is_within, one_further, at_end, if_ok_more, if_err_more}
use Rattle.pim_text.proofs.spelling_hello.spell_hello.Goals as goal

pub loop-line-init : goal.loop-line-init
loop-line-init g c = rw (c.into_iter-line-iterator.ensures.into_iter_gives, c.new-line-items.ensures, c.new-addresses.ensures.items) (at_start g.F.Family.family c.args.text.now)

pub unreachable-requires : goal.unreachable-requires
unreachable-requires g c =
    let gathering = subst (λ (left : List (List ℕ)). Gathering g.F.Family.family c.args.text.now left c.loop-line.expected (parameters_seen c.loop-line.parameters) (map g.F.Family.bytes_of c.loop-line.addresses.items)) c.in-Some.ensures.steps c.loop-line.invariant in
    is_asked g.F.Family.family c.args.text.now c.in-Some.line.now c.next.new.self c.loop-line.expected (parameters_seen c.loop-line.parameters) (map g.F.Family.bytes_of c.loop-line.addresses.items) gathering c.requires.0 c.requires.1 c.in_default.ensures.only

pub push_address-requires-clause-within : goal.push_address-requires-clause-within
push_address-requires-clause-within g c =
    let gathering = subst (λ (left : List (List ℕ)). Gathering g.F.Family.family c.args.text.now left c.loop-line.expected (parameters_seen c.loop-line.parameters) (map g.F.Family.bytes_of c.loop-line.addresses.items)) c.in-Some.ensures.steps c.loop-line.invariant in
    is_within g.F.Family.family c.args.text.now c.in-Some.line.now c.next.new.self c.loop-line.expected (parameters_seen c.loop-line.parameters) (map g.F.Family.bytes_of c.loop-line.addresses.items) gathering c.requires.0 c.requires.1 c.in-Some-step.found c.in-Some-step.ensures.only

pub loop-line-preserved : goal.loop-line-preserved
loop-line-preserved g c =
    let gathering = subst (λ (left : List (List ℕ)). Gathering g.F.Family.family c.args.text.now left c.loop-line.expected (parameters_seen c.loop-line.parameters) (map g.F.Family.bytes_of c.loop-line.addresses.items)) c.in-Some.ensures.steps c.loop-line.invariant in
    one_further g.F.Family.family c.args.text.now c.in-Some.line.now c.next.new.self c.loop-line.expected (parameters_seen c.loop-line.parameters) (map g.F.Family.bytes_of c.loop-line.addresses.items) gathering c.in-Some-step.found (parameters_seen c.with_line-parameters.result) (map g.F.Family.bytes_of c.push_address.new.addresses.items) c.in-Some-step.ensures.read c.in-Some-step.ensures.only
    c.with_line-parameters.ensures c.in-Ok.ensures.added c.in-Ok.ensures.lengths

pub returns-clause-spelled : goal.returns-clause-spelled
returns-clause-spelled g c =
    let gathering = subst (λ (left : List (List ℕ)). Gathering g.F.Family.family c.args.text.now left c.loop-line.expected (parameters_seen c.loop-line.parameters) (map g.F.Family.bytes_of c.loop-line.addresses.items)) c.in-None.ensures.steps.0 c.loop-line.invariant in
    if_ok_more c.write_hello.result
    (λ body. body.items ≡ spelling_of g.F.Family.family (hello_of (parameters_seen c.loop-line.parameters) (map g.F.Family.bytes_of c.deref.result.now)))
    (λ body. SpellsHello g.F.Family.family c.args.text.now body.items)
    c.write_hello.ensures.spelled
    (λ body is hello stated. is
    ∙ (ap (λ items. spelling_of g.F.Family.family (hello_of (parameters_seen c.loop-line.parameters) (map g.F.Family.bytes_of items))) c.deref.ensures.value
    ∙ ap (spelling_of g.F.Family.family) (at_end g.F.Family.family c.args.text.now c.loop-line.expected (parameters_seen c.loop-line.parameters) (map g.F.Family.bytes_of c.loop-line.addresses.items) gathering hello stated)))

pub returns-clause-fault : goal.returns-clause-fault
returns-clause-fault g c =
    let gathering = subst (λ (left : List (List ℕ)). Gathering g.F.Family.family c.args.text.now left c.loop-line.expected (parameters_seen c.loop-line.parameters) (map g.F.Family.bytes_of c.loop-line.addresses.items)) c.in-None.ensures.steps.0 c.loop-line.invariant in
    if_err_more c.write_hello.result
    (IsTooLong g.F.Family.family (hello_of (parameters_seen c.loop-line.parameters) (map g.F.Family.bytes_of c.deref.result.now)))
    (IsHelloFault g.F.Family.family c.args.text.now)
    c.write_hello.ensures.fault
    (λ fault is hello stated. subst (λ h. IsTooLong g.F.Family.family h fault)
    (ap (λ items. hello_of (parameters_seen c.loop-line.parameters) (map g.F.Family.bytes_of items)) c.deref.ensures.value ∙ at_end g.F.Family.family c.args.text.now c.loop-line.expected (parameters_seen c.loop-line.parameters) (map g.F.Family.bytes_of c.loop-line.addresses.items) gathering hello stated) is)
