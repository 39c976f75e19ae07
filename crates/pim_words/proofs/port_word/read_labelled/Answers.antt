use Rattle.pim_words.proofs.Words.{◌≡◌, arith, length, sym, ◌∙◌, err_from_is_err_and}
use Rattle.pim_words.proofs.Orders.{accepted}
use Rattle.pim_words.proofs.Labelling.{all_read, no_further, no_port, one_further, one_more}
use Rattle.pim_words.proofs.port_word.read_labelled.Goals as goal

pub returns-in_err-more : goal.returns-in_err-more
returns-in_err-more c =
    let all_names : c.len.result ≡ length c.loop-word.labelled.names.items = omega arith in
    let all_more : c.len-then-is_more.result ≡ length c.loop-word.labelled.more.items = omega arith in
    let p = err_from_is_err_and c.from_residual.result c.from_residual.ensures.1 in
    rw (p.1, p.2)
    (no_further c.args.kind c.args.is_any c.args.words.now c.loop-word.word-index _ c.loop-word-test.true c.loop-word.labelled.ports.items c.loop-word.labelled.names.items c.loop-word.labelled.more.items c.loop-word.invariant
    _ _ _ all_names all_more (sym c.is_more.ensures ∙ c.if-is_more.true) c.in_err-more.ensures)

pub returns-in_err-port_word : goal.returns-in_err-port_word
returns-in_err-port_word c =
    let p = err_from_is_err_and c.from_residual-in_err-port_word.result c.from_residual-in_err-port_word.ensures.1 in
    rw (p.1, p.2)
    (no_port c.args.kind c.args.is_any c.args.words.now c.loop-word.word-index _ c.loop-word-test.true c.loop-word.labelled.ports.items c.loop-word.labelled.names.items c.loop-word.labelled.more.items c.loop-word.invariant
    c.deref.result.now _ c.deref.ensures.value (sym c.is_more.ensures ∙ c.if-is_more.false) c.in_err-port_word.ensures)

pub loop-word-preserved-then-is_more : goal.loop-word-preserved-then-is_more
loop-word-preserved-then-is_more c =
    let all_names : c.len.result ≡ length c.loop-word.labelled.names.items = omega arith in
    let all_more : c.len-then-is_more.result ≡ length c.loop-word.labelled.more.items = omega arith in
    one_further c.args.kind c.args.is_any c.args.words.now c.loop-word.word-index _ c.loop-word-test.true c.loop-word.labelled.ports.items c.loop-word.labelled.names.items c.loop-word.labelled.more.items c.loop-word.invariant
    c.push.new.self.items c.in_ok-more.more _ _ all_names all_more (sym c.is_more.ensures ∙ c.if-is_more.true) c.in_ok-more.ensures.0 c.in_ok-more.ensures.1
    (accepted c.push.result _ _ _ c.push.ensures.items (sym c.is_err.ensures.value ∙ c.if-is_err.false))

pub loop-word-preserved : goal.loop-word-preserved
loop-word-preserved c =
    one_more c.args.kind c.args.is_any c.args.words.now c.loop-word.word-index _ c.loop-word-test.true c.loop-word.labelled.ports.items c.loop-word.labelled.names.items c.loop-word.labelled.more.items c.loop-word.invariant
    c.in_ok-port_word.port_word.port c.in_ok-port_word.port_word.name c.push-in-loop-word.new.self.items c.push-in-loop-word-2.new.self.items c.deref.result.now c.deref.ensures.value (sym c.is_more.ensures ∙ c.if-is_more.false) c.in_ok-port_word.ensures
    (accepted c.push-in-loop-word.result _ _ _ c.push-in-loop-word.ensures.items (sym c.is_err-in-loop-word.ensures.value ∙ c.if-is_err-2.false))
    (accepted c.push-in-loop-word-2.result _ _ _ c.push-in-loop-word-2.ensures.items (sym c.is_err-in-loop-word-2.ensures.value ∙ c.if-is_err-3.false))

pub returns : goal.returns
returns c =
    all_read c.args.kind c.args.is_any c.args.words.now c.loop-word.word-index c.loop-word.labelled.ports.items c.loop-word.labelled.names.items c.loop-word.labelled.more.items c.loop-word-test.false c.loop-word.invariant
