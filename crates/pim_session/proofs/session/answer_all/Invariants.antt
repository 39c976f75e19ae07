use Rattle.pim_session.proofs.Words.{◌≡◌, IfSome, items_of, store_seen, session_in, gathered_seen, gathering, GoesOn}
use Rattle.pim_session.proofs.session.answer_all.Given as goal

-- some items were answered, and there is no router
abbrev pub invariant-items : goal.invariant-items
invariant-items g l = record {
  way : IfSome l.fn.items.coming (λ bytes. GoesOn (session_in (gathering (gathered_seen l.fn.setup)) (store_seen l.fn.store)) (items_of bytes) (g.W.Drain.contents l.fn.answers) (g.W.Drain.contents l.answers)
      l.items.coming (session_in (gathering (gathered_seen l.setup)) (store_seen l.store)));
  reads : l.items.failures ≡ l.fn.items.failures;
  failures : g.W.Drain.failures l.answers ≡ g.W.Drain.failures l.fn.answers;
}

-- each item leaves less
abbrev pub decreases-items : goal.decreases-items
decreases-items g l = l.items.left
