use Rattle.pim_session.proofs.Words.{◌≡◌, ◌≤◌, IfSome, items_of, store_seen, session_in, family_in, state_in, serving, GoesOn}
use Rattle.pim_session.proofs.serving.serve.Given as goal

-- some items were answered, and the router is still there
abbrev pub invariant-items : goal.invariant-items
invariant-items g l = record {
  way : IfSome l.fn.items.coming (λ bytes. GoesOn (session_in (serving (family_in l.fn.router) (state_in l.fn.router)) (store_seen l.fn.store)) (items_of bytes)
      (g.W.Drain.contents l.fn.answers) (g.W.Drain.contents l.answers) l.items.coming (session_in (serving (family_in l.router) (state_in l.router)) (store_seen l.store)));
  left : l.items.left ≤ l.fn.items.left;
  reads : l.items.failures ≡ l.fn.items.failures;
  failures : g.W.Drain.failures l.answers ≡ g.W.Drain.failures l.fn.answers;
}

-- each item leaves less
abbrev pub decreases-items : goal.decreases-items
decreases-items g l = l.items.left
