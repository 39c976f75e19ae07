use Rattle.pim_hello.proofs.Words.{◌∷◌, subst, IfSome, ComesTo}
use Rattle.pim_hello.proofs.GreatestDelays.{in_its_place}
use Rattle.pim_hello.proofs.delays_heard.known_with.Goals as goal
use Rattle.pim_hello.proofs.delays_heard.known_with.Goals.{in-Some+else-not-is_no_less, in_default}

pub returns-clause-known : goal.returns-clause-known
returns-clause-known c = elim c.match-known.branch [
  | in-Some+else-not-is_no_less w ↦ rw w.in-Some.is (λ before hello hellos k l h. in_its_place c.with.result c.args.lan w.in-Some.kept.parameters.lan before hello hellos
      (w.if-not-is_no_less.ensures {u = tt}).first (w.if-not-is_no_less.ensures {u = tt}).both k l
      (c.with.ensures hello (before ∷ hellos) l (subst (λ delays_heard. IfSome delays_heard (λ delays_heard. ComesTo delays_heard (before ∷ hellos))) c.in_ok-delays_heard.was h)))
  | in_default w ↦ rw w.in_default.is tt
]
