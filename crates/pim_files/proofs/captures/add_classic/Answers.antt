use Rattle.pim_files.proofs.Words.{◌≡◌, ◌<◌, ◌++◌, [], ◌∷◌, List, length, map, Option, arith, subst, IfOk, Answer, coming_on}
use Rattle.pim_files.proofs.Opened.{classic_results}
use Rattle.pim_files.proofs.captures.add_classic.Goals as goal

pub returns-clause-coming : goal.returns-clause-coming
returns-clause-coming g c =
    let some : 0 < length c.args.readers.items = omega (arith, c.requires, c.args.readers.ok.0) in
    subst (λ (o : Option (List Answer)). IfOk c.add.result (λ _. map coming_on c.add.new.self.lanes ≡ map coming_on c.args.merge.now.lanes ++ o ∷ []))
    (classic_results g.R.Feed.remaining c.args.readers.items c.remove-reader.result some c.remove-reader.ensures.value) c.add.ensures.coming
