use Rattle.pim_answers.proofs.Words.{◌++◌, [], ◌∷◌, List, ℕ, Appends-trans, place_words, parameters_words}
use Rattle.pim_hello.specs.Kept.{parameters_seen}
use Rattle.pim_answers.proofs.Written.{front-longer, stopped, stopped_second, both}
use Rattle.pim_answers.proofs.neighbours.write_neighbour.Goals as goal

pub returns-in_err-write_place-clause-bytes : goal.returns-in_err-write_place-clause-bytes
returns-in_err-write_place-clause-bytes g c =
    let a : List ℕ = place_words g.F.Family.family c.args.port (g.F.Family.bytes_of c.args.neighbour.address) c.args.neighbour.left in
    let b : List ℕ = parameters_words (parameters_seen c.args.neighbour.parameters) in
    let m0 = g.W.Drain.contents c.args.writer.now in
    let m1 = g.W.Drain.contents c.write_place.new.writer in
    stopped m0 m1 c.from_residual.result (a ++ b ++ 10 ∷ []) c.from_residual.ensures.0 (front-longer m0 m1 (a ++ b) (10 ∷ []) (front-longer m0 m1 a b c.in_err-write_place.ensures.bytes))

pub returns-in_err-write_parameters-clause-bytes : goal.returns-in_err-write_parameters-clause-bytes
returns-in_err-write_parameters-clause-bytes g c =
    let a : List ℕ = place_words g.F.Family.family c.args.port (g.F.Family.bytes_of c.args.neighbour.address) c.args.neighbour.left in
    let b : List ℕ = parameters_words (parameters_seen c.args.neighbour.parameters) in
    let m0 = g.W.Drain.contents c.args.writer.now in
    let m1 = g.W.Drain.contents c.write_place.new.writer in
    let m2 = g.W.Drain.contents c.write_parameters.new.writer in
    stopped_second m0 m1 m2 c.from_residual-in_err-write_parameters.result a b (10 ∷ []) c.from_residual-in_err-write_parameters.ensures.0
    c.in_ok-write_place.ensures.bytes c.in_err-write_parameters.ensures.bytes

pub returns-clause-bytes : goal.returns-clause-bytes
returns-clause-bytes g c =
    let a : List ℕ = place_words g.F.Family.family c.args.port (g.F.Family.bytes_of c.args.neighbour.address) c.args.neighbour.left in
    let b : List ℕ = parameters_words (parameters_seen c.args.neighbour.parameters) in
    let m0 = g.W.Drain.contents c.args.writer.now in
    let m1 = g.W.Drain.contents c.write_place.new.writer in
    let m2 = g.W.Drain.contents c.write_parameters.new.writer in
    both m0 m2 (g.W.Drain.contents c.write_all.new.drain) c.write_all.result (a ++ b) (10 ∷ [])
    (Appends-trans m0 m1 m2 a b c.in_ok-write_place.ensures.bytes c.in_ok-write_parameters.ensures.bytes) c.write_all.ensures.bytes
