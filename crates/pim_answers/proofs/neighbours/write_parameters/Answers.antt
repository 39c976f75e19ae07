use Rattle.pim_answers.proofs.Words.{◌++◌, List, ℕ, Option, codes, option_map, subst, Appends-trans, Appends}
use Rattle.pim_answers.proofs.Words.{AppendsFront, delays_seen, number_text, delays_text, option_words}
use Rattle.pim_answers.proofs.Written.{front-longer, front-more, stopped, both}
use Rattle.pim_answers.proofs.neighbours.write_parameters.Goals as goal

pub returns-in_err-write_number-clause-bytes : goal.returns-in_err-write_number-clause-bytes
returns-in_err-write_number-clause-bytes g c =
    let s = c.args.parameters in
    let a : List ℕ = option_words (number_text (codes "holdtime ") s.holdtime) in
    let b : List ℕ = option_words (delays_text (option_map delays_seen s.lan)) in
    let d : List ℕ = option_words (number_text (codes "dr-priority ") s.priority) in
    let e : List ℕ = option_words (number_text (codes "generation ") s.generation) in
    let m0 = g.W.Drain.contents c.args.writer.now in
    let m1 = g.W.Drain.contents c.write_number.new.writer in
    let p : AppendsFront m0 m1 a = subst (λ (n : Option ℕ). AppendsFront m0 m1 (option_words (number_text (codes "holdtime ") n))) c.widened.ensures c.in_err-write_number.ensures.bytes in
    stopped m0 m1 c.from_residual.result (a ++ b ++ d ++ e) c.from_residual.ensures.0 (front-longer m0 m1 (a ++ b ++ d) e (front-longer m0 m1 (a ++ b) d (front-longer m0 m1 a b p)))

pub returns-in_err-write_delays-clause-bytes : goal.returns-in_err-write_delays-clause-bytes
returns-in_err-write_delays-clause-bytes g c =
    let s = c.args.parameters in
    let a : List ℕ = option_words (number_text (codes "holdtime ") s.holdtime) in
    let b : List ℕ = option_words (delays_text (option_map delays_seen s.lan)) in
    let d : List ℕ = option_words (number_text (codes "dr-priority ") s.priority) in
    let e : List ℕ = option_words (number_text (codes "generation ") s.generation) in
    let m0 = g.W.Drain.contents c.args.writer.now in
    let m1 = g.W.Drain.contents c.write_number.new.writer in
    let m2 = g.W.Drain.contents c.write_delays.new.writer in
    let p : Appends m0 m1 a = subst (λ (n : Option ℕ). Appends m0 m1 (option_words (number_text (codes "holdtime ") n))) c.widened.ensures c.in_ok-write_number.ensures.bytes in
    stopped m0 m2 c.from_residual-in_err-write_delays.result (a ++ b ++ d ++ e) c.from_residual-in_err-write_delays.ensures.0
    (front-longer m0 m2 (a ++ b ++ d) e (front-longer m0 m2 (a ++ b) d (front-more m0 m1 m2 a b p c.in_err-write_delays.ensures.bytes)))

pub returns-in_err-write_number-2-clause-bytes : goal.returns-in_err-write_number-2-clause-bytes
returns-in_err-write_number-2-clause-bytes g c =
    let s = c.args.parameters in
    let a : List ℕ = option_words (number_text (codes "holdtime ") s.holdtime) in
    let b : List ℕ = option_words (delays_text (option_map delays_seen s.lan)) in
    let d : List ℕ = option_words (number_text (codes "dr-priority ") s.priority) in
    let e : List ℕ = option_words (number_text (codes "generation ") s.generation) in
    let m0 = g.W.Drain.contents c.args.writer.now in
    let m1 = g.W.Drain.contents c.write_number.new.writer in
    let m2 = g.W.Drain.contents c.write_delays.new.writer in
    let m3 = g.W.Drain.contents c.write_number-2.new.writer in
    let p : Appends m0 m1 a = subst (λ (n : Option ℕ). Appends m0 m1 (option_words (number_text (codes "holdtime ") n))) c.widened.ensures c.in_ok-write_number.ensures.bytes in
    stopped m0 m3 c.from_residual-in_err-write_number-2.result (a ++ b ++ d ++ e) c.from_residual-in_err-write_number-2.ensures.0
    (front-longer m0 m3 (a ++ b ++ d) e (front-more m0 m2 m3 (a ++ b) d (Appends-trans m0 m1 m2 a b p c.in_ok-write_delays.ensures.bytes) c.in_err-write_number-2.ensures.bytes))

pub returns-clause-bytes : goal.returns-clause-bytes
returns-clause-bytes g c =
    let s = c.args.parameters in
    let a : List ℕ = option_words (number_text (codes "holdtime ") s.holdtime) in
    let b : List ℕ = option_words (delays_text (option_map delays_seen s.lan)) in
    let d : List ℕ = option_words (number_text (codes "dr-priority ") s.priority) in
    let e : List ℕ = option_words (number_text (codes "generation ") s.generation) in
    let m0 = g.W.Drain.contents c.args.writer.now in
    let m1 = g.W.Drain.contents c.write_number.new.writer in
    let m2 = g.W.Drain.contents c.write_delays.new.writer in
    let m3 = g.W.Drain.contents c.write_number-2.new.writer in
    let m4 = g.W.Drain.contents c.write_number-3.new.writer in
    let p : Appends m0 m1 a = subst (λ (n : Option ℕ). Appends m0 m1 (option_words (number_text (codes "holdtime ") n))) c.widened.ensures c.in_ok-write_number.ensures.bytes in
    both m0 m3 m4 c.write_number-3.result (a ++ b ++ d) e
    (Appends-trans m0 m2 m3 (a ++ b) d (Appends-trans m0 m1 m2 a b p c.in_ok-write_delays.ensures.bytes) c.in_ok-write_number-2.ensures.bytes) c.write_number-3.ensures.bytes
