use Rattle.pim_request.proofs.Cited.{◌≡◌, ◌∙◌, ap, refl, ◌∷◌, pieces_of, words_left, pieces_left}
use Rattle.pim_request.proofs.Prefixes.{is_prefix, no_length, no_name}
use Rattle.pim_request.proofs.slots.next_prefix.Goals as goal

pub returns-in_default-read_decimal-clause-fault : goal.returns-in_default-read_decimal-clause-fault
returns-in_default-read_decimal-clause-fault c =
    let cut : pieces_of 47 c.in-Some.cut.word.now ≡ c.cut_at-parts.result.word.now ∷ pieces_of 47 c.in-Some-left.digits.now = c.cut_at-parts.ensures ∙ ap (λ left. c.cut_at-parts.result.word.now ∷ pieces_left 47 left) c.in-Some-left.is in
    no_length c.in-Some.cut.word.now c.cut_at-parts.result.word.now c.in-Some-left.digits.now cut c.in-Some.cut.word refl
    (λ n small is. let found = c.in_default-read_decimal.ensures.only n small is in let none = c.in_default-read_decimal.is in absurd cc) c.args.command.now (words_left c.in-Some.cut.left) (words_left c.args.left) c.in-Some.ensures.word

pub returns-in-Some-read_address-clause-read : goal.returns-in-Some-read_address-clause-read
returns-in-Some-read_address-clause-read c =
    let cut : pieces_of 47 c.in-Some.cut.word.now ≡ c.cut_at-parts.result.word.now ∷ pieces_of 47 c.in-Some-left.digits.now = c.cut_at-parts.ensures ∙ ap (λ left. c.cut_at-parts.result.word.now ∷ pieces_left 47 left) c.in-Some-left.is in
    let read = c.in-Some-read_decimal.ensures.read in
    (c.cut_at-parts.result.word.now, c.in-Some.cut.word.now, c.in-Some-read_address.ensures.read, is_prefix c.in-Some.cut.word.now c.cut_at-parts.result.word.now c.in-Some-left.digits.now cut c.in-Some-read_decimal.length read.0 read.1, c.in-Some.ensures.word)

pub returns-in-None-clause-fault : goal.returns-in-None-clause-fault
returns-in-None-clause-fault c =
    let cut : pieces_of 47 c.in-Some.cut.word.now ≡ c.cut_at-parts.result.word.now ∷ pieces_of 47 c.in-Some-left.digits.now = c.cut_at-parts.ensures ∙ ap (λ left. c.cut_at-parts.result.word.now ∷ pieces_left 47 left) c.in-Some-left.is in
    let read = c.in-Some-read_decimal.ensures.read in
    no_name c.in-Some.cut.word.now c.cut_at-parts.result.word.now c.in-Some-left.digits.now cut c.in-Some.cut.word refl c.in-Some-read_decimal.length
    (is_prefix c.in-Some.cut.word.now c.cut_at-parts.result.word.now c.in-Some-left.digits.now cut c.in-Some-read_decimal.length read.0 read.1)
    (λ a compared. let found = c.in-None.ensures.only a compared in let none = c.in-None.is in absurd cc) c.args.command.now (words_left c.in-Some.cut.left) (words_left c.args.left) c.in-Some.ensures.word
