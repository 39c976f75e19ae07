use Rattle.pim_merge.proofs.Words.{◌∙◌, ◌<◌, ◌+◌, sym, ap, arith, drop, length, coming, all_known}
use Rattle.pim_merge.proofs.Words.{known_too, later_of, left_of_file}
use Rattle.pim_merge.proofs.Choosing.{no_file, next_file}
use Rattle.pim_merge.proofs.Following.{none_follow, one_follows, others_follow}
use Rattle.pim_merge.proofs.chosen.Chosen.go_on.Goals as goal

pub returns-then-len-self-clause-answer : goal.returns-then-len-self-clause-answer
returns-then-len-self-clause-answer g c bytes =
    let self = c.args.self.now in
    no_file self.is_begun self.taker (left_of_file g.R.Feed.remaining self) (all_known g.R.Feed.remaining (later_of
    self))
    (none_follow g.R.Feed.remaining self.others.items self.files_read (omega arith)) c.requires.link c.requires.reported

pub returns-clause-answer : goal.returns-clause-answer
returns-clause-answer g c bytes =
    let self = c.args.self.now in
    let device = c.index_mut.result.now in
    let below : self.files_read < length self.others.items = omega arith in
    next_file self.is_begun self.taker c.go_on.new.self (left_of_file g.R.Feed.remaining self)
    (coming g.R.Feed.remaining c.exchange.new.self) (g.R.Feed.remaining device)
    (all_known g.R.Feed.remaining (drop (self.files_read + 1) self.others.items)) _
    (all_known g.R.Feed.remaining (later_of self)) c.exchange.ensures.coming
    (others_follow g.R.Feed.remaining self.others.items self.files_read c.exchange.new.device)
    (one_follows g.R.Feed.remaining self.others.items self.files_read device below
    ∙ ap (λ d. known_too (g.R.Feed.remaining d) (all_known g.R.Feed.remaining (drop (self.files_read + 1) self.others.items)))
    (sym c.index_mut.ensures.value)) c.requires.link c.requires.reported c.go_on.ensures
