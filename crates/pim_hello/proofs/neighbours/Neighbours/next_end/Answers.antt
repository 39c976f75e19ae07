use Rattle.pim_hello.proofs.Words.{Some, ap, ◌∙◌, max, option_map}
use Rattle.pim_hello.proofs.NextEnd.{next_seen}
use Rattle.pim_hello.proofs.neighbours.Neighbours.next_end.Goals as goal

pub returns-in-None : goal.returns-in-None
returns-in-None g c =
    let s = c.self.inside in
    rw (← c.self.view_is) (ap (option_map (λ end. max end s.moment)) c.in-None.ensures ∙ next_seen g.F.Family.bytes_of s.moment s.roster.neighbours.entries)

pub returns-in-Some : goal.returns-in-Some
returns-in-Some g c =
    let s = c.self.inside in
    rw (← c.self.view_is) (ap Some c.max.ensures ∙ ap (option_map (λ end. max end s.moment)) c.in-Some.ensures ∙ next_seen g.F.Family.bytes_of s.moment s.roster.neighbours.entries)
