use Rattle.pim_down.proofs.Words.{rules, source_key_of, event_seen}
use Rattle.pim_down.proofs.Listing.{stays_by}
use Rattle.pim_down.proofs.hearing.ordered.put_sources_in_key_order.Goals as goal

pub returns-clause-stable : goal.returns-clause-stable
returns-clause-stable g c = stays_by (λ event. source_key_of (event_seen g.F.Family.bytes_of event)) _ _ c.sort_by.ensures.stable (λ a r q k. search rules)
