-- What is known of the routers, the upstream neighbours and the RPs of messages, message by
-- message.
use Rattle.std.specs.Prelude.{ℕ, ◌+◌, min, max, nat_eq, nat_lt, Bool, false, ◌||◌, not, List, []}
use Rattle.std.specs.Prelude.{◌∷◌, length}
use Rattle.std.specs.Prelude.{Option, None, Some, if◌then◌else◌}
use Rattle.std.specs.Option.{unwrap_or, option_map}
use Rattle.pim_addr.specs.declared.family.AddressFamily.{AddressFamily}
use Rattle.pim_jp.specs.declared.entry.Entry.{Entry}
use Rattle.pim_jp.specs.declared.entry.Entry.TheVariants.{Star, Source, Rpt}
use Rattle.pim_jp.specs.Message.{GroupSet, Message}
use Rattle.pim_lines.specs.AnyAddress.{address_in}
use Rattle.pim_lines.specs.declared.either.AnyAddress.{AnyAddress}
use Rattle.pim_summary.specs.declared.facts.HelloFacts.{HelloFacts}
use Rattle.pim_summary.specs.declared.facts.RpFacts.{RpFacts}
use Rattle.pim_summary.specs.declared.facts.SentFacts.{SentFacts}
use Rattle.pim_summary.specs.declared.routers.OfSender.{OfSender}
use Rattle.pim_summary.specs.declared.routers.OfSender.TheVariants.{Hello, JoinPruneTo, Nothing}
use Rattle.pim_summary.specs.Facts.{Router, Upstream}
use Rattle.pim_summary.specs.Lists.{item_at, keeps, takes_new, listed}

-- ---- counts

-- The sum. A count stops at 2^64 - 1.
abbrev pub more : ℕ → ℕ → ℕ
more count by = min (count + by) 18446744073709551615

-- One more.
abbrev pub one_more : ℕ → ℕ
one_more count = more count 1

-- One more if this holds.
abbrev pub one_more_if : Bool → ℕ → ℕ
one_more_if holds count = if holds then one_more count else count

-- ---- bounds

-- The greatest number of routers.
abbrev pub most_routers : ℕ
most_routers = 1024

-- The greatest number of upstream neighbours, and so of those to which one router sent messages.
abbrev pub most_upstreams : ℕ
most_upstreams = 64

-- The greatest number of RPs in a list.
abbrev pub most_rps : ℕ
most_rps = 64

-- ---- routers

-- A router of which no message was counted.
abbrev pub new_router : AnyAddress → Router
new_router address = record {
  address = address;
  hellos = 0;
  last_hello = None;
  generation = None;
  restarts = 0;
  sent = [];
}

-- The Generation ID is there both times, and differs.
abbrev pub is_changed : Option ℕ → Option ℕ → Bool
is_changed (Some old) (Some new) = not (nat_eq old new)
is_changed _ _ = false

-- The last one that is there.
abbrev pub last_of : Option ℕ → Option ℕ → Option ℕ
last_of old (Some new) = Some new
last_of old None = old

-- The router after a Hello.
abbrev pub after_hello : HelloFacts → Router → Router
after_hello facts router = record router {
  hellos = one_more router.hellos;
  last_hello = Some facts;
  generation = last_of router.generation facts.generation;
  restarts = one_more_if (is_changed router.generation facts.generation) router.restarts;
}

-- The address of an upstream neighbour to which a router sent messages.
abbrev pub sent_to : SentFacts → AnyAddress
sent_to facts = facts.to

-- No messages to an upstream neighbour.
abbrev pub none_sent : AnyAddress → SentFacts
none_sent to = record { to = to; messages = 0 }

-- One message more.
abbrev pub one_sent : SentFacts → SentFacts
one_sent facts = record facts { messages = one_more facts.messages }

-- The router after a Join/Prune to an upstream neighbour that the summary keeps.
abbrev pub after_join_prune : AnyAddress → Router → Router
after_join_prune to router = record router {
  sent = listed sent_to to most_upstreams (none_sent to) one_sent router.sent;
}

-- The address of a router.
abbrev pub router_address : Router → AnyAddress
router_address router = router.address

-- What is known of a router.
abbrev pub known_router : AnyAddress → List Router → Router
known_router source routers = unwrap_or (item_at router_address source routers) (new_router source)

-- It is the first one that the router sent there.
abbrev pub is_first_to : AnyAddress → Router → Bool
is_first_to to router = takes_new sent_to to most_upstreams router.sent

-- The router after a message that says this of it.
abbrev pub router_after : OfSender → Router → Router
router_after (Hello facts) router = after_hello facts router
router_after (JoinPruneTo to) router = after_join_prune to router
router_after Nothing router = router

-- It is its first Join/Prune to an upstream neighbour.
abbrev pub is_first_by : OfSender → Router → Bool
is_first_by (Hello facts) router = false
is_first_by (JoinPruneTo to) router = is_first_to to router
is_first_by Nothing router = false

-- ---- RPs

-- No joins for an RP.
abbrev pub no_joins : AnyAddress → RpFacts
no_joins address = record { address = address; joins = 0 }

-- One join more.
abbrev pub one_joined : RpFacts → RpFacts
one_joined facts = record facts { joins = one_more facts.joins }

-- The address of an RP.
abbrev pub rp_address : RpFacts → AnyAddress
rp_address facts = facts.address

-- RPs of Joins(*,G), and whether some are above the bound.
pub record Rps : Type 0 where
  pub rps : List RpFacts
  pub has_more : Bool

-- These RPs, and whether there are more.
abbrev pub rps_seen : List RpFacts → Bool → Rps
rps_seen rps has_more = record { rps = rps; has_more = has_more }

-- One join more for this RP.
abbrev pub with_rp : AnyAddress → Rps → Rps
with_rp address known = record {
  rps = listed rp_address address most_rps (no_joins address) one_joined known.rps;
  has_more = known.has_more || not (keeps rp_address address most_rps known.rps);
}

-- The same for the RP that an entry names, if it is (*,G).
abbrev pub with_entry : AddressFamily → Entry (List ℕ) → Rps → Rps
with_entry family (Star rp) known = with_rp (address_in family rp) known
with_entry family (Source source) known = known
with_entry family (Rpt source) known = known

-- The same for several entries.
unfoldable pub with_entries : AddressFamily → List (Entry (List ℕ)) → Rps → Rps
with_entries family [] known = known
with_entries family (entry ∷ entries) known = with_entries family entries (with_entry family entry
    known)

-- The same for the joined entries of several group sets.
unfoldable pub with_sets : AddressFamily → List GroupSet → Rps → Rps
with_sets family [] known = known
with_sets family (set ∷ sets) known = with_sets family sets (with_entries family set.joined known)

-- ---- upstream neighbours

-- The number of joined entries of these group sets.
unfoldable pub joined_in : List GroupSet → ℕ
joined_in [] = 0
joined_in (set ∷ sets) = length set.joined + joined_in sets

-- The number of pruned ones.
unfoldable pub pruned_in : List GroupSet → ℕ
pruned_in [] = 0
pruned_in (set ∷ sets) = length set.pruned + pruned_in sets

-- An upstream neighbour of which no message was counted.
abbrev pub new_upstream : AnyAddress → Upstream
new_upstream address = record {
  address = address;
  messages = 0;
  senders = 0;
  joins = 0;
  prunes = 0;
  most_groups = 0;
  link = None;
  rps = [];
}

-- The address of an upstream neighbour.
abbrev pub upstream_address : Upstream → AnyAddress
upstream_address upstream = upstream.address

-- The upstream neighbour after a message, which may be the first one of its sender.
abbrev pub after_message : Bool → AddressFamily → Message → Upstream → Upstream
after_message is_first family message upstream = record upstream {
  messages = one_more upstream.messages;
  senders = one_more_if is_first upstream.senders;
  joins = more upstream.joins (joined_in message.sets);
  prunes = more upstream.prunes (pruned_in message.sets);
  most_groups = max upstream.most_groups (length message.sets);
  rps = (with_sets family message.sets (rps_seen upstream.rps false)).rps;
}

-- The RP of the two that more joins name; the first of two with as many.
abbrev pub more_joined : Option RpFacts → RpFacts → Option RpFacts
more_joined None rp = Some rp
more_joined (Some best) rp = Some (if nat_lt best.joins rp.joins then rp else best)

-- The first of these RPs that most joins name, after this one.
unfoldable pub most_joined : Option RpFacts → List RpFacts → Option RpFacts
most_joined best [] = best
most_joined best (rp ∷ rps) = most_joined (more_joined best rp) rps

-- The RP that most Joins(*,G) to an upstream neighbour name.
abbrev pub rp_of : Upstream → Option AnyAddress
rp_of upstream = option_map rp_address (most_joined None upstream.rps)
