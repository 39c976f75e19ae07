-- A summary of a capture, event by event.
use Rattle.std.specs.Prelude.{◌≡◌, ℕ, suc, ◌==◌, min, max, nat_lt, Bool, true, false, ◌&&◌, ◌||◌}
use Rattle.std.specs.Prelude.{not, List, [], ◌∷◌}
use Rattle.std.specs.Prelude.{Option, None, Some, Result, Ok, Err, if◌then◌else◌}
use Rattle.std.specs.Option.{unwrap_or}
use Rattle.pim_capture.specs.declared.event.Why.{Why}
use Rattle.pim_capture.specs.declared.event.Why.TheVariants as why
use Rattle.pim_capture.specs.declared.incomplete.RecordPlace.{RecordPlace}
use Rattle.pim_capture.specs.declared.interface.InterfaceChoice.{InterfaceChoice}
use Rattle.pim_capture.specs.declared.interface.InterfaceChoice.TheVariants.{Number, Name}
use Rattle.pim_capture.specs.declared.link.Link.{Link}
use Rattle.pim_capture.specs.Capture.{EventSeen, packet, skipped, ended}
use Rattle.pim_capture.specs.Frame.{Datagram}
use Rattle.pim_capture.specs.Names.{is_same_name}
use Rattle.pim_addr.specs.declared.family.AddressFamily.{AddressFamily}
use Rattle.pim_jp.specs.Message.{Message}
use Rattle.pim_lines.specs.AnyAddress.{address_in}
use Rattle.pim_lines.specs.declared.either.AnyAddress.{AnyAddress}
use Rattle.pim_summary.specs.declared.facts.FirstMalformed.{FirstMalformed}
use Rattle.pim_summary.specs.declared.facts.LinkFacts.{LinkFacts}
use Rattle.pim_summary.specs.declared.facts.Malformed.{Malformed}
use Rattle.pim_summary.specs.declared.facts.SkippedFacts.{SkippedFacts}
use Rattle.pim_summary.specs.declared.routers.OfSender.{OfSender}
use Rattle.pim_summary.specs.declared.routers.OfSender.TheVariants.{Hello, JoinPruneTo, Nothing}
use Rattle.pim_summary.specs.Facts.{Router, Upstream, Summary}
use Rattle.pim_summary.specs.Lists.{has, keeps, put, listed}
use Rattle.pim_summary.specs.Messages.{Said, hello, join_prune, nothing, said_in}
use Rattle.pim_summary.specs.Routers.{one_more, most_routers, most_upstreams, new_router}
use Rattle.pim_summary.specs.Routers.{router_after, is_first_by, Rps, rps_seen, with_sets}
use Rattle.pim_summary.specs.Routers.{new_upstream, after_message}
use Rattle.pim_summary.specs.Routers.{router_address, known_router, upstream_address}

-- ---- before the first event

abbrev pub none_skipped : SkippedFacts
none_skipped = record {
  cut = 0;
  not_ip = 0;
  bad_header = 0;
  not_pim = 0;
  fragment = 0;
  no_time = 0;
  link_type = 0;
  not_chosen = 0;
  copy = 0;
  cut_short = 0;
}

-- The summary of no events.
abbrev pub no_summary : Summary
no_summary = record {
  place = record { file = 0; «record» = 1 };
  records = 0;
  earliest = None;
  latest = None;
  messages = 0;
  malformed = 0;
  first_malformed = None;
  links = [];
  has_more_links = false;
  routers = [];
  has_more_routers = false;
  upstreams = [];
  has_more_upstreams = false;
  rps = [];
  has_more_rps = false;
  skipped = none_skipped;
  after_message = false;
  after_upstream = None;
}

-- ---- records

-- The earliest time, after a record with this time.
abbrev pub earlier : Option ℕ → Option ℕ → Option ℕ
earlier first None = first
earlier None (Some time) = Some time
earlier (Some first) (Some time) = Some (min first time)

-- The latest one.
abbrev pub later : Option ℕ → Option ℕ → Option ℕ
later last None = last
later None (Some time) = Some time
later (Some last) (Some time) = Some (max last time)

-- The place of the record after this one in its file.
abbrev pub next_place : RecordPlace → RecordPlace
next_place place = record { file = place.file; «record» = one_more place.«record» }

-- The place of the first record of the next file.
abbrev pub first_place : RecordPlace → RecordPlace
first_place place = record { file = one_more place.file; «record» = 1 }

-- The summary after a record with this time.
abbrev pub with_record : Option ℕ → Summary → Summary
with_record time summary = record summary {
  place = next_place summary.place;
  records = one_more summary.records;
  earliest = earlier summary.earliest time;
  latest = later summary.latest time;
}

-- ---- messages

-- The upstream neighbour that a Join/Prune names.
abbrev pub named_by : AddressFamily → Message → AnyAddress
named_by family message = address_in family message.upstream

-- The summary after a message of this sender, of whom this is known after it.
abbrev pub with_sender : AnyAddress → (Router → Router) → Summary → Summary
with_sender source change summary = record summary {
  messages = one_more summary.messages;
  routers = listed router_address source most_routers (new_router source) change summary.routers;
  has_more_routers = summary.has_more_routers || not (keeps router_address source most_routers
      summary.routers);
  after_message = true;
  after_upstream = None;
}

-- The summary keeps this upstream neighbour.
abbrev pub keeps_upstream : AnyAddress → Summary → Bool
keeps_upstream to summary = keeps upstream_address to most_upstreams summary.upstreams

-- What a Join/Prune to this upstream neighbour says of its sender.
abbrev pub said_to : AnyAddress → List Upstream → OfSender
said_to to upstreams = if keeps upstream_address to most_upstreams upstreams then JoinPruneTo to
    else Nothing

-- The sender is kept, and this is its first Join/Prune to an upstream neighbour that is kept.
abbrev pub is_first_of : AnyAddress → AnyAddress → Summary → Bool
is_first_of source to summary = keeps router_address source most_routers summary.routers
    && is_first_by (said_to to summary.upstreams) (known_router source summary.routers)

-- The RPs of a summary after the group sets of a message.
abbrev pub summary_rps : AddressFamily → Message → Summary → Rps
summary_rps family message summary =
    with_sets family message.sets (rps_seen summary.rps summary.has_more_rps)

-- The summary after the upstream neighbour and the RPs of a Join/Prune.
abbrev pub with_join_prune : Bool → AddressFamily → Message → Summary → Summary
with_join_prune is_first family message summary = record summary {
  upstreams = listed upstream_address (named_by family message) most_upstreams (new_upstream
      (named_by family message))
      (after_message is_first family message) summary.upstreams;
  has_more_upstreams = summary.has_more_upstreams || not (keeps_upstream (named_by family message)
      summary);
  rps = (summary_rps family message summary).rps;
  has_more_rps = (summary_rps family message summary).has_more;
  after_upstream = Some (named_by family message);
}

-- The summary after a message of this source.
abbrev pub with_message : AnyAddress → Said → Summary → Summary
with_message source (hello facts) summary = with_sender source (router_after (Hello facts)) summary
with_message source (join_prune family message) summary =
    with_join_prune (is_first_of source (named_by family message) summary) family message
    (with_sender source (router_after (said_to (named_by family message) summary.upstreams))
    summary)
with_message source nothing summary = with_sender source (router_after Nothing) summary

-- The first of the messages with a fault, after one more.
abbrev pub first_of : Option FirstMalformed → RecordPlace → Malformed → Option FirstMalformed
first_of (Some first) place fault = Some first
first_of None place fault = Some (record { place = place; fault = fault })

-- No packet is right before the next event.
abbrev pub without_packet : Summary → Summary
without_packet summary = record summary { after_message = false; after_upstream = None }

-- The summary after a message with this first fault.
abbrev pub with_fault : Malformed → Summary → Summary
with_fault fault summary = record summary {
  malformed = one_more summary.malformed;
  first_malformed = first_of summary.first_malformed summary.place fault;
  after_message = false;
  after_upstream = None;
}

-- The summary after a message of this source, or after one with a fault.
abbrev pub with_reading : AnyAddress → Result Said Malformed → Summary → Summary
with_reading source (Ok said) summary = with_message source said summary
with_reading source (Err fault) summary = with_fault fault summary

-- The summary after the message of a packet.
abbrev pub with_packet : Datagram → Summary → Summary
with_packet datagram summary = with_reading (address_in datagram.family datagram.source)
    (said_in datagram.family datagram.source datagram.destination datagram.payload) summary

-- ---- links

-- Two interfaces are chosen by the same word.
abbrev pub same_interface : InterfaceChoice → InterfaceChoice → Bool
same_interface (Number one) (Number other) = one == other
same_interface (Name one) (Name other) = is_same_name one other
same_interface _ _ = false

-- Two links are the same.
abbrev pub same_link : Link → Link → Bool
same_link one other = one.vlan.outer == other.vlan.outer && (one.vlan.inner == other.vlan.inner
    && same_interface one.interface other.interface)

-- The greatest number of links.
abbrev pub most_links : ℕ
most_links = 16

-- The number of links before this one.
unfoldable pub link_place : Link → List LinkFacts → ℕ
link_place link [] = 0
link_place link (facts ∷ others) = if same_link link facts.link then 0 else suc (link_place link
    others)

-- The links have this one, or room for it.
abbrev pub keeps_link : Link → List LinkFacts → Bool
keeps_link link links = nat_lt (link_place link links) most_links

-- The links with one message more of this one. A new one is the last.
unfoldable pub with_link : Link → List LinkFacts → List LinkFacts
with_link link [] = record { link = link; messages = 1 } ∷ []
with_link link (facts ∷ others) =
    if same_link link facts.link then record facts { messages = one_more facts.messages } ∷ others
    else facts ∷ with_link link others

-- The upstream neighbour with this link, unless it has one.
abbrev pub linked : Link → Upstream → Upstream
linked link upstream = record upstream { link = Some (unwrap_or upstream.link link) }

-- The upstream neighbours after the link of a message to this one.
abbrev pub upstreams_linked : Option AnyAddress → Link → List Upstream → List Upstream
upstreams_linked None link upstreams = upstreams
upstreams_linked (Some to) link upstreams =
    if has upstream_address to upstreams
    then put upstream_address to (new_upstream to) (linked link) upstreams else upstreams

-- The summary after the link of the message before.
abbrev pub with_link_of : Link → Summary → Summary
with_link_of link summary = record summary {
  links = if keeps_link link summary.links then with_link link summary.links else summary.links;
  has_more_links = summary.has_more_links || not (keeps_link link summary.links);
  upstreams = upstreams_linked summary.after_upstream link summary.upstreams;
  after_message = false;
}

-- The summary after the link of the packet before, which counts if that is a message.
abbrev pub with_packet_link : Link → Summary → Summary
with_packet_link link summary = if summary.after_message then with_link_of link summary else summary

-- ---- skipped records

-- The time of a record that is skipped for this reason, if it has one that counts.
abbrev pub skipped_time : Why → ℕ → Option ℕ
skipped_time why.NoTime time = None
skipped_time (why.NotChosen link) time = None
skipped_time why.Copy time = None
skipped_time why.CutShort time = None
skipped_time _ time = Some time

-- The numbers of skipped records after one more.
abbrev pub skipped_with : Why → SkippedFacts → SkippedFacts
skipped_with why.Cut facts = record facts { cut = one_more facts.cut }
skipped_with why.NotIp facts = record facts { not_ip = one_more facts.not_ip }
skipped_with why.BadHeader facts = record facts { bad_header = one_more facts.bad_header }
skipped_with why.NotPim facts = record facts { not_pim = one_more facts.not_pim }
skipped_with why.Fragment facts = record facts { fragment = one_more facts.fragment }
skipped_with why.NoTime facts = record facts { no_time = one_more facts.no_time }
skipped_with (why.LinkType number) facts = record facts { link_type = one_more facts.link_type }
skipped_with (why.NotChosen link) facts = record facts { not_chosen = one_more facts.not_chosen }
skipped_with why.Copy facts = record facts { copy = one_more facts.copy }
skipped_with why.CutShort facts = record facts { cut_short = one_more facts.cut_short }
skipped_with _ facts = facts

-- The summary after a record that is skipped for this reason.
abbrev pub with_skipped_record : Why → ℕ → Summary → Summary
with_skipped_record why time summary =
    with_record (skipped_time why time) (without_packet (record summary {
      skipped = skipped_with
          why summary.skipped;
    }))

-- The summary at the beginning of the next file.
abbrev pub with_next_file : Summary → Summary
with_next_file summary = without_packet (record summary { place = first_place summary.place })

-- The summary after such a record, or after an event that is no record.
abbrev pub with_skipped : Why → ℕ → Summary → Summary
with_skipped why.NextFile time summary = with_next_file summary
with_skipped (why.OfLink link) time summary = with_packet_link link summary
with_skipped (why.Incomplete packets) time summary = summary
with_skipped why time summary = with_skipped_record why time summary

-- ---- events

-- The summary after an event.
abbrev pub summary_after : Summary → EventSeen → Summary
summary_after summary (packet time bytes datagram) = with_record (Some time) (with_packet datagram
    summary)
summary_after summary (skipped time why) = with_skipped why time summary
summary_after summary ended = summary

-- A call that may be refused memory: at Ok the summary is this one, at Err the old one.
abbrev pub Counts : {E : Type 0} → Result (Unit {0}) E → Summary → Summary → Summary → Type 0
Counts (Ok _) old new after = new ≡ after
Counts (Err _) old new after = new ≡ old
