-- Whom the Join/Prune messages (RFC 7761, 4.9.5) of a capture name.
use Rattle.std.specs.Prelude.{ℕ, Bool, true, false, ◌||◌, not, List, [], ◌∷◌, replicate, cond, Option, None, Some, Result, Ok, Err}
use Rattle.std.specs.Prelude.{bytes_eq}
use Rattle.std.specs.List.{list_any}
use Rattle.pim_addr.specs.declared.family.AddressFamily.{AddressFamily}
use Rattle.pim_addr.specs.Families.{is_same}
use Rattle.pim_addr.specs.Faults.{judged}
use Rattle.pim_frame.specs.declared.frame.FrameFault.{FrameFault}
use Rattle.pim_frame.specs.Frame.{Content, hello, join_prune, other, content, frame_faults}
use Rattle.pim_jp.specs.Faults.{faults}
use Rattle.pim_jp.specs.Message.{GroupSet, Message, message_of}
use Rattle.pim_jp.specs.Spelling.{is_star}
use Rattle.pim_capture.specs.Frame.{Datagram}
use Rattle.pim_merge.specs.declared.census.Census.{Census}
use Rattle.pim_merge.specs.Slots.{added, fits, field_of}

-- The census for a router of this family with this address, before the first message.
abbrev pub no_names : AddressFamily → List ℕ → Census
no_names family own = record {
  family = family;
  own = field_of own;
  is_named = false;
  upstreams = replicate 8 None;
  has_more = false;
  groups = replicate 64 None;
}

-- ---- the message of a packet

-- The value of a result that is no fault.
abbrev pub sound : {A E : Type 0} → Result A E → Option A
sound (Ok value) = Some value
sound (Err fault) = None

-- The message of a Join/Prune body, if it has no fault.
abbrev pub body_message : AddressFamily → List ℕ → Option Message
body_message family body = sound (judged (faults family body) (message_of family body))

-- The Join/Prune message that this content is, if it is one.
abbrev pub content_message : AddressFamily → Content → Option Message
content_message family (hello body) = None
content_message family (join_prune body) = body_message family body
content_message family (other type) = None

-- The same, if the header has no fault.
abbrev pub opened_message : AddressFamily → Result Content FrameFault → Option Message
opened_message family (Ok content) = content_message family content
opened_message family (Err fault) = None

-- The Join/Prune message of a packet, if neither header nor body has a fault.
abbrev pub message_in : AddressFamily → List ℕ → List ℕ → List ℕ → Option Message
message_in family source destination payload =
    opened_message family (judged (frame_faults family source destination payload) (content payload))

-- The same, unless the router with this address sent it.
abbrev pub message_of_others : List ℕ → AddressFamily → List ℕ → List ℕ → List ℕ → Option Message
message_of_others own family source destination payload =
    cond (bytes_eq own (field_of source)) None (message_in family source destination payload)

-- ---- the names in a message

-- The group set joins (*,G).
abbrev pub joins_star : GroupSet → Bool
joins_star set = list_any is_star set.joined

-- The groups of Joins(*,G) after a group set.
abbrev pub groups_after : List (Option (List ℕ)) → GroupSet → List (Option (List ℕ))
groups_after groups set = cond (joins_star set) (added bytes_eq (field_of set.group) groups) groups

-- The same after several sets, in their order.
unfoldable pub groups_with : List GroupSet → List (Option (List ℕ)) → List (Option (List ℕ))
groups_with [] groups = groups
groups_with (set ∷ sets) groups = groups_with sets (groups_after groups set)

-- The census after a message for the own address.
abbrev pub with_own : Census → Message → Census
with_own census message = record {
  family = census.family;
  own = census.own;
  is_named = true;
  upstreams = census.upstreams;
  has_more = census.has_more;
  groups = groups_with message.sets census.groups;
}

-- The census after a message for another upstream neighbour.
abbrev pub with_other : Census → List ℕ → Census
with_other census upstream = record {
  family = census.family;
  own = census.own;
  is_named = census.is_named;
  upstreams = added bytes_eq upstream census.upstreams;
  has_more = census.has_more || not (fits bytes_eq upstream census.upstreams);
  groups = census.groups;
}

-- The census after a message, if there is one.
abbrev pub with_message : Census → Option Message → Census
with_message census None = census
with_message census (Some message) = cond (bytes_eq census.own (field_of message.upstream))
    (with_own census message) (with_other census (field_of message.upstream))

-- The census after a packet. One of the other family leaves it, and so does the router's own.
abbrev pub census_after : Census → Datagram → Census
census_after census datagram = cond (is_same census.family datagram.family)
    (with_message census (message_of_others census.own datagram.family datagram.source datagram.destination
    datagram.payload)) census
