-- The messages that have a text, with addresses of either family, and their lines in order.
use Rattle.std.specs.Prelude.{ℕ, List, [], ◌∷◌, ◌++◌, length, map, Option, Some, None}
use Rattle.std.specs.List.{flat_map}
use Rattle.pim_addr.specs.declared.family.AddressFamily.{AddressFamily}
use Rattle.pim_hello.specs.Hello.{Delays, Parameters}
use Rattle.pim_hello.specs.Hello as one_family
use Rattle.pim_jp.specs.declared.entry.Entry.{Entry}
use Rattle.pim_jp.specs.Message as one_message
use Rattle.pim_jp.specs.declared.entry.Entry.TheVariants.{Star, Source, Rpt}
use Rattle.pim_lines.specs.declared.either.AnyAddress.{AnyAddress}
use Rattle.pim_lines.specs.AnyAddress.{address_in}
use Rattle.pim_text.specs.declared.line.Line.{Line}
use Rattle.pim_text.specs.declared.line.Line.TheVariants as of_line

-- A Hello: its parameters and its secondary addresses.
pub record HelloValue : Type 0 where
  pub parameters : Parameters
  pub addresses : List AnyAddress

-- A group set: its group, its joined entries and its pruned entries.
pub record SetValue : Type 0 where
  pub group : AnyAddress
  pub joined : List (Entry AnyAddress)
  pub pruned : List (Entry AnyAddress)

-- A Join/Prune message: the upstream neighbour, the holdtime and the group sets.
pub record MessageValue : Type 0 where
  pub upstream : AnyAddress
  pub holdtime : ℕ
  pub sets : List SetValue

-- A message that has a text.
pub data TextValue : Type 0 where
  a_hello : HelloValue → TextValue
  a_message : MessageValue → TextValue

-- ---- the lines of a message

-- The line of an option, if the option is present.
abbrev pub option_line : {A : Type 0} → (A → Line) → Option A → List Line
option_line line None = []
option_line line (Some value) = line value ∷ []

-- The line of a LAN Prune Delay option.
abbrev pub delays_line_of : Delays → Line
delays_line_of d = of_line.Delays (record { t = d.t; propagation = d.propagation; override_ms = d.override_ms })

-- The lines after `hello`: the options that are present, in their order, then the addresses.
abbrev pub option_lines : HelloValue → List Line
option_lines hello =
    option_line of_line.Holdtime hello.parameters.holdtime
    ++ (option_line delays_line_of hello.parameters.lan
    ++ (option_line of_line.Priority hello.parameters.priority
    ++ (option_line of_line.Generation hello.parameters.generation ++ map of_line.Secondary hello.addresses)))

-- The lines of a group set: its own, then its joined entries, then its pruned ones.
abbrev pub set_lines : SetValue → List Line
set_lines set =
    of_line.Set (record { group = set.group; joined = length set.joined; pruned = length set.pruned })
    ∷ (map of_line.Join set.joined ++ map of_line.Prune set.pruned)

-- The lines of a message, in order.
abbrev pub value_lines : TextValue → List Line
value_lines (a_hello hello) = of_line.Hello ∷ option_lines hello
value_lines (a_message message) =
    of_line.Head (record { upstream = message.upstream; holdtime = message.holdtime; sets = length message.sets })
    ∷ flat_map set_lines message.sets

-- ---- the messages of one family

-- A Hello of this family.
abbrev pub hello_in : AddressFamily → one_family.Hello → TextValue
hello_in family hello = a_hello (record { parameters = hello.parameters; addresses = map (address_in family) hello.addresses })

-- An entry of this family.
abbrev pub entry_in : AddressFamily → Entry (List ℕ) → Entry AnyAddress
entry_in family (Star rp) = Star (address_in family rp)
entry_in family (Source source) = Source (address_in family source)
entry_in family (Rpt source) = Rpt (address_in family source)

-- A group set of this family.
abbrev pub set_in : AddressFamily → one_message.GroupSet → SetValue
set_in family set = record {
  group = address_in family set.group;
  joined = map (entry_in family) set.joined;
  pruned = map (entry_in family) set.pruned;
}

-- A Join/Prune message of this family.
abbrev pub message_in : AddressFamily → one_message.Message → TextValue
message_in family message = a_message (record {
  upstream = address_in family message.upstream;
  holdtime = message.holdtime;
  sets = map (set_in family) message.sets;
})
