-- A task whose addresses are of one family, compared to the same task with addresses of either
-- family.
use Rattle.std.specs.Prelude.{◌≡◌, ℕ, List, option_map, map}
use Rattle.pim_addr.specs.declared.family.AddressFamily.{AddressFamily}
use Rattle.pim_addr.specs.declared.family.AddressFamily.TheVariants.{Ipv4, Ipv6}
use Rattle.pim_lines.specs.declared.either.AnyAddress.{AnyAddress}
use Rattle.pim_lines.specs.AnyAddress.{address_in}
use Rattle.pim_words.specs.declared.task.Auditing.{Auditing}
use Rattle.pim_words.specs.declared.task.Captures.{Captures}
use Rattle.pim_words.specs.declared.task.Port.{Port}
use Rattle.pim_words.specs.declared.task.Tracing.{Tracing}
use Rattle.pim_words.specs.declared.task.Writing.{Writing}
use Rattle.pim_words.specs.declared.task.CommandPlan.{CommandPlan}
use Rattle.pim_words.specs.declared.task.CommandPlan.TheVariants.{V4, V6, Session}
use Rattle.pim_words.specs.declared.task.Task.{Task}
use Rattle.pim_words.specs.declared.task.Task.TheVariants.{Check, CheckPartial, Build, Replay, Trace, Audit, Same, Mirror, Emit, Change}

module _ {A : Type 0} (family : AddressFamily) (bytes_of : A → List ℕ) where
  -- An address of the family, as one of either family.
  abbrev pub address_seen : A → AnyAddress
  address_seen address = address_in family (bytes_of address)

  -- A port of the family, with an address of either family.
  abbrev pub port_seen : Port A → Port AnyAddress
  port_seen port = record {
    side = port.side;
    address = address_seen port.address;
    file = port.file;
    word = port.word;
    link = port.link;
  }

  -- The two have the same RP, file of routes, limit, times, ports and further files.
  pub record SameCaptures (typed : Captures A) (captures : Captures AnyAddress) : Type 0 where
    pub rp : option_map address_seen typed.rp ≡ captures.rp
    pub routes : typed.routes ≡ captures.routes
    pub limit : typed.limit ≡ captures.limit
    pub after : typed.after_ms ≡ captures.after_ms
    pub at : typed.at ≡ captures.at
    pub ports : map port_seen typed.ports.items ≡ captures.ports.items
    pub more : typed.more.items ≡ captures.more.items

  -- The two show the same: the time from which they show, groups, sources, form, all or not, the
  -- state at the end or not, JSON or not, and names.
  pub record SameTracing (typed : Tracing A) (tracing : Tracing AnyAddress) : Type 0 where
    pub from : typed.from ≡ tracing.from
    pub groups : map address_seen typed.groups.items ≡ tracing.groups.items
    pub sources : map address_seen typed.sources.items ≡ tracing.sources.items
    pub form : typed.form ≡ tracing.form
    pub all : typed.all ≡ tracing.all
    pub state : typed.state ≡ tracing.state
    pub json : typed.json ≡ tracing.json
    pub names : typed.names.items ≡ tracing.names.items

  -- The two have the same upstream neighbour, file of local joins and grace.
  pub record SameAuditing (typed : Auditing A) (auditing : Auditing AnyAddress) : Type 0 where
    pub upstream : address_seen typed.upstream ≡ auditing.upstream
    pub local : typed.local ≡ auditing.local
    pub grace : typed.grace_ms ≡ auditing.grace_ms

  -- The two have the same addresses, holdtime and budget.
  pub record SameWriting (typed : Writing A) (writing : Writing AnyAddress) : Type 0 where
    pub upstream : address_seen typed.upstream ≡ writing.upstream
    pub own : address_seen typed.own ≡ writing.own
    pub holdtime : typed.holdtime ≡ writing.holdtime
    pub budget : typed.budget ≡ writing.budget

  -- The two tasks are the same.
  abbrev pub SameTask : Task A → Task AnyAddress → Type 0
  SameTask (Check source destination) (Check from to) =
      (address_seen source ≡ from) × (address_seen destination ≡ to)
  SameTask (CheckPartial source destination) (CheckPartial from to) =
      (address_seen source ≡ from) × (address_seen destination ≡ to)
  SameTask (Build source destination) (Build from to) =
      (address_seen source ≡ from) × (address_seen destination ≡ to)
  SameTask (Replay typed) (Replay captures) = SameCaptures typed captures
  SameTask (Trace typed how) (Trace captures tracing) = SameCaptures typed captures × SameTracing how tracing
  SameTask (Audit typed whom how) (Audit captures auditing tracing) =
      SameCaptures typed captures × SameAuditing whom auditing × SameTracing how tracing
  SameTask (Same typed how) (Same captures writing) = SameCaptures typed captures × SameWriting how writing
  SameTask (Mirror typed how) (Mirror captures writing) = SameCaptures typed captures × SameWriting how writing
  SameTask (Emit typed how) (Emit captures writing) = SameCaptures typed captures × SameWriting how writing
  SameTask (Change typed how) (Change captures writing) = SameCaptures typed captures × SameWriting how writing
  SameTask typed task = ⊥

-- The plan is this task, with all its addresses of one family.
abbrev pub IsPlanFor : CommandPlan → Task AnyAddress → Type 0
IsPlanFor (V4 typed) task = SameTask Ipv4 (λ address. address) typed task
IsPlanFor (V6 typed) task = SameTask Ipv6 (λ address. address) typed task
IsPlanFor Session task = ⊥
