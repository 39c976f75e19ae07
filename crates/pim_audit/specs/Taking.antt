-- A message that a port of the router takes, and what it does to what the upstream neighbour was
-- asked for.
use Rattle.std.specs.Prelude.{◌≡◌, ℕ, ◌≤◌, ◌<◌, nat_eq, Bool, true, false, if◌then◌else◌, List, Option, None, Some}
use Rattle.std.specs.Cmp.Lexicographic.{pointwise}
use Rattle.pim_addr.specs.declared.family.AddressFamily.{AddressFamily}
use Rattle.pim_addr.specs.Routes.{rp_of}
use Rattle.pim_hello.specs.declared.heard.Heard.TheVariants as hello
use Rattle.pim_jp.specs.Message.{Message}
use Rattle.pim_down.specs.Heard.{needed_for}
use Rattle.pim_router.specs.declared.verdict.Verdict.{Verdict}
use Rattle.pim_router.specs.declared.verdict.Verdict.TheVariants.{HelloTaken}
use Rattle.pim_router.specs.Reading.{Reading, read_message, read_received}
use Rattle.pim_router.specs.State.{RouterState}
use Rattle.pim_audit.specs.declared.taking.Effect.{Effect}
use Rattle.pim_audit.specs.declared.taking.Effect.TheVariants.{Unchanged, Heard, Full, Restarted, Gone}
use Rattle.pim_audit.specs.Asked.{AskedBy}
use Rattle.pim_audit.specs.Audited.{AuditState, has_neighbour, is_heard, with_asked, without_records}

-- What a Hello of the upstream neighbour says of what it was asked: it lost that when it restarted,
-- and when it is gone, unless it is still a neighbour on another port (RFC 7761, 4.3.1).
abbrev pub lost_by : Verdict → Bool → Option Effect
lost_by (HelloTaken hello.Restarted) still = Some Restarted
lost_by (HelloTaken hello.Gone) still = if still then None else Some Gone
lost_by _ still = None

-- The same of a message from any source, by its verdict and the router after it.
abbrev pub lost : List ℕ → AuditState → Verdict → RouterState → Option Effect
lost source audit verdict router =
    if pointwise nat_eq source audit.upstream then lost_by verdict (has_neighbour audit.upstream router) else None

-- The upstream neighbour hears a Join/Prune message, or refuses it whole, since it needs more
-- records than the limit. `known` gives RP(G) of each group.
abbrev pub HearsOrRefuses : Message → (List ℕ → Option (List ℕ)) → AuditState → Effect → AuditState → Type 0
HearsOrRefuses message known audit Heard after =
    (needed_for 0 message known audit.asked ≤ audit.asked.limit)
    × AskedBy message known audit.asked after.asked × (after ≡ with_asked audit after.asked)
HearsOrRefuses message known audit (Full needed) after =
    (audit.asked.limit < needed) × (needed ≡ needed_for 0 message known audit.asked) × (after ≡ audit)
HearsOrRefuses message known audit _ after = ⊥

-- It does so if it hears the message at all.
abbrev pub HearsIf : Bool → Message → (List ℕ → Option (List ℕ)) → AuditState → Effect → AuditState → Type 0
HearsIf true message known audit effect after = HearsOrRefuses message known audit effect after
HearsIf false message known audit effect after = (effect ≡ Unchanged) × (after ≡ audit)

module _ (family : AddressFamily) (port : ℕ) (source : List ℕ) (audit : AuditState) (router : RouterState) (effect : Effect)
    (after : AuditState) where
  -- What a message does that says of nothing lost, by what it reads as.
  abbrev pub IsAsked : Reading → Type 0
  IsAsked (read_message message) =
      HearsIf (is_heard port source message audit router) message (rp_of family router.routes) audit effect after
  IsAsked _ = (effect ≡ Unchanged) × (after ≡ audit)

  -- What a message does, by what it says of what was lost.
  abbrev pub IsTakenBy : Option Effect → Reading → Type 0
  IsTakenBy (Some said) reading = (effect ≡ said) × (after ≡ with_asked audit (without_records audit.asked))
  IsTakenBy None reading = IsAsked reading

-- A port of the router takes a message from this source, and the audit follows.
pub record TakesMessage (family : AddressFamily) (port : ℕ) (source : List ℕ) (reading : Reading) (audit : AuditState) (router : RouterState)
    (effect : Effect) (after : AuditState) (router' : RouterState) : Type 0 where
  pub verdict : Verdict
  pub received : (verdict, router') ≡ read_received family port source router reading
  pub taken : IsTakenBy family port source audit router effect after (lost source audit verdict router') reading
