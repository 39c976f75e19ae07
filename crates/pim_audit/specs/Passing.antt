-- Time that passes for a router and for what its upstream neighbour was asked for.
use Rattle.std.specs.Prelude.{◌≡◌, ℕ, ◌≤◌, ◌<◌, Bool, ◌&&◌, not, List, Option, None, Some, max, if◌then◌else◌}
use Rattle.pim_addr.specs.declared.family.AddressFamily.{AddressFamily}
use Rattle.pim_hello.specs.Neighbours.{sooner}
use Rattle.pim_down.specs.Time.{Downstream, IsNextDue, fired}
use Rattle.pim_router.specs.Happening.{Happening, Happens, first_timeout}
use Rattle.pim_router.specs.State.{RouterState}
use Rattle.pim_audit.specs.Asked.{PassesTo}
use Rattle.pim_audit.specs.Audited.{AuditState, LooksAt, has_neighbour, with_asked, without_records, with_due}
use Rattle.pim_audit.specs.Look.{Found}

-- All that happens to the router up to the moment leads to this state.
pub record HappensTo (moment : ℕ) (router after : RouterState) : Type 0 where
  pub reported : List (ℕ × Happening)
  pub happens : Happens moment router reported after

-- The next end, from the present moment on: of a timer of the router's machines or of what was
-- asked, or of the time of a neighbour of the router. `None` is never.
pub record IsNextEnd (audit : AuditState) (router : RouterState) (next : Option ℕ) : Type 0 where
  pub of_router : Option ℕ
  pub of_asked : Option ℕ
  pub router_is_due : IsNextDue router.machines of_router
  pub asked_is_due : IsNextDue audit.asked of_asked
  pub is_next : next ≡ sooner (sooner of_router (first_timeout router.tables)) of_asked

-- No end comes by the moment.
abbrev pub IsAfter : ℕ → Option ℕ → Type 0
IsAfter moment None = Unit {0}
IsAfter moment (Some end) = moment < end

-- Time passes up to the moment, and nothing ends on the way.
pub record PassesQuietly (moment : ℕ) (audit : AuditState) (router : RouterState) (after : AuditState) (router' : RouterState)
    : Type 0 where
  pub next : Option ℕ
  pub is_next : IsNextEnd audit router next
  pub quiet : IsAfter moment next
  pub happens : HappensTo moment router router'
  pub passes : PassesTo moment audit.asked after.asked
  pub rest : after ≡ with_asked audit after.asked
  pub reached : router'.machines.moment ≡ max router.machines.moment moment

-- The upstream neighbour was a neighbour on some port, and is one on no port now.
abbrev pub is_gone : List ℕ → RouterState → RouterState → Bool
is_gone upstream before after = has_neighbour upstream before && not (has_neighbour upstream after)

-- What was asked once the neighbour is gone: nothing.
abbrev pub if_gone : Bool → Downstream → Downstream
if_gone gone asked = if gone then without_records asked else asked

-- Time passes up to the next end, at this moment `end`, which comes by `moment`. If the upstream neighbour is then gone,
-- it forgets what it was asked. Then a look finds this.
pub record PassesToEnd (family : AddressFamily) (moment end : ℕ) (audit : AuditState) (router : RouterState) (gone : Bool)
    (found : Found) (after : AuditState) (router' : RouterState) : Type 0 where
  pub is_next : IsNextEnd audit router (Some end)
  pub within : end ≤ moment
  pub asked : Downstream
  pub happens : HappensTo end router router'
  pub passes : PassesTo end audit.asked asked
  pub is_gone_now : gone ≡ is_gone audit.upstream router router'
  pub looks : LooksAt family (with_asked audit (if_gone gone asked)) router' found
  pub rest : after ≡ with_due (with_asked audit (if_gone gone asked)) found.due
  pub reached : router'.machines.moment ≡ max router.machines.moment end

-- No timer of the router's machines or of what was asked is due now.
pub record IsQuiet (audit : AuditState) (router : RouterState) : Type 0 where
  pub of_router : fired router.machines.records ≡ None
  pub of_asked : fired audit.asked.records ≡ None
