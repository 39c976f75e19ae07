-- What one step of time did, by what it returns.
use Rattle.std.specs.Prelude.{◌≡◌, ◌≤◌, ℕ, max, List, [], ◌∷◌, ◌++◌}
use Rattle.pim_addr.specs.declared.family.AddressFamily.{AddressFamily}
use Rattle.pim_router.specs.State.{RouterState}
use Rattle.pim_audit.specs.declared.passing.Ended.{Ended as EndedOf}
use Rattle.pim_audit.specs.declared.passing.Passed.{Passed}
use Rattle.pim_audit.specs.declared.passing.Passed.TheVariants.{Reached, Ended}
use Rattle.pim_audit.specs.Audited.{AuditState}
use Rattle.pim_audit.specs.Passing.{PassesQuietly, PassesToEnd}
use Rattle.pim_audit.specs.Seen.{report_seen}

-- Nothing ended up to the moment, or time passed up to the next end, and a look followed.
abbrev pub PassesStep : {A : Type 0} → AddressFamily → (A → List ℕ) → ℕ → AuditState → RouterState → Passed A → AuditState →
    RouterState → Type 0
PassesStep family bytes_of moment audit router Reached after router' =
    PassesQuietly moment audit router after router'
PassesStep family bytes_of moment audit router (Ended ended) after router' =
    PassesToEnd family moment ended.moment audit router ended.is_gone (report_seen bytes_of after.due ended.report) after router'

-- The moment to which a step of time leads a router: this moment, or an end that comes by it.
abbrev pub ReachesBy : {A : Type 0} → ℕ → RouterState → RouterState → Passed A → Type 0
ReachesBy moment router router' Reached = router'.machines.moment ≡ max router.machines.moment moment
ReachesBy moment router router' (Ended ended) = router'.machines.moment ≤ max router.machines.moment moment

-- Time passes from end to end, one step after the other, and then up to the moment.
unfoldable pub PassesThrough : {A : Type 0} → AddressFamily → (A → List ℕ) → ℕ → List (EndedOf A) → AuditState → RouterState →
    AuditState → RouterState → Type 0
PassesThrough family bytes_of moment [] audit router after router' =
    PassesStep family bytes_of moment audit router Reached after router'
PassesThrough family bytes_of moment (ended ∷ others) audit router after router' =
    (middle : AuditState) × (between : RouterState)
    × PassesStep family bytes_of moment audit router (Ended ended) middle between
    × PassesThrough family bytes_of moment others middle between after router'

-- Time passes up to the moment, and these ends are added to the list.
pub record PassesAll {A : Type 0} (family : AddressFamily) (bytes_of : A → List ℕ) (moment : ℕ) (before : List (EndedOf A))
    (audit : AuditState) (router : RouterState) (now : List (EndedOf A)) (after : AuditState) (router' : RouterState) : Type 0 where
  pub ends : List (EndedOf A)
  pub added : now ≡ before ++ ends
  pub through : PassesThrough family bytes_of moment ends audit router after router'
