-- What is printed of a line of an audit, as the printers say it and as the words ask for it.
use Rattle.pim_commands.proofs.Words.{◌≡◌, ℕ, true, false, List, Option, Result, map, sym, ap, subst, if◌then◌else◌, AddressFamily}
use Rattle.pim_local.specs.Joins.{Join}
use Rattle.pim_merge.specs.declared.end.End.{End}
use Rattle.pim_merge.specs.Next.{MergeState}
use Rattle.pim_router.specs.State.{RouterState}
use Rattle.pim_run.specs.declared.fault.RunFault.{RunFault}
use Rattle.pim_audit.specs.Run.{Audits, run_at_start}
use Rattle.pim_audit_events.specs.Lines.{Statement}
use Rattle.pim_audit_events.specs.declared.filter.AuditFilter.{AuditFilter}
use Rattle.pim_audit_events.specs.Filter.{filter_seen, if_shown}
use Rattle.pim_audit_lines.specs.AuditJson.{audit_json}
use Rattle.pim_audit_lines.specs.AuditText.{audit_text}
use Rattle.pim_words.specs.declared.task.Tracing.{Tracing}
use Rattle.pim_commands.specs.Auditing.{audit_selection, audit_line_of}

module _ {A : Type 0} (family : AddressFamily) (bytes_of : A → List ℕ) (names : List (List ℕ)) (files : List (List (List ℕ))) (upstream : A) (tracing : Tracing A)
    (filter : AuditFilter A) (groups : filter.groups.now ≡ tracing.groups.items) (from : filter.from ≡ tracing.from) where
  same_selection : filter_seen bytes_of filter ≡ audit_selection bytes_of tracing
  same_selection = λ i. record { groups = map bytes_of (groups i); from = from i }

  pub as_json : tracing.json ≡ true → (λ begin line. if_shown (filter_seen bytes_of filter) begin line (audit_json family names files (bytes_of upstream) begin line))
      ≡ audit_line_of family bytes_of names files upstream tracing
  as_json json = λ i begin line. if_shown (same_selection i) begin line
      (ap (λ b. if b then audit_json family names files (bytes_of upstream) begin line else audit_text family names files tracing.form (bytes_of upstream) begin line) (sym json) i)

  pub as_text : tracing.json ≡ false → (λ begin line. if_shown (filter_seen bytes_of filter) begin line (audit_text family names files tracing.form (bytes_of upstream) begin line))
      ≡ audit_line_of family bytes_of names files upstream tracing
  as_text json = λ i begin line. if_shown (same_selection i) begin line
      (ap (λ b. if b then audit_json family names files (bytes_of upstream) begin line else audit_text family names files tracing.form (bytes_of upstream) begin line) (sym json) i)

module _ {A : Type 0} (family : AddressFamily) (bytes_of : A → List ℕ) (merge merge' : MergeState) (state after : RouterState) (old new : Option (List ℕ))
    (result : Result ℕ RunFault) where
  abbrev IsAudit : List (List ℕ) → (Option ℕ → Statement → List ℕ) → End → List ℕ → ℕ → List Join → ℕ → Type 0
  IsAudit groups text end upstream grace local limit =
      Audits family bytes_of groups text end merge (run_at_start upstream grace local limit state) state old merge' after new result

  -- an audit by what the words ask
  pub as_asked : (groups groups' : List (List ℕ)) (text text' : Option ℕ → Statement → List ℕ) (end end' : End) (upstream upstream' : List ℕ)
      (grace grace' : ℕ) (local local' : List Join) (limit limit' : ℕ) → groups ≡ groups' → text ≡ text' → end ≡ end' → upstream ≡ upstream' → grace ≡ grace' → local ≡ local' → limit ≡ limit'
      → Audits family bytes_of groups text end merge (run_at_start upstream grace local limit state) state old merge' after new result
      → Audits family bytes_of groups' text' end' merge (run_at_start upstream' grace' local' limit' state) state old merge' after new result
  as_asked groups groups' text text' end end' upstream upstream' grace grace' local local' limit limit' g t e u r j l audits =
      subst (IsAudit groups' text' end' upstream' grace' local') l
      (subst (λ (x : List Join). IsAudit groups' text' end' upstream' grace' x limit) j
      (subst (λ n. IsAudit groups' text' end' upstream' n local limit) r
      (subst (λ a. IsAudit groups' text' end' a grace local limit) u
      (subst (λ (x : End). IsAudit groups' text' x upstream grace local limit) e
      (subst (λ (x : Option ℕ → Statement → List ℕ). IsAudit groups' x end upstream grace local limit) t
      (subst (λ (x : List (List ℕ)). IsAudit x text end upstream grace local limit) g audits))))))
