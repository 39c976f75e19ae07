-- Engines that ran, and what is returned of them.
use Rattle.pim_commands.proofs.Words.{◌≡◌, inr, refl, subst, ℕ, List, Result, Ok, Err, AddressFamily, ExchangeFault}
use Rattle.pim_commands.proofs.Words.{failures_of_exchange, PortFiles, RouterState, Fault, answer_of, Runs, of_replayed}
use Rattle.pim_commands.proofs.Words.{of_traced, writer_causes, IsFirstCause, IsWriterOf}
use Rattle.pim_form.specs.Messages.{Writing}
use Rattle.pim_form.specs.Writer.{has_bad_address}
use Rattle.pim_run.specs.declared.fault.RunFault.{RunFault}
use Rattle.pim_run.specs.Faults.{failures_of_device}

-- an engine ran
pub ran : {A S P : Type 0} (causes : List Fault) (Unmade : Type 0) (Ran : S → Result ℕ (ExchangeFault A) → Type 0) (ports others : List (PortFiles P)) (family : AddressFamily) (bytes_of : A → List ℕ)
    (after : S) (reported : Result ℕ (ExchangeFault A)) (result : Result ℕ Fault) → Ran after reported → result ≡ answer_of ports others family bytes_of reported
    → Runs causes Unmade Ran (answer_of ports others family bytes_of) result
ran causes Unmade Ran ports others family bytes_of after (Ok status) result is answer =
    rw (answer) (record { after = after; reported = Ok status; ran = is; answered = refl })
ran causes Unmade Ran ports others family bytes_of after (Err fault) result is answer =
    rw (answer) (inr (record { after = after; reported = Err fault; ran = is; answered = refl }))

-- there is no writer
pub not_written : (family : AddressFamily) (writing : Writing) (fault : Fault) → IsWriterOf family writing (Err fault) → IsFirstCause (writer_causes (has_bad_address family writing)) fault
not_written family writing fault is = rw (is.0, is.1) refl

-- ---- the device's failures

pub failures_replayed : (A : Type 0) (before : ℕ) (reported : Result ℕ RunFault) → failures_of_device before reported ≡ failures_of_exchange before (of_replayed {A = A} reported)
failures_replayed A before (Ok status) = refl
failures_replayed A before (Err fault) = refl

pub failures_traced : (A : Type 0) (before : ℕ) (reported : Result (Unit {0}) RunFault) → failures_of_device before reported ≡ failures_of_exchange before (of_traced {A = A} reported)
failures_traced A before (Ok done) = refl
failures_traced A before (Err fault) = refl

-- ---- what was made, in place of what was asked for

pub as_made : (Is : Writing → RouterState → RouterState → Type 0) (by writing : Writing) (a new_a b new_b : RouterState) → by ≡ writing → a ≡ new_a → b ≡ new_b → Is by a b → Is writing new_a new_b
as_made Is by writing a new_a b new_b same same_a same_b is =
    subst (λ (w : Writing). Is w new_a new_b) same (subst (λ (s : RouterState). Is by s new_b) same_a (subst (λ (s : RouterState). Is by a s) same_b is))
