-- A port that hears the bytes of a change's messages.
use Rattle.pim_settling.proofs.Words.{◌≡◌, ℕ, zero, suc, true, false, cond, List, [], ◌∷◌, length, Option, None, Some}
use Rattle.pim_settling.proofs.Words.{refl, sym, ap, ◌∙◌, arith, is_some, false≢true, AddressFamily, Event, GroupForm}
use Rattle.pim_settling.proofs.Words.{same_address, group_in, ChangeUnit, written_message, grouped, run_events, run_at}
use Rattle.pim_settling.proofs.Words.{KnowRps, AreEventsOf, WrittenChangeSettles, same_text}
use Rattle.pim_form.specs.Messages.{Writing, IsRpOf, HaveRps}
use Rattle.pim_change.specs.Laws.{AreReadAsRuns, ChangeIsRead}
use Rattle.pim_settling.proofs.Courses.{Machines}
use Rattle.pim_settling.proofs.Runs.{runs_carry_the_change}
use Rattle.pim_settling.proofs.Settling.{change_settles}

-- ---- RPs

some_rp : (family : AddressFamily) (rp : Option (List ℕ)) (star : Option (List (List ℕ))) → IsRpOf family rp star → is_some star ≡ true → is_some rp ≡ true
some_rp family rp None is s = absurd (false≢true s)
some_rp family None (Some exceptions) is s = absurd is
some_rp family (Some address) (Some exceptions) is s = refl

know_rps : (family : AddressFamily) (rps : List ℕ → Option (List ℕ)) (form : List GroupForm) → HaveRps family rps form → KnowRps rps form
unfolding group_in
know_rps family rps [] have group s = absurd (false≢true s)
know_rps family rps (this ∷ form) have group s =
    elim (same_address group this.group) as (λ b. same_address group this.group ≡ b → is_some (cond b this (group_in group form)).star ≡ true → is_some (rps group) ≡ true) [
      | true ↦ λ e f. ap (λ g. is_some (rps g)) (same_text group this.group (sym e)) ∙ some_rp family (rps this.group) this.star have.0 f
      | false ↦ λ e f. know_rps family rps form have.1 group f
    ] refl s

-- ---- messages

module _ (family : AddressFamily) (writing : Writing) (rps : List ℕ → Option (List ℕ)) where
  no_run : [] ≡ run_events rps []
  unfolding grouped
  no_run = refl

  heard_as : (runs : List (List ChangeUnit)) (messages : List (List ℕ)) (events : ℕ → List Event) → AreReadAsRuns family writing rps runs messages → AreEventsOf family writing.own rps messages events
      → (number : ℕ) → events number ≡ run_events rps (run_at number runs)
  unfolding AreReadAsRuns AreEventsOf run_at
  heard_as [] [] events read are number = are number ∙ no_run
  heard_as [] (bytes ∷ messages) events read are number = absurd read
  heard_as (run ∷ runs) [] events read are number = absurd read
  heard_as (run ∷ runs) (bytes ∷ messages) events read are zero = are.0 (written_message writing rps run) read.0
  heard_as (run ∷ runs) (bytes ∷ messages) events read are (suc number) = heard_as runs messages (λ n. events (suc n)) read.1 are.1 number

  as_many : (runs : List (List ChangeUnit)) (messages : List (List ℕ)) → AreReadAsRuns family writing rps runs messages → length runs ≡ length messages
  unfolding AreReadAsRuns
  as_many [] [] read = refl
  as_many [] (bytes ∷ messages) read = absurd read
  as_many (run ∷ runs) [] read = absurd read
  as_many (run ∷ runs) (bytes ∷ messages) read = ap suc (as_many runs messages read.1)

pub written_change_settles : Machines → ChangeIsRead → WrittenChangeSettles
written_change_settles laws reads family writing rps old new messages exchange start after deliveries moment is normal_old normal_new have_old have_new reported events came sound settled hears enough =
    let read = reads family writing rps old new messages is normal_old normal_new have_old have_new reported in
    let many = as_many family writing rps read.runs messages read.read in
    change_settles laws family exchange old new start after deliveries moment sound settled
    (runs_carry_the_change laws.keys rps old new read.runs exchange deliveries read.whole (know_rps family rps old have_old) (know_rps family rps new have_new)
    (heard_as family writing rps read.runs messages exchange.messages read.read events) (λ number less. came number (omega (arith, less, many)))) hears enough
