-- A Hello that the audited router itself sent (RFC 7761, 4.3.1).
use Rattle.std.specs.Prelude.{ℕ, nat_eq, if◌then◌else◌, List, Option, None, Some}
use Rattle.std.specs.Cmp.Lexicographic.{pointwise}
use Rattle.std.specs.Option.{option_eq}
use Rattle.pim_capture.specs.declared.incomplete.RecordPlace.{RecordPlace}
use Rattle.pim_events.specs.declared.event.OwnRestart.{OwnRestart}
use Rattle.pim_router.specs.Packets.{own_address}
use Rattle.pim_router.specs.Reading.{Reading, read_hello}
use Rattle.pim_router.specs.State.{RouterState}
use Rattle.pim_trace.specs.Ledger.{Ledger, with_own}

-- The Generation ID of a Hello, if it has one, where the message is a Hello of the port's own
-- address.
abbrev pub own_generation : ℕ → RouterState → List ℕ → Reading → Option (Option ℕ)
own_generation port router source (read_hello hello) =
    if pointwise nat_eq source (own_address port router) then Some hello.parameters.generation else None
own_generation port router source other = None

-- The restart of which such a Hello says, in the record at this place: it has another Generation ID
-- than the Hello before it, if there was one.
abbrev pub own_restart : RecordPlace → Option (Option ℕ) → Option (Option ℕ) → Option OwnRestart
own_restart frame before None = None
own_restart frame None (Some generation) = None
own_restart frame (Some was) (Some generation) = if option_eq nat_eq was generation then None
    else Some (record { frame = frame; was = was; generation = generation })

-- What is remembered after such a Hello.
abbrev pub after_own : ℕ → Option (Option ℕ) → Ledger → Ledger
after_own port None ledger = ledger
after_own port (Some generation) ledger = with_own port generation ledger
