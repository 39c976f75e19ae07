-- The texts of what a router holds.
use Rattle.pim_report.proofs.Words.{◌≡◌, ◌++◌, ℕ, Bool, List, refl, flat_map, AddressFamily, RouteTable, Record, Downstream}
use Rattle.pim_report.proofs.Words.{GroupForm, record_line, moment_line, machines_text, wants_text, text_with}
use Rattle.pim_router.specs.State.{RouterState}
use Rattle.pim_report.specs.declared.state_text.Counts.{Counts}

pub machines_are : (family : AddressFamily) (machines : Downstream) (moment : ℕ) (records : List (Record (List ℕ))) → moment ≡ machines.moment → records ≡ machines.records
    → moment_line moment ++ flat_map (record_line family) records ≡ machines_text family machines
machines_are family machines moment records now held = rw (now, held) refl

pub state_is : (family : AddressFamily) (shows_via : Bool) (state : RouterState) (form : List GroupForm) (counts : Counts) (machines : Downstream) (routes : RouteTable) → machines ≡ state.machines
    → routes ≡ state.routes → machines_text family machines ++ wants_text family shows_via routes form counts ≡ text_with family shows_via state form counts
state_is family shows_via state form counts machines routes held known = rw (held, known) refl
