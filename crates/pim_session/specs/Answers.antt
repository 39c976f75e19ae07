-- The answer to each request, by the state of the session.
use Rattle.std.specs.Prelude.{◌≡◌, ℕ, List, codes, Result, Ok, Err}
use Rattle.pim_addr.specs.declared.family.AddressFamily.{AddressFamily}
use Rattle.pim_request.specs.declared.command.Command.{Command as AnyCommand}
use Rattle.pim_request.specs.declared.command.Command.TheVariants.{Port, Rp, Via, Limit, Start, Run}
use Rattle.pim_request.specs.declared.command.Command.TheVariants.{Packet, Now, Next, State, Wants}
use Rattle.pim_request.specs.declared.command.Command.TheVariants.{Neighbours, Messages, Keep}
use Rattle.pim_request.specs.declared.command.Command.TheVariants.{Change, Same, Reset}
use Rattle.pim_router.specs.State.{RouterState}
use Rattle.pim_session.specs.declared.request.Request.{Request}
use Rattle.pim_session.specs.declared.request.Request.TheVariants.{Command, From}
use Rattle.pim_answers.specs.Answered.{Refused}
use Rattle.pim_answers.specs.Demanding.{AnswersMessages, AnswersKeep, AnswersChange, AnswersSame}
use Rattle.pim_session.specs.Gathering.{AddsPort, AddsRp, AddsVia, Starts, with_limit}
use Rattle.pim_answers.specs.Answered.{Done}
use Rattle.pim_answers.specs.Lines.{fault_line}
use Rattle.pim_answers.specs.Packets.{AnswersPacket, AnswersFrom}
use Rattle.pim_answers.specs.Running.{AnswersRun}
use Rattle.pim_session.specs.State.{Gathered, Phase, gathering, serving, Session, nothing_gathered}
use Rattle.pim_answers.specs.Kept.{Kept}
use Rattle.pim_answers.specs.Reports.{AnswersNow, AnswersNext, AnswersState, AnswersWants, AnswersNeighbours}

-- The session in this phase, where this is kept.
abbrev pub session_in : Phase → List Kept → Session
session_in phase kept = record { phase = phase; kept = kept }

-- ---- before `start`

-- A command that asks for a router is refused.
abbrev pub NotStarted : Gathered → List ℕ → Gathered → Type 0
NotStarted gathered = Refused (codes "not started") gathered

-- A command other than `start`.
abbrev pub Gathers : AnyCommand → Gathered → List ℕ → Gathered → Type 0
Gathers (Port row) gathered = AddsPort row gathered
Gathers (Rp row) gathered = AddsRp row gathered
Gathers (Via row) gathered = AddsVia row gathered
Gathers (Limit limit) gathered = Done (with_limit limit gathered)
Gathers Reset gathered = Done nothing_gathered
Gathers other gathered = NotStarted gathered

-- A request that leaves the session before `start`.
abbrev pub Gathering : (Gathered → List ℕ → Gathered → Type 0) → Gathered → List Kept → List ℕ →
    Session → Type 0
Gathering Answer gathered kept text after =
    (end : Gathered) × Answer gathered text end × (after ≡ session_in (gathering end) kept)

-- `start`
abbrev pub Starting : Gathered → List Kept → List ℕ → Session → Type 0
Starting gathered kept text after =
    (phase : Phase) × Starts gathered.family gathered text phase × (after ≡ session_in phase kept)

-- A request before `start`.
abbrev pub AnswersBefore : Request → Gathered → List Kept → List ℕ → Session → Type 0
AnswersBefore (From from) gathered kept = Gathering NotStarted gathered kept
AnswersBefore (Command Start) gathered kept = Starting gathered kept
AnswersBefore (Command command) gathered kept = Gathering (Gathers command) gathered kept

-- ---- after `start`

-- A command that reports on the router, and changes nothing. One that gathers is refused.
abbrev pub Reports : AddressFamily → AnyCommand → RouterState → List Kept → List ℕ → Type 0
Reports family Now router kept = AnswersNow router
Reports family Next router kept = AnswersNext router
Reports family State router kept = AnswersState family router
Reports family Wants router kept = AnswersWants family router
Reports family Neighbours router kept = AnswersNeighbours family router
Reports family (Messages writing) router kept = AnswersMessages family writing router
Reports family (Change comparison) router kept = AnswersChange family comparison router kept
Reports family (Same comparison) router kept = AnswersSame family comparison router kept
Reports family other router kept = λ (text : List ℕ). text ≡ fault_line (codes "started")

-- A command other than `reset`: the router and what is kept after it.
abbrev pub Serves : AddressFamily → AnyCommand → RouterState × List Kept → List ℕ →
    RouterState × List Kept → Type 0
Serves family (Run moment) (router, kept) text (router', kept') =
    AnswersRun family moment router text router' × (kept' ≡ kept)
Serves family (Packet packet) (router, kept) text (router', kept') =
    AnswersPacket family packet router text router' × (kept' ≡ kept)
Serves family (Keep keeping) (router, kept) text (router', kept') =
    AnswersKeep family keeping router kept text kept' × (router' ≡ router)
Serves family other (router, kept) text after =
    Reports family other router kept text × (after ≡ (router, kept))

-- A request that leaves the router in the session.
abbrev pub Serving : AddressFamily → (RouterState × List Kept → List ℕ → RouterState × List Kept →
    Type 0) →
    RouterState × List Kept → List ℕ → Session → Type 0
Serving family Answer state text after = (end : RouterState × List Kept) × Answer state text end
    × (after ≡ session_in (serving family end.0) end.1)

-- A request after `start`.
abbrev pub AnswersAfter : AddressFamily → Request → RouterState × List Kept → List ℕ → Session →
    Type 0
AnswersAfter family (Command Reset) state = Done (session_in (gathering nothing_gathered) state.1)
AnswersAfter family (Command command) state = Serving family (Serves family command) state
AnswersAfter family (From from) state = Serving family
    (λ (begin : RouterState × List Kept) (text : List ℕ) (end : RouterState × List Kept).
    AnswersFrom family from begin.0 text end.0 × (end.1 ≡ begin.1)) state

-- ---- in each phase

-- A request in this phase.
abbrev pub AnswersIn : Phase → List Kept → Request → List ℕ → Session → Type 0
AnswersIn (gathering gathered) kept request = AnswersBefore request gathered kept
AnswersIn (serving family router) kept request = AnswersAfter family request (router, kept)

-- What is asked for is answered by this text, and this is the session after it. A fault that
-- depends on no state changes nothing.
abbrev pub Answers : Session → Result Request (List ℕ) → List ℕ → Session → Type 0
Answers session (Ok request) = AnswersIn session.phase session.kept request
Answers session (Err words) = Refused words session
