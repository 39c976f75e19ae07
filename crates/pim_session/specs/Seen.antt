-- What contracts of private functions see of requests.
use Rattle.std.specs.Prelude.{◌≡◌, ℕ, ◌<◌, ◌≤◌, ◌^◌, Bool, true, List, length, Result, Ok, Err}
use Rattle.pim_text.specs.Read.{IsRead}
use Rattle.pim_request.specs.declared.command.Command.{Command as AnyCommand}
use Rattle.pim_request.specs.declared.command.Command.TheVariants as of_line
use Rattle.pim_request.specs.declared.command.Sender.{Sender}
use Rattle.pim_request.specs.Forms.{IsHex}
use Rattle.pim_request.specs.Items.{line_limit}
use Rattle.pim_answers.specs.declared.fault.AnswerFault.{AnswerFault}
use Rattle.pim_session.specs.declared.request.Request.{Request}
use Rattle.pim_session.specs.declared.request.Request.TheVariants.{Command, From}
use Rattle.pim_answers.specs.Fault.{fault_words}
use Rattle.pim_session.specs.Request.{SaysWrong}

-- What is asked for, or the words of its fault.
abbrev pub request_seen : Result Request AnswerFault → Result Request (List ℕ)
request_seen (Ok request) = Ok request
request_seen (Err fault) = Err (fault_words fault)

-- The command has what the calls of a router require.
abbrev pub IsFitCommand : AnyCommand → Type 0
IsFitCommand (of_line.Packet packet) = IsHex packet.hex.now × (length packet.hex.now ≤ line_limit)
IsFitCommand (of_line.Run moment) = moment ≤ 10 ^ 15
IsFitCommand command = Unit {0}

-- The request has what the calls of a router require.
abbrev pub IsFit : Request → Type 0
IsFit (Command command) = IsFitCommand command
IsFit (From from) = length from.text.now < 2 ^ 32

-- The same, if there is a request.
abbrev pub IsFitIfAny : Result Request AnswerFault → Type 0
IsFitIfAny (Ok request) = IsFit request
IsFitIfAny (Err fault) = Unit {0}

-- What a text of these bytes asks for, which isn't too long, after a `from` line with this sender.
abbrev pub RequestsFrom : Sender → List ℕ → Bool → Result Request (List ℕ) → Type 0
RequestsFrom sender bytes is_sent (Ok (Command command)) = ⊥
RequestsFrom sender bytes is_sent (Ok (From from)) =
    (from.sender ≡ sender) × (from.text.now ≡ bytes) × (is_sent ≡ true) × IsRead bytes from.stated
RequestsFrom sender bytes is_sent (Err words) = SaysWrong bytes is_sent words
