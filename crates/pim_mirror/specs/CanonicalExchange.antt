-- Canonical Join/Prune messages as an exchange that a port hears (RFC 7761, 4.5 and 4.9.5), and the
-- machines that they name. An exchange is read from the bytes of the messages, so it is what a
-- receiver has.
use Rattle.std.specs.Prelude.{◌≡◌, ℕ, ◌<◌, true, List, [], ◌∷◌, map, slice_index_or, Option}
use Rattle.pim_addr.specs.declared.family.AddressFamily.{AddressFamily}
use Rattle.pim_frame.specs.Frame.{Content, hello, join_prune, other, content}
use Rattle.pim_jp.specs.Message.{Message, message_of}
use Rattle.pim_down.specs.declared.machines.key.Key.{Key}
use Rattle.pim_down.specs.declared.machines.event.Timing.{Timing}
use Rattle.pim_down.specs.Hearing.{Event, events_of}
use Rattle.pim_form.specs.NormalForm.{GroupForm}
use Rattle.pim_form.specs.Messages.{Writing}
use Rattle.pim_form.specs.Laws.{IsReadAs}
use Rattle.pim_fresh.specs.Exchange.{Exchange, HasUnitsOnce, has_unit_of}
use Rattle.pim_mirror.specs.CanonicalUnits.{form_names}

-- The events of the message with this number; none where there is no such message.
abbrev pub events_at : (List ℕ → Option (List ℕ)) → List Message → ℕ → List Event
events_at rps messages i = slice_index_or (map (events_of rps) messages) i []

-- The body of a Join/Prune message, after the header; empty for any other type (RFC 7761, 4.9).
abbrev pub body_of : Content → List ℕ
body_of (join_prune body) = body
body_of (hello body) = []
body_of (other type) = []

-- The Join/Prune message that is read from these bytes, header included (RFC 7761, 4.9 and 4.9.5).
abbrev pub message_in : AddressFamily → List ℕ → Message
message_in family bytes = message_of family (body_of (content bytes))

-- These messages, with one holdtime in seconds, as an exchange on a port with this timing.
abbrev pub exchange_of : (List ℕ → Option (List ℕ)) → ℕ → ℕ → Timing → List Message → Exchange
exchange_of rps holdtime port timing messages = record {
  messages = events_at rps messages;
  holdtime = holdtime;
  port = port;
  timing = timing;
}

-- The messages in these byte lists, by this writer, as an exchange on a port with this timing.
abbrev pub exchange_in : AddressFamily → (List ℕ → Option (List ℕ)) → Writing → ℕ → Timing → List (List ℕ) → Exchange
exchange_in family rps writing port timing messages =
    exchange_of rps writing.holdtime port timing (map (message_in family) messages)

-- One of the first `count` messages names the machine.
pub record IsCarried (exchange : Exchange) (count : ℕ) (key : Key (List ℕ)) : Type 0 where
  pub message : ℕ
  pub within : message < count
  pub listed : has_unit_of exchange.port key (exchange.messages message) ≡ true

-- The message is one of the first `count`, and the machine is on the exchange's port and named by
-- the form.
pub record NamesOfForm (exchange : Exchange) (count : ℕ) (form : List GroupForm) (message : ℕ) (key : Key (List ℕ))
    : Type 0 where
  pub within : message < count
  pub port : key.port ≡ exchange.port
  pub listed : form_names form key.group key.what ≡ true

-- Each message announces units, and no machine is named by two messages. The machines that the
-- first `count` messages name are exactly those of the form on the port, and no other message names
-- any.
pub record CarriesForm (exchange : Exchange) (count : ℕ) (form : List GroupForm) : Type 0 where
  pub once : HasUnitsOnce exchange
  pub no_others : (message : ℕ) (key : Key (List ℕ)) →
      has_unit_of exchange.port key (exchange.messages message) ≡ true → NamesOfForm exchange count form message key
  pub all : (key : Key (List ℕ)) → key.port ≡ exchange.port → form_names form key.group key.what ≡ true →
      IsCarried exchange count key

-- ---- reading

-- Each of these byte lists, sent from this source, is read without a fault as the message at its
-- place.
unfoldable pub AreReadAs : AddressFamily → List ℕ → List (List ℕ) → List Message → Type 0
AreReadAs family source [] [] = Unit {0}
AreReadAs family source [] (said ∷ others) = ⊥
AreReadAs family source (bytes ∷ messages) [] = ⊥
AreReadAs family source (bytes ∷ messages) (said ∷ others) =
    IsReadAs family source bytes said × AreReadAs family source messages others
