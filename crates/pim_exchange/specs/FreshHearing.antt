-- A fresh router with one port and one neighbour, the sender. It hears each message of the sender
-- once, at moment 0 and in order.
use Rattle.std.specs.Prelude.{◌≡◌, ℕ, zero, suc, ◌≤◌, ◌<◌, List, [], ◌∷◌, ◌++◌, length, None, Some, Result, Ok, Err}
use Rattle.pim_addr.specs.declared.family.AddressFamily.{AddressFamily}
use Rattle.pim_addr.specs.Routes.{RouteTable}
use Rattle.pim_form.specs.Messages.{Writing}
use Rattle.pim_form.specs.NormalForm.{GroupForm}
use Rattle.pim_form.specs.TooBig.{too_big}
use Rattle.pim_down.specs.Time.{Downstream}
use Rattle.pim_fresh.specs.Deliveries.{Delivery}
use Rattle.pim_mirror.specs.CanonicalMirror.{DemandsAgain}
use Rattle.pim_mirror.specs.Config.{Fresh, newest_first}
use Rattle.pim_mirror.specs.Headline.{AreMessagesOf, fresh_exchange, all_entries, first_over}
use Rattle.pim_mirror.specs.declared.mirroring.MirrorFault.{MirrorFault}
use Rattle.pim_mirror.specs.declared.mirroring.MirrorFault.TheVariants as fault
use Rattle.pim_router.specs.declared.config.PortConfig.{PortConfig}
use Rattle.pim_router.specs.Canonical.{IsDemandedBy}
use Rattle.pim_router.specs.State.{Port, RouterState}

-- The delivery of the message with this index at this moment.
abbrev pub delivered_at : ℕ → ℕ → Delivery
delivered_at moment message = record { message = message; moment = moment }

-- The deliveries of the first `count` messages, each once, at this moment and in order.
unfoldable pub each_at : ℕ → ℕ → List Delivery
each_at moment zero = []
each_at moment (suc count) = each_at moment count ++ delivered_at moment count ∷ []

-- The port to which the messages are addressed. Its delays are the defaults of RFC 7761, 4.11, in
-- milliseconds: Propagation_delay_default and t_override_default.
abbrev pub fresh_port : List ℕ → Port
fresh_port address = record { address = address; propagation = 500; override_ms = 2500 }

-- The configuration of that port.
abbrev pub fresh_config : {A : Type 0} → A → PortConfig A
fresh_config address = record { address = address; propagation = 500; override_ms = 2500 }

-- The fresh router's configuration: its port, the table, the limit on records, the sender, and the
-- deliveries of all messages.
abbrev pub fresh_of : RouteTable → Writing → ℕ → List (List ℕ) → Fresh
fresh_of table writing limit messages = record {
  ports = fresh_port writing.upstream ∷ [];
  routes = table;
  limit = limit;
  sender = writing.own;
  others = [];
  deliveries = each_at 0 (length messages);
}

module _ (family : AddressFamily) (table : RouteTable) (writing : Writing) where
  -- The writer sends these messages under this table. They are the canonical messages of the demand
  -- of some state, and each star of it fits a message.
  pub record AreSent (messages : List (List ℕ)) : Type 0 where
    pub state : Downstream
    pub demanded : AreMessagesOf family table writing state messages
    pub fitting : too_big family writing.budget demanded.form ≡ None

  -- The entries of all messages together are at most `limit`, the number of records that the port
  -- may hold.
  abbrev pub HaveRoom : ℕ → List (List ℕ) → Type 0
  HaveRoom limit messages = all_entries family table writing messages (fresh_of table writing limit messages) ≤ limit

  -- The entries of all messages are more than `limit`. `needed` is the number of entries of the
  -- messages up to the first one that passes it.
  pub record IsFull (limit : ℕ) (messages : List (List ℕ)) (needed : ℕ) : Type 0 where
    pub over : limit < all_entries family table writing messages (fresh_of table writing limit messages)
    pub first : first_over (fresh_exchange family table writing messages (fresh_of table writing limit messages)) limit
        (newest_first (fresh_of table writing limit messages)) ≡ Some needed

  -- The canonical messages of this router's demand are these and no others, under this table.
  pub record IsAgain (messages : List (List ℕ)) (router : RouterState) : Type 0 where
    pub form : List GroupForm
    pub fitting : too_big family writing.budget form ≡ None
    pub routes : router.routes ≡ table
    pub demanding : DemandsAgain family table writing form messages router.machines

  -- ---- what private steps return

  -- What the step returns that makes the fresh router and lets it hear the messages.
  abbrev pub Mirrored : ℕ → List (List ℕ) → Result RouterState MirrorFault → Type 0
  Mirrored limit messages (Ok router) = HaveRoom limit messages × IsAgain messages router
  Mirrored limit messages (Err (fault.Full needed)) = IsFull limit messages needed
  Mirrored limit messages (Err fault.Memory) = Unit {0}

  -- What the step returns that makes the messages of the fresh router. At Ok they are those that it
  -- heard.
  abbrev pub HeardAgain : ℕ → List (List ℕ) → Result (List (List ℕ)) MirrorFault → Type 0
  HeardAgain limit messages (Ok again) = HaveRoom limit messages × (again ≡ messages)
  HeardAgain limit messages (Err (fault.Full needed)) = IsFull limit messages needed
  HeardAgain limit messages (Err fault.Memory) = Unit {0}

-- What the step returns that makes the canonical messages of a router each of whose stars fits a
-- message.
abbrev pub Demands : AddressFamily → Writing → RouterState → Result (List (List ℕ)) MirrorFault → Type 0
Demands family writing router (Ok messages) = IsDemandedBy family writing router messages
Demands family writing router (Err (fault.Full needed)) = ⊥
Demands family writing router (Err fault.Memory) = Unit {0}
