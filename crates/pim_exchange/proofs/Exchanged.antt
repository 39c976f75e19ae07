-- What is written of messages that a fresh router hears.
use Rattle.pim_exchange.proofs.Words.{◌≡◌, ℕ, List, Option, Err, inr, sym, subst, Appends, AddressFamily, RouteTable}
use Rattle.pim_exchange.proofs.Words.{AppendsFront, Writing, MirrorFault, messages_text, IsDemandedBy, RouterState}
use Rattle.pim_exchange.proofs.Words.{of_mirror, HeardAgain, IsFull, Judges, Exchanges, agrees_line, agreed_text}
use Rattle.std.proofs.KnownBytes.{Appends-trans}
use Rattle.pim_mirror.specs.declared.mirroring.MirrorFault.TheVariants as mirror
use Rattle.pim_exchange.proofs.Written.{front-more}

-- ---- the messages, and that those of the fresh router are these

module _ (messages wanted again : List (List ℕ)) (line : List ℕ) (same : again ≡ wanted) (judged : Judges wanted again line) (old middle new : Option (List ℕ)) (text : Appends old middle (messages_text messages)) where
  pub front_agreed : AppendsFront middle new line → AppendsFront old new (agreed_text messages)
  front_agreed front = front-more old middle new (messages_text messages) agrees_line text (subst (λ l. AppendsFront middle new l) (judged.same (sym same)) front)

  pub all_agreed : Appends middle new line → Appends old new (agreed_text messages)
  all_agreed rest = Appends-trans old middle new (messages_text messages) agrees_line text (subst (λ l. Appends middle new l) (judged.same (sym same)) rest)

-- ---- the canonical messages of a router

module _ {A : Type 0} (bytes_of : A → List ℕ) (family : AddressFamily) (table : RouteTable) (writing : Writing) (limit : ℕ) (router : RouterState) (messages : List (List ℕ)) (same : table ≡ router.routes)
    (demanded : IsDemandedBy family writing router messages) (old : Option (List ℕ)) where
  pub not_heard : (why : MirrorFault) (new : Option (List ℕ)) → HeardAgain family table writing limit messages (Err why) → Appends old new (messages_text messages)
      → Exchanges family writing limit router bytes_of old new (Err (of_mirror why))
  not_heard (mirror.Full needed) new full text =
      record { messages = messages; demanded = demanded; written = (subst (λ t. IsFull family t writing limit messages needed) same full, text) }
  not_heard mirror.Memory new full text = inr (record { messages = messages; demanded = demanded; written = text })
