-- Packets that a router takes.
use Rattle.pim_answers.proofs.Words.{◌≡◌, ◌⊎◌, ℕ, ◌*◌, ◌<◌, ◌≤◌, true, false, List, [], ◌∷◌, ◌++◌, length, codes, Option, Result}
use Rattle.pim_answers.proofs.Words.{refl, ap, subst, inl, inr, arith, le-leb, lt-leb, AppendsAll, hex_bytes, IsLong}
use Rattle.pim_answers.proofs.Words.{address_bytes, AddressFamily, RouterState, verdict_line, FromText, RefusedIf, OrMemory}
use Rattle.pim_answers.proofs.Words.{OrMemoryIf, Answered, differ_from, family_words, ok_line, fault_line, Takes, NeedsMemory}
use Rattle.pim_answers.proofs.Words.{TakesText, TakesShort, IsMessageOf, AnswersPacket, AnswersFrom, lacks_port, port_words}
use Rattle.pim_answers.proofs.Words.{packet_of, packet_from, destination_of}
use Rattle.pim_request.specs.declared.command.Packet.{Packet as Arrived}
use Rattle.pim_router.specs.declared.verdict.Verdict.{Verdict}
use Rattle.pim_router.specs.Packets.{Packet, received}
use Rattle.pim_answers.specs.PacketsSeen.{has_other_family}
use Rattle.pim_answers.proofs.Wrote.{answered_text, answered_more, refused_if, passed_if}

-- the verdict is told, and the router is as after the packet
pub taken : (family : AddressFamily) (packet : Packet) (router after : RouterState) (reported : Verdict) → (reported, after) ≡ received family packet router → Takes family packet router (verdict_line reported ++ ok_line) after
taken family packet router after reported is = (ap (λ (end : Verdict × RouterState). verdict_line end.0 ++ ok_line) is, ap (λ (end : Verdict × RouterState). end.1) is)

-- a packet of these parts
abbrev pub packet_with : ℕ → List ℕ → List ℕ → List ℕ → Packet
packet_with port source destination bytes = record { port = port; source = source; destination = destination; bytes = bytes }

-- packets with equal parts are one
pub same_packet : (port port' : ℕ) (source source' destination destination' bytes bytes' : List ℕ) → port ≡ port' → source ≡ source' → destination ≡ destination' → bytes ≡ bytes' → packet_with port source destination bytes ≡ packet_with port' source' destination' bytes'
same_packet port port' source source' destination destination' bytes bytes' p q r s = cc

-- a port that isn't there, or is
pub portless : (port count : ℕ) (router : RouterState) → count ≡ length router.ports → count ≤ port → lacks_port port router ≡ true
portless port count router is out = le-leb (length router.ports) port (subst (λ (n : ℕ). n ≤ port) is out)

pub ported : (port count : ℕ) (router : RouterState) → count ≡ length router.ports → port < count → lacks_port port router ≡ false
ported port count router is within = lt-leb (length router.ports) port (subst (λ (n : ℕ). port < n) is within)

-- the bytes of digits are at most half of the digits
pub short_bytes : (hex : List ℕ) → 2 * length (hex_bytes hex) ≤ length hex
short_bytes [] = omega arith
short_bytes (digit ∷ []) = omega arith
short_bytes (high ∷ low ∷ others) = let rest = short_bytes others in omega arith

-- ---- `packet`

module _ {A E : Type 0} (family : AddressFamily) (packet : Arrived) (router : RouterState) (old new : Option (List ℕ)) (r : Result A E) where
  abbrev by_memory : List ℕ → RouterState → Type 0
  by_memory = OrMemoryIf (NeedsMemory family (packet_of packet) router) router (Takes family (packet_of packet) router)

  abbrev by_port : List ℕ → RouterState → Type 0
  by_port = RefusedIf (lacks_port packet.port router) (port_words packet.port) router by_memory

  pub packet_other : (words : List ℕ) → differ_from family (packet.source ∷ packet.destination ∷ []) ≡ true → words ≡ family_words → AppendsAll old new r (fault_line words)
      → Answered (AnswersPacket family packet router) old new r (λ _. router)
  packet_other words other is written = refused_if (differ_from family (packet.source ∷ packet.destination ∷ [])) family_words words router router by_port old new r other is refl written

  module _ (same : differ_from family (packet.source ∷ packet.destination ∷ []) ≡ false) where
    by_family : (after : RouterState) → Answered by_port old new r (λ _. after) → Answered (AnswersPacket family packet router) old new r (λ _. after)
    by_family after it = passed_if (differ_from family (packet.source ∷ packet.destination ∷ [])) family_words router by_port old new r (λ _. after) same it

    pub packet_portless : (words : List ℕ) → lacks_port packet.port router ≡ true → words ≡ port_words packet.port → AppendsAll old new r (fault_line words)
        → Answered (AnswersPacket family packet router) old new r (λ _. router)
    packet_portless words lacks is written =
        by_family router (refused_if (lacks_port packet.port router) (port_words packet.port) words router router by_memory old new r lacks is refl written)

    module _ (ported : lacks_port packet.port router ≡ false) where
      pub packet_taken : (given : Packet) (after : RouterState) → given ≡ packet_of packet → Answered (OrMemoryIf (NeedsMemory family given router) router (Takes family given router)) old new r (λ _. after)
          → Answered (AnswersPacket family packet router) old new r (λ _. after)
      packet_taken given after is it = by_family after (passed_if (lacks_port packet.port router) (port_words packet.port) router by_memory old new r (λ _. after) ported
          (subst (λ (p : Packet). Answered (OrMemoryIf (NeedsMemory family p router) router (Takes family p router)) old new r (λ _. after)) is it))

-- ---- `from`

module _ {A E : Type 0} (family : AddressFamily) (from : FromText) (router : RouterState) (old new : Option (List ℕ)) (r : Result A E) where
  abbrev of_port : List ℕ → RouterState → Type 0
  of_port = RefusedIf (lacks_port from.sender.port router) (port_words from.sender.port) router (TakesShort family from router)

  pub from_other : (words : List ℕ) → has_other_family family from ≡ true → words ≡ family_words → AppendsAll old new r (fault_line words) → Answered (AnswersFrom family from router) old new r (λ _. router)
  from_other words other is written = refused_if (has_other_family family from) family_words words router router of_port old new r other is refl written

  module _ (same : has_other_family family from ≡ false) where
    of_family : (after : RouterState) → Answered of_port old new r (λ _. after) → Answered (AnswersFrom family from router) old new r (λ _. after)
    of_family after it = passed_if (has_other_family family from) family_words router of_port old new r (λ _. after) same it

    pub from_portless : (words : List ℕ) → lacks_port from.sender.port router ≡ true → words ≡ port_words from.sender.port → AppendsAll old new r (fault_line words)
        → Answered (AnswersFrom family from router) old new r (λ _. router)
    from_portless words lacks is written =
        of_family router (refused_if (lacks_port from.sender.port router) (port_words from.sender.port) words router router (TakesShort family from router) old new r lacks is refl written)

    module _ (ported : lacks_port from.sender.port router ≡ false) where
      of_text : (after : RouterState) → Answered (TakesShort family from router) old new r (λ _. after) → Answered (AnswersFrom family from router) old new r (λ _. after)
      of_text after it = of_family after (passed_if (lacks_port from.sender.port router) (port_words from.sender.port) router (TakesShort family from router) old new r (λ _. after) ported it)

      pub from_unfilled : (words : List ℕ) → IsLong family from.text.now × (words ≡ codes "text too-long") ⊎ (words ≡ codes "memory") → AppendsAll old new r (fault_line words)
          → Answered (AnswersFrom family from router) old new r (λ _. router)
      from_unfilled words why written = of_text router (answered_text (TakesShort family from router) old new r router (fault_line words) (short why) written)
        where
          short : IsLong family from.text.now × (words ≡ codes "text too-long") ⊎ (words ≡ codes "memory") → TakesShort family from router (fault_line words) router
          short (inl (long, is)) = inl (long, (ap fault_line is, refl))
          short (inr is) = inr (inr (ap fault_line is, refl))

      pub from_taken : (message source destination : List ℕ) (given : Packet) (after : RouterState) → IsMessageOf family from.text.now source destination message → source ≡ address_bytes from.sender.source
          → destination ≡ destination_of family from.sender.destination → given ≡ packet_from family from.sender message → Answered (OrMemoryIf (NeedsMemory family given router) router (Takes family given router)) old new r (λ _. after)
          → Answered (AnswersFrom family from router) old new r (λ _. after)
      from_taken message source destination given after is s d p it =
          let reported : IsMessageOf family from.text.now (address_bytes from.sender.source) (destination_of family from.sender.destination) message =
          subst (λ (a : List ℕ). IsMessageOf family from.text.now a (destination_of family from.sender.destination) message) s
          (subst (λ (a : List ℕ). IsMessageOf family from.text.now source a message) d is) in
          of_text after (answered_more (OrMemoryIf (NeedsMemory family given router) router (Takes family given router)) (TakesShort family from router) old new r (λ _. after)
          (λ text end does. inr (more message given reported p text end does)) it)
        where
          more : (message : List ℕ) (given : Packet) → IsMessageOf family from.text.now (address_bytes from.sender.source) (destination_of family from.sender.destination) message
              → given ≡ packet_from family from.sender message → (text : List ℕ) (end : RouterState) → OrMemoryIf (NeedsMemory family given router) router (Takes family given router) text end → OrMemory router (TakesText family from router) text end
          more message given reported p text end (inl takes) = inl (message, reported, subst (λ (q : Packet). Takes family q router text end) p takes)
          more message given reported p text end (inr (needs, is, same)) = inr (is, same)
