-- The words that state a command are of one of its forms.
use Rattle.pim_request.proofs.Cited.{◌≡◌, sym, subst, refl, inl, inr, ℕ, ◌≤◌, List, [], ◌∷◌, ◌++◌, map, Option, None, Some, codes}
use Rattle.pim_request.proofs.Cited.{decimal, arith, AnyAddress, PortRow, RouteRow, Packet, Sender, AnyWriting, KeptWhat}
use Rattle.pim_request.proofs.Cited.{Comparison, Command, Port, Rp, Via, Limit, Start, Run, Now, Next, State, Wants, Neighbours}
use Rattle.pim_request.proofs.Cited.{Messages, Keep, Change, Same, Reset, WordsFault, Slot, address, number, name, most, words_of}
use Rattle.pim_request.proofs.Cited.{Fits, AreOf, OneOf, usage, usages, delays_forms, destination_forms, option_forms, port_forms}
use Rattle.pim_request.proofs.Cited.{row_forms, packet_forms, sender_forms, writing_forms, kept_forms, comparison_forms}
use Rattle.pim_request.proofs.Cited.{number_forms, no_words, IsFaultAmong, IsOption, AreDelays, IsDestination, AreOptions, IsPort}
use Rattle.pim_request.proofs.Cited.{IsRow, IsPacket, IsSender, IsWriting, IsKept, IsComparison, IsNumber, HasCommand, AreCommand}
use Rattle.pim_request.proofs.Cited.{NoFaultIfStated, NoSenderFaultIfStated}
use Rattle.pim_request.specs.declared.command.Command.TheVariants.{Packet as Arrival}
use Rattle.pim_request.proofs.OneFault.{no_fault_among}

-- The words are of one of these forms.
abbrev AreOfOne : List (List Slot) → List (List ℕ) → Type 0
AreOfOne forms words = OneOf (AreOf words) forms

-- A word more in front, for a slot more in front of each form.
onto : (slot : Slot) (word : List ℕ) → Fits slot word → (words : List (List ℕ)) (forms : List (List Slot)) → AreOfOne forms words → AreOfOne (map (λ form. slot ∷ form) forms) (word ∷ words)
onto slot word fits words [] all = all
onto slot word fits words (form ∷ forms) (inl one) = inl (fits, one)
onto slot word fits words (form ∷ forms) (inr all) = inr (onto slot word fits words forms all)

again : (forms : List (List Slot)) (words others : List (List ℕ)) → words ≡ others → AreOfOne forms others → AreOfOne forms words
again forms words others same are = subst (AreOfOne forms) (sym same) are

a_number : (low high n : ℕ) → low ≤ n → n ≤ high → Fits (number low high) (decimal n)
a_number low high n least most = (n, least, most, refl)

from_zero : (n : ℕ) → 0 ≤ n
from_zero n = omega arith

of_number : (low high n : ℕ) (words : List (List ℕ)) → IsNumber low high n words → AreOfOne (number_forms low high) words
of_number low high n words (same, least, most) = again (number_forms low high) words (decimal n ∷ []) same (inl (a_number low high n least most, refl))

of_delays : (p o : ℕ) (words : List (List ℕ)) → AreDelays p o words → AreOfOne delays_forms words
of_delays p o words (inl (none, is, too)) = again delays_forms words [] none (inl refl)
of_delays p o words (inr (same, small, low)) =
    again delays_forms words (codes "delays" ∷ decimal p ∷ decimal o ∷ []) same
    (inr (inl (refl, (a_number 0 32767 p (from_zero p) small, (a_number 0 65535 o (from_zero o) low, refl)))))

of_port : (row : PortRow) (words : List (List ℕ)) → IsPort row words → AreOfOne port_forms words
of_port row words (text, others, same, names, delays) =
    again port_forms words (text ∷ others) same
    (onto address text (row.address, names) others delays_forms (of_delays row.propagation row.override_ms others delays))

of_row : (row : RouteRow) (words : List (List ℕ)) → IsRow row words → AreOfOne row_forms words
of_row row words (word, text, to, same, is, names, leads) =
    again row_forms words (word ∷ to ∷ []) same (inl ((row.prefix, text, row.length, names, is), ((row.to, leads), refl)))

of_packet : (packet : Packet) (words : List (List ℕ)) → IsPacket packet words → AreOfOne packet_forms words
of_packet packet words (source, destination, same, small, from, to, hex) =
    again packet_forms words (decimal packet.port ∷ source ∷ destination ∷ packet.hex.now ∷ []) same
    (inl (a_number 0 most packet.port (from_zero packet.port) small, ((packet.source, from), ((packet.destination, to), (hex, refl)))))

of_destination : (destination : Option AnyAddress) (words : List (List ℕ)) → IsDestination destination words → AreOfOne destination_forms words
of_destination None words none = again destination_forms words [] none (inl refl)
of_destination (Some destination) words (text, names, same) =
    again destination_forms words (codes "to" ∷ text ∷ []) same (inr (inl (refl, ((destination, names), refl))))

of_sender : (sender : Sender) (words : List (List ℕ)) → IsSender sender words → AreOfOne sender_forms words
of_sender sender words (source, others, same, small, from, destination) =
    again sender_forms words (decimal sender.port ∷ source ∷ others) same
    (onto (number 0 most) (decimal sender.port) (a_number 0 most sender.port (from_zero sender.port) small) (source ∷ others) (map (λ form. address ∷ form) destination_forms)
    (onto address source (sender.source, from) others destination_forms (of_destination sender.destination others destination)))

of_both : (h b : ℕ) (front back : List (List ℕ)) → IsOption (codes "holdtime") 99 65535 210 h front → IsOption (codes "budget") 70 65000 1460 b back → AreOfOne option_forms (front ++ back)
of_both h b front back (inl (none, is)) (inl (nor, so)) =
    again option_forms (front ++ back) [] (λ i. none i ++ nor i) (inr (inr (inl refl)))
of_both h b front back (inl (none, is)) (inr (same, low, high)) =
    again option_forms (front ++ back) (codes "budget" ∷ decimal b ∷ []) (λ i. none i ++ same i)
    (inr (inr (inr (inl (refl, (a_number 70 65000 b low high, refl))))))
of_both h b front back (inr (same, low, high)) (inl (none, is)) =
    again option_forms (front ++ back) (codes "holdtime" ∷ decimal h ∷ []) (λ i. same i ++ none i)
    (inl (refl, (a_number 99 65535 h low high, refl)))
of_both h b front back (inr (same, low, high)) (inr (too, least, most)) =
    again option_forms (front ++ back) (codes "holdtime" ∷ decimal h ∷ codes "budget" ∷ decimal b ∷ []) (λ i. same i ++ too i)
    (inr (inl (refl, (a_number 99 65535 h low high, (refl, (a_number 70 65000 b least most, refl))))))

of_options : (h b : ℕ) (words : List (List ℕ)) → AreOptions h b words → AreOfOne option_forms words
of_options h b words (front, back, same, first, second) = again option_forms words (front ++ back) same (of_both h b front back first second)

of_writing : (writing : AnyWriting) (words : List (List ℕ)) → IsWriting writing words → AreOfOne writing_forms words
of_writing writing words (upstream, own, others, same, up, mine, options) =
    again writing_forms words (upstream ∷ own ∷ others) same
    (onto address upstream (writing.upstream, up) (own ∷ others) (map (λ form. address ∷ form) option_forms)
    (onto address own (writing.own, mine) others option_forms (of_options writing.holdtime writing.budget others options)))

of_kept : (kept : KeptWhat) (words : List (List ℕ)) → IsKept kept words → AreOfOne kept_forms words
of_kept kept words (upstream, same, some, up) =
    again kept_forms words (kept.name.now ∷ upstream ∷ []) same (inl (some, ((kept.upstream, up), refl)))

of_named : (compared : Comparison) (words : List (List ℕ)) → IsComparison compared words → AreOfOne comparison_forms words
of_named compared words (others, same, some, writing) =
    again comparison_forms words (compared.name.now ∷ others) same
    (onto name compared.name.now some others writing_forms (of_writing compared.writing others writing))

-- ---- so they have no fault

module _ (line : List ℕ) (fault : WordsFault) where
  none_with : (command : List ℕ) (forms : List (List Slot)) (Is : List (List ℕ) → Type 0) → ((words : List (List ℕ)) → Is words → AreOfOne forms words)
      → ((words : List (List ℕ)) → words_of line ≡ command ∷ words → AreOfOne forms words → ⊥) → HasCommand command Is (words_of line) → ⊥
  none_with command forms Is of none (words, same, is) = none words same (of words is)

  none_alone : (command : List ℕ) → words_of line ≡ command ∷ [] → IsFaultAmong usages line fault → ((words : List (List ℕ)) → words_of line ≡ command ∷ words → AreOfOne no_words words → ⊥) → ⊥
  none_alone command same is none = none [] same (inl refl)

  pub no_fault_if_stated : (command : Command) → AreCommand (words_of line) command → IsFaultAmong usages line fault → ⊥
  no_fault_if_stated (Port row) is has = none_with (codes "port") port_forms (IsPort row) (of_port row) (λ words same are. no_fault_among usages line (codes "port") words fault same are has) is
  no_fault_if_stated (Rp row) is has = none_with (codes "rp") row_forms (IsRow row) (of_row row) (λ words same are. no_fault_among usages line (codes "rp") words fault same are has) is
  no_fault_if_stated (Via row) is has = none_with (codes "via") row_forms (IsRow row) (of_row row) (λ words same are. no_fault_among usages line (codes "via") words fault same are has) is
  no_fault_if_stated (Limit n) is has = none_with (codes "limit") (number_forms 1 100000) (IsNumber 1 100000 n) (of_number 1 100000 n) (λ words same are. no_fault_among usages line (codes "limit") words fault same are has) is
  no_fault_if_stated Start is has = none_alone (codes "start") is has (λ words same are. no_fault_among usages line (codes "start") words fault same are has)
  no_fault_if_stated (Run n) is has = none_with (codes "run") (number_forms 0 most) (IsNumber 0 most n) (of_number 0 most n) (λ words same are. no_fault_among usages line (codes "run") words fault same are has) is
  no_fault_if_stated (Arrival packet) is has = none_with (codes "packet") packet_forms (IsPacket packet) (of_packet packet) (λ words same are. no_fault_among usages line (codes "packet") words fault same are has) is
  no_fault_if_stated Now is has = none_alone (codes "now") is has (λ words same are. no_fault_among usages line (codes "now") words fault same are has)
  no_fault_if_stated Next is has = none_alone (codes "next") is has (λ words same are. no_fault_among usages line (codes "next") words fault same are has)
  no_fault_if_stated State is has = none_alone (codes "state") is has (λ words same are. no_fault_among usages line (codes "state") words fault same are has)
  no_fault_if_stated Wants is has = none_alone (codes "wants") is has (λ words same are. no_fault_among usages line (codes "wants") words fault same are has)
  no_fault_if_stated Neighbours is has = none_alone (codes "neighbours") is has (λ words same are. no_fault_among usages line (codes "neighbours") words fault same are has)
  no_fault_if_stated (Messages writing) is has = none_with (codes "messages") writing_forms (IsWriting writing) (of_writing writing) (λ words same are. no_fault_among usages line (codes "messages") words fault same are has) is
  no_fault_if_stated (Keep kept) is has = none_with (codes "keep") kept_forms (IsKept kept) (of_kept kept) (λ words same are. no_fault_among usages line (codes "keep") words fault same are has) is
  no_fault_if_stated (Change compared) is has = none_with (codes "change") comparison_forms (IsComparison compared) (of_named compared) (λ words same are. no_fault_among usages line (codes "change") words fault same are has) is
  no_fault_if_stated (Same compared) is has = none_with (codes "same") comparison_forms (IsComparison compared) (of_named compared) (λ words same are. no_fault_among usages line (codes "same") words fault same are has) is
  no_fault_if_stated Reset is has = none_alone (codes "reset") is has (λ words same are. no_fault_among usages line (codes "reset") words fault same are has)

  pub no_sender_fault : (sender : Sender) → HasCommand (codes "from") (IsSender sender) (words_of line) → IsFaultAmong (usage (codes "from") sender_forms ∷ []) line fault → ⊥
  no_sender_fault sender is has =
      none_with (codes "from") sender_forms (IsSender sender) (of_sender sender)
      (λ words same are. no_fault_among (usage (codes "from") sender_forms ∷ []) line (codes "from") words fault same are has) is

pub no_words_fault : NoFaultIfStated
no_words_fault line command fault is has = no_fault_if_stated line fault command is has

pub no_fault_of_sender : NoSenderFaultIfStated
no_fault_of_sender line sender fault is has = no_sender_fault line fault sender is has
