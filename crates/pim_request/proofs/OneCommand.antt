-- A line states at most one command.
use Rattle.pim_request.proofs.Cited.{◌≡◌, ◌∙◌, sym, ap, subst, refl, inl, inr, ℕ, suc, ◌≤◌, false, List, [], ◌∷◌, ◌++◌, Option}
use Rattle.pim_request.proofs.Cited.{None, Some, codes, decimal, eqb, arith, if◌then◌else◌, bytes_eq, eqb-false}
use Rattle.pim_request.proofs.Cited.{decimal_injective, AnyAddress, Names, PortRow, RouteRow, Packet, Sender, AnyWriting}
use Rattle.pim_request.proofs.Cited.{KeptWhat, Comparison, Command, Port, Rp, Via, Limit, Start, Run, Now, Next, State, Wants}
use Rattle.pim_request.proofs.Cited.{Neighbours, Messages, Keep, Change, Same, Reset, most, words_of, pieces_of, Usage, usages}
use Rattle.pim_request.proofs.Cited.{IsOption, AreDelays, IsDestination, AreOptions, IsPort, IsRow, IsPacket, IsSender, IsWriting}
use Rattle.pim_request.proofs.Cited.{IsKept, IsComparison, IsNumber, HasCommand, AreCommand, SamePacket, SameKept, SameComparison}
use Rattle.pim_request.proofs.Cited.{SameCommand, OneCommand, OneSender}
use Rattle.pim_text.specs.OneReading.{OneName}
use Rattle.pim_request.specs.declared.command.Command.TheVariants.{Packet as Arrival}

-- ---- numbers

one_number : (limit m n : ℕ) → limit ≤ most → m ≤ limit → n ≤ limit → decimal m ≡ decimal n → m ≡ n
one_number limit m n fits first second same = decimal_injective m n (omega (arith, fits, first)) (omega (arith, fits, second)) same

number_of : (low high m n : ℕ) (words : List (List ℕ)) → high ≤ most → IsNumber low high m words → IsNumber low high n words → m ≡ n
number_of low high m n words fits is too =
    let both : decimal m ∷ [] ≡ decimal n ∷ [] = sym is.0 ∙ too.0 in
    let same : decimal m ≡ decimal n = cc in
    one_number high m n fits is.2 too.2 same

-- ---- optional words

one_option : (word : List ℕ) (low high default m n : ℕ) (words : List (List ℕ)) → high ≤ most → IsOption word low high default m words → IsOption word low high default n words → m ≡ n
one_option word low high default m n words fits (inl (none, is)) (inl (nor, so)) = is ∙ sym so
one_option word low high default m n words fits (inl (none, is)) (inr (same, least, limit)) =
    let never : [] ≡ word ∷ decimal n ∷ [] = sym none ∙ same in absurd cc
one_option word low high default m n words fits (inr (same, least, limit)) (inl (none, is)) =
    let never : [] ≡ word ∷ decimal m ∷ [] = sym none ∙ same in absurd cc
one_option word low high default m n words fits (inr (same, least, limit)) (inr (too, lowest, highest)) =
    let both : word ∷ decimal m ∷ [] ≡ word ∷ decimal n ∷ [] = sym same ∙ too in
    let number : decimal m ≡ decimal n = cc in
    one_number high m n fits limit highest number

one_propagation : (p q o r : ℕ) (words : List (List ℕ)) → AreDelays p o words → AreDelays q r words → (p ≡ q) × (o ≡ r)
one_propagation p q o r words (inl (none, is, so)) (inl (nor, too, also)) = (is ∙ sym too, so ∙ sym also)
one_propagation p q o r words (inl (none, is, so)) (inr (same, few, more)) =
    let never : [] ≡ codes "delays" ∷ decimal q ∷ decimal r ∷ [] = sym none ∙ same in absurd cc
one_propagation p q o r words (inr (same, few, more)) (inl (none, is, so)) =
    let never : [] ≡ codes "delays" ∷ decimal p ∷ decimal o ∷ [] = sym none ∙ same in absurd cc
one_propagation p q o r words (inr (same, few, more)) (inr (too, least, most)) =
    let both : codes "delays" ∷ decimal p ∷ decimal o ∷ [] ≡ codes "delays" ∷ decimal q ∷ decimal r ∷ [] = sym same ∙ too in
    let first : decimal p ≡ decimal q = cc in
    let second : decimal o ≡ decimal r = cc in
    (one_number 32767 p q (omega arith) few least first, one_number 65535 o r (omega arith) more most second)

-- Which words are those of the holdtime.
fronts : (h k b d : ℕ) (front other back rest : List (List ℕ)) → front ++ back ≡ other ++ rest
    → IsOption (codes "holdtime") 99 65535 210 h front → IsOption (codes "holdtime") 99 65535 210 k other
    → IsOption (codes "budget") 70 65000 1460 b back → IsOption (codes "budget") 70 65000 1460 d rest → (front ≡ other) × (back ≡ rest)
fronts h k b d front other back rest same (inl (none, is)) (inl (nor, so)) first second =
    let cut : back ≡ rest = sym (ap (λ (f : List (List ℕ)). f ++ back) none) ∙ (same ∙ ap (λ (f : List (List ℕ)). f ++ rest) nor) in
    (none ∙ sym nor, cut)
fronts h k b d front other back rest same (inl (none, is)) (inr (has, low, high)) first second =
    let cut : back ≡ codes "holdtime" ∷ decimal k ∷ rest = sym (ap (λ (f : List (List ℕ)). f ++ back) none) ∙ (same ∙ ap (λ (f : List (List ℕ)). f ++ rest) has) in
    absurd (not_budget b k back rest cut first)
  where
    not_budget : (n m : ℕ) (words left : List (List ℕ)) → words ≡ codes "holdtime" ∷ decimal m ∷ left → IsOption (codes "budget") 70 65000 1460 n words → ⊥
    not_budget n m words left cut (inl (none, is)) = let never : [] ≡ codes "holdtime" ∷ decimal m ∷ left = sym none ∙ cut in absurd cc
    not_budget n m words left cut (inr (has, low, high)) = let never : codes "budget" ∷ decimal n ∷ [] ≡ codes "holdtime" ∷ decimal m ∷ left = sym has ∙ cut in absurd cc
fronts h k b d front other back rest same (inr (has, low, high)) (inl (none, is)) first second =
    let cut : rest ≡ codes "holdtime" ∷ decimal h ∷ back = sym (ap (λ (f : List (List ℕ)). f ++ rest) none) ∙ (sym same ∙ ap (λ (f : List (List ℕ)). f ++ back) has) in
    absurd (not_budget d h rest back cut second)
  where
    not_budget : (n m : ℕ) (words left : List (List ℕ)) → words ≡ codes "holdtime" ∷ decimal m ∷ left → IsOption (codes "budget") 70 65000 1460 n words → ⊥
    not_budget n m words left cut (inl (none, is)) = let never : [] ≡ codes "holdtime" ∷ decimal m ∷ left = sym none ∙ cut in absurd cc
    not_budget n m words left cut (inr (has, low, high)) = let never : codes "budget" ∷ decimal n ∷ [] ≡ codes "holdtime" ∷ decimal m ∷ left = sym has ∙ cut in absurd cc
fronts h k b d front other back rest same (inr (has, low, high)) (inr (too, least, limit)) first second =
    let cut : codes "holdtime" ∷ decimal h ∷ back ≡ codes "holdtime" ∷ decimal k ∷ rest =
    sym (ap (λ (f : List (List ℕ)). f ++ back) has) ∙ (same ∙ ap (λ (f : List (List ℕ)). f ++ rest) too) in
    let number : decimal h ≡ decimal k = cc in
    let left : back ≡ rest = cc in
    (has ∙ (ap (λ (n : List ℕ). codes "holdtime" ∷ n ∷ []) number ∙ sym too), left)

one_options : (h k b d : ℕ) (words : List (List ℕ)) → AreOptions h b words → AreOptions k d words → (h ≡ k) × (b ≡ d)
one_options h k b d words (front, back, cut, first, second) (other, rest, so, third, fourth) =
    let same = fronts h k b d front other back rest (sym cut ∙ so) first third second fourth in (
      one_option (codes "holdtime") 99 65535 210 h k front (omega arith) first (subst (IsOption (codes "holdtime") 99 65535 210 k) (sym same.0) third),
      one_option (codes "budget") 70 65000 1460 b d back (omega arith) second (subst (IsOption (codes "budget") 70 65000 1460 d) (sym same.1) fourth),
    )

-- ---- rows and packets

module _ (one_name : OneName) where
  name : (text other : List ℕ) (a b : AnyAddress) → text ≡ other → Names text a → Names other b → a ≡ b
  name text other a b same is so = one_name text a b is (subst (λ (t : List ℕ). Names t b) (sym same) so)

  one_port : (one other : PortRow) (words : List (List ℕ)) → IsPort one words → IsPort other words → one ≡ other
  one_port one other words (text, rest, cut, names, delays) (t, left, so, compared, others) =
      let both : text ∷ rest ≡ t ∷ left = sym cut ∙ so in
      let word : text ≡ t = cc in
      let words_left : rest ≡ left = cc in
      let address = name text t one.address other.address word names compared in
      let times = one_propagation one.propagation other.propagation one.override_ms other.override_ms rest delays (subst (AreDelays other.propagation other.override_ms) (sym words_left) others) in
      let propagation = times.0 in
      let override_ms = times.1 in
      λ i. record { address = address i; propagation = propagation i; override_ms = override_ms i }

  one_row : (one other : RouteRow) (words : List (List ℕ)) → IsRow one words → IsRow other words → one ≡ other
  one_row one other words (word, text, to, cut, (small, is), names, leads) (w, t, goes, so, (few, too), compared, led) =
      let both : word ∷ to ∷ [] ≡ w ∷ goes ∷ [] = sym cut ∙ so in
      let first : word ≡ w = cc in
      let second : to ≡ goes = cc in
      let pieces : text ∷ decimal one.length ∷ [] ≡ t ∷ decimal other.length ∷ [] = sym is ∙ (ap (pieces_of 47) first ∙ too) in
      let piece : text ≡ t = cc in
      let bits : decimal one.length ≡ decimal other.length = cc in
      let prefix = name text t one.prefix other.prefix piece names compared in
      let length = one_number most one.length other.length (omega arith) small few bits in
      let last = name to goes one.to other.to second leads led in
      λ i. record { prefix = prefix i; length = length i; to = last i }

  one_packet : (one other : Packet) (words : List (List ℕ)) → IsPacket one words → IsPacket other words → SamePacket one other
  one_packet one other words (source, destination, cut, small, from, to, hex) (s, d, so, few, source_is, destination_is, digits) =
      let both : decimal one.port ∷ source ∷ destination ∷ one.hex.now ∷ [] ≡ decimal other.port ∷ s ∷ d ∷ other.hex.now ∷ [] = sym cut ∙ so in
      let first : decimal one.port ≡ decimal other.port = cc in
      let second : source ≡ s = cc in
      let third : destination ≡ d = cc in
      let fourth : one.hex.now ≡ other.hex.now = cc in
      record {
        port = one_number most one.port other.port (omega arith) small few first;
        source = name source s one.source other.source second from source_is;
        destination = name destination d one.destination other.destination third to destination_is;
        hex = fourth;
      }

  one_destination : (one other : Option AnyAddress) (words : List (List ℕ)) → IsDestination one words → IsDestination other words → one ≡ other
  one_destination None None words none nor = refl
  one_destination None (Some b) words none (text, compared, has) = let never : [] ≡ codes "to" ∷ text ∷ [] = sym none ∙ has in absurd cc
  one_destination (Some a) None words (text, names, has) none = let never : [] ≡ codes "to" ∷ text ∷ [] = sym none ∙ has in absurd cc
  one_destination (Some a) (Some b) words (text, names, has) (t, compared, so) =
      let both : codes "to" ∷ text ∷ [] ≡ codes "to" ∷ t ∷ [] = sym has ∙ so in
      let word : text ≡ t = cc in
      ap (λ (x : AnyAddress). Some x) (name text t a b word names compared)

  one_sender : (one other : Sender) (words : List (List ℕ)) → IsSender one words → IsSender other words → one ≡ other
  one_sender one other words (source, rest, cut, small, from, to) (s, left, so, few, source_is, destination_is) =
      let both : decimal one.port ∷ source ∷ rest ≡ decimal other.port ∷ s ∷ left = sym cut ∙ so in
      let first : decimal one.port ≡ decimal other.port = cc in
      let second : source ≡ s = cc in
      let third : rest ≡ left = cc in
      let port = one_number most one.port other.port (omega arith) small few first in
      let sent = name source s one.source other.source second from source_is in
      let destination = one_destination one.destination other.destination rest to (subst (IsDestination other.destination) (sym third) destination_is) in
      λ i. record { port = port i; source = sent i; destination = destination i }

  one_writing : (one other : AnyWriting) (words : List (List ℕ)) → IsWriting one words → IsWriting other words → one ≡ other
  one_writing one other words (upstream, own, rest, cut, up, mine, options) (u, o, left, so, ups, owns, others) =
      let both : upstream ∷ own ∷ rest ≡ u ∷ o ∷ left = sym cut ∙ so in
      let first : upstream ≡ u = cc in
      let second : own ≡ o = cc in
      let third : rest ≡ left = cc in
      let neighbour = name upstream u one.upstream other.upstream first up ups in
      let self = name own o one.own other.own second mine owns in
      let numbers = one_options one.holdtime other.holdtime one.budget other.budget rest options (subst (AreOptions other.holdtime other.budget) (sym third) others) in
      let holdtime = numbers.0 in
      let budget = numbers.1 in
      λ i. record { upstream = neighbour i; own = self i; holdtime = holdtime i; budget = budget i }

  one_kept : (one other : KeptWhat) (words : List (List ℕ)) → IsKept one words → IsKept other words → SameKept one other
  one_kept one other words (upstream, cut, some, up) (u, so, any, ups) =
      let both : one.name.now ∷ upstream ∷ [] ≡ other.name.now ∷ u ∷ [] = sym cut ∙ so in
      let first : one.name.now ≡ other.name.now = cc in
      let second : upstream ≡ u = cc in
      record { name = first; upstream = name upstream u one.upstream other.upstream second up ups }

  one_named : (one other : Comparison) (words : List (List ℕ)) → IsComparison one words → IsComparison other words → SameComparison one other
  one_named one other words (rest, cut, some, writing) (left, so, any, written) =
      let both : one.name.now ∷ rest ≡ other.name.now ∷ left = sym cut ∙ so in
      let first : one.name.now ≡ other.name.now = cc in
      let second : rest ≡ left = cc in
      record { name = first; writing = one_writing one.writing other.writing rest writing (subst (IsWriting other.writing) (sym second) written) }

-- ---- the first word

abbrev first_word : Command → List ℕ
first_word (Port row) = codes "port"
first_word (Rp row) = codes "rp"
first_word (Via row) = codes "via"
first_word (Limit n) = codes "limit"
first_word Start = codes "start"
first_word (Run n) = codes "run"
first_word (Arrival packet) = codes "packet"
first_word Now = codes "now"
first_word Next = codes "next"
first_word State = codes "state"
first_word Wants = codes "wants"
first_word Neighbours = codes "neighbours"
first_word (Messages writing) = codes "messages"
first_word (Keep kept) = codes "keep"
first_word (Change compared) = codes "change"
first_word (Same compared) = codes "same"
first_word Reset = codes "reset"

abbrev first_or : List (List ℕ) → List ℕ
first_or [] = []
first_or (word ∷ words) = word

with_first : (command : List ℕ) (Is : List (List ℕ) → Type 0) (words : List (List ℕ)) → HasCommand command Is words → first_or words ≡ command
with_first command Is words (others, same, is) = ap first_or same

first_is : (words : List (List ℕ)) (command : Command) → AreCommand words command → first_or words ≡ first_word command
first_is words (Port row) is = with_first (codes "port") (IsPort row) words is
first_is words (Rp row) is = with_first (codes "rp") (IsRow row) words is
first_is words (Via row) is = with_first (codes "via") (IsRow row) words is
first_is words (Limit n) is = with_first (codes "limit") (IsNumber 1 100000 n) words is
first_is words Start is = ap first_or is
first_is words (Run n) is = with_first (codes "run") (IsNumber 0 most n) words is
first_is words (Arrival packet) is = with_first (codes "packet") (IsPacket packet) words is
first_is words Now is = ap first_or is
first_is words Next is = ap first_or is
first_is words State is = ap first_or is
first_is words Wants is = ap first_or is
first_is words Neighbours is = ap first_or is
first_is words (Messages writing) is = with_first (codes "messages") (IsWriting writing) words is
first_is words (Keep kept) is = with_first (codes "keep") (IsKept kept) words is
first_is words (Change compared) is = with_first (codes "change") (IsComparison compared) words is
first_is words (Same compared) is = with_first (codes "same") (IsComparison compared) words is
first_is words Reset is = ap first_or is

-- The place of a command among the usages.
abbrev place_in : List Usage → List ℕ → ℕ
place_in [] command = 0
place_in (usage ∷ others) command = if bytes_eq usage.command command then 0 else suc (place_in others command)

abbrev place : Command → ℕ
place command = place_in usages (first_word command)

differ : (m n : ℕ) → eqb m n ≡ false → m ≡ n → ⊥
differ m n = eqb-false m n

-- ---- commands

module _ (one_name : OneName) (words : List (List ℕ)) where
  inside : (command : List ℕ) (P Q : List (List ℕ) → Type 0) (R : Type 0) → ((others : List (List ℕ)) → P others → Q others → R) → HasCommand command P words → HasCommand command Q words → R
  inside command P Q R by (others, same, is) (rest, so, too) =
      let both : command ∷ others ≡ command ∷ rest = sym same ∙ so in
      let left : others ≡ rest = cc in
      by others is (subst Q (sym left) too)

  one_place : (one other : Command) → AreCommand words one → AreCommand words other → place one ≡ place other
  one_place one other is too = ap (place_in usages) (sym (first_is words one is) ∙ first_is words other too)

  pub one_command : (one other : Command) → AreCommand words one → AreCommand words other → SameCommand one other
  one_command (Port one) (Port other) is too = inside (codes "port") (IsPort one) (IsPort other) (one ≡ other) (one_port one_name one other) is too
  one_command (Rp one) (Rp other) is too = inside (codes "rp") (IsRow one) (IsRow other) (one ≡ other) (one_row one_name one other) is too
  one_command (Via one) (Via other) is too = inside (codes "via") (IsRow one) (IsRow other) (one ≡ other) (one_row one_name one other) is too
  one_command (Limit one) (Limit other) is too = inside (codes "limit") (IsNumber 1 100000 one) (IsNumber 1 100000 other) (one ≡ other) (λ others p q. number_of 1 100000 one other others (omega arith) p q) is too
  one_command Start Start is too = tt
  one_command (Run one) (Run other) is too = inside (codes "run") (IsNumber 0 most one) (IsNumber 0 most other) (one ≡ other) (λ others p q. number_of 0 most one other others (omega arith) p q) is too
  one_command (Arrival one) (Arrival other) is too = inside (codes "packet") (IsPacket one) (IsPacket other) (SamePacket one other) (one_packet one_name one other) is too
  one_command Now Now is too = tt
  one_command Next Next is too = tt
  one_command State State is too = tt
  one_command Wants Wants is too = tt
  one_command Neighbours Neighbours is too = tt
  one_command (Messages one) (Messages other) is too = inside (codes "messages") (IsWriting one) (IsWriting other) (one ≡ other) (one_writing one_name one other) is too
  one_command (Keep one) (Keep other) is too = inside (codes "keep") (IsKept one) (IsKept other) (SameKept one other) (one_kept one_name one other) is too
  one_command (Change one) (Change other) is too = inside (codes "change") (IsComparison one) (IsComparison other) (SameComparison one other) (one_named one_name one other) is too
  one_command (Same one) (Same other) is too = inside (codes "same") (IsComparison one) (IsComparison other) (SameComparison one other) (one_named one_name one other) is too
  one_command Reset Reset is too = tt
  one_command one other is too = absurd (differ (place one) (place other) refl (one_place one other is too))

  pub one_sender_of : (one other : Sender) → HasCommand (codes "from") (IsSender one) words → HasCommand (codes "from") (IsSender other) words → one ≡ other
  one_sender_of one other is too = inside (codes "from") (IsSender one) (IsSender other) (one ≡ other) (one_sender one_name one other) is too

pub one_command_of : OneName → OneCommand
one_command_of one_name line one other is too = one_command one_name (words_of line) one other is too

pub one_sender_of_line : OneName → OneSender
one_sender_of_line one_name line one other is too = one_sender_of one_name (words_of line) one other is too
