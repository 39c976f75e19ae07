-- The line of a neighbour in its pieces, and the lines of ports one by one.
use Rattle.pim_answers.proofs.Words.{◌≡◌, ℕ, ◌+◌, ◌<◌, Option, Some, List, [], ◌∷◌, ◌++◌, codes, decimal, length, drop}
use Rattle.pim_answers.proofs.Words.{slice_index_or, refl, sym, ap, ◌∙◌, append_assoc, append-nil, add-one, take_at}
use Rattle.pim_answers.proofs.Words.{length_push, drop_more, flat_map, AddressFamily, Table, no_neighbours, bit}
use Rattle.pim_answers.proofs.Words.{delays_text, option_words, place_words, neighbour_line, tables_text}
use Rattle.pim_addr.specs.Text.{address_text}
use Rattle.pim_hello.specs.Hello.{Delays}
use Rattle.pim_lines.specs.Pieces.{number_or}

-- an option that is there, by the words of its line
option_line : (text : List ℕ) → option_words (text ++ 10 ∷ []) ≡ 32 ∷ text
option_line [] = refl
option_line (first ∷ more) = ap (λ l. 32 ∷ l) (take_at (first ∷ more) (10 ∷ []) (length (more ++ 10 ∷ [])) (sym (length_push more 10 ∙ add-one (length more))))

-- the delays, in their pieces
pub delays_pieces : (lan : Delays) (t propagation interval : List ℕ) → t ≡ bit lan.t → propagation ≡ decimal lan.propagation → interval ≡ decimal lan.override_ms
    → codes " lan-prune-delay t " ++ (t ++ (codes " propagation " ++ (propagation ++ (codes " override " ++ (interval ++ []))))) ≡ option_words (delays_text (Some lan))
delays_pieces lan t propagation interval p q r =
    rw (p, q, r) (simp (append_assoc, append-nil))
    ∙ sym (option_line (codes "lan-prune-delay t " ++ bit lan.t ++ codes " propagation " ++ decimal lan.propagation ++ codes " override " ++ decimal lan.override_ms))

-- the port, the address and the time, in their pieces
pub place_pieces : (family : AddressFamily) (port : ℕ) (address : List ℕ) (left : Option ℕ) (on shown time : List ℕ) → on ≡ decimal port → shown ≡ address_text family address
    → time ≡ number_or (codes "never") left
    → codes "port " ++ (on ++ (codes " neighbour " ++ (shown ++ (codes " left " ++ (time ++ []))))) ≡ place_words family port address left
place_pieces family port address left on shown time p q r = rw (p, q, r) (simp (append_assoc, append-nil))

-- the lines from one port on are its own, and those from the next port on
pub port_here : (family : AddressFamily) (tables : List Table) (port : ℕ) → port < length tables
    → tables_text family port (drop port tables) ≡ flat_map (neighbour_line family port) (slice_index_or tables port no_neighbours).entries ++ tables_text family (port + 1) (drop (port + 1) tables)
port_here family tables port below = ap (tables_text family port) (drop_more tables port no_neighbours below) ∙ rw (add-one port) refl
