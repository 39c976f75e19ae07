-- The ports of a router with their further files, by number.
use Rattle.pim_warnings.proofs.Words.{◌≡◌, ◌∙◌, sym, ap, refl, ℕ, suc, ◌+◌, ◌<◌, Bool, cond, List, [], ◌∷◌, length}
use Rattle.pim_warnings.proofs.Words.{drop, get_or, Option, None, Some, filter, drop_more, PortFiles, files_from}
use Rattle.pim_warnings.proofs.Words.{with_more, RouterSide, More, Port, slice_index_or, map, name_at, is_in, are_in, ports_of}

-- ---- the further files of a port

-- a further one is
pub later_name : {A : Type 0} (it : PortFiles A) (file left : ℕ) → file ≡ suc left
    → slice_index_or (map (λ (one : More). one.file) it.more) left it.port.file ≡ name_at it file
later_name it file left more = sym (ap (name_at it) more)

-- ---- the ports of a router

-- those that are left at a place, of which the first has the number `at`
abbrev pub left_from : {A : Type 0} → Option RouterSide → List More → ℕ → ℕ → List (Port A) → List (PortFiles A)
left_from side further at place ports = filter (are_in side) (files_from at further (drop place ports))

-- the port at this place is one of the router, or not
pub one_port : {A : Type 0} (side : Option RouterSide) (further : List More) (ports : List (Port A)) (at next place : ℕ) (port : Port A) (b : Bool) → next ≡ suc at → place < length ports → is_in side port ≡ b
    → port ≡ get_or ports place port
    → left_from side further at place ports ≡ cond b (with_more at further port ∷ left_from side further next (place + 1) ports) (left_from side further next (place + 1) ports)
one_port side further ports at next place port b more below is here =
    ap (λ l. filter (are_in side) (files_from at further l)) (drop_more ports place port below ∙ ap (λ p. p ∷ drop (place + 1) ports) (sym here))
    ∙ ap (λ t. cond t (with_more at further port ∷ left_from side further (suc at) (place + 1) ports) (left_from side further (suc at) (place + 1) ports)) is
    ∙ ap (λ n. cond b (with_more at further port ∷ left_from side further n (place + 1) ports) (left_from side further n (place + 1) ports)) (sym more)

-- the ports of a router are those that are in it
each_in : {A : Type 0} (ports : List (PortFiles A)) → filter (are_in None) ports ≡ ports
each_in [] = refl
each_in (it ∷ ports) = ap (λ l. it ∷ l) (each_in ports)

pub same_ports : {A : Type 0} (side : Option RouterSide) (ports : List (PortFiles A)) → filter (are_in side) ports ≡ ports_of side ports
same_ports None ports = each_in ports
same_ports (Some side) ports = refl

-- the same words name the same
pub same_words : {A : Type 0} (side : Option RouterSide) (further further' : List More) (ports ports' : List (Port A)) → further ≡ further' → ports ≡ ports'
    → filter (are_in side) (files_from 0 further ports) ≡ ports_of side (files_from 0 further' ports')
same_words side further further' ports ports' e f =
    ap (λ m. filter (are_in side) (files_from 0 m ports)) e ∙ ap (λ p. filter (are_in side) (files_from 0 further' p)) f ∙ same_ports side (files_from 0 further' ports')
