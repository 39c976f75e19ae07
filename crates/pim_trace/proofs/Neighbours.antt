-- The neighbours that a router holds all have time left.
use Rattle.pim_trace.proofs.Words.{◌≡◌, ℕ, zero, suc, Bool, cond, not, List, [], ◌∷◌, filter, Option, None, Some}
use Rattle.pim_trace.proofs.Words.{option_map, refl, sym, ap, ◌∙◌, slice_index_or, AllByRecursion, Neighbour, Table}
use Rattle.pim_trace.proofs.Words.{is_over, no_neighbours, without_ended, neighbour_at, entry_at, neighbours_on}
use Rattle.pim_trace.proofs.Words.{HasTime, IsCurrent, IsRouter, RouterState, table_at, generation_of}

abbrev stays : List ℕ × Neighbour → Bool
stays entry = not (is_over entry.1.left)

all_stay : (entries : List (List ℕ × Neighbour)) → AllByRecursion HasTime entries → filter stays entries ≡ entries
all_stay [] all = refl
all_stay (entry ∷ entries) all =
    ap (λ b. cond (not b) (entry ∷ filter stays entries) (filter stays entries)) all.0 ∙ ap (λ es. entry ∷ es) (all_stay entries all.1)

whole : (table : Table) → AllByRecursion HasTime table.entries → without_ended table ≡ table
whole table all = ap (λ (es : List (List ℕ × Neighbour)). record { moment = table.moment; entries = es }) (all_stay table.entries all)

whole_at : (moment port : ℕ) (tables : List Table) → AllByRecursion (IsCurrent moment) tables → without_ended (slice_index_or tables port no_neighbours) ≡ slice_index_or tables port no_neighbours
whole_at moment port [] all = refl
whole_at moment zero (table ∷ tables) all = whole table all.0.none_ended
whole_at moment (suc port) (table ∷ tables) all = whole_at moment port tables all.1

pub all_on : (state : RouterState) (port : ℕ) → IsRouter state → neighbours_on port state ≡ table_at port state
all_on state port router = whole_at state.machines.moment port state.tables router.current

-- ---- what is kept of a neighbour

abbrev entry_of : List ℕ → Neighbour → List ℕ × Neighbour
entry_of address neighbour = (address, neighbour)

none_entered : (address : List ℕ) (known : Option Neighbour) → None ≡ option_map (entry_of address) known → known ≡ None
none_entered address None e = refl
none_entered address (Some known) e = absurd cc

one_entered : (address : List ℕ) (known : Option Neighbour) (one : List ℕ × Neighbour) → Some one ≡ option_map (entry_of address) known → known ≡ Some one.1
one_entered address None one e = absurd cc
one_entered address (Some known) one e = ap (option_map (λ (p : List ℕ × Neighbour). p.1)) (sym e)

-- nothing is
pub kept_none : (table : Table) (address : List ℕ) → None ≡ entry_at address table → neighbour_at address table ≡ None
kept_none table address e = none_entered address (neighbour_at address table) e

-- this is
pub kept_some : (table : Table) (address : List ℕ) (one : List ℕ × Neighbour) → Some one ≡ entry_at address table → neighbour_at address table ≡ Some one.1
kept_some table address one e = one_entered address (neighbour_at address table) one e

-- the Generation ID that is kept of a neighbour
pub kept_by : (state : RouterState) (port : ℕ) (address : List ℕ) → IsRouter state → (known : Option (List ℕ × Neighbour)) → known ≡ entry_at address (table_at port state)
    → generation_of (option_map (λ (one : List ℕ × Neighbour). one.1) known) ≡ generation_of (neighbour_at address (neighbours_on port state))
kept_by state port address router None e =
    sym (ap (λ (t : Table). generation_of (neighbour_at address t)) (all_on state port router) ∙ ap generation_of (kept_none (table_at port state) address e))
kept_by state port address router (Some one) e =
    sym (ap (λ (t : Table). generation_of (neighbour_at address t)) (all_on state port router) ∙ ap generation_of (kept_some (table_at port state) address one e))
