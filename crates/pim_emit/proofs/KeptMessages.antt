-- Canonical messages that are kept, one more at a time.
use Rattle.pim_emit.proofs.Words.{◌≡◌, ℕ, List, [], ◌∷◌, ◌++◌, sym, ap, subst, append_assoc, append-nil, AddressFamily}
use Rattle.pim_emit.proofs.Words.{RouteTable, rp_of, Downstream, Writing, AreCanonical, IsFormOf, AreRuns}
use Rattle.pim_emit.proofs.Words.{demand_toward, units_of, Position, Start, DemandSeen, IsMessage, left_at, DemandBy}
use Rattle.pim_emit.proofs.Action.{told_first}

-- These messages, and those of what is left behind the place, behind them, are canonical.
pub record AreKept (family : AddressFamily) (writing : Writing) (demand_seen : DemandSeen) (position : Position (List ℕ)) (messages : List (List ℕ)) : Type 0 where
  pub builds : (rest : List (List ℕ)) → AreCanonical family writing (rp_of family demand_seen.table) (left_at position demand_seen.form) rest
      → AreCanonical family writing (rp_of family demand_seen.table) demand_seen.form (messages ++ rest)

module _ (family : AddressFamily) (writing : Writing) (demand_seen : DemandSeen) where
  pub none_kept : AreKept family writing demand_seen Start []
  none_kept = record { builds = λ rest is. is }

  pub one_more_kept : (from to : Position (List ℕ)) (message : List ℕ) (messages : List (List ℕ)) → AreKept family writing demand_seen from messages
      → IsMessage family writing demand_seen from to message → AreKept family writing demand_seen to (messages ++ message ∷ [])
  one_more_kept from to message messages are is = record {
    builds = λ rest others. subst (AreCanonical family writing (rp_of family demand_seen.table) demand_seen.form) (sym (append_assoc messages (message ∷ []) rest))
        (are.builds (message ∷ rest) (told_first family writing demand_seen from to message is rest others));
  }

  pub all_kept : (position : Position (List ℕ)) (messages : List (List ℕ)) → AreKept family writing demand_seen position messages → units_of (left_at position demand_seen.form) ≡ []
      → AreCanonical family writing (rp_of family demand_seen.table) demand_seen.form messages
  unfolding AreRuns
  all_kept position messages are none =
      subst (AreCanonical family writing (rp_of family demand_seen.table) demand_seen.form) (append-nil messages) (are.builds [] (record { runs = []; packing = record { whole = sym none; cut = tt }; reported = tt }))

  pub ask_by : (table : RouteTable) (state : Downstream) (messages : List (List ℕ)) → IsFormOf family (demand_toward family table writing.upstream state) demand_seen.form
      → demand_seen.table ≡ table → AreCanonical family writing (rp_of family demand_seen.table) demand_seen.form messages → DemandBy family writing table state messages
  ask_by table state messages demand tables reported = record {
    form = demand_seen.form;
    is = demand;
    reported = subst (λ rps. AreCanonical family writing rps demand_seen.form messages) (ap (rp_of family) tables) reported;
  }
