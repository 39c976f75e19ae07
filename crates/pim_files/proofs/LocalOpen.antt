-- All files of a command with one of local receivers, opened one after another.
use Rattle.pim_files.proofs.Words.{◌≡◌, ◌∙◌, inl, inr, ap, subst, ℕ, List, ◌++◌, length, Option, AddressFamily, RouteTable}
use Rattle.pim_files.proofs.Words.{MergeState, IsUntaken, Port, OpenFault, PortFiles, all_files, names_of, HoldFiles, StopsAt}
use Rattle.pim_files.proofs.Words.{Files, Known, RequestsFor, RequestsFront, IsTable, name_of, table_names, port_files}
use Rattle.std.specs.Borrow.{Bor}
use Rattle.pim_local.specs.Joins.{Join}
use Rattle.pim_words.specs.declared.task.Captures.{Captures}
use Rattle.pim_files.specs.Receivers.{HasJoins, LacksJoins}
use Rattle.pim_files.specs.Opening.{local_file_names, IsUnopenedWithLocal, IsOpenWithLocal}
use Rattle.pim_files.proofs.Asked.{asks_more}
use Rattle.pim_files.proofs.AllOpen.{front_of_more, front_after}

-- `known` was known before, `middle` after the table was made, `later` after the joins were read,
-- `last` after all
module _ {A R : Type 0} (family : AddressFamily) (bytes_of : A → List ℕ) (remaining : R → Option (List ℕ)) (failures : R → ℕ) (known middle later last : Known) (captures : Captures A)
    (upstream : Option A) (local : Option (Bor (List ℕ))) where
  abbrev names : List (PortFiles A) → List (List ℕ)
  names all = names_of (all_files all)

  -- the names of no file of a port were asked for
  pub table_asked : RequestsFront known middle (table_names captures) → RequestsFront known middle (local_file_names captures local)
  table_asked named = front_of_more known middle (table_names captures ++ name_of local) (names (port_files captures)) (front_of_more known middle (table_names captures) (name_of local) named)

  pub joins_asked : RequestsFor known middle (table_names captures) → RequestsFront middle later (name_of local) → RequestsFront known later (local_file_names captures local)
  joins_asked named asked = front_of_more known later (table_names captures ++ name_of local) (names (port_files captures)) (front_after known middle later (table_names captures) (name_of local) named asked)

  -- there are no joins
  pub no_joins : (table : RouteTable) (fault : OpenFault) → IsTable family bytes_of remaining failures known.files captures upstream table → RequestsFor known middle (table_names captures)
      → LacksJoins family remaining failures middle.files local fault → IsUnopenedWithLocal family bytes_of remaining failures known.files captures upstream local fault
  no_joins table fault is_table named lacks =
      inr (table, is_table, inl (subst (λ (f : Option Files). LacksJoins family remaining failures f local fault) named.files lacks))

  module _ (table : RouteTable) (joins : List Join) (all : List (PortFiles A)) (same : all ≡ port_files captures) (is_table : IsTable family bytes_of remaining failures known.files captures upstream table)
      (named : RequestsFor known middle (table_names captures)) (has_joins : HasJoins family remaining failures middle.files local joins) (asked : RequestsFor middle later (name_of local)) where
    both : RequestsFor known later (table_names captures ++ name_of local)
    both = asks_more known middle later (table_names captures) (name_of local) named asked

    joins_held : HasJoins family remaining failures known.files local joins
    joins_held = subst (λ (f : Option Files). HasJoins family remaining failures f local joins) named.files has_joins

    -- a port's file isn't open
    pub no_port_after : (fault : OpenFault) → StopsAt later.files (all_files all) fault → IsUnopenedWithLocal family bytes_of remaining failures known.files captures upstream local fault
    no_port_after fault stops = inr (
      table,
      is_table,
      inr (
        joins,
        joins_held,
        subst (λ (l : List (PortFiles A)). StopsAt known.files (all_files l) fault) same (subst (λ (f : Option Files). StopsAt f (all_files all) fault) both.files stops),
      ),
    )

    pub port_asked_after : RequestsFront later last (names all) → RequestsFront known last (local_file_names captures local)
    port_asked_after requested = front_after known later last (table_names captures ++ name_of local) (names (port_files captures)) both
        (subst (λ (l : List (PortFiles A)). RequestsFront later last (names l)) same requested)

    -- all is open
    pub is_open_after : (merge : MergeState) (ports : List (Port A)) → ports ≡ captures.ports.items → length merge.lanes ≡ length ports → IsUntaken merge → HoldFiles later.files all merge.lanes
        → RequestsFor later last (names all) → IsOpenWithLocal family bytes_of remaining failures known last captures upstream local table joins merge
    is_open_after merge ports same_ports each untaken held requested = record {
      is_table = is_table;
      has_joins = joins_held;
      each = each ∙ ap length same_ports;
      untaken = untaken;
      held = subst (λ (l : List (PortFiles A)). HoldFiles known.files l merge.lanes) same (subst (λ (f : Option Files). HoldFiles f all merge.lanes) both.files held);
      requested = asks_more known later last (table_names captures ++ name_of local) (names (port_files captures)) both
          (subst (λ (l : List (PortFiles A)). RequestsFor later last (names l)) same requested);
    }
