-- All files of a command, opened one after another.
use Rattle.pim_files.proofs.Words.{◌≡◌, ◌∙◌, inr, sym, ap, subst, ℕ, List, ◌++◌, length, Option, append_assoc, filter}
use Rattle.pim_files.proofs.Words.{AddressFamily, RouteTable, MergeState, IsUntaken, More, Port, OpenFault, PortFiles, all_files}
use Rattle.pim_files.proofs.Words.{files_from, names_of, of_router, HoldFiles, StopsAt, is_of, Files, Known, RequestsFor}
use Rattle.pim_files.proofs.Words.{RequestsFront, IsTable, table_names, port_files, file_names, IsUnopened, AreOpen}
use Rattle.pim_words.specs.declared.fault.RouterSide.TheVariants.{A as of_a, B as of_b}
use Rattle.pim_words.specs.declared.task.Captures.{Captures}
use Rattle.pim_files.proofs.Asked.{asks_more}

-- ---- the names that were asked for

pub front_of_more : (a b : Known) (xs ys : List (List ℕ)) → RequestsFront a b xs → RequestsFront a b (xs ++ ys)
front_of_more a b xs ys p = record {
  front = p.front;
  others = p.others ++ ys;
  cut = ap (λ l. l ++ ys) p.cut ∙ append_assoc p.front p.others ys;
  requests = p.requests;
}

pub front_after : (a b c : Known) (xs ys : List (List ℕ)) → RequestsFor a b xs → RequestsFront b c ys → RequestsFront a c (xs ++ ys)
front_after a b c xs ys p q = record {
  front = xs ++ q.front;
  others = q.others;
  cut = ap (λ l. xs ++ l) q.cut ∙ sym (append_assoc xs q.front q.others);
  requests = asks_more a b c xs q.front p q.requests;
}

-- the same ports and further files
pub same_files : {A : Type 0} (further further' : List More) (ports ports' : List (Port A)) → further ≡ further' → ports ≡ ports' → files_from 0 further ports ≡ files_from 0 further' ports'
same_files further further' ports ports' e f = ap (λ m. files_from 0 m ports) e ∙ ap (λ p. files_from 0 further' p) f

-- ---- what was opened; `known` was known before, `middle` after the table was made, `last` after all

module _ {A R : Type 0} (family : AddressFamily) (bytes_of : A → List ℕ) (remaining : R → Option (List ℕ)) (failures : R → ℕ) (known middle last : Known) (captures : Captures A)
    (upstream : Option A) where
  -- a port's file isn't open
  pub no_port : (table : RouteTable) (all : List (PortFiles A)) (fault : OpenFault) → all ≡ port_files captures
      → IsTable family bytes_of remaining failures known.files captures upstream table → RequestsFor known middle (table_names captures) → StopsAt middle.files (all_files all) fault
      → IsUnopened family bytes_of remaining failures known.files captures upstream fault
  no_port table all fault same is_table named stops = inr (
    table,
    is_table,
    subst (λ (l : List (PortFiles A)). StopsAt known.files (all_files l) fault) same
        (subst (λ (f : Option Files). StopsAt f (all_files all) fault) named.files stops),
  )

  -- the names that were asked for, if a port's file isn't open
  pub port_asked : (all : List (PortFiles A)) → all ≡ port_files captures → RequestsFor known middle (table_names captures) → RequestsFront middle last (names_of (all_files all))
      → RequestsFront known last (file_names captures)
  port_asked all same named requested = front_after known middle last (table_names captures) (names_of (all_files (port_files captures))) named
      (subst (λ (l : List (PortFiles A)). RequestsFront middle last (names_of (all_files l))) same requested)

  names_asked : (all : List (PortFiles A)) → all ≡ port_files captures → RequestsFor known middle (table_names captures) → RequestsFor middle last (names_of (all_files all))
      → RequestsFor known last (file_names captures)
  names_asked all same named requested = asks_more known middle last (table_names captures) (names_of (all_files (port_files captures))) named
      (subst (λ (l : List (PortFiles A)). RequestsFor middle last (names_of (all_files l))) same requested)

  -- the captures of two routers are open
  pub are_open : (table : RouteTable) (merge other : MergeState) (ports : List (Port A)) (all : List (PortFiles A)) → ports ≡ captures.ports.items → all ≡ port_files captures
      → IsTable family bytes_of remaining failures known.files captures upstream table → RequestsFor known middle (table_names captures)
      → length merge.lanes ≡ length (filter (is_of of_a) ports) → length other.lanes ≡ length (filter (is_of of_b) ports) → IsUntaken merge → IsUntaken other
      → HoldFiles middle.files (of_router of_a all) merge.lanes → HoldFiles middle.files (of_router of_b all) other.lanes → RequestsFor middle last (names_of (all_files all))
      → AreOpen family bytes_of remaining failures known last captures upstream table merge other
  are_open table merge other ports all same_ports same is_table named each_of_a each_of_b untaken_of_a untaken_of_b held_of_a held_of_b requested = record {
    is_table = is_table;
    each_of_a = each_of_a ∙ ap (λ (l : List (Port A)). length (filter (is_of of_a) l)) same_ports;
    each_of_b = each_of_b ∙ ap (λ (l : List (Port A)). length (filter (is_of of_b) l)) same_ports;
    untaken_of_a = untaken_of_a;
    untaken_of_b = untaken_of_b;
    held_of_a = subst (λ (l : List (PortFiles A)). HoldFiles known.files (of_router of_a l) merge.lanes) same
        (subst (λ (f : Option Files). HoldFiles f (of_router of_a all) merge.lanes) named.files held_of_a);
    held_of_b = subst (λ (l : List (PortFiles A)). HoldFiles known.files (of_router of_b l) other.lanes) same
        (subst (λ (f : Option Files). HoldFiles f (of_router of_b all) other.lanes) named.files held_of_b);
    requested = names_asked all same named requested;
  }
