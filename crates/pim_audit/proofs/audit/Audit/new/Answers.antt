use Rattle.pim_audit.proofs.Words.{◌≤◌, ℕ, List, sym, ap, subst, Downstream, DueEntry, held_entries, EntriesAscend}
use Rattle.pim_audit.proofs.Neighbours.{nothing_in_order}
use Rattle.pim_audit.proofs.audit.Audit.new.Goals as goal

pub invariant_of-result : goal.invariant_of-result
invariant_of-result g c = record {
  order = subst (λ (due : List DueEntry). EntriesAscend (held_entries due)) (sym c.new-2.ensures) nothing_in_order;
  port = ap (λ (asked : Downstream). asked.ports) c.new.ensures;
  room = subst (λ (n : ℕ). 1 ≤ n) (sym (ap (λ (asked : Downstream). asked.limit) c.new.ensures)) c.requires.room;
  limit = subst (λ (n : ℕ). n ≤ 100000) (sym (ap (λ (asked : Downstream). asked.limit) c.new.ensures)) c.requires.limit;
}
