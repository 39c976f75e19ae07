-- The turns that a run took, as those of a replay.
use Rattle.pim_replay.proofs.Words.{◌≡◌, ◌⊎◌, ◌≤◌, ◌+◌, ◌∙◌, ℕ, List, [], ◌∷◌, ◌++◌, Option, Err, refl, sym, ap, subst, inl, inr}
use Rattle.pim_replay.proofs.Words.{arith, Appends, Appends-nil, AddressFamily, top_count, End, clock_of, end_moment, AreFirst}
use Rattle.pim_replay.proofs.Words.{Taken, MergeState, CountsAll, RouterState, Counts, RunFault, Capture, Output, Memory, Event}
use Rattle.pim_replay.proofs.Words.{Account, nothing, joined, counted, Follows, HasWritten, HasBegun, PassesTime, WritesTurn}
use Rattle.pim_replay.proofs.Words.{WritesTurns, PassesToEnd, WritesFirst, WritesAll, Begins, Stops, none_yet}
use Rattle.pim_run.specs.Run.{AreTaken, RunsThrough, BreaksOff, Runs}
use Rattle.pim_replay.proofs.Told.{nothing_first, nothing_last, regroup, both, same_counts, told_more, begun_more, happens_then, told_begun}

-- ---- one turn more

tells_more : (family : AddressFamily) (taken : List Taken) (next : Taken) (state : RouterState) (account : Account) (after : RouterState) → Follows (WritesTurns family taken state) (WritesTurn family next) account after
    → WritesTurns family (taken ++ next ∷ []) state account after
unfolding WritesTurns
tells_more family [] next state account after reported = record {
  first = reported.second;
  between = after;
  begins = subst (λ s. WritesTurn family next s reported.second after) reported.begins.1 reported.goes_on;
  second = nothing;
  goes_on = (refl, refl);
  account_is = reported.account_is ∙ (ap (λ a. joined a reported.second) reported.begins.0 ∙ (nothing_first reported.second ∙ sym (nothing_last reported.second)));
}
tells_more family (first ∷ others) next state account after reported =
    let turns = reported.begins in
    record {
      first = turns.first;
      between = turns.between;
      begins = turns.begins;
      second = joined turns.second reported.second;
      goes_on = tells_more family others next turns.between (joined turns.second reported.second) after
          (both (WritesTurns family others turns.between) (WritesTurn family next) turns.second reported.second reported.between after turns.goes_on reported.goes_on);
      account_is = reported.account_is ∙ (ap (λ a. joined a reported.second) turns.account_is ∙ regroup turns.first turns.second reported.second);
    }

-- ---- all turns

abbrev IsSmall : Counts → Type 0
IsSmall counts = (counts.skipped ≤ top_count) × (counts.refreshes ≤ top_count)

counted_small : (counts : Counts) (account : Account) → IsSmall (counted counts account)
counted_small counts account = (omega arith, omega arith)

module _ (line : Event → List ℕ) (family : AddressFamily) where
  abbrev By : Taken → Counts → RouterState → Option (List ℕ) → Counts → RouterState → Option (List ℕ) → Type 0
  By turn counts state old more after new = HasWritten line (WritesTurn family turn state) after old new counts more

  abbrev Only : Taken → Counts → RouterState → Option (List ℕ) → Option (List ℕ) → Type 0
  Only turn counts state old new = HasBegun line (WritesTurn family turn state) old new

  turns_told : (taken : List Taken) (counts more : Counts) (state after : RouterState) (old new : Option (List ℕ)) → IsSmall counts → AreTaken By Only taken counts state old more after new
      → HasWritten line (WritesTurns family taken state) after old new counts more
  unfolding AreTaken WritesTurns
  turns_told [] counts more state after old new small (same, stays, kept) = record {
    account = nothing;
    wrote = (refl, stays);
    written = subst (λ (n : Option (List ℕ)). Appends old n []) (sym kept) (Appends-nil old);
    is_counted = same ∙ same_counts _ _ _ _ (omega (arith, small.0)) (omega (arith, small.1));
  }
  turns_told (turn ∷ turns) counts more state after old new small (next, between, mid, one, rest) =
      happens_then line (WritesTurn family turn state) (WritesTurns family turns) between old mid new counts next one after more
      (turns_told turns next more between after mid new (subst IsSmall (sym one.is_counted) (counted_small counts one.account)) rest)

  module _ (end : End) (start : MergeState) (state : RouterState) (old : Option (List ℕ)) where
    from_none : (taken : List Taken) (counts : Counts) (after : RouterState) (new : Option (List ℕ)) → AreTaken By Only taken none_yet state old counts after new
        → HasWritten line (WritesTurns family taken state) after old new none_yet counts
    from_none taken counts after new turns = turns_told taken none_yet counts state after old new (omega arith, omega arith) turns

    broken : (merge : MergeState) (new : Option (List ℕ)) → BreaksOff By Only end start merge none_yet state old new → Begins line family end start state old new
    broken merge new b = by b.last
      where
        reported : HasWritten line (WritesTurns family b.taken state) b.between old b.mid none_yet b.kept'
        reported = from_none b.taken b.kept' b.between b.mid b.turns

        by : (AreFirst end start b.taken × (new ≡ b.mid))
            ⊎ (next : Taken) × AreFirst end start (b.taken ++ next ∷ []) × Only next b.kept' b.between b.mid new
            → Begins line family end start state old new
        by (inl (first, same)) =
            inl (subst (λ (n : Option (List ℕ)). HasBegun line (WritesFirst family end start state) old n) (sym same)
            (told_begun line (WritesTurns family b.taken state) (WritesFirst family end start state) b.between old b.mid none_yet b.kept' reported (record { taken = b.taken; are = first; wrote = reported.wrote })))
        by (inr (next, first, begun)) =
            inl (begun_more line (WritesTurns family b.taken state) (WritesFirst family end start state) b.between old b.mid new none_yet b.kept' reported begun.account begun.after
            (record {
              taken = b.taken ++ next ∷ [];
              are = first;
              wrote = tells_more family b.taken next state (joined reported.account begun.account) begun.after
                  (both (WritesTurns family b.taken state) (WritesTurn family next) reported.account begun.account b.between begun.after reported.wrote begun.wrote);
            }) begun.written)

    -- the run stopped
    pub run_stopped : (merge : MergeState) (counts : Counts) (after : RouterState) (new : Option (List ℕ)) (fault : RunFault)
        → Runs By Only end start merge none_yet state old {A = Unit {0}} counts after new (Err fault) → Stops line family end start state old new merge fault
    run_stopped merge counts after new (Capture reported) s =
        let turns = from_none s.taken counts after new s.turns in (
          record {
            taken = s.taken;
            account = turns.account;
            after = after;
            are = s.are;
            wrote = turns.wrote;
            no_memory = s.no_memory;
            cause = s.cause;
            tallies = s.tallies;
            numbered = s.numbered;
          },
          turns.written,
        )
    run_stopped merge counts after new Output b = broken merge new b
    run_stopped merge counts after new Memory b = broken merge new b

    -- the run went through, and then time passes
    module _ (merge : MergeState) (counts : Counts) (now : RouterState) (new newer : Option (List ℕ)) (r : RunsThrough By Only end start merge none_yet state old counts now new) (moment : ℕ)
        (is_end : moment ≡ end_moment end merge.clock now.machines.moment) where
      all_told : HasWritten line (WritesTurns family r.taken state) now old new none_yet counts
      all_told = from_none r.taken counts now new r.turns

      ends : (way : Account) (after : RouterState) → PassesTime moment now way after → WritesAll family end start state (joined all_told.account way) after
      ends way after passes = record {
        taken = r.taken;
        are = r.are;
        wrote = both (WritesTurns family r.taken state) (PassesToEnd end (clock_of start.clock r.taken)) all_told.account way now after all_told.wrote
            (subst (λ (m : ℕ). PassesTime m now way after) (is_end ∙ ap (λ c. end_moment end c now.machines.moment) r.clock) passes);
      }

      pub all_stopped : HasBegun line (PassesTime moment now) new newer → Begins line family end start state old newer
      all_stopped way =
          inr (begun_more line (WritesTurns family r.taken state) (WritesAll family end start state) now old new newer none_yet counts all_told way.account way.after (ends way.account way.after way.wrote) way.written)

      pub all_passed : (after : RouterState) (more : Counts) → HasWritten line (PassesTime moment now) after new newer counts more
          → HasWritten line (WritesAll family end start state) after old newer none_yet more × CountsAll end start merge
      all_passed after more way = (
        told_more line (WritesTurns family r.taken state) (WritesAll family end start state) now old new newer none_yet counts all_told way.account after more (ends way.account after way.wrote) way.written way.is_counted,
        record { taken = r.taken; are = r.are; tallies = r.tallies },
      )
