-- A run that keeps more than its definition cites.
use Rattle.std.proofs.Common.{ℕ, List, [], ◌∷◌, Option, Ok, Err, ap}
use Rattle.std.specs.Prelude.{Result}
use Rattle.pim_merge.specs.declared.end.End.{End}
use Rattle.pim_merge.specs.Merge.{Taken}
use Rattle.pim_merge.specs.Next.{MergeState}
use Rattle.pim_router.specs.State.{RouterState}
use Rattle.pim_run.specs.declared.fault.RunFault.{RunFault}
use Rattle.pim_run.specs.declared.fault.RunFault.TheVariants.{Capture, Output, Memory}
use Rattle.pim_run.specs.Run.{AreTaken, BreaksOff, Runs}

module _ {K L : Type 0} (seen : K → L) (Takes : Taken → L → RouterState → Option (List ℕ) → L → RouterState → Option (List ℕ) → Type 0)
    (Begins : Taken → L → RouterState → Option (List ℕ) → Option (List ℕ) → Type 0) where
  abbrev pub TakesSeen : Taken → K → RouterState → Option (List ℕ) → K → RouterState → Option (List ℕ) → Type 0
  TakesSeen turn kept state old kept' after new = Takes turn (seen kept) state old (seen kept') after new

  abbrev pub BeginsSeen : Taken → K → RouterState → Option (List ℕ) → Option (List ℕ) → Type 0
  BeginsSeen turn kept state old new = Begins turn (seen kept) state old new

  taken_seen : (turns : List Taken) (kept kept' : K) (state after : RouterState) (old new : Option (List ℕ))
      → AreTaken TakesSeen BeginsSeen turns kept state old kept' after new → AreTaken Takes Begins turns (seen kept) state old (seen kept') after new
  unfolding AreTaken
  taken_seen [] kept kept' state after old new taken = (ap seen taken.0, taken.1, taken.2)
  taken_seen (turn ∷ turns) kept kept' state after old new (next, between, mid, takes, taken) =
      (seen next, between, mid, takes, taken_seen turns next kept' between after mid new taken)

  module _ (end : End) (merge merge' : MergeState) (kept : K) (state : RouterState) (old : Option (List ℕ)) where
    breaks_seen : (new : Option (List ℕ)) → BreaksOff TakesSeen BeginsSeen end merge merge' kept state old new
        → BreaksOff Takes Begins end merge merge' (seen kept) state old new
    breaks_seen new breaks = record {
      taken = breaks.taken;
      kept' = seen breaks.kept';
      between = breaks.between;
      mid = breaks.mid;
      turns = taken_seen breaks.taken kept breaks.kept' state breaks.between old breaks.mid breaks.turns;
      last = breaks.last;
    }

    pub runs_seen : {A : Type 0} (kept' : K) (after : RouterState) (new : Option (List ℕ)) (result : Result A RunFault)
        → Runs TakesSeen BeginsSeen end merge merge' kept state old kept' after new result
        → Runs Takes Begins end merge merge' (seen kept) state old (seen kept') after new result
    runs_seen kept' after new (Ok done) runs = record {
      taken = runs.taken;
      are = runs.are;
      clock = runs.clock;
      tallies = runs.tallies;
      turns = taken_seen runs.taken kept kept' state after old new runs.turns;
    }
    runs_seen kept' after new (Err (Capture reported)) stops = record {
      taken = stops.taken;
      are = stops.are;
      first = stops.first;
      no_memory = stops.no_memory;
      cause = stops.cause;
      tallies = stops.tallies;
      numbered = stops.numbered;
      turns = taken_seen stops.taken kept kept' state after old new stops.turns;
    }
    runs_seen kept' after new (Err Output) breaks = breaks_seen new breaks
    runs_seen kept' after new (Err Memory) breaks = breaks_seen new breaks
