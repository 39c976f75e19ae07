-- Where the head of a capture can't be read.
use Rattle.pim_merge.proofs.Words.{◌≡◌, ◌<◌, ◌≤◌, ◌∙◌, ◌∷◌, [], ℕ, List, Err, length, get_or, set, sym, ap, subst, arith, inl}
use Rattle.pim_merge.proofs.Words.{inr, ⊤, map-set, set-get_or, get_or-set_same, CaptureFault, Answer, IsRefusal, CountsReads}
use Rattle.pim_merge.proofs.Words.{OnMemory, turn, fails, LaneState, IsComing, lane_left, records_to_come, lane_at, no_lane}
use Rattle.pim_merge.proofs.Words.{failures_of, LacksHeadRoom, HadAll, KeepsRoom, KeepRooms, tallies_of, IsReadOrRefused}
use Rattle.pim_merge.proofs.Words.{RecordPlace, next_place, IsCause, CountsFailures, LacksMemory, IsNumbered}
use Rattle.pim_merge.proofs.Looking.{one_comes, total_with, as_before, set_keeps, same_tallies, IsLookedUpTo}
use Rattle.pim_merge.proofs.Tallies.{tally_there}
use Rattle.pim_merge.proofs.Turning.{turns_to_fault}

module _ (number : ℕ) (old now : List LaneState) (lane d : LaneState) (fault : CaptureFault) (at : RecordPlace) (below : number < length now) (w : IsLookedUpTo number old now) where
  same_before : get_or now number d ≡ lane_at number old
  same_before = as_before number old now d below w.rest

  is_new : lane ≡ lane_at number (set now number lane)
  is_new = sym (get_or-set_same now number lane no_lane below)

  pub stopped_turn : (captures : List (List Answer)) → IsComing old captures → turn (set captures number (Err fault ∷ [])) ≡ fails number fault
  stopped_turn captures coming = turns_to_fault number now captures fault below w.looked (w.coming captures coming)

  pub stopped_left : lane_left lane ≤ lane_left (get_or now number d) → records_to_come (set now number lane) ≤ records_to_come old
  stopped_left lighter = let total = total_with now number lane d below in omega (arith, total, w.lighter, lighter)

  pub stopped_cause : IsReadOrRefused (get_or now number d) lane fault → IsCause old (set now number lane) (record { capture = number; file = at.file; «record» = at.«record»; fault = fault })
  stopped_cause (inl refused) = inl (subst (λ (l : LaneState). IsRefusal {A = ⊤} (lane_at number old).failures l.failures (Err fault)) is_new
      (subst (λ (l : LaneState). IsRefusal {A = ⊤} l.failures lane.failures (Err fault)) same_before refused))
  stopped_cause (inr reported) = inr (λ captures coming.
      ap (set captures number) (sym (reported (get_or captures number []) (one_comes now captures number d [] below (w.coming captures coming)))) ∙ set-get_or captures number [])

  pub stopped_reads : CountsReads {A = ⊤} (HadAll (get_or now number d)) (get_or now number d).failures lane.failures (Err fault)
      → CountsFailures {A = ⊤} old (Err (record { capture = number; file = at.file; «record» = at.«record»; fault = fault })) (set now number lane)
  stopped_reads reads = (
    map-set (λ (l : LaneState). l.failures) now number lane ∙ (ap (λ l. set l number lane.failures) w.reads ∙ ap (λ (l : LaneState). set (failures_of old) number l.failures) is_new),
    subst (λ (l : LaneState). CountsReads {A = ⊤} (HadAll (lane_at number old)) (lane_at number old).failures l.failures (Err fault)) is_new
        (subst (λ (l : LaneState). CountsReads {A = ⊤} (HadAll l) l.failures lane.failures (Err fault)) same_before reads),
  )

  pub stopped_memory : OnMemory {A = ⊤} (Err fault) (LacksHeadRoom (get_or now number d)) → LacksMemory old (record { capture = number; file = at.file; «record» = at.«record»; fault = fault })
  stopped_memory lacks = subst (λ (l : LaneState). OnMemory {A = ⊤} (Err fault) (LacksHeadRoom l)) same_before lacks

  pub stopped_rooms : KeepsRoom (get_or now number d) lane → KeepRooms old (set now number lane)
  stopped_rooms kept = set_keeps old now number lane below w.rooms (subst (λ (l : LaneState). KeepsRoom l lane) same_before kept)

  pub stopped_tallies : lane.tally ≡ (get_or now number d).tally → tallies_of (set now number lane) ≡ tallies_of old
  stopped_tallies same = same_tallies now number lane d below same ∙ w.tallies

  pub stopped_record : at ≡ next_place lane.tally → lane.tally ≡ (get_or now number d).tally
      → IsNumbered (tallies_of old) (record { capture = number; file = at.file; «record» = at.«record»; fault = fault })
  stopped_record is same =
      let all = is ∙ ap next_place (same ∙ (ap (λ (l : LaneState). l.tally) same_before ∙ tally_there old number)) in
      (ap (λ (p : RecordPlace). p.file) all, ap (λ (p : RecordPlace). p.«record») all)
