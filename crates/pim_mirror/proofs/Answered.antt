-- The clauses of `mirror`, from the meaning of its result.
use Rattle.pim_mirror.proofs.Words.{◌∙◌, ℕ, List, Result, Ok, Err, sym, AddressFamily, IsRouteTable, Writing, IsWriting}
use Rattle.pim_mirror.proofs.Words.{RouterState, Fresh, Fits, MirrorAnswersForTheForm, Mirrors, MirrorFault}
use Rattle.pim_mirror.specs.MirrorResult.{StandsInTheWindow, HoldsTheRecords, WantsTheDemand, WritesTheMessages, HasNoEcho, KnowsTheWriter, HadRoom, HadNoRoom}
use Rattle.pim_mirror.specs.declared.mirroring.MirrorFault.TheVariants as fault

module _ (law : MirrorAnswersForTheForm) (family : AddressFamily) (writing : Writing) (messages : List (List ℕ)) (fresh : Fresh) (sound : IsRouteTable family fresh.routes) (is_writing : IsWriting family writing)
    (fits : Fits messages writing fresh.routes fresh) where
  pub stands : (result : Result RouterState MirrorFault) → Mirrors family messages fresh result → StandsInTheWindow family writing messages fresh result
  stands (Ok router) course = λ state demanded.
      let is = law family fresh.routes writing state messages fresh (Ok router) sound is_writing demanded fits course in (
        is.window,
        record {
          at_first = (is.at_first.moment_is, is.at_first.routes);
          later = λ moment later window at. let there = is.later moment later window at in (there.moment_is, there.routes);
        },
      )
  stands (Err why) course = λ state demanded. tt

  pub records : (result : Result RouterState MirrorFault) → Mirrors family messages fresh result → HoldsTheRecords family writing messages fresh result
  records (Ok router) course = λ state demanded.
      let is = law family fresh.routes writing state messages fresh (Ok router) sound is_writing demanded fits course in
      record { at_first = is.at_first.holds; later = λ moment later window at. (is.later moment later window at).holds }
  records (Err why) course = λ state demanded. tt

  pub demand : (result : Result RouterState MirrorFault) → Mirrors family messages fresh result → WantsTheDemand family writing messages fresh result
  demand (Ok router) course = λ state demanded.
      let is = law family fresh.routes writing state messages fresh (Ok router) sound is_writing demanded fits course in
      record {
        at_first = λ source group tree valid of_group. demanded.is.wants source group tree valid of_group ∙ sym (is.at_first.demanding.wanted source group tree);
        later = λ moment later window at source group tree valid of_group.
            demanded.is.wants source group tree valid of_group ∙ sym ((is.later moment later window at).demanding.wanted source group tree);
      }
  demand (Err why) course = λ state demanded. tt

  pub writes : (result : Result RouterState MirrorFault) → Mirrors family messages fresh result → WritesTheMessages family writing messages fresh result
  writes (Ok router) course = λ state demanded.
      let is = law family fresh.routes writing state messages fresh (Ok router) sound is_writing demanded fits course in
      record { at_first = is.at_first.demanding; later = λ moment later window at. (is.later moment later window at).demanding }
  writes (Err why) course = λ state demanded. tt

  pub no_echo : (result : Result RouterState MirrorFault) → Mirrors family messages fresh result → HasNoEcho family writing messages fresh result
  no_echo (Ok router) course = λ state demanded.
      let is = law family fresh.routes writing state messages fresh (Ok router) sound is_writing demanded fits course in
      record {
        on_course = λ goes. (law family fresh.routes writing state messages fresh (Ok router) sound is_writing demanded fits goes).no_echo;
        later = λ moment later window at. (is.later moment later window at).no_echo;
      }
  no_echo (Err why) course = λ state demanded. tt

  pub knows : (result : Result RouterState MirrorFault) → Mirrors family messages fresh result → KnowsTheWriter family writing messages fresh result
  knows (Ok router) course = λ state demanded. (law family fresh.routes writing state messages fresh (Ok router) sound is_writing demanded fits course).knows
  knows (Err why) course = λ state demanded. tt

  pub room : (result : Result RouterState MirrorFault) → Mirrors family messages fresh result → HadRoom family writing messages fresh result
  room (Ok router) course = λ state demanded. (law family fresh.routes writing state messages fresh (Ok router) sound is_writing demanded fits course).room
  room (Err why) course = λ state demanded. tt

  pub full : (result : Result RouterState MirrorFault) → Mirrors family messages fresh result → HadNoRoom family writing messages fresh result
  full (Ok router) course = λ state demanded. tt
  full (Err (fault.Full needed)) course = λ state demanded. law family fresh.routes writing state messages fresh (Err (fault.Full needed)) sound is_writing demanded fits course
  full (Err fault.Memory) course = λ state demanded. tt
