-- Captures that are opened one by one.
use Rattle.std.proofs.Common.{◌≡◌, ◌∙◌, ◌+◌, sym, ap, subst, refl, arith, ℕ, zero, suc, ◌<◌, ◌≤◌, Bool, cond, true, false, List, [], ◌∷◌, ◌++◌, length, take, drop, get_or, map, option_map, Option, None, Some, append-nil, take-suc, drop-cons, take_all}
use Rattle.pim_files.proofs.Words.{slice_index_or, filter, AllByRecursion, take-append-drop, map-append, length-map}
use Rattle.pim_files.proofs.Words.{length-append, filter-append, Answer, answers, LaneState, coming_on, tallies_of, MergeState}
use Rattle.pim_files.proofs.Words.{IsUntaken, More, Port, is_side, is_of, Files, PortFiles, with_more, files_from, files_of}
use Rattle.pim_files.proofs.Words.{all_files, names_of, given_by, choice_of, results_by, results_of, AreReaders, HaveFiles, AreFiles}
use Rattle.pim_files.proofs.Words.{HoldFiles, are_of, of_router, one_of, AddsLane, AddsUntaken}
use Rattle.std.proofs.lemmas.List.Concat.{flat_map-append}
use Rattle.pim_merge.specs.Chosen.{all_known, known_too, answers_of_files}
use Rattle.pim_merge.specs.declared.tally.Tally.{Tally}
use Rattle.pim_merge.specs.Tally.{no_tally}
use Rattle.pim_words.specs.declared.fault.RouterSide.{RouterSide}
use Rattle.pim_words.specs.declared.task.LinkWord.{LinkWord}

-- ---- what was taken

-- of none
pub new_untaken : (merge : MergeState) → merge.lanes ≡ [] → merge.clock ≡ None → IsUntaken merge
new_untaken merge none clock = (clock, subst (λ (lanes : List LaneState). AllByRecursion (λ tally. tally ≡ no_tally) (tallies_of lanes)) (sym none) tt)

all_untaken : (tallies : List Tally) → AllByRecursion (λ tally. tally ≡ no_tally) tallies → AllByRecursion (λ tally. tally ≡ no_tally) (tallies ++ no_tally ∷ [])
all_untaken [] all = (refl, tt)
all_untaken (tally ∷ tallies) all = (all.0, all_untaken tallies all.1)

-- of one capture more
pub one_untaken : (old new : MergeState) → IsUntaken old → new.clock ≡ old.clock → tallies_of new.lanes ≡ tallies_of old.lanes ++ no_tally ∷ [] → IsUntaken new
one_untaken old new none clock more =
    (clock ∙ none.0, subst (λ (l : List Tally). AllByRecursion (λ tally. tally ≡ no_tally) l) (sym more) (all_untaken (tallies_of old.lanes) none.1))

same_untaken : (old new : MergeState) → IsUntaken old → new.clock ≡ old.clock → tallies_of new.lanes ≡ tallies_of old.lanes → IsUntaken new
same_untaken old new none clock same = (clock ∙ none.0, subst (λ (l : List Tally). AllByRecursion (λ tally. tally ≡ no_tally) l) (sym same) none.1)

more_if : (b : Bool) (old new : MergeState) → IsUntaken old → new.clock ≡ old.clock → tallies_of new.lanes ≡ tallies_of old.lanes ++ cond b (no_tally ∷ []) [] → IsUntaken new
more_if true old new none clock more = one_untaken old new none clock more
more_if false old new none clock more = same_untaken old new none clock (more ∙ append-nil (tallies_of old.lanes))

-- of one more, if it is one of this router
pub untaken_if : (side other : RouterSide) (old new : MergeState) → IsUntaken old → new.clock ≡ old.clock → AddsUntaken side other old.lanes new.lanes → IsUntaken new
untaken_if side other old new none clock more = more_if (is_side side other) old new none clock more

-- no captures of no ports
pub none_held : (A : Type 0) (known : Option Files) (lanes : List LaneState) → lanes ≡ [] → HoldFiles {A = A} known [] lanes
none_held A None lanes none = tt
none_held A (Some files) lanes none = record { results = []; are = refl; coming = ap (map coming_on) none }

-- one capture more
pub lanes_more : (lanes lanes' : List LaneState) (one : Option (List Answer)) → map coming_on lanes' ≡ map coming_on lanes ++ one ∷ [] → length lanes' ≡ length lanes + 1
lanes_more lanes lanes' one more =
    sym (length-map lanes' coming_on) ∙ ap length more ∙ length-append (map coming_on lanes) (one ∷ []) ∙ ap (λ n. n + 1) (length-map lanes coming_on)

-- ---- the results of a port's files

-- for these bytes
abbrev results_from : Option LinkWord → List (List ℕ) → List Answer
results_from None [] = []
results_from None (content ∷ contents) = answers content
results_from (Some link) contents = answers_of_files (choice_of link) contents

known_map : {X : Type 0} (f : X → Option (List ℕ)) (xs : List X) → all_known f xs ≡ all_known (λ (o : Option (List ℕ)). o) (map f xs)
known_map f [] = refl
known_map f (x ∷ xs) = ap (known_too (f x)) (known_map f xs)

known_some : (contents : List (List ℕ)) → all_known (λ (o : Option (List ℕ)). o) (map Some contents) ≡ Some contents
known_some [] = refl
known_some (content ∷ contents) = ap (known_too (Some content)) (known_some contents)

by_map : {X : Type 0} (f : X → Option (List ℕ)) (link : Option LinkWord) (xs : List X) → results_by f link xs ≡ results_by (λ (o : Option (List ℕ)). o) link (map f xs)
by_map f None [] = refl
by_map f None (x ∷ xs) = refl
by_map f (Some link) xs = ap (option_map (answers_of_files (choice_of link))) (known_map f xs)

by_some : (link : Option LinkWord) (contents : List (List ℕ)) → results_by (λ (o : Option (List ℕ)). o) link (map Some contents) ≡ Some (results_from link contents)
by_some None [] = refl
by_some None (content ∷ contents) = refl
by_some (Some link) contents = ap (option_map (answers_of_files (choice_of link))) (known_some contents)

by_contents : {X : Type 0} (f : X → Option (List ℕ)) (link : Option LinkWord) (xs : List X) (contents : List (List ℕ)) → map f xs ≡ map Some contents → results_by f link xs ≡ Some (results_from link contents)
by_contents f link xs contents are = by_map f link xs ∙ ap (results_by (λ (o : Option (List ℕ)). o) link) are ∙ by_some link contents

-- those of the first reader alone
pub classic_results : {R : Type 0} (remaining : R → Option (List ℕ)) (readers : List R) (reader : R) → 0 < length readers → reader ≡ slice_index_or readers 0 reader
    → option_map answers (remaining reader) ≡ results_by remaining None readers
classic_results remaining [] reader some is = absurd (omega (arith, some))
classic_results remaining (first ∷ others) reader some is = ap (λ r. option_map answers (remaining r)) is

module _ {A : Type 0} where
  -- ---- ports before a place

  length_from : (number : ℕ) (further : List More) (ports : List (Port A)) → length (files_from number further ports) ≡ length ports
  length_from number further [] = refl
  length_from number further (port ∷ ports) = ap suc (length_from (suc number) further ports)

  at_place : (start : ℕ) (further : List More) (ports : List (Port A)) (place number : ℕ) (port : Port A) (other : PortFiles A) → number ≡ start + place → place < length ports
      → port ≡ get_or ports place port → get_or (files_from start further ports) place other ≡ with_more number further port
  at_place start further [] place number port other is below here = absurd (omega (arith, below))
  at_place start further (first ∷ ports) zero number port other is below here =
      let same : start ≡ number = omega (arith, is) in
      ap (λ n. with_more n further first) same ∙ ap (λ p. with_more number further p) (sym here)
  at_place start further (first ∷ ports) (suc place) number port other is below here =
      at_place (suc start) further ports place number port other (omega (arith, is)) (omega (arith, below)) here

  module _ (further : List More) (ports : List (Port A)) (place number : ℕ) (port : Port A) (same : number ≡ place) (below : place < length ports) (here : port ≡ get_or ports place port) where
    below_too : place < length (files_from 0 further ports)
    below_too = omega (arith, below, length_from 0 further ports)

    this : get_or (files_from 0 further ports) place (with_more number further port) ≡ with_more number further port
    this = at_place 0 further ports place number port (with_more number further port) (omega (arith, same)) below here

    -- one more port
    one_more_port : (next : ℕ) → next ≡ suc place → take next (files_from 0 further ports) ≡ take place (files_from 0 further ports) ++ with_more number further port ∷ []
    one_more_port next is =
        ap (λ n. take n (files_from 0 further ports)) is
        ∙ take-suc (files_from 0 further ports) place (with_more number further port) below_too
        ∙ ap (λ p. take place (files_from 0 further ports) ++ p ∷ []) this

    -- the files of one more port
    pub one_more_files : (next : ℕ) → next ≡ suc place
        → all_files (take next (files_from 0 further ports)) ≡ all_files (take place (files_from 0 further ports)) ++ files_of (with_more number further port)
    one_more_files next is =
        ap all_files (one_more_port next is)
        ∙ flat_map-append files_of (take place (files_from 0 further ports)) (with_more number further port ∷ [])
        ∙ ap (λ l. all_files (take place (files_from 0 further ports)) ++ l) (append-nil (files_of (with_more number further port)))

    -- all files, around those of the port at this place
    pub files_around : all_files (files_from 0 further ports)
        ≡ all_files (take place (files_from 0 further ports)) ++ (files_of (with_more number further port) ++ all_files (drop (suc place) (files_from 0 further ports)))
    files_around =
        ap all_files (sym (take-append-drop place (files_from 0 further ports))
        ∙ ap (λ l. take place (files_from 0 further ports) ++ l)
        (drop-cons (files_from 0 further ports) place (with_more number further port) below_too ∙ ap (λ p. p ∷ drop (suc place) (files_from 0 further ports)) this))
        ∙ flat_map-append files_of (take place (files_from 0 further ports)) (with_more number further port ∷ drop (suc place) (files_from 0 further ports))

  counted : (b : Bool) (port : Port A) (ports : List (Port A)) → length (cond b (port ∷ ports) ports) ≡ cond b 1 0 + length ports
  counted true port ports = omega arith
  counted false port ports = omega arith

  -- the ports of a router from a place on
  pub one_less_of : (side : RouterSide) (ports : List (Port A)) (place next : ℕ) (port : Port A) → next ≡ suc place → place < length ports → port ≡ get_or ports place port
      → length (filter (is_of side) (drop place ports)) ≡ one_of side port.side + length (filter (is_of side) (drop next ports))
  one_less_of side ports place next port is below here =
      ap (λ l. length (filter (is_of side) l)) (drop-cons ports place port below ∙ ap (λ p. p ∷ drop (suc place) ports) (sym here))
      ∙ counted (is_side side port.side) port (filter (is_of side) (drop (suc place) ports))
      ∙ ap (λ n. one_of side port.side + length (filter (is_of side) (drop n ports))) (sym is)

  -- ---- captures

  module _ {R : Type 0} (remaining : R → Option (List ℕ)) (it : PortFiles A) (readers : List R) (lanes lanes' : List LaneState) where
    one_more_result : (files : Files) (ports : List (PortFiles A)) → AreFiles files ports lanes → AreReaders remaining files (files_of it) readers
        → map coming_on lanes' ≡ map coming_on lanes ++ results_by remaining it.port.link readers ∷ [] → AreFiles files (ports ++ it ∷ []) lanes'
    one_more_result files ports are opened more =
        let results : List Answer = results_from it.port.link opened.contents in
        let by_files : results_of files it ≡ Some results = by_contents (given_by files) it.port.link (files_of it) opened.contents opened.are in
        let by_readers : results_by remaining it.port.link readers ≡ Some results = by_contents remaining it.port.link readers opened.contents opened.given in
        record {
          results = are.results ++ results ∷ [];
          are = map-append (results_of files) ports (it ∷ [])
              ∙ ap (λ l. l ++ results_of files it ∷ []) are.are
              ∙ ap (λ o. map Some are.results ++ o ∷ []) by_files
              ∙ sym (map-append Some are.results (results ∷ []));
          coming = more
              ∙ ap (λ l. l ++ results_by remaining it.port.link readers ∷ []) are.coming
              ∙ ap (λ o. map Some are.results ++ o ∷ []) by_readers
              ∙ sym (map-append Some are.results (results ∷ []));
        }

    -- one more capture
    one_more_held : (known : Option Files) (ports : List (PortFiles A)) → HoldFiles known ports lanes → HaveFiles remaining known (files_of it) readers
        → map coming_on lanes' ≡ map coming_on lanes ++ results_by remaining it.port.link readers ∷ [] → HoldFiles known (ports ++ it ∷ []) lanes'
    one_more_held None ports are opened more = tt
    one_more_held (Some files) ports are opened more = one_more_result files ports are opened more

    coming_same : (known : Option Files) (ports : List (PortFiles A)) → map coming_on lanes' ≡ map coming_on lanes → HoldFiles known ports lanes → HoldFiles known ports lanes'
    coming_same None ports same are = tt
    coming_same (Some files) ports same are = record { results = are.results; are = are.are; coming = same ∙ are.coming }

    one_more_if : (known : Option Files) (ports : List (PortFiles A)) (b : Bool) → HoldFiles known ports lanes → HaveFiles remaining known (files_of it) readers
        → map coming_on lanes' ≡ map coming_on lanes ++ cond b (results_by remaining it.port.link readers ∷ []) [] → HoldFiles known (ports ++ cond b (it ∷ []) []) lanes'
    one_more_if known ports true are opened more = one_more_held known ports are opened more
    one_more_if known ports false are opened more =
        subst (λ l. HoldFiles known l lanes') (sym (append-nil ports)) (coming_same known ports (more ∙ append-nil (map coming_on lanes)) are)

  module _ {R : Type 0} (remaining : R → Option (List ℕ)) (known known' : Option Files) (same_known : known' ≡ known) (further : List More) (ports : List (Port A)) (place next number : ℕ) (port : Port A)
      (is : next ≡ suc place) (same : number ≡ place) (below : place < length ports) (here : port ≡ get_or ports place port) (readers : List R) (lanes lanes' : List LaneState)
      (opened : HaveFiles remaining known' (files_of (with_more number further port)) readers) where
    opened_now : HaveFiles remaining known (files_of (with_more number further port)) readers
    opened_now = subst (λ (k : Option Files). HaveFiles remaining k (files_of (with_more number further port)) readers) same_known opened

    more_ports : take next (files_from 0 further ports) ≡ take place (files_from 0 further ports) ++ with_more number further port ∷ []
    more_ports = one_more_port further ports place number port same below here next is

    -- the capture of the port at this place
    pub one_more_lane : HoldFiles known (take place (files_from 0 further ports)) lanes → map coming_on lanes' ≡ map coming_on lanes ++ results_by remaining port.link readers ∷ []
        → HoldFiles known (take next (files_from 0 further ports)) lanes'
    one_more_lane are more =
        subst (λ l. HoldFiles known l lanes') (sym more_ports)
        (one_more_held remaining (with_more number further port) readers lanes lanes' known (take place (files_from 0 further ports)) are opened_now more)

    -- the same, if it is one of this router
    pub one_more_of : (side : RouterSide) → HoldFiles known (of_router side (take place (files_from 0 further ports))) lanes
        → AddsLane side port.side (results_by remaining port.link readers) lanes lanes' → HoldFiles known (of_router side (take next (files_from 0 further ports))) lanes'
    one_more_of side are more =
        subst (λ l. HoldFiles known l lanes')
        (sym (ap (of_router side) more_ports ∙ filter-append (are_of side) (take place (files_from 0 further ports)) (with_more number further port ∷ [])))
        (one_more_if remaining (with_more number further port) readers lanes lanes' known (of_router side (take place (files_from 0 further ports))) (is_side side port.side) are opened_now more)

  -- all ports
  pub all_ports : (further : List More) (ports : List (Port A)) (place : ℕ) → length ports ≤ place → take place (files_from 0 further ports) ≡ files_from 0 further ports
  all_ports further ports place over = take_all place (files_from 0 further ports) (omega (arith, over, length_from 0 further ports))
