-- The loops over items: each way on and each end.
use Rattle.pim_session.proofs.Words.{◌≡◌, ◌<◌, ℕ, Bool, true, false, List, [], ◌∷◌, map, inr, Option, None, Some, Result, Ok, Err}
use Rattle.pim_session.proofs.Words.{refl, sym, subst, IfSome, Appends, Keeps, AppendsFront, Start, Stopped, Item, items_of}
use Rattle.pim_session.proofs.Words.{Reading, IsItem, GivesItem, LeavesLess, Request, Command, SessionEnd, Whole, RefusedBy}
use Rattle.pim_session.proofs.Words.{OrMemory, Done, Kept, AddressFamily, config_faults, RouterState, new_router, ok_line}
use Rattle.pim_session.proofs.Words.{fault_line, memory_line, Answers, session_in, Converses, IsAnswer, Starts, config_words}
use Rattle.pim_session.proofs.Words.{setup_of, Requests, Gathered, Phase, Session, gathering, serving, Configured, GoesOn, Ended}
use Rattle.pim_session.proofs.Words.{Begins, BeginsServing, IsRefused}
use Rattle.pim_request.specs.declared.input.Stopped.TheVariants as stopped
use Rattle.pim_request.specs.declared.items.Item.{Item as Given}
use Rattle.pim_session.specs.declared.serving.SessionEnd.TheVariants.{Refused, Reset, Input}
use Rattle.pim_session.proofs.Underway.{on_some, started, ended_after}
use Rattle.pim_session.proofs.Dialogs.{went_one, front_one}

module _ (from old mid later coming : Option (List ℕ)) (start now : Session) (w : IfSome from (λ bytes. GoesOn start (items_of bytes) old mid coming now)) (keeps : Keeps mid later) where
  -- a start, after it was recognised
  pub started_so : (later' new left : Option (List ℕ)) (now' : Session) (item : Given) (reading : Reading) (requested : Result Request (List ℕ)) (kept : List Kept) (r : Result SessionEnd Stopped)
      → IfSome coming (λ bytes. GivesItem bytes (Ok (Some item)) reading) → ((some : Item) → IsItem some item reading → Requests some requested)
      → (requested ≡ Ok (Command Start)) × (later' ≡ later) × (now' ≡ now)
      → IfSome reading.coming (λ bytes. Begins now' bytes later' new left kept r) → IfSome from (λ bytes. Ended start (items_of bytes) old new left kept now' r)
  started_so later' new left now' item reading requested kept r gives requests (recognised, same, after) begins =
      subst (λ (n : Session). IfSome from (λ bytes. Ended start (items_of bytes) old new left kept n r)) (sym after)
      (started from old mid later coming start now item reading requested w keeps gives requests new left kept r recognised
      (subst (λ (l : Option (List ℕ)). IfSome reading.coming (λ bytes. Begins now bytes l new left kept r)) same
      (subst (λ (n : Session). IfSome reading.coming (λ bytes. Begins n bytes later' new left kept r)) after begins)))

-- the end of all, where a start ended it
pub all_by_start : (from old new left : Option (List ℕ)) (start refused : Session) (kept : List Kept) (s : Stopped) → IfSome from (λ bytes. Ended start (items_of bytes) old new left kept refused (Err s))
    → IfSome from (λ bytes. Converses start bytes old new (Err s))
all_by_start from old new left start refused kept stopped.Input it = it
all_by_start from old new left start refused kept stopped.Output it = it

-- ---- what a call gave

pub one_given : (coming : Option (List ℕ)) (found : Option Given) (item : Given) (reading : Reading) → found ≡ Some item → IfSome coming (λ bytes. GivesItem bytes (Ok found) reading) → IfSome coming (λ bytes. GivesItem bytes (Ok (Some item)) reading)
one_given coming found item reading is gives = subst (λ (f : Option Given). IfSome coming (λ bytes. GivesItem bytes (Ok f) reading)) is gives

pub one_less : (found : Option Given) (item : Given) (old new : ℕ) → found ≡ Some item → LeavesLess {A = Given} (Ok found) old new → new < old
one_less found item old new is less = subst (λ (f : Option Given). LeavesLess {A = Given} (Ok f) old new) is less

-- ---- the start

same_keeps : (now : Option (List ℕ)) → Keeps now now
same_keeps None = tt
same_keeps (Some xs) = refl

pub begun_serving : (from old mid new coming : Option (List ℕ)) (start served : Session) (kept : List Kept) (r : Result SessionEnd Stopped) → Appends old mid ok_line
    → IfSome from (λ bytes. Ended served (items_of bytes) mid new coming kept start r) → IfSome from (λ bytes. BeginsServing start bytes served old new coming kept r)
begun_serving from old mid new coming start served kept r written = on_some from (λ bytes. Ended served (items_of bytes) mid new coming kept start r) (λ bytes. BeginsServing start bytes served old new coming kept r)
    (λ bytes it item answer. ended_after start served (item ∷ items_of bytes) (items_of bytes) old mid mid new coming kept start
    (went_one start served item (items_of bytes) old mid ok_line answer written) (same_keeps mid) r it)

pub begun_failed : (from old new coming : Option (List ℕ)) (start served : Session) (kept : List Kept) → AppendsFront old new ok_line → IfSome from (λ bytes. BeginsServing start bytes served old new coming kept (Err stopped.Output))
begun_failed None old new coming start served kept written = tt
begun_failed (Some bytes) old new coming start served kept written = λ item answer. front_one start served item (items_of bytes) old new ok_line answer written

module _ (gathered : Gathered) (kept : List Kept) where
  answer_start : (item : Item) (text : List ℕ) (phase : Phase) → Requests item (Ok (Command Start)) → Starts gathered.family gathered text phase → IsAnswer (session_in (gathering gathered) kept) item text (session_in phase kept)
  answer_start item text phase requests starts = record { requested = Ok (Command Start); requests = requests; answers = (phase, starts, refl) }

  pub start_served : (from old new coming : Option (List ℕ)) (phase : Phase) (later : List Kept) (r : Result SessionEnd Stopped) → Starts gathered.family gathered ok_line phase
      → IfSome from (λ bytes. BeginsServing (session_in (gathering gathered) kept) bytes (session_in phase kept) old new coming later r) → IfSome from (λ bytes. Begins (session_in (gathering gathered) kept) bytes old new coming later r)
  start_served from old new coming phase later r starts = on_some from (λ bytes. BeginsServing (session_in (gathering gathered) kept) bytes (session_in phase kept) old new coming later r)
      (λ bytes. Begins (session_in (gathering gathered) kept) bytes old new coming later r) (λ bytes it item requests. it item (answer_start item ok_line phase requests starts))

  pub start_refused : (from old new : Option (List ℕ)) (words : List ℕ) (r : Result SessionEnd Stopped) → Starts gathered.family gathered (fault_line words) (gathering gathered) → IsRefused words old new r
      → IfSome from (λ bytes. Begins (session_in (gathering gathered) kept) bytes old new from kept r)
  start_refused None old new words r starts it = tt
  start_refused (Some bytes) old new words (Ok Refused) starts it = λ item requests. record {
    rest = bytes;
    known = refl;
    went = went_one (session_in (gathering gathered) kept) (session_in (gathering gathered) kept) item (items_of bytes) old new (fault_line words) (answer_start item (fault_line words) (gathering gathered) requests starts) it;
  }
  start_refused (Some bytes) old new words (Ok Reset) starts it = absurd it
  start_refused (Some bytes) old new words (Ok Input) starts it = absurd it
  start_refused (Some bytes) old new words (Err stopped.Input) starts it = absurd it
  start_refused (Some bytes) old new words (Err stopped.Output) starts it = λ item requests.
      front_one (session_in (gathering gathered) kept) (session_in (gathering gathered) kept) item (items_of bytes) old new (fault_line words) (answer_start item (fault_line words) (gathering gathered) requests starts) it

-- memory is refused where the router is made

if_made : (words : List (List ℕ)) (gathered : Gathered) (phase : Phase) (Does : List ℕ → Phase → Type 0) → (phase ≡ gathering gathered → ⊥) → RefusedBy words (gathering gathered) (OrMemory (gathering gathered) Does) ok_line phase
    → RefusedBy words (gathering gathered) (OrMemory (gathering gathered) Does) memory_line (gathering gathered)
if_made [] gathered phase Does other it = inr (refl, refl)
if_made (first ∷ words) gathered phase Does other it = absurd (other it.1)

pub memory_instead : (fixed : Option AddressFamily) (gathered : Gathered) (family : AddressFamily) (router : RouterState) → Starts fixed gathered ok_line (serving family router) → Starts fixed gathered memory_line (gathering gathered)
memory_instead None gathered family router it = absurd cc
memory_instead (Some fixed) gathered family router it =
    if_made (map config_words (config_faults fixed (setup_of gathered))) gathered (serving family router) (Done (serving fixed (new_router (setup_of gathered)))) (λ same. absurd cc) it

-- ---- whether a start is asked for

pub recognised : (E : Type 0) (begin after : Session) (requested : Result Request (List ℕ)) (old new : Option (List ℕ)) (starts : Bool) → starts ≡ true → Configured {E = E} begin requested old new (Ok starts) after
    → (requested ≡ Ok (Command Start)) × (new ≡ old) × (after ≡ begin)
recognised E begin after requested old new true is it = it
recognised E begin after requested old new false is it = absurd cc

pub not_recognised : (E : Type 0) (begin after : Session) (requested : Result Request (List ℕ)) (old new : Option (List ℕ)) (starts : Bool) → starts ≡ false → Configured {E = E} begin requested old new (Ok starts) after
    → Whole (Answers begin requested) old new after
not_recognised E begin after requested old new true is it = absurd cc
not_recognised E begin after requested old new false is it = it
