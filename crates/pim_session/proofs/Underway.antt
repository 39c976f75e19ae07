-- A session in progress, item by item.
use Rattle.pim_session.proofs.Words.{◌≡◌, ℕ, List, ◌∷◌, Option, None, Some, Result, Ok, Err, refl, subst, IfSome, Appends, Keeps}
use Rattle.pim_session.proofs.Words.{Appends-trans, AppendsFront, Start, Stopped, Item, items_of, Reading, IsItem, IsFirstItem}
use Rattle.pim_session.proofs.Words.{GivesItem, Request, Command, SessionEnd, Whole, Part, Kept, Answers, IsAnswer, AnswersFirst}
use Rattle.pim_session.proofs.Words.{Wrote, Requests, Session, Went, GoesOn, Ended, Begins}
use Rattle.pim_request.specs.declared.input.Stopped.TheVariants as stopped
use Rattle.pim_request.specs.declared.items.Item.{Item as Given}
use Rattle.pim_session.specs.declared.serving.SessionEnd.TheVariants.{Refused, Reset, Input}
use Rattle.pim_session.proofs.Dialogs.{went_none, went_one, went_on, went_all, went_first, went_front, front_one, keeps_nil}

-- the begin
pub begun : (start : Session) (coming old : Option (List ℕ)) → IfSome coming (λ bytes. GoesOn start (items_of bytes) old old coming start)
begun start None old = tt
begun start (Some bytes) None = record { rest = bytes; known = refl; went = went_none start (items_of bytes) None None tt }
begun start (Some bytes) (Some xs) = record { rest = bytes; known = refl; went = went_none start (items_of bytes) (Some xs) (Some xs) refl }

-- what grew after it stayed the same
kept_then : (old mid new : Option (List ℕ)) (text : List ℕ) → Keeps old mid → Appends mid new text → Appends old new text
kept_then old mid new text keeps written = Appends-trans old mid new _ text (keeps_nil old mid keeps) written

front_then : (old mid new : Option (List ℕ)) (text : List ℕ) → Keeps old mid → AppendsFront mid new text → AppendsFront old new text
front_then None mid new text keeps written = tt
front_then (Some xs) None new text keeps written = absurd keeps
front_then (Some xs) (Some ys) new text keeps written = subst (λ (l : List ℕ). AppendsFront (Some l) new text) keeps written

-- a fact on known bytes, from another one
pub on_some : (from : Option (List ℕ)) (P Q : List ℕ → Type 0) → ((bytes : List ℕ) → P bytes → Q bytes) → IfSome from P → IfSome from Q
on_some None P Q more p = tt
on_some (Some bytes) P Q more p = more bytes p

-- ---- the ends

module _ (start now : Session) (items left : List Item) (old mid later new coming : Option (List ℕ)) (kept : List Kept) (refused : Session) (w : Went start items old mid left now) (keeps : Keeps mid later) where
  stays : Went start items old later left now
  stays = went_on start now items left old mid later w now left (went_none now left mid later keeps)

  pub ended_after : (r : Result SessionEnd Stopped) → Ended now left later new coming kept refused r → Ended start items old new coming kept refused r
  ended_after (Ok Reset) it = record { rest = it.rest; known = it.known; went = went_on start now items left old later new stays _ (items_of it.rest) it.went }
  ended_after (Ok Refused) it = record { rest = it.rest; known = it.known; went = went_on start now items left old later new stays refused (items_of it.rest) it.went }
  ended_after (Ok Input) it = went_all start now items left old later new stays it
  ended_after (Err stopped.Input) it = went_first start now items left old later new stays it
  ended_after (Err stopped.Output) it = went_front start now items left old later new stays it

-- what is known of one item, after some
module _ (start now : Session) (items : List Item) (old mid later coming : Option (List ℕ)) (w : GoesOn start items old mid coming now) (keeps : Keeps mid later)
    (item : Given) (reading : Reading) (gives : IfSome coming (λ bytes. GivesItem bytes (Ok (Some item)) reading)) (requested : Result Request (List ℕ))
    (requests : (some : Item) → IsItem some item reading → Requests some requested) where
  first_item : IsFirstItem w.rest item reading
  first_item = subst (λ (c : Option (List ℕ)). IfSome c (λ bytes. GivesItem bytes (Ok (Some item)) reading)) w.known gives

  so_far : Went start items old mid (first_item.first ∷ items_of first_item.rest) now
  so_far = subst (λ (l : List Item). Went start items old mid l now) first_item.items w.went

  answer_of : (text : List ℕ) (after : Session) → Answers now requested text after → IsAnswer now first_item.first text after
  answer_of text after answers = record { requested = requested; requests = requests first_item.first first_item.is; answers = answers }

  pub answered_here : (new : Option (List ℕ)) (after : Session) → Whole (Answers now requested) later new after → GoesOn start items old new reading.coming after
  answered_here new after it = record {
    rest = first_item.rest;
    known = first_item.coming;
    went = went_on start now items (first_item.first ∷ items_of first_item.rest) old mid new so_far after (items_of first_item.rest)
        (went_one now after first_item.first (items_of first_item.rest) mid new it.text (answer_of it.text after it.does) (kept_then mid later new it.text keeps it.written));
  }

  pub failed_here : (new : Option (List ℕ)) → Part (Answers now requested) later new → Wrote (AnswersFirst start items) (AppendsFront old new)
  failed_here new it =
      went_front start now items (first_item.first ∷ items_of first_item.rest) old mid new so_far
      (front_one now it.after first_item.first (items_of first_item.rest) mid new it.text (answer_of it.text it.after it.does) (front_then mid later new it.text keeps it.written))

  -- an item that asks for a start
  pub started_here : (new later_coming : Option (List ℕ)) (kept : List Kept) (r : Result SessionEnd Stopped) → requested ≡ Ok (Command Start) → IfSome reading.coming (λ bytes. Begins now bytes later new later_coming kept r)
      → Ended start items old new later_coming kept now r
  started_here new later_coming kept r is begins =
      let first = first_item in
      let begin : Begins now first.rest later new later_coming kept r = subst (λ (c : Option (List ℕ)). IfSome c (λ bytes. Begins now bytes later new later_coming kept r)) first.coming begins in
      let ended : Ended now (first.first ∷ items_of first.rest) later new later_coming kept now r = begin first.first (subst (λ (a : Result Request (List ℕ)). Requests first.first a) is (requests first.first first.is)) in
      ended_after start now items (first.first ∷ items_of first.rest) old mid later new later_coming kept now so_far keeps r ended

-- ---- the same, where the input may not be known

module _ (from old mid later coming : Option (List ℕ)) (start now : Session) (item : Given) (reading : Reading) (requested : Result Request (List ℕ)) where
  -- an item was answered
  pub answered : IfSome from (λ bytes. GoesOn start (items_of bytes) old mid coming now) → Keeps mid later → IfSome coming (λ bytes. GivesItem bytes (Ok (Some item)) reading)
      → ((some : Item) → IsItem some item reading → Requests some requested) → (new : Option (List ℕ)) (after : Session) → Whole (Answers now requested) later new after
      → IfSome from (λ bytes. GoesOn start (items_of bytes) old new reading.coming after)
  answered w keeps gives requests new after it = on_some from (λ bytes. GoesOn start (items_of bytes) old mid coming now) (λ bytes. GoesOn start (items_of bytes) old new reading.coming after)
      (λ bytes v. answered_here start now (items_of bytes) old mid later coming v keeps item reading gives requested requests new after it) w

  -- the answer to an item was written in part
  pub failed : IfSome from (λ bytes. GoesOn start (items_of bytes) old mid coming now) → Keeps mid later → IfSome coming (λ bytes. GivesItem bytes (Ok (Some item)) reading)
      → ((some : Item) → IsItem some item reading → Requests some requested) → (new : Option (List ℕ)) → Part (Answers now requested) later new
      → IfSome from (λ bytes. Wrote (AnswersFirst start (items_of bytes)) (AppendsFront old new))
  failed w keeps gives requests new it = on_some from (λ bytes. GoesOn start (items_of bytes) old mid coming now) (λ bytes. Wrote (AnswersFirst start (items_of bytes)) (AppendsFront old new))
      (λ bytes v. failed_here start now (items_of bytes) old mid later coming v keeps item reading gives requested requests new it) w

  -- an item asked for a start
  pub started : IfSome from (λ bytes. GoesOn start (items_of bytes) old mid coming now) → Keeps mid later → IfSome coming (λ bytes. GivesItem bytes (Ok (Some item)) reading)
      → ((some : Item) → IsItem some item reading → Requests some requested) → (new later_coming : Option (List ℕ)) (kept : List Kept) (r : Result SessionEnd Stopped) → requested ≡ Ok (Command Start)
      → IfSome reading.coming (λ bytes. Begins now bytes later new later_coming kept r) → IfSome from (λ bytes. Ended start (items_of bytes) old new later_coming kept now r)
  started w keeps gives requests new later_coming kept r is begins = on_some from (λ bytes. GoesOn start (items_of bytes) old mid coming now) (λ bytes. Ended start (items_of bytes) old new later_coming kept now r)
      (λ bytes v. started_here start now (items_of bytes) old mid later coming v keeps item reading gives requested requests new later_coming kept r is begins) w
