-- What `mirror` promises where its messages are the canonical ones of a state: one definition for
-- each clause (RFC 7761, 4.1, 4.5 and 4.9.5).
use Rattle.std.specs.Prelude.{◌≡◌, ℕ, ◌≤◌, ◌<◌, false, List, length, None, Some, Result, Ok, Err, IfOk}
use Rattle.std.specs.List.{list_any}
use Rattle.pim_addr.specs.declared.family.AddressFamily.{AddressFamily}
use Rattle.pim_down.specs.Time.{Downstream}
use Rattle.pim_form.specs.NormalForm.{GroupForm}
use Rattle.pim_form.specs.Messages.{Writing}
use Rattle.pim_router.specs.State.{RouterState}
use Rattle.pim_mirror.specs.CanonicalMirror.{DemandsAgain}
use Rattle.pim_mirror.specs.Config.{Fresh, newest_first, end_of}
use Rattle.pim_mirror.specs.Fits.{OthersStay}
use Rattle.pim_mirror.specs.Headline.{AreMessagesOf, WantsDemandOf, fresh_exchange, IsInWindow, IsAt, is_echo}
use Rattle.pim_mirror.specs.Headline.{HoldsTheForm, KnowsItsWriter, all_entries, first_over}
use Rattle.pim_mirror.specs.Mirror.{GoesThrough}
use Rattle.pim_mirror.specs.declared.mirroring.MirrorFault.{MirrorFault}
use Rattle.pim_mirror.specs.declared.mirroring.MirrorFault.TheVariants as fault

-- The router is so at its final moment, and at every moment of the window to which it runs on.
pub record InTheWindow (writing : Writing) (fresh : Fresh) (Is : ℕ → RouterState → Type 0) (router : RouterState)
    : Type 0 where
  pub at_first : Is (end_of fresh) router
  pub later : (moment : ℕ) (later : RouterState) → IsInWindow writing fresh moment → IsAt moment router later →
      Is moment later

-- No PruneEcho is reported on the course of the router, nor up to any moment of the window.
pub record IsQuiet (family : AddressFamily) (writing : Writing) (messages : List (List ℕ)) (fresh : Fresh)
    (router : RouterState) : Type 0 where
  pub on_course : (course : GoesThrough family messages fresh None router) → list_any is_echo course.reported ≡ false
  pub later : (moment : ℕ) (later : RouterState) → IsInWindow writing fresh moment →
      (at : IsAt moment router later) → list_any is_echo at.reported ≡ false

-- What `Full` says: the number that it names is so.
abbrev pub IfFull : Result RouterState MirrorFault → (ℕ → Type 0) → Type 0
IfFull (Ok router) Is = Unit {0}
IfFull (Err (fault.Full needed)) Is = Is needed
IfFull (Err fault.Memory) Is = Unit {0}

module _ (family : AddressFamily) (writing : Writing) (messages : List (List ℕ)) (fresh : Fresh) where
  -- It is so of each state whose canonical messages these are, under the fresh router's table. The
  -- form is that of what the state asks of the writer's upstream neighbour.
  abbrev pub OfEachState : (Downstream → List GroupForm → Type 0) → Type 0
  OfEachState Is =
      (state : Downstream) → (demanded : AreMessagesOf family fresh.routes writing state messages) → Is state demanded.form

  -- The final moment is in the window. The router is then at that moment, and at each later one to
  -- which it runs, under the same table.
  abbrev pub StandsInTheWindow : Result RouterState MirrorFault → Type 0
  StandsInTheWindow result = OfEachState (λ state form. IfOk result (λ router. IsInWindow writing fresh (end_of fresh)
      × InTheWindow writing fresh (λ moment later. (later.machines.moment ≡ moment) × (later.routes ≡ fresh.routes))
      router))

  -- The router holds exactly the machines of the form.
  abbrev pub HoldsTheRecords : Result RouterState MirrorFault → Type 0
  HoldsTheRecords result = OfEachState (λ state form. IfOk result (InTheWindow writing fresh (λ moment later.
      HoldsTheForm (fresh_exchange family fresh.routes writing messages fresh) (length messages) form
      (newest_first fresh) moment later.machines)))

  -- All that the router wants is what the state asks of the writer's upstream neighbour.
  abbrev pub WantsTheDemand : Result RouterState MirrorFault → Type 0
  WantsTheDemand result = OfEachState (λ state form. IfOk result (InTheWindow writing fresh (λ moment later.
      WantsDemandOf family fresh.routes writing state later.machines)))

  -- The router asks for the form again, by these messages and no others.
  abbrev pub WritesTheMessages : Result RouterState MirrorFault → Type 0
  WritesTheMessages result = OfEachState (λ state form. IfOk result (InTheWindow writing fresh (λ moment later.
      DemandsAgain family fresh.routes writing form messages later.machines)))

  -- The router reports no PruneEcho.
  abbrev pub HasNoEcho : Result RouterState MirrorFault → Type 0
  HasNoEcho result = OfEachState (λ state form. IfOk result (IsQuiet family writing messages fresh))

  -- The router knows the writer. By a later moment up to which the other neighbours stay, no
  -- neighbour's time is over.
  abbrev pub KnowsTheWriter : Result RouterState MirrorFault → Type 0
  KnowsTheWriter result = OfEachState (λ state form. IfOk result (λ router. (last : ℕ) → end_of fresh ≤ last →
      OthersStay fresh last → KnowsItsWriter writing fresh last router))

  -- Ok says that the entries of all messages together are within the limit of records.
  abbrev pub HadRoom : Result RouterState MirrorFault → Type 0
  HadRoom result = OfEachState (λ state form. IfOk result (λ router.
      all_entries family fresh.routes writing messages fresh ≤ fresh.limit))

  -- `Full` says that they pass the limit. Its number is that of the units of the different messages
  -- up to the first delivery at which they do.
  abbrev pub HadNoRoom : Result RouterState MirrorFault → Type 0
  HadNoRoom result = OfEachState (λ state form. IfFull result (λ needed.
      (fresh.limit < all_entries family fresh.routes writing messages fresh)
      × (first_over (fresh_exchange family fresh.routes writing messages fresh) fresh.limit (newest_first fresh)
      ≡ Some needed)))
