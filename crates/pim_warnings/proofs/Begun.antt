-- The captures of a router of which a census begins.
use Rattle.pim_warnings.proofs.Words.{◌≡◌, ◌∙◌, refl, sym, ap, ℕ, suc, ◌+◌, ◌<◌, ◌≤◌, Bool, true, false, cond, List, ◌∷◌, length}
use Rattle.pim_warnings.proofs.Words.{arith, get_or, is_some, Option, drop_all, filter, slice_set, length-set, AddressFamily}
use Rattle.pim_warnings.proofs.Words.{LaneState, MergeState, RouterSide, More, Port, with_more, files_from, is_in, are_in, begun_at, begun_from}
use Rattle.pim_warnings.proofs.Named.{left_from, one_port}

-- ---- as many captures as before

set_if : (b : Bool) (lanes : List LaneState) (number : ℕ) (lane : LaneState) → length (cond b (slice_set lanes number lane) lanes) ≡ length lanes
set_if true lanes number lane = length-set lanes number lane
set_if false lanes number lane = refl

module _ {A : Type 0} (family : AddressFamily) (bytes_of : A → List ℕ) where
  pub as_many : (number : ℕ) (port : Port A) (lanes new : List LaneState) → new ≡ begun_at family bytes_of number port lanes → length new ≡ length lanes
  as_many number port lanes new is = ap length is ∙ set_if (is_some port.link) lanes number _

  -- ---- the ports of a router

  module _ (side : Option RouterSide) (further : List More) (ports : List (Port A)) where
    -- none is left at the end
    pub begun_all : (number place : ℕ) (lanes : List LaneState) → length ports ≤ place → begun_from family bytes_of number (left_from side further place place ports) lanes ≡ lanes
    unfolding begun_from
    begun_all number place lanes past = ap (λ (l : List (Port A)). begun_from family bytes_of number (filter (are_in side) (files_from place further l)) lanes) (drop_all place ports past)

    module _ (place number : ℕ) (port : Port A) (below : place < length ports) (here : port ≡ get_or ports place port) where
      -- what is left before this port and after it
      left_at : (b : Bool) → is_in side port ≡ b → (lanes : List LaneState) → begun_from family bytes_of number (left_from side further place place ports) lanes
          ≡ begun_from family bytes_of number (cond b (with_more place further port ∷ left_from side further (place + 1) (place + 1) ports) (left_from side further (place + 1) (place + 1) ports)) lanes
      left_at b is lanes = ap (λ l. begun_from family bytes_of number l lanes) (one_port side further ports place (place + 1) place port b (omega arith) below is here)

      pub begun_passed : (lanes all : List LaneState) → is_in side port ≡ false → begun_from family bytes_of number (left_from side further place place ports) lanes ≡ all
          → begun_from family bytes_of number (left_from side further (place + 1) (place + 1) ports) lanes ≡ all
      begun_passed lanes all is left = sym (left_at false is lanes) ∙ left

      pub begun_more : (lanes new all : List LaneState) (later : ℕ) → later ≡ suc number → is_in side port ≡ true → new ≡ begun_at family bytes_of number port lanes
          → begun_from family bytes_of number (left_from side further place place ports) lanes ≡ all
          → begun_from family bytes_of later (left_from side further (place + 1) (place + 1) ports) new ≡ all
      unfolding begun_from
      begun_more lanes new all later one is begun left =
          ap (λ n. begun_from family bytes_of n (left_from side further (place + 1) (place + 1) ports) new) one
          ∙ ap (begun_from family bytes_of (suc number) (left_from side further (place + 1) (place + 1) ports)) begun
          ∙ sym (left_at true is lanes) ∙ left

-- only captures change
pub same_clock : (old new : MergeState) (lanes : List LaneState) → new.lanes ≡ lanes → new.clock ≡ old.clock → new ≡ record old { lanes = lanes }
same_clock old new lanes are clock = λ i. record { lanes = are i; clock = clock i }
