-- What is written of a record.
use Rattle.pim_replay.proofs.Words.{◌≡◌, ◌≤◌, ◌+◌, ◌∙◌, ℕ, min, List, [], ◌∷◌, Option, refl, sym, ap, subst, arith, Appends}
use Rattle.pim_replay.proofs.Words.{Appends-nil, AddressFamily, AppendsFront, top_count, Taken, RouterState, Counts, Event}
use Rattle.pim_replay.proofs.Words.{Account, of_event, HasWritten, HasBegun, packet_on, skips_in, taken_as, taking, TakesRecord}
use Rattle.pim_frame.specs.Frame.{Content, hello, join_prune, other, content}
use Rattle.pim_merge.specs.declared.content.Content.{Content as Given}
use Rattle.pim_merge.specs.declared.content.Content.TheVariants as given
use Rattle.pim_merge.specs.declared.content.Datagram.{Datagram as Carried}
use Rattle.pim_merge.specs.Content.{Content as Holding, holds, content_in, content_seen}
use Rattle.pim_router.specs.declared.verdict.Verdict.{Verdict}
use Rattle.pim_router.specs.Packets.{Packet, received, unless, causes, body_heard}
use Rattle.pim_replay.specs.declared.event.ReplayEvent.TheVariants as event
use Rattle.pim_replay.proofs.Told.{made_counts, same_counts, text, one_text, keeps_same, none_is_front}

-- ---- a packet leaves the moment

body_stays : (family : AddressFamily) (port : ℕ) (source : List ℕ) (state : RouterState) (body : Content) → (body_heard family port source state body).1.machines.moment ≡ state.machines.moment
body_stays family port source state (other type) = refl
body_stays family port source state (hello body) = refl
body_stays family port source state (join_prune body) = refl

unless_stays : (reported : List Verdict) (state : RouterState) (taken : Verdict × RouterState) → taken.1.machines.moment ≡ state.machines.moment → (unless reported state taken).1.machines.moment ≡ state.machines.moment
unless_stays [] state taken p = p
unless_stays (cause ∷ others) state taken p = refl

pub packet_stays : (family : AddressFamily) (sent : Packet) (state after : RouterState) (said : Verdict) → (said, after) ≡ received family sent state → after.machines.moment ≡ state.machines.moment
packet_stays family sent state after said is =
    ap (λ (end : Verdict × RouterState). end.1.machines.moment) is
    ∙ unless_stays (causes family sent state) state (body_heard family sent.port sent.source state (content sent.bytes)) (body_stays family sent.port sent.source state (content sent.bytes))

-- ---- a record, by what it holds

-- the account of this number of skipped records
abbrev pub of_skips : ℕ → Account
of_skips count = record { events = []; refreshes = 0; skips = count }

pub not_held : {A : Type 0} (bytes_of : A → List ℕ) (held : Given A) → ((sent : Carried A) → held ≡ given.Datagram sent → ⊥) → (family : AddressFamily) (port : ℕ) (state : RouterState)
    → taken_as family port (content_seen bytes_of held) state ≡ (of_skips (skips_in (content_seen bytes_of held)), state)
not_held bytes_of (given.Datagram sent) none family port state = absurd (none sent refl)
not_held bytes_of given.OtherFamily none family port state = refl
not_held bytes_of (given.Skipped why) none family port state = refl
not_held bytes_of given.End none family port state = refl

module _ (line : Event → List ℕ) (family : AddressFamily) (turn : Taken) (state : RouterState) where
  abbrev Takes : Account → RouterState → Type 0
  Takes = TakesRecord family turn state

  -- nothing was written of it
  pub none_told : (old : Option (List ℕ)) → HasBegun line Takes old old
  none_told old =
      let taken = taking family turn.capture turn.reported state in
      record { account = taken.0; after = taken.1; wrote = refl; written = none_is_front old old (text line taken.0) (keeps_same old) }

  module _ (holding : Holding) (is : holding ≡ content_in family turn.reported) where
    takes : (account : Account) (after : RouterState) → (account, after) ≡ taken_as family turn.capture holding state → Takes account after
    takes account after p = p ∙ ap (λ h. taken_as family turn.capture h state) is

    -- it holds no packet of the family
    pub skipped : (count : ℕ) → taken_as family turn.capture holding state ≡ (of_skips count, state) → (old : Option (List ℕ)) (counts : Counts) (more : ℕ) → counts.refreshes ≤ top_count → more ≡ min (counts.skipped + count) top_count
        → HasWritten line Takes state old old counts (made_counts more counts.refreshes)
    skipped count skips old counts more small counts_it = record {
      account = of_skips count;
      wrote = takes (of_skips count) state (sym skips);
      written = Appends-nil old;
      is_counted = same_counts _ _ _ _ counts_it (omega (arith, small));
    }

    -- it holds one, which was taken
    module _ (source destination payload : List ℕ) (there : holding ≡ holds source destination payload) (moment : ℕ) (now : moment ≡ state.machines.moment) (said : Verdict) (after : RouterState)
        (received_so : (said, after) ≡ received family (packet_on turn.capture source destination payload) state) (old new : Option (List ℕ)) where
      abbrev told_of : Event
      told_of = event.Packet moment turn.capture source said

      packet_taken : Takes (of_event told_of) after
      packet_taken = takes (of_event told_of) after
          (ap (λ m. (of_event (event.Packet m turn.capture source said), after)) now
          ∙ (ap (λ (end : Verdict × RouterState). (of_event (event.Packet state.machines.moment turn.capture source end.0), end.1)) received_so
          ∙ ap (λ h. taken_as family turn.capture h state) (sym there)))

      pub packet_begun : AppendsFront old new (line told_of) → HasBegun line Takes old new
      packet_begun written =
          record { account = of_event told_of; after = after; wrote = packet_taken; written = subst (λ (t : List ℕ). AppendsFront old new t) (one_text line told_of) written }

      pub packet_event : (counts : Counts) → counts.skipped ≤ top_count → counts.refreshes ≤ top_count → Appends old new (line told_of) → HasWritten line Takes after old new counts counts
      packet_event counts few small written = record {
        account = of_event told_of;
        wrote = packet_taken;
        written = subst (λ (t : List ℕ). Appends old new t) (one_text line told_of) written;
        is_counted = same_counts _ _ _ _ (omega (arith, few)) (omega (arith, small));
      }
