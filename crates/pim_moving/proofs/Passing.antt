-- The parts of a course over deliveries, and room for each of their messages.
use Rattle.std.proofs.Common.{◌≡◌, ◌∙◌, ℕ, List, [], ◌∷◌, ◌++◌, Option, None, Some, refl, sym, ap, subst, append_assoc}
use Rattle.pim_addr.specs.declared.family.AddressFamily.{AddressFamily}
use Rattle.pim_form.specs.Messages.{Writing}
use Rattle.pim_fresh.specs.Deliveries.{Delivery}
use Rattle.pim_mirror.specs.CanonicalPackets.{packet_of}
use Rattle.pim_mirror.specs.Mirror.{needed_by, needed_of, or_later, first_needed}
use Rattle.pim_router.specs.Course.{Input, runs_to, takes, RouterReport, Reaches, IsCourse}
use Rattle.pim_router.specs.Packets.{received}
use Rattle.pim_router.specs.State.{RouterState}

-- ---- two parts

pub record Parts (family : AddressFamily) (xs ys : List Input) (whole : List RouterReport) (start after : RouterState) : Type 0 where
  pub between : RouterState
  pub reported : List RouterReport
  pub said : List RouterReport
  pub joined : whole ≡ reported ++ said
  pub first : IsCourse family xs reported start between
  pub second : IsCourse family ys said between after

pub parts : (family : AddressFamily) (xs ys : List Input) (reported : List RouterReport) (start after : RouterState) → IsCourse family (xs ++ ys) reported start after → Parts family xs ys reported start after
unfolding IsCourse
parts family [] ys reported start after course = record { between = start; reported = []; said = reported; joined = refl; first = (refl, refl); second = course }
parts family (x ∷ xs) ys reported start after course =
    let rest = parts family xs ys course.behind course.between after course.goes_on in
    record {
      between = rest.between;
      reported = course.before ++ rest.reported;
      said = rest.said;
      joined = course.joined ∙ ap (λ (more : List RouterReport). course.before ++ more) rest.joined ∙ sym (append_assoc course.before rest.reported rest.said);
      first = record { before = course.before; behind = rest.reported; between = course.between; joined = refl; begins = course.begins; goes_on = rest.first };
      second = rest.second;
    }

pub no_inputs : (family : AddressFamily) (reported : List RouterReport) (start after : RouterState) → IsCourse family [] reported start after → after ≡ start
unfolding IsCourse
no_inputs family reported start after course = course.1

pub record Run (moment : ℕ) (start after : RouterState) : Type 0 where
  pub said : List RouterReport
  pub reaches : Reaches moment said start after

pub last_run : (family : AddressFamily) (moment : ℕ) (reported : List RouterReport) (start after : RouterState) → IsCourse family (runs_to moment ∷ []) reported start after → Run moment start after
unfolding IsCourse
last_run family moment reported start after course = record {
  said = course.before;
  reaches = subst (λ (end : RouterState). Reaches moment course.before start end) (sym course.goes_on.1) course.begins;
}

-- ---- none without room

some_isnt_none : (count : ℕ) → ◌≡◌ {A = Option ℕ} (Some count) None → ⊥
some_isnt_none count e = cc

pub neither : (a b : Option ℕ) → or_later a b ≡ None → (a ≡ None) × (b ≡ None)
neither None b e = (refl, e)
neither (Some count) b e = absurd (some_isnt_none count e)

or_later_assoc : (a b c : Option ℕ) → or_later a (or_later b c) ≡ or_later (or_later a b) c
or_later_assoc None b c = refl
or_later_assoc (Some count) b c = refl

needed_both : (reported said : List RouterReport) → first_needed (reported ++ said) ≡ or_later (first_needed reported) (first_needed said)
unfolding first_needed
needed_both [] said = refl
needed_both (this ∷ reported) said = ap (or_later (needed_of this)) (needed_both reported said) ∙ or_later_assoc (needed_of this) (first_needed reported) (first_needed said)

pub none_in_parts : (whole reported said : List RouterReport) → whole ≡ reported ++ said → first_needed whole ≡ None → (first_needed reported ≡ None) × (first_needed said ≡ None)
none_in_parts whole reported said joined none = neither (first_needed reported) (first_needed said) (sym (needed_both reported said) ∙ (ap first_needed (sym joined) ∙ none))

-- ---- a run to a moment, and a packet behind it

pub record RunAndPacket (family : AddressFamily) (writing : Writing) (messages : List (List ℕ)) (delivery : Delivery) (whole : List RouterReport) (start after : RouterState) : Type 0 where
  pub before : RouterState
  pub reported : List RouterReport
  pub reaches : Reaches delivery.moment reported start before
  pub taken : after ≡ (received family (packet_of family writing 0 messages delivery.message) before).1
  pub room : first_needed whole ≡ None → needed_by (received family (packet_of family writing 0 messages delivery.message) before).0 ≡ None

pub run_and_packet : (family : AddressFamily) (writing : Writing) (messages : List (List ℕ)) (delivery : Delivery) (whole : List RouterReport) (start after : RouterState)
    → IsCourse family (runs_to delivery.moment ∷ takes (packet_of family writing 0 messages delivery.message) ∷ []) whole start after → RunAndPacket family writing messages delivery whole start after
unfolding IsCourse first_needed
run_and_packet family writing messages delivery whole start after course =
    let packet = course.goes_on in
    record {
      before = course.between;
      reported = course.before;
      reaches = course.begins;
      taken = packet.goes_on.1 ∙ packet.begins.1;
      room = λ none.
          let behind = none_in_parts whole course.before course.behind course.joined none in
          let here = none_in_parts course.behind packet.before packet.behind packet.joined behind.1 in
          (neither (needed_by (received family (packet_of family writing 0 messages delivery.message) course.between).0) None (subst (λ (said : List RouterReport). first_needed said ≡ None) packet.begins.0 here.0)).0;
    }
