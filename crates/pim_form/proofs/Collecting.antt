-- The form of one port's records while it is made.
use Rattle.pim_form.proofs.Words.{◌≡◌, ◌∙◌, ℕ, Bool, true, false, cond, List, [], ◌∷◌, ◌++◌, length, refl, sym, ap, subst}
use Rattle.pim_form.proofs.Words.{AllByRecursion, Record, GroupPlace, GroupForm, same_address, place_seen, form_seen, IsDraft}
use Rattle.pim_form.proofs.Words.{IsLast, Becomes, Takes, fresh, added, closed, collected_behind, collected}
use Rattle.std.proofs.lemmas.List.{append_assoc}
use Rattle.pim_form.proofs.Addresses.{same_itself, same_is}
use Rattle.pim_form.proofs.Collected.{IsRun, IsNext, taken, all_next, all_first}
use Rattle.pim_form.proofs.Merging.{IsRest}

module _ {A : Type 0} (bytes_of : A → List ℕ) where
  -- The groups that are ended, and what comes of the last one and the records that are left, are the form of all.
  pub record IsCollecting (row : List A) (places : List (GroupPlace A)) (place : GroupPlace A) (left : List (Record (List ℕ))) (all : List GroupForm) : Type 0 where
    pub last : IsLast (length row) place
    pub rest : IsRest bytes_of row places (collected_behind (place_seen bytes_of row place) left) all
    pub next : AllByRecursion (IsNext (place_seen bytes_of row place)) left
    pub run : IsRun left

  -- ---- the first record

  pub starts : (row row' : List A) (place : GroupPlace A) (held : Record (List ℕ)) (left : List (Record (List ℕ))) (all : List (Record (List ℕ))) → all ≡ held ∷ left → IsRun all → Becomes bytes_of row row' place (added held (fresh held.key.group))
      → IsCollecting row' [] place left (collected all)
  unfolding collected
  starts row row' place held left all is run becomes =
      let run' : IsRun (held ∷ left) = subst IsRun is run in
      record {
        last = becomes.last;
        rest = record { within = tt; so_far = ap (λ (form : GroupForm). collected_behind form left) becomes.seen ∙ ap collected (sym is) };
        next = subst (λ (form : GroupForm). AllByRecursion (IsNext form) left) (sym becomes.seen) (all_first held left run'.0);
        run = run'.1;
      }

  pub nothing : (row : List A) (places : List (GroupPlace A)) (all : List (Record (List ℕ))) → all ≡ [] → places ≡ [] → IsDraft bytes_of row places (collected all)
  unfolding collected
  nothing row places all none empty = subst (λ ps. IsDraft bytes_of row ps (collected all)) (sym empty) (record { within = tt; seen = ap collected (sym none) })

  -- ---- one record more

  module _ (row row' : List A) (places places' : List (GroupPlace A)) (place place' : GroupPlace A) (held : Record (List ℕ)) (left left' : List (Record (List ℕ))) (all : List GroupForm) (is : left ≡ held ∷ left') (collecting : IsCollecting row places place left all) where
    next_here : IsNext (place_seen bytes_of row place) held
    next_here = (subst (AllByRecursion (IsNext (place_seen bytes_of row place))) is collecting.next).0

    run_here : IsRun (held ∷ left')
    run_here = subst IsRun is collecting.run

    same_true : held.key.group ≡ bytes_of place.group → same_address held.key.group (bytes_of place.group) ≡ true
    same_true same = subst (λ g. same_address held.key.group g ≡ true) same (same_itself held.key.group)

    not_same : (held.key.group ≡ bytes_of place.group → ⊥) → (b : Bool) → same_address held.key.group (bytes_of place.group) ≡ b → same_address held.key.group (bytes_of place.group) ≡ false
    not_same other true e = absurd (other (same_is held.key.group (bytes_of place.group) e))
    not_same other false e = e

    opened : (b : Bool) → same_address held.key.group (bytes_of place.group) ≡ b → IsRest bytes_of row places (cond b (collected_behind (added held (place_seen bytes_of row place)) left') (closed (place_seen bytes_of row place) ++ collected_behind (added held (fresh held.key.group)) left')) all
    unfolding collected_behind
    opened b e = subst (λ s. IsRest bytes_of row places (cond s (collected_behind (added held (place_seen bytes_of row place)) left') (closed (place_seen bytes_of row place) ++ collected_behind (added held (fresh held.key.group)) left')) all) e
        (subst (λ l. IsRest bytes_of row places (collected_behind (place_seen bytes_of row place) l) all) is collecting.rest)

    -- of the same group
    pub takes : held.key.group ≡ bytes_of place.group → Takes held.key.what (place_seen bytes_of row place)
    takes same = taken (place_seen bytes_of row place) held next_here (same_true same)

    pub same_group : held.key.group ≡ bytes_of place.group → Becomes bytes_of row row' place' (added held (place_seen bytes_of row place)) → IsCollecting row' places place' left' all
    same_group same becomes =
        let rest = opened true (same_true same) in
        let draft = becomes.kept places (form_seen bytes_of row places) (record { within = rest.within; seen = refl }) in
        record {
          last = becomes.last;
          rest = record { within = draft.within; so_far = (λ i. draft.seen i ++ collected_behind (becomes.seen i) left') ∙ rest.so_far };
          next = subst (λ (form : GroupForm). AllByRecursion (IsNext form) left') (sym becomes.seen)
              (all_next (place_seen bytes_of row place) held left' (sym same) run_here.0 (subst (AllByRecursion (IsNext (place_seen bytes_of row place))) is collecting.next).1);
          run = run_here.1;
        }

    -- of another group
    pub other_group : (held.key.group ≡ bytes_of place.group → ⊥)
        → ((form : List GroupForm) → IsDraft bytes_of row places form → IsDraft bytes_of row places' (form ++ closed (place_seen bytes_of row place)))
        → Becomes bytes_of row row' place' (added held (fresh held.key.group)) → IsCollecting row' places' place' left' all
    other_group other closes becomes =
        let rest = opened false (not_same other (same_address held.key.group (bytes_of place.group)) refl) in
        let ended = closes (form_seen bytes_of row places) (record { within = rest.within; seen = refl }) in
        let draft = becomes.kept places' (form_seen bytes_of row places ++ closed (place_seen bytes_of row place)) ended in
        record {
          last = becomes.last;
          rest = record {
            within = draft.within;
            so_far = (λ i. draft.seen i ++ collected_behind (becomes.seen i) left')
                ∙ append_assoc (form_seen bytes_of row places) (closed (place_seen bytes_of row place)) (collected_behind (added held (fresh held.key.group)) left') ∙ rest.so_far;
          };
          next = subst (λ (form : GroupForm). AllByRecursion (IsNext form) left') (sym becomes.seen) (all_first held left' run_here.0);
          run = run_here.1;
        }

  -- ---- the end

  pub ends : (row : List A) (places places' : List (GroupPlace A)) (place : GroupPlace A) (left : List (Record (List ℕ))) (all : List GroupForm) → left ≡ [] → IsCollecting row places place left all
      → ((form : List GroupForm) → IsDraft bytes_of row places form → IsDraft bytes_of row places' (form ++ closed (place_seen bytes_of row place))) → IsDraft bytes_of row places' all
  unfolding collected_behind
  ends row places places' place left all none collecting closes =
      let rest = collecting.rest in
      let here : form_seen bytes_of row places ++ closed (place_seen bytes_of row place) ≡ all = subst (λ l. form_seen bytes_of row places ++ collected_behind (place_seen bytes_of row place) l ≡ all) none rest.so_far in
      subst (IsDraft bytes_of row places') here (closes (form_seen bytes_of row places) (record { within = rest.within; seen = refl }))
