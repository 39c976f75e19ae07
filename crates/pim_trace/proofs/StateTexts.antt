-- The texts of the events of the state, piece by piece.
use Rattle.pim_trace.proofs.Words.{◌≡◌, ◌<◌, ◌∙◌, ℕ, ◌+◌, true, List, [], ◌∷◌, ◌++◌, length, map, drop, get_or, Option, None}
use Rattle.pim_trace.proofs.Words.{Some, refl, sym, ap, flat_map, map-append, drop_more, Appends, AppendsFront}
use Rattle.pim_trace.proofs.Words.{AddressFamily, RouteTable, rp_of, Record, RouterState, Occurrence, Ledger, event_on, epoch_of}
use Rattle.std.specs.Option.{is_some}
use Rattle.std.proofs.lemmas.List.Concat.{flat_map-append}
use Rattle.pim_form.specs.NormalForm.{GroupForm}
use Rattle.pim_form.specs.Rows.{exceptions_of}
use Rattle.pim_form.specs.Toward.{via_of, star_rpf_neighbour}
use Rattle.pim_events.specs.Events.{machine_held}
use Rattle.pim_events.specs.declared.event.HeldMachine.{HeldMachine}
use Rattle.pim_events.specs.declared.event.WantedEntry.{WantedEntry}
use Rattle.pim_events.specs.declared.event.WantedWhat.TheVariants.{Star, Except}
use Rattle.pim_trace.specs.StateEvents.{held_event, held_machine, held_events, wanted_event, wanted_events, wanted_of}
use Rattle.pim_trace.specs.StateEvents.{star_entries}
use Rattle.pim_trace.specs.StateEvents.{source_entry, group_entries, demand_entries, state_events}
use Rattle.pim_trace.specs.WrittenEvents.{wanted_text}
use Rattle.pim_trace.proofs.Writing.{IsWriting, write_more, written_all, written_front}

-- ---- a list of texts, one after the other

-- `text` of a list is the `piece` of its first item, then the text of the others
module _ {X : Type 0} (piece : X → List ℕ) (text : List X → List ℕ)
    (cons : (x : X) (xs : List X) → text (x ∷ xs) ≡ piece x ++ text xs)
    (old now : Option (List ℕ)) (left : List X) (whole : List ℕ) (w : IsWriting old now (text left) whole) where
  pub item_written : (new : Option (List ℕ)) (first : X) (rest : List X) → left ≡ first ∷ rest →
      Appends now new (piece first) → IsWriting old new (text rest) whole
  item_written new first rest is p = write_more old now new (piece first) (text left) (text rest) whole w
      (ap text is ∙ cons first rest) p

  pub item_begun : (new : Option (List ℕ)) (first : X) (rest : List X) → left ≡ first ∷ rest →
      AppendsFront now new (piece first) → AppendsFront old new whole
  item_begun new first rest is p = written_front old now new (piece first) (text left) (text rest) whole w
      (ap text is ∙ cons first rest) p

  pub none_left : text [] ≡ [] → left ≡ [] → Appends old now whole
  none_left empty is = written_all old now (text left) whole w (ap text is ∙ empty)

-- the item at an index comes first of those that are left
pub left_at : {X : Type 0} (xs : List X) (i : ℕ) (x : X) → i < length xs → x ≡ get_or xs i x → drop i xs ≡ x ∷ drop (i + 1) xs
left_at xs i x below is = drop_more xs i x below ∙ ap (λ y. y ∷ drop (i + 1) xs) (sym is)

-- ---- what is held

module _ (line : Occurrence → List ℕ) (ledger : Ledger) (ms : ℕ) where
  abbrev pub held_piece : Record (List ℕ) → List ℕ
  held_piece reported = line (held_event ledger ms reported)

  abbrev pub held_text : List (Record (List ℕ)) → List ℕ
  held_text records = flat_map line (map (held_event ledger ms) records)

  pub held_cons : (x : Record (List ℕ)) (xs : List (Record (List ℕ))) → held_text (x ∷ xs) ≡ held_piece x ++ held_text xs
  held_cons x xs = refl

  -- the text of a machine at a moment that was read
  pub held_is : (given : ℕ) (held : HeldMachine (List ℕ)) (reported : Record (List ℕ)) → given ≡ ms →
      held ≡ held_machine ledger given reported
      → line (event_on ledger given reported.key.port (machine_held held)) ≡ held_piece reported
  held_is given held reported same is =
      ap (λ (h : HeldMachine (List ℕ)). line (event_on ledger given reported.key.port (machine_held h))) is
      ∙ ap (λ m. line (held_event ledger m reported)) same

-- ---- what is wanted

module _ (line : Occurrence → List ℕ) (ms : ℕ) (epoch : Option ℕ) where
  pub wanted-append : (xs ys : List (WantedEntry (List ℕ))) →
      wanted_text line ms epoch (xs ++ ys) ≡ wanted_text line ms epoch xs ++ wanted_text line ms epoch ys
  wanted-append xs ys =
      ap (flat_map line) (map-append (wanted_event ms epoch) xs ys)
      ∙ flat_map-append line (map (wanted_event ms epoch) xs) (map (wanted_event ms epoch) ys)

  -- an entry of each address
  module _ {A : Type 0} (bytes_of : A → List ℕ) (entry : List ℕ → WantedEntry (List ℕ)) where
    abbrev pub address_piece : A → List ℕ
    address_piece x = line (wanted_event ms epoch (entry (bytes_of x)))

    abbrev pub address_text : List A → List ℕ
    address_text xs = wanted_text line ms epoch (map entry (map bytes_of xs))

    pub address_cons : (x : A) (xs : List A) → address_text (x ∷ xs) ≡ address_piece x ++ address_text xs
    address_cons x xs = refl

  -- the entries of each group
  module _ (family : AddressFamily) (routes : RouteTable) where
    abbrev pub group_piece : GroupForm → List ℕ
    group_piece form = wanted_text line ms epoch (group_entries family routes form)

    abbrev pub groups_text : List GroupForm → List ℕ
    groups_text form = wanted_text line ms epoch (flat_map (group_entries family routes) form)

    pub group_cons : (x : GroupForm) (xs : List GroupForm) → groups_text (x ∷ xs) ≡ group_piece x ++ groups_text xs
    group_cons x xs = wanted-append (group_entries family routes x) (flat_map (group_entries family routes) xs)

    -- the entries of the star that a group has
    pub star_is : (group given : List ℕ) (via : Option (List ℕ)) (exceptions : List (List ℕ)) (star : Option (List (List ℕ)))
        → is_some star ≡ true → given ≡ group
        → via ≡ star_rpf_neighbour (via_of family routes) (rp_of family routes given) → exceptions ≡ exceptions_of star
        → wanted_of given via Star ∷ map (λ source. wanted_of given via (Except source)) exceptions ≡ star_entries family
        routes group star
    star_is group given via exceptions None is same toward seen = absurd cc
    star_is group given via exceptions (Some excepted) is same toward seen = rw (toward, same, seen) refl

    -- the entries of a group: its star, then its sources
    pub group_is : (form : GroupForm) (given : List ℕ) (sources : List (List ℕ)) → given ≡ form.group → sources ≡ form.sources
        → wanted_text line ms epoch (star_entries family routes form.group form.star) ++ wanted_text line ms epoch
        (map (source_entry family routes given) sources) ≡ group_piece form
    group_is form given sources same seen = rw (same, seen)
        (sym (wanted-append (star_entries family routes form.group form.star)
        (map (source_entry family routes form.group) form.sources)))

-- the texts of what is held and of what is wanted
pub state_is : (line : Occurrence → List ℕ) (family : AddressFamily) (ledger : Ledger) (state : RouterState)
    (form : List GroupForm) (ms : ℕ) (epoch : Option ℕ) (routes : RouteTable)
    → ms ≡ state.machines.moment → epoch ≡ epoch_of ms ledger → routes ≡ state.routes
    → flat_map line (held_events ledger state) ++ wanted_text line ms epoch (demand_entries family routes form) ≡ flat_map
    line (state_events family ledger state form)
state_is line family ledger state form ms epoch routes here is known =
    let held = flat_map line (held_events ledger state) in
    ap (λ (r : RouteTable). held ++ wanted_text line ms epoch (demand_entries family r form)) known
    ∙ ap (λ (e : Option ℕ). held ++ wanted_text line ms e (demand_entries family state.routes form)) is
    ∙ ap (λ m. held ++ wanted_text line m (epoch_of m ledger) (demand_entries family state.routes form)) here
    ∙ sym (flat_map-append line (held_events ledger state) (wanted_events family ledger state form))
