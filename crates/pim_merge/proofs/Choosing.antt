-- The records of any container: what one piece gives, and what pieces give one after the other.
use Rattle.pim_merge.proofs.Words.{◌≡◌, ◌∙◌, ◌⊎◌, ◌≤◌, ◌<◌, ◌+◌, ◌*◌, ℕ, Bool, true, false, if◌then◌else◌, IfOk, IfSome}
use Rattle.pim_merge.proofs.Words.{List, [], ◌∷◌, Option, None, Some, Result, Ok, Err, refl, sym, ap, subst, arith, inl}
use Rattle.pim_merge.proofs.Words.{inr, ⊤, false≢true, option_map, CaptureFault, Event, CutShort, NextFile}
use Rattle.pim_merge.proofs.Words.{Answer, EventSeen, skipped, ended, in_front, IsNext, IsRefusal, CountsReads}
use Rattle.pim_merge.proofs.Words.{PayloadLiesIn, IsBy, latest_moment, ContainerFault, ReaderState, fault_of, is_cut}
use Rattle.pim_merge.proofs.Words.{fault_given, given, state_then, put, chosen, next_files, known_too, IsGiven, StaysComing}
use Rattle.pim_merge.proofs.Words.{Steps, unless_cut, none_left, chosen_known, is_end, cut_left, step_count, failed}
use Rattle.pim_merge.proofs.Words.{reports_left, TakerState, event_given, state_after, in_next_file, ending_given}
use Rattle.pim_merge.proofs.Words.{report_of, reported, reports_first, Link}
use Rattle.pim_merge.specs.declared.taker.FileLink.{FileLink}
use Rattle.pim_merge.specs.declared.taker.FileLink.TheVariants.{Unmet, Unread, Met}
use Rattle.pim_capture.specs.declared.fault.CaptureFault.TheVariants as fault
use Rattle.pim_capture.specs.declared.event.Event.TheVariants as event
use Rattle.pim_container.specs.declared.fault.ContainerFault.TheVariants as of_any
use Rattle.pim_container.specs.declared.event.ContainerEvent as piece
use Rattle.pim_container.specs.declared.event.ContainerEvent.TheVariants as piece_kind
use Rattle.pim_container.specs.EventSeen as any
use Rattle.pim_container.specs.Pieces as pieces
use Rattle.pim_container.specs.Next as next
use Rattle.pim_merge.proofs.Failures.{Moves}

-- ---- what is reported comes first

-- the state where nothing is left to report
abbrev pub all_reported : TakerState → TakerState
all_reported state = record state { link_of_packet = None; is_reported = true }

abbrev with_reports : TakerState → Option Link → Bool → TakerState
with_reports state link done = record state { link_of_packet = link; is_reported = done }

abbrev as_given : Option EventSeen → Option Answer
as_given it = option_map (λ (report : EventSeen). Ok report) it

-- nothing is to report
pub none_to_report : (state : TakerState) → report_of state ≡ None → state ≡ all_reported state
none_to_report state none = by state.link_of_packet state.is_reported none
  where
    by : (link : Option Link) (done : Bool) → report_of (with_reports state link done) ≡ None →
        with_reports state link done ≡ all_reported state
    by (Some link) done is = absurd cc
    by None true is = refl
    by None false is = absurd cc

pub now_reported : (state state' : TakerState) → report_of state ≡ None → state' ≡ reported state →
    state' ≡ all_reported state
now_reported state state' none same = same ∙ ap reported (none_to_report state none)

pub is_done : (state state' : TakerState) → report_of state ≡ None → state' ≡ reported state →
    state'.is_reported ≡ true
is_done state state' none same = ap (λ (s : TakerState). s.is_reported) (now_reported state state' none same)

-- nothing is to report at the end of a file
done_by : (state : TakerState) → state.link_of_packet ≡ None → state.is_reported ≡ true → state ≡ all_reported state
done_by state none is = λ i. with_reports state (none i) (is i)

first_report : (state : TakerState) (report : EventSeen) (later : TakerState → List Answer) →
    Some report ≡ report_of state →
    reports_first state later ≡ in_front (Ok report) (reports_first (reported state) later)
first_report state report later is = by state.link_of_packet state.is_reported is
  where
    by : (link : Option Link) (done : Bool) → Some report ≡ report_of (with_reports state link done) →
        reports_first (with_reports state link done) later
        ≡ in_front (Ok report) (reports_first (reported (with_reports state link done)) later)
    by (Some link) done is =
        ap (λ n. put (as_given n) (reports_first (with_reports state None done) later)) (sym is)
    by None true is = absurd cc
    by None false is = ap (λ n. put (as_given n) (later (all_reported state))) (sym is)

reports_all : (behind : TakerState → List Answer) (begun : Bool) (state : TakerState) (left : List pieces.Answer)
    (report : EventSeen) → Some report ≡ report_of state →
    chosen behind begun state left ≡ in_front (Ok report) (chosen behind begun (reported state) left)
unfolding chosen
reports_all behind begun state [] report is = first_report state report behind is
reports_all behind begun state (answer ∷ later) report is = first_report state report
    (λ state'. put (given begun state' answer) (chosen behind true (state_then state' answer) later)) is

-- this is reported
pub reports : (begun : Bool) (state state' : TakerState) (left : Option (List pieces.Answer))
    (files : Option (List (List ℕ))) (report : EventSeen) → Some report ≡ report_of state → state' ≡ reported state →
    IsNext (chosen_known begun state left files) (Ok report) (chosen_known begun state' left files)
reports begun state state' None files report is same = tt
reports begun state state' (Some left) None report is same = tt
reports begun state state' (Some left) (Some files) report is same =
    reports_all (next_files files) begun state left report is
    ∙ ap (λ s. in_front (Ok report) (chosen (next_files files) begun s left)) (sym same)

pub known_reported : (begun : Bool) (state : TakerState) (left : Option (List pieces.Answer))
    (files : Option (List (List ℕ))) → report_of state ≡ None →
    chosen_known begun state left files ≡ chosen_known begun (all_reported state) left files
known_reported begun state left files none = ap (λ s. chosen_known begun s left files) (none_to_report state none)

-- ---- the results of a container

-- what is left after this result
abbrev pub left_after : any.EventSeen → List pieces.Answer → List pieces.Answer
left_after any.ended later = []
left_after _ later = later

pub put_is : (behind : TakerState → List Answer) (begun : Bool) (state : TakerState) (reported : any.EventSeen)
    (later : List pieces.Answer) → chosen behind begun (all_reported state) (next.in_front (Ok reported) later)
    ≡ put (event_given (all_reported state) reported)
    (chosen behind true (state_after (all_reported state) reported) (left_after reported later))
unfolding chosen
put_is behind begun state (any.packet millis origin datagram) later = refl
put_is behind begun state (any.fragment millis origin datagram part) later = refl
put_is behind begun state (any.skipped millis origin why) later = refl
put_is behind begun state any.untimed later = refl
put_is behind begun state any.section later = refl
put_is behind begun state (any.described name) later = refl
put_is behind begun state any.passed later = refl
put_is behind begun state any.ended later = refl

left_same : (reported : any.EventSeen) (later : List pieces.Answer) → (reported ≡ any.ended → ⊥) →
    left_after reported later ≡ later
left_same (any.packet millis origin datagram) later more = refl
left_same (any.fragment millis origin datagram part) later more = refl
left_same (any.skipped millis origin why) later more = refl
left_same any.untimed later more = refl
left_same any.section later more = refl
left_same (any.described name) later more = refl
left_same any.passed later more = refl
left_same any.ended later more = absurd (more refl)

fault_is : (behind : TakerState → List Answer) (begun : Bool) (state : TakerState) (fault : ContainerFault) →
    chosen behind begun (all_reported state) (Err fault ∷ []) ≡ put (Some (fault_given begun fault)) (behind (all_reported state))
unfolding chosen
fault_is behind begun state fault = refl

-- a fault that was given, or memory was refused
given_fault : (n n' : ℕ) (all later other : List Answer) (given : Option Answer) (bytes : List ℕ) (f : CaptureFault) →
    all ≡ put given later → IsGiven given bytes (Err f) →
    IsRefusal {A = ⊤} n n' (Err f) ⊎ IsNext (Some all) (Err f) (Some other)
given_fault n n' all later other given bytes fault.Magic is gives = inr (is ∙ ap (λ g. put g later) gives)
given_fault n n' all later other given bytes fault.LinkType is gives = inr (is ∙ ap (λ g. put g later) gives)
given_fault n n' all later other given bytes fault.Truncated is gives = inr (is ∙ ap (λ g. put g later) gives)
given_fault n n' all later other given bytes fault.TooLong is gives = inr (is ∙ ap (λ g. put g later) gives)
given_fault n n' all later other given bytes fault.Read is gives = inr (is ∙ ap (λ g. put g later) gives)
given_fault n n' all later other given bytes fault.Failed is gives = inr (is ∙ ap (λ g. put g later) gives)
given_fault n n' all later other given bytes fault.Block is gives = inr (is ∙ ap (λ g. put g later) gives)
given_fault n n' all later other given bytes fault.Time is gives = inr (is ∙ ap (λ g. put g later) gives)
given_fault n n' all later other given bytes (fault.Vlans one two) is gives = inr (is ∙ ap (λ g. put g later) gives)
given_fault n n' all later other given bytes (fault.Interfaces one two) is gives = inr (is
    ∙ ap (λ g. put g later) gives)
given_fault n n' all later other given bytes (fault.InterfaceNames one two) is gives = inr (is
    ∙ ap (λ g. put g later) gives)
given_fault n n' all later other given bytes (fault.LinkNumber number) is gives = inr (is ∙ ap (λ g. put g later) gives)
given_fault n n' all later other given bytes fault.Gzip is gives = inr (is ∙ ap (λ g. put g later) gives)
given_fault n n' all later other given bytes fault.Memory is gives = inl tt

-- one piece was read, and gave this
one_step : (n n' : ℕ) (begun : Bool) (state state' : TakerState) (old new : Option (List pieces.Answer))
    (files : Option (List (List ℕ))) (reported : any.EventSeen) (bytes : List ℕ) (it : Option Event) →
    (reported ≡ any.ended → ⊥) → next.IsNext old (Ok reported) new → state' ≡ state_after (all_reported state) reported →
    IsGiven (event_given (all_reported state) reported) bytes (Ok it) →
    Steps n n' (chosen_known begun (all_reported state) old files) (chosen_known true state' new files) bytes (Ok it)
one_step n n' begun state state' None new files reported bytes None more is after gives = tt
one_step n n' begun state state' None new files reported bytes (Some event) more is after gives = tt
one_step n n' begun state state' (Some xs) None files reported bytes it more is after gives = absurd is
one_step n n' begun state state' (Some xs) (Some ys) None reported bytes None more is after gives = tt
one_step n n' begun state state' (Some xs) (Some ys) None reported bytes (Some event) more is after gives = tt
one_step n n' begun state state' (Some xs) (Some ys) (Some files) reported bytes it more is after gives =
    let behind = next_files files in
    by it gives
    (ap (chosen behind begun (all_reported state)) is ∙ put_is behind begun state reported ys
    ∙ ap (λ l. put (event_given (all_reported state) reported) (chosen behind true (state_after (all_reported state) reported) l))
    (left_same reported ys more)
    ∙ ap (λ s. put (event_given (all_reported state) reported) (chosen behind true s ys)) (sym after))
  where
    by : (it : Option Event) → IsGiven (event_given (all_reported state) reported) bytes (Ok it) →
        chosen (next_files files) begun (all_reported state) xs
        ≡ put (event_given (all_reported state) reported) (chosen (next_files files) true state' ys) →
        Steps n n' (Some (chosen (next_files files) begun (all_reported state) xs))
        (Some (chosen (next_files files) true state' ys)) bytes (Ok it)
    by None gives all = ap Some (sym (all ∙ ap (λ g. put g (chosen (next_files files) true state' ys)) gives))
    by (Some event) gives all = all ∙ ap (λ g. put g (chosen (next_files files) true state' ys)) gives

-- one piece was read, and gave a fault
one_fault : (n n' : ℕ) (begun : Bool) (state state' : TakerState) (old new : Option (List pieces.Answer))
    (files : Option (List (List ℕ))) (reported : any.EventSeen) (bytes : List ℕ) (f : CaptureFault) →
    next.IsNext old (Ok reported) new → IsGiven (event_given (all_reported state) reported) bytes (Err f) →
    IsRefusal {A = ⊤} n n' (Err f)
    ⊎ IsNext (chosen_known begun (all_reported state) old files) (Err f) (chosen_known true state' new files)
one_fault n n' begun state state' None new files reported bytes f is gives = inr tt
one_fault n n' begun state state' (Some xs) None files reported bytes f is gives = absurd is
one_fault n n' begun state state' (Some xs) (Some ys) None reported bytes f is gives = inr tt
one_fault n n' begun state state' (Some xs) (Some ys) (Some files) reported bytes f is gives =
    let behind = next_files files in
    given_fault n n' (chosen behind begun (all_reported state) xs)
    (chosen behind true (state_after (all_reported state) reported) (left_after reported ys)) (chosen behind true state' ys)
    (event_given (all_reported state) reported) bytes f
    (ap (chosen behind begun (all_reported state)) is ∙ put_is behind begun state reported ys) gives

pub not_end : (event : piece.ContainerEvent) (bytes : List ℕ) → is_end event ≡ false → any.event_seen bytes event ≡ any.ended → ⊥
not_end (piece_kind.Packet millis origin ip) bytes is same = cc
not_end (piece_kind.Fragment millis origin ip part) bytes is same = cc
not_end (piece_kind.Skipped millis origin why) bytes is same = cc
not_end piece_kind.Untimed bytes is same = cc
not_end piece_kind.Section bytes is same = cc
not_end (piece_kind.Interface name) bytes is same = cc
not_end piece_kind.Passed bytes is same = cc
not_end piece_kind.End bytes is same = false≢true (sym is)

module _ (n n' : ℕ) (cut begun : Bool) (state state' state'' : TakerState) (old new : Option (List pieces.Answer))
    (files : Option (List (List ℕ))) (event : piece.ContainerEvent) (seen bytes : List ℕ) (uncut : cut ≡ false)
    (none : report_of state ≡ None) (same : state' ≡ all_reported state)
    (is : ⊥ ⊎ next.IsNext old (Ok (any.event_seen seen event)) new) where
  coming_reported : chosen_known begun state (unless_cut cut old) files ≡ chosen_known begun (all_reported state) old files
  coming_reported = ap (λ c. chosen_known begun state (unless_cut c old) files) uncut
      ∙ known_reported begun state old files none

  next_is : next.IsNext old (Ok (any.event_seen seen event)) new
  next_is = by is
    where
      by : ⊥ ⊎ next.IsNext old (Ok (any.event_seen seen event)) new →
          next.IsNext old (Ok (any.event_seen seen event)) new
      by (inl never) = absurd never
      by (inr is) = is

  later_is : chosen_known true state'' (unless_cut cut new) files ≡ chosen_known true state'' new files
  later_is = ap (λ c. chosen_known true state'' (unless_cut c new) files) uncut

  pub stepped : (it : Option Event) → is_end event ≡ false → state'' ≡ state_after state' (any.event_seen seen event) →
      IsGiven (event_given state' (any.event_seen seen event)) bytes (Ok it) →
      Steps n n' (chosen_known begun state (unless_cut cut old) files)
      (chosen_known true state'' (unless_cut cut new) files) bytes (Ok it)
  stepped it more after gives =
      subst (λ all. Steps n n' all (chosen_known true state'' (unless_cut cut new) files) bytes (Ok it)) (sym
      coming_reported)
      (subst (λ later. Steps n n' (chosen_known begun (all_reported state) old files) later bytes (Ok it)) (sym later_is)
      (one_step n n' begun state state'' old new files (any.event_seen seen event) bytes it (not_end event seen
      more) next_is
      (after ∙ ap (λ s. state_after s (any.event_seen seen event)) same)
      (subst (λ s. IsGiven (event_given s (any.event_seen seen event)) bytes (Ok it)) same gives)))

  pub stepped_fault : (f : CaptureFault) → IsGiven (event_given state' (any.event_seen seen event)) bytes (Err f) →
      IsRefusal {A = ⊤} n n' (Err f)
      ⊎ IsNext (chosen_known begun state (unless_cut cut old) files) (Err f)
      (chosen_known true state'' (unless_cut cut new) files)
  stepped_fault f gives =
      subst (λ all. IsRefusal {A = ⊤} n n' (Err f) ⊎ IsNext all (Err f) (chosen_known true state'' (unless_cut cut
      new) files))
      (sym coming_reported)
      (subst (λ later. IsRefusal {A = ⊤} n n' (Err f) ⊎ IsNext (chosen_known begun (all_reported state) old files) (Err f)
      later)
      (sym later_is)
      (one_fault n n' begun state state'' old new files (any.event_seen seen event) bytes f next_is
      (subst (λ s. IsGiven (event_given s (any.event_seen seen event)) bytes (Err f)) same gives)))

-- ---- the end of a file

-- the file was cut before
pub after_cut : (begun cut : Bool) (state state' : TakerState) (left : Option (List pieces.Answer))
    (files : Option (List (List ℕ))) (answer : Answer) (later : Option (List Answer)) → cut ≡ true → report_of state ≡ None →
    state' ≡ all_reported state →
    IsNext (chosen_known begun state' (none_left (unless_cut cut left)) files) answer later →
    IsNext (chosen_known begun state (unless_cut cut left) files) answer later
after_cut begun true state state' left files answer later is none same goes =
    subst (λ all. IsNext all answer later)
    (ap (λ s. chosen_known begun s (Some []) files) same ∙ sym (known_reported begun state (Some []) files none)) goes
after_cut begun false state state' left files answer later is none same goes = absurd (false≢true is)

at_last : (begun : Bool) (state : TakerState) (old new : Option (List pieces.Answer))
    (files : Option (List (List ℕ))) (reported : any.EventSeen) (answer : Answer) (later : Option (List Answer)) →
    reported ≡ any.ended → next.IsNext old (Ok reported) new → ending_given state.link ≡ None →
    IsNext (chosen_known true (all_reported state) (none_left new) files) answer later →
    IsNext (chosen_known begun (all_reported state) old files) answer later
at_last begun state None new files reported answer later ends is gives goes = tt
at_last begun state (Some xs) None files reported answer later ends is gives goes = absurd is
at_last begun state (Some xs) (Some ys) None reported answer later ends is gives goes = tt
at_last begun state (Some xs) (Some ys) (Some files) reported answer later ends is gives goes =
    let behind = next_files files in
    subst (λ l. IsNext (Some l) answer later)
    (sym (ap (chosen behind begun (all_reported state)) (is ∙ ap (λ t. next.in_front (Ok t) ys) ends)
    ∙ put_is behind begun state any.ended ys ∙ ap (λ g. put g (chosen behind true (all_reported state) [])) gives)) goes

end_seen : (event : piece.ContainerEvent) (bytes : List ℕ) → is_end event ≡ true → any.event_seen bytes event ≡ any.ended
end_seen (piece_kind.Packet millis origin ip) bytes is = absurd (false≢true is)
end_seen (piece_kind.Fragment millis origin ip part) bytes is = absurd (false≢true is)
end_seen (piece_kind.Skipped millis origin why) bytes is = absurd (false≢true is)
end_seen piece_kind.Untimed bytes is = absurd (false≢true is)
end_seen piece_kind.Section bytes is = absurd (false≢true is)
end_seen (piece_kind.Interface name) bytes is = absurd (false≢true is)
end_seen piece_kind.Passed bytes is = absurd (false≢true is)
end_seen piece_kind.End bytes is = refl

-- the end of a file gives a fault or nothing
ends_given : (link : FileLink) (bytes : List ℕ) (it : Option Event) → IsGiven (ending_given link) bytes (Ok it) →
    ending_given link ≡ None
ends_given Unmet bytes it gives = refl
ends_given Met bytes it gives = refl
ends_given (Unread number) bytes None gives = gives
ends_given (Unread number) bytes (Some event) gives = absurd cc

-- the state at the end of a file
pub ended_state : (state state' state'' : TakerState) (event : piece.ContainerEvent) (seen : List ℕ) →
    is_end event ≡ true → state' ≡ all_reported state →
    state'' ≡ state_after state' (any.event_seen seen event) → state'' ≡ all_reported state
ended_state state state' state'' event seen ends same after = after
    ∙ ap (state_after state') (end_seen event seen ends) ∙ same

-- the end of the file was read
pub after_end : (begun cut : Bool) (state state' state'' : TakerState) (old new : Option (List pieces.Answer))
    (files : Option (List (List ℕ))) (event : piece.ContainerEvent) (seen bytes : List ℕ) (it : Option Event)
    (answer : Answer) (later : Option (List Answer)) → cut ≡ false → is_end event ≡ true → report_of state ≡ None →
    state' ≡ all_reported state → ⊥ ⊎ next.IsNext old (Ok (any.event_seen seen event)) new →
    state'' ≡ state_after state' (any.event_seen seen event) →
    IsGiven (event_given state' (any.event_seen seen event)) bytes (Ok it) →
    IsNext (chosen_known true state'' (none_left (unless_cut cut new)) files) answer later →
    IsNext (chosen_known begun state (unless_cut cut old) files) answer later
after_end begun cut state state' state'' old new files event seen bytes it answer later uncut ends none same (inl never)
    after gives goes = absurd never
after_end begun true state state' state'' old new files event seen bytes it answer later uncut ends none same (inr is)
    after gives goes = absurd (false≢true (sym uncut))
after_end begun false state state' state'' old new files event seen bytes it answer later uncut ends none same (inr is)
    after gives goes =
    subst (λ all. IsNext all answer later) (sym (known_reported begun state old files none))
    (at_last begun state old new files (any.event_seen seen event) answer later (end_seen event seen ends) is
    (ends_given state.link bytes it
    (subst (λ s. IsGiven (event_given s any.ended) bytes (Ok it)) same
    (subst (λ r. IsGiven (event_given state' r) bytes (Ok it)) (end_seen event seen ends) gives)))
    (subst (λ s. IsNext (chosen_known true s (none_left new) files) answer later)
    (ended_state state state' state'' event seen ends same after) goes))

-- no file follows
pub no_file : (begun : Bool) (state : TakerState) (left : Option (List pieces.Answer)) (files : Option (List (List
    ℕ))) → files ≡ Some [] → state.link_of_packet ≡ None → state.is_reported ≡ true →
    IsNext (chosen_known begun state (none_left left) files) (Ok ended) (chosen_known begun state left files)
unfolding chosen next_files
no_file begun state left None is none done = absurd cc
no_file begun state None (Some files) is none done = tt
no_file begun state (Some left) (Some []) is none done =
    ap (λ s. reports_first s (next_files [])) (done_by state none done)
no_file begun state (Some left) (Some (file ∷ files)) is none done = absurd cc

-- the next file follows
next_known : (begun : Bool) (state : TakerState) (left : Option (List pieces.Answer)) (file : Option (List ℕ))
    (files : Option (List (List ℕ))) → state.link_of_packet ≡ None → state.is_reported ≡ true →
    IsNext (chosen_known begun state (none_left left) (known_too file files)) (Ok (skipped 0 NextFile))
    (chosen_known true (in_next_file state) (option_map pieces.answers file) files)
unfolding chosen next_files
next_known begun state None file files none done = tt
next_known begun state (Some left) None files none done = tt
next_known begun state (Some left) (Some file) None none done = tt
next_known begun state (Some left) (Some file) (Some files) none done =
    let same = done_by state none done in
    ap (λ s. reports_first s (next_files (file ∷ files))) same
    ∙ ap (λ s. Ok (skipped 0 NextFile) ∷ chosen (next_files files) true (in_next_file s) (pieces.answers file))
    (sym same)

pub next_file : (begun : Bool) (state state' : TakerState) (left begins_now : Option (List pieces.Answer))
    (file : Option (List ℕ)) (files files' all : Option (List (List ℕ))) → begins_now ≡ option_map pieces.answers file →
    files' ≡ files → all ≡ known_too file files → state.link_of_packet ≡ None → state.is_reported ≡ true →
    state' ≡ in_next_file state →
    IsNext (chosen_known begun state (none_left left) all) (Ok (skipped 0 NextFile))
    (chosen_known true state' begins_now files')
next_file begun state state' left begins_now file files files' all begins same are none done goes =
    subst (λ (a : Option (List (List ℕ))). IsNext (chosen_known begun state (none_left left) a)
    (Ok (skipped 0 NextFile)) (chosen_known true state' begins_now files')) (sym are)
    (subst (λ (f : Option (List (List ℕ))). IsNext (chosen_known begun state (none_left left) (known_too file files))
    (Ok (skipped 0 NextFile)) (chosen_known true state' begins_now f)) (sym same)
    (subst (λ (n : Option (List pieces.Answer)). IsNext
    (chosen_known begun state (none_left left) (known_too file files)) (Ok (skipped 0 NextFile))
    (chosen_known true state' n files)) (sym begins)
    (subst (λ s. IsNext (chosen_known begun state (none_left left) (known_too file files)) (Ok (skipped 0 NextFile))
    (chosen_known true s (option_map pieces.answers file) files)) (sym goes)
    (next_known begun state left file files none done))))

-- the container has a fault
refused : (n n' m m' : ℕ) (f : ContainerFault) → Moves n n' m m' → next.IsRefusal {A = piece.ContainerEvent} n n' (Err f) →
    IsRefusal {A = ⊤} m m' (Err (fault_of f))
refused n n' m m' of_any.Magic moves is = absurd is
refused n n' m m' of_any.Gzip moves is = absurd is
refused n n' m m' (of_any.LinkType number) moves is = absurd is
refused n n' m m' of_any.Truncated moves is = absurd is
refused n n' m m' of_any.TooLong moves is = absurd is
refused n n' m m' of_any.Block moves is = absurd is
refused n n' m m' of_any.Time moves is = absurd is
refused n n' m m' of_any.Read moves is = moves.fails is
refused n n' m m' of_any.Memory moves is = tt
refused n n' m m' of_any.Failed moves is = absurd is

-- a file that is cut is no failed read
cut_is_read : (n n' : ℕ) (begun : Bool) (f : ContainerFault) → is_cut begun f ≡ true →
    next.IsRefusal {A = piece.ContainerEvent} n n' (Err f) → ⊥
cut_is_read n n' begun of_any.Magic cut is = is
cut_is_read n n' begun of_any.Gzip cut is = is
cut_is_read n n' begun (of_any.LinkType number) cut is = is
cut_is_read n n' begun of_any.Truncated cut is = is
cut_is_read n n' begun of_any.TooLong cut is = is
cut_is_read n n' begun of_any.Block cut is = is
cut_is_read n n' begun of_any.Time cut is = is
cut_is_read n n' begun of_any.Read cut is = false≢true cut
cut_is_read n n' begun of_any.Memory cut is = false≢true cut
cut_is_read n n' begun of_any.Failed cut is = is

fails_by : (n n' m m' : ℕ) (b begun : Bool) (state : TakerState) (old new : Option (List pieces.Answer))
    (files : Option (List (List ℕ))) (f : ContainerFault) (bytes : List ℕ) → is_cut begun f ≡ b → Moves n n' m m' →
    next.IsRefusal {A = piece.ContainerEvent} n n' (Err f) ⊎ next.IsNext old (Err f) new →
    Steps m m' (chosen_known begun (all_reported state) old files) (chosen_known begun (all_reported state) (unless_cut b new) files)
    bytes (failed b f)
unfolding chosen
fails_by n n' m m' false begun state old new files f bytes cut moves (inl is) = inl (refused n n' m m' f moves is)
fails_by n n' m m' false begun state None new files f bytes cut moves (inr is) = inr tt
fails_by n n' m m' false begun state (Some xs) None files f bytes cut moves (inr is) = absurd is
fails_by n n' m m' false begun state (Some xs) (Some ys) None f bytes cut moves (inr is) = inr tt
fails_by n n' m m' false begun state (Some xs) (Some ys) (Some files) f bytes cut moves (inr is) =
    let behind = next_files files in
    inr (ap (chosen behind begun (all_reported state)) is ∙ fault_is behind begun state f
    ∙ ap (λ (c : Bool). put (Some (if c then Ok (skipped 0 CutShort) else Err (fault_of f))) (behind (all_reported state))) cut)
fails_by n n' m m' true begun state old new files f bytes cut moves (inl is) = absurd (cut_is_read n n' begun f cut is)
fails_by n n' m m' true begun state None new files f bytes cut moves (inr is) = tt
fails_by n n' m m' true begun state (Some xs) None files f bytes cut moves (inr is) = absurd is
fails_by n n' m m' true begun state (Some xs) (Some ys) None f bytes cut moves (inr is) = tt
fails_by n n' m m' true begun state (Some xs) (Some ys) (Some files) f bytes cut moves (inr is) =
    let behind = next_files files in
    ap (chosen behind begun (all_reported state)) is ∙ fault_is behind begun state f
    ∙ ap (λ (c : Bool). put (Some (if c then Ok (skipped 0 CutShort) else Err (fault_of f))) (behind (all_reported state))) cut

pub fails : (n n' m m' : ℕ) (cut b begun : Bool) (state state' : TakerState) (old new : Option (List pieces.Answer))
    (files : Option (List (List ℕ))) (f : ContainerFault) (bytes : List ℕ) → cut ≡ false → is_cut begun f ≡ b →
    report_of state ≡ None → state' ≡ all_reported state → Moves n n' m m' →
    next.IsRefusal {A = piece.ContainerEvent} n n' (Err f) ⊎ next.IsNext old (Err f) new →
    Steps m m' (chosen_known begun state (unless_cut cut old) files)
    (chosen_known begun state' (unless_cut b new) files) bytes (failed b f)
fails n n' m m' cut b begun state state' old new files f bytes uncut is none same moves answer =
    subst (λ all. Steps m m' all (chosen_known begun state' (unless_cut b new) files) bytes (failed b f))
    (sym (ap (λ c. chosen_known begun state (unless_cut c old) files) uncut ∙ known_reported begun state old files none))
    (subst (λ s. Steps m m' (chosen_known begun (all_reported state) old files) (chosen_known begun s (unless_cut b new)
    files) bytes
    (failed b f)) (sym same) (fails_by n n' m m' b begun state old new files f bytes is moves answer))

fault_reads : (P : Type 0) (n n' m m' : ℕ) (f : ContainerFault) → Moves n n' m m' → next.CountsReads {A = piece.ContainerEvent} P n n' (Err f) →
    CountsReads {A = Option Event} ⊤ m m' (Err (fault_of f))
fault_reads P n n' m m' of_any.Magic moves reads = moves.stays reads
fault_reads P n n' m m' of_any.Gzip moves reads = moves.stays reads
fault_reads P n n' m m' (of_any.LinkType number) moves reads = moves.stays reads
fault_reads P n n' m m' of_any.Truncated moves reads = moves.stays reads
fault_reads P n n' m m' of_any.TooLong moves reads = moves.stays reads
fault_reads P n n' m m' of_any.Block moves reads = moves.stays reads
fault_reads P n n' m m' of_any.Time moves reads = moves.stays reads
fault_reads P n n' m m' of_any.Read moves (inl is) = inl (moves.rises is)
fault_reads P n n' m m' of_any.Read moves (inr is) = inr (tt, moves.stays is.1)
fault_reads P n n' m m' of_any.Memory moves reads = moves.stays reads
fault_reads P n n' m m' of_any.Failed moves reads = moves.stays reads

cut_reads : (P : Type 0) (n n' : ℕ) (begun : Bool) (f : ContainerFault) → is_cut begun f ≡ true →
    next.CountsReads {A = piece.ContainerEvent} P n n' (Err f) → n' ≡ n
cut_reads P n n' begun of_any.Magic is reads = reads
cut_reads P n n' begun of_any.Gzip is reads = reads
cut_reads P n n' begun (of_any.LinkType number) is reads = reads
cut_reads P n n' begun of_any.Truncated is reads = reads
cut_reads P n n' begun of_any.TooLong is reads = reads
cut_reads P n n' begun of_any.Block is reads = reads
cut_reads P n n' begun of_any.Time is reads = reads
cut_reads P n n' begun of_any.Read is reads = absurd (false≢true is)
cut_reads P n n' begun of_any.Memory is reads = reads
cut_reads P n n' begun of_any.Failed is reads = reads

pub fails_reads : (P : Type 0) (n n' m m' : ℕ) (b begun : Bool) (f : ContainerFault) → is_cut begun f ≡ b → Moves n n' m m' →
    next.CountsReads {A = piece.ContainerEvent} P n n' (Err f) → CountsReads {A = Option Event} ⊤ m m' (failed b f)
fails_reads P n n' m m' true begun f is moves reads = moves.stays (cut_reads P n n' begun f is reads)
fails_reads P n n' m m' false begun f is moves reads = fault_reads P n n' m m' f moves reads

-- no read failed
pub no_reads : (m m' : ℕ) (result : Result (Option Event) CaptureFault) → m' ≡ m → CountsReads ⊤ m m' result
no_reads m m' (Ok given) same = same
no_reads m m' (Err fault.Magic) same = same
no_reads m m' (Err fault.LinkType) same = same
no_reads m m' (Err fault.Truncated) same = same
no_reads m m' (Err fault.TooLong) same = same
no_reads m m' (Err fault.Read) same = inr (tt, same)
no_reads m m' (Err fault.Memory) same = same
no_reads m m' (Err fault.Failed) same = same
no_reads m m' (Err fault.Block) same = same
no_reads m m' (Err fault.Time) same = same
no_reads m m' (Err (fault.Vlans one other)) same = same
no_reads m m' (Err (fault.Interfaces one other)) same = same
no_reads m m' (Err (fault.InterfaceNames one other)) same = same
no_reads m m' (Err (fault.LinkNumber number)) same = same
no_reads m m' (Err fault.Gzip) same = same

-- at most two reports aren't made
reports_most : (state : TakerState) → reports_left state ≤ 2
reports_most state = by state.link_of_packet state.is_reported
  where
    by : (link : Option Link) (done : Bool) → reports_left (with_reports state link done) ≤ 2
    by None true = omega arith
    by None false = omega arith
    by (Some link) true = omega arith
    by (Some link) false = omega arith

none_reported : (state state' : TakerState) → state' ≡ all_reported state → reports_left state' ≡ 0
none_reported state state' same = ap reports_left same

pub fails_left : (old new more : ℕ) (cut b : Bool) (state state' : TakerState) (f : ContainerFault) → cut ≡ false →
    new ≡ 0 →
    state' ≡ all_reported state →
    (new * 3 + cut_left b + reports_left state' + more) + step_count (failed b f) ≤ old * 3 + cut_left cut +
    reports_left state + more
fails_left old new more cut true state state' f uncut over same =
    let one : cut_left cut ≡ 1 = ap cut_left uncut in
    let none = none_reported state state' same in omega (arith, one, over, none)
fails_left old new more cut false state state' f uncut over same =
    let one : cut_left cut ≡ 1 = ap cut_left uncut in
    let none = none_reported state state' same in omega (arith, one, over, none)

step_one : (result : Result (Option Event) CaptureFault) → step_count result ≤ 1
step_one (Ok None) = omega arith
step_one (Ok (Some event.End)) = omega arith
step_one (Ok (Some (event.Packet millis ip))) = omega arith
step_one (Ok (Some (event.Skipped millis why))) = omega arith
step_one (Err f) = omega arith

-- a report was made
pub report_left : (left more : ℕ) (state state' : TakerState) (event : Event) (report : EventSeen) →
    Some report ≡ report_of state → state' ≡ reported state →
    (left + reports_left state' + more) + step_count (Ok (Some event)) ≤ left + reports_left state + more
report_left left more state state' event report is same =
    let fewer : reports_left state' ≡ reports_left (reported state) = ap reports_left same in
    let one : reports_left (reported state) + 1 ≡ reports_left state = by state.link_of_packet state.is_reported is in
    let most = step_one (Ok (Some event)) in
    omega (arith, fewer, one, most)
  where
    by : (link : Option Link) (done : Bool) → Some report ≡ report_of (with_reports state link done) →
        reports_left (reported (with_reports state link done)) + 1 ≡ reports_left (with_reports state link done)
    by (Some link) true is = refl
    by (Some link) false is = refl
    by None true is = absurd cc
    by None false is = refl

pub fails_payload : (b : Bool) (f : ContainerFault) (bytes : List ℕ) →
    IfOk (failed b f) (λ it. IfSome it (PayloadLiesIn bytes))
fails_payload true f bytes = tt
fails_payload false f bytes = tt

pub fails_moment : (b : Bool) (f : ContainerFault) → IfOk (failed b f) (λ it. IfSome it (IsBy latest_moment))
fails_moment true f = omega arith
fails_moment false f = tt

fewer_by : (event : piece.ContainerEvent) (old new : ℕ) → is_end event ≡ false → (event ≡ piece_kind.End) ⊎ (new < old) → new < old
fewer_by event old new more (inl ends) = absurd (false≢true (sym more ∙ ap is_end ends))
fewer_by event old new more (inr less) = less

-- a piece that isn't the end was read
pub stepped_left : (old new more : ℕ) (cut : Bool) (state state' : TakerState) (event : piece.ContainerEvent)
    (result : Result (Option Event) CaptureFault) → is_end event ≡ false → (event ≡ piece_kind.End) ⊎ (new < old) →
    (new * 3 + cut_left cut + reports_left state' + more) + step_count result
    ≤ old * 3 + cut_left cut + reports_left state + more
stepped_left old new more cut state state' event result is fewer =
    let less = fewer_by event old new is fewer in
    let one = step_one result in
    let two = reports_most state' in
    omega (arith, less, one, two)

-- the end of the file was read
pub ended_left : (reader : ReaderState) (event : piece.ContainerEvent) (old : ℕ) → is_end event ≡ true →
    next.StaysOver (Ok event) reader →
    next.pieces_left reader ≤ old
ended_left reader piece_kind.End old is over = let none : next.pieces_left reader ≡ 0 = ap next.pieces_left over in
    omega (arith, none)
ended_left reader (piece_kind.Packet millis origin ip) old is over = absurd (false≢true is)
ended_left reader (piece_kind.Fragment millis origin ip part) old is over = absurd (false≢true is)
ended_left reader (piece_kind.Skipped millis origin why) old is over = absurd (false≢true is)
ended_left reader piece_kind.Untimed old is over = absurd (false≢true is)
ended_left reader piece_kind.Section old is over = absurd (false≢true is)
ended_left reader (piece_kind.Interface name) old is over = absurd (false≢true is)
ended_left reader piece_kind.Passed old is over = absurd (false≢true is)

-- the end of the file was read, and gave a fault
pub ended_fault : (old new more : ℕ) (cut : Bool) (state state' state'' : TakerState) → new ≤ old →
    state' ≡ all_reported state → state'' ≡ state' →
    (new * 3 + cut_left cut + reports_left state'' + more) + 0 ≤ old * 3 + cut_left cut + reports_left state + more
ended_fault old new more cut state state' state'' less same after =
    let none = none_reported state state'' (after ∙ same) in omega (arith, less, none)

-- ---- piece after piece

-- The same results are to come as before, and some pieces were read.
pub record HasPassed (left left' n n' : ℕ) (all later : Option (List Answer)) : Type 0 where
  pub stays : StaysComing all later
  pub lighter : left' ≤ left
  pub reads : n' ≡ n

stays : (all : Option (List Answer)) → StaysComing all all
stays None = tt
stays (Some xs) = refl

pub begin_passing : (left n : ℕ) (all : Option (List Answer)) → HasPassed left left n n all all
begin_passing left n all = record { stays = stays all; lighter = omega arith; reads = refl }

stays_on : (all mid later : Option (List Answer)) → StaysComing all mid → StaysComing mid later → StaysComing all later
stays_on None mid later one two = tt
stays_on (Some xs) mid later one two = subst (λ it. StaysComing it later) one two

pub pass_more : (left mid left' n n' n'' : ℕ) (all now later : Option (List Answer)) → HasPassed left mid n n' all now →
    StaysComing now later → left' + 1 ≤ mid → n'' ≡ n' → HasPassed left left' n n'' all later
pass_more left mid left' n n' n'' all now later has step less same = record {
  stays = stays_on all now later has.stays step;
  lighter = let l = has.lighter in omega (arith, l, less);
  reads = same ∙ has.reads;
}

pub next_after : (all now later : Option (List Answer)) (answer : Answer) → StaysComing all now → IsNext now answer later →
    IsNext all answer later
next_after None now later answer one is = tt
next_after (Some xs) now later answer one is = subst (λ it. IsNext it answer later) one is
