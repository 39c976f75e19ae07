-- A command has one answer, but that memory may be refused.
use Rattle.pim_answers.proofs.Words.{◌≡◌, ◌∙◌, ◌≢◌, sym, ap, subst, refl, inl, inr, ℕ, ◌-◌, ◌<◌, Bool, true, false, not, ◌||◌}
use Rattle.pim_answers.proofs.Words.{List, [], ◌∷◌, ◌++◌, Option, None, Some, codes, ltb, arith, IsTrue, false≢true, ltb-true}
use Rattle.pim_answers.proofs.Words.{ltb-false, AddressFamily, rp_of, GroupForm, Demand, IsFormOf, echo_line, refresh_line}
use Rattle.pim_answers.proofs.Words.{Comparison, Echo, Refresh, Reached, RouterReport, echo, refresh, verdict, IsTooBig}
use Rattle.pim_answers.proofs.Words.{RunHasOneEnd, RouterState, IsLong, stated_in, type_of, address_bytes, FromText, Refused}
use Rattle.pim_answers.proofs.Words.{RefusedIf, OrMemory, OrMemoryIf, UnlessIf, UnlessAny, SaysMade, too_big_words, KeepsForm}
use Rattle.pim_answers.proofs.Words.{kept_now, SaysOf, IfUsable, AnswersFound, SaysChange, has_other_family, name_words}
use Rattle.pim_answers.proofs.Words.{IsFirstBig, AreCompared, SaysSame, writer_of, writer_words, differ_from, family_words, Kept}
use Rattle.pim_answers.proofs.Words.{with_kept, lacks_place, is_usable, ok_line, fault_line, memory_line, lacks_port, port_words}
use Rattle.pim_answers.proofs.Words.{addresses_of, Takes, NeedsMemory, packet_of, packet_from, destination_of, IsMessageOf}
use Rattle.pim_answers.proofs.Words.{TakesText, TakesShort, Passes, moment_line}
use Rattle.pim_down.specs.Time.{Downstream, IsNextDue}
use Rattle.pim_form.specs.Laws.{OneNormalForm, OneListOfMessages}
use Rattle.pim_form.specs.Messages.{Writing as Writer}
use Rattle.pim_form.specs.TooBig.{too_big}
use Rattle.pim_frame.specs.Seal.{IsSealed, OneChecksum}
use Rattle.pim_report.specs.DemandText.{demand_text}
use Rattle.pim_report.specs.MessageText.{messages_text}
use Rattle.pim_router.specs.OneList.{OneListIsDemanded, OneIsTooBig, OneListIsTheChange, OneChangeIsTooBig}
use Rattle.pim_router.specs.Packets.{Packet as Received}
use Rattle.pim_text.specs.OneReading.{OneBody, LongBody}
use Rattle.pim_report.specs.SameLine.{same_line}
use Rattle.pim_answers.specs.OneAnswer.{OneAnswer, OneText, OneRun, OnePacket, OneFrom, OneKeep, OneNext, OneWants, OneMessages, OneChange, OneSame}

-- ---- refusals

module _ {S : Type 0} where
  pub one_refused : (words : List ℕ) (state : S) → OneAnswer (Refused words state)
  one_refused words state text other after end is too room more = (is.0 ∙ sym too.0, is.1 ∙ sym too.1)

  pub one_if : (test : Bool) (words : List ℕ) (state : S) (Does : List ℕ → S → Type 0) → OneAnswer Does → OneAnswer (RefusedIf test words state Does)
  one_if true words state Does one = one_refused words state
  one_if false words state Does one = one

  pub with_room : (state : S) (Does : List ℕ → S → Type 0) (text : List ℕ) (after : S) → OrMemory state Does text after → text ≢ memory_line → Does text after
  with_room state Does text after (inl does) room = does
  with_room state Does text after (inr memory) room = absurd (room memory.0)

  with_room_if : (May : Type 0) (state : S) (Does : List ℕ → S → Type 0) (text : List ℕ) (after : S) → OrMemoryIf May state Does text after → text ≢ memory_line → Does text after
  with_room_if May state Does text after (inl does) room = does
  with_room_if May state Does text after (inr memory) room = absurd (room memory.1)

  one_or_memory_if : (May : Type 0) (state : S) (Does : List ℕ → S → Type 0) → OneAnswer Does → OneAnswer (OrMemoryIf May state Does)
  one_or_memory_if May state Does one text other after end is too room more =
      one text other after end (with_room_if May state Does text after is room) (with_room_if May state Does other end too more) room more

  pub one_or_memory : (state : S) (Does : List ℕ → S → Type 0) → OneAnswer Does → OneAnswer (OrMemory state Does)
  one_or_memory state Does one text other after end is too room more =
      one text other after end (with_room state Does text after is room) (with_room state Does other end too more) room more

text_if : (test : Bool) (words : List ℕ) (Says : List ℕ → Type 0) → OneText Says → OneText (UnlessIf test words Says)
text_if true words Says one text other is too room more = is ∙ sym too
text_if false words Says one text other is too room more = one text other is too room more

text_any : (faults : List (List ℕ)) (Says : List ℕ → Type 0) → OneText Says → OneText (UnlessAny faults Says)
text_any [] Says one text other is too room more = one text other is too room more
text_any (first ∷ others) Says one text other is too room more = is ∙ sym too

-- ---- `run`

module _ (law : RunHasOneEnd) (family : AddressFamily) (moment : ℕ) where
  one_way : (some said : List RouterReport) (lines other : List ℕ) (router after end : RouterState) → Passes family moment some lines router after → Passes family moment said other router end → (lines ≡ other) × (after ≡ end)
  unfolding Passes
  one_way [] [] lines other router after end is too = (is.1 ∙ sym too.1, (law moment router after end Reached Reached is.0 too.0).1)
  one_way [] (echo port group what ∷ said) lines other router after end is too =
      let never : Reached ≡ Echo port group what = (law moment router after too.0 Reached (Echo port group what) is.0 too.2).0 in absurd cc
  one_way [] (refresh ∷ said) lines other router after end is too =
      let never : Reached ≡ Refresh = (law moment router after too.0 Reached Refresh is.0 too.2).0 in absurd cc
  one_way [] (verdict v ∷ said) lines other router after end is too = absurd too
  one_way (echo port group what ∷ some) [] lines other router after end is too =
      let never : Echo port group what ≡ Reached = (law moment router is.0 end (Echo port group what) Reached is.2 too.0).0 in absurd cc
  one_way (echo port group what ∷ some) (echo p g w ∷ said) lines other router after end is too =
      let same = law moment router is.0 too.0 (Echo port group what) (Echo p g w) is.2 too.2 in
      let step : Echo port group what ≡ Echo p g w = same.0 in
      let ports : port ≡ p = cc in
      let groups : group ≡ g = cc in
      let whats : what ≡ w = cc in
      let between = same.1 in
      let rest = one_way some said is.1 too.1 is.0 after end is.4 (subst (λ (s : RouterState). Passes family moment said too.1 s end) (sym between) too.4) in
      let others = rest.0 in
      (is.3 ∙ ((λ i. echo_line family (between i).machines.moment (ports i) (groups i) (whats i) ++ others i) ∙ sym too.3), rest.1)
  one_way (echo port group what ∷ some) (refresh ∷ said) lines other router after end is too =
      let never : Echo port group what ≡ Refresh = (law moment router is.0 too.0 (Echo port group what) Refresh is.2 too.2).0 in absurd cc
  one_way (echo port group what ∷ some) (verdict v ∷ said) lines other router after end is too = absurd too
  one_way (refresh ∷ some) [] lines other router after end is too =
      let never : Refresh ≡ Reached = (law moment router is.0 end Refresh Reached is.2 too.0).0 in absurd cc
  one_way (refresh ∷ some) (echo p g w ∷ said) lines other router after end is too =
      let never : Refresh ≡ Echo p g w = (law moment router is.0 too.0 Refresh (Echo p g w) is.2 too.2).0 in absurd cc
  one_way (refresh ∷ some) (refresh ∷ said) lines other router after end is too =
      let between = (law moment router is.0 too.0 Refresh Refresh is.2 too.2).1 in
      let rest = one_way some said is.1 too.1 is.0 after end is.4 (subst (λ (s : RouterState). Passes family moment said too.1 s end) (sym between) too.4) in
      let others = rest.0 in
      (is.3 ∙ ((λ i. refresh_line (between i).machines.moment ++ others i) ∙ sym too.3), rest.1)
  one_way (refresh ∷ some) (verdict v ∷ said) lines other router after end is too = absurd too
  one_way (verdict v ∷ some) said lines other router after end is too = absurd is

pub one_run : RunHasOneEnd → OneRun
one_run law family moment router text other after end is too room more =
    let way = one_way law family moment is.reported too.reported is.lines too.lines router after end is.passes too.passes in
    (is.text_is ∙ (ap (λ (l : List ℕ). l ++ ok_line) way.0 ∙ sym too.text_is), way.1)

-- ---- packets

one_taken : (family : AddressFamily) (packet : Received) (router : RouterState) → OneAnswer (Takes family packet router)
one_taken family packet router text other after end is too room more = (is.0 ∙ sym too.0, is.1 ∙ sym too.1)

pub one_packet : OnePacket
one_packet family packet router =
    one_if (differ_from family (packet.source ∷ packet.destination ∷ [])) family_words router _
    (one_if (lacks_port packet.port router) (port_words packet.port) router _
    (one_or_memory_if (NeedsMemory family (packet_of packet) router) router (Takes family (packet_of packet) router) (one_taken family (packet_of packet) router)))

module _ (one : OneBody) (long : LongBody) (checksum : OneChecksum) (family : AddressFamily) (from : FromText) (router : RouterState) where
  one_message : (source destination message other : List ℕ) → IsMessageOf family from.text.now source destination message → IsMessageOf family from.text.now source destination other → message ≡ other
  one_message source destination message other is too =
      let same = one family from.text.now is.is_hello too.is_hello is.body too.body is.spelled too.spelled in
      let kind = same.0 in
      let body = same.1 in
      let sealed = subst (λ (b : List ℕ). IsSealed family source destination (type_of is.is_hello) b other) (sym body)
      (subst (λ (k : Bool). IsSealed family source destination (type_of k) too.body other) (sym kind) too.sealed) in
      checksum family source destination (type_of is.is_hello) is.body message other is.sealed sealed

  one_text : OneAnswer (TakesText family from router)
  one_text text other after end (message, is, takes) (m, so, taken) room more =
      let same = one_message (address_bytes from.sender.source) (destination_of family from.sender.destination) message m is so in
      one_taken family (packet_from family from.sender message) router text other after end takes
      (subst (λ (bytes : List ℕ). Takes family (packet_from family from.sender bytes) router other end) (sym same) taken) room more

  never_both : (text : List ℕ) (after : RouterState) → IsLong family from.text.now → TakesText family from router text after → ⊥
  never_both text after is_long (message, is, takes) = omega (arith, long family from.text.now is.is_hello is.body is.spelled is_long, is.short)

  one_short : OneAnswer (TakesShort family from router)
  one_short text other after end (inl is) (inl too) room more = one_refused (codes "text too-long") router text other after end is.1 too.1 room more
  one_short text other after end (inl is) (inr too) room more = absurd (never_both other end is.0 (with_room router (TakesText family from router) other end too more))
  one_short text other after end (inr is) (inl too) room more = absurd (never_both text after too.0 (with_room router (TakesText family from router) text after is room))
  one_short text other after end (inr is) (inr too) room more = one_or_memory router (TakesText family from router) one_text text other after end is too room more

pub one_from : OneBody → LongBody → OneChecksum → OneFrom
one_from one long checksum family from router =
    one_if (not (stated_in family from.stated) || differ_from family (addresses_of from.sender)) family_words router _
    (one_if (lacks_port from.sender.port router) (port_words from.sender.port) router _ (one_short one long checksum family from router))

-- ---- what is asked for

one_form : OneNormalForm → (family : AddressFamily) (demand : Demand) (one other : List GroupForm) → IsFormOf family demand one → IsFormOf family demand other → one ≡ other
one_form normal family demand one other is too =
    normal family one other is.normal too.normal
    (λ source group tree valid group_valid. sym (is.wants source group tree valid group_valid) ∙ too.wants source group tree valid group_valid)

pub one_keep : OneNormalForm → OneKeep
one_keep normal family keeping router kept =
    one_if (differ_from family (keeping.upstream ∷ [])) family_words kept _
    (one_if (lacks_place keeping.name.now kept) (name_words keeping.name.now) kept _ (one_or_memory kept (KeepsForm family keeping router kept) keeps))
  where
    keeps : OneAnswer (KeepsForm family keeping router kept)
    keeps text other after end (form, is, done) (f, so, too) room more =
        let same = one_form normal family _ form f is so in
        (done.0 ∙ sym too.0, done.1 ∙ (ap (λ (g : List GroupForm). with_kept (kept_now family keeping.name.now g router) kept) same ∙ sym too.1))

pub one_wants : OneNormalForm → OneWants
one_wants normal family router text other (inl (form, is, says)) (inl (f, so, too)) room more =
    says ∙ (ap (λ (g : List GroupForm). demand_text family true router.routes g ++ ok_line) (one_form normal family _ form f is so) ∙ sym too)
one_wants normal family router text other (inl is) (inr memory) room more = absurd (more memory)
one_wants normal family router text other (inr memory) too room more = absurd (room memory)

-- ---- `next`

not_earlier : (state : Downstream) (one other : ℕ) → IsNextDue state (Some one) → IsNextDue state (Some other) → one < other → ⊥
not_earlier state one other is too less =
    false≢true (sym (too.2 (one - state.moment) (omega (arith, less, is.0, too.0))) ∙ is.1)

one_due : (state : Downstream) (one other : Option ℕ) → IsNextDue state one → IsNextDue state other → one ≡ other
one_due state None None is too = refl
one_due state None (Some other) is too = absurd (false≢true (sym (is (other - state.moment)) ∙ too.1))
one_due state (Some one) None is too = absurd (false≢true (sym (too (one - state.moment)) ∙ is.1))
one_due state (Some one) (Some other) is too = at (ltb one other) refl (ltb other one) refl
  where
    at : (a : Bool) → ltb one other ≡ a → (b : Bool) → ltb other one ≡ b → Some one ≡ Some other
    at true less b e = absurd (not_earlier state one other is too (ltb-true one other less))
    at false least true more = absurd (not_earlier state other one too is (ltb-true other one more))
    at false least false most = let same : one ≡ other = omega (arith, ltb-false one other least, ltb-false other one most) in ap (λ (n : ℕ). Some n) same

pub one_next : OneNext
one_next router text other (due, is, says) (d, so, too) room more =
    says ∙ (ap (λ (moment : Option ℕ). moment_line moment ++ ok_line) (one_due router.machines due d is so) ∙ sym too)

-- ---- messages

module _ (family : AddressFamily) (AreMade : List (List ℕ) → Type 0) (IsBig : Option (List ℕ) → Type 0)
    (list : (one other : List (List ℕ)) → AreMade one → AreMade other → one ≡ other) (big : (one other : Option (List ℕ)) → IsBig one → IsBig other → one ≡ other) where
  made_big : (group : List ℕ) → IsBig None → IsBig (Some group) → ⊥
  made_big group none some = let never : None ≡ Some group = big None (Some group) none some in absurd cc

  one_made : OneText (SaysMade family AreMade IsBig)
  one_made text other (inl (inl (messages, made, is), none)) (inl (inl (m, too, so), nor)) room more =
      is ∙ (ap (λ (l : List (List ℕ)). messages_text l ++ ok_line) (list messages m made too) ∙ sym so)
  one_made text other (inl (inl made, none)) (inl (inr memory, nor)) room more = absurd (more memory)
  one_made text other (inl (inr memory, none)) too room more = absurd (room memory)
  one_made text other (inl (inl made, none)) (inr (group, some, is)) room more = absurd (made_big group none some)
  one_made text other (inr (group, some, is)) (inl (made, none)) room more = absurd (made_big group none some)
  one_made text other (inr (group, some, is)) (inr (g, any, so)) room more =
      let both : Some group ≡ Some g = big (Some group) (Some g) some any in
      let same : group ≡ g = cc in
      is ∙ (ap (λ (x : List ℕ). fault_line (too_big_words family x)) same ∙ sym so)

pub one_messages : OneListIsDemanded → OneIsTooBig → OneMessages
one_messages list big family writing router =
    text_if (has_other_family family writing) family_words _ (text_any (writer_words family writing) _ (one_made family _ _ (list family (writer_of writing) router) (big family (writer_of writing) router)))

module _ (family : AddressFamily) (comparison : Comparison) (router : RouterState) (Says : Kept → List ℕ → Type 0) (one : (kept : Kept) → OneText (Says kept)) where
  one_of : (found : Option Kept) → OneText (SaysOf family comparison router Says found)
  one_of None text other is too room more = is ∙ sym too
  one_of (Some kept) text other is too room more =
      text_any (writer_words family comparison.writing) (IfUsable family router (address_bytes comparison.writing.upstream) Says kept)
      (text_if (not (is_usable family router.routes (address_bytes comparison.writing.upstream) kept)) (codes "tables") (Says kept) (one kept)) text other is too room more

  one_found : (found : Option Kept) → OneText (AnswersFound family comparison router Says found)
  one_found found = text_if (has_other_family family comparison.writing) family_words (SaysOf family comparison router Says found) (one_of found)

pub one_change : OneListIsTheChange → OneChangeIsTooBig → OneChange
one_change list big family comparison router kept =
    one_found family comparison router (SaysChange family (writer_of comparison.writing) router)
    (λ found. one_made family _ _ (list family (writer_of comparison.writing) found.form router) (big family (writer_of comparison.writing) found.form router)) _

-- ---- `same`

same_test : (a b : Bool) → (IsTrue a → IsTrue b) → (IsTrue b → IsTrue a) → a ≡ b
same_test true true there back = refl
same_test true false there back = absurd (false≢true (there refl))
same_test false true there back = absurd (false≢true (back refl))
same_test false false there back = refl

module _ (canonical : OneListOfMessages) (list : OneListIsDemanded) (big : OneIsTooBig) (family : AddressFamily) (writer : Writer) (router : RouterState) (kept : Kept) where
  one_compared : (same other : Bool) → AreCompared family writer kept.form router same → AreCompared family writer kept.form router other → same ≡ other
  one_compared same other is too =
      let before = canonical family writer (rp_of family router.routes) kept.form is.before too.before is.of_kept too.of_kept in
      let now = list family writer router is.now too.now is.of_now too.of_now in
      same_test same other
      (λ yes. too.compared.1 (sym before ∙ (is.compared.0 yes ∙ now)))
      (λ yes. is.compared.1 (before ∙ (too.compared.0 yes ∙ sym now)))

  first_big : (group g : List ℕ) → IsFirstBig family writer kept.form router group → IsFirstBig family writer kept.form router g → group ≡ g
  first_big group g (inl is) (inl too) = let both : Some group ≡ Some g = sym is ∙ too in cc
  first_big group g (inl is) (inr too) = let never : Some group ≡ None = sym is ∙ too.0 in absurd cc
  first_big group g (inr is) (inl too) = let never : None ≡ Some g = sym is.0 ∙ too in absurd cc
  first_big group g (inr is) (inr too) = let both : Some group ≡ Some g = big family writer router (Some group) (Some g) is.1 too.1 in cc

  none_big : (group : List ℕ) → (too_big family writer.budget kept.form ≡ None) × IsTooBig family writer router None → IsFirstBig family writer kept.form router group → ⊥
  none_big group none (inl is) = let never : None ≡ Some group = sym none.0 ∙ is in absurd cc
  none_big group none (inr is) = let never : None ≡ Some group = big family writer router None (Some group) none.1 is.1 in absurd cc

  one_same_text : OneText (SaysSame family writer router kept)
  one_same_text text other (inl (inl (same, compared, is), none)) (inl (inl (s, too, so), nor)) room more =
      is ∙ (ap (λ (b : Bool). same_line b ++ ok_line) (one_compared same s compared too) ∙ sym so)
  one_same_text text other (inl (inl compared, none)) (inl (inr memory, nor)) room more = absurd (more memory)
  one_same_text text other (inl (inr memory, none)) too room more = absurd (room memory)
  one_same_text text other (inl (inl compared, none)) (inr (group, some, is)) room more = absurd (none_big group none some)
  one_same_text text other (inr (group, some, is)) (inl (compared, none)) room more = absurd (none_big group none some)
  one_same_text text other (inr (group, some, is)) (inr (g, any, so)) room more =
      is ∙ (ap (λ (x : List ℕ). fault_line (too_big_words family x)) (first_big group g some any) ∙ sym so)

pub one_same : OneListOfMessages → OneListIsDemanded → OneIsTooBig → OneSame
one_same canonical list big family comparison router kept =
    one_found family comparison router (SaysSame family (writer_of comparison.writing) router)
    (λ found. one_same_text canonical list big family (writer_of comparison.writing) router found) _
