-- Canonical messages tell their normal form.
use Rattle.pim_form.proofs.Words.{◌≡◌, ◌∙◌, ℕ, true, List, [], ◌∷◌, ◌++◌, Option, None, Some, map, refl, sym, ap, subst}
use Rattle.pim_form.proofs.Words.{AllByRecursion, AddressFamily, join_prune, content, all_routers, OneChecksum}
use Rattle.pim_form.proofs.Words.{IsSealed, JoinPrune, Entry, IsMessage, canonical, GroupForm, IsNormal, WantUnit}
use Rattle.pim_form.proofs.Words.{units_of, fits, joined, AreRuns, Writing, IsWriting, IsRpOf, HaveRps, star_entries}
use Rattle.pim_form.proofs.Words.{excepted_entries, written_set, written_message, CarriesRun, CarryRuns, AreCanonical}
use Rattle.pim_jp.specs.declared.entry.Entry.TheVariants.{Star, Source, Rpt}
use Rattle.pim_jp.specs.Message.{GroupSet, Message, message_of}
use Rattle.pim_form.proofs.Lists.{all_front, all_behind, one_mapped}
use Rattle.pim_form.proofs.Normal.{groups_some}
use Rattle.pim_form.proofs.Units.{one_of_units}
use Rattle.pim_form.proofs.OnePacking.{one_packing}
use Rattle.pim_form.proofs.Spelled.{IsValidUnit, IsValid, units_valid, parts_valid, rp_here, IsPart, is_message}

-- ---- a set tells its group

source_apart : (x y : List ℕ) → ◌≡◌ {A = Entry (List ℕ)} (Source x) (Source y) → x ≡ y
source_apart x y e = cc

rpt_apart : (x y : List ℕ) → ◌≡◌ {A = Entry (List ℕ)} (Rpt x) (Rpt y) → x ≡ y
rpt_apart x y e = cc

abbrev sources_told : List (List ℕ) → List (Entry (List ℕ))
sources_told xs = map (λ source. Source source) xs

one_sources : (xs ys : List (List ℕ)) → sources_told xs ≡ sources_told ys → xs ≡ ys
one_sources xs ys h = one_mapped (λ source. Source source) source_apart xs ys h

no_star_told : (rp : List ℕ) (xs : List (List ℕ)) (others : List (Entry (List ℕ))) → sources_told xs ≡ Star rp ∷ others → ⊥
no_star_told rp [] others h = cc
no_star_told rp (x ∷ xs) others h = cc

record SameLists (a b : Option (List (List ℕ))) (xs ys : List (List ℕ)) : Type 0 where
  stars : a ≡ b
  sources : xs ≡ ys

lists_told : (family : AddressFamily) (p q : Option (List ℕ)) (a b : Option (List (List ℕ))) (xs ys : List (List ℕ)) → IsRpOf family p a → IsRpOf family q b
    → star_entries p a ++ sources_told xs ≡ star_entries q b ++ sources_told ys → excepted_entries a ≡ excepted_entries b → SameLists a b xs ys
lists_told family p q None None xs ys is_p is_q joined pruned = record { stars = refl; sources = one_sources xs ys joined }
lists_told family p None None (Some f) xs ys is_p is_q joined pruned = absurd is_q
lists_told family p (Some rp) None (Some f) xs ys is_p is_q joined pruned = absurd (no_star_told rp xs (sources_told ys) joined)
lists_told family None q (Some e) None xs ys is_p is_q joined pruned = absurd is_p
lists_told family (Some rp) q (Some e) None xs ys is_p is_q joined pruned = absurd (no_star_told rp ys (sources_told xs) (sym joined))
lists_told family None q (Some e) (Some f) xs ys is_p is_q joined pruned = absurd is_p
lists_told family (Some rp) None (Some e) (Some f) xs ys is_p is_q joined pruned = absurd is_q
lists_told family (Some p) (Some q) (Some e) (Some f) xs ys is_p is_q joined pruned =
    let tails : sources_told xs ≡ sources_told ys = cc in
    let exceptions = one_mapped (λ source. Rpt source) rpt_apart e f pruned in
    record { stars = ap Some exceptions; sources = one_sources xs ys tails }

module _ (family : AddressFamily) (rps : List ℕ → Option (List ℕ)) where
  one_set : (a b : GroupForm) → IsValid family rps a → IsValid family rps b → written_set rps a ≡ written_set rps b → a ≡ b
  one_set a b is_a is_b h =
      let groups : a.group ≡ b.group = ap (λ (set : GroupSet). set.group) h in
      let joined : (written_set rps a).joined ≡ (written_set rps b).joined = ap (λ (set : GroupSet). set.joined) h in
      let pruned : (written_set rps a).pruned ≡ (written_set rps b).pruned = ap (λ (set : GroupSet). set.pruned) h in
      let lists = lists_told family (rps a.group) (rps b.group) a.star b.star a.sources b.sources (rp_here family rps a is_a) (rp_here family rps b is_b) joined pruned in
      let stars = lists.stars in
      let sources = lists.sources in
      λ i. record { group = groups i; star = stars i; sources = sources i }

  one_part : (a b : List GroupForm) → AllByRecursion (IsValid family rps) a → AllByRecursion (IsValid family rps) b → map (written_set rps) a ≡ map (written_set rps) b → a ≡ b
  one_part [] [] all_a all_b h = refl
  one_part [] (y ∷ b) all_a all_b h = absurd cc
  one_part (x ∷ a) [] all_a all_b h = absurd cc
  one_part (x ∷ a) (y ∷ b) all_a all_b h =
      let first : written_set rps x ≡ written_set rps y = ap (λ (sets : List GroupSet). first_or (written_set rps x) sets) h in
      let others : map (written_set rps) a ≡ map (written_set rps) b = ap others_of h in
      let head = one_set x y all_a.0 all_b.0 first in
      let tail = one_part a b all_a.1 all_b.1 others in
      λ i. head i ∷ tail i
    where
      first_or : GroupSet → List GroupSet → GroupSet
      first_or set [] = set
      first_or set (this ∷ sets) = this

      others_of : List GroupSet → List GroupSet
      others_of [] = []
      others_of (this ∷ sets) = sets

-- what the laws of the crates below say of a message that is sealed and written
pub record Reads (family : AddressFamily) (own : List ℕ) : Type 0 where
  pub opened : (body bytes : List ℕ) → IsSealed family own (all_routers family) JoinPrune body bytes → content bytes ≡ join_prune body
  pub read : (message : Message) → IsMessage family message → message_of family (canonical family message) ≡ message

module _ (family : AddressFamily) (writing : Writing) (rps : List ℕ → Option (List ℕ)) (is_writing : IsWriting family writing) (reads : Reads family writing.own) where
  one_message : (a b : List GroupForm) (bytes : List ℕ) → IsPart family writing rps a → IsPart family writing rps b
      → IsSealed family writing.own (all_routers family) JoinPrune (canonical family (written_message writing rps a)) bytes
      → IsSealed family writing.own (all_routers family) JoinPrune (canonical family (written_message writing rps b)) bytes → a ≡ b
  one_message a b bytes part_a part_b sealed_a sealed_b =
      let contents : join_prune (canonical family (written_message writing rps a)) ≡ join_prune (canonical family (written_message writing rps b)) =
      sym (reads.opened (canonical family (written_message writing rps a)) bytes sealed_a) ∙ reads.opened (canonical family (written_message writing rps b)) bytes sealed_b in
      let bodies : canonical family (written_message writing rps a) ≡ canonical family (written_message writing rps b) = cc in
      let messages : written_message writing rps a ≡ written_message writing rps b =
      sym (reads.read (written_message writing rps a) (is_message family writing rps a is_writing part_a))
      ∙ ap (message_of family) bodies ∙ reads.read (written_message writing rps b) (is_message family writing rps b is_writing part_b) in
      one_part family rps a b
      (parts_valid family rps a part_a.some part_a.valid) (parts_valid family rps b part_b.some part_b.valid)
      (ap (λ (message : Message). message.sets) messages)

  part_of : (run : List WantUnit) (bytes : List ℕ) → (carries : CarriesRun family writing rps run bytes) → AllByRecursion (IsValidUnit family rps) run → fits family writing.budget run ≡ true → IsPart family writing rps carries.part
  part_of run bytes carries valid fitting = record {
    ascending = carries.ascending;
    some = carries.some;
    valid = subst (AllByRecursion (IsValidUnit family rps)) (sym carries.units) valid;
    fitting = subst (λ (run : List WantUnit). fits family writing.budget run ≡ true) (sym carries.units) fitting;
  }

  one_run : (r q : List WantUnit) (bytes : List ℕ) → CarriesRun family writing rps r bytes → CarriesRun family writing rps q bytes
      → AllByRecursion (IsValidUnit family rps) r → AllByRecursion (IsValidUnit family rps) q → fits family writing.budget r ≡ true → fits family writing.budget q ≡ true → r ≡ q
  one_run r q bytes tells_r tells_q valid_r valid_q fit_r fit_q =
      let parts = one_message tells_r.part tells_q.part bytes (part_of r bytes tells_r valid_r fit_r) (part_of q bytes tells_q valid_q fit_q) tells_r.sealed tells_q.sealed in
      sym tells_r.units ∙ ap units_of parts ∙ tells_q.units

  same_runs : (rs qs : List (List WantUnit)) (messages : List (List ℕ)) → CarryRuns family writing rps rs messages → CarryRuns family writing rps qs messages
      → AllByRecursion (IsValidUnit family rps) (joined rs) → AllByRecursion (IsValidUnit family rps) (joined qs) → AreRuns family writing.budget rs → AreRuns family writing.budget qs → rs ≡ qs
  unfolding AreRuns
  same_runs [] [] messages told_r told_q valid_r valid_q are_r are_q = refl
  same_runs [] (q ∷ qs) [] told_r told_q valid_r valid_q are_r are_q = absurd told_q
  same_runs [] (q ∷ qs) (bytes ∷ messages) told_r told_q valid_r valid_q are_r are_q = absurd told_r
  same_runs (r ∷ rs) [] [] told_r told_q valid_r valid_q are_r are_q = absurd told_r
  same_runs (r ∷ rs) [] (bytes ∷ messages) told_r told_q valid_r valid_q are_r are_q = absurd told_q
  same_runs (r ∷ rs) (q ∷ qs) [] told_r told_q valid_r valid_q are_r are_q = absurd told_r
  same_runs (r ∷ rs) (q ∷ qs) (bytes ∷ messages) told_r told_q valid_r valid_q are_r are_q =
      let head = one_run r q bytes told_r.0 told_q.0
      (all_front (IsValidUnit family rps) r (joined rs) valid_r) (all_front (IsValidUnit family rps) q (joined qs) valid_q) are_r.1 are_q.1 in
      let tail = same_runs rs qs messages told_r.1 told_q.1
      (all_behind (IsValidUnit family rps) r (joined rs) valid_r) (all_behind (IsValidUnit family rps) q (joined qs) valid_q) are_r.3 are_q.3 in
      λ i. head i ∷ tail i

  pub messages_tell : (one other : List GroupForm) (messages : List (List ℕ)) → IsNormal family one → IsNormal family other → HaveRps family rps one → HaveRps family rps other
      → AreCanonical family writing rps one messages → AreCanonical family writing rps other messages → one ≡ other
  messages_tell one other messages is_one is_other have_one have_other told_one told_other =
      let valid_one = units_valid family rps one is_one.groups have_one in
      let valid_other = units_valid family rps other is_other.groups have_other in
      let runs = same_runs told_one.runs told_other.runs messages told_one.reported told_other.reported
      (subst (AllByRecursion (IsValidUnit family rps)) (sym told_one.packing.whole) valid_one)
      (subst (AllByRecursion (IsValidUnit family rps)) (sym told_other.packing.whole) valid_other)
      told_one.packing.cut told_other.packing.cut in
      let units : units_of one ≡ units_of other = sym told_one.packing.whole ∙ ap joined runs ∙ told_other.packing.whole in
      one_of_units one other is_one.ascending is_other.ascending (groups_some family one is_one.groups) (groups_some family other is_other.groups) units

-- ---- a form has one list of messages

module _ (family : AddressFamily) (writing : Writing) (rps : List ℕ → Option (List ℕ)) (sole : OneChecksum) where
  bytes_of_run : (run : List WantUnit) (one other : List ℕ) → CarriesRun family writing rps run one → CarriesRun family writing rps run other → one ≡ other
  bytes_of_run run one other tells_one tells_other =
      let parts = one_of_units tells_one.part tells_other.part tells_one.ascending tells_other.ascending tells_one.some tells_other.some (tells_one.units ∙ sym tells_other.units) in
      let sealed : IsSealed family writing.own (all_routers family) JoinPrune (canonical family (written_message writing rps tells_one.part)) other =
      subst (λ (part : List GroupForm). IsSealed family writing.own (all_routers family) JoinPrune (canonical family (written_message writing rps part)) other) (sym parts) tells_other.sealed in
      sole family writing.own (all_routers family) JoinPrune (canonical family (written_message writing rps tells_one.part)) one other tells_one.sealed sealed

  bytes_of_runs : (runs : List (List WantUnit)) (one other : List (List ℕ)) → CarryRuns family writing rps runs one → CarryRuns family writing rps runs other → one ≡ other
  bytes_of_runs [] [] [] told_one told_other = refl
  bytes_of_runs [] [] (bytes ∷ other) told_one told_other = absurd told_other
  bytes_of_runs [] (bytes ∷ one) other told_one told_other = absurd told_one
  bytes_of_runs (run ∷ runs) [] other told_one told_other = absurd told_one
  bytes_of_runs (run ∷ runs) (bytes ∷ one) [] told_one told_other = absurd told_other
  bytes_of_runs (run ∷ runs) (a ∷ one) (b ∷ other) told_one told_other =
      let head = bytes_of_run run a b told_one.0 told_other.0 in
      let tail = bytes_of_runs runs one other told_one.1 told_other.1 in
      λ i. head i ∷ tail i

  pub one_list : (form : List GroupForm) (one other : List (List ℕ)) → AreCanonical family writing rps form one → AreCanonical family writing rps form other → one ≡ other
  one_list form one other is_one is_other =
      let runs = one_packing family writing.budget (units_of form) is_other.runs is_one.runs is_other.packing is_one.packing in
      bytes_of_runs is_one.runs one other is_one.reported (subst (λ (runs : List (List WantUnit)). CarryRuns family writing rps runs other) runs is_other.reported)
