-- How the reader goes over the entries of one list.
use Rattle.pim_jp.proofs.Words.{◌≡◌, ◌∙◌, sym, ap, ℕ, zero, suc, ◌+◌, ◌*◌, ◌≤◌, ◌<◌, Bool, true, false, ◌||◌, List, [], ◌∷◌, ◌++◌}
use Rattle.pim_jp.proofs.Words.{length, drop, refl, ⊎_elim, arith, length-drop, list_any, drop-drop, list_any-append, cases_lt}
use Rattle.pim_jp.proofs.Words.{AddressFamily, source_length, source_value, Entry, entry_of, entries_of, is_star, lone_kinds}
use Rattle.pim_jp.proofs.Words.{kinds_at_place, entry_at, AreClean, is_source_entry, is_rpt_entry}

pub drop_no : (size : ℕ) (bytes : List ℕ) → bytes ≡ drop (0 * size) bytes
drop_no size bytes = let none : 0 * size ≡ 0 = omega arith in rw none refl

pub drop_more : (size done : ℕ) (bytes : List ℕ) → drop size (drop (done * size) bytes) ≡ drop ((done + 1) * size) bytes
drop_more size done bytes = drop-drop size (done * size) bytes ∙ ap (λ n. drop n bytes) (omega arith)

pub entries_more : (family : AddressFamily) (done : ℕ) (bytes : List ℕ) → entries_of family (suc done) bytes ≡ entries_of family done bytes ++ entry_at family done bytes ∷ []
unfolding entries_of
entries_more family zero bytes = ap (λ b. entry_of (source_value family b) ∷ []) (drop_no (source_length family) bytes)
entries_more family (suc done) bytes =
    let far : drop (done * source_length family) (drop (source_length family) bytes) ≡ drop (suc done * source_length family) bytes =
    drop-drop (done * source_length family) (source_length family) bytes ∙ ap (λ n. drop n bytes) (omega arith) in
    ap (λ es. entry_of (source_value family bytes) ∷ es)
    (entries_more family done (drop (source_length family) bytes)
    ∙ ap (λ b. entries_of family done (drop (source_length family) bytes) ++ entry_of (source_value family b) ∷ []) far)

or_false : (b : Bool) → (b || false) ≡ b
or_false true = refl
or_false false = refl

or_or : (a b c : Bool) → (a || b) || c ≡ a || (b || c)
or_or true b c = refl
or_or false b c = refl

-- whether a kind is among the entries, with one more
pub any_more : (family : AddressFamily) (is : Entry (List ℕ) → Bool) (done : ℕ) (bytes : List ℕ)
    → list_any is (entries_of family (done + 1) bytes) ≡ (list_any is (entries_of family done bytes) || is (entry_at family done bytes))
any_more family is done bytes =
    let one : done + 1 ≡ suc done = omega arith in
    ap (λ n. list_any is (entries_of family n bytes)) one ∙ ap (list_any is) (entries_more family done bytes)
    ∙ list_any-append is (entries_of family done bytes) (entry_at family done bytes ∷ [])
    ∙ ap (λ b. list_any is (entries_of family done bytes) || b) (or_false (is (entry_at family done bytes)))

-- so many of the entries are done
pub record Reached (family : AddressFamily) (has_star : Bool) (bytes : List ℕ) (done : ℕ) (star source rpt : Bool) (rest : List ℕ) : Type 0 where
  pub left : rest ≡ drop (done * source_length family) bytes
  pub whole : done * source_length family ≤ length bytes
  pub clean : AreClean family has_star done bytes
  pub star_is : star ≡ (has_star || list_any is_star (entries_of family done bytes))
  pub source_is : source ≡ list_any is_source_entry (entries_of family done bytes)
  pub rpt_is : rpt ≡ list_any is_rpt_entry (entries_of family done bytes)

pub reached_none : (family : AddressFamily) (has_star : Bool) (bytes : List ℕ) → Reached family has_star bytes 0 has_star false false bytes
unfolding entries_of
reached_none family has_star bytes = record {
  left = drop_no _ bytes;
  whole = omega arith;
  clean = λ place below. absurd (omega arith);
  star_is = sym (or_false has_star);
  source_is = refl;
  rpt_is = refl;
}

-- what is told of the next entry is told of that place
at_place : (family : AddressFamily) (has_star : Bool) (bytes : List ℕ) (done : ℕ) (star source rpt : Bool) (rest : List ℕ)
    → Reached family has_star bytes done star source rpt rest → lone_kinds family star rest ≡ kinds_at_place family has_star done bytes
at_place family has_star bytes done star source rpt rest reached =
    ap (λ s. lone_kinds family s rest) reached.star_is ∙ ap (lone_kinds family (has_star || list_any is_star (entries_of family done bytes))) reached.left

pub reached_more : (family : AddressFamily) (has_star : Bool) (bytes : List ℕ) (done : ℕ) (star source rpt : Bool) (rest : List ℕ) (this_star this_source this_rpt : Bool)
    → Reached family has_star bytes done star source rpt rest
    → lone_kinds family star rest ≡ [] → source_length family ≤ length rest
    → this_star ≡ is_star (entry_of (source_value family rest))
    → this_source ≡ is_source_entry (entry_of (source_value family rest))
    → this_rpt ≡ is_rpt_entry (entry_of (source_value family rest))
    → Reached family has_star bytes (done + 1) (star || this_star) (source || this_source) (rpt || this_rpt) (drop (source_length family) rest)
reached_more family has_star bytes done star source rpt rest this_star this_source this_rpt reached none whole star' source' rpt' =
    let here : (is : Entry (List ℕ) → Bool) → is (entry_of (source_value family rest)) ≡ is (entry_at family done bytes) =
    λ is. ap (λ b. is (entry_of (source_value family b))) reached.left in
    record {
      left = ap (λ b. drop (source_length family) b) reached.left ∙ drop_more (source_length family) done bytes;
      whole = omega (arith, ap length reached.left, length-drop (done * source_length family) bytes, reached.whole);
      clean = λ place below.
          ⊎_elim
          (λ (before : place < done). reached.clean place before)
          (λ (not_before : done ≤ place). let same : place ≡ done = omega arith in
          rw same (sym (at_place family has_star bytes done star source rpt rest reached) ∙ none))
          (cases_lt place done);
      star_is = ap (λ b. b || this_star) reached.star_is ∙ or_or has_star _ this_star
          ∙ ap (λ b. has_star || (list_any is_star (entries_of family done bytes) || b)) (star' ∙ here is_star)
          ∙ ap (λ b. has_star || b) (sym (any_more family is_star done bytes));
      source_is = ap (λ b. b || this_source) reached.source_is
          ∙ ap (λ b. list_any is_source_entry (entries_of family done bytes) || b) (source' ∙ here is_source_entry) ∙ sym (any_more family is_source_entry done bytes);
      rpt_is = ap (λ b. b || this_rpt) reached.rpt_is
          ∙ ap (λ b. list_any is_rpt_entry (entries_of family done bytes) || b) (rpt' ∙ here is_rpt_entry) ∙ sym (any_more family is_rpt_entry done bytes);
    }
