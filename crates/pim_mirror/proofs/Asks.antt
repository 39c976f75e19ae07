-- The message of a part asks for traffic.
use Rattle.pim_mirror.proofs.Words.{◌≡◌, ℕ, false, List, [], ◌∷◌, ◌++◌, Option, None, Some, map, refl, sym, ap, subst}
use Rattle.pim_mirror.proofs.Words.{Less, AllByRecursion, IsDistinct, IsStrictlySortedBy, nat_cmp, slice_cmp}
use Rattle.pim_mirror.proofs.Words.{AddressFamily, Entry, GroupSet, GroupForm, AreAscending, same_address, groups_of}
use Rattle.pim_mirror.proofs.Words.{exceptions_of, HasListsInOrder, IsInOrder}
use Rattle.pim_jp.specs.declared.entry.Entry.TheVariants.{Source, Rpt}
use Rattle.pim_form.specs.Messages.{Writing, IsRpOf, HaveRps, star_entries as told_star, excepted_entries, written_set, written_message}
use Rattle.pim_fresh.specs.Demanding.{AreDifferent, star_entries, excepted, IsKnownRp, Demands, IsDemanding}
use Rattle.pim_mirror.proofs.ListParts.{all_known}
use Rattle.pim_mirror.proofs.SameAddresses.{less_apart}

different : (xs : List (List ℕ)) → AreAscending xs → AreDifferent xs
unfolding IsStrictlySortedBy IsDistinct
different [] up = tt
different (x ∷ xs) up = (all_known (λ y. slice_cmp nat_cmp x y ≡ Less) (λ y. same_address x y ≡ false) (less_apart x) xs up.0, different xs up.1)

record StarIsTold (known : Option (List ℕ)) (star : Option (List (List ℕ))) : Type 0 where
  rp : List ℕ
  entries : told_star known star ≡ star_entries rp star
  known_rp : IsKnownRp known rp star

star_is_told : (family : AddressFamily) (known : Option (List ℕ)) (star : Option (List (List ℕ))) → IsRpOf family known star → StarIsTold known star
star_is_told family known None is = record { rp = []; entries = refl; known_rp = tt }
star_is_told family None (Some exceptions) is = absurd is
star_is_told family (Some rp) (Some exceptions) is = record { rp = rp; entries = refl; known_rp = refl }

exceptions_told : (star : Option (List (List ℕ))) → excepted_entries star ≡ map (λ source. Rpt source) (excepted star)
exceptions_told None = refl
exceptions_told (Some exceptions) = refl

different_exceptions : (star : Option (List (List ℕ))) → AreAscending (exceptions_of star) → AreDifferent (excepted star)
unfolding IsDistinct
different_exceptions None up = tt
different_exceptions (Some exceptions) up = different exceptions up

set_asks : (family : AddressFamily) (rps : List ℕ → Option (List ℕ)) (this : GroupForm) → HasListsInOrder this → IsRpOf family (rps this.group) this.star → Demands rps (written_set rps this)
set_asks family rps this lists is =
    let star = star_is_told family (rps this.group) this.star is in
    record {
      rp = star.rp;
      star = this.star;
      sources = this.sources;
      joined = ap (λ (entries : List (Entry (List ℕ))). entries ++ map (λ source. Source source) this.sources) star.entries;
      pruned = exceptions_told this.star;
      known_rp = star.known_rp;
      different_sources = different this.sources lists.sources;
      different_exceptions = different_exceptions this.star lists.exceptions;
    }

sets_ask : (family : AddressFamily) (rps : List ℕ → Option (List ℕ)) (part : List GroupForm) → AllByRecursion HasListsInOrder part → HaveRps family rps part → AllByRecursion (Demands rps) (map (written_set rps) part)
sets_ask family rps [] lists have = tt
sets_ask family rps (this ∷ part) lists have = (set_asks family rps this lists.0 have.0, sets_ask family rps part lists.1 have.1)

groups_told : (rps : List ℕ → Option (List ℕ)) (part : List GroupForm) → map (λ (set : GroupSet). set.group) (map (written_set rps) part) ≡ groups_of part
groups_told rps [] = refl
groups_told rps (this ∷ part) = ap (λ (groups : List (List ℕ)). this.group ∷ groups) (groups_told rps part)

pub part_demands : (family : AddressFamily) (writing : Writing) (rps : List ℕ → Option (List ℕ)) (part : List GroupForm) → IsInOrder part → HaveRps family rps part → IsDemanding rps (written_message writing rps part)
part_demands family writing rps part order have = record {
  sets = sets_ask family rps part order.lists have;
  different_groups = subst AreDifferent (sym (groups_told rps part)) (different (groups_of part) order.groups);
}
