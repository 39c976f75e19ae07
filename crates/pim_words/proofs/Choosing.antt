-- The values of an option that may be given 64 times, read one by one.
use Rattle.pim_words.proofs.Words.{◌≡◌, sym, ap, subst, inl, inr, ℕ, suc, ◌+◌, ◌-◌, ◌<◌, ◌≤◌, List, [], ◌∷◌, ◌++◌, length, drop}
use Rattle.pim_words.proofs.Words.{get_or, append_assoc, append-nil, arith, Bor, AllZip, drop_all, drop_more, length-append, Text}
use Rattle.pim_words.proofs.Words.{AnyAddress, CommandFault, Names, OrMemory, AreShownAddresses, IsUnreadText, IsWrongChoice}
use Rattle.pim_words.specs.declared.fault.CommandFault.TheVariants as cause
use Rattle.pim_words.proofs.Further.{texts}
use Rattle.pim_words.proofs.Orders.{or_memory}

-- These addresses are those of the values before the ones that are left.
pub record IsLeft (all left : List Text) (addresses : List AnyAddress) : Type 0 where
  pub few : length addresses ≤ 64
  pub goes_on : (more : List AnyAddress) → AllZip Names left more → AllZip Names all (addresses ++ more)
  pub reported : (room : ℕ) (fault : CommandFault) → length addresses + room ≡ 64 → IsWrongChoice room left fault → IsWrongChoice 64 all fault

step : (all left : List Text) (addresses : List AnyAddress) (text : Text) (address : AnyAddress) → IsLeft all (text ∷ left) addresses → Names text address → length addresses + 1 ≤ 64
    → IsLeft all left (addresses ++ address ∷ [])
step all left addresses text address is named room = record {
  few = omega (arith, room, length-append addresses (address ∷ []));
  goes_on = λ more zip. subst (λ l. AllZip Names all l) (sym (append_assoc addresses (address ∷ []) more)) (is.goes_on (address ∷ more) (named, zip));
  reported = λ n fault count wrong. is.reported (suc n) fault (omega (arith, count, length-append addresses (address ∷ []))) (inr ((address, named), wrong));
}

end : (all : List Text) (addresses : List AnyAddress) → IsLeft all [] addresses → AreShownAddresses all addresses
end all addresses is = (subst (λ l. AllZip Names all l) (append-nil addresses) (is.goes_on [] tt), is.few)

module _ (values : List (Bor Text)) (i : ℕ) (past : Bor Text) (inside : i < length values) where
  abbrev text : Text
  text = (get_or values i past).now

  next : texts (drop i values) ≡ text ∷ texts (drop (i + 1) values)
  next = ap texts (drop_more values i past inside)

  pub one_too_many : (addresses : List AnyAddress) (reported : Bor Text) → IsLeft (texts values) (texts (drop i values)) addresses → length addresses ≡ 64 → reported.now ≡ text
      → IsWrongChoice 64 (texts values) (cause.Word reported)
  one_too_many addresses reported is full same =
      is.reported 0 (cause.Word reported) (omega (arith, full)) (subst (λ l. IsWrongChoice 0 l (cause.Word reported)) (sym next) same)

  pub unread : (addresses : List AnyAddress) (fault : CommandFault) → IsLeft (texts values) (texts (drop i values)) addresses → length addresses + 1 ≤ 64 → IsUnreadText text fault
      → OrMemory (IsWrongChoice 64 (texts values)) fault
  unread addresses fault is room wrong =
      let n : ℕ = 63 - length addresses in
      let count : length addresses + suc n ≡ 64 = omega (arith, room) in
      or_memory (IsWrongChoice 64 (texts values)) fault
      (is.reported (suc n) fault count (subst (λ l. IsWrongChoice (suc n) l fault) (sym next) (inl wrong)))

  pub one_more : (addresses more : List AnyAddress) (address : AnyAddress) → IsLeft (texts values) (texts (drop i values)) addresses → length addresses + 1 ≤ 64 → Names text address → more ≡ addresses ++ address ∷ []
      → IsLeft (texts values) (texts (drop (i + 1) values)) more
  one_more addresses more address is room named pushed =
      subst (λ l. IsLeft (texts values) (texts (drop (i + 1) values)) l) (sym pushed)
      (step (texts values) (texts (drop (i + 1) values)) addresses text address (subst (λ l. IsLeft (texts values) l addresses) next is) named room)

pub all_read : (values : List (Bor Text)) (i : ℕ) (addresses : List AnyAddress) → length values ≤ i → IsLeft (texts values) (texts (drop i values)) addresses → AreShownAddresses (texts values) addresses
all_read values i addresses past is = end (texts values) addresses (subst (λ l. IsLeft (texts values) (texts l) addresses) (drop_all i values past) is)
