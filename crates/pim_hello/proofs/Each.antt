-- A list of addresses, written one after the other.
use Rattle.std.proofs.Common.{◌≡◌, ℕ, ◌+◌, ◌*◌, ◌<◌, ◌≤◌, List, [], ◌∷◌, ◌++◌, length, map, take, get_or, sym, ap, subst, ◌∙◌, arith, mul-le-mul_left}
use Rattle.pim_hello.proofs.Words.{take_more, map-append, append-nil, AddressFamily, address_length, address_spelled}
use Rattle.pim_hello.proofs.Words.{row_spelled, AreAddresses}
use Rattle.std.proofs.lemmas.Grind.{flat_map-append}

-- there is room for one more
pub room : (i n size at more total : ℕ) → i < n → at ≡ i * size → more ≡ size → total ≡ n * size → at + more ≤ total
room i n size at more total lt a m t = omega (arith, a, m, t, mul-le-mul_left size lt)

one_longer : {A : Type 0} (bytes_of : A → List ℕ) (xs : List A) (i : ℕ) (x : A) → i < length xs → x ≡ get_or xs i x → map bytes_of (take (i + 1) xs) ≡ map bytes_of (take i xs) ++ bytes_of x ∷ []
one_longer bytes_of xs i x lt is =
    ap (map bytes_of) (take_more xs i x lt) ∙ map-append bytes_of (take i xs) (get_or xs i x ∷ []) ∙ ap (λ y. map bytes_of (take i xs) ++ bytes_of y ∷ []) (sym is)

pub one_written : {A : Type 0} (bytes_of : A → List ℕ) (family : AddressFamily) (xs : List A) (i : ℕ) (x : A) → i < length xs → x ≡ get_or xs i x
    → row_spelled family (map bytes_of (take i xs)) ++ address_spelled family (bytes_of x) ≡ row_spelled family (map bytes_of (take (i + 1) xs))
one_written bytes_of family xs i x lt is =
    ap (λ bytes. row_spelled family (map bytes_of (take i xs)) ++ bytes) (sym (append-nil (address_spelled family (bytes_of x))))
    ∙ sym (flat_map-append (address_spelled family) (map bytes_of (take i xs)) (bytes_of x ∷ []))
    ∙ ap (row_spelled family) (sym (one_longer bytes_of xs i x lt is))

all_and_one : (family : AddressFamily) (addresses : List (List ℕ)) (address : List ℕ) → AreAddresses family addresses → length address ≡ address_length family → AreAddresses family (addresses ++ address ∷ [])
unfolding AreAddresses
all_and_one family [] address all long = (long, tt)
all_and_one family (first ∷ others) address all long = (all.0, all_and_one family others address all.1 long)

pub one_long : {A : Type 0} (bytes_of : A → List ℕ) (family : AddressFamily) (xs : List A) (i : ℕ) (x : A) → i < length xs → x ≡ get_or xs i x
    → AreAddresses family (map bytes_of (take i xs)) → length (bytes_of x) ≡ address_length family → AreAddresses family (map bytes_of (take (i + 1) xs))
one_long bytes_of family xs i x lt is all long = subst (AreAddresses family) (sym (one_longer bytes_of xs i x lt is)) (all_and_one family (map bytes_of (take i xs)) (bytes_of x) all long)

pub none_long : (family : AddressFamily) → AreAddresses family []
unfolding AreAddresses
none_long family = tt
