-- What is read of a text is one thing.
use Rattle.pim_text.proofs.Words.{◌≡◌, ◌∙◌, ◌⊎◌, sym, ap, refl, subst, inl, inr, ℕ, zero, suc, ◌<◌, ◌≤◌, Bool, true}
use Rattle.pim_text.proofs.Words.{false, List, [], ◌∷◌, ◌++◌, length, take, drop, append_assoc, ltb, arith, map}
use Rattle.pim_text.proofs.Words.{false≢true, ltb-true, ltb-false, AddressFamily, Ipv4, Ipv6, spelling_of, Entry}
use Rattle.pim_text.proofs.Words.{canonical, SetValue, TextValue, a_hello, a_message, value_lines, entry_in, set_in}
use Rattle.pim_text.proofs.Words.{hello_in, message_in, address_in, address_bytes, value_is_in, AreLines, lines, States}
use Rattle.pim_text.proofs.Words.{Begin, IsWrongLine, is_hello, IsSpelled, IsLong, entry_bytes, OneName, OneMessage}
use Rattle.pim_text.proofs.Words.{OneRead, OneWrongLine, NoWrongLineIfStated, OneBody, LongBody}
use Rattle.pim_hello.specs.Hello.{Hello}
use Rattle.pim_jp.specs.Message.{GroupSet, Message}
use Rattle.pim_text.proofs.OneLine.{one_list}
use Rattle.pim_text.proofs.OneValue.{same_value}
use Rattle.pim_text.proofs.Written.{same_address, same_entry}

pub one_message : OneName → OneMessage
one_message one text some other is too = same_value some other (one_list one (value_lines some) (value_lines other) (lines text) is too)

pub one_read : OneRead
one_read text one other is too =
    let value : is.value ≡ too.value = too.only is.value is.states in
    let kind : one.is_hello ≡ other.is_hello = is.kind ∙ (ap is_hello value ∙ sym too.kind) in
    let ipv4 : one.all_ipv4 ≡ other.all_ipv4 = is.ipv4 ∙ (ap (value_is_in Ipv4) value ∙ sym too.ipv4) in
    let ipv6 : one.all_ipv6 ≡ other.all_ipv6 = is.ipv6 ∙ (ap (value_is_in Ipv6) value ∙ sym too.ipv6) in
    λ i. record { is_hello = kind i; all_ipv4 = ipv4 i; all_ipv6 = ipv6 i }

-- ---- wrong lines

take_and_drop : {A : Type 0} (n : ℕ) (xs : List A) → take n xs ++ drop n xs ≡ xs
take_and_drop zero xs = refl
take_and_drop (suc n) [] = refl
take_and_drop (suc n) (x ∷ xs) = ap (λ (l : List _). x ∷ l) (take_and_drop n xs)

pub no_wrong_line : NoWrongLineIfStated
no_wrong_line text value number states wrong = by wrong.wrong
  where
    by : (Begin (take number (lines text)) → ⊥) ⊎ ((wrong.before ≡ length (lines text)) × ((other : TextValue) → States text other → ⊥)) → ⊥
    by (inl none) = none (record { value = value; behind = drop number (lines text); are = subst (λ (l : List (List ℕ)). AreLines (value_lines value) l) (sym (take_and_drop number (lines text))) states })
    by (inr none) = none.1 value states

-- Fewer lines of those that begin a message begin it too.
fewer : (front : List (List ℕ)) (n m : ℕ) → n ≤ m → take n (take m front) ≡ take n front
fewer front zero m few = refl
fewer front (suc n) zero few = absurd (omega (arith, few))
fewer [] (suc n) (suc m) few = refl
fewer (line ∷ front) (suc n) (suc m) few = ap (λ (l : List (List ℕ)). line ∷ l) (fewer front n m (omega (arith, few)))

begin_less : (all : List (List ℕ)) (n m : ℕ) → n ≤ m → Begin (take m all) → Begin (take n all)
begin_less all n m few begin =
    let cut : take n all ++ (drop n (take m all) ++ begin.behind) ≡ take m all ++ begin.behind =
    sym (append_assoc (take n all) (drop n (take m all)) begin.behind) ∙ ap (λ (l : List (List ℕ)). l ++ begin.behind) (ap (λ (l : List (List ℕ)). l ++ drop n (take m all)) (sym (fewer all n m few)) ∙ take_and_drop n (take m all)) in
    record { value = begin.value; behind = drop n (take m all) ++ begin.behind; are = subst (AreLines (value_lines begin.value)) (sym cut) begin.are }

not_before : (text : List ℕ) (one other : ℕ) → IsWrongLine text one → IsWrongLine text other → one < other → ⊥
not_before text one other is too less = by is.wrong
  where
    by : (Begin (take one (lines text)) → ⊥) ⊎ ((is.before ≡ length (lines text)) × ((value : TextValue) → States text value → ⊥)) → ⊥
    by (inl none) = none (begin_less (lines text) one too.before (omega (arith, less, too.numbered)) too.begun)
    by (inr last) = omega (arith, less, last.0, is.numbered, too.numbered, too.within)

pub one_wrong_line : OneWrongLine
one_wrong_line text one other is too = at (ltb one other) refl (ltb other one) refl
  where
    at : (a : Bool) → ltb one other ≡ a → (b : Bool) → ltb other one ≡ b → one ≡ other
    at true less b e = absurd (not_before text one other is too (ltb-true one other less))
    at false least true more = absurd (not_before text other one too is (ltb-true other one more))
    at false least false most = omega (arith, ltb-false one other least, ltb-false other one most)

-- ---- bodies

names_back : (family : AddressFamily) (names : List (List ℕ)) → map address_bytes (map (address_in family) names) ≡ names
names_back family [] = refl
names_back family (name ∷ names) = let a = same_address family name in let b = names_back family names in λ i. a i ∷ b i

entries_back : (family : AddressFamily) (entries : List (Entry (List ℕ))) → map entry_bytes (map (entry_in family) entries) ≡ entries
entries_back family [] = refl
entries_back family (entry ∷ entries) = let a = same_entry family entry in let b = entries_back family entries in λ i. a i ∷ b i

abbrev set_out : SetValue → GroupSet
set_out set = record { group = address_bytes set.group; joined = map entry_bytes set.joined; pruned = map entry_bytes set.pruned }

sets_back : (family : AddressFamily) (sets : List GroupSet) → map set_out (map (set_in family) sets) ≡ sets
sets_back family [] = refl
sets_back family (set ∷ sets) =
    let g = same_address family set.group in
    let j = entries_back family set.joined in
    let p = entries_back family set.pruned in
    let b = sets_back family sets in
    λ i. record { group = g i; joined = j i; pruned = p i } ∷ b i

abbrev hello_out : Hello → TextValue → Hello
hello_out default (a_hello hello) = record { parameters = hello.parameters; addresses = map address_bytes hello.addresses }
hello_out default (a_message message) = default

abbrev message_out : Message → TextValue → Message
message_out default (a_hello hello) = default
message_out default (a_message message) = record { upstream = address_bytes message.upstream; holdtime = message.holdtime; sets = map set_out message.sets }

hello_back : (family : AddressFamily) (default hello : Hello) → hello_out default (hello_in family hello) ≡ hello
hello_back family default hello = let n = names_back family hello.addresses in λ i. record { parameters = hello.parameters; addresses = n i }

message_back : (family : AddressFamily) (default message : Message) → message_out default (message_in family message) ≡ message
message_back family default message =
    let u = same_address family message.upstream in
    let s = sets_back family message.sets in
    λ i. record { upstream = u i; holdtime = message.holdtime; sets = s i }

module _ (one : OneMessage) (family : AddressFamily) (text : List ℕ) where
  same_hello : (hello other : Hello) → States text (hello_in family hello) → States text (hello_in family other) → hello ≡ other
  same_hello hello other is too =
      sym (hello_back family hello hello) ∙ (ap (hello_out hello) (one text (hello_in family hello) (hello_in family other) is too) ∙ hello_back family hello other)

  same_message : (message other : Message) → States text (message_in family message) → States text (message_in family other) → message ≡ other
  same_message message other is too =
      sym (message_back family message message) ∙ (ap (message_out message) (one text (message_in family message) (message_in family other) is too) ∙ message_back family message other)

  not_both : (hello : Hello) (message : Message) → States text (hello_in family hello) → States text (message_in family message) → ⊥
  not_both hello message is too = false≢true (sym (ap is_hello (one text (hello_in family hello) (message_in family message) is too)))

  bodies : (kind other : Bool) (body spelled : List ℕ) → IsSpelled family text kind body → IsSpelled family text other spelled → (kind ≡ other) × (body ≡ spelled)
  bodies true true body spelled (hello, states, is) (h, s, so) = (refl, is ∙ (ap (spelling_of family) (same_hello hello h states s) ∙ sym so))
  bodies true false body spelled (hello, states, is) (message, s, so) = absurd (not_both hello message states s)
  bodies false true body spelled (message, states, is) (hello, s, so) = absurd (not_both hello message s states)
  bodies false false body spelled (message, states, is) (m, s, so) = (refl, is ∙ (ap (canonical family) (same_message message m states s) ∙ sym so))

  long : (kind : Bool) (body : List ℕ) → IsSpelled family text kind body → IsLong family text → 65532 < length body
  long true body (hello, states, is) (inl (h, s, more)) = omega (arith, more, ap length is, ap (λ (x : Hello). length (spelling_of family x)) (same_hello hello h states s))
  long true body (hello, states, is) (inr (message, s, more)) = absurd (not_both hello message states s)
  long false body (message, states, is) (inl (hello, s, more)) = absurd (not_both hello message s states)
  long false body (message, states, is) (inr (m, s, more)) = omega (arith, more, ap length is, ap (λ (x : Message). length (canonical family x)) (same_message message m states s))

pub one_body : OneMessage → OneBody
one_body one family text kind other body spelled is too = bodies one family text kind other body spelled is too

pub long_body : OneMessage → LongBody
long_body one family text kind body is long_text = long one family text kind body is long_text
