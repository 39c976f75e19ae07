-- A message whose addresses are all of one family is one of that family.
use Rattle.pim_text.proofs.Words.{◌≡◌, ◌∙◌, sym, ap, refl, subst, ℕ, true, List, [], ◌∷◌, ◌++◌, map, flat_map}
use Rattle.pim_text.proofs.Words.{false≢true, AddressFamily, Ipv4, Ipv6, GroupSet, Entry, Star, Source, Rpt, AnyAddress}
use Rattle.pim_text.proofs.Words.{V4, V6, Line, Holdtime, Priority, Generation, Secondary, Join, Prune, SetValue}
use Rattle.pim_text.proofs.Words.{TextValue, a_hello, a_message, option_line, delays_line_of, set_lines, entry_in}
use Rattle.pim_text.proofs.Words.{set_in, hello_in, message_in, address_in, is_in, address_bytes, list_all-append}
use Rattle.pim_text.proofs.Words.{entry_is_in, line_is_in, all_in, value_is_in, States, entry_bytes, StatesIn}
use Rattle.pim_text.proofs.Written.{both}

module _ (family : AddressFamily) where
  split : (one two : List Line) → all_in family (one ++ two) ≡ true → (all_in family one ≡ true) × (all_in family two ≡ true)
  split one two e = both family (all_in family one) (all_in family two) (sym (list_all-append (line_is_in family) one two) ∙ e)

  address_of : (f : AddressFamily) (a : AnyAddress) → is_in f a ≡ true → address_in f (address_bytes a) ≡ a
  address_of Ipv4 (V4 a) e = refl
  address_of Ipv4 (V6 a) e = absurd (false≢true e)
  address_of Ipv6 (V4 a) e = absurd (false≢true e)
  address_of Ipv6 (V6 a) e = refl

  entry_of : (e : Entry AnyAddress) → entry_is_in family e ≡ true → entry_in family (entry_bytes e) ≡ e
  entry_of (Star a) e = ap (λ (x : AnyAddress). Star x) (address_of family a e)
  entry_of (Source a) e = ap (λ (x : AnyAddress). Source x) (address_of family a e)
  entry_of (Rpt a) e = ap (λ (x : AnyAddress). Rpt x) (address_of family a e)

  joins_of : (es : List (Entry AnyAddress)) → all_in family (map Join es) ≡ true → map (entry_in family) (map entry_bytes es) ≡ es
  joins_of [] e = refl
  joins_of (x ∷ es) e =
      let k = both family (entry_is_in family x) (all_in family (map Join es)) e in
      let a = entry_of x k.0 in
      let b = joins_of es k.1 in
      λ i. a i ∷ b i

  prunes_of : (es : List (Entry AnyAddress)) → all_in family (map Prune es) ≡ true → map (entry_in family) (map entry_bytes es) ≡ es
  prunes_of [] e = refl
  prunes_of (x ∷ es) e =
      let k = both family (entry_is_in family x) (all_in family (map Prune es)) e in
      let a = entry_of x k.0 in
      let b = prunes_of es k.1 in
      λ i. a i ∷ b i

  names_of : (names : List AnyAddress) → all_in family (map Secondary names) ≡ true → map (address_in family) (map address_bytes names) ≡ names
  names_of [] e = refl
  names_of (x ∷ names) e =
      let k = both family (is_in family x) (all_in family (map Secondary names)) e in
      let a = address_of family x k.0 in
      let b = names_of names k.1 in
      λ i. a i ∷ b i

  abbrev set_bytes : SetValue → GroupSet
  set_bytes set = record { group = address_bytes set.group; joined = map entry_bytes set.joined; pruned = map entry_bytes set.pruned }

  set_of : (set : SetValue) → all_in family (set_lines set) ≡ true → set_in family (set_bytes set) ≡ set
  set_of set e =
      let k = both family (is_in family set.group) (all_in family (map Join set.joined ++ map Prune set.pruned)) e in
      let l = split (map Join set.joined) (map Prune set.pruned) k.1 in
      let g = address_of family set.group k.0 in
      let j = joins_of set.joined l.0 in
      let p = prunes_of set.pruned l.1 in
      λ i. record { group = g i; joined = j i; pruned = p i }

  sets_of : (sets : List SetValue) → all_in family (flat_map set_lines sets) ≡ true → map (set_in family) (map set_bytes sets) ≡ sets
  sets_of [] e = refl
  sets_of (set ∷ sets) e =
      let k = split (set_lines set) (flat_map set_lines sets) e in
      let a = set_of set k.0 in
      let b = sets_of sets k.1 in
      λ i. a i ∷ b i

pub stated_in : (family : AddressFamily) (text : List ℕ) (value : TextValue) → States text value → value_is_in family value ≡ true → StatesIn family text value
stated_in family text (a_message m) states e =
    let k = both family (is_in family m.upstream) (all_in family (flat_map set_lines m.sets)) e in
    let u = address_of family family m.upstream k.0 in
    let s = sets_of family m.sets k.1 in
    let same : message_in family (record { upstream = address_bytes m.upstream; holdtime = m.holdtime; sets = map (set_bytes family) m.sets }) ≡ a_message m = λ i. a_message (record { upstream = u i; holdtime = m.holdtime; sets = s i }) in
    (record { upstream = address_bytes m.upstream; holdtime = m.holdtime; sets = map (set_bytes family) m.sets }, subst (λ (v : TextValue). States text v) (sym same) states)
stated_in family text (a_hello h) states e =
    let p = h.parameters in
    let k1 = split family (option_line Holdtime p.holdtime) _ e in
    let k2 = split family (option_line delays_line_of p.lan) _ k1.1 in
    let k3 = split family (option_line Priority p.priority) _ k2.1 in
    let k4 = split family (option_line Generation p.generation) (map Secondary h.addresses) k3.1 in
    let n = names_of family h.addresses k4.1 in
    let same : hello_in family (record { parameters = p; addresses = map address_bytes h.addresses }) ≡ a_hello h = λ i. a_hello (record { parameters = p; addresses = n i }) in
    (record { parameters = p; addresses = map address_bytes h.addresses }, subst (λ (v : TextValue). States text v) (sym same) states)
