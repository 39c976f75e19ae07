-- The sizes of what a text states: addresses have the length of their family, and numbers fit their fields.
use Rattle.std.proofs.Common.{◌≡◌, ap, refl, ℕ, ◌*◌, ◌-◌, ◌≤◌, ◌<◌, ◌^◌, inl, inr, List, [], ◌∷◌, ◌++◌, Option, Some, None, length, map, arith, length-append}
use Rattle.pim_text.proofs.Words.{IfSome, replicate, AllByRecursion, flat_map, length-map, length-replicate, AddressFamily, Ipv4}
use Rattle.pim_text.proofs.Words.{Ipv6, address_length, AreEightGroups, AreAddresses, ParametersFit, Entry, Star, Source, Rpt}
use Rattle.pim_text.proofs.Words.{AnyAddress, V4, V6, Line, lines, IsLine, IsEntry, AreLines, Names, address_in, option_line}
use Rattle.pim_text.proofs.Words.{delays_line_of, set_lines, value_lines, entry_in, set_in, hello_in, message_in, States}
use Rattle.std.specs.Net.Addr.{octets_of}
use Rattle.pim_hello.specs.Hello.{Delays, Hello}
use Rattle.pim_jp.specs.Message.{GroupSet, Message}
use Rattle.pim_text.specs.declared.line.Line.TheVariants as of_line
use Rattle.pim_text.proofs.ReadBack.{HasAddress, IsSizedSet, IsSizedMessage}

-- ---- addresses

octets_size : (groups : List ℕ) → length (octets_of groups) ≡ 2 * length groups
octets_size [] = refl
octets_size (g ∷ groups) = omega (arith, octets_size groups)

eight_groups : (text groups : List ℕ) → AreEightGroups text groups → length groups ≡ 8
eight_groups text groups (inl is) = is.1
eight_groups text groups (inr is) =
    let zeros = replicate (8 - length is.left - length is.right) 0 in
    let size : length groups ≡ length ((is.left ++ zeros) ++ is.right) = ap (λ (xs : List ℕ). length xs) is.value in
    omega (arith, size, length-append (is.left ++ zeros) is.right, length-append is.left zeros, length-replicate {A = ℕ} (8 - length is.left - length is.right) 0, is.room)

-- The address has the length of its family.
abbrev pub Sized : AnyAddress → Type 0
Sized (V4 address) = length address ≡ 4
Sized (V6 address) = length address ≡ 16

named_sized : (text : List ℕ) (address : AnyAddress) → Names text address → Sized address
named_sized text (V4 address) is = ap (λ (xs : List ℕ). length xs) is.value
named_sized text (V6 address) (groups, are, same) =
    let size : length address ≡ length (octets_of groups) = ap (λ (xs : List ℕ). length xs) same in
    omega (arith, size, octets_size groups, eight_groups text groups are)

in_family : (family : AddressFamily) (address : List ℕ) → Sized (address_in family address) → length address ≡ address_length family
in_family Ipv4 address is = is
in_family Ipv6 address is = is

-- ---- lines

abbrev EntryFits : Entry AnyAddress → Type 0
EntryFits (Star rp) = Sized rp
EntryFits (Source source) = Sized source
EntryFits (Rpt source) = Sized source

-- The numbers of the line fit, and its address has its length.
abbrev pub LineFits : Line → Type 0
LineFits of_line.Hello = Unit {0}
LineFits (of_line.Holdtime seconds) = seconds ≤ 65535
LineFits (of_line.Delays d) = (d.propagation ≤ 32767) × (d.override_ms ≤ 65535)
LineFits (of_line.Priority number) = number ≤ 4294967295
LineFits (of_line.Generation number) = number ≤ 4294967295
LineFits (of_line.Secondary address) = Sized address
LineFits (of_line.Head h) = (h.holdtime ≤ 65535) × (h.sets ≤ 255) × Sized h.upstream
LineFits (of_line.Set s) = (s.joined ≤ 65535) × (s.pruned ≤ 65535) × Sized s.group
LineFits (of_line.Join entry) = EntryFits entry
LineFits (of_line.Prune entry) = EntryFits entry

entry_fits : (entry : Entry AnyAddress) (text : List ℕ) → IsEntry entry text → EntryFits entry
entry_fits (Star rp) text (named, names, same) = named_sized named rp names
entry_fits (Source source) text (named, names, same) = named_sized named source names
entry_fits (Rpt source) text (named, names, same) = named_sized named source names

line_fits : (line : Line) (text : List ℕ) → IsLine line text → LineFits line
line_fits of_line.Hello text is = tt
line_fits (of_line.Holdtime seconds) text is = is.0
line_fits (of_line.Delays d) text is = (is.0, is.1)
line_fits (of_line.Priority number) text is = is.0
line_fits (of_line.Generation number) text is = is.0
line_fits (of_line.Secondary address) text (named, names, same) = named_sized named address names
line_fits (of_line.Head h) text (holdtime, sets, (named, names, same)) = (holdtime, sets, named_sized named h.upstream names)
line_fits (of_line.Set s) text (joined, pruned, (named, names, same)) = (joined, pruned, named_sized named s.group names)
line_fits (of_line.Join entry) text (rest, same, is) = entry_fits entry rest is
line_fits (of_line.Prune entry) text (rest, same, is) = entry_fits entry rest is

abbrev AllFit : List Line → Type 0
AllFit these = AllByRecursion LineFits these

all_fit : (these : List Line) (texts : List (List ℕ)) → AreLines these texts → AllFit these
all_fit [] texts are = tt
all_fit (line ∷ these) [] are = absurd are
all_fit (line ∷ these) (text ∷ texts) are = (line_fits line text are.0, all_fit these texts are.1)

first_fit : (one two : List Line) → AllFit (one ++ two) → AllFit one
first_fit [] two all = tt
first_fit (line ∷ one) two all = (all.0, first_fit one two all.1)

others_fit : (one two : List Line) → AllFit (one ++ two) → AllFit two
others_fit [] two all = all
others_fit (line ∷ one) two all = others_fit one two all.1

-- ---- Join/Prune messages

module _ (family : AddressFamily) where
  entry_sized : (entry : Entry (List ℕ)) → EntryFits (entry_in family entry) → HasAddress family entry
  entry_sized (Star rp) fits = in_family family rp fits
  entry_sized (Source source) fits = in_family family source fits
  entry_sized (Rpt source) fits = in_family family source fits

  joined_sized : (entries : List (Entry (List ℕ))) → AllFit (map of_line.Join (map (entry_in family) entries)) → AllByRecursion (HasAddress family) entries
  joined_sized [] fit = tt
  joined_sized (entry ∷ entries) fit = (entry_sized entry fit.0, joined_sized entries fit.1)

  pruned_sized : (entries : List (Entry (List ℕ))) → AllFit (map of_line.Prune (map (entry_in family) entries)) → AllByRecursion (HasAddress family) entries
  pruned_sized [] fit = tt
  pruned_sized (entry ∷ entries) fit = (entry_sized entry fit.0, pruned_sized entries fit.1)

  set_sized : (set : GroupSet) → AllFit (set_lines (set_in family set)) → IsSizedSet family set
  set_sized set fit =
      let joins = map of_line.Join (map (entry_in family) set.joined) in
      let prunes = map of_line.Prune (map (entry_in family) set.pruned) in
      record {
        group = in_family family set.group fit.0.2;
        few_joined = omega (arith, fit.0.0, length-map set.joined (entry_in family));
        few_pruned = omega (arith, fit.0.1, length-map set.pruned (entry_in family));
        joined = joined_sized set.joined (first_fit joins prunes fit.1);
        pruned = pruned_sized set.pruned (others_fit joins prunes fit.1);
      }

  sets_sized : (sets : List GroupSet) → AllFit (flat_map set_lines (map (set_in family) sets)) → AllByRecursion (IsSizedSet family) sets
  sets_sized [] fit = tt
  sets_sized (set ∷ sets) fit =
      let here = set_lines (set_in family set) in
      let others = flat_map set_lines (map (set_in family) sets) in
      (set_sized set (first_fit here others fit), sets_sized sets (others_fit here others fit))

  pub message_sized : (text : List ℕ) (message : Message) → States text (message_in family message) → IsSizedMessage family message
  message_sized text message states =
      let fit = all_fit (value_lines (message_in family message)) (lines text) states in
      record {
        upstream = in_family family message.upstream fit.0.2;
        holdtime = omega (arith, fit.0.0);
        few_sets = omega (arith, fit.0.1, length-map message.sets (set_in family));
        sets = sets_sized message.sets fit.1;
      }

  -- ---- Hellos

  addresses_sized : (addresses : List (List ℕ)) → AllFit (map of_line.Secondary (map (address_in family) addresses)) → AreAddresses family addresses
  unfolding AreAddresses
  addresses_sized [] fit = tt
  addresses_sized (address ∷ addresses) fit = (in_family family address fit.0, addresses_sized addresses fit.1)

  holdtime_fits : (holdtime : Option ℕ) → AllFit (option_line of_line.Holdtime holdtime) → IfSome holdtime (λ n. n < 2 ^ 16)
  holdtime_fits None fit = tt
  holdtime_fits (Some n) fit = omega (arith, fit.0)

  delays_fit : (lan : Option Delays) → AllFit (option_line delays_line_of lan) → IfSome lan (λ d. (d.propagation < 2 ^ 15) × (d.override_ms < 2 ^ 16))
  delays_fit None fit = tt
  delays_fit (Some d) fit = (omega (arith, fit.0.0), omega (arith, fit.0.1))

  priority_fits : (priority : Option ℕ) → AllFit (option_line of_line.Priority priority) → IfSome priority (λ n. n < 2 ^ 32)
  priority_fits None fit = tt
  priority_fits (Some n) fit = omega (arith, fit.0)

  generation_fits : (generation : Option ℕ) → AllFit (option_line of_line.Generation generation) → IfSome generation (λ n. n < 2 ^ 32)
  generation_fits None fit = tt
  generation_fits (Some n) fit = omega (arith, fit.0)

  pub hello_sized : (text : List ℕ) (hello : Hello) → States text (hello_in family hello) → ParametersFit hello.parameters × AreAddresses family hello.addresses
  hello_sized text hello states =
      let p = hello.parameters in
      let fit = all_fit (value_lines (hello_in family hello)) (lines text) states in
      let addresses = map of_line.Secondary (map (address_in family) hello.addresses) in
      let generation = option_line of_line.Generation p.generation ++ addresses in
      let priority = option_line of_line.Priority p.priority ++ generation in
      let lan = option_line delays_line_of p.lan ++ priority in
      let after_holdtime = others_fit (option_line of_line.Holdtime p.holdtime) lan fit.1 in
      let after_lan = others_fit (option_line delays_line_of p.lan) priority after_holdtime in
      let after_priority = others_fit (option_line of_line.Priority p.priority) generation after_lan in (
        record {
          holdtime = holdtime_fits p.holdtime (first_fit (option_line of_line.Holdtime p.holdtime) lan fit.1);
          lan = delays_fit p.lan (first_fit (option_line delays_line_of p.lan) priority after_holdtime);
          priority = priority_fits p.priority (first_fit (option_line of_line.Priority p.priority) generation after_lan);
          generation = generation_fits p.generation (first_fit (option_line of_line.Generation p.generation) addresses after_priority);
        },
        addresses_sized hello.addresses (others_fit (option_line of_line.Generation p.generation) addresses after_priority),
      )
