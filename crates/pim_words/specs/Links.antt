-- The links of ports, by the options `--input`, `--vlan` and `--interface`.
use Rattle.std.specs.Prelude.{◌≡◌, ◌≢◌, ◌<◌, ◌+◌, ◌⊎◌, ◌==◌, ⊤, ℕ, Bool, true, false, cond, List, [], ◌∷◌, ◌++◌, length}
use Rattle.std.specs.Prelude.{get_or, Option, None, Some, IsSomeAnd, codes, is_some}
use Rattle.std.specs.Str.Parse.{IsNumeral, digits_value, without_leading_plus}
use Rattle.clap.specs.Words.{Row, Text}
use Rattle.pim_capture.specs.declared.interface.InterfaceChoice.{InterfaceChoice}
use Rattle.pim_capture.specs.declared.interface.InterfaceChoice.TheVariants as interface
use Rattle.pim_capture.specs.declared.vlan.Vlan.{Vlan}
use Rattle.pim_capture.specs.Names.{name_of}
use Rattle.pim_lines.specs.declared.either.AnyAddress.{AnyAddress}
use Rattle.pim_words.specs.declared.fault.CommandFault.{CommandFault}
use Rattle.pim_words.specs.declared.fault.CommandFault.TheVariants as cause
use Rattle.pim_words.specs.declared.links.Links.{Links}
use Rattle.pim_words.specs.declared.picks.Part.{Part}
use Rattle.pim_words.specs.declared.picks.Part.TheVariants as part
use Rattle.pim_words.specs.declared.picks.Pick.{Pick}
use Rattle.pim_words.specs.declared.picks.Target.{Target}
use Rattle.pim_words.specs.declared.task.CommandKind.{CommandKind}
use Rattle.pim_words.specs.declared.task.CommandKind.TheVariants.{Trace, Audit}
use Rattle.pim_words.specs.declared.task.LinkWord.{LinkWord}
use Rattle.pim_words.specs.declared.task.Port.{Port}
use Rattle.pim_words.specs.Given.{IsNumber, option_or, values_of, words_of}
use Rattle.pim_words.specs.Labels.{LacksEqualSign}
use Rattle.pim_words.specs.Ports.{port_words}

-- ---- a VLAN

-- The text has no point.
abbrev pub LacksPoint : Text → Type 0
LacksPoint text = (place : ℕ) → place < length text → get_or text place 0 ≢ 46

-- `N`: frames with the tag of this VLAN alone. `0`: frames without a tag, for which `Vlan` has
-- twice 0.
pub record IsOneTag (text : Text) (vlan : Vlan) : Type 0 where
  pub whole : LacksPoint text
  pub outer : IsNumber 0 4094 text vlan.outer
  pub inner : vlan.inner ≡ 0

-- `N.M`: frames with these two tags.
pub record AreTwoTags (text : Text) (vlan : Vlan) : Type 0 where
  pub first : Text
  pub second : Text
  pub cut : text ≡ first ++ (46 ∷ second)
  pub whole : LacksPoint first
  pub outer : IsNumber 1 4094 first vlan.outer
  pub inner : IsNumber 1 4094 second vlan.inner

-- The text names this VLAN.
abbrev pub IsVlanText : Text → Vlan → Type 0
IsVlanText text vlan = IsOneTag text vlan ⊎ AreTwoTags text vlan

-- The text names no VLAN.
abbrev pub IsNoVlan : Text → Type 0
IsNoVlan text = (vlan : Vlan) → IsVlanText text vlan → ⊥

-- ---- an interface

-- The text names this interface: it is its number, or the text of its name. No name is a number.
abbrev pub IsInterfaceText : Text → InterfaceChoice → Type 0
IsInterfaceText text (interface.Number number) = IsNumber 0 4294967295 text number
IsInterfaceText text (interface.Name name) = name_of text ≡ Some name

-- The text names no interface.
abbrev pub IsNoInterface : Text → Type 0
IsNoInterface text = (choice : InterfaceChoice) → IsInterfaceText text choice → ⊥

-- ---- a link of which one part is chosen

-- The text names this part of the link: its VLAN or its interface. The other part is not chosen.
abbrev pub IsLinkText : Part → Text → LinkWord → Type 0
IsLinkText part.Vlan text link = IsSomeAnd link.vlan (IsVlanText text) × (link.interface ≡ None)
IsLinkText part.Interface text link = (link.vlan ≡ None) × IsSomeAnd link.interface (IsInterfaceText text)

-- The text names no such link.
abbrev pub IsNoLink : Part → Text → Type 0
IsNoLink chosen text = (link : LinkWord) → IsLinkText chosen text link → ⊥

-- ---- the port of a value

-- The text spells the number of one of `count` ports, from 0.
pub record IsPortNumber (count : ℕ) (text : Text) (number : ℕ) : Type 0 where
  pub digits : IsNumeral 10 (without_leading_plus text)
  pub value : digits_value 10 (without_leading_plus text) ≡ number
  pub below : number < count

-- The text spells no such number.
abbrev pub IsNoPortNumber : ℕ → Text → Type 0
IsNoPortNumber count text = (number : ℕ) → IsPortNumber count text number → ⊥

-- The value is `P=REST` for the port P, cut at its first `=`. Without one it is for all ports.
abbrev pub IsTarget : ℕ → Text → Option ℕ → Text → Type 0
IsTarget count value None rest = (rest ≡ value) × LacksEqualSign value
IsTarget count value (Some number) rest =
    (name : Text) × (value ≡ name ++ (61 ∷ rest)) × LacksEqualSign name × IsPortNumber count name number

-- The value is cut so.
abbrev pub IsTargetOf : ℕ → Text → Target → Type 0
IsTargetOf count value target = IsTarget count value target.port target.text.now

-- The value can't be cut so.
abbrev pub IsNoTarget : ℕ → Text → Type 0
IsNoTarget count value = (port : Option ℕ) (rest : Text) → IsTarget count value port rest → ⊥

-- ---- what values pick

-- Whether the two are the same port, or both stand for all ports.
abbrev pub is_same_port : Option ℕ → Option ℕ → Bool
is_same_port None None = true
is_same_port (Some one) (Some other) = one == other
is_same_port one other = false

-- The link that one of these picks has for just this port.
unfoldable pub pick_for : Option ℕ → List Pick → Option LinkWord
pick_for port [] = None
pick_for port (pick ∷ picks) = cond (is_same_port pick.port port) (Some pick.link) (pick_for port picks)

-- The link whose packets are all packets of a capture.
abbrev pub each_link : LinkWord
each_link = record { vlan = None; interface = None }

-- The first of two links that there is, otherwise each.
abbrev pub first_link : Option LinkWord → Option LinkWord → LinkWord
first_link (Some own) other = own
first_link None (Some link) = link
first_link None None = each_link

-- The link that these picks choose for the port of this number: that of its own pick, otherwise
-- that of the pick for all ports.
abbrev pub chosen_for : ℕ → List Pick → LinkWord
chosen_for number picks = first_link (pick_for (Some number) picks) (pick_for None picks)

-- After these picks, the value picks this link for this port. Any container must be read, and no
-- earlier value may have picked for the same port.
pub record IsPick (chosen : Part) (is_any : Bool) (count : ℕ) (earlier : List Pick) (value : Text)
    (pick : Pick) : Type 0 where
  pub any : is_any ≡ true
  pub rest : Text
  pub target : IsTarget count value pick.port rest
  pub fresh : is_some (pick_for pick.port earlier) ≡ false
  pub link : IsLinkText chosen rest pick.link

-- The value picks nothing.
abbrev pub IsNoPick : Part → Bool → ℕ → List Pick → Text → Type 0
IsNoPick chosen is_any count earlier value = (pick : Pick) → IsPick chosen is_any count earlier value pick → ⊥

-- The fault of a value that picks nothing.
abbrev pub IsWrongPick : Part → Bool → ℕ → List Pick → Text → CommandFault → Type 0
IsWrongPick chosen is_any count earlier value (cause.Word reported) =
    (reported.now ≡ value) × IsNoPick chosen is_any count earlier value
IsWrongPick chosen is_any count earlier value fault = ⊥

-- The values pick so, after earlier picks.
abbrev pub ArePicksAfter : Part → Bool → ℕ → List Pick → List Text → List Pick → Type 0
ArePicksAfter chosen is_any count earlier [] [] = ⊤
ArePicksAfter chosen is_any count earlier (value ∷ values) (pick ∷ picks) =
    IsPick chosen is_any count earlier value pick
    × ArePicksAfter chosen is_any count (earlier ++ pick ∷ []) values picks
ArePicksAfter chosen is_any count earlier values picks = ⊥

-- The values of an option pick so for `count` ports.
abbrev pub ArePicks : Part → Bool → ℕ → List Text → List Pick → Type 0
ArePicks chosen is_any count values picks = ArePicksAfter chosen is_any count [] values picks

-- Each of the values picks a link.
abbrev pub ArePickable : Part → Bool → ℕ → List Text → Type 0
ArePickable chosen is_any count values = (picks : List Pick) × ArePicks chosen is_any count values picks

-- The fault is that of the first value that picks nothing, after earlier picks.
abbrev pub IsFirstWrongPick : Part → Bool → ℕ → List Pick → List Text → CommandFault → Type 0
IsFirstWrongPick chosen is_any count earlier [] fault = ⊥
IsFirstWrongPick chosen is_any count earlier (value ∷ values) fault =
    IsWrongPick chosen is_any count earlier value fault
    ⊎ ((pick : Pick) × IsPick chosen is_any count earlier value pick
    × IsFirstWrongPick chosen is_any count (earlier ++ pick ∷ []) values fault)

-- ---- the links of all ports

-- The number of the words that name ports, where any container is read or not.
abbrev pub word_count : Bool → List Row → ℕ
word_count is_any rows = length (port_words is_any (words_of rows))

-- The values of `--vlan` and `--interface` pick these links, where any container is read or not.
pub record AreLinks (is_any : Bool) (rows : List Row) (links : Links) : Type 0 where
  pub any : links.is_any ≡ is_any
  pub vlans : ArePicks part.Vlan is_any (word_count is_any rows) (values_of (codes "vlan") rows) links.vlans.items
  pub interfaces :
      ArePicks part.Interface is_any (word_count is_any rows) (values_of (codes "interface") rows) links.interfaces.items

-- The fault of the first wrong value: of `--vlan`, otherwise of `--interface`.
abbrev pub IsWrongLinks : Bool → List Row → CommandFault → Type 0
IsWrongLinks is_any rows fault =
    IsFirstWrongPick part.Vlan is_any (word_count is_any rows) [] (values_of (codes "vlan") rows) fault
    ⊎ (ArePickable part.Vlan is_any (word_count is_any rows) (values_of (codes "vlan") rows)
    × IsFirstWrongPick part.Interface is_any (word_count is_any rows) [] (values_of (codes "interface") rows) fault)

-- The link of the port of this number, if any container is read.
abbrev pub link_at : Links → ℕ → Option LinkWord
link_at links number = cond links.is_any (Some (record {
  vlan = (chosen_for number links.vlans.items).vlan;
  interface = (chosen_for number links.interfaces.items).interface;
})) None

-- Each of these ports has the link of its number, which counts from this one.
abbrev pub AreLinkedFrom : Links → ℕ → List (Port AnyAddress) → Type 0
AreLinkedFrom links number [] = ⊤
AreLinkedFrom links number (port ∷ ports) =
    (port.link ≡ link_at links number) × AreLinkedFrom links (number + 1) ports

-- ---- the input of a command that reads classic captures unless `--input any` is given

-- The name of an input.
abbrev pub input_name : Bool → Text
input_name true = codes "any"
input_name false = codes "classic"

-- The text of `--input`, or its default.
abbrev pub input_text : List Row → Text
input_text rows = option_or (codes "classic") (codes "input") rows

-- The text names no input.
abbrev pub IsNoInput : Text → Type 0
IsNoInput text = (is_any : Bool) → text ≡ input_name is_any → ⊥

-- The fault of a text that names no input.
abbrev pub IsWrongInput : Text → CommandFault → Type 0
IsWrongInput text (cause.Word reported) = (reported.now ≡ text) × IsNoInput text
IsWrongInput text fault = ⊥

-- The text of `--input` of a command that reads any container, or its default.
abbrev pub any_text : List Row → Text
any_text rows = option_or (input_name true) (codes "input") rows

-- The fault of such a text that isn't this input.
abbrev pub IsOtherInput : Text → CommandFault → Type 0
IsOtherInput text (cause.Word reported) = (reported.now ≡ text) × (text ≢ input_name true)
IsOtherInput text fault = ⊥

-- The options of a command that reads any container give these links.
abbrev pub AreAnyLinks : List Row → Links → Type 0
AreAnyLinks rows links = (any_text rows ≡ input_name true) × AreLinks true rows links

-- The options give these links. A trace and an audit read any container.
abbrev pub AreChosenLinks : CommandKind → List Row → Links → Type 0
AreChosenLinks Trace rows links = AreAnyLinks rows links
AreChosenLinks Audit rows links = AreAnyLinks rows links
AreChosenLinks command rows links = (input_text rows ≡ input_name links.is_any) × AreLinks links.is_any rows links

-- The fault of the first wrong value of a command that reads any container: of `--input`, otherwise
-- of `--vlan`, otherwise of `--interface`.
abbrev pub AreWrongAny : List Row → CommandFault → Type 0
AreWrongAny rows fault = IsOtherInput (any_text rows) fault
    ⊎ ((any_text rows ≡ input_name true) × IsWrongLinks true rows fault)

-- The same of each command.
abbrev pub AreWrongChoices : CommandKind → List Row → CommandFault → Type 0
AreWrongChoices Trace rows fault = AreWrongAny rows fault
AreWrongChoices Audit rows fault = AreWrongAny rows fault
AreWrongChoices command rows fault =
    IsWrongInput (input_text rows) fault
    ⊎ ((is_any : Bool) × (input_text rows ≡ input_name is_any) × IsWrongLinks is_any rows fault)
