-- The numbers among the options, which `clap` tests.
use Rattle.pim_words.proofs.Words.{◌≡◌, ◌||◌, ◌==◌, not, ℕ, Bool, cond, true, false, refl, List, [], ◌∷◌, Option, Some}
use Rattle.pim_words.proofs.Words.{None, codes, arith, IfSome, unwrap_or, AllByRecursion, list_all, bytes_eq}
use Rattle.pim_words.proofs.Words.{digits_value, without_leading_plus, eqb-true, parser_of_value, value_kinds}
use Rattle.pim_words.proofs.Words.{ErrorKind, Unsigned, both, HasNumbers, IsOffered, are_tested, has_range, is_tested}
use Rattle.clap.specs.Words.{App, IsUnsignedIn, Row, Rule, Shape, Text, built, fault_of, first_of, subcommand_of}
use Rattle.clap.specs.ValueTests.{accepts}
use Rattle.clap.specs.Values.{refused_kind}
use Rattle.clap.specs.declared.builder.value_parser.ValueParser.{ValueParser}
use Rattle.clap.proofs.ValueTestLemmas.{accepts-Accepts}
use Rattle.pim_words.specs.Given.{IsNoNumber, option_or}
use Rattle.pim_words.proofs.Passed.{AllTest, Tests, passed}

-- ---- options that take a number

no_kind : (t : Bool) (k : ErrorKind) → cond t [] (k ∷ []) ≡ [] → t ≡ true
no_kind true k none = refl
no_kind false k none = absurd cc

in_range : (low high : ℕ) (ignore : Bool) (o : Option ValueParser) (v : Text) → has_range low high o ≡ true → value_kinds ignore (parser_of_value o) v ≡ [] → IsUnsignedIn low high v
in_range low high ignore (Some (Unsigned a b)) v same none =
    let ends = both (a == low) (b == high) same in
    let least : a ≡ low = eqb-true a low ends.0 in
    let most : b ≡ high = eqb-true b high ends.1 in
    let is = accepts-Accepts ignore (Unsigned a b) v (no_kind (accepts ignore (Unsigned a b) v) (refused_kind (Unsigned a b)) none) in
    (is.0, is.1, omega (arith, is.2, least), omega (arith, is.3, most))
in_range low high ignore other v same none = absurd cc

rule_tests : (low high : ℕ) (name : Text) (a : Rule) → is_tested low high name a ≡ true → Tests name (IsUnsignedIn low high) a
rule_tests low high name a tested mine v none = in_range low high a.ignore_case a.parser v (by (bytes_eq a.id name) mine tested) none
  where
    by : (t : Bool) → t ≡ true → (not t || has_range low high a.parser) ≡ true → has_range low high a.parser ≡ true
    by true mine tested = tested
    by false mine tested = absurd cc

all_of : {X : Type 0} (p : X → Bool) (P : X → Type 0) → ((x : X) → p x ≡ true → P x) → (xs : List X) → list_all p xs ≡ true → AllByRecursion P xs
all_of p P holds [] is = tt
all_of p P holds (x ∷ xs) is =
    let parts = both (p x) (list_all p xs) is in
    (holds x parts.0, all_of p P holds xs parts.1)

all_test : (low high : ℕ) (name : Text) (subs : List Shape) → are_tested low high name subs ≡ true → AllTest name (IsUnsignedIn low high) subs
all_test low high name subs is =
    all_of (λ (s : Shape). list_all (is_tested low high name) s.rules) (λ (s : Shape). AllByRecursion (Tests name (IsUnsignedIn low high)) s.rules)
    (λ s tested. all_of (is_tested low high name) (Tests name (IsUnsignedIn low high)) (rule_tests low high name) s.rules tested) subs is

-- ---- the numbers of the command that was met

or_default : (low high : ℕ) (given : Option Text) (default : Text) → IfSome given (IsUnsignedIn low high) → IsUnsignedIn low high default → IsUnsignedIn low high (unwrap_or given default)
or_default low high None default is other = other
or_default low high (Some text) default is other = is

module _ (a : App) (offered : IsOffered a) (words : List Text) (met : Text × List Row) (none : fault_of a words ≡ []) (is : subcommand_of a words ≡ Some met) where
  number : (low high : ℕ) (name default : Text) → are_tested low high name (built a).subs ≡ true → accepts false (Unsigned low high) default ≡ true → IsUnsignedIn low high (option_or default name met.1)
  number low high name default tested spelled =
      or_default low high (first_of name met.1) default
      (passed name (IsUnsignedIn low high) a words met (all_test low high name (built a).subs tested) none is)
      (accepts-Accepts false (Unsigned low high) default spelled)

  pub has_numbers : HasNumbers met.1
  has_numbers = record {
    limit = number 1 100000 (codes "limit") (codes "100000") offered.limit refl;
    after = number 0 1000000000 (codes "after") (codes "0") offered.after refl;
    grace = number 0 1000000000 (codes "grace") (codes "3000") offered.grace refl;
    holdtime = number 99 65535 (codes "holdtime") (codes "210") offered.holdtime refl;
    budget = number 70 65000 (codes "budget") (codes "1460") offered.budget refl;
  }

-- ---- a text that was tested spells a number

pub spelled : (low high : ℕ) (text : Text) → IsUnsignedIn low high text → IsNoNumber low high text → ⊥
spelled low high text is none =
    none (digits_value 10 (without_leading_plus text)) (record { digits = is.0; value = refl; least = is.2; most = is.3 })
