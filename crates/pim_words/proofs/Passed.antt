-- Where `clap` finds nothing wrong with words, each value that they leave for an option has passed the option's test.
use Rattle.std.proofs.Common.{◌≡◌, ◌+◌, ◌&&◌, ◌||◌, ℕ, Bool, cond, zero, suc, true, false, not, refl, subst, List, [], ◌∷◌, ◌++◌, Option, Some, None, length, min, drop, is_some, arith}
use Rattle.std.specs.Prelude.{IfSome, find, fold, slice_get, encode_utf8, option_and_then, option_map}
use Rattle.pim_words.proofs.Words.{AllByRecursion, option_map_or, bytes_eq, chars, ne_eqb, parser_of_value}
use Rattle.pim_words.proofs.Words.{unwrap_or_range, TooManyValues}
use Rattle.std.proofs.lemmas.Slice.Eq.{bytes_eq-Decides}
use Rattle.clap.specs.Lexer.{long_of, short_of}
use Rattle.clap.specs.Matches.{count_text}
use Rattle.clap.specs.Walk.{Held, Names, Outcome, Row, Rule, Step, Text, Waiting, Walk, action_of, after_flag, after_step, answers_to, arg_by_id, arg_by_index, arg_by_long, arg_by_short, at_row, attached_value, bundle, bundle_met, bundle_step, count_of, counted, default_rows, done, finished, flag_met, first_of, has_long, has_row, has_short, idle, is_empty, is_pending, long_met, long_or_other, more_values, most_values, new_count, next, nothing_held, option, option_met, option_word, plain, plain_word, positional, reacted, reading_by, refused, rows_after, settled, settled_rows, short_met, short_or_plain, subcommand, subcommand_met, subcommand_or_other, takes_several, takes_values, to_positional, trailing, used, used_as, used_by_id, value, values_or_missing, waits, walk, walk_from, walked, walked_from, with_default, with_values, without, word_met}
use Rattle.clap.specs.Kinds.{Kinds, or_else, range_kinds, request_kinds, value_kinds}
use Rattle.clap.specs.Faults.{action_fault, bundle_fault, bundle_step_fault, check_fault, count_fault, default_fault, defaults_fault, entered_fault, fault_of, flag_word_fault, flags_fault, given_default_fault, level_fault, long_fault, option_fault, other_fault, positional_fault, react_fault, repeat_fault, settle_fault, short_fault, step_fault, stray_fault, turn_fault, use_fault, values_fault, walk_fault, word_fault}
use Rattle.clap.specs.Simple.{App, Shape, argument_words, built, entered, label_of, names_of, rows_at, subcommand_of}
use Rattle.clap.specs.declared.builder.action.ArgAction.{ArgAction}
use Rattle.clap.specs.declared.builder.action.ArgAction.TheVariants as action
use Rattle.clap.specs.declared.parser.matches.ValueSource.{ValueSource}
use Rattle.clap.specs.declared.parser.matches.ValueSource.TheVariants.{CommandLine, DefaultValue}
use Rattle.clap.specs.declared.builder.value_parser.Reading.{Reading}

-- ---- kinds of errors, one after the other

pub none_first : (a b : Kinds) → or_else a b ≡ [] → a ≡ []
none_first [] b none = refl
none_first (k ∷ ks) b none = absurd cc

pub none_second : (a b : Kinds) → or_else a b ≡ [] → b ≡ []
none_second [] b none = none
none_second (k ∷ ks) b none = absurd cc

all_append : {X : Type 0} (P : X → Type 0) (xs ys : List X) → AllByRecursion P xs → AllByRecursion P ys → AllByRecursion P (xs ++ ys)
all_append P [] ys first second = second
all_append P (x ∷ xs) ys first second = (first.0, all_append P xs ys first.1 second)

-- ---- what was found for the option of this name, and what each of its values is to be

module _ (name : Text) (P : Text → Type 0) where
  abbrev AllPass : List Text → Type 0
  AllPass values = AllByRecursion P values

  abbrev Fits : Row → Type 0
  Fits row = bytes_eq row.id name ≡ true → AllPass row.values

  abbrev AllFit : List Row → Type 0
  AllFit rows = AllByRecursion Fits rows

  -- The option tests its values for that.
  abbrev pub Tests : Rule → Type 0
  Tests a = bytes_eq a.id name ≡ true → (v : Text) → value_kinds a.ignore_case (parser_of_value a.parser) v ≡ [] → P v

  all_pass : (a : Rule) (values : List Text) → Tests a → bytes_eq a.id name ≡ true → values_fault a values ≡ [] → AllPass values
  all_pass a [] tests mine none = tt
  all_pass a (v ∷ vs) tests mine none =
      let first = none_first (value_kinds a.ignore_case (parser_of_value a.parser) v) (values_fault a vs) none in
      let others = none_second (value_kinds a.ignore_case (parser_of_value a.parser) v) (values_fault a vs) none in
      (tests mine v first, all_pass a vs tests mine others)

  -- ---- rows

  renamed : (one two : Text) → bytes_eq one two ≡ true → bytes_eq one name ≡ true → bytes_eq two name ≡ true
  renamed one two same mine = subst (λ n. bytes_eq n name ≡ true) ((bytes_eq-Decides one two).0 same) mine

  at_fits : (id : Text) (change : Row → List Row) (missing rows : List Row) → ((r : Row) → bytes_eq r.id id ≡ true → Fits r → AllFit (change r)) → AllFit missing → AllFit rows
      → AllFit (at_row id change missing rows)
  at_fits id change missing [] changed new old = new
  at_fits id change missing (r ∷ rs) changed new old = by (bytes_eq r.id id) refl (at_fits id change missing rs changed new old.1)
    where
      by : (t : Bool) → bytes_eq r.id id ≡ t → AllFit (at_row id change missing rs) → AllFit (cond t (change r ++ rs) (r ∷ at_row id change missing rs))
      by true same others = all_append Fits (change r) rs (changed r same old.0) old.1
      by false same others = (old.0, others)

  with_fits : (id : Text) (how : Reading) (source : ValueSource) (values : List Text) (rows : List Row) → (bytes_eq id name ≡ true → AllPass values) → AllFit rows → AllFit (with_values id how source values rows)
  with_fits id how source values rows pass old =
      at_fits id (more_values source values) (record { id = id; values = values; count = None; source = Some source; reading = how } ∷ []) rows
      (λ r same fits. ((λ mine. all_append P r.values values (fits mine) (pass (renamed r.id id same mine))), tt)) (pass, tt) old

  without_fits : (id : Text) (rows : List Row) → AllFit rows → AllFit (without id rows)
  without_fits id rows old = at_fits id (λ r. []) [] rows (λ r same fits. tt) tt old

  -- ---- one use of an option

  counted_fits : (a : Rule) (how : Reading) (values : List Text) (rows : List Row) → Tests a → count_fault a values rows ≡ [] → AllFit rows → AllFit (counted a.id how values rows)
  counted_fits a how [] rows tests none old =
      let n = min (count_of a.id rows + 1) 255 in
      at_fits a.id (new_count CommandLine n) (record { id = a.id; values = count_text n ∷ []; count = Some n; source = Some CommandLine; reading = how } ∷ []) (without a.id rows)
      (λ r same fits. ((λ mine. all_append P r.values (count_text n ∷ []) (fits mine) (tests (renamed r.id a.id same mine) (count_text n) none, tt)), tt))
      ((λ mine. (tests mine (count_text n) none, tt)), tt) (without_fits a.id rows old)
  counted_fits a how (v ∷ vs) rows tests none old =
      with_fits a.id how CommandLine (v ∷ vs) (without a.id rows) (λ mine. all_pass a (v ∷ vs) tests mine none) (without_fits a.id rows old)

  set_fits : (again : Bool) (a : Rule) (how : Reading) (values : List Text) (rows : List Row) → Tests a → or_else (repeat_fault again a.id rows) (values_fault a values) ≡ [] → AllFit rows
      → AllFit (with_values a.id how CommandLine values (without a.id rows))
  set_fits again a how values rows tests none old =
      with_fits a.id how CommandLine values (without a.id rows) (λ mine. all_pass a values tests mine (none_second (repeat_fault again a.id rows) (values_fault a values) none)) (without_fits a.id rows old)

  used_as_fits : (x : ArgAction) (again : Bool) (a : Rule) (how : Reading) (values : List Text) (rows : List Row) → Tests a → action_fault x again a values rows ≡ [] → AllFit rows
      → AllFit (used_as x a.id how values rows)
  used_as_fits action.Set again a how values rows tests none old = set_fits again a how values rows tests none old
  used_as_fits action.SetTrue again a how values rows tests none old = set_fits again a how values rows tests none old
  used_as_fits action.SetFalse again a how values rows tests none old = set_fits again a how values rows tests none old
  used_as_fits action.Append again a how values rows tests none old = with_fits a.id how CommandLine values rows (λ mine. all_pass a values tests mine none) old
  used_as_fits action.Count again a how values rows tests none old = counted_fits a how values rows tests none old
  used_as_fits x again a how values rows tests none old = old

  use_fits : (again : Bool) (a : Rule) (values : List Text) (rows : List Row) → Tests a → use_fault again a values rows ≡ [] → AllFit rows → AllFit (used a values rows)
  use_fits again a values rows tests none old =
      let range = range_kinds (unwrap_or_range a.range).start_inclusive (most_values a) (length values) in
      used_as_fits (action_of a) again a (reading_by a) (values_or_missing a values) rows tests (none_second range (action_fault (action_of a) again a (values_or_missing a values) rows) none) old

  -- ---- the walk over the words of a command

  found : (p : Rule → Bool) (rules : List Rule) → AllByRecursion Tests rules → IfSome (find p rules) Tests
  found p [] all = tt
  found p (x ∷ xs) all = by (p x) (found p xs all.1)
    where
      by : (t : Bool) → IfSome (find p xs) Tests → IfSome (cond t (Some x) (find p xs)) Tests
      by true others = all.0
      by false others = others

  module _ (s : Shape) (all : AllByRecursion Tests s.rules) where
    by_id_fits : (o : Option Rule) (values : List Text) (rows : List Row) → IfSome o Tests → option_map_or (λ a. use_fault s.args_override_self a values rows) o [] ≡ [] → AllFit rows
        → AllFit (used_by_id o values rows)
    by_id_fits None values rows tests none old = old
    by_id_fits (Some a) values rows tests none old = use_fits s.args_override_self a values rows tests none old

    pending_fits : (o : Option (Text × List Text)) (rows : List Row)
        → option_map_or (λ p. option_map_or (λ a. use_fault s.args_override_self a p.1 rows) (arg_by_id s.rules p.0) []) o [] ≡ [] → AllFit rows → AllFit (settled_rows s.rules o rows)
    pending_fits None rows none old = old
    pending_fits (Some p) rows none old = by_id_fits (arg_by_id s.rules p.0) p.1 rows (found (λ a. bytes_eq a.id p.0) s.rules all) none old

    settled_fits : (h : Held) → settle_fault s.rules s.args_override_self h ≡ [] → AllFit h.rows → AllFit (settled s.rules h).rows
    settled_fits h none old = pending_fits h.pending h.rows none old

    reacted_fits : (a : Rule) (values : List Text) (h : Held) → Tests a → react_fault s.rules s.args_override_self a values h ≡ [] → AllFit h.rows → AllFit (reacted s.rules a values h).rows
    reacted_fits a values h tests none old =
        let before = settle_fault s.rules s.args_override_self h in
        let here = use_fault s.args_override_self a values (settled s.rules h).rows in
        use_fits s.args_override_self a values (settled s.rules h).rows tests (none_second before here none) (settled_fits h (none_first before here none) old)

    option_fits : (a : Rule) (v : Option Text) (h : Held) → Tests a → option_fault s.rules s.args_override_self a v h ≡ [] → AllFit h.rows → AllFit (option_met s.rules a v h).0.rows
    option_fits a None h tests none old = settled_fits h none old
    option_fits a (Some v) h tests none old = reacted_fits a (v ∷ []) h tests none old

    flag_fits : (a : Rule) (v : Option Text) (h : Held) → Tests a → cond (is_some v) (TooManyValues ∷ []) (react_fault s.rules s.args_override_self a [] h) ≡ [] → AllFit h.rows
        → AllFit (flag_met s.rules a v h).0.rows
    flag_fits a None h tests none old = reacted_fits a [] h tests none old
    flag_fits a (Some v) h tests none old = old

    long_fits : (o : Option Rule) (v : Option Text) (h : Held) → IfSome o Tests → long_fault s.rules s.args_override_self o v h ≡ [] → AllFit h.rows → AllFit (long_met s.rules o v h).0.rows
    long_fits None v h tests none old = old
    long_fits (Some a) v h tests none old = by (takes_values a) none
      where
        by : (t : Bool) → cond t (option_fault s.rules s.args_override_self a v h) (cond (is_some v) (TooManyValues ∷ []) (react_fault s.rules s.args_override_self a [] h)) ≡ []
            → AllFit (cond t (option_met s.rules a v h) (flag_met s.rules a v h)).0.rows
        by true none = option_fits a v h tests none old
        by false none = flag_fits a v h tests none old

    short_fits : (o : Option Rule) (rest : Text) (h : Held) (fault : Held → Kinds) (go : Held → Held × Outcome) → IfSome o Tests
        → ((h : Held) → fault h ≡ [] → AllFit h.rows → AllFit (go h).0.rows) → short_fault s.rules s.args_override_self o rest h fault ≡ [] → AllFit h.rows → AllFit (short_met s.rules o rest h go).0.rows
    short_fits None rest h fault go tests goes none old = old
    short_fits (Some a) rest h fault go tests goes none old = by (takes_values a) none
      where
        by : (t : Bool) → cond t (option_fault s.rules s.args_override_self a (attached_value rest) h) (or_else (react_fault s.rules s.args_override_self a [] h) (fault (reacted s.rules a [] h))) ≡ []
            → AllFit (cond t (option_met s.rules a (attached_value rest) h) (go (reacted s.rules a [] h))).0.rows
        by true none = option_fits a (attached_value rest) h tests none old
        by false none =
            let before = react_fault s.rules s.args_override_self a [] h in
            let after = fault (reacted s.rules a [] h) in
            goes (reacted s.rules a [] h) (none_second before after none) (reacted_fits a [] h tests (none_first before after none) old)

    abbrev BundleFits : ℕ → Type 0
    BundleFits k = (flags : Text) (skip : ℕ) (so_far : Outcome) (h : Held) → flags_fault s.rules s.args_override_self k flags skip h ≡ [] → AllFit h.rows → AllFit (bundle_met s.rules k flags skip so_far h).0.rows

    bundle_step_fits : (k : ℕ) → BundleFits k → (x : Option ℕ) (flags : Text) (skip : ℕ) (so_far : Outcome) (h : Held)
        → bundle_step_fault s.rules s.args_override_self x flags skip h (flags_fault s.rules s.args_override_self k) ≡ [] → AllFit h.rows
        → AllFit (bundle_step s.rules x flags skip so_far h (bundle_met s.rules k)).0.rows
    bundle_step_fits k goes None flags skip so_far h none old = old
    bundle_step_fits k goes (Some x) flags zero so_far h none old =
        let rest = drop (length (encode_utf8 x)) flags in
        short_fits (arg_by_short s.rules x) rest h (flags_fault s.rules s.args_override_self k rest 0) (bundle_met s.rules k rest 0 done)
        (found (λ a. not (is_some a.index) && has_short a x) s.rules all) (λ h. goes rest 0 done h) none old
    bundle_step_fits k goes (Some x) flags (suc skip) so_far h none old = goes (drop (length (encode_utf8 x)) flags) skip so_far h none old

    bundle_fits : (k : ℕ) → BundleFits k
    unfolding bundle_met flags_fault
    bundle_fits zero flags skip so_far h none old = old
    bundle_fits (suc k) flags skip so_far h none old = bundle_step_fits k (bundle_fits k) (slice_get (chars flags) 0) flags skip so_far h none old

    option_word_fits : (o : Option Rule) (id word : Text) (h : Held) → AllFit h.rows → AllFit (option_word o id word h).0.rows
    option_word_fits None id word h old = old
    option_word_fits (Some a) id word h old = old

    plain_fits : (waiting : Waiting) (word : Text) (h : Held) → AllFit h.rows → AllFit (plain_word s.rules waiting word h).0.rows
    plain_fits idle word h old = old
    plain_fits (option id) word h old = option_word_fits (arg_by_id s.rules id) id word h old
    plain_fits positional word h old = old

    after_fits : (waiting : Waiting) (word : Text) (h : Held) (outcome : Outcome) → AllFit h.rows → AllFit (after_flag s.rules waiting word h outcome).0.rows
    after_fits waiting word h done old = old
    after_fits waiting word h (waits id) old = old
    after_fits waiting word h plain old = plain_fits waiting word h old
    after_fits waiting word h refused old = plain_fits waiting word h old

    short_word_fits : (o : Option Text) (waiting : Waiting) (word : Text) (h : Held) → option_map_or (λ flags. bundle_fault s.rules s.args_override_self flags h) o [] ≡ [] → AllFit h.rows
        → AllFit (short_or_plain s.rules waiting word o h).0.rows
    short_word_fits None waiting word h none old = plain_fits waiting word h old
    short_word_fits (Some flags) waiting word h none old =
        after_fits waiting word (bundle s.rules flags h).0 (bundle s.rules flags h).1 (bundle_fits (length flags) flags h.skip plain (record h { skip = 0 }) none old)

    flag_word_fits : (o : Option (Text × Option Text)) (waiting : Waiting) (word : Text) (h : Held) → flag_word_fault s.rules s.args_override_self o word h ≡ [] → AllFit h.rows
        → AllFit (long_or_other s.rules waiting word o h).0.rows
    flag_word_fits None waiting word h none old = short_word_fits (short_of word) waiting word h none old
    flag_word_fits (Some p) waiting word h none old =
        let met = long_met s.rules (arg_by_long s.rules p.0) p.1 h in
        after_fits waiting word met.0 met.1 (long_fits (arg_by_long s.rules p.0) p.1 h (found (λ a. not (is_some a.index) && has_long a p.0) s.rules all) none old)

    other_fits : (o : Option Text) (waiting : Waiting) (position : ℕ) (word : Text) (h : Held) → other_fault s o word h ≡ [] → AllFit h.rows
        → AllFit (subcommand_or_other s.rules o waiting position word h).0.rows
    other_fits (Some n) waiting position word h none old = old
    other_fits None waiting position word h none old = by (bytes_eq word (45 ∷ 45 ∷ [])) none
      where
        by : (t : Bool) → cond t [] (flag_word_fault s.rules s.args_override_self (long_of word) word h) ≡ []
            → AllFit (cond t (h, trailing position) (long_or_other s.rules waiting word (long_of word) h)).0.rows
        by true none = old
        by false none = flag_word_fits (long_of word) waiting word h none old

    module _ (names : Names) where
      word_fits : (is_trailing : Bool) (waiting : Waiting) (position : ℕ) (word : Text) (h : Held) → word_fault s names is_trailing waiting word h ≡ [] → AllFit h.rows
          → AllFit (word_met s.rules names is_trailing waiting position word h).0.rows
      word_fits true waiting position word h none old = old
      word_fits false waiting position word h none old = other_fits (subcommand_met names waiting word) waiting position word h none old

      positional_fits : (o : Option Rule) (word : Text) (w : Walk) (h : Held) → option_map_or (λ a. positional_fault s.rules s.args_override_self a h) o (stray_fault s) ≡ [] → AllFit h.rows
          → AllFit (to_positional s.rules o word w h).held.rows
      positional_fits None word w h none old = old
      positional_fits (Some a) word w h none old = by (is_pending a h.pending && takes_several a) none
        where
          by : (t : Bool) → cond t [] (settle_fault s.rules s.args_override_self h) ≡ [] → AllFit (cond t h (settled s.rules h)).rows
          by true none = old
          by false none = settled_fits h none old

      step_fits : (w : Walk) (word : Text) (h : Held) (step : Step) → step_fault s w.position h step ≡ [] → AllFit h.rows → AllFit (after_step s.rules word w h step).held.rows
      step_fits w word h (next waiting) none old = old
      step_fits w word h (trailing position) none old = old
      step_fits w word h (subcommand n) none old = old
      step_fits w word h value none old = positional_fits (arg_by_index s.rules w.position) word w h none old

      turn_fits : (o : Option (Text × List Text)) (w : Walk) (word : Text) (met : Held × Step)
          → met ≡ word_met s.rules names w.is_trailing w.waiting w.position word w.held
          → cond (is_some o) [] (or_else (word_fault s names w.is_trailing w.waiting word w.held) (step_fault s w.position met.0 met.1)) ≡ []
          → AllFit w.held.rows → AllFit (walked_from s.rules names o w word).held.rows
      turn_fits (Some p) w word met is none old = old
      turn_fits None w word met is none old =
          let first = word_fault s names w.is_trailing w.waiting word w.held in
          let here = word_met s.rules names w.is_trailing w.waiting w.position word w.held in
          let second = subst (λ (m : Held × Step). or_else first (step_fault s w.position m.0 m.1) ≡ []) is none in
          step_fits w word here.0 here.1 (none_second first (step_fault s w.position here.0 here.1) second)
          (word_fits w.is_trailing w.waiting w.position word w.held (none_first first (step_fault s w.position here.0 here.1) second) old)

      walked_fits : (w : Walk) (word : Text) → turn_fault s names w word ≡ [] → AllFit w.held.rows → AllFit (walked s.rules names w word).held.rows
      unfolding walked
      walked_fits w word none old = turn_fits w.stopped w word (word_met s.rules names w.is_trailing w.waiting w.position word w.held) refl none old

      walk_fits : (words : List Text) (w : Walk) → walk_fault s names w words ≡ [] → AllFit w.held.rows → AllFit (fold (walked s.rules names) w words).held.rows
      unfolding walk_fault
      walk_fits [] w none old = old
      walk_fits (word ∷ words) w none old =
          let here = turn_fault s names w word in
          let others = walk_fault s names (walked s.rules names w word) words in
          walk_fits words (walked s.rules names w word) (none_second here others none) (walked_fits w word (none_first here others none) old)

    -- ---- defaults, and the end

    given_fits : (a : Rule) (values : List Text) (rows : List Row) → Tests a → cond (is_empty values) [] (given_default_fault a values) ≡ [] → AllFit rows
        → AllFit (default_rows a.id (reading_by a) values rows)
    given_fits a [] rows tests none old = old
    given_fits a (v ∷ vs) rows tests none old =
        let filled : is_empty (v ∷ vs) ≡ false = ne_eqb (length (v ∷ vs)) 0 (λ empty. omega (arith, empty)) in
        let passed = subst (λ (b : Bool). cond b [] (given_default_fault a (v ∷ vs)) ≡ []) filled none in
        with_fits a.id (reading_by a) DefaultValue (v ∷ vs) rows (λ mine. all_pass a (v ∷ vs) tests mine (none_second (request_kinds (action_of a)) (values_fault a (v ∷ vs)) passed)) old

    default_fits : (a : Rule) (rows : List Row) → Tests a → default_fault rows a ≡ [] → AllFit rows → AllFit (with_default rows a)
    default_fits a rows tests none old = by (has_row a.id rows) none
      where
        by : (t : Bool) → cond (t || is_empty a.defaults) [] (given_default_fault a a.defaults) ≡ [] → AllFit (cond t rows (default_rows a.id (reading_by a) a.defaults rows))
        by true none = old
        by false none = given_fits a a.defaults rows tests none old

    defaults_fit : (rules : List Rule) (rows : List Row) → AllByRecursion Tests rules → defaults_fault rows rules ≡ [] → AllFit rows → AllFit (fold with_default rows rules)
    unfolding defaults_fault
    defaults_fit [] rows tests none old = old
    defaults_fit (a ∷ rules) rows tests none old =
        let here = default_fault rows a in
        let others = defaults_fault (with_default rows a) rules in
        defaults_fit rules (with_default rows a) tests.1 (none_second here others none) (default_fits a rows tests.0 (none_first here others none) old)

    level_fits : (words : List Text) (has : Bool) (below : Kinds) → level_fault s [] nothing_held words has below ≡ [] → AllFit (rows_after s.rules [] words)
    level_fits words has below none =
        let end = (walk s.rules [] nothing_held words).held in
        let walking = walk_fault s [] (walk_from nothing_held) words in
        let settling = settle_fault s.rules s.args_override_self end in
        let filling = defaults_fault (settled s.rules end).rows s.rules in
        let checking = check_fault s (finished s.rules end) has in
        let walked_well = none_first walking (or_else below (or_else settling (or_else filling checking))) none in
        let later = none_second below (or_else settling (or_else filling checking)) (none_second walking (or_else below (or_else settling (or_else filling checking))) none) in
        let filled_well = none_first filling checking (none_second settling (or_else filling checking) later) in
        let before = walk_fits [] words (walk_from nothing_held) walked_well tt in
        defaults_fit s.rules (settled s.rules end).rows all filled_well (settled_fits end (none_first settling (or_else filling checking) later) before)

  -- ---- the value of the option

  head_passes : (values : List Text) → AllPass values → IfSome (slice_get values 0) P
  head_passes [] pass = tt
  head_passes (v ∷ vs) pass = pass.0

  first_passes : (rows : List Row) → AllFit rows → IfSome (first_of name rows) P
  first_passes [] fit = tt
  first_passes (r ∷ rs) fit = by (bytes_eq r.id name) refl (first_passes rs fit.1)
    where
      by : (t : Bool) → bytes_eq r.id name ≡ t → IfSome (first_of name rs) P
          → IfSome (option_and_then (λ (x : Row). slice_get x.values 0) (cond t (Some r) (find (λ (x : Row). bytes_eq x.id name) rs))) P
      by true mine others = head_passes r.values (fit.0 mine)
      by false mine others = others

  -- ---- the command that was met

  abbrev pub AllTest : List Shape → Type 0
  AllTest subs = AllByRecursion (λ (s : Shape). AllByRecursion Tests s.rules) subs

  found_passes : (p : Shape → Bool) (subs : List Shape) (words : List Text) (met : Text × List Row) → AllTest subs
      → option_map_or (λ s. level_fault s [] nothing_held words false []) (find p subs) [] ≡ [] → option_map (λ s. rows_at s words) (find p subs) ≡ Some met → IfSome (first_of name met.1) P
  found_passes p [] words met tests none is = absurd cc
  found_passes p (s ∷ subs) words met tests none is = by (p s) (found_passes p subs words met tests.1) none is
    where
      by : (t : Bool)
          → (option_map_or (λ s. level_fault s [] nothing_held words false []) (find p subs) [] ≡ [] → option_map (λ s. rows_at s words) (find p subs) ≡ Some met → IfSome (first_of name met.1) P)
          → option_map_or (λ s. level_fault s [] nothing_held words false []) (cond t (Some s) (find p subs)) [] ≡ []
          → option_map (λ s. rows_at s words) (cond t (Some s) (find p subs)) ≡ Some met → IfSome (first_of name met.1) P
      by true others none is =
          let same : rows_at s words ≡ met = cc in
          subst (λ (m : Text × List Row). IfSome (first_of name m.1) P) same (first_passes (rows_after s.rules [] words) (level_fits s tests.0 words false [] none))
      by false others none is = others none is

  entered_passes : (a : App) (stop : Option (Text × List Text)) (met : Text × List Row) → AllTest a.subs → entered_fault a stop ≡ [] → entered a stop ≡ Some met → IfSome (first_of name met.1) P
  entered_passes a None met tests none is = absurd cc
  entered_passes a (Some p) met tests none is = found_passes (λ s. answers_to p.0 (label_of s)) a.subs p.1 met tests none is

  -- The value that the words have for the option of the command that they name has passed the option's test.
  pub passed : (a : App) (words : List Text) (met : Text × List Row) → AllTest (built a).subs → fault_of a words ≡ [] → subcommand_of a words ≡ Some met → IfSome (first_of name met.1) P
  passed a words met tests none is =
      let b = built a in
      let given = argument_words a words in
      let stop = (walk b.top.rules (names_of b) nothing_held given).stopped in
      let end = (walk b.top.rules (names_of b) nothing_held given).held in
      let walking = walk_fault b.top (names_of b) (walk_from nothing_held) given in
      let settling = settle_fault b.top.rules b.top.args_override_self end in
      let filling = defaults_fault (settled b.top.rules end).rows b.top.rules in
      let checking = check_fault b.top (finished b.top.rules end) (is_some (entered b stop)) in
      let behind = or_else settling (or_else filling checking) in
      entered_passes b stop met tests (none_first (entered_fault b stop) behind (none_second walking (or_else (entered_fault b stop) behind) none)) is
