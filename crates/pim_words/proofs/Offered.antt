-- What the answer of `clap` says of the words.
use Rattle.pim_words.proofs.Words.{◌≡◌, ◌∙◌, ◌≤◌, ◌<◌, inl, inr, ℕ, suc, Bool, true, false, not, cond, List, [], ◌∷◌, ◌++◌}
use Rattle.pim_words.proofs.Words.{length, Option, None, Some, refl, sym, ap, subst, option_map, Result, Ok, Err, MatchResult}
use Rattle.pim_words.proofs.Words.{IfOk, find, IfSome, IsSomeAnd, Bor, AllByRecursion, App, Row, Text, built, fault_of}
use Rattle.pim_words.proofs.Words.{subcommand_of, answers_to, stop_after, Shape, argument_words, entered, label_of, names_of}
use Rattle.pim_words.proofs.Words.{rows_at, length-map, both, AddressFamily, AnyAddress, CommandFault, Captures, More}
use Rattle.pim_words.proofs.Words.{CommandKind, Check, Build, Replay, Trace, Audit, Same, Mirror, Emit, Change, Port, CommandPlan, V4}
use Rattle.pim_words.proofs.Words.{V6, Session, Task, IsEarly, AreLabelledAfter, has_name, is_fresh, AreFurther, AreNames, HasGrace}
use Rattle.pim_words.proofs.Words.{HasCause, IsBounded, IsLimited, IsWritable, IsInRange, IsPlanInRange, IsTaskOf, IsPlanOfTask}
use Rattle.pim_words.proofs.Words.{IsPlanOf, Plans, port_words, AreCaptures, ArePorts, IsTask, IsWriting, IsGiven, IsOffered}
use Rattle.pim_words.proofs.Words.{IsPlanFor, SameAuditing, SameCaptures, SameTask, SameTracing, SameWriting, port_seen}
use Rattle.clap.proofs.OnLiterals.{clap_on_literals}
use Rattle.pim_addr.specs.declared.family.AddressFamily.TheVariants.{Ipv4, Ipv6}
use Rattle.pim_words.specs.declared.task.Auditing.{Auditing}
use Rattle.pim_words.specs.declared.task.Tracing.{Tracing}
use Rattle.pim_words.specs.declared.task.Task.TheVariants as task
use Rattle.pim_words.specs.declared.task.Writing.{Writing}
use Rattle.pim_words.specs.CommandLine.{pimtree}
use Rattle.pim_words.specs.Given.{IsKnown, words_of}
use Rattle.pim_lines.specs.PortNames.{is_port_name}
use Rattle.pim_words.proofs.Further.{below_ports}
use Rattle.pim_words.proofs.Numbers.{has_numbers}

-- ---- the command line

pub whole : IsOffered pimtree
unfolding clap_on_literals
whole = record {
  required = refl;
  simple = refl;
  free = refl;
  known = (
    inr (Check, refl),
    (inr (Build, refl), (inr (Replay, refl), (inr (Trace, refl), (inr (Audit, refl), (inr (Same, refl), (inr (Mirror, refl), (inr (Emit, refl), (inr (Change, refl), (inl refl, tt))))))))),
  );
  limit = refl;
  after = refl;
  grace = refl;
  holdtime = refl;
  budget = refl;
}

-- ---- the command that was met is one of those

module _ (P : Text → Type 0) where
  found_named : (p : Shape → Bool) (subs : List Shape) (words : List Text) (met : Text × List Row) → AllByRecursion (λ (s : Shape). P s.name) subs
      → option_map (λ s. rows_at s words) (find p subs) ≡ Some met → P met.0
  found_named p [] words met named found = absurd cc
  found_named p (s ∷ subs) words met named found = at (p s) (found_named p subs words met named.1) found
    where
      at : (t : Bool) → (option_map (λ s. rows_at s words) (find p subs) ≡ Some met → P met.0) → option_map (λ s. rows_at s words) (cond t (Some s) (find p subs)) ≡ Some met → P met.0
      at true others found = let same : rows_at s words ≡ met = cc in subst P (ap (λ q. q.0) same) named.0
      at false others found = others found

  entered_named : (a : App) (stop : Option (Text × List Text)) (met : Text × List Row) → AllByRecursion (λ (s : Shape). P s.name) a.subs → entered a stop ≡ Some met → P met.0
  entered_named a None met named found = absurd cc
  entered_named a (Some stop) met named found = found_named (λ s. answers_to stop.0 (label_of s)) a.subs stop.1 met named found

  met_named : (a : App) (words : List Text) (met : Text × List Row) → AllByRecursion (λ (s : Shape). P s.name) (built a).subs → subcommand_of a words ≡ Some met → P met.0
  met_named a words met named found = entered_named (built a) (stop_after (built a).top.rules (names_of (built a)) (argument_words a words)) met named found

pub given : (a : App) (words : List Text) (met : Text × List Row) → IsOffered a → fault_of a words ≡ [] → subcommand_of a words ≡ Some met → IsGiven met
given a words met offered none found = (met_named IsKnown a words met offered.known found, has_numbers a offered words met none found)

-- ---- the numbers of a plan are in their ranges

-- the names that words give are ones that ports may have
may_have : (earlier : List (Option (Bor Text))) (name : Option (Bor Text)) → is_fresh earlier name ≡ true → IfSome name (λ text. is_port_name text.now ≡ true)
may_have earlier None fresh = tt
may_have earlier (Some text) fresh = (both (is_port_name text.now) (not (has_name earlier text.now)) fresh).0

names_after : (command : CommandKind) (earlier : List (Option (Bor Text))) (words : List Text) (ports : List (Port AnyAddress)) (names : List (Option (Bor Text))) → AreLabelledAfter command earlier words ports names
    → (length ports ≡ length words) × (length names ≡ length ports) × AllByRecursion (λ name. IfSome name (λ text. is_port_name text.now ≡ true)) names
names_after command earlier [] [] [] are = (refl, refl, tt)
names_after command earlier (word ∷ words) (port ∷ ports) (name ∷ names) are =
    let others = names_after command (earlier ++ name ∷ []) words ports names are.1 in
    (ap suc others.0, ap suc others.1, (may_have earlier name are.0.fresh, others.2))
names_after command earlier words ports names are = absurd are

further_of : (command : CommandKind) (rows : List Row) (captures : Captures AnyAddress) (names : List (Option (Bor Text))) → ArePorts command rows captures.ports.items captures.more.items names → AreFurther captures
further_of command rows captures names are =
    below_ports are.links.is_any (words_of rows) (length captures.ports.items) captures.more.items are.further
    (names_after command [] (port_words are.links.is_any (words_of rows)) captures.ports.items names are.labelled).0

written_in_range : (command : CommandKind) (rows : List Row) (captures : Captures AnyAddress) (writing : Writing AnyAddress) → AreCaptures command rows captures × IsWriting rows writing
    → IsBounded captures × IsLimited captures × IsWritable writing × AreFurther captures
written_in_range command rows captures writing (are, is) =
    ((are.run.after.most, are.run.early), (are.run.limit.least, are.run.limit.most), (is.holdtime.least, is.budget.least, is.budget.most), further_of command rows captures are.names are.ports)

task_in_range : (kind : CommandKind) (rows : List Row) (asked : Task AnyAddress) → IsTask kind rows asked → IsInRange asked
task_in_range Check rows (task.Check source destination) is = tt
task_in_range Check rows (task.CheckPartial source destination) is = tt
task_in_range Build rows (task.Build source destination) is = tt
task_in_range Replay rows (task.Replay captures) is =
    ((is.1.run.after.most, is.1.run.early), (is.1.run.limit.least, is.1.run.limit.most), further_of Replay rows captures is.1.names is.1.ports)
task_in_range Trace rows (task.Trace captures tracing) is =
    let names = names_after Trace [] (port_words is.1.ports.links.is_any (words_of rows)) captures.ports.items tracing.names.items is.1.ports.labelled in (
      (is.1.run.after.most, is.1.run.early),
      (is.1.run.limit.least, is.1.run.limit.most),
      (names.1, names.2),
      further_of Trace rows captures tracing.names.items is.1.ports,
    )
task_in_range Audit rows (task.Audit captures auditing tracing) is =
    let names = names_after Audit [] (port_words is.1.ports.links.is_any (words_of rows)) captures.ports.items tracing.names.items is.1.ports.labelled in (
      (is.1.run.after.most, is.1.run.early),
      (is.1.run.limit.least, is.1.run.limit.most),
      is.2.grace.most,
      (names.1, names.2),
      further_of Audit rows captures tracing.names.items is.1.ports,
    )
task_in_range Same rows (task.Same captures writing) is = written_in_range Same rows captures writing (is.0.1, is.1)
task_in_range Mirror rows (task.Mirror captures writing) is = written_in_range Mirror rows captures writing (is.0.1, is.1)
task_in_range Emit rows (task.Emit captures writing) is = written_in_range Emit rows captures writing (is.0.1, is.1)
task_in_range Change rows (task.Change captures writing) is = written_in_range Change rows captures writing (is.0.1, is.1)
task_in_range kind rows other is = absurd is

module _ {A : Type 0} (family : AddressFamily) (bytes_of : A → List ℕ) where
  same_bounded : (typed : Captures A) (asked : Captures AnyAddress) → IsBounded asked → SameCaptures family bytes_of typed asked → IsBounded typed
  same_bounded typed asked is same = (subst (λ (n : ℕ). n ≤ 1000000000) (sym same.after) is.0, subst IsEarly (sym same.at) is.1)

  same_limited : (typed : Captures A) (asked : Captures AnyAddress) → IsLimited asked → SameCaptures family bytes_of typed asked → IsLimited typed
  same_limited typed asked is same = (subst (λ (n : ℕ). 1 ≤ n) (sym same.limit) is.0, subst (λ (n : ℕ). n ≤ 100000) (sym same.limit) is.1)

  same_writable : (typed : Writing A) (asked : Writing AnyAddress) → IsWritable asked → SameWriting family bytes_of typed asked → IsWritable typed
  same_writable typed asked is same = (
    subst (λ (n : ℕ). 99 ≤ n) (sym same.holdtime) is.0,
    subst (λ (n : ℕ). 70 ≤ n) (sym same.budget) is.1,
    subst (λ (n : ℕ). n ≤ 65000) (sym same.budget) is.2,
  )

  same_grace : (typed : Auditing A) (asked : Auditing AnyAddress) → HasGrace asked → SameAuditing family bytes_of typed asked → HasGrace typed
  same_grace typed asked is same = subst (λ (n : ℕ). n ≤ 1000000000) (sym same.grace) is

  same_names : (typed : Captures A) (asked : Captures AnyAddress) (how : Tracing A) (tracing : Tracing AnyAddress) → AreNames asked tracing → SameCaptures family bytes_of typed asked → SameTracing family bytes_of how tracing → AreNames typed how
  same_names typed asked how tracing are same shown = (
    ap length shown.names ∙ are.0 ∙ sym (ap length same.ports) ∙ length-map typed.ports.items (port_seen family bytes_of),
    subst (λ l. AllByRecursion (λ name. IfSome name (λ text. is_port_name text.now ≡ true)) l) (sym shown.names) are.1,
  )

  same_further : (typed : Captures A) (asked : Captures AnyAddress) → AreFurther asked → SameCaptures family bytes_of typed asked → AreFurther typed
  same_further typed asked are same =
      let count : length asked.ports.items ≡ length typed.ports.items = sym (ap length same.ports) ∙ length-map typed.ports.items (port_seen family bytes_of) in (
        subst (λ (l : List More). length l ≤ 4096) (sym same.more) are.0,
        subst (λ (n : ℕ). AllByRecursion (λ (one : More). one.port < n) typed.more.items) count
            (subst (λ (l : List More). AllByRecursion (λ (one : More). one.port < length asked.ports.items) l) (sym same.more) are.1),
      )

  same_in_range : (typed : Task A) (asked : Task AnyAddress) → IsInRange asked → SameTask family bytes_of typed asked → IsInRange typed
  same_in_range (task.Check a b) asked is same = tt
  same_in_range (task.CheckPartial a b) asked is same = tt
  same_in_range (task.Build a b) asked is same = tt
  same_in_range (task.Replay typed) (task.Replay captures) is same = (same_bounded typed captures is.0 same, same_limited typed captures is.1 same, same_further typed captures is.2 same)
  same_in_range (task.Trace typed how) (task.Trace captures tracing) is same =
      (same_bounded typed captures is.0 same.0, same_limited typed captures is.1 same.0, same_names typed captures how tracing is.2 same.0 same.1, same_further typed captures is.3 same.0)
  same_in_range (task.Audit typed whom how) (task.Audit captures auditing tracing) is same = (
    same_bounded typed captures is.0 same.0,
    same_limited typed captures is.1 same.0,
    same_grace whom auditing is.2 same.1,
    same_names typed captures how tracing is.3 same.0 same.2,
    same_further typed captures is.4 same.0,
  )
  same_in_range (task.Same typed how) (task.Same captures writing) is same =
      (same_bounded typed captures is.0 same.0, same_limited typed captures is.1 same.0, same_writable how writing is.2 same.1, same_further typed captures is.3 same.0)
  same_in_range (task.Mirror typed how) (task.Mirror captures writing) is same =
      (same_bounded typed captures is.0 same.0, same_limited typed captures is.1 same.0, same_writable how writing is.2 same.1, same_further typed captures is.3 same.0)
  same_in_range (task.Emit typed how) (task.Emit captures writing) is same =
      (same_bounded typed captures is.0 same.0, same_limited typed captures is.1 same.0, same_writable how writing is.2 same.1, same_further typed captures is.3 same.0)
  same_in_range (task.Change typed how) (task.Change captures writing) is same =
      (same_bounded typed captures is.0 same.0, same_limited typed captures is.1 same.0, same_writable how writing is.2 same.1, same_further typed captures is.3 same.0)
  same_in_range typed asked is same = absurd same

plan_in_range : (plan : CommandPlan) (asked : Task AnyAddress) → IsInRange asked → IsPlanFor plan asked → IsPlanInRange plan
plan_in_range (V4 typed) asked is same = same_in_range Ipv4 (λ address. address) typed asked is same
plan_in_range (V6 typed) asked is same = same_in_range Ipv6 (λ address. address) typed asked is same
plan_in_range Session asked is same = tt

of_task_in_range : (met : Text × List Row) (plan : CommandPlan) → (asked : Task AnyAddress) × IsTaskOf met asked × IsPlanOfTask asked plan → IsPlanInRange plan
of_task_in_range met plan (asked, (kind, name, read), made) = plan_in_range plan asked (task_in_range kind met.1 asked read) made.1.1

met_in_range : (met : Option (Text × List Row)) (plan : CommandPlan) → IsSomeAnd met (λ m. IsPlanOf m plan) → IsPlanInRange plan
met_in_range None plan is = absurd is
met_in_range (Some m) Session is = tt
met_in_range (Some m) (V4 typed) is = of_task_in_range m (V4 typed) is
met_in_range (Some m) (V6 typed) is = of_task_in_range m (V6 typed) is

pub planned_in_range : (app : App) (words : List Text) (r : Result CommandPlan CommandFault) → MatchResult r (Plans app words) (HasCause app words) → IfOk r IsPlanInRange
planned_in_range app words (Ok plan) is = met_in_range (subcommand_of app words) plan is.1
planned_in_range app words (Err fault) is = tt
