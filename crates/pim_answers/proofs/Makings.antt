-- Messages that are made, and what is told of them.
use Rattle.pim_answers.proofs.Words.{◌≡◌, ℕ, Bool, true, false, List, [], ◌∷◌, codes, Option, None, Some, Result, Ok, Err, IfOk}
use Rattle.pim_answers.proofs.Words.{option_map, not, is_some, Bor, refl, sym, ap, subst, inl, inr, AppendsAll, AddressFamily}
use Rattle.pim_answers.proofs.Words.{RouteTable, rp_of, GroupForm, group_too_big, Comparison, IsDemandedBy, IsTooBig, RouterState}
use Rattle.pim_answers.proofs.Words.{Wrote, UnlessIf, UnlessAny, SaysMade, SaysSame, AreCompared, AnswersMessages, AnswersFound}
use Rattle.pim_answers.proofs.Words.{SaysOf, IfUsable, has_other_family, writer_words, writer_of, name_words, address_bytes}
use Rattle.pim_answers.proofs.Words.{made_text, same_text, SaysBig, IsFirst, has_same_tables, fault_words, form_seen, IsFound}
use Rattle.pim_answers.proofs.Words.{Kept, is_usable, family_words, fault_line}
use Rattle.pim_addr.specs.declared.family.AddressFamily.TheVariants.{Ipv4, Ipv6}
use Rattle.pim_form.specs.Messages.{Writing as Writer}
use Rattle.pim_form.specs.Toward.{via_of, is_toward}
use Rattle.pim_form.specs.declared.fault.FormFault.{FormFault}
use Rattle.pim_form.specs.declared.fault.FormFault.TheVariants.{TooBig, Memory, Tables}
use Rattle.pim_request.specs.declared.command.AnyWriting.{AnyWriting}
use Rattle.pim_answers.specs.declared.fault.AnswerFault.{AnswerFault}
use Rattle.pim_answers.specs.declared.kept.FoundForm.{FoundForm}
use Rattle.pim_answers.specs.declared.kept.FoundForm.TheVariants.{Unknown, Other, Form}
use Rattle.pim_answers.specs.declared.kept.KeptForm.{KeptForm}
use Rattle.pim_addr.specs.Families.{is_same}

-- messages that were made, or why they weren't
pub made_told : {F A N : Type 0} (family : AddressFamily) (bytes_of : A → List ℕ) (AreMade : List (List ℕ) → Type 0) (IsBig : Option (List ℕ) → Type 0) (made : Result (List (List ℕ)) (FormFault F A N))
    → IfOk made AreMade → IsBig (option_map bytes_of (group_too_big made)) → (made ≡ Err Tables → ⊥) → SaysMade family AreMade IsBig (made_text family bytes_of made)
made_told family bytes_of AreMade IsBig (Ok messages) are big never = inl (inl (messages, are, refl), big)
made_told family bytes_of AreMade IsBig (Err (TooBig group)) are big never = inr (bytes_of group, big, refl)
made_told family bytes_of AreMade IsBig (Err Memory) are big never = inl (inr refl, big)
made_told family bytes_of AreMade IsBig (Err Tables) are big never = absurd (never refl)

-- messages that were compared, or why they weren't
pub compared_told : {F A N : Type 0} (family : AddressFamily) (bytes_of : A → List ℕ) (writer : Writer) (router : RouterState) (kept : Kept) (compared : Result Bool (FormFault F A N))
    → IfOk compared (AreCompared family writer kept.form router) → SaysBig family bytes_of writer kept.form router compared → (compared ≡ Err Tables → ⊥) → SaysSame family writer router kept (same_text family bytes_of compared)
compared_told family bytes_of writer router kept (Ok same) are big never = inl (inl (same, are, refl), big)
compared_told family bytes_of writer router kept (Err (TooBig group)) are big never = inr (bytes_of group, big, refl)
compared_told family bytes_of writer router kept (Err Memory) are big never = inl (inr refl, big)
compared_told family bytes_of writer router kept (Err Tables) are big never = absurd (never refl)

-- tests that let a command pass
pub unless_if : (test : Bool) (words : List ℕ) (Says : List ℕ → Type 0) (text : List ℕ) → test ≡ false → Says text → UnlessIf test words Says text
unless_if test words Says text fails says = subst (λ (b : Bool). UnlessIf b words Says text) (sym fails) says

pub refused_by : (test : Bool) (words : List ℕ) (Says : List ℕ → Type 0) (text : List ℕ) → test ≡ true → text ≡ fault_line words → UnlessIf test words Says text
refused_by test words Says text holds is = subst (λ (b : Bool). UnlessIf b words Says text) (sym holds) is

pub unless_any : (faults : List (List ℕ)) (Says : List ℕ → Type 0) (text : List ℕ) → faults ≡ [] → Says text → UnlessAny faults Says text
unless_any faults Says text none says = subst (λ (l : List (List ℕ)). UnlessAny l Says text) (sym none) says

-- what can't be compared, or can
module _ {A E : Type 0} (family : AddressFamily) (router : RouterState) (upstream : List ℕ) (Says : Kept → List ℕ → Type 0) (kept : Kept) (old new : Option (List ℕ)) (r : Result A E)
    (routes : RouteTable) (neighbour : List ℕ) (table : routes ≡ router.routes) (same : neighbour ≡ upstream) where
  usable_here : (b : Bool) → is_usable family routes neighbour kept ≡ b → not (is_usable family router.routes upstream kept) ≡ not b
  usable_here b is = ap not (subst (λ (t : RouteTable). is_usable family t upstream kept ≡ b) table (subst (λ (n : List ℕ). is_usable family routes n kept ≡ b) same is))

  pub tables_told : (words : List ℕ) → is_usable family routes neighbour kept ≡ false → words ≡ codes "tables" → AppendsAll old new r (fault_line words) → Wrote (IfUsable family router upstream Says kept) old new r
  tables_told words is tables written = record {
    text = fault_line words;
    says = refused_by (not (is_usable family router.routes upstream kept)) (codes "tables") (Says kept) (fault_line words) (usable_here false is) (ap fault_line tables);
    written = written;
  }

  pub usable_told : (text : List ℕ) → is_usable family routes neighbour kept ≡ true → Says kept text → AppendsAll old new r text → Wrote (IfUsable family router upstream Says kept) old new r
  usable_told text is says written = record {
    text = text;
    says = unless_if (not (is_usable family router.routes upstream kept)) (codes "tables") (Says kept) text (usable_here true is) says;
    written = written;
  }

-- the same neighbour by the same table
pub toward_here : (family : AddressFamily) (form : List GroupForm) (routes table : RouteTable) (neighbour upstream : List ℕ) → routes ≡ table → neighbour ≡ upstream
    → is_toward (rp_of family routes) (via_of family routes) neighbour form ≡ true → is_toward (rp_of family table) (via_of family table) upstream form ≡ true
toward_here family form routes table neighbour upstream r n is =
    subst (λ (t : RouteTable). is_toward (rp_of family t) (via_of family t) upstream form ≡ true) r
    (subst (λ (a : List ℕ). is_toward (rp_of family routes) (via_of family routes) a form ≡ true) n is)

-- `messages` by a writer without a fault
pub messages_told : {A E : Type 0} (family : AddressFamily) (writing : AnyWriting) (writer : Writer) (router : RouterState) (old new : Option (List ℕ)) (r : Result A E) → has_other_family family writing ≡ false
    → writer_words family writing ≡ [] → writer ≡ writer_of writing → (text : List ℕ) → SaysMade family (IsDemandedBy family writer router) (IsTooBig family writer router) text → AppendsAll old new r text
    → Wrote (AnswersMessages family writing router) old new r
messages_told family writing writer router old new r same none is text tells written = record {
  text = text;
  says = unless_if (has_other_family family writing) family_words _ text same
      (unless_any (writer_words family writing) (SaysMade family (IsDemandedBy family (writer_of writing) router) (IsTooBig family (writer_of writing) router)) text none
      (subst (λ (w : Writer). SaysMade family (IsDemandedBy family w router) (IsTooBig family w router) text) is tells));
  written = written;
}

-- ---- what is found under a name

-- the family is its own
pub same_family : (family : AddressFamily) → is_same family family ≡ true
same_family Ipv4 = refl
same_family Ipv6 = refl

-- a form of the router's family can be compared where the tables are the same
pub usable_is : {F A N : Type 0} (family : AddressFamily) (bytes_of : A → List ℕ) (routes : RouteTable) (upstream name : List ℕ) (kept : KeptForm F A N) (b : Bool) → has_same_tables family bytes_of routes upstream kept ≡ b
    → is_usable family routes upstream (form_seen family bytes_of name kept) ≡ b
usable_is family bytes_of routes upstream name kept b is = rw (same_family family) is

-- a form of the other family can't
pub found_other : {F A N X E : Type 0} (family : AddressFamily) (bytes_of : A → List ℕ) (name : List ℕ) (found : FoundForm F A N) (known : Kept) (router : RouterState) (upstream : List ℕ) (Says : Kept → List ℕ → Type 0)
    (old new : Option (List ℕ)) (r : Result X E) → ((form : Bor (KeptForm F A N)) → found ≡ Form form → ⊥) → IsFound family bytes_of name found (Some known) → AppendsAll old new r (fault_line (codes "tables"))
    → Wrote (IfUsable family router upstream Says known) old new r
found_other family bytes_of name Unknown known router upstream Says old new r never is written = absurd cc
found_other family bytes_of name Other known router upstream Says old new r never (one, same, differs) written =
    let here : known ≡ one = cc in
    let other : is_same family known.family ≡ false = subst (λ (k : Kept). is_same family k.family ≡ false) (sym here) differs in
    let test : not (is_usable family router.routes upstream known) ≡ true = rw other refl in
    record {
      text = fault_line (codes "tables");
      says = refused_by (not (is_usable family router.routes upstream known)) (codes "tables") (Says known) (fault_line (codes "tables")) test refl;
      written = written;
    }
found_other family bytes_of name (Form form) known router upstream Says old new r never is written = absurd (never form refl)

-- a form of the router's family is what is kept
pub found_form : {F A N : Type 0} (family : AddressFamily) (bytes_of : A → List ℕ) (name : List ℕ) (found : FoundForm F A N) (known : Kept) (form : Bor (KeptForm F A N)) → found ≡ Form form → IsFound family bytes_of name found (Some known)
    → form_seen family bytes_of name form.now ≡ known
found_form family bytes_of name found known form is found_is =
    let here : Some known ≡ Some (form_seen family bytes_of name form.now) = subst (λ (f : FoundForm _ _ _). IsFound family bytes_of name f (Some known)) is found_is in
    cc

-- whether something is kept
pub known_none : {F A N : Type 0} (family : AddressFamily) (bytes_of : A → List ℕ) (name : List ℕ) (found : FoundForm F A N) (kept : Option Kept) → found ≡ Unknown → IsFound family bytes_of name found kept → false ≡ is_some kept
known_none family bytes_of name found kept is found_is =
    let none : kept ≡ None = subst (λ (f : FoundForm _ _ _). IsFound family bytes_of name f kept) is found_is in
    sym (ap is_some none)

pub known_some : {F A N : Type 0} (family : AddressFamily) (bytes_of : A → List ℕ) (name : List ℕ) (found : FoundForm F A N) (kept : Option Kept) → (found ≡ Unknown → ⊥) → IsFound family bytes_of name found kept → true ≡ is_some kept
known_some family bytes_of name Unknown kept never is = absurd (never refl)
known_some family bytes_of name Other kept never (known, is, differs) = sym (ap is_some is)
known_some family bytes_of name (Form form) kept never is = sym (ap is_some is)

-- ---- `change` and `same`

module _ {A E : Type 0} (family : AddressFamily) (comparison : Comparison) (router : RouterState) (Says : Writer → Kept → List ℕ → Type 0) (old new : Option (List ℕ)) (r : Result A E) (kept : Option Kept) where
  pub named_other : (words : List ℕ) → has_other_family family comparison.writing ≡ true → words ≡ family_words → AppendsAll old new r (fault_line words) → Wrote (AnswersFound family comparison router (Says (writer_of comparison.writing)) kept) old new r
  named_other words other is written = record {
    text = fault_line words;
    says = refused_by (has_other_family family comparison.writing) family_words (SaysOf family comparison router (Says (writer_of comparison.writing)) kept) (fault_line words) other (ap fault_line is);
    written = written;
  }

  module _ (same : has_other_family family comparison.writing ≡ false) where
    of_family : (text : List ℕ) → SaysOf family comparison router (Says (writer_of comparison.writing)) kept text → AppendsAll old new r text → Wrote (AnswersFound family comparison router (Says (writer_of comparison.writing)) kept) old new r
    of_family text says written = record {
      text = text;
      says = unless_if (has_other_family family comparison.writing) family_words (SaysOf family comparison router (Says (writer_of comparison.writing)) kept) text same says;
      written = written;
    }

    pub named_unknown : (words : List ℕ) → false ≡ is_some kept → words ≡ name_words comparison.name.now → AppendsAll old new r (fault_line words) → Wrote (AnswersFound family comparison router (Says (writer_of comparison.writing)) kept) old new r
    named_unknown words none is written = of_family (fault_line words) (unknown kept none) written
      where
        unknown : (k : Option Kept) → false ≡ is_some k → SaysOf family comparison router (Says (writer_of comparison.writing)) k (fault_line words)
        unknown None e = ap fault_line is
        unknown (Some known) e = absurd cc

    pub named_badly : (fault : AnswerFault) → true ≡ is_some kept → IsFirst (writer_words family comparison.writing) fault → AppendsAll old new r (fault_line (fault_words fault))
        → Wrote (AnswersFound family comparison router (Says (writer_of comparison.writing)) kept) old new r
    named_badly fault some first written = of_family (fault_line (fault_words fault)) (badly kept some) written
      where
        refused : (faults : List (List ℕ)) (Tells : List ℕ → Type 0) → IsFirst faults fault → UnlessAny faults Tells (fault_line (fault_words fault))
        refused [] Tells is = absurd is
        refused (one ∷ others) Tells is = ap fault_line is

        badly : (k : Option Kept) → true ≡ is_some k → SaysOf family comparison router (Says (writer_of comparison.writing)) k (fault_line (fault_words fault))
        badly None e = absurd cc
        badly (Some known) e = refused (writer_words family comparison.writing) (IfUsable family router (address_bytes comparison.writing.upstream) (Says (writer_of comparison.writing)) known) first

  pub named_told : (writer : Writer) → has_other_family family comparison.writing ≡ false → true ≡ is_some kept → writer_words family comparison.writing ≡ [] → writer ≡ writer_of comparison.writing
      → ((known : Kept) → kept ≡ Some known → Wrote (IfUsable family router writer.upstream (Says writer) known) old new r) → Wrote (AnswersFound family comparison router (Says (writer_of comparison.writing)) kept) old new r
  named_told writer same some none is tells = by kept refl some
    where
      by : (k : Option Kept) → kept ≡ k → true ≡ is_some k → Wrote (AnswersFound family comparison router (Says (writer_of comparison.writing)) kept) old new r
      by None here e = absurd cc
      by (Some known) here e =
          let reported = tells known here in
          of_family same reported.text
          (subst (λ (k : Option Kept). SaysOf family comparison router (Says (writer_of comparison.writing)) k reported.text) (sym here)
          (unless_any (writer_words family comparison.writing) _ reported.text none
          (subst (λ (w : Writer). IfUsable family router w.upstream (Says w) known reported.text) is reported.says))) reported.written
