-- The ports of words, with their names, and their further files, read one by one.
use Rattle.pim_words.proofs.Words.{◌≡◌, sym, ap, subst, inl, inr, ℕ, ◌+◌, ◌<◌, ◌≤◌, Bool, true, false, List, [], ◌∷◌}
use Rattle.pim_words.proofs.Words.{◌++◌, length, drop, get_or, append_assoc, append-nil, Option, ◌⊎◌, Bor, drop_all}
use Rattle.pim_words.proofs.Words.{drop_more, length-append, Text, AnyAddress, CommandFault, CommandKind, More, Port}
use Rattle.pim_words.proofs.Words.{AreLabelled, AreLabelledAfter, IsFirstWrong, IsLabelled, IsWrongLabelled, AreMore}
use Rattle.pim_words.proofs.Words.{IsMore, IsRightMore, IsWrongMore, is_more, port_words, OrMemory}
use Rattle.pim_words.proofs.Further.{AreSoFar, all_of_them, of_more, of_port, past_more, past_port, ports_with, ports_without, texts}
use Rattle.pim_words.proofs.Orders.{or_memory}

abbrev NameList : Type 0
NameList = List (Option (Bor Text))

module _ (command : CommandKind) (is_any : Bool) where
  -- These ports with these names, and these further files, are those of the words before the ones that are left.
  pub record IsLeft (all left : List Text) (ports : List (Port AnyAddress)) (names : List (Option (Bor Text))) (more : List More) : Type 0 where
    pub goes_on : (later : List (Port AnyAddress)) (others : List (Option (Bor Text))) → AreLabelledAfter command names (port_words is_any left) later others
        → AreLabelled command (port_words is_any all) (ports ++ later) (names ++ others)
    pub further : AreSoFar is_any (length names) all left more
    pub reported : (fault : CommandFault) → IsFirstWrong command is_any names (length more) left fault → IsFirstWrong command is_any [] 0 all fault

  module _ (all left : List Text) (ports : List (Port AnyAddress)) (names : NameList) (more : List More) (word : Text) (is : IsLeft all (word ∷ left) ports names more) where
    abbrev MoreFirst : CommandFault → Type 0
    MoreFirst fault = IsWrongMore (length names) (length more) word fault
        ⊎ (IsRightMore (length names) (length more) word × IsFirstWrong command is_any names (length more + 1) left fault)

    abbrev PortFirst : CommandFault → Type 0
    PortFirst fault = IsWrongLabelled command names word fault
        ⊎ ((port : Port AnyAddress) × (name : Option (Bor Text)) × IsLabelled command names word port name × IsFirstWrong command is_any (names ++ name ∷ []) (length more) left fault)

    step_port : (port : Port AnyAddress) (name : Option (Bor Text)) → is_more is_any word ≡ false → IsLabelled command names word port name → IsLeft all left (ports ++ port ∷ []) (names ++ name ∷ []) more
    step_port port name kind named = record {
      goes_on = λ later others are.
          subst (λ l. AreLabelled command (port_words is_any all) l ((names ++ name ∷ []) ++ others)) (sym (append_assoc ports (port ∷ []) later))
          (subst (λ l. AreLabelled command (port_words is_any all) (ports ++ port ∷ later) l) (sym (append_assoc names (name ∷ []) others))
          (is.goes_on (port ∷ later) (name ∷ others)
          (ports_with (λ l. AreLabelledAfter command names l (port ∷ later) (name ∷ others)) (is_more is_any word) word (port_words is_any left) kind (named, are))));
      further = subst (λ (n : ℕ). AreSoFar is_any n all left more) (sym (length-append names (name ∷ []))) (past_port is_any (length names) all left more word is.further kind);
      reported = λ fault wrong. is.reported fault (of_port (is_more is_any word) (MoreFirst fault) (PortFirst fault) kind (inr (port, name, named, wrong)));
    }

    step_more : (one : More) → is_more is_any word ≡ true → IsMore (length names) word one → length more < 4096 → IsLeft all left ports names (more ++ one ∷ [])
    step_more one kind named room = record {
      goes_on = λ later others are.
          is.goes_on later others (ports_without (λ l. AreLabelledAfter command names l later others) (is_more is_any word) word (port_words is_any left) kind are);
      further = past_more is_any (length names) all left more word one is.further kind named room;
      reported = λ fault wrong.
          is.reported fault (of_more (is_more is_any word) (MoreFirst fault) (PortFirst fault) kind
          (inr (((one, named), room), subst (λ (n : ℕ). IsFirstWrong command is_any names n left fault) (length-append more (one ∷ [])) wrong)));
    }

    wrong_port : (fault : CommandFault) → is_more is_any word ≡ false → IsWrongLabelled command names word fault → IsFirstWrong command is_any [] 0 all fault
    wrong_port fault kind wrong = is.reported fault (of_port (is_more is_any word) (MoreFirst fault) (PortFirst fault) kind (inl wrong))

    wrong_more : (fault : CommandFault) → is_more is_any word ≡ true → IsWrongMore (length names) (length more) word fault → IsFirstWrong command is_any [] 0 all fault
    wrong_more fault kind wrong = is.reported fault (of_more (is_more is_any word) (MoreFirst fault) (PortFirst fault) kind (inl wrong))

  end : (all : List Text) (ports : List (Port AnyAddress)) (names : NameList) (more : List More) → IsLeft all [] ports names more → AreLabelled command (port_words is_any all) ports names × AreMore is_any all more
  end all ports names more is = (
    subst (λ l. AreLabelled command (port_words is_any all) l names) (append-nil ports)
        (subst (λ l. AreLabelled command (port_words is_any all) (ports ++ []) l) (append-nil names) (is.goes_on [] [] tt)),
    all_of_them is_any (length names) all more is.further,
  )

  module _ (words : List (Bor Text)) (i : ℕ) (past : Bor Text) (inside : i < length words) (ports : List (Port AnyAddress)) (names : NameList) (more : List More)
      (is : IsLeft (texts words) (texts (drop i words)) ports names more) where
    abbrev word : Text
    word = (get_or words i past).now

    abbrev left : List Text
    left = texts (drop (i + 1) words)

    here : IsLeft (texts words) (word ∷ left) ports names more
    here = subst (λ l. IsLeft (texts words) l ports names more) (ap texts (drop_more words i past inside)) is

    pub one_more : (port : Port AnyAddress) (name : Option (Bor Text)) (new : List (Port AnyAddress)) (others seen : NameList) → seen ≡ names → is_more is_any word ≡ false → IsLabelled command seen word port name
        → new ≡ ports ++ port ∷ [] → others ≡ names ++ name ∷ [] → IsLeft (texts words) left new others more
    one_more port name new others seen same kind named pushed added =
        subst (λ l. IsLeft (texts words) left l others more) (sym pushed) (subst (λ l. IsLeft (texts words) left (ports ++ port ∷ []) l more) (sym added)
        (step_port (texts words) left ports names more word here port name kind (subst (λ (l : NameList). IsLabelled command l word port name) same named)))

    pub one_further : (new : List More) (one : More) (named_ports count : ℕ) → named_ports ≡ length names → count ≡ length more → is_more is_any word ≡ true → IsMore named_ports word one → count < 4096
        → new ≡ more ++ one ∷ [] → IsLeft (texts words) left ports names new
    one_further new one named_ports count all_names all_more kind named room pushed =
        subst (λ l. IsLeft (texts words) left ports names l) (sym pushed)
        (step_more (texts words) left ports names more word here one kind (subst (λ (n : ℕ). IsMore n word one) all_names named) (subst (λ (n : ℕ). n < 4096) all_more room))

    pub no_port : (seen : NameList) (fault : CommandFault) → seen ≡ names → is_more is_any word ≡ false → IsWrongLabelled command seen word fault → OrMemory (IsFirstWrong command is_any [] 0 (texts words)) fault
    no_port seen fault same kind wrong = or_memory (IsFirstWrong command is_any [] 0 (texts words)) fault
        (wrong_port (texts words) left ports names more word here fault kind (subst (λ (l : NameList). IsWrongLabelled command l word fault) same wrong))

    pub no_further : (fault : CommandFault) (named_ports count : ℕ) → named_ports ≡ length names → count ≡ length more → is_more is_any word ≡ true → IsWrongMore named_ports count word fault
        → OrMemory (IsFirstWrong command is_any [] 0 (texts words)) fault
    no_further fault named_ports count all_names all_more kind wrong =
        or_memory (IsFirstWrong command is_any [] 0 (texts words)) fault
        (wrong_more (texts words) left ports names more word here fault kind
        (subst (λ (n : ℕ). IsWrongMore (length names) n word fault) all_more (subst (λ (n : ℕ). IsWrongMore n count word fault) all_names wrong)))

  pub all_read : (words : List (Bor Text)) (i : ℕ) (ports : List (Port AnyAddress)) (names : NameList) (more : List More) → length words ≤ i → IsLeft (texts words) (texts (drop i words)) ports names more
      → AreLabelled command (port_words is_any (texts words)) ports names × AreMore is_any (texts words) more
  all_read words i ports names more past is = end (texts words) ports names more (subst (λ l. IsLeft (texts words) (texts l) ports names more) (drop_all i words past) is)
