-- Ports that get the links of their numbers.
use Rattle.pim_words.proofs.Words.{◌≡◌, ◌∙◌, sym, ap, subst, refl, ℕ, ◌+◌, List, [], ◌∷◌, ◌++◌, Option, Bor, Row, Text}
use Rattle.pim_words.proofs.Words.{AnyAddress, Links, CommandKind, More, Port, AreLabelled, AreLabelledAfter}
use Rattle.pim_words.proofs.Words.{AreChosenLinks, AreLinkedFrom, AreMore, port_words, ArePorts, with_links}
use Rattle.pim_words.specs.Given.{words_of}

linked_from : (links : Links) (number : ℕ) (ports : List (Port AnyAddress)) → AreLinkedFrom links number (with_links links number ports)
linked_from links number [] = tt
linked_from links number (port ∷ ports) = (refl, linked_from links (number + 1) ports)

module _ (command : CommandKind) where
  labelled_with : (earlier : List (Option (Bor Text))) (links : Links) (number : ℕ) (words : List Text) (ports : List (Port AnyAddress)) (names : List (Option (Bor Text)))
      → AreLabelledAfter command earlier words ports names → AreLabelledAfter command earlier words (with_links links number ports) names
  labelled_with earlier links number [] [] [] are = are
  labelled_with earlier links number (word ∷ words) (port ∷ ports) (name ∷ names) are = (
    record {
      rest = are.0.rest;
      cut = are.0.cut;
      fresh = are.0.fresh;
      address_text = are.0.address_text;
      parts = are.0.parts;
      address = are.0.address;
      whole = are.0.whole;
    },
    labelled_with (earlier ++ name ∷ []) links (number + 1) words ports names are.1,
  )
  labelled_with earlier links number words ports names are = absurd are

  pub linked_ports : (rows : List Row) (links : Links) (ports seen made : List (Port AnyAddress)) (more : List More) (names : List (Option (Bor Text))) → seen ≡ ports → AreChosenLinks command rows links
      → AreLabelled command (port_words links.is_any (words_of rows)) ports names × AreMore links.is_any (words_of rows) more → made ≡ with_links links 0 seen → ArePorts command rows made more names
  linked_ports rows links ports seen made more names same chosen labelled is =
      subst (λ (l : List (Port AnyAddress)). ArePorts command rows l more names) (sym (is ∙ ap (with_links links 0) same)) (record {
        links = links;
        chosen = chosen;
        labelled = labelled_with [] links 0 (port_words links.is_any (words_of rows)) ports names labelled.0;
        linked = linked_from links 0 ports;
        further = labelled.1;
      })
