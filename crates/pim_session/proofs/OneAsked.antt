-- What an item asks for is one thing.
use Rattle.pim_session.proofs.Words.{◌≡◌, ◌∙◌, sym, ap, subst, refl, inl, inr, ℕ, Bool, true, false, List, ◌++◌, Result}
use Rattle.pim_session.proofs.Words.{Ok, Err, codes, decimal, length, arith, false≢true, Stated, IsRead, IsWrongLine}
use Rattle.pim_session.proofs.Words.{WordsFault, SameCommand, SameFault, OneCommand, OneWordsFault, NoFaultIfStated}
use Rattle.pim_session.proofs.Words.{OneSender, OneSenderFault, NoSenderFaultIfStated, Item, a_line, a_long_line}
use Rattle.pim_session.proofs.Words.{a_text, Text, bytes_of_lines, has_long_line, FromText, Request, Command, From}
use Rattle.pim_session.proofs.Words.{wrong_words, long_line_words, IsWrongIn, IsBadText, IsTextFault, IsFrom}
use Rattle.pim_session.proofs.Words.{RequestsLine, RequestsText, RequestsTextOf, Requests}
use Rattle.pim_text.specs.OneReading.{OneRead, OneWrongLine, NoWrongLineIfStated}
use Rattle.pim_request.specs.declared.command.WordsFault.TheVariants.{Word, Address, Hex}

-- ---- the same request

-- Both are the same text, from the same sender.
pub record SameFrom (one other : FromText) : Type 0 where
  pub sender : one.sender ≡ other.sender
  pub stated : one.stated ≡ other.stated
  pub text : one.text.now ≡ other.text.now

-- Both are the same request.
abbrev pub SameRequest : Request → Request → Type 0
SameRequest (Command one) (Command other) = SameCommand one other
SameRequest (From one) (From other) = SameFrom one other
SameRequest one other = ⊥

-- Both are the same request, or faults of the same words.
abbrev pub SameAsked : Result Request (List ℕ) → Result Request (List ℕ) → Type 0
SameAsked (Ok one) (Ok other) = SameRequest one other
SameAsked (Err one) (Err other) = one ≡ other
SameAsked one other = ⊥

-- All that a lower crate says of lines and texts.
pub record Laws : Type 0 where
  pub command : OneCommand
  pub words : OneWordsFault
  pub no_words : NoFaultIfStated
  pub sender : OneSender
  pub sender_fault : OneSenderFault
  pub no_sender_fault : NoSenderFaultIfStated
  pub read : OneRead
  pub wrong_line : OneWrongLine
  pub no_wrong_line : NoWrongLineIfStated

same_words : (one other : WordsFault) → SameFault one other → wrong_words one ≡ wrong_words other
same_words (Word one) (Word other) same = ap (λ (w : List ℕ). codes "word " ++ w) same
same_words (Address one) (Address other) same = ap (λ (w : List ℕ). codes "address " ++ w) same
same_words Hex Hex same = refl
same_words one other same = absurd same

module _ (laws : Laws) where
  -- ---- lines

  of_line : (line : List ℕ) (one other : Result Request (List ℕ)) → RequestsLine line one → RequestsLine line other → SameAsked one other
  of_line line (Ok (Command one)) (Ok (Command other)) is too = laws.command line one other is too
  of_line line (Ok (Command one)) (Ok (From other)) is too = absurd too
  of_line line (Ok (Command one)) (Err words) is (fault, has, so) = absurd (laws.no_words line one fault is has)
  of_line line (Ok (From one)) other is too = absurd is
  of_line line (Err words) (Ok (Command other)) (fault, has, so) too = absurd (laws.no_words line other fault too has)
  of_line line (Err words) (Ok (From other)) is too = absurd too
  of_line line (Err one) (Err other) (fault, has, so) (f, too, is) = so ∙ (same_words fault f (laws.words line fault f has too) ∙ sym is)

  -- ---- the wrong line of a text

  wrong_and_read : (bytes : List ℕ) (number : ℕ) (stated : Stated) → IsWrongLine bytes number → IsRead bytes stated → ⊥
  wrong_and_read bytes number stated wrong read = laws.no_wrong_line bytes read.value number read.states wrong

  one_wrong : (bytes : List ℕ) (one other : ℕ) (is_sent : Bool) → IsWrongIn bytes one is_sent → IsWrongIn bytes other is_sent → one ≡ other
  one_wrong bytes one other is_sent (inl is) (inl too) = laws.wrong_line bytes one other is too
  one_wrong bytes one other is_sent (inl is) (inr (lacks, (stated, read), last)) = absurd (wrong_and_read bytes one stated is read)
  one_wrong bytes one other is_sent (inr (lacks, (stated, read), last)) (inl too) = absurd (wrong_and_read bytes other stated too read)
  one_wrong bytes one other is_sent (inr (lacks, read, last)) (inr (never, too, so)) = last ∙ sym so

  one_bad : (bytes : List ℕ) (is_sent : Bool) (one other : List ℕ) → IsBadText bytes is_sent one → IsBadText bytes is_sent other → one ≡ other
  one_bad bytes is_sent one other (inl is) (inl too) = is.1 ∙ sym too.1
  one_bad bytes is_sent one other (inl is) (inr too) = absurd (omega (arith, is.0, too.0))
  one_bad bytes is_sent one other (inr is) (inl too) = absurd (omega (arith, is.0, too.0))
  one_bad bytes is_sent one other (inr (short, (number, wrong, is))) (inr (small, (n, w, so))) =
      is ∙ (ap (λ (x : ℕ). codes "text line " ++ decimal x) (one_wrong bytes number n is_sent wrong w) ∙ sym so)

  -- ---- texts

  one_fault : (text : Text) (one other : List ℕ) → IsTextFault text one → IsTextFault text other → one ≡ other
  one_fault text one other (inl (fault, has, is)) (inl (f, too, so)) = is ∙ (same_words fault f (laws.sender_fault text.head fault f has too) ∙ sym so)
  one_fault text one other (inl (fault, has, is)) (inr (sender, states, bad)) = absurd (laws.no_sender_fault text.head sender fault states has)
  one_fault text one other (inr (sender, states, bad)) (inl (fault, has, is)) = absurd (laws.no_sender_fault text.head sender fault states has)
  one_fault text one other (inr (sender, states, bad)) (inr (s, too, worse)) = one_bad (bytes_of_lines text.lines) text.is_sent one other bad worse

  not_bad : (text : Text) (from : FromText) (words : List ℕ) → IsFrom text from → IsBadText (bytes_of_lines text.lines) text.is_sent words → ⊥
  not_bad text from words is (inl long) = omega (arith, long.0, is.short, ap length is.bytes)
  not_bad text from words is (inr (short, (number, inl wrong, so))) =
      wrong_and_read (bytes_of_lines text.lines) number from.stated wrong (subst (λ (b : List ℕ). IsRead b from.stated) is.bytes is.stated)
  not_bad text from words is (inr (short, (number, inr lacks, so))) = false≢true (sym lacks.0 ∙ is.is_sent)

  not_both : (text : Text) (from : FromText) (words : List ℕ) → IsFrom text from → IsTextFault text words → ⊥
  not_both text from words is (inl (fault, has, so)) = laws.no_sender_fault text.head from.sender fault is.sender has
  not_both text from words is (inr (sender, states, bad)) = not_bad text from words is bad

  one_from : (text : Text) (one other : FromText) → IsFrom text one → IsFrom text other → SameFrom one other
  one_from text one other is too =
      let same : one.text.now ≡ other.text.now = is.bytes ∙ sym too.bytes in
      record {
        sender = laws.sender text.head one.sender other.sender is.sender too.sender;
        stated = laws.read one.text.now one.stated other.stated is.stated (subst (λ (b : List ℕ). IsRead b other.stated) (sym same) too.stated);
        text = same;
      }

  of_text : (text : Text) (one other : Result Request (List ℕ)) → RequestsText text one → RequestsText text other → SameAsked one other
  of_text text (Ok (Command one)) other is too = absurd is
  of_text text (Ok (From one)) (Ok (Command other)) is too = absurd too
  of_text text (Ok (From one)) (Ok (From other)) is too = one_from text one other is too
  of_text text (Ok (From one)) (Err words) is too = absurd (not_both text one words is too)
  of_text text (Err words) (Ok (Command other)) is too = absurd too
  of_text text (Err words) (Ok (From other)) is too = absurd (not_both text other words too is)
  of_text text (Err one) (Err other) is too = one_fault text one other is too

  -- ---- items

  both_long : (words : List ℕ) (one other : Result Request (List ℕ)) → one ≡ Err words → other ≡ Err words → SameAsked one other
  both_long words (Ok one) other is too = absurd cc
  both_long words (Err one) (Ok other) is too = absurd cc
  both_long words (Err one) (Err other) is too = let both : Path (Result Request (List ℕ)) (Err one) (Err other) = is ∙ sym too in cc

  of_some_text : (long : Bool) (text : Text) (one other : Result Request (List ℕ)) → RequestsTextOf long text one → RequestsTextOf long text other → SameAsked one other
  of_some_text true text one other is too = both_long long_line_words one other is too
  of_some_text false text one other is too = of_text text one other is too

  pub one_asked : (item : Item) (one other : Result Request (List ℕ)) → Requests item one → Requests item other → SameAsked one other
  one_asked (a_line line) one other is too = of_line line one other is too
  one_asked a_long_line one other is too = both_long long_line_words one other is too
  one_asked (a_text text) one other is too = of_some_text (has_long_line text) text one other is too
