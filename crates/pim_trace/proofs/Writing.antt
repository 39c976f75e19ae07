-- A text that is written piece by piece.
use Rattle.std.proofs.Common.{◌≡◌, ◌≤◌, ℕ, ◌+◌, min, option_map, List, [], ◌∷◌, ◌++◌, length, Option, None, Some, Result, Ok, Err, IsErr, refl, sym, ap, subst, ◌∙◌, arith, append_assoc, append-nil, length-append}
use Rattle.pim_trace.proofs.Words.{Appends-nil, Appends-trans, take-append-le, take_all, Appends, AppendsFront}
use Rattle.pim_trace.proofs.Words.{AppendsAll, top_count, Happened, Occurrence, event_on, Ledger, epoch_of, text_on}
use Rattle.pim_trace.proofs.Written.{front-longer, front-more}

-- ---- fronts

-- nothing was written
pub none-is-front : (known : Option (List ℕ)) (bs : List ℕ) → AppendsFront known known bs
none-is-front None bs = tt
none-is-front (Some xs) bs = (omega arith, sym (take-append-le (length xs) xs bs (omega arith) ∙ take_all (length xs) xs (omega arith)))

-- all of a text is a front of it
pub all-is-front : (old new : Option (List ℕ)) (bs : List ℕ) → Appends old new bs → AppendsFront old new bs
all-is-front None new bs p = tt
all-is-front (Some xs) None bs p = absurd p
all-is-front (Some xs) (Some ys) bs p = (long, rw p (sym (take_all (length (xs ++ bs)) (xs ++ bs) (omega arith))))
  where
    long : length xs ≤ length ys
    long = let e : length ys ≡ length xs + length bs = ap length p ∙ length-append xs bs in omega (arith, e)

-- all of the first piece was written, and whatever was of the second
pub all-more : {A E : Type 0} (r : Result A E) (a b c : Option (List ℕ)) (bs cs : List ℕ) → Appends a b bs → AppendsAll b c r cs → AppendsAll a c r (bs ++ cs)
all-more (Ok x) a b c bs cs p q = Appends-trans a b c bs cs p q
all-more (Err e) a b c bs cs p q = front-more a b c bs cs p q

-- an error that goes on
pub stopped : {A E : Type 0} (old new : Option (List ℕ)) (r : Result A E) (bs : List ℕ) → IsErr r → AppendsFront old new bs → AppendsAll old new r bs
stopped old new (Ok x) bs e p = absurd cc
stopped old new (Err x) bs e p = p

-- ---- piece by piece

-- `left` is what is still to be written of the whole text
pub record IsWriting (old now : Option (List ℕ)) (left whole : List ℕ) : Type 0 where
  pub done : List ℕ
  pub written : Appends old now done
  pub parts : done ++ left ≡ whole

pub start_writing : (old : Option (List ℕ)) (whole : List ℕ) → IsWriting old old whole whole
start_writing old whole = record { done = []; written = Appends-nil old; parts = refl }

pub write_more : (old now new : Option (List ℕ)) (piece left rest whole : List ℕ) → IsWriting old now left whole → left ≡ piece ++ rest → Appends now new piece → IsWriting old new rest whole
write_more old now new piece left rest whole w is p = record {
  done = w.done ++ piece;
  written = Appends-trans old now new w.done piece w.written p;
  parts = append_assoc w.done piece rest ∙ ap (λ l. w.done ++ l) (sym is) ∙ w.parts;
}

pub written_all : (old now : Option (List ℕ)) (left whole : List ℕ) → IsWriting old now left whole → left ≡ [] → Appends old now whole
written_all old now left whole w is =
    subst (λ l. Appends old now l) (sym (append-nil w.done) ∙ ap (λ l. w.done ++ l) (sym is) ∙ w.parts) w.written

pub written_front : (old now new : Option (List ℕ)) (piece left rest whole : List ℕ) → IsWriting old now left whole → left ≡ piece ++ rest → AppendsFront now new piece → AppendsFront old new whole
written_front old now new piece left rest whole w is p =
    subst (λ l. AppendsFront old new l) (ap (λ l. w.done ++ l) (sym is) ∙ w.parts)
    (front-more old now new w.done (piece ++ rest) w.written (front-longer now new piece rest p))

-- ---- the text of what happens

module _ (line : Occurrence → List ℕ) (ledger : Ledger) (ms port : ℕ) where
  pub text-append : (xs ys : List Happened) → text_on line ledger ms port (xs ++ ys) ≡ text_on line ledger ms port xs ++ text_on line ledger ms port ys
  text-append [] ys = refl
  text-append (x ∷ xs) ys =
      ap (λ l. line (event_on ledger ms port x) ++ l) (text-append xs ys)
      ∙ sym (append_assoc (line (event_on ledger ms port x)) (text_on line ledger ms port xs) (text_on line ledger ms port ys))

  -- the text depends on the begin of the ledger alone
  pub text-same : (other : Ledger) → other.begin ≡ ledger.begin → (xs : List Happened) → text_on line other ms port xs ≡ text_on line ledger ms port xs
  text-same other same [] = refl
  text-same other same (x ∷ xs) =
      let epochs : epoch_of ms other ≡ epoch_of ms ledger = ap (λ (b : Option ℕ). option_map (λ begin. min (begin + ms) top_count) b) same in
      let first : line (event_on other ms port x) ≡ line (event_on ledger ms port x) = ap (λ (e : Option ℕ). line (record { ms = ms; epoch = e; port = Some port; what = x })) epochs in
      ap (λ l. l ++ text_on line other ms port xs) first ∙ ap (λ l. line (event_on ledger ms port x) ++ l) (text-same other same xs)
