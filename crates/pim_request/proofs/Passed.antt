-- A line that is passed over.
use Rattle.std.proofs.Common.{◌≡◌, ◌∙◌, sym, ap, refl, subst, inl, inr, ℕ, ◌+◌, List, [], ◌∷◌, ◌++◌, Option, Some, None, length, take, drop, arith, append_assoc, append-nil}
use Rattle.std.specs.Io.KnownBytes.{Consumes, IsAtEnd, prepend_known}
use Rattle.pim_request.specs.Input.{Lines, NoFeed, IsFeedAt, GivesMore, IsPassed, Passing}
use Rattle.pim_request.proofs.Feeds.{no_feed_joined}

-- the bytes that a device has left after some were taken
pub consumed : (old new : Option (List ℕ)) (taken later : List ℕ) → old ≡ Some later → Consumes old new taken → (rest : List ℕ) × (new ≡ Some rest) × (later ≡ taken ++ rest)
consumed None new taken later is consumes = absurd cc
consumed (Some bytes) None taken later is consumes = absurd consumes
consumed (Some bytes) (Some rest) taken later is consumes = (rest, refl, cc)

no_bytes : (bytes : List ℕ) → length bytes ≡ 0 → bytes ≡ []
no_bytes [] none = refl
no_bytes (byte ∷ bytes) none = absurd (omega arith)

ended : (new : Option (List ℕ)) (rest : List ℕ) → new ≡ Some rest → IsAtEnd new → rest ≡ []
ended None rest is at_end = absurd cc
ended (Some bytes) rest is at_end = cc

pub passing_more : (bytes : List ℕ) (head cleared new : Lines) (count : ℕ) → Passing bytes head → cleared.pending ≡ [] → cleared.remaining ≡ head.remaining → GivesMore count cleared new → NoFeed new.pending → Passing bytes new
passing_more bytes head cleared new count passing none same more no_feed =
    let left = consumed cleared.remaining new.remaining more.more passing.later (same ∙ passing.remaining) more.remaining in
    let read : new.pending ≡ more.more = more.pending ∙ ap (λ xs. xs ++ more.more) none in
    record {
      passed = passing.passed ++ new.pending;
      later = left.0;
      no_feed = no_feed_joined passing.passed new.pending passing.no_feed no_feed;
      all = passing.all ∙ ap (λ xs. passing.passed ++ xs) (left.2 ∙ ap (λ xs. xs ++ left.0) (sym read)) ∙ sym (append_assoc passing.passed new.pending left.0);
      remaining = left.1;
    }

pub passing_end : (bytes : List ℕ) (head cleared new : Lines) (count : ℕ) → Passing bytes head → cleared.pending ≡ [] → cleared.remaining ≡ head.remaining → GivesMore count cleared new → count ≡ 0 → IsPassed bytes new
passing_end bytes head cleared new count passing none same more zero_read =
    let left = consumed cleared.remaining new.remaining more.more passing.later (same ∙ passing.remaining) more.remaining in
    let nothing = no_bytes more.more (more.counted ∙ zero_read) in
    let over = ended new.remaining left.0 left.1 (more.at_end zero_read) in
    let read : new.pending ≡ [] = more.pending ∙ ap (λ xs. xs ++ more.more) none ∙ nothing in
    let later : passing.later ≡ [] = left.2 ∙ ap (λ xs. xs ++ left.0) nothing ∙ over in
    record {
      passed = passing.passed;
      rest = [];
      cut = record { no_feed = passing.no_feed; cut = inr (passing.all ∙ ap (λ xs. passing.passed ++ xs) later ∙ append-nil passing.passed, refl) };
      coming = ap (λ xs. prepend_known xs new.remaining) read ∙ ap (prepend_known []) (left.1 ∙ ap Some over);
    }

pub passing_found : (bytes : List ℕ) (head cleared new past : Lines) (count place : ℕ) → Passing bytes head → cleared.pending ≡ [] → cleared.remaining ≡ head.remaining → GivesMore count cleared new → IsFeedAt place new.pending → past ≡ record { line = new.line; pending = drop (place + 1) new.pending; remaining = new.remaining; unread = new.unread; failures = new.failures } → IsPassed bytes past
passing_found bytes head cleared new past count place passing none same more found is =
    let left = consumed cleared.remaining new.remaining more.more passing.later (same ∙ passing.remaining) more.remaining in
    let read : new.pending ≡ more.more = more.pending ∙ ap (λ xs. xs ++ more.more) none in
    let front = take place new.pending in
    let behind = drop (place + 1) new.pending in
    let split : passing.later ≡ front ++ 10 ∷ (behind ++ left.0) =
    left.2 ∙ ap (λ xs. xs ++ left.0) (sym read ∙ found.feed) ∙ append_assoc front (10 ∷ behind) left.0 in
    subst (IsPassed bytes) (sym is) (record {
      passed = passing.passed ++ front;
      rest = behind ++ left.0;
      cut = record {
        no_feed = no_feed_joined passing.passed front passing.no_feed found.before;
        cut = inl (passing.all ∙ ap (λ xs. passing.passed ++ xs) split ∙ sym (append_assoc passing.passed front (10 ∷ (behind ++ left.0))));
      };
      coming = ap (prepend_known behind) left.1;
    })
