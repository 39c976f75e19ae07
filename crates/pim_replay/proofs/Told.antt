-- Parts of a replay that follow one another, and what is written of them.
use Rattle.pim_replay.proofs.Words.{◌≡◌, ◌≤◌, ◌+◌, ◌∙◌, ℕ, suc, List, [], ◌++◌, Option, None, Some, Result, Ok, Err, length, refl}
use Rattle.pim_replay.proofs.Words.{sym, ap, subst, arith, append_assoc, append-nil, length-append, Appends, Keeps, Appends-trans}
use Rattle.pim_replay.proofs.Words.{take_all, flat_map-append, AppendsFront, Counts, RouterState, Event, Account, nothing}
use Rattle.pim_replay.proofs.Words.{of_event, of_refreshes, joined, counted, Follows, HasWritten, HasBegun, Writes}
use Rattle.std.specs.List.{flat_map}
use Rattle.std.specs.Result.{IsErr}
use Rattle.std.proofs.lemmas.Bool.{false≢true}
use Rattle.pim_replay.proofs.Written.{front-longer, front-more}

-- ---- accounts

abbrev made_account : List Event → ℕ → ℕ → Account
made_account events refreshes skips = record { events = events; refreshes = refreshes; skips = skips }

same_account : (a b : List Event) (c d e f : ℕ) → a ≡ b → c ≡ d → e ≡ f → made_account a c e ≡ made_account b d f
same_account a b c d e f p q r = ap (λ l. made_account l c e) p ∙ (ap (λ n. made_account b n e) q ∙ ap (λ n. made_account b d n) r)

pub nothing_first : (a : Account) → joined nothing a ≡ a
nothing_first a = same_account a.events a.events _ _ _ _ refl (omega arith) (omega arith)

pub nothing_last : (a : Account) → joined a nothing ≡ a
nothing_last a = same_account (a.events ++ []) a.events _ _ _ _ (append-nil a.events) (omega arith) (omega arith)

pub regroup : (a b c : Account) → joined (joined a b) c ≡ joined a (joined b c)
regroup a b c = same_account ((a.events ++ b.events) ++ c.events) (a.events ++ (b.events ++ c.events)) _ _ _ _ (append_assoc a.events b.events c.events) (omega arith) (omega arith)

pub refresh_first : (n : ℕ) (a : Account) → joined (of_refreshes (suc n)) a ≡ joined (of_refreshes 1) (joined (of_refreshes n) a)
refresh_first n a = same_account a.events a.events _ _ _ _ refl (omega arith) (omega arith)

-- ---- counts

abbrev pub made_counts : ℕ → ℕ → Counts
made_counts skipped' refreshes' = record { skipped = skipped'; refreshes = refreshes' }

pub same_counts : (a b c d : ℕ) → a ≡ b → c ≡ d → made_counts a c ≡ made_counts b d
same_counts a b c d p q = ap (λ n. made_counts n c) p ∙ ap (λ n. made_counts b n) q

counted_twice : (counts : Counts) (a b : Account) → counted (counted counts a) b ≡ counted counts (joined a b)
counted_twice counts a b = same_counts _ _ _ _ (omega arith) (omega arith)

-- ---- one part, then another

pub both : (One : Account → RouterState → Type 0) (Next : RouterState → Account → RouterState → Type 0) (a b : Account) (between after : RouterState) → One a between → Next between b after
    → Follows One Next (joined a b) after
both One Next a b between after p q = record { first = a; between = between; begins = p; second = b; goes_on = q; account_is = refl }

-- ---- what was written

-- all of a text is a front of it
all_is_front : (old new : Option (List ℕ)) (text : List ℕ) → Appends old new text → AppendsFront old new text
all_is_front None new text p = tt
all_is_front (Some xs) None text p = absurd p
all_is_front (Some xs) (Some ys) text p = (long, rw p (sym (take_all (length (xs ++ text)) (xs ++ text) (omega arith))))
  where
    long : length xs ≤ length ys
    long = let e : length ys ≡ length xs + length text = ap length p ∙ length-append xs text in omega (arith, e)

pub keeps_same : (known : Option (List ℕ)) → Keeps known known
keeps_same None = tt
keeps_same (Some bytes) = refl

-- nothing is a front of any text
pub none_is_front : (old new : Option (List ℕ)) (text : List ℕ) → Keeps old new → AppendsFront old new text
none_is_front None new text keeps = tt
none_is_front (Some xs) None text keeps = absurd keeps
none_is_front (Some xs) (Some ys) text keeps = front-longer (Some xs) (Some ys) [] text (all_is_front (Some xs) (Some ys) [] (keeps ∙ sym (append-nil xs)))

module _ (line : Event → List ℕ) where
  abbrev pub text : Account → List ℕ
  text account = flat_map line account.events

  -- the line of one event
  pub one_text : (event : Event) → line event ≡ text (of_event event)
  one_text event = sym (append-nil (line event))

  text_joined : (a b : Account) → text a ++ text b ≡ text (joined a b)
  text_joined a b = sym (flat_map-append line a.events b.events)

  module _ (One Two : Account → RouterState → Type 0) (between : RouterState) (old mid new : Option (List ℕ)) (counts counts' : Counts)
      (h : HasWritten line One between old mid counts counts') where
    -- a part was written, and then more of it
    pub told_more : (more : Account) (after : RouterState) (counts'' : Counts) → Two (joined h.account more) after → Appends mid new (text more) → counts'' ≡ counted counts' more
        → HasWritten line Two after old new counts counts''
    told_more more after counts'' two written is = record {
      account = joined h.account more;
      wrote = two;
      written = subst (λ (t : List ℕ). Appends old new t) (text_joined h.account more) (Appends-trans old mid new (text h.account) (text more) h.written written);
      is_counted = is ∙ (ap (λ (c : Counts). counted c more) h.is_counted ∙ counted_twice counts h.account more);
    }

    -- a part was written, and then a front of more of it
    pub begun_more : (more : Account) (after : RouterState) → Two (joined h.account more) after → AppendsFront mid new (text more) → HasBegun line Two old new
    begun_more more after two written = record {
      account = joined h.account more;
      after = after;
      wrote = two;
      written = subst (λ (t : List ℕ). AppendsFront old new t) (text_joined h.account more) (front-more old mid new (text h.account) (text more) h.written written);
    }

  -- a front of a part is one of more of it
  pub begun_longer : (One Two : Account → RouterState → Type 0) (old new : Option (List ℕ)) (h : HasBegun line One old new) (more : Account) (after : RouterState) → Two (joined h.account more) after
      → HasBegun line Two old new
  begun_longer One Two old new h more after two = record {
    account = joined h.account more;
    after = after;
    wrote = two;
    written = subst (λ (t : List ℕ). AppendsFront old new t) (text_joined h.account more) (front-longer old new (text h.account) (text more) h.written);
  }

  -- the exit of a failed write
  pub tells_err : {E : Type 0} (Part : Account → RouterState → Type 0) (after : RouterState) (old new : Option (List ℕ)) (counts : Counts) (result : Result Counts E) → IsErr result → HasBegun line Part old new
      → Writes line Part after old new counts result
  tells_err Part after old new counts (Ok more) e h = absurd (false≢true e)
  tells_err Part after old new counts (Err fault) e h = h

  pub told_begun : (One Two : Account → RouterState → Type 0) (now : RouterState) (old new : Option (List ℕ)) (counts counts' : Counts) → (h : HasWritten line One now old new counts counts') → Two h.account now
      → HasBegun line Two old new
  told_begun One Two now old new counts counts' h two =
      record { account = h.account; after = now; wrote = two; written = all_is_front old new (text h.account) h.written }

  module _ (One : Account → RouterState → Type 0) (Next : RouterState → Account → RouterState → Type 0) (between : RouterState) (old mid new : Option (List ℕ)) (counts counts' : Counts)
      (h : HasWritten line One between old mid counts counts') where
    -- the part after one that was written
    pub happens_then : (after : RouterState) (counts'' : Counts) → HasWritten line (Next between) after mid new counts' counts'' → HasWritten line (Follows One Next) after old new counts counts''
    happens_then after counts'' n =
        told_more One (Follows One Next) between old mid new counts counts' h n.account after counts'' (both One Next h.account n.account between after h.wrote n.wrote) n.written n.is_counted

    pub begun_then : HasBegun line (Next between) mid new → HasBegun line (Follows One Next) old new
    begun_then n = begun_more One (Follows One Next) between old mid new counts counts' h n.account n.after (both One Next h.account n.account between n.after h.wrote n.wrote) n.written
