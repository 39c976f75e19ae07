-- Names that an opener is asked for, one after another.
use Rattle.std.proofs.Common.{◌≡◌, ◌∙◌, sym, ap, subst, refl, ℕ, List, [], ◌++◌, Option, None, Some, Result, Ok, Err, append_assoc, append-nil}
use Rattle.pim_files.specs.Files.{Known, Grows, RequestsFor, RequestsFront, RequestsAll}

Grows-none : (a : Option (List (List ℕ))) → Grows a a []
Grows-none None = tt
Grows-none (Some xs) = sym (append-nil xs)

Grows-more : (a b c : Option (List (List ℕ))) (xs ys : List (List ℕ)) → Grows a b xs → Grows b c ys → Grows a c (xs ++ ys)
Grows-more a b None xs ys p q = tt
Grows-more a None (Some third) xs ys p q = absurd q
Grows-more None (Some second) (Some third) xs ys p q = absurd p
Grows-more (Some first) (Some second) (Some third) xs ys p q = q ∙ ap (λ l. l ++ ys) p ∙ append_assoc first xs ys

-- it was asked for nothing
pub asks_none : (a : Known) → RequestsFor a a []
asks_none a = record { files = refl; requested = Grows-none a.requested }

-- it was asked for more
pub asks_more : (a b c : Known) (xs ys : List (List ℕ)) → RequestsFor a b xs → RequestsFor b c ys → RequestsFor a c (xs ++ ys)
asks_more a b c xs ys p q = record {
  files = q.files ∙ p.files;
  requested = Grows-more a.requested b.requested c.requested xs ys p.requested q.requested;
}

-- all names are a front of themselves
pub all_in_front : (a b : Known) (names : List (List ℕ)) → RequestsFor a b names → RequestsFront a b names
all_in_front a b names p = record { front = names; others = []; cut = sym (append-nil names); requests = p }

-- it was asked for none of the names
pub none_in_front : (a : Known) (names : List (List ℕ)) → RequestsFront a a names
none_in_front a names = record { front = []; others = names; cut = refl; requests = asks_none a }

-- it was asked for nothing where there are no names
pub asks_no_names : {X E : Type 0} (a : Known) (names : List (List ℕ)) (result : Result X E) → names ≡ [] → RequestsAll a a names result
asks_no_names a names (Ok x) none = subst (RequestsFor a a) (sym none) (asks_none a)
asks_no_names a names (Err e) none = none_in_front a names
