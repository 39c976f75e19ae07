-- Files that are opened one after another, and their readers.
use Rattle.pim_files.proofs.Words.{◌≡◌, ◌∙◌, sym, ap, subst, refl, ℕ, List, [], ◌∷◌, ◌++◌, map, Option}
use Rattle.pim_files.proofs.Words.{None, Some, append_assoc, IsSome, map-append, false≢true, OpenFault, Files, Known}
use Rattle.pim_files.proofs.Words.{RequestsFor, RequestsFront, FileOfName, names_of, IsReaderOf, IsPortFault, CanOpen, given_by}
use Rattle.pim_files.proofs.Words.{StopsAt, AreReaders, HaveFiles}
use Rattle.pim_files.proofs.Asked.{asks_more}

-- ---- the names of two parts of a list

pub names-append : (xs ys : List FileOfName) → names_of (xs ++ ys) ≡ names_of xs ++ names_of ys
names-append xs ys = map-append (λ (file : FileOfName). file.name) xs ys

-- all of two parts were asked for
pub asks_both : (a b c : Known) (xs ys all : List FileOfName) → all ≡ xs ++ ys → RequestsFor a b (names_of xs) → RequestsFor b c (names_of ys) → RequestsFor a c (names_of all)
asks_both a b c xs ys all whole p q = subst (RequestsFor a c) (sym (ap names_of whole ∙ names-append xs ys)) (asks_more a b c (names_of xs) (names_of ys) p q)

-- the first part was asked for, and some of the second
pub front_within : (a b c : Known) (xs ys zs all : List FileOfName) → all ≡ xs ++ (ys ++ zs) → RequestsFor a b (names_of xs) → RequestsFront b c (names_of ys) → RequestsFront a c (names_of all)
front_within a b c xs ys zs all whole p q = record {
  front = names_of xs ++ q.front;
  others = q.others ++ names_of zs;
  cut = ap names_of whole ∙ names-append xs (ys ++ zs)
      ∙ ap (λ l. names_of xs ++ l) (names-append ys zs ∙ ap (λ l. l ++ names_of zs) q.cut ∙ append_assoc q.front q.others (names_of zs))
      ∙ sym (append_assoc (names_of xs) q.front (q.others ++ names_of zs));
  requests = asks_more a b c (names_of xs) q.front p q.requests;
}

-- the first of all was asked for
pub front_of_first : (a b : Known) (file : FileOfName) (others : List FileOfName) → RequestsFor a b (file.name ∷ []) → RequestsFront a b (names_of (file ∷ others))
front_of_first a b file others p = record { front = file.name ∷ []; others = names_of others; cut = refl; requests = p }

-- ---- files that can be opened

pub none_present : (known : Option Files) → CanOpen known []
none_present None = tt
none_present (Some files) = ([], refl)

pub both_present : (known : Option Files) (xs ys : List FileOfName) → CanOpen known xs → CanOpen known ys → CanOpen known (xs ++ ys)
both_present None xs ys p q = tt
both_present (Some files) xs ys (contents, p) (others, q) = (
  contents ++ others,
  map-append (given_by files) xs ys
      ∙ ap (λ l. l ++ map (given_by files) ys) p
      ∙ ap (λ l. map Some contents ++ l) q
      ∙ sym (map-append Some contents others),
)

-- one more part can be opened, by what is known later
pub more_present : (known known' : Option Files) (xs ys all : List FileOfName) → known' ≡ known → all ≡ xs ++ ys → CanOpen known xs → CanOpen known' ys → CanOpen known all
more_present known known' xs ys all same whole p q =
    subst (CanOpen known) (sym whole) (both_present known xs ys p (subst (λ (k : Option Files). CanOpen k ys) same q))

-- ---- the first file that isn't open

-- it is the first of all
pub stops_first : (known : Option Files) (file : FileOfName) (others : List FileOfName) (fault : OpenFault) → IsPortFault known file fault → StopsAt known (file ∷ others) fault
stops_first known file others fault wrong = record { before = []; file = file; others = others; cut = refl; wrong = wrong; opened = none_present known }

-- it is one of the second part
pub stops_within : (known known' : Option Files) (xs ys zs all : List FileOfName) (fault : OpenFault) → known' ≡ known → all ≡ xs ++ (ys ++ zs) → CanOpen known xs → StopsAt known' ys fault
    → StopsAt known all fault
stops_within known known' xs ys zs all fault same whole present stops = record {
  before = xs ++ stops.before;
  file = stops.file;
  others = stops.others ++ zs;
  cut = whole
      ∙ ap (λ l. xs ++ (l ++ zs)) stops.cut
      ∙ ap (λ l. xs ++ l) (append_assoc stops.before (stops.file ∷ stops.others) zs)
      ∙ sym (append_assoc xs stops.before (stops.file ∷ (stops.others ++ zs)));
  wrong = subst (λ (k : Option Files). IsPortFault k stops.file fault) same stops.wrong;
  opened = both_present known xs stops.before present (subst (λ (k : Option Files). CanOpen k stops.before) same stops.opened);
}

-- ---- their readers

module _ {R : Type 0} (remaining : R → Option (List ℕ)) where
  none_read : (known : Option Files) → HaveFiles remaining known [] []
  none_read None = tt
  none_read (Some files) = record { contents = []; are = refl; given = refl }

  one_reader : (files : Files) (xs : List FileOfName) (file : FileOfName) (held : Option (List ℕ)) (readers : List R) (reader : R) → given_by files file ≡ held → AreReaders remaining files xs readers
      → IsSome held × (remaining reader ≡ held) → AreReaders remaining files (xs ++ file ∷ []) (readers ++ reader ∷ [])
  one_reader files xs file None readers reader is are opened = absurd (false≢true opened.0)
  one_reader files xs file (Some content) readers reader is are opened = record {
    contents = are.contents ++ content ∷ [];
    are = map-append (given_by files) xs (file ∷ [])
        ∙ ap (λ l. l ++ given_by files file ∷ []) are.are
        ∙ ap (λ o. map Some are.contents ++ o ∷ []) is
        ∙ sym (map-append Some are.contents (content ∷ []));
    given = map-append remaining readers (reader ∷ [])
        ∙ ap (λ l. l ++ remaining reader ∷ []) are.given
        ∙ ap (λ o. map Some are.contents ++ o ∷ []) opened.1
        ∙ sym (map-append Some are.contents (content ∷ []));
  }

  one_more : (known : Option Files) (xs : List FileOfName) (file : FileOfName) (readers : List R) (reader : R) → HaveFiles remaining known xs readers → IsReaderOf remaining known file reader
      → HaveFiles remaining known (xs ++ file ∷ []) (readers ++ reader ∷ [])
  one_more None xs file readers reader are opened = tt
  one_more (Some files) xs file readers reader are opened = one_reader files xs file (given_by files file) readers reader refl are opened

  -- one more file, by what is known later
  pub one_more_reader : (known known' : Option Files) (xs all : List FileOfName) (file : FileOfName) (readers readers' : List R) (reader : R) → known' ≡ known → all ≡ xs ++ file ∷ []
      → readers' ≡ readers ++ reader ∷ [] → HaveFiles remaining known xs readers → IsReaderOf remaining known' file reader → HaveFiles remaining known all readers'
  one_more_reader known known' xs all file readers readers' reader same whole pushed are opened =
      subst (λ (l : List FileOfName). HaveFiles remaining known l readers') (sym whole)
      (subst (λ (l : List R). HaveFiles remaining known (xs ++ file ∷ []) l) (sym pushed)
      (one_more known xs file readers reader are (subst (λ (k : Option Files). IsReaderOf remaining k file reader) same opened)))

  -- the first file
  pub first_reader : (known : Option Files) (file : FileOfName) (readers readers' : List R) (reader : R) → readers ≡ [] → readers' ≡ readers ++ reader ∷ [] → IsReaderOf remaining known file reader
      → HaveFiles remaining known (file ∷ []) readers'
  first_reader known file readers readers' reader none pushed opened =
      one_more_reader known known [] (file ∷ []) file [] readers' reader refl refl (pushed ∙ ap (λ l. l ++ reader ∷ []) none) (none_read known) opened

  -- files that have readers can be opened
  pub present_of : (known : Option Files) (wanted : List FileOfName) (readers : List R) → HaveFiles remaining known wanted readers → CanOpen known wanted
  present_of None wanted readers are = tt
  present_of (Some files) wanted readers are = (are.contents, are.are)
