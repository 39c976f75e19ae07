-- The files of a port, by its further files that were passed over one after another.
use Rattle.pim_files.proofs.Words.{◌≡◌, ◌∙◌, sym, ap, ℕ, ◌+◌, ◌<◌, ◌≤◌, Bool, true, false, cond, List, [], ◌∷◌, ◌++◌, length, map}
use Rattle.pim_files.proofs.Words.{take, drop, get_or, Option, append_assoc, append-nil, filter, take-append-drop, take_all}
use Rattle.pim_files.proofs.Words.{map-append, filter-append, filter_more, More, Port, OpenFault, Files, Known, RequestsFor}
use Rattle.pim_files.proofs.Words.{RequestsFront, FileOfName, is_further, with_more, first_file, further_file, files_of, names_of}
use Rattle.pim_files.proofs.Words.{IsReaderOf, IsPortFault, StopsAt, HaveFiles}
use Rattle.pim_files.proofs.Asked.{all_in_front}
use Rattle.pim_files.proofs.Several.{asks_both, front_within, stops_first, stops_within, one_more_reader, present_of}

module _ {A : Type 0} (number : ℕ) (port : Port A) (further : List More) where
  -- those among the first ones
  abbrev pub files_by : ℕ → List FileOfName
  files_by place = files_of (with_more number (take place further) port)

  -- the files after these
  abbrev pub files_after : ℕ → List FileOfName
  files_after place = map further_file (filter (is_further number port) (drop place further))

  split_at : (place : ℕ) → files_of (with_more number further port) ≡ files_by place ++ files_after place
  split_at place =
      ap (λ l. first_file port ∷ map further_file (filter (is_further number port) l)) (sym (take-append-drop place further))
      ∙ ap (λ l. first_file port ∷ map further_file l) (filter-append (is_further number port) (take place further) (drop place further))
      ∙ ap (λ l. first_file port ∷ l) (map-append further_file (filter (is_further number port) (take place further)) (filter (is_further number port) (drop place further)))

  -- all were passed over
  pub all_by : (place : ℕ) → length further ≤ place → files_by place ≡ files_of (with_more number further port)
  all_by place over = ap (λ l. files_of (with_more number l port)) (take_all place further over)

  module _ (place : ℕ) (other : More) (below : place < length further) where
    -- the further file at this place
    abbrev one : More
    one = get_or further place other

    kept : (b : Bool) → is_further number port one ≡ b
        → filter (is_further number port) (take (place + 1) further) ≡ filter (is_further number port) (take place further) ++ cond b (one ∷ []) []
    kept b is =
        filter_more (is_further number port) further place other below
        ∙ ap (λ t. filter (is_further number port) (take place further) ++ cond t (one ∷ []) []) is

    -- it is another port's
    pub same_files : is_further number port one ≡ false → files_by place ≡ files_by (place + 1)
    same_files is = sym (ap (λ l. first_file port ∷ map further_file l) (kept false is ∙ append-nil (filter (is_further number port) (take place further))))

    module _ (is : is_further number port one ≡ true) where
      -- it is the port's own
      one_more_file : files_by (place + 1) ≡ files_by place ++ further_file one ∷ []
      one_more_file =
          ap (λ l. first_file port ∷ map further_file l) (kept true is)
          ∙ ap (λ l. first_file port ∷ l) (map-append further_file (filter (is_further number port) (take place further)) (one ∷ []))

      -- all, around it
      split_around : files_of (with_more number further port) ≡ files_by place ++ ((further_file one ∷ []) ++ files_after (place + 1))
      split_around =
          split_at (place + 1)
          ∙ ap (λ l. l ++ files_after (place + 1)) one_more_file
          ∙ append_assoc (files_by place) (further_file one ∷ []) (files_after (place + 1))

      -- it was asked for, too
      pub asks_further : (a b c : Known) → RequestsFor a b (names_of (files_by place)) → RequestsFor b c (one.file.now ∷ []) → RequestsFor a c (names_of (files_by (place + 1)))
      asks_further a b c p q = asks_both a b c (files_by place) (further_file one ∷ []) (files_by (place + 1)) one_more_file p q

      pub front_further : (a b c : Known) → RequestsFor a b (names_of (files_by place)) → RequestsFor b c (one.file.now ∷ []) → RequestsFront a c (names_of (files_of (with_more number further port)))
      front_further a b c p q =
          front_within a b c (files_by place) (further_file one ∷ []) (files_after (place + 1)) (files_of (with_more number further port)) split_around p
          (all_in_front b c (names_of (further_file one ∷ [])) q)

      module _ {R : Type 0} (remaining : R → Option (List ℕ)) (known known' : Option Files) (readers : List R) (same : known' ≡ known) (are : HaveFiles remaining known (files_by place) readers) where
        -- it is open, too
        pub have_further : (readers' : List R) (reader : R) → readers' ≡ readers ++ reader ∷ [] → IsReaderOf remaining known' (further_file one) reader → HaveFiles remaining known (files_by (place + 1)) readers'
        have_further readers' reader pushed opened =
            one_more_reader remaining known known' (files_by place) (files_by (place + 1)) (further_file one) readers readers' reader same one_more_file pushed are opened

        -- it isn't open
        pub stops_further : (fault : OpenFault) → IsPortFault known' (further_file one) fault → StopsAt known (files_of (with_more number further port)) fault
        stops_further fault wrong =
            stops_within known known' (files_by place) (further_file one ∷ []) (files_after (place + 1)) (files_of (with_more number further port)) fault same split_around
            (present_of remaining known (files_by place) readers are) (stops_first known' (further_file one) [] fault wrong)
