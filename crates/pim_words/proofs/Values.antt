-- The values of options.
use Rattle.pim_words.proofs.Words.{◌≡◌, refl, List, [], Option, None, Some, option_map, map, unwrap_or, Bor}
use Rattle.pim_words.proofs.Words.{UnwrapsOrElse, Row, Text, all_of, first_of}
use Rattle.pim_words.specs.Given.{option_or, values_of}

-- the value of an option that was read as text
pub value_or : (name : Text) (rows : List Row) (read : Option (Bor Text)) (default value : Bor Text)
    → option_map (λ s. s.now) read ≡ first_of name rows → value ≡ unwrap_or read default → value.now ≡ option_or default.now name rows
value_or name rows None default value first is = rw (← first, is) refl
value_or name rows (Some text) default value first is = rw (← first, is) refl

-- the values of an option, or the words, that were read
pub values_are : (name : Text) (rows : List Row) (read : Option (Bor (List (Bor Text)))) (values : Bor (List (Bor Text))) → option_map (λ s. map (λ v. v.now) s.now) read ≡ all_of name rows
    → UnwrapsOrElse read (λ none. none.now ≡ []) values → map (λ v. v.now) values.now ≡ values_of name rows
values_are name rows None values found is = rw (← found, is) refl
values_are name rows (Some given) values found is = rw (← found, is) refl
