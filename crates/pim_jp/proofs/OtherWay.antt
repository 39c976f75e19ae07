-- Sources that are looked for the other way: those of the joined entries among the sorted pruned ones.
use Rattle.pim_jp.proofs.Words.{◌≡◌, ◌∙◌, ℕ, Bool, true, false, ◌||◌, List, [], ◌∷◌, refl, Entry, Star, Source, Rpt}
use Rattle.pim_jp.proofs.Words.{is_star, is_in}

-- some entries were passed, none of which is wanted
pub passed_by : (all these left wanted : Bool) → all ≡ (these || left) → (these ≡ true → wanted ≡ false) → wanted ≡ true → all ≡ left
passed_by all true left wanted is apart found = let no = apart refl in absurd cc
passed_by all false left wanted is apart found = is

pub star_in_none : (others : List (Entry (List ℕ))) (rp : List ℕ) → is_in others (Star rp) ≡ false
star_in_none [] rp = refl
star_in_none (Star that ∷ others) rp = star_in_none others rp
star_in_none (Source that ∷ others) rp = star_in_none others rp
star_in_none (Rpt that ∷ others) rp = star_in_none others rp

pub not_in : (others : List (Entry (List ℕ))) (this : Entry (List ℕ)) → (is_star this ≡ false → is_in others this ≡ false) → is_in others this ≡ false
not_in others (Star rp) apart = star_in_none others rp
not_in others (Source source) apart = apart refl
not_in others (Rpt source) apart = apart refl

pub clash_in : (joined left : List (Entry (List ℕ))) (this : Entry (List ℕ)) → (is_star this ≡ false → is_in joined this ≡ is_in left this)
    → is_in left this ≡ true → is_in joined this ≡ true
clash_in joined left (Star rp) same found = let none = star_in_none left rp in absurd cc
clash_in joined left (Source source) same found = same refl ∙ found
clash_in joined left (Rpt source) same found = same refl ∙ found
