-- What the tests of a line say where it is of a sort.
use Rattle.pim_request.proofs.Cited.{◌≡◌, refl, Bool, true, false, if◌then◌else◌, Blank, From, Other}

pub sort_blank : (blank begins : Bool) → (if blank then Blank else if begins then From else Other) ≡ Blank → blank ≡ true
sort_blank true begins is = refl
sort_blank false true is = absurd cc
sort_blank false false is = absurd cc

pub sort_from : (blank begins : Bool) → (if blank then Blank else if begins then From else Other) ≡ From → (blank ≡ false) × (begins ≡ true)
sort_from true begins is = absurd cc
sort_from false true is = (refl, refl)
sort_from false false is = absurd cc

pub sort_other : (blank begins : Bool) → (if blank then Blank else if begins then From else Other) ≡ Other → (blank ≡ false) × (begins ≡ false)
sort_other true begins is = absurd cc
sort_other false true is = absurd cc
sort_other false false is = (refl, refl)
