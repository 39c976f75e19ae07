-- The values of an option that picks links, read one by one; and what a value names is one thing.
use Rattle.pim_words.proofs.Words.{◌≡◌, ◌≢◌, ◌∙◌, sym, ap, subst, refl, inl, inr, ℕ, suc, ◌+◌, ◌<◌, ◌≤◌, Bool, List, []}
use Rattle.pim_words.proofs.Words.{◌∷◌, ◌++◌, length, drop, get_or, append_assoc, append-nil, Option, None, Some, cond}
use Rattle.pim_words.proofs.Words.{true, false, arith, ◌⊎◌, is_some, Bor, digits_value, without_leading_plus}
use Rattle.pim_words.proofs.Words.{false≢true, drop_all, drop_more, Text, CommandFault, LacksEqualSign, IsPortNumber}
use Rattle.pim_words.proofs.Words.{IsNoPortNumber, IsTarget, IsNoTarget, LacksPoint, IsNoVlan, IsLinkText, IsNoLink}
use Rattle.pim_words.proofs.Words.{is_same_port, pick_for, IsPick, IsNoPick, ArePicks, ArePicksAfter, IsFirstWrongPick}
use Rattle.pim_words.specs.declared.fault.CommandFault.TheVariants as cause
use Rattle.pim_words.specs.declared.picks.Part.{Part}
use Rattle.pim_words.specs.declared.picks.Pick.{Pick}
use Rattle.pim_words.specs.declared.task.LinkWord.{LinkWord}
use Rattle.pim_words.specs.Given.{IsNumber, IsNoNumber}
use Rattle.pim_words.proofs.Further.{texts}

module _ (chosen : Part) (is_any : Bool) (count : ℕ) where
  -- These picks are those of the values before the ones that are left.
  pub record IsLeft (all left : List Text) (picks : List Pick) : Type 0 where
    pub goes_on : (more : List Pick) → ArePicksAfter chosen is_any count picks left more → ArePicks chosen is_any count all (picks ++ more)
    pub reported : (fault : CommandFault) → IsFirstWrongPick chosen is_any count picks left fault → IsFirstWrongPick chosen is_any count [] all fault

  pub begin : (all : List Text) → IsLeft all all []
  begin all = record { goes_on = λ more are. are; reported = λ fault is. is }

  step : (all left : List Text) (picks : List Pick) (value : Text) (pick : Pick) → IsLeft all (value ∷ left) picks → IsPick chosen is_any count picks value pick → IsLeft all left (picks ++ pick ∷ [])
  step all left picks value pick is picked = record {
    goes_on = λ more are. subst (λ l. ArePicks chosen is_any count all l) (sym (append_assoc picks (pick ∷ []) more)) (is.goes_on (pick ∷ more) (picked, are));
    reported = λ fault wrong. is.reported fault (inr (pick, picked, wrong));
  }

  end : (all : List Text) (picks : List Pick) → IsLeft all [] picks → ArePicks chosen is_any count all picks
  end all picks is = subst (λ l. ArePicks chosen is_any count all l) (append-nil picks) (is.goes_on [] tt)

  module _ (values : List (Bor Text)) (i : ℕ) (past : Bor Text) (inside : i < length values) where
    abbrev here_is : Text
    here_is = (get_or values i past).now

    next : texts (drop i values) ≡ here_is ∷ texts (drop (i + 1) values)
    next = ap texts (drop_more values i past inside)

    pub one_more : (picks seen more : List Pick) (pick : Pick) → seen ≡ picks → IsLeft (texts values) (texts (drop i values)) picks → IsPick chosen is_any count seen here_is pick → more ≡ picks ++ pick ∷ []
        → IsLeft (texts values) (texts (drop (i + 1) values)) more
    one_more picks seen more pick same is picked pushed =
        subst (λ l. IsLeft (texts values) (texts (drop (i + 1) values)) l) (sym pushed)
        (step (texts values) (texts (drop (i + 1) values)) picks here_is pick (subst (λ l. IsLeft (texts values) l picks) next is)
        (subst (λ (l : List Pick). IsPick chosen is_any count l here_is pick) same picked))

    pub none_picked : (picks seen : List Pick) (reported : Bor Text) → seen ≡ picks → reported.now ≡ here_is → IsLeft (texts values) (texts (drop i values)) picks → IsNoPick chosen is_any count seen here_is
        → IsFirstWrongPick chosen is_any count [] (texts values) (cause.Word reported)
    none_picked picks seen reported same is_told is none =
        is.reported (cause.Word reported) (subst (λ l. IsFirstWrongPick chosen is_any count picks l (cause.Word reported)) (sym next)
        (inl (is_told, subst (λ (l : List Pick). IsNoPick chosen is_any count l here_is) same none)))

  pub all_read : (values : List (Bor Text)) (i : ℕ) (picks : List Pick) → length values ≤ i → IsLeft (texts values) (texts (drop i values)) picks → ArePicks chosen is_any count (texts values) picks
  all_read values i picks past is = end (texts values) picks (subst (λ l. IsLeft (texts values) (texts l) picks) (drop_all i values past) is)

-- ---- the first such byte of a text cuts it in one way

lacks_not : (c : ℕ) (xs ys : List ℕ) → ((place : ℕ) → place < length (xs ++ (c ∷ ys)) → get_or (xs ++ (c ∷ ys)) place 0 ≢ c) → ⊥
lacks_not c [] ys lacks = lacks 0 (omega arith) refl
lacks_not c (x ∷ xs) ys lacks = lacks_not c xs ys (λ place inside. lacks (suc place) (omega (arith, inside)))

same_cut : (c : ℕ) (xs ys xs' ys' : List ℕ) → xs ++ (c ∷ ys) ≡ xs' ++ (c ∷ ys') → ((place : ℕ) → place < length xs → get_or xs place 0 ≢ c) → ((place : ℕ) → place < length xs' → get_or xs' place 0 ≢ c)
    → (xs ≡ xs') × (ys ≡ ys')
same_cut c [] ys [] ys' same one other = (refl, cc)
same_cut c [] ys (x ∷ xs') ys' same one other = let is : x ≡ c = cc in absurd (other 0 (omega arith) is)
same_cut c (x ∷ xs) ys [] ys' same one other = let is : x ≡ c = cc in absurd (one 0 (omega arith) is)
same_cut c (x ∷ xs) ys (x' ∷ xs') ys' same one other =
    let tails : xs ++ (c ∷ ys) ≡ xs' ++ (c ∷ ys') = cc in
    let heads : x ≡ x' = cc in
    let both = same_cut c xs ys xs' ys' tails (λ place inside. one (suc place) (omega (arith, inside))) (λ place inside. other (suc place) (omega (arith, inside))) in
    let first : xs ≡ xs' = both.0 in
    (cc, both.1)

pub target_unique : (count : ℕ) (value : Text) (port port' : Option ℕ) (rest rest' : Text) → IsTarget count value port rest → IsTarget count value port' rest' → (port ≡ port') × (rest ≡ rest')
target_unique count value None None rest rest' is is' = (refl, is.0 ∙ sym is'.0)
target_unique count value None (Some number) rest rest' is (name, cut, lacks, spelled) = absurd (lacks_not 61 name rest' (subst LacksEqualSign cut is.1))
target_unique count value (Some number) None rest rest' (name, cut, lacks, spelled) is' = absurd (lacks_not 61 name rest (subst LacksEqualSign cut is'.1))
target_unique count value (Some number) (Some number') rest rest' (name, cut, lacks, spelled) (name', cut', lacks', spelled') =
    let same = same_cut 61 name rest name' rest' (sym cut ∙ cut') lacks lacks' in
    (ap Some (sym spelled.value ∙ ap (λ t. digits_value 10 (without_leading_plus t)) same.0 ∙ spelled'.value), same.1)

-- ---- what a value names

-- a value that is cut at a sign, and what is before it is no port's number
pub no_port : (count : ℕ) (value name text : Text) → value ≡ name ++ (61 ∷ text) → LacksEqualSign name → IsNoPortNumber count name → IsNoTarget count value
no_port count value name text cut lacks none None rest is = lacks_not 61 name text (subst LacksEqualSign cut is.1)
no_port count value name text cut lacks none (Some number) rest (name', cut', lacks', spelled) =
    none number (subst (λ t. IsPortNumber count t number) (sym (same_cut 61 name text name' rest (sym cut ∙ cut') lacks lacks').0) spelled)

-- a text without a point that is no number
pub no_tag : (text : Text) → LacksPoint text → IsNoNumber 0 4094 text → IsNoVlan text
no_tag text lacks none vlan (inl one) = none vlan.outer one.outer
no_tag text lacks none vlan (inr two) = lacks_not 46 two.first two.second (subst LacksPoint two.cut lacks)

-- a text with a point, where one of its parts is no number
pub no_tags : (text first second : Text) → text ≡ first ++ (46 ∷ second) → LacksPoint first → IsNoNumber 1 4094 first ⊎ IsNoNumber 1 4094 second → IsNoVlan text
no_tags text first second cut lacks none vlan (inl one) = lacks_not 46 first second (subst LacksPoint cut one.whole)
no_tags text first second cut lacks (inl none) vlan (inr two) =
    none vlan.outer (subst (λ t. IsNumber 1 4094 t vlan.outer) (sym (same_cut 46 first second two.first two.second (sym cut ∙ two.cut) lacks two.whole).0) two.outer)
no_tags text first second cut lacks (inr none) vlan (inr two) =
    none vlan.inner (subst (λ t. IsNumber 1 4094 t vlan.inner) (sym (same_cut 46 first second two.first two.second (sym cut ∙ two.cut) lacks two.whole).1) two.inner)

module _ (chosen : Part) (is_any : Bool) (count : ℕ) (earlier : List Pick) (value : Text) (port : Option ℕ) (text : Text) (target : IsTarget count value port text) where
  -- an earlier value has picked for the same port
  pub not_fresh : is_some (pick_for port earlier) ≡ true → IsNoPick chosen is_any count earlier value
  not_fresh taken pick is =
      let same = (target_unique count value pick.port port is.rest text is.target target).0 in
      false≢true (sym is.fresh ∙ ap (λ p. is_some (pick_for p earlier)) same ∙ taken)

  -- the rest of the value names no link
  pub no_link : IsNoLink chosen text → IsNoPick chosen is_any count earlier value
  no_link none pick is =
      let same = (target_unique count value pick.port port is.rest text is.target target).1 in
      none pick.link (subst (λ t. IsLinkText chosen t pick.link) same is.link)

-- ---- the pick for a port, looked for one by one

module _ (port : Option ℕ) (picks : List Pick) (i : ℕ) (past : Pick) (found : Option LinkWord) (so_far : pick_for port (drop i picks) ≡ found) where
  here : (t : Bool) → i < length picks → is_same_port (get_or picks i past).port port ≡ t → cond t (Some (get_or picks i past).link) (pick_for port (drop (i + 1) picks)) ≡ found
  unfolding pick_for
  here t inside same =
      sym (ap (λ (b : Bool). cond b (Some (get_or picks i past).link) (pick_for port (drop (i + 1) picks))) same) ∙ sym (ap (pick_for port) (drop_more picks i past inside)) ∙ so_far

  pub found_here : i < length picks → is_same_port (get_or picks i past).port port ≡ true → Some (get_or picks i past).link ≡ found
  found_here inside same = here true inside same

  pub not_here : i < length picks → is_same_port (get_or picks i past).port port ≡ false → pick_for port (drop (i + 1) picks) ≡ found
  not_here inside same = here false inside same

pub nowhere : (port : Option ℕ) (picks : List Pick) (i : ℕ) (found : Option LinkWord) → pick_for port (drop i picks) ≡ found → length picks ≤ i → None ≡ found
unfolding pick_for
nowhere port picks i found so_far past = sym (ap (pick_for port) (drop_all i picks past)) ∙ so_far
