-- The options of an interface, one after the other.
use Rattle.pim_container.proofs.Words.{◌≡◌, ℕ, zero, suc, ◌+◌, ◌-◌, ◌<◌, ◌≤◌, Bool, true, false, ◌||◌, ◌==◌, nat_lt}
use Rattle.pim_container.proofs.Words.{List, length, None, Some, if◌then◌else◌, ap, sym, ◌∙◌, arith, refl, common_steps}
use Rattle.pim_container.proofs.Words.{BlockEndianness, option_code, option_end, settings_with, settings_from}
use Rattle.pim_container.specs.declared.interface.Settings.{Settings}

pub ends : (left : ℕ) (order : BlockEndianness) (s : Settings) (at : ℕ) (bytes : List ℕ) → (nat_lt (length bytes) (at + 4) || option_code order at bytes == 0) ≡ true
    → settings_from left order s at bytes ≡ Some s
unfolding settings_from
ends zero order s at bytes e = refl
ends (suc left) order s at bytes e =
    ap (λ b. if b then Some s else (if nat_lt (length bytes) (option_end order at bytes) then None
    else settings_from left order (settings_with order s at bytes) (option_end order at bytes) bytes)) e

pub goes_on : (left : ℕ) (order : BlockEndianness) (s : Settings) (at : ℕ) (bytes : List ℕ) → (nat_lt (length bytes) (at + 4) || option_code order at bytes == 0) ≡ false
    → settings_from (suc left) order s at bytes ≡ (if nat_lt (length bytes) (option_end order at bytes) then None
    else settings_from left order (settings_with order s at bytes) (option_end order at bytes) bytes)
unfolding settings_from
goes_on left order s at bytes e =
    ap (λ b. if b then Some s else (if nat_lt (length bytes) (option_end order at bytes) then None
    else settings_from left order (settings_with order s at bytes) (option_end order at bytes) bytes)) e

past_end : (at size : ℕ) → size ≤ at + 0 → (b : Bool) → (nat_lt size (at + 4) || b) ≡ true
past_end at size h b = grind (arith, common_steps)

further : (order : BlockEndianness) (at : ℕ) (bytes : List ℕ) → at + 4 ≤ option_end order at bytes
further order at bytes = omega arith

-- any number of options that is enough for the bytes gives the same
pub enough : (m n : ℕ) (order : BlockEndianness) (s : Settings) (at : ℕ) (bytes : List ℕ) → length bytes ≤ at + m → length bytes ≤ at + n
    → settings_from m order s at bytes ≡ settings_from n order s at bytes
unfolding settings_from
enough zero n order s at bytes h k =
    sym (ends n order s at bytes (past_end at (length bytes) h (option_code order at bytes == 0)))
enough (suc m) zero order s at bytes h k = ends (suc m) order s at bytes (past_end at (length bytes) k (option_code order at bytes == 0))
enough (suc m) (suc n) order s at bytes h k =
    let f = further order at bytes in
    let a : length bytes ≤ option_end order at bytes + m = omega (arith, f, h) in
    let b : length bytes ≤ option_end order at bytes + n = omega (arith, f, k) in
    ap (λ r. if nat_lt (length bytes) (at + 4) || option_code order at bytes == 0 then Some s
    else (if nat_lt (length bytes) (option_end order at bytes) then None else r))
    (enough m n order (settings_with order s at bytes) (option_end order at bytes) bytes a b)

more_left : (at size : ℕ) → at + 4 ≤ size → (code : ℕ) → 0 < code → (nat_lt size (at + 4) || code == 0) ≡ false
more_left at size h code e = grind (arith, common_steps)

-- an option is read
pub read : (order : BlockEndianness) (s : Settings) (at : ℕ) (bytes : List ℕ) → at + 4 ≤ length bytes → 0 < option_code order at bytes
    → option_end order at bytes ≤ length bytes
    → settings_from (length bytes) order s at bytes ≡ settings_from (length bytes) order (settings_with order s at bytes) (option_end order at bytes) bytes
read order s at bytes h e w =
    let some : length bytes ≡ suc (length bytes - 1) = omega arith in
    let whole : nat_lt (length bytes) (option_end order at bytes) ≡ false = grind (arith, common_steps) in
    let f = further order at bytes in
    ap (λ n. settings_from n order s at bytes) some
    ∙ goes_on (length bytes - 1) order s at bytes (more_left at (length bytes) h (option_code order at bytes) e)
    ∙ ap (λ b. if b then None else settings_from (length bytes - 1) order (settings_with order s at bytes) (option_end order at bytes) bytes) whole
    ∙ enough (length bytes - 1) (length bytes) order (settings_with order s at bytes) (option_end order at bytes) bytes (omega (arith, f, h)) (omega arith)

-- an option is cut
pub cut : (order : BlockEndianness) (s : Settings) (at : ℕ) (bytes : List ℕ) → at + 4 ≤ length bytes → 0 < option_code order at bytes
    → length bytes < option_end order at bytes → settings_from (length bytes) order s at bytes ≡ None
cut order s at bytes h e w =
    let some : length bytes ≡ suc (length bytes - 1) = omega arith in
    let short : nat_lt (length bytes) (option_end order at bytes) ≡ true = grind (arith, common_steps) in
    ap (λ n. settings_from n order s at bytes) some
    ∙ goes_on (length bytes - 1) order s at bytes (more_left at (length bytes) h (option_code order at bytes) e)
    ∙ ap (λ b. if b then None else settings_from (length bytes - 1) order (settings_with order s at bytes) (option_end order at bytes) bytes) short

-- the bytes end, or an option ends them
pub at_end : (order : BlockEndianness) (s : Settings) (at : ℕ) (bytes : List ℕ) → length bytes < at + 4 → settings_from (length bytes) order s at bytes ≡ Some s
at_end order s at bytes h =
    let e : (nat_lt (length bytes) (at + 4) || option_code order at bytes == 0) ≡ true = grind (arith, common_steps) in
    ends (length bytes) order s at bytes e

pub at_code : (order : BlockEndianness) (s : Settings) (at : ℕ) (bytes : List ℕ) → option_code order at bytes ≡ 0 → settings_from (length bytes) order s at bytes ≡ Some s
at_code order s at bytes h =
    let e : (nat_lt (length bytes) (at + 4) || option_code order at bytes == 0) ≡ true = grind (arith, common_steps) in
    ends (length bytes) order s at bytes e
