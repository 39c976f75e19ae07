-- Decimals as names of ports.
use Rattle.std.proofs.Common.{◌≡◌, ℕ, ◌+◌, ◌%◌, ◌^◌, ◌<◌, true, [], ◌∷◌, decimal, refl, ◌∙◌, arith, le-leb}
use Rattle.std.proofs.lemmas.Fmt.{decimal_by_steps}
use Rattle.std.proofs.lemmas.List.Folds.{list_all-append}
use Rattle.std.specs.List.{list_all}
use Rattle.pim_lines.specs.PortNames.{is_port_name_byte}

digit_is_name_byte : (n : ℕ) → n < 10 → is_port_name_byte (48 + n) ≡ true
digit_is_name_byte n small = rw (le-leb 48 (48 + n) (omega arith), le-leb (48 + n) 57 (omega arith)) refl

pub decimal_is_name : (n : ℕ) → n < 2 ^ 64 → list_all is_port_name_byte (decimal n) ≡ true
decimal_is_name n fits =
    decimal_by_steps (λ m ds. list_all is_port_name_byte ds ≡ true)
    (λ m small. rw (digit_is_name_byte m small) refl)
    (λ m ds large all. list_all-append is_port_name_byte ds ((48 + m % 10) ∷ []) ∙ rw (all, digit_is_name_byte (m % 10) (omega arith)) refl)
    n fits
