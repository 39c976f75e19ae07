use Rattle.pim_request.proofs.Cited.{◌≡◌, take, is_digit, list_all}
use Rattle.pim_request.proofs.hex.are_digits.Given as goal

-- whether each byte so far is a digit
abbrev pub invariant-loop-byte : goal.invariant-loop-byte
invariant-loop-byte l = l.are_all ≡ list_all (λ byte. is_digit byte 16) (take l.byte-index l.text)
