-- What `clap` refuses, told as a fault.
use Rattle.pim_words.proofs.Words.{◌≡◌, inl, inr, true, sym, subst, ◌∙◌, ErrorKind, OutOfMemory, App, Text, Kinds}
use Rattle.pim_words.proofs.Words.{HasKind, IsAmong, fault_of, takes, kind_of, HasCause, refusal_fault}
use Rattle.std.specs.Prelude.{List, Result, Ok, Err}
use Rattle.std.specs.declared.alloc.AllocError.{AllocError}
use Rattle.std.specs.declared.alloc.Global.{Global}
use Rattle.std.specs.declared.string.String.{String}
use Rattle.clap.specs.declared.error.Error.{Error}

-- an error of a kind that isn't memory
among : (kinds : Kinds) (error : Error) (kind : ErrorKind) → kind_of error ≡ kind → (kind ≡ OutOfMemory → ⊥) → HasKind kinds error → IsAmong kind kinds
among kinds error kind same other (inl memory) = absurd (other (sym same ∙ memory))
among kinds error kind same other (inr found) = let P : ErrorKind → Type 0 = λ k. IsAmong k kinds in subst P same found

-- the fault of an error whose text is this one
pub caused : (app : App) (words : List Text) (error : Error) (kind : ErrorKind) (text : Result (String Global) AllocError) → kind_of error ≡ kind
    → HasKind (fault_of app words) error → (takes app words ≡ true → kind_of error ≡ OutOfMemory) → HasCause app words (refusal_fault kind text)
caused app words error OutOfMemory text same has taken = tt
caused app words error kind (Err e) same has taken = tt
caused app words error kind (Ok shown) same has taken =
    let other : kind ≡ OutOfMemory → ⊥ = λ memory. absurd cc in
    inl ((λ takes. other (sym same ∙ taken takes)), among (fault_of app words) error kind same other has)
