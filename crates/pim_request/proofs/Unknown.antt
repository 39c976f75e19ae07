-- A command that none of the usages has.
use Rattle.pim_request.proofs.Cited.{◌≡◌, ◌∙◌, sym, ap, subst, refl, ℕ, Bool, false, cond, List, [], ◌∷◌, Bor, AllByRecursion}
use Rattle.pim_request.proofs.Cited.{bytes_eq, false_from_ne_true, Word, Slot, words_of, Usage, usages, forms_in, IsFaultOf}
use Rattle.pim_request.proofs.Cited.{IsFaultAmong, IsWordsFault, IsNone, names_of_setup, names_of_kept, names_of_router}
use Rattle.std.proofs.lemmas.Slice.Eq.{bytes_eq-Decides}

no_forms : (among : List Usage) (command : List ℕ) → AllByRecursion (λ usage. command ≡ usage.command → ⊥) among → forms_in among command ≡ []
no_forms [] command none = refl
no_forms (usage ∷ others) command none =
    let other : bytes_eq usage.command command ≡ false = false_from_ne_true (bytes_eq usage.command command) (λ same. none.0 (sym ((bytes_eq-Decides usage.command command).0 same))) in
    ap (λ (b : Bool). cond b usage.forms (forms_in others command)) other ∙ no_forms others command none.1

pub unknown_among : (among : List Usage) (line : List ℕ) (command : Bor (List ℕ)) (words : List (List ℕ)) → words_of line ≡ command.now ∷ words → AllByRecursion (λ usage. command.now ≡ usage.command → ⊥) among → IsFaultAmong among line (Word command)
unknown_among among line command words same none =
    (command.now, words, same, subst (λ (forms : List (List Slot)). IsFaultOf forms command.now words (Word command)) (sym (no_forms among command.now none)) refl)

pub unknown : (line : List ℕ) (command : Bor (List ℕ)) (words : List (List ℕ)) → words_of line ≡ command.now ∷ words → IsNone command.now names_of_router → IsNone command.now names_of_kept → IsNone command.now names_of_setup → IsWordsFault line (Word command)
unknown line command words same r k s =
    unknown_among usages line command words same (
      s.0,
      (s.1.0, (s.1.1.0, (s.1.1.1.0, (s.1.1.1.1.0, (r.1.0, (r.0, (r.1.1.0, (r.1.1.1.0, (r.1.1.1.1.0, (r.1.1.1.1.1.0, (r.1.1.1.1.1.1.0, (k.0, (k.1.0, (k.1.1.0, (k.1.1.1.0, (s.1.1.1.1.1.0, tt)))))))))))))))),
    )
