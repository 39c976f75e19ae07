-- What is asked for can always be given.
use Rattle.pim_text.proofs.Words.{◌≡◌, refl, ℕ, zero, suc, ◌<◌, true, List, [], ◌∷◌, ◌++◌, Some, codes, Line, Hello, Set, Join}
use Rattle.pim_text.proofs.Words.{Prune, Expected, Message, Options, lit<, lit≤, slice_index, Ipv4, IsAddress, address_text}
use Rattle.pim_text.proofs.Words.{IsText, WrittenTextNames, Star, V4, IsLine, AreLines, numbers_text, after_all, is_whole}
use Rattle.pim_text.specs.declared.line.Expected.TheVariants.{Body as OfBody}
use Rattle.pim_text.proofs.Runs.{body}

-- Lines that end a message.
pub record Completion (expected : Expected) : Type 0 where
  pub rest : List Line
  pub texts : List (List ℕ)
  pub are : AreLines rest texts
  pub end : Expected
  pub run : after_all expected rest ≡ Some end
  pub whole : is_whole end ≡ true

abbrev nought : List ℕ
nought = 0 ∷ (0 ∷ (0 ∷ (0 ∷ [])))

nought_is_address : IsAddress Ipv4 nought
nought_is_address = (refl, at)
  where
    at : (i : ℕ) → slice_index nought i < 256
    at zero = lit< tt
    at (suc zero) = lit< tt
    at (suc (suc zero)) = lit< tt
    at (suc (suc (suc zero))) = lit< tt
    at (suc (suc (suc (suc i)))) = lit< tt

module _ (written : WrittenTextNames) where
  named : IsText Ipv4 (address_text Ipv4 nought) nought
  named = written Ipv4 nought nought_is_address

  abbrev entry_text : List ℕ → List ℕ
  entry_text list = list ++ (codes "star " ++ (address_text Ipv4 nought ++ (10 ∷ [])))

  join_is : IsLine (Join (Star (V4 nought))) (entry_text (codes "join "))
  join_is = (codes "star " ++ (address_text Ipv4 nought ++ (10 ∷ [])), refl, (address_text Ipv4 nought, named, refl))

  prune_is : IsLine (Prune (Star (V4 nought))) (entry_text (codes "prune "))
  prune_is = (codes "star " ++ (address_text Ipv4 nought ++ (10 ∷ [])), refl, (address_text Ipv4 nought, named, refl))

  abbrev set_text : List ℕ
  set_text = codes "set " ++ (address_text Ipv4 nought ++ numbers_text (codes " joined ") 0 (codes " pruned ") 0)

  set_is : IsLine (Set (record { group = V4 nought; joined = 0; pruned = 0 })) set_text
  set_is = (lit≤ tt, lit≤ tt, (address_text Ipv4 nought, named, refl))

  fill_sets : (sets : ℕ) → Completion (body 0 0 sets)
  fill_sets zero = record { rest = []; texts = []; are = tt; end = body 0 0 0; run = refl; whole = refl }
  fill_sets (suc sets) =
      let k = fill_sets sets in
      record { rest = Set (record { group = V4 nought; joined = 0; pruned = 0 }) ∷ k.rest; texts = set_text ∷ k.texts; are = (set_is, k.are); end = k.end; run = k.run; whole = k.whole }

  fill_prunes : (pruned sets : ℕ) → Completion (body 0 pruned sets)
  fill_prunes zero sets = fill_sets sets
  fill_prunes (suc pruned) sets =
      let k = fill_prunes pruned sets in
      record { rest = Prune (Star (V4 nought)) ∷ k.rest; texts = entry_text (codes "prune ") ∷ k.texts; are = (prune_is, k.are); end = k.end; run = k.run; whole = k.whole }

  fill_joins : (joined pruned sets : ℕ) → Completion (body joined pruned sets)
  fill_joins zero pruned sets = fill_prunes pruned sets
  fill_joins (suc joined) pruned sets =
      let k = fill_joins joined pruned sets in
      record { rest = Join (Star (V4 nought)) ∷ k.rest; texts = entry_text (codes "join ") ∷ k.texts; are = (join_is, k.are); end = k.end; run = k.run; whole = k.whole }

  pub complete : (expected : Expected) → Completion expected
  complete Message = record { rest = Hello ∷ []; texts = codes "hello\n" ∷ []; are = (refl, tt); end = Options 0; run = refl; whole = refl }
  complete (Options from) = record { rest = []; texts = []; are = tt; end = Options from; run = refl; whole = refl }
  complete (OfBody b) = fill_joins b.joined b.pruned b.sets
