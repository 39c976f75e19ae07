-- Files in memory, one after another.
use Rattle.pim_files.proofs.Words.{◌≡◌, ◌∙◌, sym, ap, ℕ, ◌+◌, ◌<◌, Bool, cond, List, length, drop, get_or, Some}
use Rattle.pim_files.proofs.Words.{bytes_eq, drop_more, held_content}
use Rattle.pim_files.specs.declared.held.HeldFile.{HeldFile}

-- the file at this place has the name, or those after it hold what is asked
pub one_file : (files : List HeldFile) (place : ℕ) (other : HeldFile) (name : List ℕ) (b : Bool) → place < length files → b ≡ bytes_eq (get_or files place other).name.now name
    → held_content (drop place files) name ≡ cond b (Some (get_or files place other).bytes.now) (held_content (drop (place + 1) files) name)
one_file files place other name b below is =
    ap (λ l. held_content l name) (drop_more files place other below)
    ∙ ap (λ t. cond t (Some (get_or files place other).bytes.now) (held_content (drop (place + 1) files) name)) (sym is)
