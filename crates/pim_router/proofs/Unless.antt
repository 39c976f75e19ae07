-- The first cause, where a test comes before the others.
use Rattle.pim_router.proofs.Words.{◌≡◌, Bool, true, false, List, ◌++◌, Result, sym, false≢true, fault_if, Verdict}
use Rattle.pim_router.proofs.Words.{Receives, unless, RouterState}

-- the test isn't passed
pub not_first : (test : Bool) (cause : Verdict) (others : List Verdict) (old : RouterState) (taken : Verdict × RouterState) → test ≡ false →
    {E : Type 0} (answer : Result Verdict E) (new : RouterState) → Receives others (unless others old taken) old answer new →
    Receives (fault_if test cause ++ others) (unless (fault_if test cause ++ others) old taken) old answer new
not_first true cause others old taken is answer new ends = absurd (false≢true (sym is))
not_first false cause others old taken is answer new ends = ends
