-- What happens to a router, one timer after the other.
use Rattle.pim_audit.proofs.Words.{ℕ, List, [], ◌∷◌, ◌++◌, None, Some, arith, Firing, FiresTo, gone_between, timer_fired}
use Rattle.pim_audit.proofs.Words.{FiringPasses, HappeningGoesOn, RouterState, HappensTo}

pub happens_first : FiringPasses → HappeningGoesOn → (moment : ℕ) (router middle after : RouterState) (f : Firing (List ℕ))
    → FiresTo moment router (Some f) middle → HappensTo moment middle after → HappensTo moment router after
happens_first passes on moment router middle after f fires happens = record {
  reported = (gone_between router middle ++ (middle.machines.moment, timer_fired f) ∷ []) ++ happens.reported;
  happens = on moment moment router middle after (gone_between router middle ++ (middle.machines.moment, timer_fired f) ∷ [])
      happens.reported (omega arith) (passes moment router middle f fires) happens.happens;
}

pub happens_last : (moment : ℕ) (router after : RouterState) → FiresTo moment router None after → HappensTo moment router after
happens_last moment router after fires = record { reported = gone_between router after; happens = fires }
