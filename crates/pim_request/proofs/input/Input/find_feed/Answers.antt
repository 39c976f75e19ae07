use Rattle.pim_request.proofs.Cited.{◌≡◌, arith, ℕ, List, Option, Some, None, take, drop, position}
use Rattle.pim_request.proofs.Feeds.{is_feed}
use Rattle.pim_request.proofs.Steps.{sound_searched, found_after}
use Rattle.pim_request.proofs.input.Input.find_feed.Goals as goal

-- what the search says of the bytes in the buffer
searched : (part items read : List ℕ) (count at : ℕ) (answer wanted : Option ℕ) → part ≡ take count (drop at read) → read ≡ items → answer ≡ position is_feed part → answer ≡ wanted → position is_feed (take count (drop at items)) ≡ wanted
searched part items read count at answer wanted cut same reported is = cc

pub invariant_of-self : goal.invariant_of-self
invariant_of-self g c = let s = c.self.invariant in record {
  size = s.size;
  line = s.line;
  short = s.short;
  order = omega (arith, s.order);
  within = s.within;
  no_feed = sound_searched _ _ _ _ _ _ s (searched _ _ _ _ _ _ None c.part-new.ensures c.deref.ensures.value c.first_feed.ensures c.in_default.is);
}

pub returns-in_default-clause-found : goal.returns-in_default-clause-found
returns-in_default-clause-found g c =
    rw (← c.self.view_is) (sound_searched _ _ _ _ _ _ c.self.invariant (searched _ _ _ _ _ _ None c.part-new.ensures c.deref.ensures.value c.first_feed.ensures c.in_default.is))

pub returns-clause-found : goal.returns-clause-found
returns-clause-found g c =
    rw (← c.self.view_is) (found_after _ _ _ _ _ _ _ c.self.invariant (searched _ _ _ _ _ _ (Some c.in-Some.place) c.part-new.ensures c.deref.ensures.value c.first_feed.ensures c.in-Some.is))
