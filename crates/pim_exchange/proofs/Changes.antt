-- The parts of a change between two routers.
use Rattle.pim_exchange.proofs.Words.{◌≡◌, ℕ, List, Option, None, Some, Err, inr, sym, ap, subst, ◌∙◌, Appends, AddressFamily}
use Rattle.pim_exchange.proofs.Words.{RouteTable, rp_of, OneNormalForm, Writing, GroupForm, too_big, MirrorFault, ChangeFits}
use Rattle.pim_exchange.proofs.Words.{messages_text, demanded, IsDemandedBy, IsTooBig, RouterState, AreCarried, HasNoRoom}
use Rattle.pim_exchange.proofs.Words.{MovedAgain, IsChangeBetween, ReportsChange, of_mirror}
use Rattle.pim_change.specs.Change.{change}
use Rattle.pim_change.specs.Written.{CarryChange}
use Rattle.pim_change.specs.TooBig as changed
use Rattle.pim_mirror.specs.declared.mirroring.MirrorFault.TheVariants as mirror
use Rattle.pim_router.specs.Change.{IsChangeTooBig}
use Rattle.pim_exchange.proofs.FreshHearings.{one_of, sent_by}

-- where each star of the second fits, so does the change
pub never_too_big : OneNormalForm → ChangeFits → (family : AddressFamily) (writing : Writing) (last : List GroupForm) (other : RouterState) (group : List ℕ) → IsTooBig family writing other None
    → IsChangeTooBig family writing last other (Some group) → ⊥
never_too_big one fitting family writing last other group fits big = none (sym all_fit ∙ big.least)
  where
    same : fits.form ≡ big.form
    same = one_of one family (demanded family writing.upstream other) fits.form big.form fits.is big.is

    all_fit : changed.too_big family writing.budget (change last big.form) ≡ None
    all_fit = fitting family writing.budget last big.form (ap (too_big family writing.budget) (sym same) ∙ fits.least)

    none : ◌≡◌ {A = Option (List ℕ)} None (Some group) → ⊥
    none e = cc

-- what is told of two routers that have one table
pub told_between : OneNormalForm → (family : AddressFamily) (table : RouteTable) (writing : Writing) (one other : RouterState) (before changes wanted : List (List ℕ)) → table ≡ one.routes → table ≡ other.routes
    → IsDemandedBy family writing one before → IsTooBig family writing one None → IsDemandedBy family writing other wanted → IsTooBig family writing other None → IsChangeBetween family writing one other changes
    → AreCarried family table writing before changes wanted
told_between form family table writing one other before changes wanted here there was fits is fit between =
    let old : between.form ≡ was.form = one_of form family (demanded family writing.upstream one) between.form was.form between.was was.is in
    let new : between.reported.form ≡ is.form = one_of form family (demanded family writing.upstream other) between.reported.form is.form between.reported.is is.is in
    record {
      was = sent_by form family table writing one before here was fits;
      is = sent_by form family table writing other wanted there is fit;
      reported =
          subst (λ (f : List GroupForm). CarryChange family writing (rp_of family table) f is.form changes) old
          (subst (λ (f : List GroupForm). CarryChange family writing (rp_of family table) between.form f changes) new
          (subst (λ (t : RouteTable). CarryChange family writing (rp_of family t) between.form between.reported.form changes) (sym there) between.reported.reported));
    }

-- the fresh router doesn't hear the change
module _ {A : Type 0} (bytes_of : A → List ℕ) (family : AddressFamily) (table : RouteTable) (writing : Writing) (limit : ℕ) (one other : RouterState) (before changes wanted : List (List ℕ))
    (same : table ≡ one.routes) (demanded : IsDemandedBy family writing one before) (between : IsChangeBetween family writing one other changes) (old new : Option (List ℕ)) (text : Appends old new (messages_text changes)) where
  pub not_reported : (why : MirrorFault) → MovedAgain family table writing limit before changes wanted (Err why) → ReportsChange family writing limit one other bytes_of old new (Err (of_mirror why))
  not_reported (mirror.Full needed) full =
      record { before = before; demanded = demanded; change = changes; between = between; written = (subst (λ t. HasNoRoom family t writing limit before changes needed) same full, text) }
  not_reported mirror.Memory full = inr (record { before = before; demanded = demanded; change = changes; between = between; written = text })
