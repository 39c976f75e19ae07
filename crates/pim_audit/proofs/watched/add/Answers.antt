use Rattle.std.proofs.Common.{refl}
use Rattle.pim_audit.proofs.Machines.{inserted, ordered}
use Rattle.pim_audit.proofs.watched.add.Goals as goal

pub returns-in-Ok-clause-has : goal.returns-in-Ok-clause-has
returns-in-Ok-clause-has g c =
    (inserted g.F.Family.bytes_of _ c.args.machines.now.keys c.insert.new.self.keys
    (record { group = c.args.group; what = c.args.what }) c.in-Ok.ensures.keys
    (ordered g.F.Family.bytes_of g.F.Addr.Ord.cmp g.met.F.Family.order_of_bytes _ (λ g h. refl) (λ g h t. refl) (λ g h t. refl)
    (λ g h s. refl) (λ g h s t. refl) (λ g h s t. refl) (λ g h s. refl) (λ g h s t. refl) (λ g h s t. refl))).0

pub returns-in-Ok-clause-grows : goal.returns-in-Ok-clause-grows
returns-in-Ok-clause-grows g c =
    (inserted g.F.Family.bytes_of _ c.args.machines.now.keys c.insert.new.self.keys
    (record { group = c.args.group; what = c.args.what }) c.in-Ok.ensures.keys
    (ordered g.F.Family.bytes_of g.F.Addr.Ord.cmp g.met.F.Family.order_of_bytes _ (λ g h. refl) (λ g h t. refl) (λ g h t. refl)
    (λ g h s. refl) (λ g h s t. refl) (λ g h s t. refl) (λ g h s. refl) (λ g h s t. refl) (λ g h s t. refl))).1
