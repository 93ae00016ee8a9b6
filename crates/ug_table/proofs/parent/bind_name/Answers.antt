use Rattle.std.proofs.Common.{List, ℕ, Option, IsSome, option_copied, ap, refl, subst, sym}
use Rattle.ug_table.proofs.parent.bind_name.Goals as goal

pub bind_under-requires : goal.bind_under-requires
bind_under-requires g c = subst (λ (o : Option (List ℕ)). IsSome o) (sym (c.requires c.in-Some.parent.now (ap option_copied c.in-Some.is))) refl
