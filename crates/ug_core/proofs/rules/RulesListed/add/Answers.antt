use Rattle.std.proofs.Common.{◌≡◌, Option, Some, subst}
use Rattle.std.specs.Prelude.{IfSome}
use Rattle.ug_policy.specs.Rules.{Rules}
use Rattle.ug_policy.specs.declared.entry.Mark.TheVariants as mark
use Rattle.ug_core.specs.Starting.{HoldsJust, marked_in}
use Rattle.ug_core.proofs.Listing.{holds_once_tried}
use Rattle.ug_core.proofs.rules.RulesListed.add.Goals as goal

held : (o : Option Rules) (list : Rules) → o ≡ Some list → IfSome o (λ l. HoldsJust (marked_in l.entries) l) → HoldsJust (marked_in list.entries) list
held o list is h = subst (λ (p : Option Rules). IfSome p (λ l. HoldsJust (marked_in l.entries) l)) is h

pub invariant_of-self-then-len-lt-MAX_RULES : goal.invariant_of-self-then-len-lt-MAX_RULES
invariant_of-self-then-len-lt-MAX_RULES c =
    let before : HoldsJust (marked_in c.in-Some.list.entries) c.in-Some.list = held c.self.inside.list c.in-Some.list c.in-Some.is c.self.invariant in
    holds_once_tried (record { mark = mark.File; rule = c.args.rule }) c.in-Some.list c.append.new.list c.append.result before c.append.ensures.rules c.append.ensures.next c.append.ensures.history c.append.ensures.err
