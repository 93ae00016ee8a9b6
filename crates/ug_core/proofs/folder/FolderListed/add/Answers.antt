use Rattle.std.proofs.Common.{◌≡◌, ◌<◌, length, Option, Some, refl, subst, arith}
use Rattle.std.specs.Prelude.{IfSome}
use Rattle.ug_policy.specs.Rules.{Rules, most_rules}
use Rattle.ug_policy.specs.declared.entry.Mark.TheVariants as mark
use Rattle.ug_core.specs.Starting.{AreOfFolder, HoldsJust, marked_in}
use Rattle.ug_core.proofs.Listing.{holds_once_tried, none_permanent, own_once_tried}
use Rattle.ug_core.proofs.folder.FolderListed.add.Goals as goal

held : (o : Option Rules) (list : Rules) → o ≡ Some list → IfSome o (λ l. HoldsJust (marked_in l.entries) l × AreOfFolder l.entries) → HoldsJust (marked_in list.entries) list × AreOfFolder list.entries
held o list is h = subst (λ (p : Option Rules). IfSome p (λ l. HoldsJust (marked_in l.entries) l × AreOfFolder l.entries)) is h

pub append-requires-clause-order : goal.append-requires-clause-order
append-requires-clause-order c = (refl, none_permanent c.in-Some.list.entries (held c.self.inside.list c.in-Some.list c.in-Some.is c.self.invariant).1.own)

pub invariant_of-self-then-len-lt-MAX_RULES : goal.invariant_of-self-then-len-lt-MAX_RULES
invariant_of-self-then-len-lt-MAX_RULES c =
    let before = held c.self.inside.list c.in-Some.list c.in-Some.is c.self.invariant in
    let room : length c.in-Some.list.entries < most_rules = omega arith in
    let back = c.stay_readable.ensures.reads c.requires in (
      holds_once_tried (record { mark = mark.Folder; rule = c.args.rule }) c.in-Some.list c.append.new.list c.append.result before.0 c.append.ensures.rules c.append.ensures.next c.append.ensures.history c.append.ensures.err,
      own_once_tried c.args.rule c.in-Some.list c.append.new.list c.append.result before.1 room back c.append.ensures.rules c.append.ensures.err,
    )
