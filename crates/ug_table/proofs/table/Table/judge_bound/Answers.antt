use Rattle.std.proofs.Common.{◌≡◌, ◌+◌, ◌++◌, ◌∷◌, [], ◌∙◌, Bool, false, is_none, refl, ap, sym, subst, arith, min, List, length}
use Rattle.std.specs.Prelude.{vec_capacity}
use Rattle.ug_kernel.specs.Tree.{Room}
use Rattle.ug_types.specs.Names.{parent_of}
use Rattle.ug_audit.specs.Journal.{noted_in}
use Rattle.ug_table.specs.Settle.{if_place, kept_standings, no_room}
use Rattle.ug_table.specs.State.{state_of, terms_of}
use Rattle.ug_table.specs.Table.{TableState}
use Rattle.ug_table.proofs.Common.{Entry, Runs}
use Rattle.ug_table.proofs.Admitted.{judged_so}
use Rattle.ug_table.specs.Standings.{standing_of}
use Rattle.ug_table.specs.Order.{StandInOrder}
use Rattle.ug_table.specs.declared.standing.Standing.{Standing}
use Rattle.ug_table.proofs.Marks.{kept_more}
use Rattle.ug_table.proofs.Loops.{notes_then}
use Rattle.ug_table.proofs.Agreement.{unknown_named, next_unnumbered}
use Rattle.ug_table.proofs.table.Table.judge_bound.Goals as goal

pub invariant_of-self-3 : goal.invariant_of-self-3
invariant_of-self-3 g c =
    let x : Standing = record {
      number = c.self.inside.next;
      name = c.args.name.now;
      held = c.args.bound.now.held;
      judged = c.args.judged;
      hash = c.args.hash;
      verdict = c.verdict-verdict.result.0;
      cause = c.verdict-verdict.result.1;
      settled = false;
      removed = false;
      defaulted = c.treat-settled.result.1;
    } in
    let cap = vec_capacity c.hold_place.new.names in
    let items = c.hold_place.ensures.items in
    let seen = ap (λ (v : TableState). v.standings) c.self.view_is in
    let long = ap length seen in
    let room = c.hold_place.ensures.room c.if-not-hold_place.false in
    kept_more c.self.inside.next cap cap (min cap cap) c.hold_place.new.standings.items _ _ x c.treat-settled.result.0 refl refl (items ∙ seen) c.requires.absent refl (omega (arith, room, long)) c.keep.ensures.standings c.keep.ensures.len (subst (λ (v : List Standing). StandInOrder c.self.inside.next v) (sym items) c.self.invariant.0)

pub returns-clause-journal : goal.returns-clause-journal
returns-clause-journal g c = notes_then _ 1 8 _ _ _ _ (c.push.ensures.same, c.push.ensures.room, omega (arith, c.push.ensures.spare)) (notes_then _ 7 1 _ _ _ _ c.treat-settled.ensures.journal c.note_unsettled.ensures.journal (omega arith)) (omega arith)

pub hold_place-requires-clause-unnamed : goal.hold_place-requires-clause-unnamed
hold_place-requires-clause-unnamed g c = unknown_named c.args.name.now c.self.inside.standings.items (ap (λ (v : TableState). standing_of c.args.name.now v.standings) c.self.view_is ∙ c.requires.absent)

pub hold_place-requires-clause-unnumbered : goal.hold_place-requires-clause-unnumbered
hold_place-requires-clause-unnumbered g c = next_unnumbered c.self.inside.next c.self.inside.standings.items c.self.invariant.0.numbers

pub returns-then-not-hold_place-clause-runs : goal.returns-then-not-hold_place-clause-runs
returns-then-not-hold_place-clause-runs g c =
    let made : List Standing → TableState = λ v. record { standings = v; next = c.self.inside.next; listed = c.self.inside.listed } in
    let same : made c.hold_place.new.standings.items ≡ c.args.self.now = ap made c.hold_place.ensures.items ∙ c.self.view_is in
    let judge = g.A.Judge.meaning c.args.judge.now in
    let h = c.lack_memory in
    (false, subst (λ (v : TableState). Runs g.Y.Sysfs.gives c.args.sysfs.now (no_room (state_of c.args.hub_default v judge (noted_in c.args.out.now).entries) c.args.name.now c.args.bound.now.held.0) (h.result, state_of c.args.hub_default (made c.hold_place.new.standings.items) judge (noted_in h.new.out).entries) h.new.sysfs) same h.ensures.runs)

pub returns-clause-runs : goal.returns-clause-runs
returns-clause-runs g c =
    let name = c.args.name.now in
    let b = c.args.bound.now in
    let hub = c.args.hub_default in
    let judge = g.A.Judge.meaning c.args.judge.now in
    let es = (noted_in c.args.out.now).entries in
    let was : TableState = record { standings = c.self.inside.standings.items; next = c.self.inside.next; listed = c.self.inside.listed } in
    let now : TableState = record { standings = c.keep.new.standings.items; next = c.self.inside.next + 1; listed = c.self.inside.listed } in
    let given = c.verdict-verdict in
    let held = c.hold_place.new.standings.items in
    let items = c.hold_place.ensures.items in
    let h = c.treat-settled in
    let x : Standing = record {
      number = c.self.inside.next;
      name = name;
      held = b.held;
      judged = c.args.judged;
      hash = c.args.hash;
      verdict = given.result.0;
      cause = given.result.1;
      settled = false;
      removed = false;
      defaulted = h.result.1;
    } in
    let answered = given.ensures.answer ∙ ap (λ (v : Bool). g.A.Judge.answer judge c.args.judged v c.args.present b.on held) c.is_controller.ensures ∙ ap (λ (v : List Standing). g.A.Judge.answer judge c.args.judged (is_none (parent_of name)) c.args.present b.on v) items in
    let later = given.ensures.later ∙ ap (λ (v : Bool). g.A.Judge.later judge c.args.judged v c.args.present b.on held) c.is_controller.ensures ∙ ap (λ (v : List Standing). g.A.Judge.later judge c.args.judged (is_none (parent_of name)) c.args.present b.on v) items in
    let noted = c.push.ensures.entries ∙ ap (λ (e : Entry). es ++ e ∷ []) c.entry_of.ensures in
    let kept = c.keep.ensures.standings ∙ ap (λ (v : List Standing). kept_standings v x h.result.0) items in
    subst (λ (v : TableState). Runs g.Y.Sysfs.gives c.args.sysfs.now (Room (if_place g.A.Judge.answer g.A.Judge.later name (terms_of c.args.present hub) (state_of hub v judge es) b c.args.judged c.args.hash)) (h.result.0, state_of hub now (g.A.Judge.meaning given.new.self) (noted_in c.note_unsettled.new.out).entries) h.new.sysfs) c.self.view_is
    (judged_so g.Y.Sysfs.gives g.A.Judge.answer g.A.Judge.later name (terms_of c.args.present hub) (state_of hub was judge es) b c.args.judged c.args.hash c.args.sysfs.now h.new.sysfs (h.result.0, h.result.1, (noted_in h.new.out).entries) given.result c.known_of-known.result (noted_in c.push.new.self).entries (noted_in c.note_unsettled.new.out).entries c.keep.new.standings.items (g.A.Judge.meaning given.new.self) answered c.known_of-known.ensures noted h.ensures.runs kept later c.note_unsettled.ensures.entries)
