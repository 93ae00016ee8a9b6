use Rattle.std.proofs.Common.{◌<◌, Option, Some, ℕ, refl, sym, subst, ◌∙◌, arith}
use Rattle.ug_sysfs.proofs.Links.{Felling, WentAlone, child_places, fells_unless, felling_done, first_walk, has_kin_begins, next_smaller, next_walk, still_left, went_alone}
use Rattle.ug_sysfs.proofs.kin.+fell.Goals as goal

pub returns-then-not-fell-clause-devices : goal.returns-then-not-fell-clause-devices
returns-then-not-fell-clause-devices t c =
    fells_unless c.args.place c.args.roster.now.devices c.fell.new.self.devices c.requires.place c.fell.ensures.devices (sym c.fell.ensures.live ∙ c.if-not-fell.true)

pub loop-next-init : goal.loop-next-init
loop-next-init t c =
    let p = c.args.place in
    let ds = c.args.roster.now.devices in
    let es = c.fell.new.self.devices in
    let a = subst (WentAlone p ds) (sym c.fell.ensures.devices) (went_alone p ds c.requires.place) in
    let h = has_kin_begins c.args.kin.now ds es a.facts a.number c.requires.kin in
    record {
      walk = subst (Felling p es es) (sym c.youngest_under-next.ensures) (first_walk c.args.kin.now es p h (omega (arith, a.number, c.requires.place)));
      room = refl;
    }

pub fell-requires-in-Some : goal.fell-requires-in-Some
fell-requires-in-Some t c =
    let p = c.args.place in
    let ds = c.args.roster.now.devices in
    let es = c.fell.new.self.devices in
    let a = subst (WentAlone p ds) (sym c.fell.ensures.devices) (went_alone p ds c.requires.place) in
    let h = has_kin_begins c.args.kin.now ds es a.facts a.number c.requires.kin in
    let w = subst (Felling p es c.loop-next.roster.devices) c.in-Some.is c.loop-next.invariant.walk in
    let q = child_places c.args.kin.now es c.loop-next.roster.devices p c.in-Some.child h w in
    (omega (arith, q.0, q.1, w.number, a.number, c.decreases), (has_kin_begins c.args.kin.now es c.loop-next.roster.devices w.facts w.number h, q.1))

pub loop-next-smaller : goal.loop-next-smaller
loop-next-smaller t c =
    let p = c.args.place in
    let ds = c.args.roster.now.devices in
    let es = c.fell.new.self.devices in
    let a = subst (WentAlone p ds) (sym c.fell.ensures.devices) (went_alone p ds c.requires.place) in
    let h = has_kin_begins c.args.kin.now ds es a.facts a.number c.requires.kin in
    let w = subst (Felling p es c.loop-next.roster.devices) c.in-Some.is c.loop-next.invariant.walk in
    let less = next_smaller c.args.kin.now es c.loop-next.roster.devices p c.in-Some.child h w in
    subst (λ (o : Option ℕ). still_left c.next_older-next.result < still_left o) (sym c.in-Some.is)
    (subst (λ (o : Option ℕ). still_left o < still_left (Some c.in-Some.child)) (sym c.next_older-next.ensures) less)

pub loop-next-preserved : goal.loop-next-preserved
loop-next-preserved t c =
    let p = c.args.place in
    let ds = c.args.roster.now.devices in
    let es = c.fell.new.self.devices in
    let a = subst (WentAlone p ds) (sym c.fell.ensures.devices) (went_alone p ds c.requires.place) in
    let h = has_kin_begins c.args.kin.now ds es a.facts a.number c.requires.kin in
    let w = subst (Felling p es c.loop-next.roster.devices) c.in-Some.is c.loop-next.invariant.walk in
    record {
      walk = subst (Felling p es c.fell-in-Some.new.roster.devices) (sym c.next_older-next.ensures) (next_walk c.args.kin.now es c.loop-next.roster.devices c.fell-in-Some.new.roster.devices p c.in-Some.child h w c.fell-in-Some.ensures.devices);
      room = c.fell-in-Some.ensures.room ∙ c.loop-next.invariant.room;
    }

pub returns-clause-devices : goal.returns-clause-devices
returns-clause-devices t c =
    let p = c.args.place in
    let ds = c.args.roster.now.devices in
    let es = c.fell.new.self.devices in
    let a = subst (WentAlone p ds) (sym c.fell.ensures.devices) (went_alone p ds c.requires.place) in
    felling_done p ds es c.loop-next.roster.devices a (subst (Felling p es c.loop-next.roster.devices) c.in_default.is c.loop-next.invariant.walk)
