use Rattle.std.proofs.Common.{ℕ, List, Option, Some, subst, drop, ◌∙◌}
use Rattle.ug_client.specs.Watching.{ShowsBy}
use Rattle.ug_client.specs.declared.asked.Asked.{Asked}
use Rattle.ug_client.proofs.stream.show_kept.Goals as goal

pub returns-in-Some-clause-shows : goal.returns-in-Some-clause-shows
returns-in-Some-clause-shows g c =
    let s = c.show_notices-shown in
    let held0 = g.K.Sink.held c.args.out.now in
    let held = g.K.Sink.held s.new.out in
    record {
      rest = drop s.result.at c.args.kept.now.items;
      room = s.result.room;
      told = subst (λ (b : List ℕ). ShowsBy b c.args.room.now held0 (drop s.result.at b) s.result.room held (Some c.in-Some.ended)) c.deref.ensures.value
          (subst (λ (e : Option Asked). ShowsBy c.deref.result.now c.args.room.now held0 (drop s.result.at c.deref.result.now) s.result.room held e) c.in-Some.is s.ensures.shows);
    }

pub returns-in-Some-clause-no_link : goal.returns-in-Some-clause-no_link
returns-in-Some-clause-no_link g c = λ e. c.show_notices-shown.ensures.no_link (c.in-Some.is ∙ e)

pub returns-in-Some-clause-cause : goal.returns-in-Some-clause-cause
returns-in-Some-clause-cause g c = λ e. c.show_notices-shown.ensures.cause (c.in-Some.is ∙ e)
