use Rattle.ug_uevent.proofs.Handing.{reads_as, handed}
use Rattle.ug_uevent.proofs.hints.Hints.next_hint.Goals as goal

pub returns-in-Message : goal.returns-in-Message
returns-in-Message c =
    handed c.self.inside.ended c.self.inside.bytes.items c.deref.result.now c.self.inside.at c.in-Message.length c.args.self.now c.parse_uevent-hint.result c.if-self.false c.deref.ensures.value c.in-Message.ensures
    c.self.view_is (reads_as _ c.parse_uevent-hint.result c.parse_uevent-hint.ensures.good c.parse_uevent-hint.ensures.bad)
