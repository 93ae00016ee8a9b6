-- What an event is whose texts are lent.
use Rattle.ug_types.specs.declared.event.Event.{Event}
use Rattle.ug_types.specs.declared.event.Event.TheVariants.{Sweep, Order, Hint}
use Rattle.ug_core.specs.declared.lent.LentEvent.{LentEvent}
use Rattle.ug_core.specs.declared.lent.LentEvent.TheVariants as lent

abbrev pub event_lent : LentEvent → Event
event_lent (lent.Sweep moment) = Sweep moment
event_lent (lent.Order moment who line) = Order moment who.now line.now
event_lent (lent.Hint moment piece) = Hint moment piece.now
