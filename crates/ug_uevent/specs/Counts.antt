-- How far a stream was read.
use Rattle.std.specs.Prelude.{◌≡◌, true, false, length}
use Rattle.ug_uevent.specs.Streams.{BegunMessage, Partial, Overlong, Stream}
use Rattle.ug_uevent.specs.declared.count.Progress.{Progress}

abbrev pub Began : Progress → BegunMessage → Type 0
Began p (Partial bytes fresh) = (p.ended ≡ false) × (p.length ≡ length bytes) × (p.fresh ≡ fresh)
Began p Overlong = p.ended ≡ true

abbrev pub CountsStream : Progress → Stream → Type 0
CountsStream p s = (p.messages ≡ length s.messages) × Began p s.begun
