-- What a script fixes of reads and writes.
use Rattle.std.specs.Prelude.{ℕ, List, [], ◌∷◌, cond, nat_eq, length, take, drop, min, Option, Some, None}
use Rattle.ug_links.specs.declared.links.LinkWrote.{LinkWrote}
use Rattle.ug_links.specs.declared.links.LinkWrote.TheVariants as wrote
use Rattle.ug_links.specs.declared.step.Reading.{Reading}
use Rattle.ug_links.specs.declared.step.Reading.TheVariants as given
use Rattle.ug_links.specs.declared.peer.Peer.{Peer}
use Rattle.ug_links.specs.declared.peer.ReadItem.{ReadItem}
use Rattle.ug_links.specs.declared.peer.ReadItem.TheVariants as read
use Rattle.ug_links.specs.declared.peer.WriteItem.{WriteItem}
use Rattle.ug_links.specs.declared.peer.WriteItem.TheVariants as write

-- the next item of a script, and what is left behind it
abbrev pub first_item : {A : Type 0} → List A → Option A
first_item [] = None
first_item (a ∷ rest) = Some a

abbrev pub other_items : {A : Type 0} → List A → List A
other_items [] = []
other_items (a ∷ rest) = rest

-- of a piece as much as there is room for; an empty one is a wait
abbrev pub piece_read : ℕ → List ℕ → Reading
piece_read room piece = cond (nat_eq (length piece) 0) given.NotYet (given.Bytes (take room piece))

abbrev pub piece_left : ℕ → Peer → Peer
piece_left room p = record p { rest = drop room p.rest }

abbrev pub item_read : ℕ → Option ReadItem → Reading
item_read room None = given.End
item_read room (Some read.Wait) = given.NotYet
item_read room (Some read.Fail) = given.Failed
item_read room (Some (read.Piece piece)) = piece_read room piece

abbrev pub item_left : ℕ → Option ReadItem → List ℕ
item_left room (Some (read.Piece piece)) = drop room piece
item_left room None = []
item_left room (Some read.Wait) = []
item_left room (Some read.Fail) = []

-- what is left of a piece comes first, and then the next item
abbrev pub read_answer : ℕ → Peer → Reading
read_answer room p =
    cond (nat_eq (length p.rest) 0) (item_read room (first_item p.reads)) (piece_read room p.rest)

abbrev pub item_taken : ℕ → Peer → Peer
item_taken room p =
    record p { rest = item_left room (first_item p.reads); reads = other_items p.reads }

abbrev pub read_after : ℕ → Peer → Peer
read_after room p = cond (nat_eq (length p.rest) 0) (item_taken room p) (piece_left room p)

abbrev pub item_wrote : ℕ → Option WriteItem → LinkWrote
item_wrote size None = wrote.Sent size
item_wrote size (Some write.Wait) = wrote.NotYet
item_wrote size (Some write.Fail) = wrote.Failed
item_wrote size (Some (write.Takes n)) = cond (nat_eq n 0) wrote.NotYet (wrote.Sent (min n size))

abbrev pub write_answer : ℕ → Peer → LinkWrote
write_answer size p = item_wrote size (first_item p.writes)

abbrev pub write_after : Peer → Peer
write_after p = record p { writes = other_items p.writes }
