-- What a name's part tells of want of memory: it tells it just where memory was refused in it.
use Rattle.std.proofs.Common.{◌≡◌, ℕ, Bool, ◌||◌, List, [], ◌∷◌, ◌++◌, Option, refl, sym, ◌∙◌, ap}
use Rattle.std.proofs.lemmas.List.Folds.{list_any-append}
use Rattle.ug_table.proofs.Common.{Made, Write, Bound, Entry, AllBear, EndsUnsettled, Fault}
use Rattle.ug_table.specs.declared.standing.Standing.{Standing}
use Rattle.ug_table.specs.declared.standing.Settled.{Settled}
use Rattle.ug_table.specs.One.{whys}
use Rattle.ug_table.proofs.Shapes.{Flat}
use Rattle.ug_table.proofs.OnePart.{flat_whys, flat_short, flat_is_part}
use Rattle.ug_table.proofs.PartCalls.{are_short}
use Rattle.ug_script.specs.Play.{entry_tells_memory, tells_memory}
use Rattle.ug_script.proofs.Plays.{refused}

pub memory_more : (es fs : List Entry) → tells_memory (es ++ fs) ≡ (tells_memory es || tells_memory fs)
memory_more es fs = list_any-append entry_tells_memory es fs

memory_told : (name : List ℕ) (es : List Entry) → AllBear name es → EndsUnsettled name es
    → tells_memory es ≡ are_short (whys es)
memory_told name [] b h = refl
memory_told name (Entry.Unsettled other (Fault.Call failed) ∷ es) b h = memory_told name es b.1 h.1
memory_told name (Entry.Unsettled other Fault.Memory ∷ es) b h = refl
memory_told name (Entry.UnsettledAll why ∷ es) b h = absurd h.0
memory_told name (Entry.Save became ∷ es) b h = absurd b.0
memory_told name (Entry.Reply answered ∷ es) b h = absurd h.0
memory_told name (e ∷ es) b h = memory_told name es b.1 h.1

pub flat_want : {hub : Option Write} {binds : Bool} {given : List Standing → Bound → Standing → Type 0} {name : List ℕ}
    {ss : List Standing} {ok : Bool} {ms : List Made} {rest : List Entry} {how : Settled}
    {rs : List Standing} {o : Option (List Standing × Bound)}
    → Flat hub binds given name ss ok ms rest how rs o → tells_memory rest ≡ refused ok ms
flat_want {name = name} {rest = rest} f =
    let part = flat_is_part f in
    memory_told name rest part.bears part.last ∙ ap are_short (flat_whys f) ∙ sym (flat_short f)
