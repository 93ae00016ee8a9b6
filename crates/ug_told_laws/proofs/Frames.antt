-- The settling of names leaves devices of other names as judged.
use Rattle.std.proofs.Common.{◌≡◌, ℕ, Bool, true, List, Option, inl, inr, sym, ◌∙◌, subst}
use Rattle.ug_types.specs.Elements.{Has}
use Rattle.ug_kernel.specs.declared.control.Write.{Write}
use Rattle.ug_kernel.specs.Along.{Made, Along}
use Rattle.ug_kernel.specs.Kernel.{Kernel, IsKernel}
use Rattle.ug_kernel.specs.Quiet.{Grows}
use Rattle.ug_kernel.specs.Tree.{calls}
use Rattle.ug_audit.specs.declared.entry.Entry.{Entry}
use Rattle.ug_table.specs.Bring.{wants}
use Rattle.ug_table.specs.State.{State, Answers, Laters, Terms}
use Rattle.ug_table.specs.Sweep.{settling_all}
use Rattle.ug_table.specs.Laws.{IsAsJudged}
use Rattle.ug_table.specs.declared.standing.Standing.{Standing}
use Rattle.ug_table.proofs.Common.{along_split, along_sound, along_grows}
use Rattle.ug_table.proofs.Chains.{Chain, Over, First, Linked, settling_chain}
use Rattle.ug_table.proofs.Lived.{Apart, piece_apart, lives_first, lives_last, stand_files}
use Rattle.ug_table.proofs.Standings.{Files, LiveAs, file_later, lives_between, open_named}
use Rattle.ug_told_laws.specs.Told.{NamesLeaveOthers}
use Rattle.ug_kernel.proofs.Ways.{ways_run}

judged_apart : (hub : Option Write) (other name : List ℕ) (i : ℕ) (k : Kernel) (ss : List Standing) (l : Kernel) (rs : List Standing) → (other ≡ name → ⊥) → Files k ss → LiveAs k i name → Grows k l → Apart other k ss l rs → IsAsJudged hub k ss i → IsAsJudged hub l rs i
judged_apart hub other name i k ss l rs ne f live g apart a =
    let s = a.standing.s in
    let named = open_named k s.name name s.held.0 i (f s a.standing.has) a.standing.file live in
    let value = apart.others i (wants s.verdict) live.d live.live.at (λ x. ne (sym x ∙ live.named)) (a.d, a.device, a.value) in
    record {
      standing = record { s = s; has = apart.rest s a.standing.has (λ x. ne (sym x ∙ named)); file = file_later k l s.held.0 i g a.standing.file };
      d = value.0;
      device = value.1;
      value = value.2;
      removal = λ r. g.log _ (a.removal r);
      marked = a.marked;
      default = λ what root due. let w = a.default what root due in (w.0, w.1, g.log (record { device = i; write = w.0 }) w.2);
    }

chain_apart : {J : Type 0} {answer : Answers J} {later : Laters J} {binds : Bool} {terms : Terms}
    {names : List (List ℕ)} {k l : Kernel} {w v : State J} {ok : Bool} {ms : List Made}
    {added : List Entry} (hub : Option Write) (name : List ℕ) (i : ℕ) → IsKernel k → Files k w.standings
    → LiveAs k i name → LiveAs l i name → (Has names name → ⊥)
    → Chain answer later binds terms names w ok ms added v → Along calls k ms l
    → IsAsJudged hub k w.standings i → IsAsJudged hub l v.standings i
chain_apart hub name i sound f first live ne (Over w) b a = subst (λ (m : Kernel). IsAsJudged hub m w.standings i) (sym b) a
chain_apart {k = k} {l = l} {w = w} {v = v} hub name i sound f first live ne
    (First n names how w0 x _ ok more ms ns added p rest) b a =
    let cut = along_split calls ms ns k l b in
    let u = cut.0 in
    let g = along_grows ms k u cut.1 in
    let mid = lives_between k u l i name g (along_grows ns u l cut.2) first live in
    let apart = piece_apart sound f p cut.1 in
    chain_apart hub name i (along_sound ms k u sound cut.1) apart.files mid live (λ has. ne (inr has)) rest cut.2
    (judged_apart hub n name i k w.standings u x.standings (λ same. ne (inl same)) f first g apart a)

pub names_apart : {J : Type 0} (answer : Answers J) (later : Laters J) → NamesLeaveOthers answer later
names_apart answer later terms names w k l v sound stand r hub i d lives ne a =
    let x = ways_run calls (Linked answer later true terms names w) (settling_all answer later names terms w) k v l (settling_chain answer later names terms w) r in
    let g = along_grows x.made k l x.along in
    chain_apart hub d.name i sound (stand_files k w.standings w.next stand) (lives_first k l i d lives) (lives_last k l i d g lives) ne x.so.1 x.along a
