-- The order of a binding's calls, from its shapes.
use Rattle.std.proofs.Common.{◌≡◌, ℕ, Bool, true, false, List, [], ◌∷◌, ◌++◌, map, Option, Some, None, inl, inr, refl, sym, subst, append_assoc, append-nil}
use Rattle.ug_types.specs.Names.{parent_of}
use Rattle.ug_kernel.specs.declared.control.Held.{Held}
use Rattle.ug_kernel.specs.declared.control.Attr.{Attr}
use Rattle.ug_kernel.specs.declared.control.Control.TheVariants.{Authorized}
use Rattle.ug_kernel.specs.declared.calls.Opened.{Opened}
use Rattle.ug_kernel.specs.declared.calls.ReadOut.{ReadOut}
use Rattle.ug_kernel.specs.declared.calls.Probe.{Probe}
use Rattle.ug_kernel.specs.Calls.{Call, Answer, Open, Read, Ask_alive, Close, ToldAnswer}
use Rattle.ug_kernel.specs.Along.{Made, made_with}
use Rattle.ug_kernel.specs.Tree.{Runs}
use Rattle.ug_kernel.proofs.Ways.{Sure, ways_run}
use Rattle.ug_kernel.specs.Bind.{binding, binding_of}
use Rattle.ug_kernel.specs.CallOrder.{Act, To_read, read_leads, OnlyCloses, GoBy, GoByProbe, parent_acts, bind_acts, IsBoundOn, BindsInOrder}
use Rattle.ug_kernel.specs.declared.files.Stop.{Stop}
use Rattle.ug_kernel.specs.declared.identity.Binding.{Binding}
use Rattle.ug_kernel.proofs.BindShapes.{told, Came, Stops, No_descriptors, parent_files, files_of, ReadsFirst, None_read, One_read, Binds_by, Cut, Probed_gone, Probe_failed, Bound_by, binds_by}

abbrev pub read_act : List ℕ × Attr → Act
read_act file = To_read file.0 file.1

came_leads : (r : ReadOut) (at : Attr) → Came r at → read_leads r at ≡ true
came_leads (ReadOut.Bytes bytes) at c = refl
came_leads ReadOut.Absent Attr.Descriptors c = absurd c
came_leads ReadOut.Absent at c = refl
came_leads ReadOut.TooLong at c = refl
came_leads ReadOut.Failed at c = absurd c
came_leads ReadOut.Memory at c = absurd c

pub reads_go : {files left : List (List ℕ × Attr)} {ms : List Made} (rest : List Made → Type 0) (ns : List Made)
    → ReadsFirst files ms left → GoBy (map read_act left) rest ns → GoBy (map read_act files) rest (ms ++ ns)
reads_go rest ns (None_read files) h = h
reads_go rest ns (One_read of at t ms files left came r) h =
    (refl, inl (came_leads t.answer at came, reads_go rest ns r h))

parent_reads : (parent : Option (List ℕ)) → map read_act (parent_files parent) ≡ parent_acts parent
parent_reads None = refl
parent_reads (Some parent) = refl

-- an opening, readings, and what goes behind them
opened_go : {name : List ℕ} {left : List (List ℕ × Attr)} {ms : List Made} (rest : List Made → Type 0)
    (ns os : List Made) (file : Held) (call count : ℕ) → ReadsFirst (files_of name) ms left
    → GoBy (map read_act left) rest (ns ++ os)
    → GoBy (bind_acts name) rest (made_with (Open name Authorized) (told (Opened.Token file) call count) ∷ ((ms ++ ns) ++ os))
opened_go {name} {left} {ms} rest ns os file call count first h =
    let all = reads_go rest (ns ++ os) first h in
    let same = subst (λ (v : List Made). GoBy (map read_act (files_of name)) rest v) (sym (append_assoc ms ns os)) all in (
      refl,
      inl (
        refl,
        subst (λ (v : List Act). GoBy (To_read name Attr.Descriptors ∷ To_read name Attr.Product ∷ To_read name Attr.Serial ∷ To_read name Attr.Connect ∷ v) rest ((ms ++ ns) ++ os)) (parent_reads (parent_of name)) same,
      ),
    )

-- what goes behind a binding
abbrev pub Behind_bound : (Bool → List Made → Type 0) → Binding → List Made → Type 0
Behind_bound alive (Binding.Bound b) ns = alive b.on ns
Behind_bound alive r ns = OnlyCloses ns

stop_behind : (alive : Bool → List Made → Type 0) (why : Stop) (ns : List Made)
    → Behind_bound alive (binding_of why) ns → OnlyCloses ns
stop_behind alive Stop.Vanished ns c = c
stop_behind alive (Stop.Fault failed) ns c = c
stop_behind alive Stop.Memory ns c = c

pub stops_end : {at : Attr} {t : ToldAnswer ReadOut} {why : Stop} → Stops at t why → read_leads t.answer at ≡ false
stops_end (No_descriptors call count) = refl
stops_end x = refl

pub binds_order : {name : List ℕ} {ms : List Made} {r : Binding} (alive : Bool → List Made → Type 0)
    (ns : List Made) → Binds_by name ms r → Behind_bound alive r ns
    → GoBy (bind_acts name) (GoByProbe alive OnlyCloses) (ms ++ ns)
binds_order alive os (Cut file call count ms of at t shut why r left a first may stops e) c =
    let closes = stop_behind alive why os (subst (λ (v : Binding). Behind_bound alive v os) e c) in
    let ns : List Made = made_with (Read of at) t ∷ made_with (Close file.0) shut ∷ [] in
    opened_go (GoByProbe alive OnlyCloses) ns os file call count first (refl, inr (stops_end stops, (refl, closes)))
binds_order alive os (Probed_gone file call count number total ms shut a first) c =
    let ns : List Made = made_with (Ask_alive file.0) (told Probe.Gone number total) ∷ made_with (Close file.0) shut ∷ [] in
    opened_go (GoByProbe alive OnlyCloses) ns os file call count first (refl, c)
binds_order alive os (Probe_failed file call count number total ms shut a first) c =
    let ns : List Made = made_with (Ask_alive file.0) (told Probe.Failed number total) ∷ made_with (Close file.0) shut ∷ [] in
    opened_go (GoByProbe alive OnlyCloses) ns os file call count first (refl, c)
binds_order alive os (Bound_by call count number total ms b a first are) c =
    let ns : List Made = made_with (Ask_alive b.held.0) (told (Probe.Alive b.on) number total) ∷ [] in
    opened_go (GoByProbe alive OnlyCloses) ns os b.held call count first c
binds_order alive os x c = (refl, inr (refl, c))

-- of the states of a run

own_behind : (r : Binding) → Behind_bound (IsBoundOn r) r []
own_behind (Binding.Bound b) = (refl, refl)
own_behind x = tt

pub told_order : {S : Type 0} (gives : S → (call : Call) → Answer call → S → Type 0) (name : List ℕ)
    (parent : Option (List ℕ)) (s : S) (r : Binding) (t : S) → parent ≡ parent_of name
    → Runs gives s (binding name parent) r t → BindsInOrder gives s name r t
told_order gives name parent s r t e h =
    let run = subst (λ (p : Option (List ℕ)). Runs gives s (binding name p) r t) e h in
    let x = ways_run gives (Sure (Binds_by name)) (binding name (parent_of name)) s r t (binds_by name) run in
    let order = binds_order (IsBoundOn r) [] x.so.1 (own_behind r) in
    let rest : List Made → Type 0 = GoByProbe (IsBoundOn r) OnlyCloses in
    record {
      made = x.made;
      along = x.along;
      order = subst (λ (v : List Made). GoBy (bind_acts name) rest v) (append-nil x.made) order;
    }
