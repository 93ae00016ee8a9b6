-- Reads and writes of one session leave the lines of the others.
use Rattle.std.proofs.Common.{◌≡◌, ℕ, Bool, false, cond, nat_eq, List, [], ◌∷◌, ◌++◌, refl, sym, ap, ◌∙◌, subst, append_assoc}
use Rattle.std.proofs.lemmas.List.{append-nil}
use Rattle.ug_links.specs.declared.waiter.LinkId.{LinkId}
use Rattle.ug_links.specs.declared.waiter.Ready.{Ready}
use Rattle.ug_links.specs.declared.step.LinkStep.{LinkStep}
use Rattle.ug_links.specs.declared.step.LinkStep.TheVariants.{Listened, AcceptedAt, ReadFrom, WroteTo, Closed}
use Rattle.ug_links.specs.declared.step.Reading.TheVariants.{Bytes, NotYet, End, Failed}
use Rattle.ug_links.specs.Talk.{Talk, Path, walk}
use Rattle.ug_links.proofs.Paths.{path_split}
use Rattle.ug_sessions.specs.declared.session.Session.{Session}
use Rattle.ug_sessions.specs.declared.session.Turn.{Turn}
use Rattle.ug_sessions.specs.Reading.{reading_one}
use Rattle.ug_sessions.specs.Sending.{flushing_one}
use Rattle.ug_sessions.specs.Due.{IsNoneOf, HaveOwnIds}
use Rattle.ug_sessions.specs.Tried.{AllRead}
use Rattle.ug_sessions.specs.Handed.{bytes_read, HoldsLines, lines_handed, AllLines}
use Rattle.ug_sessions.proofs.Owning.{Who, flush_owns}
use Rattle.ug_sessions.proofs.Lists.{turned_round}
use Rattle.ug_sessions.proofs.Tried.{One, one_steps}
use Rattle.ug_sessions.proofs.ReadKeeps.{one_stays}
use Rattle.ug_sessions.proofs.LinesRead.{read-append, one_on}
use Rattle.ug_sessions.proofs.LinesSent.{flush_lines, flush_reads}

-- a walk whose calls for one session read no other
module _ (f : Session → Turn → Talk (Session × Turn)) (same : (s : Session) (t : Turn) (steps : List LinkStep) (r : Session × Turn) → Path (f s t) steps r → r.0.id ≡ s.id) (others : (s : Session) (t : Turn) (steps : List LinkStep) (r : Session × Turn) → Path (f s t) steps r → (id : LinkId) → nat_eq s.id.0 id.0 ≡ false → bytes_read id steps ≡ []) (holds : (s : Session) (t : Turn) (steps : List LinkStep) (r : Session × Turn) → Path (f s t) steps r → (handed : List (List ℕ)) (bytes : List ℕ) → HoldsLines handed bytes s → HoldsLines handed (bytes ++ bytes_read s.id steps) r.0) (handed : List (LinkId × List ℕ)) where
  none_later : (id : LinkId) (done ss : List Session) (t : Turn) (steps : List LinkStep) (r : List Session × Turn) → IsNoneOf id ss → Path (walk f done ss t) steps r → bytes_read id steps ≡ []
  none_later id done [] t steps r n h = ap (λ (l : List LinkStep). bytes_read id l) h.1
  none_later id done (s ∷ ss) t steps r n h =
      let p = path_split (f s t) (λ (q : Session × Turn). walk f (done ++ q.0 ∷ []) ss q.1) steps r h in
      ap (λ (l : List LinkStep). bytes_read id l) p.whole ∙ read-append id p.front p.rest ∙ ap (λ (l : List ℕ). l ++ bytes_read id p.rest) (others s t p.front p.value p.first id n.0) ∙ none_later id (done ++ p.value.0 ∷ []) ss p.value.1 p.rest r n.1 p.second

  others_keep : (before front : List LinkStep) (s : Session) (ss : List Session) → ((id : LinkId) → nat_eq s.id.0 id.0 ≡ false → bytes_read id front ≡ []) → IsNoneOf s.id ss → AllLines before handed ss → AllLines (before ++ front) handed ss
  others_keep before front s [] o n h = tt
  others_keep before front s (x ∷ ss) o n h =
      let still : bytes_read x.id before ≡ bytes_read x.id (before ++ front) = sym (read-append x.id before front ∙ ap (λ (l : List ℕ). bytes_read x.id before ++ l) (o x.id (turned_round x.id.0 s.id.0 n.0)) ∙ append-nil (bytes_read x.id before)) in
      (subst (λ (l : List ℕ). HoldsLines (lines_handed x.id handed) l x) still h.0, others_keep before front s ss o n.1 h.1)

  walk_lines : (before : List LinkStep) (done ss : List Session) (t : Turn) (steps : List LinkStep) (r : List Session × Turn) → HaveOwnIds ss → AllLines before handed ss → Path (walk f done ss t) steps r → (ts : List Session) × (r.0 ≡ done ++ ts) × AllLines (before ++ steps) handed ts
  walk_lines before done [] t steps r d a h = ([], ap (λ (x : List Session × Turn). x.0) h.0 ∙ sym (append-nil done), tt)
  walk_lines before done (s ∷ ss) t steps r d a h =
      let p = path_split (f s t) (λ (q : Session × Turn). walk f (done ++ q.0 ∷ []) ss q.1) steps r h in
      let own : HoldsLines (lines_handed s.id handed) (bytes_read s.id before ++ bytes_read s.id p.front) p.value.0 = holds s t p.front p.value p.first (lines_handed s.id handed) (bytes_read s.id before) a.0 in
      let later : bytes_read s.id p.rest ≡ [] = none_later s.id (done ++ p.value.0 ∷ []) ss p.value.1 p.rest r d.0 p.second in
      let read : bytes_read s.id before ++ bytes_read s.id p.front ≡ bytes_read s.id (before ++ steps) =
      ap (λ (l : List ℕ). bytes_read s.id before ++ l) (sym (ap (λ (l : List LinkStep). bytes_read s.id l) p.whole ∙ read-append s.id p.front p.rest ∙ ap (λ (l : List ℕ). bytes_read s.id p.front ++ l) later ∙ append-nil (bytes_read s.id p.front))) ∙ sym (read-append s.id before steps) in
      let here : HoldsLines (lines_handed p.value.0.id handed) (bytes_read p.value.0.id (before ++ steps)) p.value.0 =
      subst (λ (i : LinkId). HoldsLines (lines_handed i handed) (bytes_read i (before ++ steps)) p.value.0) (sym (same s t p.front p.value p.first)) (subst (λ (l : List ℕ). HoldsLines (lines_handed s.id handed) l p.value.0) read own) in
      let rest = walk_lines (before ++ p.front) (done ++ p.value.0 ∷ []) ss p.value.1 p.rest r d.1 (others_keep before p.front s ss (others s t p.front p.value p.first) d.0 a.1) p.second in
      let calls : (before ++ p.front) ++ p.rest ≡ before ++ steps = append_assoc before p.front p.rest ∙ ap (λ (l : List LinkStep). before ++ l) (sym p.whole) in
      (p.value.0 ∷ rest.0, rest.1 ∙ append_assoc done (p.value.0 ∷ []) rest.0, (here, subst (λ (l : List LinkStep). AllLines l handed rest.0) calls rest.2))

  lines_walk : (before : List LinkStep) (ss : List Session) (t : Turn) (steps : List LinkStep) (r : List Session × Turn) → HaveOwnIds ss → AllLines before handed ss → Path (walk f [] ss t) steps r → AllLines (before ++ steps) handed r.0
  lines_walk before ss t steps r d a h =
      let k = walk_lines before [] ss t steps r d a h in
      subst (λ (l : List Session). AllLines (before ++ steps) handed l) (sym k.1) k.2

read_others : (ready : List Ready) (s : Session) (id : LinkId) (steps : List LinkStep) → nat_eq s.id.0 id.0 ≡ false → AllRead (One ready s) steps → bytes_read id steps ≡ []
read_others ready s id [] e h = refl
read_others ready s id (ReadFrom other room (Bytes bytes) ∷ steps) e h =
    ap (λ (v : Bool). cond v (bytes ++ bytes_read id steps) (bytes_read id steps)) (ap (λ (i : LinkId). nat_eq i.0 id.0) (sym h.0.0) ∙ e) ∙ read_others ready s id steps e h.1
read_others ready s id (ReadFrom other room NotYet ∷ steps) e h = read_others ready s id steps e h.1
read_others ready s id (ReadFrom other room End ∷ steps) e h = read_others ready s id steps e h.1
read_others ready s id (ReadFrom other room Failed ∷ steps) e h = read_others ready s id steps e h.1
read_others ready s id (Closed other ∷ steps) e h = read_others ready s id steps e h.1
read_others ready s id (AcceptedAt listener answer ∷ steps) e h = absurd h.0
read_others ready s id (WroteTo other bytes answer ∷ steps) e h = absurd h.0
read_others ready s id (Listened principal answer ∷ steps) e h = absurd h.0

pub reading_lines : (ready : List Ready) (handed : List (LinkId × List ℕ)) (before : List LinkStep) (ss : List Session) (t : Turn) (steps : List LinkStep) (r : List Session × Turn) → HaveOwnIds ss → AllLines before handed ss → Path (walk (reading_one ready) [] ss t) steps r → AllLines (before ++ steps) handed r.0
reading_lines ready handed before ss t steps r d a h =
    lines_walk (reading_one ready) (λ s t steps r h. ap (λ (w : Who). w.id) (one_stays ready s t steps r h).same) (λ s t steps r h id e. read_others ready s id steps e (one_steps ready s t steps r h)) (one_on ready) handed before ss t steps r d a h

flush_holds : (s : Session) (t : Turn) (steps : List LinkStep) (r : Session × Turn) → Path (flushing_one s t) steps r → (handed : List (List ℕ)) (bytes : List ℕ) → HoldsLines handed bytes s → HoldsLines handed (bytes ++ bytes_read s.id steps) r.0
flush_holds s t steps r h handed bytes k = subst (λ (l : List ℕ). HoldsLines handed l r.0) (sym (ap (λ (l : List ℕ). bytes ++ l) (flush_reads s t steps r h s.id) ∙ append-nil bytes)) (flush_lines s t steps r h handed bytes k)

pub flushing_lines : (handed : List (LinkId × List ℕ)) (before : List LinkStep) (ss : List Session) (t : Turn) (steps : List LinkStep) (r : List Session × Turn) → HaveOwnIds ss → AllLines before handed ss → Path (walk flushing_one [] ss t) steps r → AllLines (before ++ steps) handed r.0
flushing_lines handed before ss t steps r d a h =
    lines_walk flushing_one (λ s t steps r h. ap (λ (w : Who). w.id) (flush_owns s t steps r h).same) (λ s t steps r h id e. flush_reads s t steps r h id) flush_holds handed before ss t steps r d a h
