-- A reading stops where its tokens can go on to nothing that is wanted.
use Rattle.std.proofs.Common.{◌≡◌, ℕ, ◌≤◌, inl, inr, List, [], ◌∷◌, ◌++◌, length, take, Some, None, Result, Ok, Err, refl, sym, ap, subst, ◌∙◌, append_assoc, arith}
use Rattle.std.proofs.Math.Seq.{take-take}
use Rattle.std.proofs.lemmas.List.{append-nil}
use Rattle.ug_words.proofs.Meaning.{good_read, read_good, bad_read, read_bad, in_order, same_list, not_both}
use Rattle.ug_words.specs.Grammar.{Good, InOrder}
use Rattle.ug_words.specs.Lexing.{Lexed, tokens_of}
use Rattle.ug_words.specs.declared.token.Token.{Token}
use Rattle.ug_rule.specs.declared.fault.Fault.{Fault}
use Rattle.ug_rule.specs.declared.fault.FaultKind.{FaultKind}
use Rattle.ug_rule.specs.Faults.{fault_at, on_ok}
use Rattle.ug_rule_faults.specs.FaultKinds.{rule_stray_kind, query_stray_kind, rule_early_kind, query_early_kind}
use Rattle.ug_rule.specs.Texts.{lexical_fault}
use Rattle.ug_rule.proofs.TextLines.{lexical_found}
use Rattle.ug_rule_faults.specs.FirstFault.{AreRule, AreQuery, end_behind, BeginsSome, IsStray, place_at_end, open_braces, EndsEarly, FirstFault, Lexical, Stray, Early}
use Rattle.ug_rule.specs.Rules.{rule_of, whole_query}
use Rattle.ug_rule.specs.Tokens.{word_of, read_by, tokens_read}
use Rattle.ug_rule_faults.proofs.Completions.{ending, leads}
use Rattle.ug_rule_faults.proofs.ContextKinds.{rule_strays, query_strays, rule_ends_early, query_ends_early}
use Rattle.ug_rule_faults.proofs.Fillers.{Filled, filled}
use Rattle.ug_rule_faults.proofs.Machine.{Alone, State, End, Start, Front, Step, step, onward, run, finish, braces}
use Rattle.ug_rule_faults.proofs.MachineRules.{outcome, rule_run, whole_run}
use Rattle.ug_rule_faults.proofs.MachineRuns.{to_next, reach, run_behind, Ends, run_ends, SameWords, same_reach, order_front, same_words}
use Rattle.ug_rule_faults.proofs.OpenBraces.{finish_place, reach_braces}
use Rattle.ug_rule.proofs.RuleCuts.{rule_cut, rule_reads, whole_cut, whole_reads}

abbrev Stray_kind : Type 0
Stray_kind = List ℕ → List Token → Token → FaultKind

abbrev Early_kind : Type 0
Early_kind = List ℕ → List Token → FaultKind

-- what reads tokens as the machine does from a state on, and gives what is wanted
pub record Reading {X : Type 0} (Are : List ℕ → List Token → Type 0) (of : List ℕ → List Token → Result X Fault) (from : State) : Type 0 where
  pub runs : (line : List ℕ) (tokens : List Token) → run line from tokens ≡ outcome (of line tokens)
  pub good : (line : List ℕ) (tokens : List Token) (x : X) → of line tokens ≡ Ok x → Are line tokens
  pub reads : (line : List ℕ) (tokens : List Token) → Are line tokens → (x : X) × (of line tokens ≡ Ok x)
  pub none : braces from ≡ []

-- what is wrong where the machine stops
pub record Kinds (stray : Stray_kind) (early : Early_kind) (from : State) : Type 0 where
  pub strays : (line : List ℕ) (before : List Token) (token : Token) (state : State) (kind : FaultKind) → reach line from before ≡ Some state → step state (word_of line token) token.kind token.start ≡ Err kind → kind ≡ stray line before token
  pub lacks : (line : List ℕ) (tokens : List Token) (state : State) (fault : Fault) → reach line from tokens ≡ Some state → finish line state ≡ Some fault → fault.kind ≡ early line tokens

wanted : {X : Type 0} (Are : List ℕ → List Token → Type 0) (of : List ℕ → List Token → Result X Fault) (from : State) → Reading Are of from → (line : List ℕ) (tokens : List Token) → run line from tokens ≡ None → Are line tokens
wanted {X} Are of from r line tokens h = by (of line tokens) refl (sym (r.runs line tokens) ∙ h)
  where
    by : (o : Result X Fault) → of line tokens ≡ o → outcome o ≡ None → Are line tokens
    by (Ok x) e k = r.good line tokens x e
    by (Err fault) e k = let none : ⊥ = cc in absurd none

runs_out : {X : Type 0} (Are : List ℕ → List Token → Type 0) (of : List ℕ → List Token → Result X Fault) (from : State) → Reading Are of from → (line : List ℕ) (tokens : List Token) → Are line tokens → run line from tokens ≡ None
runs_out Are of from r line tokens a = let x = r.reads line tokens a in r.runs line tokens ∙ ap outcome x.1

-- ---- lines that begin alike

order_of : (line : List ℕ) (before behind : List Token) → Good line (before ++ behind) → InOrder 0 (end_behind 0 before) before
order_of line before behind g = order_front 0 (length line) before behind (in_order line (before ++ behind) (good_read line (before ++ behind) g))

same_before : (line other : List ℕ) (before behind : List Token) → Good other (before ++ behind) → take (end_behind 0 before) other ≡ take (end_behind 0 before) line → SameWords other line before
same_before line other before behind g e = same_words other line 0 (end_behind 0 before) before (order_of other before behind g) e

order_ends : (from to : ℕ) (tokens : List Token) → InOrder from to tokens → from ≤ end_behind from tokens
order_ends from to [] o = omega arith
order_ends from to (token ∷ tokens) o = let h : token.end ≤ end_behind token.end tokens = order_ends token.end to tokens o.2 in omega (arith, o.0, o.1, h)

end_grows : (from to : ℕ) (before behind : List Token) → InOrder from to (before ++ behind) → end_behind from before ≤ end_behind from (before ++ behind)
end_grows from to [] behind o = order_ends from to behind o
end_grows from to (token ∷ before) behind o = end_grows token.end to before behind o.2

-- fewer tokens begin what more do
shorter : (Are : List ℕ → List Token → Type 0) (line : List ℕ) (before behind : List Token) → BeginsSome Are line (before ++ behind) → BeginsSome Are line before
shorter Are line before behind b =
    let tokens : (before ++ behind) ++ b.more ≡ before ++ (behind ++ b.more) = append_assoc before behind b.more in
    let cut : Good b.other (before ++ (behind ++ b.more)) = subst (Good b.other) tokens b.cut in
    let order : InOrder 0 (length b.other) ((before ++ behind) ++ b.more) = in_order b.other ((before ++ behind) ++ b.more) (good_read b.other ((before ++ behind) ++ b.more) b.cut) in
    let less : end_behind 0 before ≤ end_behind 0 (before ++ behind) = end_grows 0 (end_behind 0 (before ++ behind)) before behind (order_front 0 (length b.other) (before ++ behind) b.more order) in
    record {
      other = b.other;
      more = behind ++ b.more;
      same = sym (take-take (end_behind 0 before) (end_behind 0 (before ++ behind)) b.other less)
          ∙ (ap (take (end_behind 0 before)) b.same ∙ take-take (end_behind 0 before) (end_behind 0 (before ++ behind)) line less);
      cut = cut;
      are = subst (Are b.other) tokens b.are;
    }

-- ---- where the machine is, there is an ending

begins : {X : Type 0} (Are : List ℕ → List Token → Type 0) (of : List ℕ → List Token → Result X Fault) (from : State) → Reading Are of from → (line : List ℕ) (before behind : List Token) (state : State) → Good line (before ++ behind) → reach line from before ≡ Some state → BeginsSome Are line before
begins Are of from r line before behind state g h =
    let f : Filled line before (ending state) = filled line before behind (ending state) g in
    let there : reach f.other from before ≡ Some state = same_reach f.other line before from (same_before line f.other before f.more f.cut f.same) ∙ h in
    record {
      other = f.other;
      more = f.more;
      same = f.same;
      cut = f.cut;
      are = wanted Are of from r f.other (before ++ f.more) (run_behind f.other before f.more from state there ∙ leads f.other state f.more f.spelled);
    }

reach_more : (line : List ℕ) (before rest : List Token) (from state : State) → reach line from before ≡ Some state → reach line from (before ++ rest) ≡ reach line state rest
reach_more line [] rest from state h = let e : from ≡ state = cc in ap (λ s. reach line s rest) e
reach_more line (token ∷ before) rest from state h =
    let T : Step → Type 0 = λ r. to_next r (λ next. reach line next before) ≡ Some state → to_next r (λ next. reach line next (before ++ rest)) ≡ reach line state rest in
    let f : (r : Step) → T r = λ r. elim r as T [
      | Ok next ↦ λ k. reach_more line before rest next state k
      | Err kind ↦ λ k. let none : ⊥ = cc in absurd none
    ] in
    f (step from (word_of line token) token.kind token.start) h

none_behind : (line : List ℕ) (tokens rest : List Token) (from : State) → reach line from tokens ≡ None → run line from (tokens ++ rest) ≡ None → ⊥
none_behind line [] rest from h k = let none : ⊥ = cc in none
none_behind line (token ∷ tokens) rest from h k =
    let T : Step → Type 0 = λ r. to_next r (λ next. reach line next tokens) ≡ None → onward r token.start (λ next. run line next (tokens ++ rest)) ≡ None → ⊥ in
    let f : (r : Step) → T r = λ r. elim r as T [
      | Ok next ↦ λ h k. none_behind line tokens rest next h k
      | Err kind ↦ λ h k. let none : ⊥ = cc in none
    ] in
    f (step from (word_of line token) token.kind token.start) h k

stuck : {X : Type 0} (Are : List ℕ → List Token → Type 0) (of : List ℕ → List Token → Result X Fault) (from : State) → Reading Are of from → (line : List ℕ) (before : List Token) (token : Token) (state : State) (kind : FaultKind)
    → reach line from before ≡ Some state → step state (word_of line token) token.kind token.start ≡ Err kind → BeginsSome Are line (before ++ token ∷ []) → ⊥
stuck Are of from r line before token state kind h e b =
    let tokens : List Token = before ++ token ∷ [] in
    let here : reach line from tokens ≡ None = reach_more line before (token ∷ []) from state h ∙ ap (λ r. to_next r (λ next. reach line next [])) e in
    let there : reach b.other from tokens ≡ None = same_reach b.other line tokens from (same_before line b.other tokens b.more b.cut b.same) ∙ here in
    none_behind b.other tokens b.more from there (runs_out Are of from r b.other (tokens ++ b.more) b.are)

-- ---- the fault that is found

as_told : (fault : Fault) (kind : FaultKind) (place : ℕ) → fault.kind ≡ kind → fault.place ≡ place → fault ≡ fault_at kind place
as_told fault kind place k p = ap (λ kind. fault_at kind fault.place) k ∙ ap (fault_at kind) p

found : {X : Type 0} (Are : List ℕ → List Token → Type 0) (of : List ℕ → List Token → Result X Fault) (stray : Stray_kind) (early : Early_kind) (from : State) → Reading Are of from → Kinds stray early from → (line : List ℕ) (tokens : List Token) (fault : Fault) → Good line tokens → Ends line from tokens fault → FirstFault Are stray early line fault
found Are of stray early from r k line tokens fault g (inl s) = Stray tokens fault g (record {
  before = s.before;
  token = s.token;
  behind = s.behind;
  cut = s.cut;
  good = begins Are of from r line s.before (s.token ∷ s.behind) s.state (subst (Good line) s.cut g) s.reached;
  bad = stuck Are of from r line s.before s.token s.state s.kind s.reached s.stuck;
  is = s.is ∙ ap (λ kind. fault_at kind s.token.start) (k.strays line s.before s.token s.state s.kind s.reached s.stuck);
})
found Are of stray early from r k line tokens fault g (inr l) = Early tokens fault g (record {
  good = begins Are of from r line tokens [] l.state (subst (Good line) (sym (append-nil tokens)) g) l.reached;
  bad = λ a. lacks (sym (run_behind line tokens [] from l.state l.reached) ∙ (ap (run line from) (append-nil tokens) ∙ runs_out Are of from r line tokens a)) l.lacks;
  is = as_told fault (early line tokens) (place_at_end (length line) (open_braces [] tokens)) (k.lacks line tokens l.state fault l.reached l.lacks)
      (finish_place line l.state fault l.lacks ∙ ap (place_at_end (length line)) (reach_braces line tokens from l.state l.reached ∙ ap (λ p. open_braces p tokens) r.none));
})
  where
    lacks : run line l.state [] ≡ None → run line l.state [] ≡ Some fault → ⊥
    lacks h k = let none : ⊥ = cc in none

-- ---- one place

-- two tokens of a list: the same, or one before the other
data Order (before : List Token) (token : Token) (first : List Token) (other : Token) : Type 0 where
  Same : before ≡ first → token ≡ other → Order before token first other
  Later : (more : List Token) → before ≡ (first ++ other ∷ []) ++ more → Order before token first other
  Sooner : (more : List Token) → first ≡ (before ++ token ∷ []) ++ more → Order before token first other

order : (before behind : List Token) (token : Token) (first last : List Token) (other : Token) → before ++ token ∷ behind ≡ first ++ other ∷ last → Order before token first other
order [] behind token [] last other h = Same refl (let e : token ≡ other = cc in e)
order [] behind token (next ∷ first) last other h = Sooner first (let e : token ≡ next = cc in ap (λ t. t ∷ first) (sym e))
order (next ∷ before) behind token [] last other h = Later before (let e : next ≡ other = cc in ap (λ t. t ∷ before) e)
order (next ∷ before) behind token (head ∷ first) last other h =
    let e : next ≡ head = cc in
    let k : before ++ token ∷ behind ≡ first ++ other ∷ last = cc in
    let T : Order before token first other → Type 0 = λ o. Order (next ∷ before) token (head ∷ first) other in
    elim (order before behind token first last other k) as T [
      | Same b s ↦ Same (ap (λ t. t ∷ before) e ∙ ap (λ l. head ∷ l) b) s
      | Later more s ↦ Later more (ap (λ t. t ∷ before) e ∙ ap (λ l. head ∷ l) s)
      | Sooner more s ↦ Sooner more (ap (λ t. t ∷ first) (sym e) ∙ ap (λ l. next ∷ l) s)
    ]

longer_begins : (Are : List ℕ → List Token → Type 0) (line : List ℕ) (tokens before more : List Token) (token : Token) → tokens ≡ (before ++ token ∷ []) ++ more → BeginsSome Are line tokens → BeginsSome Are line (before ++ token ∷ [])
longer_begins Are line tokens before more token e b = shorter Are line (before ++ token ∷ []) more (subst (BeginsSome Are line) e b)

moved : (before behind : List Token) (token : Token) → before ++ token ∷ behind ≡ (before ++ token ∷ []) ++ behind
moved before behind token = sym (append_assoc before (token ∷ []) behind)

strays : (Are : List ℕ → List Token → Type 0) (stray : Stray_kind) (line : List ℕ) (tokens : List Token) (a b : Fault) → IsStray Are stray line tokens a → IsStray Are stray line tokens b → a ≡ b
strays Are stray line tokens a b s t = elim (order s.before s.behind s.token t.before t.behind t.token (sym s.cut ∙ t.cut)) [
  | Same before token ↦ s.is ∙ (ap (λ l. fault_at (stray line l s.token) s.token.start) before ∙ (ap (λ k. fault_at (stray line t.before k) k.start) token ∙ sym t.is))
  | Later more e ↦ absurd (t.bad (longer_begins Are line s.before t.before more t.token e s.good))
  | Sooner more e ↦ absurd (s.bad (longer_begins Are line t.before s.before more s.token e t.good))
]

stray_early : (Are : List ℕ → List Token → Type 0) (stray : Stray_kind) (early : Early_kind) (line : List ℕ) (tokens : List Token) (a b : Fault) → IsStray Are stray line tokens a → EndsEarly Are early line tokens b → ⊥
stray_early Are stray early line tokens a b s e = s.bad (longer_begins Are line tokens s.before s.behind s.token (s.cut ∙ moved s.before s.behind s.token) e.good)

-- where a line's tokens are good, its fault is one
one_fault : (Are : List ℕ → List Token → Type 0) (stray : Stray_kind) (early : Early_kind) (line : List ℕ) (tokens : List Token) (a b : Fault) → Good line tokens → FirstFault Are stray early line a → FirstFault Are stray early line b → a ≡ b
one_fault Are stray early line tokens a b g (Lexical bad h) y = absurd (not_both line tokens bad g h)
one_fault Are stray early line tokens a b g (Stray others f h s) (Lexical bad k) = absurd (not_both line tokens bad g k)
one_fault Are stray early line tokens a b g (Early others f h s) (Lexical bad k) = absurd (not_both line tokens bad g k)
one_fault Are stray early line tokens a b g (Stray x f h s) (Stray y e k t) = strays Are stray line y a b (subst (λ l. IsStray Are stray line l a) (same_list line x y h k) s) t
one_fault Are stray early line tokens a b g (Stray x f h s) (Early y e k t) = absurd (stray_early Are stray early line y a b (subst (λ l. IsStray Are stray line l a) (same_list line x y h k) s) t)
one_fault Are stray early line tokens a b g (Early x f h s) (Stray y e k t) = absurd (stray_early Are stray early line x b a (subst (λ l. IsStray Are stray line l b) (same_list line y x k h) t) s)
one_fault Are stray early line tokens a b g (Early x f h s) (Early y e k t) = s.is ∙ (ap (λ l. fault_at (early line l) (place_at_end (length line) (open_braces [] l))) (same_list line x y h k) ∙ sym t.is)

-- ---- lines

token_found : {X : Type 0} (Are : List ℕ → List Token → Type 0) (of : List ℕ → List Token → Result X Fault) (stray : Stray_kind) (early : Early_kind) (from : State) → Reading Are of from → Kinds stray early from → (line : List ℕ) (tokens : List Token) (fault : Fault) → Good line tokens → of line tokens ≡ Err fault → FirstFault Are stray early line fault
token_found Are of stray early from r k line tokens fault g h = found Are of stray early from r k line tokens fault g (run_ends line from tokens fault (r.runs line tokens ∙ ap outcome h))

pub fault_found : {X : Type 0} (Are : List ℕ → List Token → Type 0) (of : List ℕ → List Token → Result X Fault) (stray : Stray_kind) (early : Early_kind) (from : State) → Reading Are of from → Kinds stray early from → (line : List ℕ) (fault : Fault) → on_ok (tokens_read line) (of line) ≡ Err fault → FirstFault Are stray early line fault
fault_found {X} Are of stray early from r k line fault h = by (tokens_of line) refl h
  where
    by : (read : Lexed) → tokens_of line ≡ read → on_ok (read_by read) (of line) ≡ Err fault → FirstFault Are stray early line fault
    by (Ok tokens) e h = token_found Are of stray early from r k line tokens fault (read_good line tokens e) h
    by (Err bad) e h =
        let same : ◌≡◌ {A = Result X Fault} (Err (lexical_fault bad)) (Err fault) = sym (lexical_found bad (of line)) ∙ h in
        let s : lexical_fault bad ≡ fault = cc in
        subst (FirstFault Are stray early line) s (Lexical bad (read_bad line bad e))

good_told : {X : Type 0} (Are : List ℕ → List Token → Type 0) (of : List ℕ → List Token → Result X Fault) (stray : Stray_kind) (early : Early_kind) (from : State) → Reading Are of from → Kinds stray early from → (line : List ℕ) (tokens : List Token) (fault : Fault) → Good line tokens → FirstFault Are stray early line fault → (Are line tokens → ⊥) → on_ok (tokens_read line) (of line) ≡ Err fault
good_told {X} Are of stray early from r k line tokens fault g at bad = by (of line tokens) refl
  where
    by : (o : Result X Fault) → of line tokens ≡ o → on_ok (tokens_read line) (of line) ≡ Err fault
    by (Ok x) e = absurd (bad (r.good line tokens x e))
    by (Err other) e =
        let same : other ≡ fault = one_fault Are stray early line tokens other fault g (token_found Are of stray early from r k line tokens other g e) at in
        ap (λ t. on_ok (read_by t) (of line)) (good_read line tokens g) ∙ (e ∙ ap (λ f. Err f) same)

itself : (Are : List ℕ → List Token → Type 0) (line : List ℕ) (tokens : List Token) → Good line tokens → Are line tokens → BeginsSome Are line tokens
itself Are line tokens g a =
    let e : tokens ≡ tokens ++ [] = sym (append-nil tokens) in
    record { other = line; more = []; same = refl; cut = subst (Good line) e g; are = subst (Are line) e a }

pub fault_told : {X : Type 0} (Are : List ℕ → List Token → Type 0) (of : List ℕ → List Token → Result X Fault) (stray : Stray_kind) (early : Early_kind) (from : State) → Reading Are of from → Kinds stray early from → (line : List ℕ) (fault : Fault) → FirstFault Are stray early line fault → on_ok (tokens_read line) (of line) ≡ Err fault
fault_told Are of stray early from r k line fault (Lexical bad b) = ap (λ t. on_ok (read_by t) (of line)) (bad_read line bad b) ∙ lexical_found bad (of line)
fault_told Are of stray early from r k line fault (Stray tokens f g s) =
    good_told Are of stray early from r k line tokens fault g (Stray tokens fault g s) (λ a. s.bad (longer_begins Are line tokens s.before s.behind s.token (s.cut ∙ moved s.before s.behind s.token) (itself Are line tokens g a)))
fault_told Are of stray early from r k line fault (Early tokens f g e) = good_told Are of stray early from r k line tokens fault g (Early tokens fault g e) e.bad

-- ---- rules and queries

pub rule_reading : Reading AreRule rule_of Start
rule_reading = record {
  runs = rule_run;
  good = λ line tokens rule e. (rule, rule_cut line rule tokens e);
  reads = λ line tokens a. (a.0, rule_reads line a.0 tokens a.1);
  none = refl;
}

pub rule_kinds : Kinds rule_stray_kind rule_early_kind Start
rule_kinds = record { strays = rule_strays; lacks = rule_ends_early }

pub query_reading : Reading AreQuery whole_query (Front Alone End)
query_reading = record {
  runs = whole_run;
  good = λ line tokens query e. (query, whole_cut line query tokens e);
  reads = λ line tokens a. (a.0, whole_reads line a.0 tokens a.1);
  none = refl;
}

pub query_kinds : Kinds query_stray_kind query_early_kind (Front Alone End)
query_kinds = record { strays = query_strays; lacks = query_ends_early }
