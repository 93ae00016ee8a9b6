-- Attributes take the machine through their tokens.
use Rattle.std.proofs.Common.{◌≡◌, ℕ, zero, suc, ◌≤◌, Bool, true, false, List, [], ◌∷◌, length, Option, Some, None, Result, Ok, Err, refl, sym, ap, ◌∙◌, arith}
use Rattle.ug_words.specs.declared.token.Token.{Token}
use Rattle.ug_types.specs.declared.rule.Id.{Id}
use Rattle.ug_types.specs.declared.rule.Op.TheVariants.{Equals}
use Rattle.ug_types.specs.declared.rule.Query.{Query}
use Rattle.ug_types.specs.declared.rule.Values.{Values}
use Rattle.ug_rule.specs.declared.fault.Fault.{Fault}
use Rattle.ug_rule.specs.declared.fault.FaultKind.{FaultKind}
use Rattle.ug_words.specs.declared.keywords.Attr.{Attr}
use Rattle.ug_words.specs.declared.keywords.Attr.TheVariants as attr
use Rattle.ug_rule.specs.Faults.{fault_at, on_ok}
use Rattle.ug_words.specs.Keywords.{attribute_of, is_if}
use Rattle.ug_rule.specs.Queries.{no_query, is_attribute_given, is_empty_query, with_attribute, attributes_from, attributes_of, has_colon, id_query, bare_of, query_of, stray}
use Rattle.ug_rule.specs.Tokens.{word_of, is_word}
use Rattle.ug_rule.specs.Values.{id_in, interface_in, string_in, valued, value_of, text_of}
use Rattle.ug_rule.proofs.AttributeCuts.{attribute_told, tells_shorter}
use Rattle.ug_rule_faults.proofs.Machine.{given_in, is_nothing, has, put, Ids, Interfaces, Strings, Shape, Where, State, Front, Parts, Value, behind_name, stray_kind, ending_in, run}
use Rattle.ug_rule_faults.proofs.MachineValues.{resume, resume_on, Tests, value_run, text_run}

pub same_given : (attr : Attr) (query : Query) → has attr (given_in query) ≡ is_attribute_given attr query
same_given attr.Id query = refl
same_given attr.Serial query = refl
same_given attr.Name query = refl
same_given attr.Hash query = refl
same_given attr.ParentHash query = refl
same_given attr.ViaPort query = refl
same_given attr.Interface query = refl
same_given attr.Connect query = refl
same_given attr.Label query = refl

pub same_blank : (query : Query) → is_nothing (given_in query) ≡ is_empty_query query
unfolding is_nothing is_empty_query
same_blank query = refl

pub stray_is : (of_if : FaultKind) (line : List ℕ) (token : Token) → fault_at (stray_kind of_if (word_of line token) token.kind) token.start ≡ stray of_if line token
unfolding stray
stray_is of_if line token = by (is_if (word_of line token)) (is_word token.kind) refl refl
  where
    by : (b c : Bool) → is_if (word_of line token) ≡ b → is_word token.kind ≡ c → fault_at (stray_kind of_if (word_of line token) token.kind) token.start ≡ stray of_if line token
    by true c e f = rw e refl
    by false true e f = rw e (rw f refl)
    by false false e f = rw e (rw f refl)

-- ---- one attribute

abbrev AttributeRun : List ℕ → Attr → Query → Where → State → List Token → Type 0
AttributeRun line attr query place next tokens =
    run line (behind_name attr (Parts (put attr (given_in query)) place next)) tokens
    ≡ resume (with_attribute line (ending_in line next) attr query tokens) (λ q rest. run line (Parts (given_in q) place next) rest)

one_run : {X : Type 0} (line : List ℕ) (reads : Token → Option X) (shape : Shape) (make : Values X → Query) (query : Query) (attr : Attr) (place : Where) (next : State) (tokens : List Token) → Tests line reads shape → ((v : Values X) → given_in (make v) ≡ put attr (given_in query))
    → run line (Value shape (Parts (put attr (given_in query)) place next)) tokens ≡ resume {X = Query} (on_ok (value_of line reads (ending_in line next) tokens) (λ p. Ok (make p.0, p.1))) (λ q rest. run line (Parts (given_in q) place next) rest)
one_run {X} line reads shape make query attr place next tokens tests same =
    value_run line reads shape (Parts (put attr (given_in query)) place next) tokens tests
    ∙ (by (value_of line reads (ending_in line next) tokens)
    ∙ sym (resume_on (value_of line reads (ending_in line next) tokens) make (λ q rest. run line (Parts (given_in q) place next) rest)))
  where
    by : (r : Result (Values X × List Token) Fault) → resume r (λ v rest. run line (Parts (put attr (given_in query)) place next) rest) ≡ resume r (λ v rest. run line (Parts (given_in (make v)) place next) rest)
    by (Ok p) = ap (λ g. run line (Parts g place next) p.1) (sym (same p.0))
    by (Err fault) = refl

attribute_run : (line : List ℕ) (attr : Attr) (query : Query) (place : Where) (next : State) (tokens : List Token) → AttributeRun line attr query place next tokens
unfolding with_attribute
attribute_run line attr.Id query place next tokens = one_run line (id_in line) Ids (λ v. record query { id = Some v }) query attr.Id place next tokens (λ t. refl) (λ v. refl)
attribute_run line attr.Serial query place next tokens = one_run line (string_in line) Strings (λ v. record query { serial = Some v }) query attr.Serial place next tokens (λ t. refl) (λ v. refl)
attribute_run line attr.Name query place next tokens = one_run line (string_in line) Strings (λ v. record query { name = Some v }) query attr.Name place next tokens (λ t. refl) (λ v. refl)
attribute_run line attr.Hash query place next tokens = one_run line (string_in line) Strings (λ v. record query { hash = Some v }) query attr.Hash place next tokens (λ t. refl) (λ v. refl)
attribute_run line attr.ParentHash query place next tokens = one_run line (string_in line) Strings (λ v. record query { parent_hash = Some v }) query attr.ParentHash place next tokens (λ t. refl) (λ v. refl)
attribute_run line attr.ViaPort query place next tokens = one_run line (string_in line) Strings (λ v. record query { via_port = Some v }) query attr.ViaPort place next tokens (λ t. refl) (λ v. refl)
attribute_run line attr.Interface query place next tokens = one_run line (interface_in line) Interfaces (λ v. record query { interface = Some v }) query attr.Interface place next tokens (λ t. refl) (λ v. refl)
attribute_run line attr.Connect query place next tokens = one_run line (string_in line) Strings (λ v. record query { connect = Some v }) query attr.Connect place next tokens (λ t. refl) (λ v. refl)
attribute_run line attr.Label query place next tokens =
    text_run line (Parts (put attr.Label (given_in query)) place next) tokens
    ∙ sym (resume_on (text_of line (ending_in line next) tokens) (λ v. record query { label = Some v }) (λ q rest. run line (Parts (given_in q) place next) rest))

-- ---- attributes

abbrev AttributesRun : ℕ → List ℕ → Query → Where → State → List Token → Type 0
AttributesRun n line query place next tokens =
    run line (Parts (given_in query) place next) tokens ≡ resume (attributes_from n line (ending_in line next) query tokens) (λ all rest. run line (Parts (given_in all) place next) rest)

unnamed_run : (n : ℕ) (line : List ℕ) (query : Query) (place : Where) (next : State) (token : Token) (tokens : List Token) → attribute_of (word_of line token) ≡ None → AttributesRun (suc n) line query place next (token ∷ tokens)
unfolding attributes_from
unnamed_run n line query place next token tokens e =
    let r : attributes_from (suc n) line (ending_in line next) query (token ∷ tokens) ≡ Ok (query, token ∷ tokens) = rw e refl in
    ap (λ r. resume r (λ all rest. run line (Parts (given_in all) place next) rest)) (sym r)

repeated_run : (n : ℕ) (line : List ℕ) (query : Query) (place : Where) (next : State) (attr : Attr) (token : Token) (tokens : List Token) → attribute_of (word_of line token) ≡ Some attr → is_attribute_given attr query ≡ true → AttributesRun (suc n) line query place next (token ∷ tokens)
unfolding attributes_from
repeated_run n line query place next attr token tokens e g =
    let h : has attr (given_in query) ≡ true = same_given attr query ∙ g in
    rw e (rw h (rw g refl))

named_run : (n : ℕ) (line : List ℕ) (query : Query) (place : Where) (next : State) (attr : Attr) (token : Token) (tokens : List Token) → attribute_of (word_of line token) ≡ Some attr → is_attribute_given attr query ≡ false
    → ((q : Query) (rest : List Token) → with_attribute line (ending_in line next) attr query tokens ≡ Ok (q, rest) → AttributesRun n line q place next rest)
    → AttributesRun (suc n) line query place next (token ∷ tokens)
unfolding attributes_from
named_run n line query place next attr token tokens e g again =
    let h : has attr (given_in query) ≡ false = same_given attr query ∙ g in
    rw e (rw h (rw g (attribute_run line attr query place next tokens ∙ by (with_attribute line (ending_in line next) attr query tokens) refl)))
  where
    by : (r : Result (Query × List Token) Fault) → with_attribute line (ending_in line next) attr query tokens ≡ r
        → resume r (λ q rest. run line (Parts (given_in q) place next) rest) ≡ resume (on_ok r (λ p. attributes_from n line (ending_in line next) p.0 p.1)) (λ all rest. run line (Parts (given_in all) place next) rest)
    by (Ok p) w = again p.0 p.1 w
    by (Err fault) w = refl

all_run : (n : ℕ) (line : List ℕ) (query : Query) (place : Where) (next : State) (tokens : List Token) → length tokens ≤ n → AttributesRun n line query place next tokens
unfolding attributes_from
all_run zero line query place next [] l = refl
all_run (suc n) line query place next [] l = refl
all_run zero line query place next (token ∷ tokens) l = absurd (omega (arith, l))
all_run (suc n) line query place next (token ∷ tokens) l =
    let less : length tokens ≤ n = omega (arith, l) in
    let O : Option Attr → Type 0 = λ o. attribute_of (word_of line token) ≡ o → AttributesRun (suc n) line query place next (token ∷ tokens) in
    let B : Attr → Bool → Type 0 = λ attr b. attribute_of (word_of line token) ≡ Some attr → is_attribute_given attr query ≡ b → AttributesRun (suc n) line query place next (token ∷ tokens) in
    let g : (attr : Attr) (b : Bool) → B attr b = λ attr b. elim b as (λ b. B attr b) [
      | true ↦ λ e g. repeated_run n line query place next attr token tokens e g
      | false ↦ λ e g. named_run n line query place next attr token tokens e g
          (λ q rest w. all_run n line q place next rest (omega (arith, less, tells_shorter line attr query q tokens rest (attribute_told line (ending_in line next) attr query q tokens rest w))))
    ] in
    let f : (o : Option Attr) → O o = λ o. elim o as O [
      | None ↦ λ e. unnamed_run n line query place next token tokens e
      | Some attr ↦ λ e. g attr (is_attribute_given attr query) e refl
    ] in
    f (attribute_of (word_of line token)) refl

pub attributes_run : (line : List ℕ) (query : Query) (place : Where) (next : State) (tokens : List Token)
    → run line (Parts (given_in query) place next) tokens ≡ resume (attributes_of line (ending_in line next) query tokens) (λ all rest. run line (Parts (given_in all) place next) rest)
attributes_run line query place next tokens = all_run (length tokens) line query place next tokens (omega arith)

-- ---- a bare id or none, and attributes

pub query_run : (line : List ℕ) (place : Where) (next : State) (tokens : List Token)
    → run line (Front place next) tokens ≡ resume (query_of line (ending_in line next) tokens) (λ q rest. run line (Parts (given_in q) place next) rest)
unfolding query_of bare_of
query_run line place next [] = attributes_run line no_query place next []
query_run line place next (token ∷ tokens) = by (has_colon (word_of line token)) refl
  where
    T : Type 0
    T = run line (Front place next) (token ∷ tokens) ≡ resume (query_of line (ending_in line next) (token ∷ tokens)) (λ q rest. run line (Parts (given_in q) place next) rest)

    by_id : has_colon (word_of line token) ≡ true → (o : Option Id) → id_in line token ≡ o → T
    by_id c None e = rw c (rw e refl)
    by_id c (Some id) e = rw c (rw e (attributes_run line (id_query (valued Equals (id ∷ []))) place next tokens))

    by : (b : Bool) → has_colon (word_of line token) ≡ b → T
    by true c = by_id c (id_in line token) refl
    by false c = rw c (attributes_run line no_query place next (token ∷ tokens))
