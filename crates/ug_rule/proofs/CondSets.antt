-- One more condition of a set.
use Rattle.std.proofs.Common.{◌≡◌, ℕ, zero, suc, ◌≤◌, Bool, true, false, List, [], ◌∷◌, ◌++◌, length, Result, Ok, Err, refl, sym, ap, ◌∙◌, arith, if◌then◌else◌}
use Rattle.ug_words.specs.declared.token.Token.{Token}
use Rattle.ug_types.specs.declared.rule.Cond.{Cond}
use Rattle.ug_rule.specs.declared.fault.Ending.{Ending}
use Rattle.ug_rule.specs.declared.fault.Fault.{Fault}
use Rattle.ug_rule.specs.declared.fault.FaultKind.TheVariants.{OpenSet}
use Rattle.ug_rule.specs.declared.fault.Stop.{Stop}
use Rattle.ug_rule.specs.declared.fault.Stop.TheVariants.{Bad, Memory}
use Rattle.ug_rule.specs.Conditions.{condition_from, conds_behind, conds_from}
use Rattle.ug_rule.specs.Faults.{missing, on_ok}
use Rattle.ug_rule.specs.Tokens.{is_close, Reads}
use Rattle.ug_rule.specs.Values.{some_items}

abbrev Walk : Type 0
Walk = Result (List Cond × List Token) Fault

pub behind : (n : ℕ) (line : List ℕ) (ending : Ending) (conds : List Cond) (tokens : List Token) (token : Token) (rest : List Token)
    → tokens ≡ token ∷ rest
    → conds_from (suc n) line ending conds tokens ≡ conds_behind line ending conds token rest (λ more left. conds_from n line ending more left)
unfolding conds_from
behind n line ending conds tokens token rest e = rw e refl

pub closes_here : (n : ℕ) (line : List ℕ) (ending : Ending) (conds : List Cond) (tokens : List Token) (token : Token) (rest : List Token) (read : Walk)
    → tokens ≡ token ∷ rest → length tokens ≤ n → is_close token.kind ≡ true
    → conds_from n line ending conds tokens ≡ read → some_items conds token.start rest ≡ read
closes_here zero line ending conds tokens token rest read e h k q = absurd (omega (arith, h, ap length e))
closes_here (suc n) line ending conds tokens token rest read e h k q =
    ap (λ (b : Bool). if b then some_items conds token.start rest else on_ok (condition_from line ending token rest) (λ p. conds_from n line ending (conds ++ p.0 ∷ []) p.1)) (sym k)
    ∙ sym (behind n line ending conds tokens token rest e) ∙ q

more_here : (n : ℕ) (line : List ℕ) (ending : Ending) (conds : List Cond) (tokens : List Token) (token : Token) (rest : List Token) (read : Walk)
    → tokens ≡ token ∷ rest → is_close token.kind ≡ false
    → conds_from (suc n) line ending conds tokens ≡ read
    → on_ok (condition_from line ending token rest) (λ p. conds_from n line ending (conds ++ p.0 ∷ []) p.1) ≡ read
more_here n line ending conds tokens token rest read e k q =
    ap (λ (b : Bool). if b then some_items conds token.start rest else on_ok (condition_from line ending token rest) (λ p. conds_from n line ending (conds ++ p.0 ∷ []) p.1)) (sym k)
    ∙ sym (behind n line ending conds tokens token rest e) ∙ q

pub goes_on : (n : ℕ) (line : List ℕ) (ending : Ending) (conds : List Cond) (tokens : List Token) (token : Token) (rest : List Token) (cond : Cond) (left : List Token) (read : Walk)
    → tokens ≡ token ∷ rest → length tokens ≤ n → is_close token.kind ≡ false
    → condition_from line ending token rest ≡ Ok (cond, left) → length left ≤ length rest
    → conds_from n line ending conds tokens ≡ read
    → (m : ℕ) × (length left ≤ m) × (conds_from m line ending (conds ++ cond ∷ []) left ≡ read)
goes_on zero line ending conds tokens token rest cond left read e h k o l q = absurd (omega (arith, h, ap length e))
goes_on (suc n) line ending conds tokens token rest cond left read e h k o l q =
    (n, omega (arith, h, ap length e, l), ap (λ (r : Result (Cond × List Token) Fault). on_ok r (λ p. conds_from n line ending (conds ++ p.0 ∷ []) p.1)) (sym o) ∙ more_here n line ending conds tokens token rest read e k q)

pub stops : (n : ℕ) (line : List ℕ) (ending : Ending) (conds : List Cond) (tokens : List Token) (token : Token) (rest : List Token) (stop : Stop) (left : List Token) (read : Walk)
    → tokens ≡ token ∷ rest → length tokens ≤ n → is_close token.kind ≡ false
    → Reads (Err stop) left (condition_from line ending token rest)
    → conds_from n line ending conds tokens ≡ read
    → Reads {X = List Cond} (Err stop) left read
stops zero line ending conds tokens token rest stop left read e h k o q = absurd (omega (arith, h, ap length e))
stops (suc n) line ending conds tokens token rest Memory left read e h k o q = tt
stops (suc n) line ending conds tokens token rest (Bad fault) left read e h k o q =
    sym (more_here n line ending conds tokens token rest read e k q)
    ∙ ap (λ (r : Result (Cond × List Token) Fault). on_ok r (λ p. conds_from n line ending (conds ++ p.0 ∷ []) p.1)) o

pub ends : (n : ℕ) (line : List ℕ) (ending : Ending) (conds : List Cond) (tokens : List Token) (read : Walk)
    → tokens ≡ [] → conds_from n line ending conds tokens ≡ read → read ≡ Err (missing OpenSet ending)
unfolding conds_from
ends n line ending conds tokens read e q = sym q ∙ rw e refl
