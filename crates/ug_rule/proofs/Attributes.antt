-- One more attribute of a query.
use Rattle.std.proofs.Common.{◌≡◌, ℕ, zero, suc, ◌<◌, ◌≤◌, List, [], ◌∷◌, length, Option, Some, None, Result, Ok, Err, refl, sym, ap, ◌∙◌, arith}
use Rattle.ug_words.specs.declared.token.Token.{Token}
use Rattle.ug_types.specs.declared.rule.Query.{Query}
use Rattle.ug_rule.specs.declared.fault.Ending.{Ending}
use Rattle.ug_rule.specs.declared.fault.Fault.{Fault}
use Rattle.ug_rule.specs.declared.fault.Stop.{Stop}
use Rattle.ug_rule.specs.declared.fault.Stop.TheVariants.{Bad, Memory}
use Rattle.ug_rule.specs.declared.queries.Named.{Named}
use Rattle.ug_rule.specs.Faults.{on_ok}
use Rattle.ug_rule.specs.Queries.{attribute_name_of, attribute_once, attributes_from}
use Rattle.ug_rule.specs.Tokens.{ReadsInto}

abbrev Walk : Type 0
Walk = Result (Query × List Token) Fault

-- an attribute comes next
pub named_first : (n : ℕ) (line : List ℕ) (ending : Ending) (query : Query) (tokens rest : List Token) (named : Named)
    → attribute_name_of line tokens ≡ (Some named, rest)
    → attributes_from (suc n) line ending query tokens ≡ on_ok (attribute_once line ending named query rest) (λ p. attributes_from n line ending p.0 p.1)
unfolding attributes_from
named_first n line ending query tokens rest named e = rw e refl

pub stops : (n : ℕ) (line : List ℕ) (ending : Ending) (query : Query) (tokens rest : List Token) (named : Named) (stop : Stop) (after : Query) (left : List Token) (read : Walk)
    → attribute_name_of line tokens ≡ (Some named, rest) → length rest < length tokens → length tokens ≤ n
    → ReadsInto (Err stop) after left (attribute_once line ending named query rest)
    → attributes_from n line ending query tokens ≡ read → ReadsInto (Err stop) after left read
stops zero line ending query tokens rest named stop after left read e less h o q = absurd (omega (arith, less, h))
stops (suc n) line ending query tokens rest named Memory after left read e less h o q = tt
stops (suc n) line ending query tokens rest named (Bad fault) after left read e less h o q =
    sym q ∙ named_first n line ending query tokens rest named e ∙ ap (λ (r : Walk). on_ok r (λ p. attributes_from n line ending p.0 p.1)) o

pub goes_on : (n : ℕ) (line : List ℕ) (ending : Ending) (query : Query) (tokens rest : List Token) (named : Named) (after : Query) (left : List Token) (read : Walk)
    → attribute_name_of line tokens ≡ (Some named, rest) → length rest < length tokens → length tokens ≤ n
    → attribute_once line ending named query rest ≡ Ok (after, left) → length left ≤ length rest
    → attributes_from n line ending query tokens ≡ read → (m : ℕ) × (length left ≤ m) × (attributes_from m line ending after left ≡ read)
goes_on zero line ending query tokens rest named after left read e less h o k q = absurd (omega (arith, less, h))
goes_on (suc n) line ending query tokens rest named after left read e less h o k q =
    (n, omega (arith, less, h, k), ap (λ (r : Walk). on_ok r (λ p. attributes_from n line ending p.0 p.1)) (sym o) ∙ sym (named_first n line ending query tokens rest named e) ∙ q)

pub ends : (n : ℕ) (line : List ℕ) (ending : Ending) (query : Query) (tokens rest : List Token) (read : Walk)
    → attribute_name_of line tokens ≡ (None, rest) → length tokens ≤ n
    → attributes_from n line ending query tokens ≡ read → read ≡ Ok (query, rest)
unfolding attributes_from
ends zero line ending query [] rest read e h q = sym q ∙ ap (λ (p : Option Named × List Token). Ok (query, p.1)) e
ends zero line ending query (token ∷ tokens) rest read e h q = absurd (omega (arith, h))
ends (suc n) line ending query tokens rest read e h q = sym q ∙ rw e refl
