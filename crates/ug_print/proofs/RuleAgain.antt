-- A printed rule is read as this rule.
use Rattle.std.proofs.Common.{◌≡◌, ℕ, ◌<◌, inr, List, [], ◌∷◌, ◌++◌, codes, length, map, Option, None, Some, refl, sym, ap, subst, ◌∙◌}
use Rattle.std.specs.Prelude.{IfSome}
use Rattle.std.specs.List.{AllByRecursion}
use Rattle.std.proofs.lemmas.List.{append-nil}
use Rattle.ug_words.specs.declared.token.Token.{Token}
use Rattle.ug_types.specs.declared.rule.Conds.{Conds}
use Rattle.ug_types.specs.declared.rule.Query.{Query}
use Rattle.ug_types.specs.declared.rule.Rule.{Rule}
use Rattle.ug_types.specs.declared.verdict.Target.{Target}
use Rattle.ug_types.specs.declared.verdict.Target.TheVariants.{Allow, Block, Reject}
use Rattle.ug_words.specs.declared.keywords.Attr.{Attr}
use Rattle.ug_rule.specs.Grammar.{AreAttributes, AreParts, IsConditions, RulePart, Attribute, If, Says}
use Rattle.ug_words.specs.Keywords.{is_if}
use Rattle.ug_types.specs.Targets.{target_of, target_word}
use Rattle.ug_rule.specs.Queries.{no_query}
use Rattle.ug_lines.specs.Splitting.{IsLine}
use Rattle.ug_print.specs.Words.{cond_text, conds_words, query_words, rule_text, set_words}
use Rattle.ug_print.proofs.OneLine.{cut_line}
use Rattle.ug_print.proofs.Pieces.{Piece, ArePieces, Cut, CutAll, IsWord, Whole, cut-append, cut_word, joined_cut, one_word, whole, word_piece}
use Rattle.ug_print.proofs.Readings.{Leads, Taken, Reads, known_word, word_leads}
use Rattle.ug_print.proofs.ConditionsAgain.{CondFits, conditions_again}
use Rattle.ug_print.proofs.QueryAgain.{Attributes, QueryFits, Told, query_again}

pub record CondsFit (conds : Conds) : Type 0 where
  pub some : 0 < length conds.items
  pub each : AllByRecursion CondFits conds.items

pub record RuleFits (rule : Rule) : Type 0 where
  pub query : QueryFits rule.query
  pub conds : IfSome rule.conds CondsFit

-- ---- the parts of a rule

nothing_leads : Leads []
nothing_leads = record { colon = refl; paren = refl }

-- words to the last token that are read as conditions behind a query
record Ends (ws : List (List ℕ)) (query : Query) (conds : Option Conds) : Type 0 where
  pieces : List Piece
  cut : CutAll ws pieces
  leads : Leads pieces
  reads : (line : List ℕ) (tokens : List Token) → ArePieces line pieces tokens → (parts : List RulePart) × AreParts line parts query None query conds tokens

conds_end : (query : Query) (conds : Option Conds) → IfSome conds CondsFit → Ends (conds_words conds) query conds
unfolding is_if
conds_end query None f = record { pieces = []; cut = refl; leads = nothing_leads; reads = λ line tokens a. ([], (refl, refl, a)) }
conds_end query (Some conds) f =
    let r : Reads (set_words conds.op (map cond_text conds.items)) (λ line. IsConditions line conds) = conditions_again conds.op conds.items f.some f.each in
    record {
      pieces = word_piece (codes "if") ∷ r.pieces;
      cut = cut_word (codes "if") (set_words conds.op (map cond_text conds.items)) (word_piece (codes "if") ∷ []) r.pieces (one_word (codes "if") (known_word (codes "if") refl)) r.cut;
      leads = record { colon = refl; paren = refl };
      reads = λ line tokens a.
          let t : Taken line [] a.rest (IsConditions line conds) = r.reads line [] a.rest nothing_leads (subst (λ (p : List Piece). ArePieces line p a.rest) (sym (append-nil r.pieces)) a.behind) in
          (If ∷ [], (conds, t.rest, record { word = a.token; more = a.rest; cut = a.cut; names = ap is_if a.is.word; are = t.is }, refl, (refl, refl, t.behind)));
    }

parts_then : (line : List ℕ) (attrs : List Attr) (parts : List RulePart) (query next all : Query) (conds found : Option Conds) (tokens left : List Token) → AreAttributes line attrs query next tokens left → AreParts line parts next conds all found left → AreParts line (map Attribute attrs ++ parts) query conds all found tokens
parts_then line [] parts query next all conds found tokens left a p = subst (λ (q : Query). AreParts line parts q conds all found tokens) a.0 (subst (λ (t : List Token). AreParts line parts next conds all found t) (sym a.1) p)
parts_then line (attr ∷ attrs) parts query next all conds found tokens left a p = (a.0, a.1, a.2, parts_then line attrs parts a.0 next all conds found a.1 left a.3 p)

-- ---- the rule

pub target_known : (target : Target) → IsWord (target_word target) × (target_of (target_word target) ≡ Some target)
unfolding target_of
target_known Allow = (known_word (codes "allow") refl, refl)
target_known Block = (known_word (codes "block") refl, refl)
target_known Reject = (known_word (codes "reject") refl, refl)

rule_pieces : (rule : Rule) (t : Told (query_words rule.query) (Attributes no_query rule.query)) (e : Ends (conds_words rule.conds) rule.query rule.conds) → Cut (rule_text rule) (word_piece (target_word rule.target) ∷ (t.told.pieces ++ e.pieces))
unfolding rule_text
rule_pieces rule t e =
    joined_cut (target_word rule.target ∷ (query_words rule.query ++ conds_words rule.conds)) (word_piece (target_word rule.target) ∷ (t.told.pieces ++ e.pieces))
    (cut_word (target_word rule.target) (query_words rule.query ++ conds_words rule.conds) (word_piece (target_word rule.target) ∷ []) (t.told.pieces ++ e.pieces) (one_word (target_word rule.target) (target_known rule.target).0)
    (cut-append (query_words rule.query) (conds_words rule.conds) t.told.pieces e.pieces t.told.cut e.cut))

pub rule_again : (rule : Rule) → RuleFits rule → Says (rule_text rule) rule
rule_again rule f =
    let t : Told (query_words rule.query) (Attributes no_query rule.query) = query_again rule.query f.query in
    let e : Ends (conds_words rule.conds) rule.query rule.conds = conds_end rule.query rule.conds f.conds in
    let line : List ℕ = rule_text rule in
    let w : Whole line (word_piece (target_word rule.target) ∷ (t.told.pieces ++ e.pieces)) = whole line (word_piece (target_word rule.target) ∷ (t.told.pieces ++ e.pieces)) (rule_pieces rule t e) in
    let a = w.are in
    let u : Taken line e.pieces a.rest (Attributes no_query rule.query line) = t.told.reads line e.pieces a.rest e.leads a.behind in
    let parts = e.reads line u.rest u.behind in
    record {
      tokens = w.tokens;
      cut = w.good;
      is = record {
        target = a.token;
        body = a.rest;
        first = no_query;
        behind = a.rest;
        parts = map Attribute u.is.0 ++ parts.0;
        cut = a.cut;
        names = ap target_of a.is.word ∙ (target_known rule.target).1;
        begins = inr (word_leads line (t.told.pieces ++ e.pieces) a.rest (t.leads e.pieces e.leads) a.behind, refl, refl);
        are = parts_then line u.is.0 parts.0 no_query rule.query rule.query None rule.conds a.rest u.rest u.is.1 parts.1;
      };
    }

pub rule_on_line : (rule : Rule) → RuleFits rule → IsLine (rule_text rule)
rule_on_line rule f =
    let t : Told (query_words rule.query) (Attributes no_query rule.query) = query_again rule.query f.query in
    let e : Ends (conds_words rule.conds) rule.query rule.conds = conds_end rule.query rule.conds f.conds in
    cut_line (rule_text rule) (word_piece (target_word rule.target) ∷ (t.told.pieces ++ e.pieces)) (rule_pieces rule t e)
