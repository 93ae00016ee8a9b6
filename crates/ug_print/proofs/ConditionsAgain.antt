-- Printed conditions are read as these conditions.
use Rattle.std.proofs.Common.{◌≡◌, ℕ, ◌<◌, inl, inr, true, false, Bool, List, [], ◌∷◌, ◌++◌, codes, length, map, Option, None, Some, refl, sym, ap, subst, ◌∙◌, arith, append_assoc}
use Rattle.std.specs.Prelude.{IfSome, decimal, if◌then◌else◌}
use Rattle.std.specs.List.{AllByRecursion}
use Rattle.ug_words.specs.declared.token.Token.{Token}
use Rattle.ug_words.specs.declared.token.TokenKind.TheVariants as kind
use Rattle.ug_types.specs.declared.rule.Cond.{Cond}
use Rattle.ug_types.specs.declared.rule.CondKind.{CondKind}
use Rattle.ug_types.specs.declared.rule.CondKind.TheVariants as condition
use Rattle.ug_types.specs.declared.rule.Op.{Op}
use Rattle.ug_types.specs.declared.rule.Op.TheVariants.{AllOf, OneOf, NoneOf, Equals, EqualsOrdered}
use Rattle.ug_types.specs.declared.rule.Query.{Query}
use Rattle.ug_words.specs.declared.keywords.CondName.{CondName}
use Rattle.ug_words.specs.declared.keywords.CondName.TheVariants as name
use Rattle.ug_words.specs.declared.words.DaySpan.{DaySpan}
use Rattle.ug_rule.specs.Conditions.{conditions_joined}
use Rattle.ug_rule.specs.Grammar.{IsArgument, Argues, HasQuery, IsNamedCondition, IsCondition, AreConditions, IsCondSet, IsConditions}
use Rattle.ug_words.specs.Keywords.{condition_of}
use Rattle.ug_rule.specs.Queries.{has_colon, is_empty_query, no_query}
use Rattle.ug_rule.specs.Tokens.{is_close, is_paren_open, is_paren_close, is_bang}
use Rattle.ug_words.specs.Words.{span_of, past_of, chance_of}
use Rattle.ug_print.specs.Items.{past_text, probability_text, time_text}
use Rattle.ug_print.specs.Words.{cond_text, kind_text, query_words, set_words}
use Rattle.ug_print.specs.Words as words
use Rattle.ug_print.proofs.Pieces.{Piece, ArePieces, Cut, CutAll, IsWord, StopsWord, behind, cut_word, joined_cut, mark_before, no_text, one_mark, one_word, word_piece}
use Rattle.ug_print.proofs.Readings.{Leads, Taken, Reads, SetReads, close_piece, is_known, known_word, paren_leads, word_leads}
use Rattle.ug_print.proofs.QueryAgain.{Attributes, QueryFits, Told, query_again}
use Rattle.ug_print.proofs.ValuesAgain.{set_again, several}

-- ---- arguments

-- a word that says a value
pub record WordFor {X : Type 0} (reads : List ℕ → Option X) (text : List ℕ) (x : X) : Type 0 where
  pub word : IsWord text
  pub says : reads text ≡ Some x

-- what stands behind a condition's name
record Argued (text : List ℕ) (R : List ℕ → List Token → List Token → Type 0) : Type 0 where
  pieces : List Piece
  cut : Cut text pieces
  stops : StopsWord text
  reads : (line : List ℕ) (more : List Piece) (tokens : List Token) → Leads more → ArePieces line (pieces ++ more) tokens → Taken line more tokens (R line)

abbrev paren_open : Piece
paren_open = record { kind = kind.ParenOpen; word = [] }

abbrev paren_close : Piece
paren_close = record { kind = kind.ParenClose; word = [] }

abbrev in_parens : List ℕ → List ℕ
in_parens text = 40 ∷ (text ++ 41 ∷ [])

parens_cut : (text : List ℕ) (pieces : List Piece) → Cut text pieces → Cut (in_parens text) (paren_open ∷ (pieces ++ paren_close ∷ []))
parens_cut text pieces c = mark_before 40 kind.ParenOpen (text ++ 41 ∷ []) (pieces ++ paren_close ∷ []) refl (behind text (41 ∷ []) pieces (paren_close ∷ []) c (one_mark 41 kind.ParenClose refl) (λ rest h. refl))

word_argued : {X : Type 0} (reads : List ℕ → Option X) (text : List ℕ) (x : X) (R : List ℕ → List Token → List Token → Type 0) → WordFor reads text x → ((line : List ℕ) (tokens rest : List Token) → IsArgument line reads x tokens rest → R line tokens rest) → Argued (in_parens text) R
word_argued reads text x R w f = record {
  pieces = paren_open ∷ word_piece text ∷ paren_close ∷ [];
  cut = parens_cut text (word_piece text ∷ []) (one_word text w.word);
  stops = λ rest h. refl;
  reads = λ line more tokens l a.
      let word = a.behind in
      let closing = word.behind in
      let cut : tokens ≡ a.token ∷ word.token ∷ closing.token ∷ closing.rest = a.cut ∙ ap (λ (t : List Token). a.token ∷ t) (word.cut ∙ ap (λ (t : List Token). word.token ∷ t) closing.cut) in
      record {
        rest = closing.rest;
        is = f line tokens closing.rest (record { opening = a.token; word = word.token; closing = closing.token; cut = cut; opens = ap is_paren_open a.is.kind; says = ap reads word.is.word ∙ w.says; closes = ap is_paren_close closing.is.kind });
        behind = closing.behind;
      };
}

nothing_argued : (R : List ℕ → List Token → List Token → Type 0) → ((line : List ℕ) (more : List Piece) (tokens : List Token) → Leads more → ArePieces line more tokens → R line tokens tokens) → Argued [] R
nothing_argued R f = record {
  pieces = [];
  cut = no_text;
  stops = λ rest h. h;
  reads = λ line more tokens l a. record { rest = tokens; is = f line more tokens l a; behind = a };
}

close_leads : (more : List Piece) → Leads (paren_close ∷ more)
close_leads more = record { colon = refl; paren = refl }

query_argued : (query : Query) → QueryFits query → is_empty_query query ≡ false → Argued (in_parens (words.joined (query_words query))) (λ line. HasQuery line query)
query_argued query f some =
    let t : Told (query_words query) (Attributes no_query query) = query_again query f in
    record {
      pieces = paren_open ∷ (t.told.pieces ++ paren_close ∷ []);
      cut = parens_cut (words.joined (query_words query)) t.told.pieces (joined_cut (query_words query) t.told.pieces t.told.cut);
      stops = λ rest h. refl;
      reads = λ line more tokens l a.
          let inner : ArePieces line (t.told.pieces ++ (paren_close ∷ more)) a.rest = subst (λ (p : List Piece). ArePieces line p a.rest) (append_assoc t.told.pieces (paren_close ∷ []) more) a.behind in
          let u : Taken line (paren_close ∷ more) a.rest (Attributes no_query query line) = t.told.reads line (paren_close ∷ more) a.rest (close_leads more) inner in
          let b = u.behind in
          let is : Attributes no_query query line a.rest (b.token ∷ b.rest) = subst (λ (l : List Token). Attributes no_query query line a.rest l) b.cut u.is in
          let lead = word_leads line (t.told.pieces ++ (paren_close ∷ more)) a.rest (t.leads (paren_close ∷ more) (close_leads more)) inner in
          record {
            rest = b.rest;
            is = record {
              opening = a.token;
              closing = b.token;
              more = a.rest;
              cut = a.cut;
              opens = ap is_paren_open a.is.kind;
              is = record { first = no_query; more = a.rest; attrs = is.0; begins = inr (lead, refl, refl); are = is.1 };
              some = some;
              closes = ap is_paren_close b.is.kind;
            };
            behind = b.behind;
          };
    }

-- ---- conditions

-- a text of several pieces, none of which is an id or an argument in front
pub record CondReads (text : List ℕ) (R : List ℕ → List Token → List Token → Type 0) : Type 0 where
  pub pieces : List Piece
  pub cut : Cut text pieces
  pub reads : (line : List ℕ) (more : List Piece) (tokens : List Token) → Leads more → ArePieces line (pieces ++ more) tokens → Taken line more tokens (R line)
  pub leads : (more : List Piece) → Leads (pieces ++ more)

named_again : (word argument : List ℕ) (name : CondName) (kind : CondKind) → is_known word ≡ true → condition_of word ≡ Some name → has_colon word ≡ false → Argued argument (λ line. Argues line name kind) → CondReads (word ++ argument) (λ line. IsNamedCondition line kind)
named_again word argument name kind k n p g = record {
  pieces = word_piece word ∷ g.pieces;
  cut = behind word argument (word_piece word ∷ []) g.pieces (one_word word (known_word word k)) g.cut g.stops;
  reads = λ line more tokens l a.
      let t : Taken line more a.rest (Argues line name kind) = g.reads line more a.rest l a.behind in
      record { rest = t.rest; is = record { word = a.token; name = name; more = a.rest; cut = a.cut; names = ap condition_of a.is.word ∙ n; argues = t.is }; behind = t.behind };
  leads = λ more. record { colon = p; paren = refl };
}

abbrev span : ℕ → ℕ → DaySpan
span begin end = record { begin = begin; end = end }

-- what is printed for a condition is read as it
abbrev pub KindFits : CondKind → Type 0
KindFits (condition.LocalTime begin end) = WordFor span_of (time_text begin ++ 45 ∷ time_text end) (span begin end)
KindFits (condition.AllowedMatches query) = QueryFits query × (is_empty_query query ≡ false)
KindFits (condition.RuleApplied past) = IfSome past (λ seconds. WordFor past_of (decimal seconds) seconds)
KindFits (condition.RuleEvaluated past) = IfSome past (λ seconds. WordFor past_of (decimal seconds) seconds)
KindFits (condition.Random n) = WordFor chance_of (probability_text n) n
KindFits condition.True = Unit {0}
KindFits condition.False = Unit {0}

applied_again : (past : Option ℕ) → IfSome past (λ seconds. WordFor past_of (decimal seconds) seconds) → Argued (past_text past) (λ line. Argues line name.RuleApplied (condition.RuleApplied past))
applied_again None f = nothing_argued (λ line. Argues line name.RuleApplied (condition.RuleApplied None)) (λ line more tokens l a. (None, (paren_leads line more tokens l a, refl), refl))
applied_again (Some s) f = word_argued past_of (decimal s) s (λ line. Argues line name.RuleApplied (condition.RuleApplied (Some s))) f (λ line tokens rest i. (Some s, i, refl))

evaluated_again : (past : Option ℕ) → IfSome past (λ seconds. WordFor past_of (decimal seconds) seconds) → Argued (past_text past) (λ line. Argues line name.RuleEvaluated (condition.RuleEvaluated past))
evaluated_again None f = nothing_argued (λ line. Argues line name.RuleEvaluated (condition.RuleEvaluated None)) (λ line more tokens l a. (None, (paren_leads line more tokens l a, refl), refl))
evaluated_again (Some s) f = word_argued past_of (decimal s) s (λ line. Argues line name.RuleEvaluated (condition.RuleEvaluated (Some s))) f (λ line tokens rest i. (Some s, i, refl))

kind_again : (kind : CondKind) → KindFits kind → CondReads (kind_text kind) (λ line. IsNamedCondition line kind)
unfolding kind_text condition_of
kind_again (condition.LocalTime begin end) f =
    let same : codes "localtime" ++ in_parens (time_text begin ++ 45 ∷ time_text end) ≡ codes "localtime(" ++ time_text begin ++ 45 ∷ (time_text end ++ 41 ∷ []) = ap (λ (l : List ℕ). codes "localtime(" ++ l) (append_assoc (time_text begin) (45 ∷ time_text end) (41 ∷ [])) in
    subst (λ (l : List ℕ). CondReads l (λ line. IsNamedCondition line (condition.LocalTime begin end))) same
    (named_again (codes "localtime") (in_parens (time_text begin ++ 45 ∷ time_text end)) name.LocalTime (condition.LocalTime begin end) refl refl refl
    (word_argued span_of (time_text begin ++ 45 ∷ time_text end) (span begin end) (λ line. Argues line name.LocalTime (condition.LocalTime begin end)) f (λ line tokens rest i. (span begin end, i, refl))))
kind_again (condition.AllowedMatches query) f =
    let q : Argued (in_parens (words.joined (query_words query))) (λ line. HasQuery line query) = query_argued query f.0 f.1 in
    named_again (codes "allowed-matches") (in_parens (words.joined (query_words query))) name.AllowedMatches (condition.AllowedMatches query) refl refl refl (record {
      pieces = q.pieces;
      cut = q.cut;
      stops = q.stops;
      reads = λ line more tokens l a.
          let t : Taken line more tokens (HasQuery line query) = q.reads line more tokens l a in
          record { rest = t.rest; is = (query, t.is, refl); behind = t.behind };
    })
kind_again (condition.RuleApplied past) f = named_again (codes "rule-applied") (past_text past) name.RuleApplied (condition.RuleApplied past) refl refl refl (applied_again past f)
kind_again (condition.RuleEvaluated past) f = named_again (codes "rule-evaluated") (past_text past) name.RuleEvaluated (condition.RuleEvaluated past) refl refl refl (evaluated_again past f)
kind_again (condition.Random n) f =
    named_again (codes "random") (in_parens (probability_text n)) name.Random (condition.Random n) refl refl refl
    (word_argued chance_of (probability_text n) n (λ line. Argues line name.Random (condition.Random n)) f (λ line tokens rest i. (Some n, i, refl)))
kind_again condition.True f = named_again (codes "true") [] name.True condition.True refl refl refl (nothing_argued (λ line. Argues line name.True condition.True) (λ line more tokens l a. (refl, refl)))
kind_again condition.False f = named_again (codes "false") [] name.False condition.False refl refl refl (nothing_argued (λ line. Argues line name.False condition.False) (λ line more tokens l a. (refl, refl)))

abbrev pub CondFits : Cond → Type 0
CondFits cond = KindFits cond.kind

abbrev bang : Piece
bang = record { kind = kind.Bang; word = [] }

cond_again : (negated : Bool) (plain : CondKind) → KindFits plain → CondReads ((if negated then codes "!" else []) ++ kind_text plain) (λ line. IsCondition line (record { negated = negated; kind = plain }))
cond_again false plain f =
    let r : CondReads (kind_text plain) (λ line. IsNamedCondition line plain) = kind_again plain f in
    record {
      pieces = r.pieces;
      cut = r.cut;
      reads = λ line more tokens l a.
          let t : Taken line more tokens (IsNamedCondition line plain) = r.reads line more tokens l a in
          record { rest = t.rest; is = inl (record { kind = plain; named = t.is; is = refl }); behind = t.behind };
      leads = r.leads;
    }
cond_again true plain f =
    let r : CondReads (kind_text plain) (λ line. IsNamedCondition line plain) = kind_again plain f in
    record {
      pieces = bang ∷ r.pieces;
      cut = mark_before 33 kind.Bang (kind_text plain) r.pieces refl r.cut;
      reads = λ line more tokens l a.
          let t : Taken line more a.rest (IsNamedCondition line plain) = r.reads line more a.rest l a.behind in
          record { rest = t.rest; is = inr (record { bang = a.token; more = a.rest; kind = plain; cut = a.cut; negates = ap is_bang a.is.kind; named = t.is; is = refl }); behind = t.behind };
      leads = λ more. record { colon = refl; paren = refl };
    }

-- ---- sets of conditions

record CondsRead (ws : List (List ℕ)) (conds : List Cond) : Type 0 where
  pieces : List Piece
  cut : CutAll ws pieces
  reads : (line : List ℕ) (more : List Piece) (tokens : List Token) → Leads more → ArePieces line (pieces ++ more) tokens → Taken line more tokens (AreConditions line conds)
  leads : (more : List Piece) → Leads more → Leads (pieces ++ more)

all_conds : (conds : List Cond) → AllByRecursion CondFits conds → CondsRead (map cond_text conds) conds
all_conds [] f = record { pieces = []; cut = refl; reads = λ line more tokens l a. record { rest = tokens; is = refl; behind = a }; leads = λ more l. l }
all_conds (cond ∷ conds) f =
    let c : CondReads (cond_text cond) (λ line. IsCondition line cond) = cond_again cond.negated cond.kind f.0 in
    let r : CondsRead (map cond_text conds) conds = all_conds conds f.1 in
    record {
      pieces = c.pieces ++ r.pieces;
      cut = cut_word (cond_text cond) (map cond_text conds) c.pieces r.pieces c.cut r.cut;
      reads = λ line more tokens l a.
          let t : Taken line (r.pieces ++ more) tokens (IsCondition line cond) = c.reads line (r.pieces ++ more) tokens (r.leads more l) (subst (λ (p : List Piece). ArePieces line p tokens) (append_assoc c.pieces r.pieces more) a) in
          let u : Taken line more t.rest (AreConditions line conds) = r.reads line more t.rest l t.behind in
          record { rest = u.rest; is = (t.rest, t.is, u.is); behind = u.behind };
      leads = λ more l. subst Leads (sym (append_assoc c.pieces r.pieces more)) (c.leads (r.pieces ++ more));
    }

set_of_conds : (ws : List (List ℕ)) (conds : List Cond) → 0 < length conds → CondsRead ws conds → SetReads ws (λ line. IsCondSet line conds)
set_of_conds ws conds some r = record {
  pieces = r.pieces;
  cut = r.cut;
  reads = λ line more tokens a.
      let t : Taken line (close_piece ∷ more) tokens (AreConditions line conds) = r.reads line (close_piece ∷ more) tokens (record { colon = refl; paren = refl }) a in
      let b = t.behind in
      record {
        rest = b.rest;
        is = record { brace = b.token; are = subst (λ (l : List Token). AreConditions line conds tokens l) b.cut t.is; closes = ap is_close b.is.kind; some = some };
        behind = b.behind;
      };
}

braced_again : (op : Op) (conds : List Cond) → words.is_alone op (length (map cond_text conds)) ≡ false → 0 < length conds → AllByRecursion CondFits conds → Reads (set_words op (map cond_text conds)) (λ line. IsConditions line (conditions_joined op conds))
braced_again op conds a some f =
    set_again op (map cond_text conds) (λ line. IsCondSet line conds) (λ line. IsConditions line (conditions_joined op conds)) a (set_of_conds (map cond_text conds) conds some (all_conds conds f))
    (λ line tokens rest o e. inr (inl (record { brace = o.brace; items = conds; more = o.more; cut = o.cut; opens = o.opens; set = o.set; is = ap (λ (p : Op). conditions_joined p conds) e })))
    (λ line tokens rest o. inr (inr (record { word = o.word; brace = o.brace; op = op; items = conds; more = o.more; cut = o.cut; names = o.names; opens = o.opens; set = o.set; is = refl })))

one_again : (cond : Cond) → CondFits cond → Reads (cond_text cond ∷ []) (λ line. IsConditions line (conditions_joined Equals (cond ∷ [])))
one_again cond f =
    let c : CondReads (cond_text cond) (λ line. IsCondition line cond) = cond_again cond.negated cond.kind f in
    record {
      pieces = c.pieces ++ [];
      cut = cut_word (cond_text cond) [] c.pieces [] c.cut refl;
      reads = λ line more tokens l a.
          let t : Taken line more tokens (IsCondition line cond) = c.reads line more tokens l (subst (λ (p : List Piece). ArePieces line p tokens) (append_assoc c.pieces [] more) a) in
          record { rest = t.rest; is = inl (record { cond = cond; one = t.is; is = refl }); behind = t.behind };
    }

pub conditions_again : (op : Op) (conds : List Cond) → 0 < length conds → AllByRecursion CondFits conds → Reads (set_words op (map cond_text conds)) (λ line. IsConditions line (conditions_joined op conds))
conditions_again op [] some f = absurd (omega (arith, some))
conditions_again Equals (cond ∷ []) some f = one_again cond f.0
conditions_again Equals (cond ∷ other ∷ conds) some f = braced_again Equals (cond ∷ other ∷ conds) (several (length (map cond_text conds))) some f
conditions_again AllOf (cond ∷ conds) some f = braced_again AllOf (cond ∷ conds) refl some f
conditions_again OneOf (cond ∷ conds) some f = braced_again OneOf (cond ∷ conds) refl some f
conditions_again NoneOf (cond ∷ conds) some f = braced_again NoneOf (cond ∷ conds) refl some f
conditions_again EqualsOrdered (cond ∷ conds) some f = braced_again EqualsOrdered (cond ∷ conds) refl some f
