use Rattle.std.proofs.Common.{◌≡◌, ◌∙◌, ◌∷◌, ◌++◌, [], ℕ, List, length, take, drop, sym, ap, subst}
use Rattle.std.proofs.lemmas.List.{take_at}
use Rattle.ug_cond.specs.Words.{behind}
use Rattle.ug_policy.specs.Candidates as places
use Rattle.ug_types.specs.declared.rule.Query.{Query}
use Rattle.ug_policy.specs.declared.entry.RuleEntry.{RuleEntry}
use Rattle.ug_policy.specs.Deciding.{decider, find_decider, judgement_found, reached, rules_judged, words_taken}
use Rattle.ug_policy.specs.Kept.{StandsFor}
use Rattle.ug_policy.specs.Matching.{answer_by}
use Rattle.ug_policy.specs.Rules.{Rules, IsNumbered, queries}
use Rattle.ug_policy.proofs.Indexing.{queries_judged}
use Rattle.ug_policy.proofs.Finding.{first_matches, numbered_found, outcome_at, outcome_none, plain_found, whole_list}
use Rattle.ug_policy.proofs.Stands.{stands_found}
use Rattle.ug_policy.proofs.list.RuleList.judge.Goals as goal

pub invariant_of-self : goal.invariant_of-self
invariant_of-self g c =
    let dev = c.args.dev.now in
    let ctx = c.args.ctx.now in
    let records = g.A.Allowed.records c.args.allowed.now in
    let start = g.R.Rng.stream c.args.rng.now in
    let es = c.self.inside.entries.items in
    let ys = c.judge_by.new.entries in
    let found = find_decider dev ctx records es start in
    let now : take c.self.inside.entries.len (ys ++ drop (length ys) es) ≡ rules_judged dev ctx.moment found =
    take_at ys (drop (length ys) es) c.self.inside.entries.len (c.judge_by.ensures.len ∙ c.deref_mut.ensures.len)
    ∙ (c.judge_by.ensures.judged.entries ∙ ap (λ (v : List RuleEntry). rules_judged dev ctx.moment (find_decider dev ctx records v start)) c.deref_mut.ensures.value) in
    let whole = whole_list dev ctx records es start in
    let same : queries (take c.self.inside.entries.len (ys ++ drop (length ys) es)) ≡ queries es = ap (λ (v : List RuleEntry). queries v) now ∙ queries_judged dev ctx.moment found ∙ ap (λ (v : List RuleEntry). queries v) whole in
    record {
      numbered = subst (λ (v : List RuleEntry). IsNumbered v c.self.inside.next_id) (sym now)
          (numbered_found dev ctx.moment found c.self.inside.next_id (subst (λ (v : List RuleEntry). IsNumbered v c.self.inside.next_id) (sym whole) c.self.invariant.numbered));
      stands = subst (λ (v : List Query). places.StandsForQueries c.self.inside.index v) (sym same) c.self.invariant.stands;
    }

pub returns-clause-rule : goal.returns-clause-rule
returns-clause-rule g c = λ place entry d.
    let dev = c.args.dev.now in
    let ctx = c.args.ctx.now in
    let records = g.A.Allowed.records c.args.allowed.now in
    let start = g.R.Rng.stream c.args.rng.now in
    let es = c.self.inside.entries.items in
    let ys = c.judge_by.new.entries in
    let old = c.args.self.now.entries in
    let as_seen : es ≡ old = ap (λ (v : Rules). v.entries) c.self.view_is in
    let same : c.deref_mut.result.now ≡ old = c.deref_mut.ensures.value ∙ as_seen in
    let now : take c.self.inside.entries.len (ys ++ drop (length ys) es) ≡ rules_judged dev ctx.moment (find_decider dev ctx records old start) =
    take_at ys (drop (length ys) es) c.self.inside.entries.len (c.judge_by.ensures.len ∙ c.deref_mut.ensures.len)
    ∙ (c.judge_by.ensures.judged.entries ∙ ap (λ (v : List RuleEntry). rules_judged dev ctx.moment (find_decider dev ctx records v start)) same) in
    let answer : c.judge_by.result ≡ answer_by c.args.implicit (decider (find_decider dev ctx records old start)) =
    c.judge_by.ensures.judged.answer ∙ ap (λ (v : List RuleEntry). answer_by c.args.implicit (decider (find_decider dev ctx records v start))) same in
    let words : g.R.Rng.stream c.judge_by.new.rng ≡ behind (words_taken dev (reached (find_decider dev ctx records old start))) start =
    c.judge_by.ensures.judged.words ∙ ap (λ (v : List RuleEntry). behind (words_taken dev (reached (find_decider dev ctx records v start))) start) same in
    let said = outcome_at dev ctx records c.args.implicit old start place entry d in
    (answer ∙ said.0, now ∙ said.1, words ∙ ap (λ (v : List RuleEntry). behind (words_taken dev v) start) said.2)

pub returns-clause-implicit : goal.returns-clause-implicit
returns-clause-implicit g c = λ none.
    let dev = c.args.dev.now in
    let ctx = c.args.ctx.now in
    let records = g.A.Allowed.records c.args.allowed.now in
    let start = g.R.Rng.stream c.args.rng.now in
    let es = c.self.inside.entries.items in
    let ys = c.judge_by.new.entries in
    let old = c.args.self.now.entries in
    let as_seen : es ≡ old = ap (λ (v : Rules). v.entries) c.self.view_is in
    let same : c.deref_mut.result.now ≡ old = c.deref_mut.ensures.value ∙ as_seen in
    let now : take c.self.inside.entries.len (ys ++ drop (length ys) es) ≡ rules_judged dev ctx.moment (find_decider dev ctx records old start) =
    take_at ys (drop (length ys) es) c.self.inside.entries.len (c.judge_by.ensures.len ∙ c.deref_mut.ensures.len)
    ∙ (c.judge_by.ensures.judged.entries ∙ ap (λ (v : List RuleEntry). rules_judged dev ctx.moment (find_decider dev ctx records v start)) same) in
    let answer : c.judge_by.result ≡ answer_by c.args.implicit (decider (find_decider dev ctx records old start)) =
    c.judge_by.ensures.judged.answer ∙ ap (λ (v : List RuleEntry). answer_by c.args.implicit (decider (find_decider dev ctx records v start))) same in
    let words : g.R.Rng.stream c.judge_by.new.rng ≡ behind (words_taken dev (reached (find_decider dev ctx records old start))) start =
    c.judge_by.ensures.judged.words ∙ ap (λ (v : List RuleEntry). behind (words_taken dev (reached (find_decider dev ctx records v start))) start) same in
    let said = outcome_none dev ctx records c.args.implicit old start none in
    (answer ∙ said.0, now ∙ said.1, words ∙ ap (λ (v : List RuleEntry). behind (words_taken dev v) start) said.2)

pub returns-clause-plain : goal.returns-clause-plain
returns-clause-plain g c = λ plain.
    let dev = c.args.dev.now in
    let ctx = c.args.ctx.now in
    let records = g.A.Allowed.records c.args.allowed.now in
    let start = g.R.Rng.stream c.args.rng.now in
    let es = c.self.inside.entries.items in
    let ys = c.judge_by.new.entries in
    let old = c.args.self.now.entries in
    let as_seen : es ≡ old = ap (λ (v : Rules). v.entries) c.self.view_is in
    let same : c.deref_mut.result.now ≡ old = c.deref_mut.ensures.value ∙ as_seen in
    let now : take c.self.inside.entries.len (ys ++ drop (length ys) es) ≡ rules_judged dev ctx.moment (find_decider dev ctx records old start) =
    take_at ys (drop (length ys) es) c.self.inside.entries.len (c.judge_by.ensures.len ∙ c.deref_mut.ensures.len)
    ∙ (c.judge_by.ensures.judged.entries ∙ ap (λ (v : List RuleEntry). rules_judged dev ctx.moment (find_decider dev ctx records v start)) same) in
    let answer : c.judge_by.result ≡ answer_by c.args.implicit (decider (find_decider dev ctx records old start)) =
    c.judge_by.ensures.judged.answer ∙ ap (λ (v : List RuleEntry). answer_by c.args.implicit (decider (find_decider dev ctx records v start))) same in
    let words : g.R.Rng.stream c.judge_by.new.rng ≡ behind (words_taken dev (reached (find_decider dev ctx records old start))) start =
    c.judge_by.ensures.judged.words ∙ ap (λ (v : List RuleEntry). behind (words_taken dev (reached (find_decider dev ctx records v start))) start) same in
    let said = plain_found dev ctx records c.args.implicit old start plain in
    (answer ∙ said.0, now ∙ said.1, words ∙ ap (λ (n : ℕ). behind n start) said.2)

pub returns-clause-history : goal.returns-clause-history
returns-clause-history g c = λ js s.
    let dev = c.args.dev.now in
    let ctx = c.args.ctx.now in
    let records = g.A.Allowed.records c.args.allowed.now in
    let start = g.R.Rng.stream c.args.rng.now in
    let es = c.self.inside.entries.items in
    let ys = c.judge_by.new.entries in
    let old = c.args.self.now.entries in
    let as_seen : es ≡ old = ap (λ (v : Rules). v.entries) c.self.view_is in
    let same : c.deref_mut.result.now ≡ old = c.deref_mut.ensures.value ∙ as_seen in
    let now : take c.self.inside.entries.len (ys ++ drop (length ys) es) ≡ rules_judged dev ctx.moment (find_decider dev ctx records old start) =
    take_at ys (drop (length ys) es) c.self.inside.entries.len (c.judge_by.ensures.len ∙ c.deref_mut.ensures.len)
    ∙ (c.judge_by.ensures.judged.entries ∙ ap (λ (v : List RuleEntry). rules_judged dev ctx.moment (find_decider dev ctx records v start)) same) in
    let next = c.self.inside.next_id in
    let next_seen : next ≡ c.args.self.now.next = ap (λ (v : Rules). v.next) c.self.view_is in
    let found = find_decider dev ctx records old start in
    let whole = whole_list dev ctx records old start in
    let numbered : IsNumbered (found.before ++ found.rest) next = subst (λ (v : List RuleEntry). IsNumbered v next) (as_seen ∙ sym whole) c.self.invariant.numbered in
    let before : StandsFor (found.before ++ found.rest) next js = subst (λ (v : List RuleEntry). StandsFor v next js) (sym whole) (subst (λ (n : ℕ). StandsFor old n js) (sym next_seen) s) in
    subst (λ (v : List RuleEntry). StandsFor v next (js ++ judgement_found dev ctx.moment found ∷ [])) (sym now)
    (stands_found dev ctx.moment next js found numbered (first_matches dev ctx records old start) before)
