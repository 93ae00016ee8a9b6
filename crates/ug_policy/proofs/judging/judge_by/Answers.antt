use Rattle.std.proofs.Common.{◌≡◌, ◌≤◌, ◌+◌, ℕ, suc, List, [], ◌∷◌, length, get_or, set, take, drop, false, true, sym, ap, ◌∙◌, subst, refl, arith}
use Rattle.std.proofs.lemmas.Bool.{cond-true, cond-false}
use Rattle.std.proofs.lemmas.List.{at_drop_all, at_drop_more, take_more}
use Rattle.ug_cond.specs.Words.{behind}
use Rattle.ug_policy.specs.declared.entry.RuleEntry.{RuleEntry}
use Rattle.ug_policy.specs.Deciding.{decides, rule_takes, seen}
use Rattle.ug_policy.specs.Matching.{rule_noted}
use Rattle.ug_policy.proofs.Walking.{IsWalked, WalksFrom, candidates_walk, decides_at, none_decides, skip, step_over, walked, walked_last}
use Rattle.ug_policy.proofs.judging.judge_by.Goals as goal

pub loop-i-init : goal.loop-i-init
loop-i-init g c = record {
  within = omega arith;
  walks = candidates_walk c.args.dev.now c.args.entries.now c.args.places.now c.requires;
  at = record { entries = refl; found = refl; words = refl };
}

pub bounds-entries-place : goal.bounds-entries-place
bounds-entries-place g c =
    let i = c.loop-i.i in
    let ps = c.args.places.now in
    let es = c.args.entries.now in
    let left : drop i ps ≡ get_or ps i 0 ∷ drop (i + 1) ps = at_drop_more (λ (v : List ℕ). v) ps i 0 c.loop-i-test.true in
    let walks = subst (λ (v : List ℕ). WalksFrom c.args.dev.now es (walked 0 (take i ps)) v) left c.loop-i.invariant.walks in
    omega (arith, walks.1, c.loop-i.auto.entries)

pub loop-i-preserved : goal.loop-i-preserved
loop-i-preserved g c =
    let dev = c.args.dev.now in
    let ctx = c.args.ctx.now in
    let records = g.A.Allowed.records c.args.allowed.now in
    let es = c.args.entries.now in
    let ps = c.args.places.now in
    let now = c.loop-i.entries in
    let i = c.loop-i.i in
    let from : ℕ = walked 0 (take i ps) in
    let start = g.R.Rng.stream c.args.rng.now in
    let stream = g.R.Rng.stream c.loop-i.rng in
    let p : ℕ = get_or ps i 0 in
    let e = c.index-entries-place.result in
    let next = g.R.Rng.stream c.evaluate.new.rng in
    let places : drop i ps ≡ p ∷ drop (i + 1) ps = at_drop_more (λ (v : List ℕ). v) ps i 0 c.loop-i-test.true in
    let walks : WalksFrom dev es from (p ∷ drop (i + 1) ps) = subst (λ (v : List ℕ). WalksFrom dev es from v) places c.loop-i.invariant.walks in
    let here : IsWalked dev ctx records es now start stream p = skip dev ctx records es now start stream from p walks.0 (omega (arith, walks.1)) walks.2 c.loop-i.invariant.at in
    let read : get_or now p e ≡ e = sym c.index-entries-place.is in
    let value : c.evaluate.result ≡ decides dev ctx records e stream = c.evaluate.ensures.value ∙ ap (λ (v : RuleEntry). decides dev ctx records v stream) read in
    let words : next ≡ behind (rule_takes dev e) stream = c.evaluate.ensures.words ∙ ap (λ (v : RuleEntry). behind (rule_takes dev v) stream) read in
    let later : decides dev ctx records e stream ≡ false = sym value ∙ c.if-evaluate.false in
    let entry : c.evaluate.new.entry ≡ seen dev ctx.moment e = c.evaluate.ensures.entry ∙ cond-false c.evaluate.result (rule_noted ctx.moment (get_or now p e)) (seen dev ctx.moment (get_or now p e)) c.if-evaluate.false ∙ ap (seen dev ctx.moment) read in
    let at = step_over dev ctx records es now start stream next p e c.evaluate.new.entry walks.1 here (sym read) later entry words in
    let reached : suc p ≡ walked 0 (take (i + 1) ps) = sym (ap (λ (v : List ℕ). walked 0 v) (take_more ps i 0 c.loop-i-test.true) ∙ walked_last 0 (take i ps) p) in
    record {
      within = subst (λ (n : ℕ). n ≤ length es) reached (omega (arith, walks.1));
      walks = subst (λ (n : ℕ). WalksFrom dev es n (drop (i + 1) ps)) reached walks.3;
      at = subst (λ (n : ℕ). IsWalked dev ctx records es (set now p c.evaluate.new.entry) start next n) reached at;
    }

pub returns-then-evaluate-clause-judged : goal.returns-then-evaluate-clause-judged
returns-then-evaluate-clause-judged g c =
    let dev = c.args.dev.now in
    let ctx = c.args.ctx.now in
    let records = g.A.Allowed.records c.args.allowed.now in
    let es = c.args.entries.now in
    let ps = c.args.places.now in
    let now = c.loop-i.entries in
    let i = c.loop-i.i in
    let from : ℕ = walked 0 (take i ps) in
    let start = g.R.Rng.stream c.args.rng.now in
    let stream = g.R.Rng.stream c.loop-i.rng in
    let p : ℕ = get_or ps i 0 in
    let e = c.index-entries-place.result in
    let next = g.R.Rng.stream c.evaluate.new.rng in
    let places : drop i ps ≡ p ∷ drop (i + 1) ps = at_drop_more (λ (v : List ℕ). v) ps i 0 c.loop-i-test.true in
    let walks : WalksFrom dev es from (p ∷ drop (i + 1) ps) = subst (λ (v : List ℕ). WalksFrom dev es from v) places c.loop-i.invariant.walks in
    let here : IsWalked dev ctx records es now start stream p = skip dev ctx records es now start stream from p walks.0 (omega (arith, walks.1)) walks.2 c.loop-i.invariant.at in
    let read : get_or now p e ≡ e = sym c.index-entries-place.is in
    let value : c.evaluate.result ≡ decides dev ctx records e stream = c.evaluate.ensures.value ∙ ap (λ (v : RuleEntry). decides dev ctx records v stream) read in
    let words : next ≡ behind (rule_takes dev e) stream = c.evaluate.ensures.words ∙ ap (λ (v : RuleEntry). behind (rule_takes dev v) stream) read in
    let deciding : decides dev ctx records e stream ≡ true = sym value ∙ c.if-evaluate.true in
    let entry : c.evaluate.new.entry ≡ rule_noted ctx.moment e = c.evaluate.ensures.entry ∙ cond-true c.evaluate.result (rule_noted ctx.moment (get_or now p e)) (seen dev ctx.moment (get_or now p e)) c.if-evaluate.true ∙ ap (rule_noted ctx.moment) read in
    decides_at dev ctx records c.args.implicit es now start stream next p e c.evaluate.new.entry walks.1 here (sym read) deciding entry words

pub returns-clause-judged : goal.returns-clause-judged
returns-clause-judged g c =
    let dev = c.args.dev.now in
    let ctx = c.args.ctx.now in
    let records = g.A.Allowed.records c.args.allowed.now in
    let es = c.args.entries.now in
    let ps = c.args.places.now in
    let now = c.loop-i.entries in
    let i = c.loop-i.i in
    let from : ℕ = walked 0 (take i ps) in
    let start = g.R.Rng.stream c.args.rng.now in
    let stream = g.R.Rng.stream c.loop-i.rng in
    let places : drop i ps ≡ [] = at_drop_all (λ (v : List ℕ). v) ps i c.loop-i-test.false in
    let walks : WalksFrom dev es from [] = subst (λ (v : List ℕ). WalksFrom dev es from v) places c.loop-i.invariant.walks in
    none_decides dev ctx records c.args.implicit es now start stream (skip dev ctx records es now start stream from (length es) c.loop-i.invariant.within (omega arith) walks c.loop-i.invariant.at)
