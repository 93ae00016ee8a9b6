use Rattle.std.proofs.Common.{◌≡◌, ℕ, ◌+◌, ◌<◌, List, [], ◌∷◌, ◌++◌, length, take, map, get_or, sym, ◌∙◌, ap, append_assoc}
use Rattle.std.proofs.lemmas.List.{map-append, take_more}
use Rattle.ug_acl.specs.Acls.{Addition}
use Rattle.ug_steps.specs.declared.step.AccessLine.{AccessLine}
use Rattle.ug_script.specs.Setup.{granted}
use Rattle.ug_script.proofs.access.allow_granted.Goals as goal

-- one line more
granted_more : (lines : List AccessLine) (i : ℕ) (line : AccessLine) → i < length lines → line ≡ get_or lines i line → map granted (take (i + 1) lines) ≡ map granted (take i lines) ++ granted line ∷ []
granted_more lines i line lt is =
    ap (λ (l : List AccessLine). map granted l) (take_more lines i line lt)
    ∙ map-append granted (take i lines) (get_or lines i line ∷ [])
    ∙ ap (λ (l : AccessLine). map granted (take i lines) ++ granted l ∷ []) (sym is)

allowed_more : (lines : List AccessLine) (i : ℕ) (line : AccessLine) (start now next : List Addition) → i < length lines → line ≡ get_or lines i line → now ≡ start ++ map granted (take i lines) → next ≡ now ++ granted line ∷ [] → next ≡ start ++ map granted (take (i + 1) lines)
allowed_more lines i line start now next lt is h e =
    e ∙ ap (λ (l : List Addition). l ++ granted line ∷ []) h
    ∙ append_assoc start (map granted (take i lines)) (granted line ∷ [])
    ∙ ap (λ (l : List Addition). start ++ l) (sym (granted_more lines i line lt is))

pub loop-line-preserved : goal.loop-line-preserved
loop-line-preserved c = allowed_more c.args.lines.now c.loop-line.line-index c.line-item.result c.args.acl.now c.loop-line.acl c.add.new.self c.loop-line-test.true c.line-item.is c.loop-line.invariant c.in_ok-add.ensures.ok
