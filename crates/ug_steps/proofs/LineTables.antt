-- The words of lines are read as what they are.
use Rattle.std.proofs.Common.{◌≡◌, ℕ, Bool, true, false, cond, nat_eq, List, Option, Some, refl, sym, ap, ◌∙◌}
use Rattle.std.specs.Prelude.{codes}
use Rattle.std.specs.Cmp.Lexicographic.{pointwise, same_text}
use Rattle.std.proofs.lemmas.Option.{none-some, same_Some}
use Rattle.ug_types.specs.Elements.{Has}
use Rattle.ug_store.specs.declared.mishap.Mishap.{Mishap}
use Rattle.ug_store.specs.declared.mishap.Mishap.TheVariants.{NoEffect, Effect}
use Rattle.ug_steps.specs.declared.line_word.LineWord.{LineWord}
use Rattle.ug_steps.specs.declared.line_word.LineWord.TheVariants as word
use Rattle.ug_steps.specs.Grammar.{mishap_word}
use Rattle.ug_steps.specs.LineGrammar.{start_word}
use Rattle.ug_steps.specs.LineWords.{line_word_of, plan_word_of, setup_word_of}
use Rattle.ug_steps.specs.Plugs.{start_of}
use Rattle.ug_steps.proofs.LineCuts.{apart_by}

-- one row of a table
named : {X : Type 0} (spell : X → List ℕ) (word text : List ℕ) (here it : X) (rest : Option X) → text ≡ spell here → (rest ≡ Some it → word ≡ spell it) → cond (pointwise nat_eq word text) (Some here) rest ≡ Some it → word ≡ spell it
named {X} spell word text here it rest t f h = by (pointwise nat_eq word text) refl h
  where
    by : (v : Bool) → pointwise nat_eq word text ≡ v → cond v (Some here) rest ≡ Some it → word ≡ spell it
    by true e k = same_text word text (sym e) ∙ t ∙ ap spell (same_Some here it k)
    by false e k = f k

-- ---- first words

abbrev pub word_text : LineWord → List ℕ
word_text word.Plug = codes "plug"
word_text word.Unplug = codes "unplug"
word_text word.Iface = codes "iface"
word_text word.Uniface = codes "uniface"
word_text word.Before = codes "before"
word_text word.After = codes "after"
word_text word.Fail = codes "fail"
word_text word.Disk = codes "disk"
word_text word.Stop = codes "stop"
word_text word.Sweep = codes "sweep"
word_text word.Order = codes "order"
word_text word.Hint = codes "hint"
word_text word.Rule = codes "rule"
word_text word.Folder = codes "folder"
word_text word.Conf = codes "conf"
word_text word.Access = codes "access"
word_text word.Seed = codes "seed"
word_text word.Zone = codes "zone"
word_text word.IfaceRule = codes "iface-rule"

setup_word_written : (text : List ℕ) (it : LineWord) → setup_word_of text ≡ Some it → text ≡ word_text it
unfolding setup_word_of
setup_word_written text it h = named word_text text (codes "rule") word.Rule it _ refl (λ h. named word_text text (codes "folder") word.Folder it _ refl (λ h. named word_text text (codes "conf") word.Conf it _ refl (λ h. named word_text text (codes "access") word.Access it _ refl (λ h. named word_text text (codes "seed") word.Seed it _ refl (λ h. named word_text text (codes "zone") word.Zone it _ refl (λ h. named word_text text (codes "iface-rule") word.IfaceRule it _ refl (λ h. absurd (none-some it h)) h) h) h) h) h) h) h

plan_word_written : (text : List ℕ) (it : LineWord) → plan_word_of text ≡ Some it → text ≡ word_text it
unfolding plan_word_of
plan_word_written text it h = named word_text text (codes "before") word.Before it _ refl (λ h. named word_text text (codes "after") word.After it _ refl (λ h. named word_text text (codes "fail") word.Fail it _ refl (λ h. named word_text text (codes "disk") word.Disk it _ refl (λ h. named word_text text (codes "stop") word.Stop it _ refl (λ h. setup_word_written text it h) h) h) h) h) h

pub line_word_written : (text : List ℕ) (it : LineWord) → line_word_of text ≡ Some it → text ≡ word_text it
unfolding line_word_of
line_word_written text it h = named word_text text (codes "plug") word.Plug it _ refl (λ h. named word_text text (codes "unplug") word.Unplug it _ refl (λ h. named word_text text (codes "iface") word.Iface it _ refl (λ h. named word_text text (codes "uniface") word.Uniface it _ refl (λ h. named word_text text (codes "sweep") word.Sweep it _ refl (λ h. named word_text text (codes "order") word.Order it _ refl (λ h. named word_text text (codes "hint") word.Hint it _ refl (λ h. plan_word_written text it h) h) h) h) h) h) h) h

pub line_word_read : (it : LineWord) → line_word_of (word_text it) ≡ Some it
unfolding line_word_of plan_word_of setup_word_of
line_word_read word.Plug = refl
line_word_read word.Unplug = refl
line_word_read word.Iface = refl
line_word_read word.Uniface = refl
line_word_read word.Before = refl
line_word_read word.After = refl
line_word_read word.Fail = refl
line_word_read word.Disk = refl
line_word_read word.Stop = refl
line_word_read word.Sweep = refl
line_word_read word.Order = refl
line_word_read word.Hint = refl
line_word_read word.Rule = refl
line_word_read word.Folder = refl
line_word_read word.Conf = refl
line_word_read word.Access = refl
line_word_read word.Seed = refl
line_word_read word.Zone = refl
line_word_read word.IfaceRule = refl

pub word_apart : (it : LineWord) → ¬ Has (word_text it) 32
word_apart word.Plug = apart_by (codes "plug") refl
word_apart word.Unplug = apart_by (codes "unplug") refl
word_apart word.Iface = apart_by (codes "iface") refl
word_apart word.Uniface = apart_by (codes "uniface") refl
word_apart word.Before = apart_by (codes "before") refl
word_apart word.After = apart_by (codes "after") refl
word_apart word.Fail = apart_by (codes "fail") refl
word_apart word.Disk = apart_by (codes "disk") refl
word_apart word.Stop = apart_by (codes "stop") refl
word_apart word.Sweep = apart_by (codes "sweep") refl
word_apart word.Order = apart_by (codes "order") refl
word_apart word.Hint = apart_by (codes "hint") refl
word_apart word.Rule = apart_by (codes "rule") refl
word_apart word.Folder = apart_by (codes "folder") refl
word_apart word.Conf = apart_by (codes "conf") refl
word_apart word.Access = apart_by (codes "access") refl
word_apart word.Seed = apart_by (codes "seed") refl
word_apart word.Zone = apart_by (codes "zone") refl
word_apart word.IfaceRule = apart_by (codes "iface-rule") refl

-- ---- starts

pub start_written : (text : List ℕ) (it : Bool) → start_of text ≡ Some it → text ≡ start_word it
unfolding start_of
start_written text it h = named start_word text (codes "0") false it _ refl (λ h. named start_word text (codes "1") true it _ refl (λ h. absurd (none-some it h)) h) h

pub start_read : (it : Bool) → start_of (start_word it) ≡ Some it
unfolding start_of
start_read true = refl
start_read false = refl

pub start_apart : (it : Bool) → ¬ Has (start_word it) 32
start_apart true = apart_by (codes "1") refl
start_apart false = apart_by (codes "0") refl

-- ---- what a stop leaves

abbrev pub left_text : Mishap → List ℕ
left_text NoEffect = codes "old"
left_text Effect = codes "new"

pub left_written : (text : List ℕ) (it : Mishap) → mishap_word text ≡ Some it → text ≡ left_text it
unfolding mishap_word
left_written text it h = named left_text text (codes "old") NoEffect it _ refl (λ h. named left_text text (codes "new") Effect it _ refl (λ h. absurd (none-some it h)) h) h

pub left_read : (it : Mishap) → mishap_word (left_text it) ≡ Some it
unfolding mishap_word
left_read NoEffect = refl
left_read Effect = refl
