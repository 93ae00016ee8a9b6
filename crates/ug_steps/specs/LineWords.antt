-- The words that lines begin with.
use Rattle.std.specs.Prelude.{ℕ, nat_eq, if◌then◌else◌, List, codes, Option, Some, None}
use Rattle.std.specs.Cmp.Lexicographic.{pointwise}
use Rattle.ug_steps.specs.declared.line_word.LineWord.{LineWord}
use Rattle.ug_steps.specs.declared.line_word.LineWord.TheVariants as word

-- those of lines that stand before all others
unfoldable pub setup_word_of : List ℕ → Option LineWord
setup_word_of text =
    if pointwise nat_eq text (codes "rule") then Some word.Rule else
    if pointwise nat_eq text (codes "folder") then Some word.Folder else
    if pointwise nat_eq text (codes "conf") then Some word.Conf else
    if pointwise nat_eq text (codes "access") then Some word.Access else
    if pointwise nat_eq text (codes "seed") then Some word.Seed else
    if pointwise nat_eq text (codes "zone") then Some word.Zone else
    if pointwise nat_eq text (codes "iface-rule") then Some word.IfaceRule else None

-- those of lines for a call of the next event, and of lines that stand before all others
unfoldable pub plan_word_of : List ℕ → Option LineWord
plan_word_of text =
    if pointwise nat_eq text (codes "before") then Some word.Before else
    if pointwise nat_eq text (codes "after") then Some word.After else
    if pointwise nat_eq text (codes "fail") then Some word.Fail else
    if pointwise nat_eq text (codes "disk") then Some word.Disk else
    if pointwise nat_eq text (codes "stop") then Some word.Stop else setup_word_of text

-- all of them
unfoldable pub line_word_of : List ℕ → Option LineWord
line_word_of text =
    if pointwise nat_eq text (codes "plug") then Some word.Plug else
    if pointwise nat_eq text (codes "unplug") then Some word.Unplug else
    if pointwise nat_eq text (codes "iface") then Some word.Iface else
    if pointwise nat_eq text (codes "uniface") then Some word.Uniface else
    if pointwise nat_eq text (codes "sweep") then Some word.Sweep else
    if pointwise nat_eq text (codes "order") then Some word.Order else
    if pointwise nat_eq text (codes "hint") then Some word.Hint else plan_word_of text
