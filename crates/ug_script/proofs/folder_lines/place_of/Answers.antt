use Rattle.std.proofs.Common.{rules}
use Rattle.std.proofs.lemmas.Fn.{always_returns_same}
use Rattle.std.specs.Cmp.Lexicographic.{slice_cmp}
use Rattle.std.specs.Ordering.{nat_cmp}
use Rattle.ug_script.proofs.Folders.{place_found}
use Rattle.ug_script.proofs.folder_lines.place_of.Goals as goal

pub returns : goal.returns
returns c =
    let facts = c.binary_search_by.ensures in
    place_found c.args.files.now c.args.name.now _ c.requires facts.bound
    (facts.position (λ f. slice_cmp nat_cmp f.name c.args.name.now) (always_returns_same _ _ _ (λ a r f called. (search rules, search rules))))
