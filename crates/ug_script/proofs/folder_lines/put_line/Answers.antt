use Rattle.std.proofs.Common.{ℕ, List, [], ◌∷◌, ◌++◌, Ok, Err, ap, subst, ◌∙◌}
use Rattle.ug_script.specs.FolderLines.{IsPlaceOf, files_of}
use Rattle.ug_script.specs.declared.folder_lines.FileText.{FileText}
use Rattle.ug_script.proofs.Folders.{appended, err_then, inserted, ok_then, unchanged}
use Rattle.ug_script.proofs.folder_lines.put_line.Goals as goal

pub returns-in-Ok-clause-ok : goal.returns-in-Ok-clause-ok
returns-in-Ok-clause-ok c =
    let texts : List FileText = c.args.files.now.items in
    let name : List ℕ = c.args.line.now.name in
    let place : ℕ = c.in-Ok.place in
    let at : IsPlaceOf name texts (Ok place) = subst (λ (n : List ℕ). IsPlaceOf n texts (Ok place)) c.bytes.ensures (subst (λ (ts : List FileText). IsPlaceOf c.bytes.result.now ts (Ok place)) c.as_slice.ensures.value c.in-Ok.ensures) in
    ok_then c.add_text.result _ _
    (λ more. appended c.args.line.now texts place c.index_mut.result.now _ at.0 at.1 at.2 c.index_mut.ensures.value
    (ap (λ (t : List ℕ). record { name = c.index_mut.result.now.name; text = t }) (more ∙ ap (λ (l : List ℕ). c.index_mut.result.now.text.items ++ (l ++ 10 ∷ [])) c.bytes-in-Ok.ensures)))
    c.add_text.ensures.ok

pub returns-in-Ok-clause-err : goal.returns-in-Ok-clause-err
returns-in-Ok-clause-err c =
    let texts : List FileText = c.args.files.now.items in
    let place : ℕ = c.in-Ok.place in
    let at : IsPlaceOf c.bytes.result.now texts (Ok place) = subst (λ (ts : List FileText). IsPlaceOf c.bytes.result.now ts (Ok place)) c.as_slice.ensures.value c.in-Ok.ensures in
    err_then c.add_text.result _ _
    (λ same. unchanged texts place c.index_mut.result.now _ at.0 c.index_mut.ensures.value (ap (λ (t : List ℕ). record { name = c.index_mut.result.now.name; text = t }) same))
    c.add_text.ensures.err

pub returns-in_ok-insert-in-Err-clause-ok : goal.returns-in_ok-insert-in-Err-clause-ok
returns-in_ok-insert-in-Err-clause-ok c =
    let texts : List FileText = c.args.files.now.items in
    let name : List ℕ = c.args.line.now.name in
    let place : ℕ = c.in-Err.place in
    let at : IsPlaceOf name texts (Err place) = subst (λ (n : List ℕ). IsPlaceOf n texts (Err place)) c.bytes.ensures (subst (λ (ts : List FileText). IsPlaceOf c.bytes.result.now ts (Err place)) c.as_slice.ensures.value c.in-Err.ensures) in
    ap files_of c.in_ok-insert-in-Err.ensures.items
    ∙ inserted c.args.line.now texts place c.in_ok-file-in-Err.file c.in_ok-file-in-Err.ensures at.0 at.1 at.2
