use Rattle.std.proofs.Common.{ℕ, List, Err, Ok, ◌≡◌, sym, ap, subst, ◌∙◌, arith}
use Rattle.ug_conf.specs.declared.folder_file.FolderFile.{FolderFile}
use Rattle.ug_lines.specs.LineReading.{LeadsTo, text_read}
use Rattle.ug_policy.specs.declared.entry.Mark.TheVariants as mark
use Rattle.ug_core.specs.Starting.{IsFolderListed, listing_line}
use Rattle.ug_core.specs.declared.start_fault.StartFault.{StartFault}
use Rattle.ug_core.proofs.Listing.{files_bad, files_more}
use Rattle.ug_core.proofs.folder.list_files.Goals as goal

pub returns-in-Err : goal.returns-in-Err
returns-in-Err c =
    let read = subst (λ (text : List ℕ). LeadsTo (text_read (listing_line mark.Folder) c.loop-file.listed text) (Err c.in-Err.fault) c.read_lines.new.reader) (c.bytes.ensures ∙ ap (λ (f : FolderFile). f.text) (sym c.index-files-file.is)) c.in-Err.ensures in
    subst (λ (e : StartFault). IsFolderListed c.args.files.now (Err e)) (sym c.fault_in.ensures)
    (files_bad c.args.files.now c.loop-file.file c.index-files-file.result c.loop-file.listed c.read_lines.new.reader c.in-Err.fault (omega arith) c.index-files-file.is c.loop-file.invariant read)

pub loop-file-preserved : goal.loop-file-preserved
loop-file-preserved c =
    let read = subst (λ (text : List ℕ). text_read (listing_line mark.Folder) c.loop-file.listed text ≡ Ok c.read_lines.new.reader) (c.bytes.ensures ∙ ap (λ (f : FolderFile). f.text) (sym c.index-files-file.is)) c.in-Ok.ensures in
    files_more c.args.files.now c.loop-file.file c.index-files-file.result c.loop-file.listed c.read_lines.new.reader (omega arith) c.index-files-file.is c.loop-file.invariant read
