use Rattle.std.proofs.Common.{ℕ, List, subst, sym}
use Rattle.std.specs.List.{filter}
use Rattle.ug_conf.specs.FolderFiles.{is_rule_file_name}
use Rattle.ug_serve.specs.Access.{AreInByteOrder}
use Rattle.ug_serve.proofs.NameOrder.{read_ascending}
use Rattle.ug_serve.proofs.folder.read_listed.Goals as goal

pub returns-in-Names-clause-ascend : goal.returns-in-Names-clause-ascend
returns-in-Names-clause-ascend g c =
    let counted = subst (λ (ns : List (List ℕ)). AreInByteOrder ns c.in_byte_order-names.result.items) c.counting.ensures c.in_byte_order-names.ensures in
    let sorted = subst (λ (ns : List (List ℕ)). AreInByteOrder (filter is_rule_file_name c.in-Names.names) ns) (sym c.as_slice.ensures.value) counted in
    read_ascending g.F.ConfFiles.gives c.args.folder.now c.in-Names.names c.as_slice.result.now _ _ _ c.in-Names.ensures.fits.1 sorted c.read_files.ensures.reads
