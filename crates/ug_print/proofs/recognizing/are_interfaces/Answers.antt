use Rattle.std.proofs.Common.{Bool, length, sym, ap}
use Rattle.std.specs.Prelude.{◌&&◌}
use Rattle.std.specs.List.{list_all, zip}
use Rattle.std.proofs.lemmas.Bool.{ne_eqb}
use Rattle.ug_print.specs.Made.{is_interface}
use Rattle.ug_print.proofs.recognizing.are_interfaces.Goals as goal

pub returns-then-items-triples : goal.returns-then-items-triples
returns-then-items-triples c =
    ap (λ (b : Bool). b && list_all (λ pair. is_interface pair.0 pair.1) (zip c.args.items.now c.args.triples.now))
    (sym (ne_eqb (length c.args.items.now) (length c.args.triples.now) c.if-items-triples.true))
