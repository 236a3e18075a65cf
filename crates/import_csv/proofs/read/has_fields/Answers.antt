use Rattle.std.proofs.Common.{◌∙◌, [], add-one, sym, arith}
use Rattle.csv.specs.Records.{fields_of}
use Rattle.import_csv.proofs.Alike.{alike_from, like, unlike}
use Rattle.import_csv.proofs.read.has_fields.Goals as goal

pub returns-then-ne : goal.returns-then-ne
returns-then-ne c =
    let other = rw (c.field.ensures, c.as_bytes.ensures.value) at (unlike _ (sym c.if-ne.true ∙ c.ne.ensures)) in
    let here = alike_from (fields_of c.args.fields.now) c.args.names.now c.loop-place.place (record { ref_ptr = (0, 0); now = [] }) (omega arith) (omega arith) in
    sym (rw other at here) ∙ c.loop-place.invariant

pub loop-place-preserved : goal.loop-place-preserved
loop-place-preserved c =
    let same = rw (c.field.ensures, c.as_bytes.ensures.value) at (like _ (sym c.if-ne.false ∙ c.ne.ensures)) in
    let here = alike_from (fields_of c.args.fields.now) c.args.names.now c.loop-place.place (record { ref_ptr = (0, 0); now = [] }) (omega arith) (omega arith) in
    rw add-one (sym (rw same at here) ∙ c.loop-place.invariant)
