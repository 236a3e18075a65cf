use Rattle.std.proofs.Common.{◌∷◌, ◌∙◌, [], List, Some, inl, inr, map, refl, sym, ℕ}
use denote.Ref.{Bor}
use Rattle.std.proofs.lemmas.List.{map-append}
use Rattle.csv.specs.Reading.{Reached, default_config, strip_bom}
use Rattle.csv.specs.Records.{fields_of}
use Rattle.csv.specs.declared.parser.State.TheVariants as st
use Rattle.csv.proofs.ReadFacts.{rows-end, rows-more}
use Rattle.import_csv.proofs.Records.{records_read}
use Rattle.import_csv.proofs.read.records_of.Goals as goal

pub loop-record-init : goal.loop-record-init
unfolding Reached
loop-record-init c =
    let fr = c.from_reader-reader.ensures in
    let e = c.flexible.ensures in
    let h = c.has_headers.ensures in
    let start = c.into_iter-record-iterator.ensures.into_iter_gives ∙ refl in
    let rdr = c.into_byte_records-record-items.ensures.rdr in
    let left = c.into_byte_records-record-items.ensures.left in
    rw (start, rdr, c.new-records.ensures.items) (record {
      plain = rw (e, h) at fr.trim ∙ c.new.ensures.trim;
      ready = inr (inr (rw (e, h) at fr.has_headers, fr.headers));
      flexible = rw e at fr.flexible;
      turns = left;
      config = rw (e, h) at fr.config ∙ c.new.ensures.config;
      left = strip_bom c.args.bytes.now;
      source = fr.source;
      reached = (sym fr.state, refl);
    })

pub loop-record-preserved : goal.loop-record-preserved
loop-record-preserved c =
    let inv = c.loop-record.invariant in
    let steps = c.next.ensures.steps inv.turns inv.plain in
    let s = rw (c.in-Some.is, c.in-Ok.is) at (steps.0 inv.ready) in
    let kept = rw (c.in-Some.is, c.in-Ok.is) at steps.3 in
    let m = rows-more (λ (s : Bor (List ℕ)). Some s.now) c.loop-record.record-iterator.rdr c.next.new.self.rdr (fields_of c.in-Ok.record) default_config st.StartRecord (strip_bom c.args.bytes.now) inv.left
    (map fields_of c.loop-record.records.items) inv.config inv.source inv.reached s.0 in
    record {
      plain = s.0.3 ∙ inv.plain;
      ready = inl s.1;
      flexible = kept ∙ inv.flexible;
      turns = s.2;
      config = s.0.2 ∙ inv.config;
      left = m.0;
      source = m.1;
      reached = rw (c.in_ok-push-in-Ok.ensures.items, map-append fields_of c.loop-record.records.items (c.in-Ok.record ∷ [])) m.2;
    }

pub returns : goal.returns
returns c =
    let inv = c.loop-record.invariant in
    let s = rw c.in-None.is at ((c.next.ensures.steps inv.turns inv.plain).0 inv.ready) in
    let end = rows-end (λ (s : Bor (List ℕ)). Some s.now) c.loop-record.record-iterator.rdr c.next.new.self.rdr [] default_config inv.left inv.config inv.source s in
    records_read c.args.bytes.now (map fields_of c.loop-record.records.items) (c.loop-record.record-iterator.rdr.state, inv.left, inv.reached, end)
