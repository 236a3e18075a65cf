use Rattle.std.proofs.Common.{refl, sym, ◌∙◌, arith}
use Rattle.http_stream.proofs.Common.{header_bytes, is_named}
use Rattle.http_stream.proofs.FieldSearch.{any_found, any_left, any_none}
use Rattle.http_stream.proofs.fields.has_field.Goals as goal

pub loop-header-init : goal.loop-header-init
loop-header-init c = refl

pub bounds-headers-header-index : goal.bounds-headers-header-index
bounds-headers-header-index c = c.loop-header-test.true

pub is_named-requires : goal.is_named-requires
is_named-requires c = c.requires c.loop-header.header-index _ c.loop-header-test.true

pub returns-then-is_named : goal.returns-then-is_named
returns-then-is_named c = any_found (is_named c.args.name.now) (header_bytes c.args.buf.now) c.args.headers.now c.loop-header.header-index _ c.loop-header.invariant c.loop-header-test.true (sym c.is_named.ensures ∙ c.if-is_named.true)

pub loop-header-smaller : goal.loop-header-smaller
loop-header-smaller c = omega (arith, c.loop-header-test.true)

pub loop-header-preserved : goal.loop-header-preserved
loop-header-preserved c = any_left (is_named c.args.name.now) (header_bytes c.args.buf.now) c.args.headers.now c.loop-header.header-index _ c.loop-header.invariant c.loop-header-test.true (sym c.is_named.ensures ∙ c.if-is_named.false)

pub returns : goal.returns
returns c = any_none (is_named c.args.name.now) (header_bytes c.args.buf.now) c.args.headers.now c.loop-header.header-index c.loop-header.invariant (omega (arith, c.loop-header-test.false))
