use Rattle.std.proofs.Common.{Option, IfSome, length, refl, ap, subst, ◌∙◌, arith}
use Rattle.http_stream.proofs.Common.{Span, IsWithin, length_of}
use Rattle.http_stream.proofs.FieldSearch.{no_length, one_length}
use Rattle.http_stream.proofs.fields.framing_by_lengths.Goals as goal

pub loop-header-init : goal.loop-header-init
loop-header-init c = record { same = refl; within = tt }

pub bounds-headers-header-index : goal.bounds-headers-header-index
bounds-headers-header-index c = c.loop-header-test.true

pub is_named-requires : goal.is_named-requires
is_named-requires c = c.requires c.loop-header.header-index _ c.loop-header-test.true

pub loop-header-smaller : goal.loop-header-smaller
loop-header-smaller c = omega (arith, c.loop-header-test.true)

pub of-requires-clause-ordered : goal.of-requires-clause-ordered
of-requires-clause-ordered c = let within = subst (λ (o : Option Span). IfSome o (IsWithin (length c.args.buf.now))) c.in-Some.is c.loop-header.invariant.within in within.0

pub of-requires-clause-in_range : goal.of-requires-clause-in_range
of-requires-clause-in_range c = let within = subst (λ (o : Option Span). IfSome o (IsWithin (length c.args.buf.now))) c.in-Some.is c.loop-header.invariant.within in within.1

pub returns-in-None-clause-value : goal.returns-in-None-clause-value
returns-in-None-clause-value c = no_length c.args.buf.now c.args.headers.now c.loop-header.header-index c.loop-header.found c.in-None.is (omega (arith, c.loop-header-test.false)) c.loop-header.invariant.same

pub returns-in-None-clause-small : goal.returns-in-None-clause-small
returns-in-None-clause-small c = omega arith

pub returns-in-Some-clause-value : goal.returns-in-Some-clause-value
returns-in-Some-clause-value c =
    c.length_of.ensures.value ∙ ap length_of c.of.ensures
    ∙ one_length c.args.buf.now c.args.headers.now c.loop-header.header-index c.loop-header.found c.in-Some.value c.in-Some.is (omega (arith, c.loop-header-test.false)) c.loop-header.invariant.same

pub returns-in-Some-clause-small : goal.returns-in-Some-clause-small
returns-in-Some-clause-small c = c.length_of.ensures.small
