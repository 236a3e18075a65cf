use Rattle.std.proofs.Common.{◌≡◌, ℕ, Bool, false, List, Option, Err, subst, sym, refl, add-zero}
use Rattle.http_stream.proofs.Common.{Parts, End, Read, Write, FindsMessage, IsOpenBut, read_failed, write_failed}
use Rattle.http_stream.specs.declared.window.Next.{Next}
use Rattle.http_stream.specs.declared.window.Next.TheVariants.{Message, Ends}
use Rattle.http_stream.proofs.OneMessage.{fault_counts, same_read, same_write, no_memory_read, no_memory_write, breaks_reading, breaks_writing, message_goes_on, end_goes_on}
use Rattle.http_stream.proofs.service.serve_next.Goals as goal

-- after a message the reader has not ended
still_read : (ended : Bool) (found : Next) (parts : Parts) → found ≡ Message parts → IsOpenBut found ended → ended ≡ false
still_read ended found parts e h = subst (λ (n : Next). IsOpenBut n ended) e h

-- what was found, by its case
found_as : (buffer : List ℕ) (left : Option (List ℕ)) (found next : Next) → found ≡ next → FindsMessage buffer left found → FindsMessage buffer left next
found_as buffer left found next e h = subst (FindsMessage buffer left) e h

pub returns-in-Err-clause-breaks : goal.returns-in-Err-clause-breaks
returns-in-Err-clause-breaks g c = (
  no_memory_read c.in-Err.fault c.in-Err.ensures.fault,
  breaks_reading g.H.Handler.step g.H.Handler.refusal (g.R.Source.left c.args.reader.now) (g.W.Sink.written c.args.writer.now) (g.R.Source.left c.read_next.new.reader)
      c.args.window.now c.read_next.new.self c.args.desk.now c.in-Err.fault c.in-Err.ensures.grows c.in-Err.ensures.open c.in-Err.ensures.fault,
)

pub returns-in-Ends-clause-ends : goal.returns-in-Ends-clause-ends
returns-in-Ends-clause-ends g c = (
  found_as c.read_next.new.self (g.R.Source.left c.read_next.new.reader) c.in-Ok.found (Ends c.in-Ends.end) c.in-Ends.is c.in-Ok.ensures.finds.0,
  end_goes_on g.H.Handler.step (g.R.Source.left c.args.reader.now) (g.W.Sink.written c.args.writer.now) (g.R.Source.left c.read_next.new.reader)
      c.args.window.now c.read_next.new.self c.args.desk.now c.in-Ok.ensures.grows,
)

pub returns-in-Err-serve_one-clause-breaks : goal.returns-in-Err-serve_one-clause-breaks
returns-in-Err-serve_one-clause-breaks g c = let said = c.in-Err-serve_one.ensures.err in (
  no_memory_write c.in-Err-serve_one.fault c.in-Err-serve_one.ensures.fault,
  breaks_writing g.H.Handler.step g.H.Handler.refusal (g.R.Source.left c.args.reader.now) (g.W.Sink.written c.args.writer.now) (g.R.Source.left c.read_next.new.reader)
      (g.W.Sink.written c.serve_one.new.writer) c.args.window.now c.read_next.new.self c.args.desk.now c.serve_one.new.desk c.in-Err-serve_one.fault
      c.in-Message.parts said.0 said.2 c.in-Ok.ensures.grows
      (found_as c.read_next.new.self (g.R.Source.left c.read_next.new.reader) c.in-Ok.found (Message c.in-Message.parts) c.in-Message.is c.in-Ok.ensures.finds.0)
      said.1 said.3 said.4 c.in-Err-serve_one.ensures.fault,
)

pub returns-in-Ok-serve_one-clause-answers : goal.returns-in-Ok-serve_one-clause-answers
returns-in-Ok-serve_one-clause-answers g c = let said = c.in-Ok-serve_one.ensures.ok in (
  still_read (g.R.Source.ended c.read_next.new.reader) c.in-Ok.found c.in-Message.parts c.in-Message.is c.in-Ok.ensures.finds.1,
  message_goes_on g.H.Handler.step (g.R.Source.left c.args.reader.now) (g.W.Sink.written c.args.writer.now) (g.R.Source.left c.read_next.new.reader)
      (g.W.Sink.written c.serve_one.new.writer) c.args.window.now c.read_next.new.self c.serve_one.new.window c.args.desk.now c.serve_one.new.desk
      c.in-Message.parts said.0 c.in-Ok.ensures.grows
      (found_as c.read_next.new.self (g.R.Source.left c.read_next.new.reader) c.in-Ok.found (Message c.in-Message.parts) c.in-Message.is c.in-Ok.ensures.finds.0)
      said.1 said.2 c.in-Ok-serve_one.ensures.taken,
)

pub returns-in-Err-clause-answers : goal.returns-in-Err-clause-answers
returns-in-Err-clause-answers g c = tt

pub returns-in-Err-serve_one-clause-read_count : goal.returns-in-Err-serve_one-clause-read_count
returns-in-Err-serve_one-clause-read_count g c =
    fault_counts (λ f. read_failed {A = Option End} (Err f)) c.in-Err-serve_one.fault Write _ _ c.in-Err-serve_one.ensures.fault c.in-Ok.ensures.count

pub returns-in-Err-clause-ends : goal.returns-in-Err-clause-ends
returns-in-Err-clause-ends g c = tt

pub returns-in-Err-serve_one-clause-write_count : goal.returns-in-Err-serve_one-clause-write_count
returns-in-Err-serve_one-clause-write_count g c =
    same_write Unit (Option End) c.in-Err-serve_one.fault _ _ _ c.in-Err-serve_one.ensures.count refl

pub returns-in-Ends-clause-answers : goal.returns-in-Ends-clause-answers
returns-in-Ends-clause-answers g c = tt

pub returns-in-Ends-clause-breaks : goal.returns-in-Ends-clause-breaks
returns-in-Ends-clause-breaks g c = tt

pub returns-in-Err-serve_one-clause-answers : goal.returns-in-Err-serve_one-clause-answers
returns-in-Err-serve_one-clause-answers g c = tt

pub returns-in-Err-serve_one-clause-ends : goal.returns-in-Err-serve_one-clause-ends
returns-in-Err-serve_one-clause-ends g c = tt

pub returns-in-Ok-serve_one-clause-ends : goal.returns-in-Ok-serve_one-clause-ends
returns-in-Ok-serve_one-clause-ends g c = tt

pub returns-in-Ok-serve_one-clause-breaks : goal.returns-in-Ok-serve_one-clause-breaks
returns-in-Ok-serve_one-clause-breaks g c = tt

pub read_next-requires-clause-failures : goal.read_next-requires-clause-failures
read_next-requires-clause-failures g c = c.requires.read_failures

pub serve_one-requires-clause-failures : goal.serve_one-requires-clause-failures
serve_one-requires-clause-failures g c = c.requires.write_failures

pub serve_one-requires-clause-parts : goal.serve_one-requires-clause-parts
serve_one-requires-clause-parts g c = found_as c.read_next.new.self (g.R.Source.left c.read_next.new.reader) c.in-Ok.found (Message c.in-Message.parts) c.in-Message.is c.in-Ok.ensures.finds.0

pub returns-in-Err-clause-read_count : goal.returns-in-Err-clause-read_count
returns-in-Err-clause-read_count g c = same_read Next (Option End) c.in-Err.fault _ _ _ c.in-Err.ensures.count refl

pub returns-in-Err-clause-write_count : goal.returns-in-Err-clause-write_count
returns-in-Err-clause-write_count g c = fault_counts (λ f. write_failed {A = Option End} (Err f)) c.in-Err.fault Read _ _ c.in-Err.ensures.fault (sym (add-zero _))

pub returns-in-Ends-clause-read_count : goal.returns-in-Ends-clause-read_count
returns-in-Ends-clause-read_count g c = c.in-Ok.ensures.count

pub returns-in-Ends-clause-write_count : goal.returns-in-Ends-clause-write_count
returns-in-Ends-clause-write_count g c = sym (add-zero _)

pub returns-in-Ok-serve_one-clause-read_count : goal.returns-in-Ok-serve_one-clause-read_count
returns-in-Ok-serve_one-clause-read_count g c = c.in-Ok.ensures.count

pub returns-in-Ok-serve_one-clause-write_count : goal.returns-in-Ok-serve_one-clause-write_count
returns-in-Ok-serve_one-clause-write_count g c = c.in-Ok-serve_one.ensures.count
