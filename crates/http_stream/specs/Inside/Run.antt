-- For proofs alone. Runs of a desk over the messages of a stream.
use Rattle.std.specs.Prelude.{ℕ, ◌+◌, List, slice_range}
use Rattle.http_stream.specs.declared.front.Parts.{Parts}
use Rattle.httparse.specs.Spans.{span_bytes}
use Rattle.http_stream.specs.Run.{MessageText}

-- what stands at these parts of the buffer
abbrev pub said_at : List ℕ → Parts → MessageText
said_at buffer p = record {
  method = span_bytes buffer p.method;
  target = span_bytes buffer p.target;
  body = slice_range buffer p.head (p.head + p.body);
}
