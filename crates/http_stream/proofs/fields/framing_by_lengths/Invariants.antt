use Rattle.std.proofs.Common.{◌≡◌, ◌++◌, map, drop, length, IfSome}
use Rattle.http_stream.proofs.Common.{option_map, option_to_list, header_bytes, span_bytes, IsWithin, lengths}
use Rattle.http_stream.proofs.fields.framing_by_lengths.Given as goal

abbrev pub invariant-loop-header : goal.invariant-loop-header
invariant-loop-header l = record {
  same : option_to_list (option_map (span_bytes l.buf) l.found) ++ lengths (map (header_bytes l.buf) (drop l.header-index l.headers))
      ≡ lengths (map (header_bytes l.buf) l.headers);
  within : IfSome l.found (IsWithin (length l.buf));
}
