use Rattle.std.proofs.Common.{◌≡◌, map, drop}
use Rattle.http_stream.proofs.Common.{list_any, header_bytes, is_named}
use Rattle.http_stream.proofs.fields.has_field.Given as goal

abbrev pub invariant-loop-header : goal.invariant-loop-header
invariant-loop-header l =
    list_any (is_named l.name) (map (header_bytes l.buf) (drop l.header-index l.headers))
    ≡ list_any (is_named l.name) (map (header_bytes l.buf) l.headers)
