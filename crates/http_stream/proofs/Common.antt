-- The names that most proofs here cite, passed on from one place. Declares nothing.
pub use Rattle.httparse.proofs.GrammarLemmas.{ReadsRequest-append, print_request-append, request_unique}
pub use Rattle.httparse.specs.Grammar.{AllPass, EndsInTarget, Field, HasNoRequest, IsField, LineEnd, MayBecomeRequest, NeverHasRequest, ReadsRequest, RequestHead, crlf, is_uri_byte, lf, print_blank, print_end, print_field, print_request}
pub use Rattle.httparse.specs.Spans.{IsRequestAt, IsRequestWithin, IsWithin, RequestExceeds, header_bytes, span_bytes}
pub use Rattle.httparse.specs.declared.spans.HeaderSpan.{HeaderSpan}
pub use Rattle.httparse.specs.declared.spans.RequestSpans.{RequestSpans}
pub use Rattle.httparse.specs.declared.spans.Span.{Span}
pub use Rattle.std.proofs.Math.Seq.{drop-append-add, drop-append_seam, take-add}
pub use Rattle.std.proofs.lemmas.Bool.Decides.{nat_tests}
pub use Rattle.std.proofs.lemmas.List.{append_cancel_left, drop-append-le, drop_all, drop_at, length-drop, length-take, take-append-drop, take-append-le, take_all, take_at, take_min}
pub use Rattle.std.specs.Char.{digit_value, is_ascii_digit}
pub use Rattle.std.specs.Io.KnownBytes.{Appends, Consumes}
pub use Rattle.std.specs.List.{concat, flat_map, list_all, list_any}
pub use Rattle.std.specs.Option.{option_map, option_to_list}
pub use Rattle.std.specs.Str.Parse.{digits_value}
pub use Rattle.http_stream.specs.Answers.{answer_bytes}
pub use Rattle.http_stream.specs.Inside.Judged.{FindsHead, IsPartsOf, Judges}
pub use Rattle.http_stream.specs.Inside.Run.{said_at}
pub use Rattle.http_stream.specs.Inside.Served.{BreaksOff, GoesOnServing, SoFar}
pub use Rattle.http_stream.specs.Inside.Taken.{FindsMessage, Grows, IsOpenBut}
pub use Rattle.http_stream.specs.Messages.{BeginsWith, BodyCut, EndsAt, HeadAt, HeadFramed, IsMalformed, Message, Messages, Splits, Stops, framing, framing_by, framing_of, has_line, is_named, is_number, length_of, lengths, window}
pub use Rattle.http_stream.specs.Run.{MessageText, RunsMessages, last_count, last_words, read_failed, said, unread, write_failed}
pub use Rattle.http_stream.specs.Served.{IsServed, ServedTo, WroteUntil}
pub use Rattle.http_stream.specs.declared.TheConstants.{MAX_BODY_BYTES, MAX_HEAD_BYTES, MAX_MESSAGES, MAX_MESSAGE_BYTES}
pub use Rattle.http_stream.specs.declared.fields.Framing.{Framing}
pub use Rattle.http_stream.specs.declared.fields.Framing.TheVariants.{Length, Long, Wrong}
pub use Rattle.http_stream.specs.declared.front.Judgement.TheVariants.{Open, Stop, Whole}
pub use Rattle.http_stream.specs.declared.front.Parts.{Parts}
pub use Rattle.http_stream.specs.declared.outcome.End.{End}
pub use Rattle.http_stream.specs.declared.outcome.End.TheVariants.{BadHead, Closed, Hundred, TooLarge, Unfinished}
pub use Rattle.http_stream.specs.declared.outcome.Served.{Served}
pub use Rattle.http_stream.specs.declared.outcome.StreamFault.TheVariants.{Memory, Read, Write}
