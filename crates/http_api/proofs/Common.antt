-- The names that most proofs here cite, passed on from one place. Declares nothing.
pub use Rattle.http_api.specs.Inside.Routes.{NamesBy}
pub use Rattle.http_api.specs.Members.{has_size, json_of, lone_text, members_count, text_in, texts_of}
pub use Rattle.http_api.specs.Routes.{AllFit, AreSegments, HasRow, IsNowhere, NamesRoute, all_routes, asked, entry, fill, first_of, fits, fixed, import, is_segment, list, numbered, opens, read, row}
pub use Rattle.http_api.specs.Text.{fault_answer, fault_body, fields, json_answer, json_type, status_line, text_type, typed_answer}
pub use Rattle.http_api.specs.Texts.{IsRead, list_data, numbers_text, placed_data, refusal_text, reply_text, student_data, truth_text}
pub use Rattle.http_api.specs.declared.routes.Methods.{Methods}
pub use Rattle.http_api.specs.declared.routes.Segments.TheVariants.{Any, Numbers}
pub use Rattle.matchit.specs.Router.{InsertsRead, Refused, RouteOf, nearest, route_from}
pub use Rattle.matchit.specs.Rows.{RowsOf}
pub use Rattle.matchit.specs.Seek.{better, cuts, first, has_slash, longest_from, longest_suffix, or_else, own, same_text, segment, slash, step, with_suffix}
pub use Rattle.office_model.specs.RefusalInfo.{name_of, number_of, status_of, statuses}
pub use Rattle.office_model.specs.declared.refusal.Refusal.{Refusal}
pub use Rattle.serde_json.specs.Data.{Data, number, string, unsigned}
pub use Rattle.serde_json.specs.View.{items_of, items_view, members_of, members_view, view}
pub use Rattle.serde_json.specs.Written.{comma_if, has_float, items_have_float, items_text}
pub use Rattle.std.proofs.lemmas.Bool.{eqb-true}
pub use Rattle.std.proofs.lemmas.List.{at_drop_more, drop_all, drop_more, length-append, length-map, take_all}
pub use Rattle.std.proofs.lemmas.Str.{IsCharBoundary-after_ascii, IsUtf8-drop, IsUtf8-from_is_utf8, is_utf8-from_IsUtf8}
pub use Rattle.std.specs.List.{list_any}
pub use Rattle.std.specs.Str.{IsUtf8, all_ascii_digits, is_utf8}
pub use Rattle.std.specs.Str.Parse.{digits_value}
pub use Rattle.http_stream.specs.Answers.{answer_bytes}
pub use borrow.Author.Tests.{le-leb, le-ltb, lt-ltb, ltb-true, ne_eqb}
