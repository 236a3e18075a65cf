use Rattle.std.proofs.Common.{◌≡◌, List, [], ◌∷◌, length, map, Some, option_map, String, refl, sym, ap, ◌∙◌, arith}
use Rattle.http_api.proofs.Common.{length-map, Data, view, members_of, members_view, members_count}
use Rattle.std.specs.declared.alloc.Global.{Global}
use Rattle.serde_json.specs.declared.value.Value.{Value}
use Rattle.http_api.proofs.members.member_count.Goals as goal

-- as many members as were given
counted : (ms : List (String Global × Data)) → members_count (members_of ms) ≡ length ms
counted [] = refl
counted (m ∷ ms) = let e = counted ms in omega arith

-- as many members as values
viewed : (ms : List (String Global × Value)) → members_count (members_view ms) ≡ length ms
viewed ms = counted (map (λ m. (m.0, view m.1)) ms) ∙ simp length-map

pub returns : goal.returns
returns c = ap Some (c.len.ensures.len ∙ sym (viewed c.in_ok-as_object.field-0.now.entries)) ∙ ap (option_map members_count) c.in_ok-as_object.ensures
