-- A message asks one thing.
use Rattle.std.proofs.Common.{◌≡◌, inl, inr, ℕ, List, Result, sym, ap, ◌∙◌}
use Rattle.http_api.proofs.Common.{Refusal, Methods, first_of}
use Rattle.office_model.specs.declared.request.Request.{Request}
use Rattle.http_stream.specs.Run.{MessageText}
use Rattle.http_api.specs.Requests.{Asks, asked_by, by_method}
use Rattle.http_api.proofs.PathsOfRoutes.{one_name}

pub one_asked : (said : MessageText) (asked other : Result Request Refusal) → Asks said asked → Asks said other → asked ≡ other
one_asked said asked other (inl a) (inl b) =
    let same = one_name said.target a.methods b.methods a.values b.values a.path b.path in
    a.request ∙ ap (λ (m : Methods). asked_by (by_method m said.method) (first_of a.values) said.body) same.0
    ∙ ap (λ (vs : List (List ℕ)). asked_by (by_method b.methods said.method) (first_of vs) said.body) same.1 ∙ sym b.request
one_asked said asked other (inl a) (inr b) = absurd (b.0 a.methods a.values a.path)
one_asked said asked other (inr a) (inl b) = absurd (a.0 b.methods b.values b.path)
one_asked said asked other (inr a) (inr b) = a.1 ∙ sym b.1
