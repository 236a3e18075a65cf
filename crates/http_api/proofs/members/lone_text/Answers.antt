use Rattle.std.proofs.Common.{rules, ◌≡◌, ℕ, List, None, Bool, true, if◌then◌else◌, sym, ap, ◌∙◌}
use Rattle.http_api.proofs.Common.{Data, view, has_size, text_in, lone_text}
use Rattle.http_api.proofs.members.lone_text.Goals as goal

-- the text of an object of one member
alone : (name : List ℕ) (d : Data) → has_size 1 d ≡ true → text_in name d ≡ lone_text name d
alone name d is = ap (λ (t : Bool). if t then text_in name d else None) (sym is)

pub returns : goal.returns
returns c =
    let is : has_size 1 (view c.args.value.now) ≡ true = search rules in
    c.text_in.ensures ∙ alone c.args.name.now (view c.args.value.now) is
