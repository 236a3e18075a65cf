-- What the members of a body say.
use Rattle.std.specs.Prelude.{ℕ, suc, ◌==◌, min, Bool, false, List, [], ◌∷◌, Option, Some, None, option_and_then, option_map, codes, if◌then◌else◌}
use Rattle.std.specs.Option.{option_map_or}
use Rattle.std.specs.Str.{is_utf8}
use Rattle.serde_json.specs.Data.{Data, Items, no_items, item, Members, no_members, member}
use Rattle.serde_json.specs.Read.{read}
use Rattle.spa.specs.Aims.{aim_with}
use Rattle.spa.specs.declared.aim.Aim.{Aim}
use Rattle.serde_json.specs.Find.{get, as_str, as_array, as_object, as_number, as_u64}

-- what a body is in JSON, if it is a text of it
abbrev pub json_of : List ℕ → Option Data
json_of body = if is_utf8 body then read body else None

-- how many members there are
abbrev pub members_count : Members → ℕ
members_count no_members = 0
members_count (member k d ms) = suc (members_count ms)

-- whether it is an object of this many members
abbrev pub has_size : ℕ → Data → Bool
has_size n d = option_map_or (λ k. k == n) (option_map members_count (as_object d)) false

-- what is read from an object of this many members
abbrev pub of_size : {A : Type 0} → ℕ → (Data → Option A) → Data → Option A
of_size n f d = if has_size n d then f d else None

-- the text of a member
abbrev pub text_in : List ℕ → Data → Option (List ℕ)
text_in name d = option_and_then as_str (get name d)

-- what is handed on in place of a number that is no quota, so that the office refuses it
abbrev pub no_quota : ℕ
no_quota = 9999

-- the quota that a number is: a whole number up to that, or none
abbrev pub quota_of : Option ℕ → ℕ
quota_of None = no_quota
quota_of (Some n) = min n no_quota

-- the number of the member `quota`, of which a quota is taken
abbrev pub quota_in : Data → Option ℕ
quota_in d = option_map (λ n. quota_of (as_u64 n)) (option_and_then as_number (get (codes "quota") d))

-- the text of a member alone
abbrev pub lone_text : List ℕ → Data → Option (List ℕ)
lone_text name = of_size 1 (text_in name)

-- a name alone
abbrev pub name_of : Data → Option (List ℕ)
name_of = lone_text (codes "name")

-- a name and a quota
abbrev pub name_and_quota : Data → Option (List ℕ × ℕ)
name_and_quota d = option_and_then (λ name. option_map (λ quota. (name, quota)) (quota_in d)) (text_in (codes "name") d)

-- the members of a supervisor: name and quota
abbrev pub supervisor_members : Data → Option (List ℕ × ℕ)
supervisor_members = of_size 2 name_and_quota

-- the members of a project: name and quota, and its supervisor
abbrev pub project_members : Data → Option ((List ℕ × ℕ) × List ℕ)
project_members = of_size 3 (λ d.
    option_and_then (λ both. option_map (λ supervisor. (both, supervisor)) (text_in (codes "supervisor") d)) (name_and_quota d))

-- the aim that a body asks for: it has the one member `aim`, whose text is the aim's word
abbrev pub aim_of : Data → Option Aim
aim_of d = option_and_then aim_with (lone_text (codes "aim") d)

-- the texts of items that are all texts
abbrev pub texts_of : Items → Option (List (List ℕ))
texts_of no_items = Some []
texts_of (item d ds) = option_and_then (λ text. option_map (λ texts. text ∷ texts) (texts_of ds)) (as_str d)

-- the member of a list: its choices, an array of texts
abbrev pub choices_of : Data → Option (List (List ℕ))
choices_of = of_size 1 (λ d. option_and_then texts_of (option_and_then as_array (get (codes "choices") d)))
