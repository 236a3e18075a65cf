-- The request of a message.
use Rattle.std.specs.Prelude.{◌≡◌, ◌⊎◌, Bool, true, false, IsTrue, List, [], ◌∷◌, ℕ, Option, Some, None, option_map, Result, Ok, Err, codes, if◌then◌else◌}
use Rattle.std.specs.Str.{bytes_eq}
use Rattle.serde_json.specs.Data.{Data}
use Rattle.spa.specs.declared.aim.Aim.TheVariants.{Greedy}
use Rattle.office_model.specs.declared.refusal.Refusal.{Refusal}
use Rattle.office_model.specs.declared.refusal.Refusal.TheVariants as no
use Rattle.office_model.specs.declared.request.Plain.{Plain}
use Rattle.office_model.specs.declared.request.Plain.TheVariants as plain
use Rattle.office_model.specs.declared.request.Request.{Request}
use Rattle.office_model.specs.declared.request.Request.TheVariants as request
use Rattle.http_stream.specs.Run.{MessageText}
use Rattle.http_api.specs.declared.routes.Call.{Call}
use Rattle.http_api.specs.declared.routes.Call.TheVariants as call
use Rattle.http_api.specs.declared.routes.Methods.{Methods}
use Rattle.http_api.specs.declared.routes.Form.{Form}
use Rattle.http_api.specs.declared.routes.Form.TheVariants.{Empty, Members, Opens, Raw}
use Rattle.http_api.specs.declared.routes.Put.{Put}
use Rattle.http_api.specs.declared.routes.Put.TheVariants as put
use Rattle.http_api.specs.Routes.{called, first_of, NamesRoute, IsNowhere}
use Rattle.http_api.specs.Members.{json_of, name_of, supervisor_members, project_members, choices_of, aim_of}

-- what the members of a body ask to be put under a code
abbrev pub put_by : Put → List ℕ → Data → Option Plain
put_by put.Supervisor code d = option_map (λ m. plain.PutSupervisor code m.0 m.1) (supervisor_members d)
put_by put.Project code d = option_map (λ m. plain.PutProject code m.0.0 m.1 m.0.1) (project_members d)
put_by put.Student code d = option_map (λ name. plain.PutStudent code name) (name_of d)
put_by put.List code d = option_map (λ choices. plain.PutList code choices) (choices_of d)

-- a request, or the refusal of other members
abbrev pub asked_or : Option Plain → Result Request Refusal
asked_or None = Err no.Members
asked_or (Some p) = Ok (request.Plain p)

-- what is asked by members, by what the body is in JSON
abbrev pub object_asks : (Data → Option Plain) → Option Data → Result Request Refusal
object_asks how None = Err no.Json
object_asks how (Some d) = asked_or (how d)

-- what is asked by an empty body
abbrev pub empty_asks : Request → List ℕ → Result Request Refusal
empty_asks asked [] = Ok asked
empty_asks asked (b ∷ body) = Err no.Members

-- the round that is opened by the members of a body
abbrev pub opened_by : Data → Option Plain
opened_by d = option_map plain.OpenRound (aim_of d)

-- what is asked where a round is opened: a greedy one by an empty body, and otherwise one of the aim that the body names
abbrev pub opening_asks : List ℕ → Result Request Refusal
opening_asks [] = Ok (request.Plain (plain.OpenRound Greedy))
opening_asks (b ∷ body) = object_asks opened_by (json_of (b ∷ body))

-- what a body asks
abbrev pub by_body : Form → List ℕ → List ℕ → Result Request Refusal
by_body (Empty what) code body = empty_asks (called what code) body
by_body (Members what) code body = object_asks (put_by what code) (json_of body)
by_body Opens code body = opening_asks body
by_body (Raw kind) code body = Ok (request.Import code kind body)

-- what a method asks of a path
abbrev pub by_method : Methods → List ℕ → Option Form
by_method methods method =
    if bytes_eq method (codes "GET") then methods.get
    else if bytes_eq method (codes "PUT") then methods.put
    else if bytes_eq method (codes "POST") then methods.post
    else if bytes_eq method (codes "DELETE") then methods.delete
    else None

-- what is asked, where the path has the method
abbrev pub asked_by : Option Form → List ℕ → List ℕ → Result Request Refusal
asked_by None code body = Err no.WrongMethod
asked_by (Some form) code body = by_body form code body

-- a message asks this of a route that its path names
pub record AsksRoute (said : MessageText) (asked : Result Request Refusal) : Type 0 where
  pub methods : Methods
  pub values : List (List ℕ)
  pub path : NamesRoute said.target methods values
  pub request : asked ≡ asked_by (by_method methods said.method) (first_of values) said.body

-- what a message asks, or its refusal: by its path, its method and its body, in this order
abbrev pub Asks : MessageText → Result Request Refusal → Type 0
Asks said asked = AsksRoute said asked ⊎ (IsNowhere said.target × (asked ≡ Err no.NoRoute))

-- whether the request of an empty body keeps a code of the path
abbrev pub keeps_code : Call → Bool
keeps_code call.GetSupervisor = true
keeps_code call.GetProject = true
keeps_code call.GetStudent = true
keeps_code call.DropList = true
keeps_code call.Close = false
keeps_code call.ReopenRound = false
keeps_code call.GetRound = false
keeps_code call.Preview = false
keeps_code call.RoundText = false
keeps_code (call.Report kind) = false

-- whether reading what a body asks allocates: members, the text of an import and a code do, and a body where none belongs does not
abbrev pub takes_memory : Form → List ℕ → Bool
takes_memory (Empty what) [] = keeps_code what
takes_memory (Empty what) (b ∷ body) = false
takes_memory (Members what) body = true
takes_memory Opens [] = false
takes_memory Opens (b ∷ body) = true
takes_memory (Raw kind) body = true

-- the same where the path has the method; another method takes none
abbrev pub asked_takes_memory : Option Form → List ℕ → Bool
asked_takes_memory None body = false
asked_takes_memory (Some form) body = takes_memory form body

-- reading what a message asks allocates
pub record TakesMemory (said : MessageText) : Type 0 where
  pub methods : Methods
  pub values : List (List ℕ)
  pub path : NamesRoute said.target methods values
  pub takes : IsTrue (asked_takes_memory (by_method methods said.method) said.body)

-- what is read of a message: what it asks, or refusal 1 where reading it allocates
abbrev pub IsReadAs : MessageText → Result Request Refusal → Type 0
IsReadAs said read = Asks said read ⊎ (TakesMemory said × (read ≡ Err no.Memory))
