-- The routes, and what a path names.
use Rattle.std.specs.Prelude.{◌≡◌, ◌⊎◌, ℕ, ◌+◌, ◌==◌, nat_lt, Bool, true, false, not, ◌&&◌, List, [], ◌∷◌, ◌++◌, length, Option, Some, None, is_some, option_map, unwrap_or, codes, if◌then◌else◌}
use Rattle.std.specs.Str.{IsUtf8, all_ascii_digits}
use Rattle.std.specs.Str.Parse.{digits_value}
use Rattle.matchit.specs.Seek.{has_slash}
use Rattle.matchit.specs.Rows.{RowsOf}
use Rattle.matchit.specs.Router.{RouteOf}
use Rattle.http_api.specs.declared.routes.Methods.{Methods}
use Rattle.office_model.specs.declared.import.ImportKind.{ImportKind}
use Rattle.office_model.specs.declared.import.ImportKind.TheVariants as kind
use Rattle.office_model.specs.declared.report.ReportKind.TheVariants as of
use Rattle.office_model.specs.declared.request.Plain.TheVariants as plain
use Rattle.office_model.specs.declared.request.Request.{Request}
use Rattle.office_model.specs.declared.request.Request.TheVariants as request
use Rattle.http_api.specs.declared.routes.Form.TheVariants.{Empty, Members, Opens, Raw}
use Rattle.http_api.specs.declared.routes.Segments.{Segments}
use Rattle.http_api.specs.declared.routes.Segments.TheVariants.{Any, Numbers}
use Rattle.http_api.specs.declared.routes.Call.{Call}
use Rattle.http_api.specs.declared.routes.Call.TheVariants as call
use Rattle.http_api.specs.declared.routes.Put.{Put}
use Rattle.http_api.specs.declared.routes.Put.TheVariants as put

-- the number that 1 to 4 digits write
abbrev pub number_of : List ℕ → Option ℕ
number_of text = if nat_lt 0 (length text) && nat_lt (length text) 5 && all_ascii_digits text then Some (digits_value 10 text) else None

-- the request of an empty body
abbrev pub called : Call → List ℕ → Request
called call.GetSupervisor code = request.Plain (plain.GetSupervisor code)
called call.GetProject code = request.Plain (plain.GetProject code)
called call.GetStudent code = request.Plain (plain.GetStudent code)
called call.DropList code = request.Plain (plain.DropList code)
called call.Close code = request.Close
called call.ReopenRound code = request.Plain plain.ReopenRound
called call.GetRound code = request.Plain (plain.GetRound (unwrap_or (number_of code) 0))
called call.Preview code = request.Preview
called call.RoundText code = request.RoundText
called (call.Report kind) code = request.Report kind (unwrap_or (number_of code) 0)

-- whether a segment may stand for a parameter
abbrev pub fits : Segments → List ℕ → Bool
fits Any text = true
fits Numbers text = is_some (number_of text)

-- what is read alone
abbrev pub read : Call → Methods
read what = record { segments = Any; get = Some (Empty what); put = None; post = None; delete = None }

-- what is asked of the office as a whole
abbrev pub asked : Call → Methods
asked what = record { segments = Any; get = None; put = None; post = Some (Empty what); delete = None }

-- a round is opened
abbrev pub opens : Methods
opens = record { segments = Any; get = None; put = None; post = Some Opens; delete = None }

-- an entry of the rolls is put and read
abbrev pub entry : Put → Call → Methods
entry what how = record { segments = Any; get = Some (Empty how); put = Some (Members what); post = None; delete = None }

-- a list is put, and dropped
abbrev pub list : Methods
list = record { segments = Any; get = None; put = Some (Members put.List); post = None; delete = Some (Empty call.DropList) }

-- something of a round is read by its number
abbrev pub numbered : Call → Methods
numbered what = record { segments = Numbers; get = Some (Empty what); put = None; post = None; delete = None }

-- an import is sent under its id
abbrev pub import : ImportKind → Methods
import what = record { segments = Any; get = None; put = None; post = Some (Raw what); delete = None }

-- a row of the router without a parameter
abbrev pub fixed : List ℕ → Methods → List ℕ × RouteOf Methods
fixed front methods = (front, record { pattern = front; text = front; names = []; value = methods })

-- a row of the router: what comes before the one parameter of a path, and its name; 256 stands for the parameter
abbrev pub row : List ℕ → List ℕ → Methods → List ℕ × RouteOf Methods
row front name methods = (
  front ++ 256 ∷ [],
  record {
    pattern = front ++ 256 ∷ [];
    text = front ++ 123 ∷ name ++ 125 ∷ [];
    names = (length front + 1, length front + 1 + length name) ∷ [];
    value = methods;
  },
)

-- the routes, in the router's order
unfoldable pub all_routes : RowsOf (RouteOf Methods)
all_routes =
    row (codes "/imports/lists/") (codes "code") (import kind.Lists)
    ∷ row (codes "/imports/projects/") (codes "code") (import kind.Projects)
    ∷ row (codes "/imports/students/") (codes "code") (import kind.Students)
    ∷ row (codes "/imports/supervisors/") (codes "code") (import kind.Supervisors)
    ∷ row (codes "/lists/") (codes "code") list
    ∷ fixed (codes "/preview") (read call.Preview)
    ∷ row (codes "/projects/") (codes "code") (entry put.Project call.GetProject)
    ∷ row (codes "/reports/loads/") (codes "code") (numbered (call.Report of.Loads))
    ∷ row (codes "/reports/missing/") (codes "code") (numbered (call.Report of.Missing))
    ∷ row (codes "/reports/offers/") (codes "code") (numbered (call.Report of.Offers))
    ∷ row (codes "/reports/placements/") (codes "code") (numbered (call.Report of.Placements))
    ∷ row (codes "/reports/profile/") (codes "code") (numbered (call.Report of.Profile))
    ∷ row (codes "/reports/text/") (codes "code") (numbered (call.Report of.Text))
    ∷ row (codes "/reports/unplaced/") (codes "code") (numbered (call.Report of.Unplaced))
    ∷ fixed (codes "/rounds/close") (asked call.Close)
    ∷ fixed (codes "/rounds/reopen") (asked call.ReopenRound)
    ∷ row (codes "/rounds/") (codes "code") (numbered call.GetRound)
    ∷ fixed (codes "/rounds") opens
    ∷ fixed (codes "/roundtext") (read call.RoundText)
    ∷ row (codes "/students/") (codes "code") (entry put.Student call.GetStudent)
    ∷ row (codes "/supervisors/") (codes "code") (entry put.Supervisor call.GetSupervisor)
    ∷ []

-- a pattern with these texts put in for its parameters, in order
abbrev pub fill : List ℕ → List (List ℕ) → Option (List ℕ)
fill [] [] = Some []
fill [] (v ∷ values) = None
fill (x ∷ pattern) [] = if x == 256 then None else option_map (λ path. x ∷ path) (fill pattern [])
fill (x ∷ pattern) (v ∷ values) =
    if x == 256 then option_map (λ path. v ++ path) (fill pattern values)
    else option_map (λ path. x ∷ path) (fill pattern (v ∷ values))

-- a part of a path between slashes, not empty
abbrev pub is_segment : List ℕ → Bool
is_segment [] = false
is_segment (b ∷ text) = not (has_slash (b ∷ text))

-- each of them is one
abbrev pub AreSegments : List (List ℕ) → Type 0
AreSegments [] = Unit {0}
AreSegments (v ∷ values) = (is_segment v ≡ true) × AreSegments values

-- each of them may stand for a parameter
abbrev pub AllFit : Segments → List (List ℕ) → Type 0
AllFit segments [] = Unit {0}
AllFit segments (v ∷ values) = (fits segments v ≡ true) × AllFit segments values

-- one of the rows has this pattern and this value
abbrev pub HasRow : {K : Type 0} → List ℕ → K → RowsOf K → Type 0
HasRow pattern value [] = ⊥
HasRow pattern value ((p, k) ∷ rows) = ((pattern ≡ p) × (value ≡ k)) ⊎ HasRow pattern value rows

-- the path is a text, the pattern of a route with these segments for its parameters
pub record NamesRoute (path : List ℕ) (methods : Methods) (values : List (List ℕ)) : Type 0 where
  pub pattern : List ℕ
  pub route : RouteOf Methods
  pub listed : HasRow pattern route all_routes
  pub value : methods ≡ route.value
  pub text : IsUtf8 path
  pub filled : fill pattern values ≡ Some path
  pub segments : AreSegments values
  pub fit : AllFit methods.segments values

-- the text that stands for the first parameter of a path
abbrev pub first_of : List (List ℕ) → List ℕ
first_of [] = []
first_of (v ∷ values) = v

-- no route has the path
abbrev pub IsNowhere : List ℕ → Type 0
IsNowhere path = (methods : Methods) (values : List (List ℕ)) → NamesRoute path methods values → ⊥
