-- For proofs alone. The routes, and what a path names.
use Rattle.std.specs.Prelude.{◌≡◌, ℕ, List}
use Rattle.matchit.specs.Router.{RouteOf}
use Rattle.http_api.specs.declared.routes.Methods.{Methods}
use Rattle.http_api.specs.Routes.{NamesRoute, first_of}

-- a path as it is written, with what each method asks of it
abbrev pub path_written : List ℕ × RouteOf Methods → List ℕ × Methods
path_written r = (r.1.text, r.1.value)

-- the path is that of a route, whose first parameter is this text
pub record NamesBy (path : List ℕ) (methods : Methods) (code : List ℕ) : Type 0 where
  pub values : List (List ℕ)
  pub names : NamesRoute path methods values
  pub first : code ≡ first_of values
