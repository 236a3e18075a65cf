-- Requests that change nothing.
use Rattle.office_model.specs.Common.{Bool, true, false, Plain, Request, State, has_import}
use Rattle.office_model.specs.declared.request.Request.TheVariants as request
use Rattle.office_model.specs.Meaning.{meaning}

-- whether a plain request only reads
abbrev pub is_read : Plain → Bool
is_read q = let m = meaning q in m.reads

-- whether a request changes nothing of this office
abbrev pub changes_nothing : State → Request → Bool
changes_nothing o (request.Plain p) = is_read p
changes_nothing o request.Close = false
changes_nothing o request.Preview = true
changes_nothing o request.RoundText = true
changes_nothing o (request.Report kind round) = true
changes_nothing o (request.Import id kind bytes) = has_import o id
