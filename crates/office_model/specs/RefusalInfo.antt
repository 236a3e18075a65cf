-- A refusal's number, status and name.
use Rattle.std.specs.Prelude.{◌∷◌, ℕ, List, [], codes}
use Rattle.office_model.specs.declared.refusal.Refusal.{Refusal}
use Rattle.office_model.specs.declared.refusal.Refusal.TheVariants as no

-- the number of a refusal, its status over HTTP, and its name; the last one is of an opening and never answered
abbrev pub refusal_info : Refusal → ℕ × ℕ × List ℕ
refusal_info no.Memory = (1, 503, codes "Memory")
refusal_info no.Storage = (2, 503, codes "Storage")
refusal_info no.BadHead = (3, 400, codes "BadHead")
refusal_info no.TooLarge = (4, 413, codes "TooLarge")
refusal_info no.NoRoute = (5, 404, codes "NoRoute")
refusal_info no.WrongMethod = (6, 405, codes "WrongMethod")
refusal_info no.Json = (7, 400, codes "Json")
refusal_info no.Members = (8, 400, codes "Members")
refusal_info no.Code = (9, 400, codes "Code")
refusal_info no.Label = (10, 400, codes "Label")
refusal_info no.Quota = (11, 400, codes "Quota")
refusal_info no.RollFull = (12, 409, codes "RollFull")
refusal_info no.UnknownSupervisor = (13, 404, codes "UnknownSupervisor")
refusal_info no.UnknownProject = (14, 404, codes "UnknownProject")
refusal_info no.UnknownStudent = (15, 404, codes "UnknownStudent")
refusal_info no.SupervisorFixed = (16, 409, codes "SupervisorFixed")
refusal_info no.BelowPlaced = (17, 409, codes "BelowPlaced")
refusal_info no.RoundIsOpen = (18, 409, codes "RoundIsOpen")
refusal_info no.NoRoundOpen = (19, 409, codes "NoRoundOpen")
refusal_info no.NoRoundClosed = (20, 409, codes "NoRoundClosed")
refusal_info no.RoundsFull = (21, 409, codes "RoundsFull")
refusal_info no.AlreadyPlaced = (22, 409, codes "AlreadyPlaced")
refusal_info no.ListLength = (23, 400, codes "ListLength")
refusal_info no.RepeatedProject = (24, 400, codes "RepeatedProject")
refusal_info no.NoList = (25, 404, codes "NoList")
refusal_info no.UnknownRound = (26, 404, codes "UnknownRound")
refusal_info no.ImportIdUsed = (27, 409, codes "ImportIdUsed")
refusal_info no.Header = (28, 400, codes "Header")
refusal_info (no.Row n inner) = (29, 409, codes "Row")
refusal_info no.Damaged = (30, 503, codes "Damaged")

-- the number by which answers and messages name a refusal
abbrev pub number_of : Refusal → ℕ
number_of refusal = (refusal_info refusal).0

-- the statuses that a refusal may have
abbrev pub statuses : List ℕ
statuses = 400 ∷ 404 ∷ 405 ∷ 409 ∷ 413 ∷ 503 ∷ []

-- the status of its answer
abbrev pub status_of : Refusal → ℕ
status_of refusal = (refusal_info refusal).1

-- its name
abbrev pub name_of : Refusal → List ℕ
name_of refusal = (refusal_info refusal).2
