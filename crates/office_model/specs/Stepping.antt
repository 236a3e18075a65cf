-- What a request that is not refused makes of the office, and its answer.
use Rattle.office_model.specs.Common.{Option, Reply, State, Plain}
pub use Rattle.office_model.specs.Moves.{with_last, after_opening, after_reopening, by_rank}
use Rattle.office_model.specs.Meaning.{meaning}

-- the office after a plain request
abbrev pub after_plain : Plain → State → State
after_plain q o = let m = meaning q in m.after o

-- the answer to a plain request, where there is one
abbrev pub plain_reply : Plain → State → Option Reply
plain_reply q o = let m = meaning q in m.reply o
