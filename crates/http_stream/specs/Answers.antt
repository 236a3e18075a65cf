-- The bytes of an answer.
use Rattle.std.specs.Prelude.{ℕ, List}
use Rattle.http_stream.specs.declared.handling.Answer.{Answer}
use Rattle.http_stream.specs.declared.handling.Answer.TheVariants.{Short, Long}

-- what is written of it
abbrev pub answer_bytes : Answer → List ℕ
answer_bytes (Short bytes) = bytes.items
answer_bytes (Long bytes) = bytes.items
