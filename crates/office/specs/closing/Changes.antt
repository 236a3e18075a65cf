-- What a round that closes makes of the placements: the office after, the answer, and the changes of the tables.
use Rattle.std.specs.Prelude.{◌+◌, ◌==◌, ◌&&◌, ◌∷◌, ℕ, false, List, map, length, count_by}
use Rattle.office.specs.closing.Common.{CodePair, Placement, put_all, State, placement_key, last_round, placement_cells, kept}
use Rattle.schema.specs.declared.table.Table.TheVariants.{Placement as PlacementTable}
use Rattle.schema.specs.declared.row.Change.{Change}
use Rattle.schema.specs.declared.row.Change.TheVariants.{Put, Add}
use Rattle.office_model.specs.declared.request.Reply.{Reply}
use Rattle.office_model.specs.declared.request.Reply.TheVariants as reply
use Rattle.office_model.specs.Stepping.{with_last, by_rank}
use Rattle.office_model.specs.Making.{round_row}

-- the office after the last round closes with these placements
abbrev pub after_placing : List Placement → State → State
after_placing ps o = record (with_last (λ r. record r { is_open = false }) o) { placements = put_all placement_key ps o.placements }

-- the answer where a round closes with these placements: how many, and how many at each rank
abbrev pub placed_reply : ℕ → List Placement → Reply
placed_reply round ps = reply.Closed round (length ps) (by_rank (λ k. count_by (λ p. (p.round == round) && (p.rank == k + 1)) ps))

-- a placement's row is added
abbrev pub placement_added : Placement → Change
placement_added p = Add (record { table = PlacementTable; cells = placement_cells p })

-- the changes where a round closes with these placements: its row is put, and a row is added for each placement
abbrev pub closing_changes : ℕ → List Placement → List Change
closing_changes round ps = Put (round_row round false) ∷ map placement_added ps

-- the changes where the last round closes with the matching M
abbrev pub close_changes : List CodePair → State → List Change
close_changes M o = closing_changes (last_round o) (map (kept o) M)
