-- Which nodes have a way to the sink that costs nothing, and which arcs a search spares.
use Rattle.std.proofs.Common.{◌≡◌, ℕ, ◌+◌, ◌<◌, ◌≤◌, length, Some, slice_get, arith, sym, ◌∙◌, ◌⊎◌, inl, inr, true, false}
use Rattle.network.proofs.Common.{slice_index, slice_get_within, some_pair_parts, project_count, sink_of, Arc, HasRoom, HasFreePath, at_sink, by_supervisor, by_project, SearchArc, Flow, cases_Bool, is_gt, Ops, AtMost, Origin, Unseen, Offer, Room}

module _ {G : Type 0} (f : Flow G) where
  -- a project, only where it has room and its supervisor has
  pub project_free_path : (v l q : ℕ) → slice_get f.projects.items v ≡ Some (l, q) → HasFreePath f v → (slice_index f.filled.items v < q) × HasRoom f l
  project_free_path v l q at (at_sink e) = absurd (let lt = slice_get_within f.projects.items v _ at in omega (arith, e, lt))
  project_free_path v l q at (by_supervisor m e room) = absurd (let lt = slice_get_within f.projects.items v _ at in omega (arith, e, lt))
  project_free_path v l q at (by_project m r other above room) = let same = some_pair_parts m l r q (sym other ∙ at) in (rw (← same.1) above, rw (← same.0) room)

  -- a supervisor, only with room
  pub supervisor_free_path : (v l : ℕ) → v ≡ project_count f + l → l < length f.supervisors.items → HasFreePath f v → HasRoom f l
  supervisor_free_path v l is lt (at_sink e) = absurd (omega (arith, is, lt, e))
  supervisor_free_path v l is lt (by_supervisor m e room) = let same : m ≡ l = omega (arith, is, e) in rw (← same) room
  supervisor_free_path v l is lt (by_project m r at above room) = absurd (let low = slice_get_within f.projects.items v _ at in omega (arith, is, low))

  -- and what has one is a node
  pub free_path_within : (v : ℕ) → HasFreePath f v → v ≤ sink_of f
  free_path_within v (at_sink e) = omega (arith, e)
  free_path_within v (by_supervisor l e room) = omega (arith, e, room.0)
  free_path_within v (by_project l q at above room) = let lt = slice_get_within f.projects.items v _ at in omega (arith, lt)

module _ {G : Type 0} (o : Ops G) (f : Flow G) where
  -- an arc that a search goes along is one of the flow
  pub plain : (a : ℕ) (w : Origin) (c : G) (b : ℕ) → SearchArc o f a w c b → Arc o f a w c b
  plain a Unseen c b d = d
  plain a (Offer p) c b d = d
  plain a (Room l) c b d = d
  plain a w c b d = d.0

  -- and out of a node without a way each is one
  pub searched : (a : ℕ) (w : Origin) (c : G) (b : ℕ) → (HasFreePath f a → ⊥) → Arc o f a w c b → SearchArc o f a w c b
  searched a Unseen c b none d = d
  searched a (Offer p) c b none d = d
  searched a (Room l) c b none d = d
  searched a w c b none d = (d, none)

-- an order holds that holds in both cases
pub in_both : {G : Type 0} (o : Ops G) (P : Type 0) (x y : G) → (P → AtMost o x y) → ((P → ⊥) → AtMost o x y) → AtMost o x y
in_both o P x y then else = go (cases_Bool (is_gt (o.cmp x y))) where
  go : (is_gt (o.cmp x y) ≡ true) ⊎ (is_gt (o.cmp x y) ≡ false) → AtMost o x y
  go (inl above) = else (λ p. let below = then p in cc)
  go (inr below) = below
