-- The plainest query is a statement under any schema.
use Rattle.sql_tables.proofs.Common.{Schema, State, IsNotRun, Compiled, Error, Storage, fault_of, IsStopped, IsText, ◌≡◌, ℕ, List, [], length, codes, Ok, refl, sym, ap, arith}
use Rattle.sqlite.specs.Listing.{understood, listing_schema}
use Rattle.sqlite_tied.specs.Compute.{everything}
use Rattle.sql_tables.proofs.Ends.{not_run}

plainest : (schema : Schema) → (c : Compiled) × (understood schema (codes "SELECT 1") ≡ Ok c) × (c.tail ≡ 8) × (c.names ≡ []) × (c.formats ≡ [])
unfolding understood everything listing_schema
plainest schema = (_, refl, refl, refl, refl)

ready_text : (schema : Schema) → IsText schema (codes "SELECT 1") []
ready_text schema = let it = plainest schema in record { meant = it.0; is = it.1; whole = omega (arith, it.2); counted = sym (ap (λ (names : List (List ℕ)). length names) it.3); plain = it.4 }

-- so it is refused by nothing but the disk
pub always_ready : (old new : State) (e : Error) → fault_of e ≡ Storage → IsNotRun old new (codes "SELECT 1") [] e → IsStopped (λ _ _. ⊥) old new
always_ready old new e other h = record { why = not_run (codes "SELECT 1") [] old new ⊥ (λ none. none (ready_text old.now.schema)) e other h }
