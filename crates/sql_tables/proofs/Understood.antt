-- What is known of a statement that went through.
use Rattle.sql_tables.proofs.Common.{cases_Bool, Schema, Row, Table, IsWrite, IsDatabase, first, timed, returning, command, small, with_command, on_table, target, Command, Insert, InsertOr, Update, Delete, CreateTable, CreateIndex, CreateView, DropTable, DropIndex, DropView, reads_listing, listing_schema, if_select, is_select, State, Runs, Executes, text_of, shows_rows, at_time, Returning, Parsed, Checked, and_then, Compiled, NoSuchTable, ◌≡◌, inl, inr, ℕ, ◌+◌, List, [], Option, None, Ok, Err, false, append-nil, refl, sym, subst}
use Rattle.sqlite.specs.Compile.{compiled, planned, meaning}
use Rattle.sqlite.specs.Listing.{understood}
use Rattle.sqlite.specs.State.{Writes, ExecutesIn}
use Rattle.sqlite_resolve.specs.Body.{table_at}

-- a chain that answered answered at each step
pub and_then_ok : {A B : Type 0} (r : Checked A) (f : A → Checked B) (b : B) → and_then r f ≡ Ok b → (a : A) × (r ≡ Ok a) × (f a ≡ Ok b)
and_then_ok (Ok a) f b h = (a, refl, h)
and_then_ok (Err e) f b h = absurd (cc)

-- no query on `sqlite_schema` has the text
pub compiled_of : (schema : Schema) (sql : List ℕ) (c : Compiled) → if_select (compiled listing_schema sql) ≡ Err NoSuchTable → understood schema sql ≡ Ok c → compiled schema sql ≡ Ok c
unfolding understood
compiled_of schema sql c unlisted h = elim (cases_Bool (reads_listing schema sql)) [
  | inl reads ↦ absurd (let e = rw reads at h in cc)
  | inr plain ↦ rw plain at h
]

abbrev Plans : Parsed → Compiled → List (List ℕ) → Checked (Option Returning) → Checked Command → Type 0
Plans p c formats r k = (shown : Option Returning) × (does : Command) × (r ≡ Ok shown) × (k ≡ Ok does) × (c ≡ with_command p (formats, (does, shown)))

plans : (p : Parsed) (c : Compiled) (formats : List (List ℕ)) (r : Checked (Option Returning)) (k : Checked Command)
    → and_then (and_then (and_then r (λ shown. and_then k (λ does. Ok (does, shown)))) (λ found. Ok (formats, found))) (λ plan. Ok (with_command p plan)) ≡ Ok c → Plans p c formats r k
plans p c formats (Ok shown) (Ok does) h = (shown, does, refl, refl, cc)
plans p c formats (Ok shown) (Err e) h = absurd (cc)
plans p c formats (Err e) k h = absurd (cc)

-- a text that was understood has a plan
pub planned_of : (schema : Schema) (sql : List ℕ) (p : Parsed) (c : Compiled) → if_select (compiled listing_schema sql) ≡ Err NoSuchTable → first sql ≡ Ok p → understood schema sql ≡ Ok c
    → let formats = timed schema p.formats p.statement in let base = small p.names + small formats in
    Plans p c formats (returning schema base p.statement) (command schema p.formats base p.statement)
unfolding compiled planned meaning
planned_of schema sql p c unlisted parsed h = plans p c _ _ _ (rw parsed at (compiled_of schema sql c unlisted h))

-- what the command of a text is, wherever it has one
abbrev pub Means : Schema → List ℕ → Command → List ℕ → Type 0
Means schema sql k text = (c : Compiled) → understood schema sql ≡ Ok c → (c.command ≡ k) × (c.returning ≡ None) × (c.formats ≡ []) × (text_of sql c ≡ text)

-- a statement that went through ran the command that its text means
pub runs_by : (sql : List ℕ) (params : Row) (old new : State) (count : ℕ) (k : Command) (text : List ℕ) → Means old.now.schema sql k text → Executes sql params old new (Ok count)
    → Runs old new None k text params count
unfolding ExecutesIn
runs_by sql params old new count k text means h =
    let is = means h.0 h.1.is in
    let ran : Runs old new h.0.returning h.0.command (text_of sql h.0) (at_time params h.0.formats h.1.now) count = elim (cases_Bool (shows_rows false h.0)) [
      | inl shows ↦ absurd (let e = (rw shows at h.2).0 in cc)
      | inr runs ↦ rw runs at h.2
    ] in
    rw (is.0, is.1, is.2, is.3, append-nil params) at ran

-- under whatever schema the text is understood, it is that of a write
abbrev pub IsWriteText : List ℕ → Type 0
IsWriteText sql = (schema : Schema) (c : Compiled) → understood schema sql ≡ Ok c → IsWrite c.command

-- a chain whose last step is a write is one
pub ends_in_write : {A : Type 0} (r : Checked A) (f : A → Command) (k : Command) → ((a : A) → IsWrite (f a)) → and_then r (λ a. Ok (f a)) ≡ Ok k → IsWrite k
ends_in_write (Ok a) f k writes h = let same : f a ≡ k = cc in subst IsWrite same (writes a)
ends_in_write (Err e) f k writes h = absurd (cc)

-- what is compiled over a table to a write is one
pub on_table_writes : (schema : Schema) (name : List ℕ) (f : ℕ → Table → Checked Command) (k : Command) → ((at : ℕ) (table : Table) → f at table ≡ Ok k → IsWrite k) → on_table schema name f ≡ Ok k → IsWrite k
on_table_writes schema name f k writes h =
    let found = and_then_ok (target schema name) _ k h in
    let there = and_then_ok (table_at schema found.0) _ k found.2 in
    writes found.0 there.0 there.2

only_select : (r : Checked Compiled) (c : Compiled) → if_select r ≡ Ok c → r ≡ Ok c
only_select (Err e) c h = absurd (cc)
only_select (Ok d) c h = elim (cases_Bool (is_select d.command)) [
  | inl is ↦ rw is at h
  | inr other ↦ absurd (let e = rw other at h in cc)
]

-- a text whose statement is compiled to writes alone is that of a write
pub compiles_to_write : (sql : List ℕ) (p : Parsed) → first sql ≡ Ok p → ((schema : Schema) (base : ℕ) (k : Command) → command schema p.formats base p.statement ≡ Ok k → IsWrite k) → IsWriteText sql
unfolding understood compiled planned meaning
compiles_to_write sql p parsed writes schema c h = elim (cases_Bool (reads_listing schema sql)) [
  | inl reads ↦ by_plan listing_schema (only_select (compiled listing_schema sql) c (rw reads at h))
  | inr plain ↦ by_plan schema (rw plain at h)
]
  where
    by_plan : (under : Schema) → compiled under sql ≡ Ok c → IsWrite c.command
    by_plan under e =
        let q = plans p c _ _ _ (rw parsed at e) in
        subst (λ (it : Compiled). IsWrite it.command) (sym q.4) (writes under _ q.1 q.3)

-- a write that went through wrote
pub write_writes : (old new : State) (shown : Option Returning) (k : Command) (text : List ℕ) (params : Row) (count : ℕ) → IsWrite k
    → Runs old new shown k text params count → Writes old new shown k text params count
write_writes old new shown (Insert at from) text params count is ran = ran
write_writes old new shown (InsertOr at how from clauses) text params count is ran = ran
write_writes old new shown (Update at q) text params count is ran = ran
write_writes old new shown (Delete at q) text params count is ran = ran
write_writes old new shown CreateTable text params count is ran = ran
write_writes old new shown (CreateIndex at) text params count is ran = ran
write_writes old new shown CreateView text params count is ran = ran
write_writes old new shown (DropTable at) text params count is ran = ran
write_writes old new shown (DropIndex at) text params count is ran = ran
write_writes old new shown (DropView at) text params count is ran = ran
write_writes old new shown _ text params count is ran = absurd is

-- the same of a text, and it left a database
pub written_sound : (sql : List ℕ) (params : Row) (old new : State) (count : ℕ) → IsWriteText sql → Executes sql params old new (Ok count) → IsDatabase new.now
unfolding ExecutesIn
written_sound sql params old new count writes h = elim (cases_Bool (shows_rows false h.0)) [
  | inl shows ↦ absurd (let e = (rw shows at h.2).0 in cc)
  | inr runs ↦ (write_writes old new h.0.returning h.0.command (text_of sql h.0) (at_time params h.0.formats h.1.now) count (writes old.now.schema h.0 h.1.is) (rw runs at h.2)).sound
]
