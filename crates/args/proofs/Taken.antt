-- Where `clap` finds no fault in the words of a line, each argument has a value that passes its parser.
-- A line has arguments that take one value by their place, and the flag for help, at which `clap` fails. So a walk without
-- a fault meets values alone. Each is tested when the next one comes, or at the end, before it becomes a row.
use Rattle.std.proofs.Common.{◌≡◌, ◌⊎◌, ◌&&◌, ◌||◌, ◌++◌, ◌==◌, ◌∙◌, ℕ, Bool, List, [], ◌∷◌, Option, Some, None, IfSome, true, false, not, zero, suc, length, refl, sym, ap, subst, cond, inl, inr, find, fold, is_some, codes}
use Rattle.args.proofs.Common.{IsSomeAnd, slice_get, option_and_then, option_map, list_any, bytes_eq, chars, bytes_eq-Decides, action_fault, built_fault, bundle_step_fault, entered_fault, flag_word_fault, level_fault, long_fault, other_fault, react_fault, set_fault, settle_fault, short_fault, step_fault, stray_fault, turn_fault, use_fault, word_fault, Shape, entered, label_of, names_of, rows_at, Held, Names, Outcome, Rule, Step, Waiting, Walk, action_of, after_flag, after_step, answers_to, arg_by_id, arg_by_index, arg_by_long, arg_by_short, bundle_step, default_rows, done, finished, first_of, has_long, has_row, has_short, idle, is_multiple, is_pending, long_or_other, long_word, more_values, next, nothing_held, option, plain, plain_word, positional, reading_by, refused, rows_after, settled, settled_rows, short_or_plain, subcommand, subcommand_met, subcommand_or_other, takes_several, takes_values, to_positional, trailing, used, used_as, used_by_id, value, values_or_missing, waits, walk, walk_from, walked_from, with_default, with_values, without, word_met, Each, HasOne, ErrorKind}
use Rattle.std.specs.Option.{option_map_or}
use Rattle.clap.specs.Facts.{explicit_source, parser_of_value, unwrap_or_range}
use Rattle.clap.specs.Faults.{flags_fault, walk_fault}
use Rattle.clap.specs.Kinds.{Kinds as ErrorKinds, check_kinds, or_else, range_kinds}
use Rattle.clap.specs.Lexer.{long_of, short_of}
use Rattle.clap.specs.Simple.{App}
use Rattle.clap.specs.Takes.{is_given, value_passes}
use Rattle.clap.specs.Values.{refused_kind}
use Rattle.clap.specs.Walk.{Row, Text, bundle_met, walked}
use Rattle.clap.specs.declared.builder.action.ArgAction.{ArgAction}
use Rattle.clap.specs.declared.builder.action.ArgAction.TheVariants.{Set, Help}
use Rattle.clap.specs.declared.builder.range.ValueRange.{ValueRange}
use Rattle.clap.specs.declared.builder.value_parser.Reading.{Reading}
use Rattle.clap.specs.declared.error.kind.ErrorKind.TheVariants as kind
use Rattle.clap.specs.declared.parser.matches.ValueSource.{ValueSource}

-- ---- lists of kinds, and of what is found

-- neither has a kind where the first that has one has none
none_else : (a b : ErrorKinds) → or_else a b ≡ [] → (a ≡ []) × (b ≡ [])
none_else [] b h = (refl, h)
none_else (k ∷ ks) b h = cc

-- what is found is among the items, and passes
found_in : {X : Type 0} (P : X → Type 0) (p : X → Bool) (xs : List X) → Each P xs → IfSome (find p xs) (λ x. P x × (p x ≡ true))
found_in P p [] each = tt
found_in P p (x ∷ xs) each = go (p x) refl (found_in P p xs each.1)
  where
    go : (b : Bool) → p x ≡ b → IfSome (find p xs) (λ y. P y × (p y ≡ true)) → IfSome (cond b (Some x) (find p xs)) (λ y. P y × (p y ≡ true))
    go true e h = (each.0, e)
    go false e h = h

-- the same of an item that is known to be found
found_at : {X : Type 0} (P : X → Type 0) (p : X → Bool) (xs : List X) (x : X) → Each P xs → find p xs ≡ Some x → P x × (p x ≡ true)
found_at P p xs x each e = subst (λ o. IfSome o (λ y. P y × (p y ≡ true))) e (found_in P p xs each)

-- ---- rules

-- an argument that takes one value by its place
pub record IsValue (a : Rule) : Type 0 where
  pub action : action_of a ≡ Set
  pub range : a.range ≡ Some (record { start_inclusive = 1; end_inclusive = 1 })
  pub long : (name : Text) → has_long a name ≡ false
  pub short : (c : ℕ) → has_short a c ≡ false

-- the flag for help
pub record IsHelp (a : Rule) : Type 0 where
  pub action : action_of a ≡ Help
  pub range : a.range ≡ Some (record { start_inclusive = 0; end_inclusive = 0 })

-- the rules of a line
abbrev pub Plain : Rule → Type 0
Plain a = IsValue a ⊎ IsHelp a

not_both : (a b : Bool) → (a && b) ≡ true → b ≡ false → ⊥
not_both true b h e = let bad : true ≡ false = sym h ∙ e in cc
not_both false b h e = cc

some_kind : (k : ErrorKind) (ks : ErrorKinds) → (k ∷ ks) ≡ [] → ⊥
some_kind k ks h = cc

-- the second branch
otherwise : (b : Bool) (x y : ErrorKinds) → b ≡ false → cond b x y ≡ [] → y ≡ []
otherwise true x y e h = cc
otherwise false x y e h = h

-- a use of help fails
help_fails : (again : Bool) (a : Rule) (values : List Text) (rows : List Row) → IsHelp a → use_fault again a values rows ≡ [] → ⊥
help_fails again a values rows help h =
    some_kind kind.DisplayHelp [] (subst (λ (x : ArgAction). action_fault x again a (values_or_missing a values) rows ≡ []) help.action (none_else _ _ h).1)

react_fails : (c : List Rule) (again : Bool) (a : Rule) (h : Held) → IsHelp a → react_fault c again a [] h ≡ [] → ⊥
react_fails c again a h help e = help_fails again a [] (settled c h).rows help (none_else _ _ e).1

takes_none : (a : Rule) → IsHelp a → takes_values a ≡ false
takes_none a help = ap (λ (r : Option ValueRange). not ((unwrap_or_range r).end_inclusive == 0)) help.range

-- a long flag is unknown, or help
long_help_fails : (c : List Rule) (again : Bool) (a : Rule) (v : Option Text) (h : Held) → IsHelp a
    → cond (is_some v) (kind.TooManyValues ∷ []) (react_fault c again a [] h) ≡ [] → ⊥
long_help_fails c again a None h help e = react_fails c again a h help e
long_help_fails c again a (Some x) h help e = some_kind _ _ e

long_fails : (c : List Rule) (again : Bool) (name : Text) (v : Option Text) (h : Held) → Each Plain c → long_fault c again (arg_by_long c name) v h ≡ [] → ⊥
long_fails c again name v h each = go (arg_by_long c name) refl
  where
    go : (o : Option Rule) → arg_by_long c name ≡ o → long_fault c again o v h ≡ [] → ⊥
    go None is e = some_kind _ _ e
    go (Some a) is e =
        let at = found_at Plain _ c a each is in
        elim at.0 [
          | inl val ↦ absurd (not_both (not (is_some a.index)) (has_long a name) at.1 (val.long name))
          | inr help ↦ long_help_fails c again a v h help (otherwise _ _ _ (takes_none a help) e)
        ]

-- and so is a short one
short_fails : (c : List Rule) (again : Bool) (x : ℕ) (rest : Text) (h : Held) (after : Held → ErrorKinds) → Each Plain c → short_fault c again (arg_by_short c x) rest h after ≡ [] → ⊥
short_fails c again x rest h after each = go (arg_by_short c x) refl
  where
    go : (o : Option Rule) → arg_by_short c x ≡ o → short_fault c again o rest h after ≡ [] → ⊥
    go None is e = some_kind _ _ e
    go (Some a) is e =
        let at = found_at Plain _ c a each is in
        elim at.0 [
          | inl val ↦ absurd (not_both (not (is_some a.index)) (has_short a x) at.1 (val.short x))
          | inr help ↦ react_fails c again a h help (none_else _ _ (otherwise _ _ _ (takes_none a help) e)).0
        ]

-- so a bundle of short flags has none
bundle_plain : (c : List Rule) (again : Bool) (k : ℕ) (flags : Text) (skip : ℕ) (h : Held) → Each Plain c → flags_fault c again k flags skip h ≡ []
    → bundle_met c k flags skip plain h ≡ (h, plain)
unfolding flags_fault bundle_met
bundle_plain c again zero flags skip h each e = refl
bundle_plain c again (suc k) flags skip h each e = go (slice_get (chars flags) 0) skip (λ text s f. bundle_plain c again k text s h each f) e
  where
    go : (o : Option ℕ) (skip : ℕ) → ((text : Text) (s : ℕ) → flags_fault c again k text s h ≡ [] → bundle_met c k text s plain h ≡ (h, plain))
        → bundle_step_fault c again o flags skip h (flags_fault c again k) ≡ [] → bundle_step c o flags skip plain h (bundle_met c k) ≡ (h, plain)
    go None skip more e = refl
    go (Some x) zero more e = absurd (short_fails c again x _ h _ each e)
    go (Some x) (suc skip) more e = more _ skip e

-- ---- a word without a fault

-- what is held stays, but for how many flags are passed over
pub record Same (h k : Held) : Type 0 where
  pub rows : k.rows ≡ h.rows
  pub pending : k.pending ≡ h.pending

-- the word is a value, or `--`
abbrev IsPlainStep : Step → Type 0
IsPlainStep (trailing position) = Unit {0}
IsPlainStep value = Unit {0}
IsPlainStep _ = ⊥

-- no option waits for a value
abbrev IsFree : Waiting → Type 0
IsFree (option id) = ⊥
IsFree _ = Unit {0}

abbrev IsPlainMet : Held → Held × Step → Type 0
IsPlainMet h met = Same h met.0 × IsPlainStep met.1

plain_is : (c : List Rule) (waiting : Waiting) (word : Text) (h k : Held) → IsFree waiting → Same h k → IsPlainMet h (plain_word c waiting word k)
plain_is c idle word h k free same = (same, tt)
plain_is c positional word h k free same = (same, tt)
plain_is c (option id) word h k free same = absurd free

short_is : (c : List Rule) (again : Bool) (waiting : Waiting) (word : Text) (h : Held) → Each Plain c → IsFree waiting → (o : Option Text)
    → option_map_or (λ flags. flags_fault c again (length flags) flags h.skip (record h { skip = 0 })) o [] ≡ [] → IsPlainMet h (short_or_plain c waiting word o h)
short_is c again waiting word h each free None e = plain_is c waiting word h h free (record { rows = refl; pending = refl })
short_is c again waiting word h each free (Some flags) e =
    let none = bundle_plain c again (length flags) flags h.skip (record h { skip = 0 }) each e in
    subst (λ (p : Held × Outcome). IsPlainMet h (after_flag c waiting word p.0 p.1)) (sym none) (plain_is c waiting word h (record h { skip = 0 }) free (record { rows = refl; pending = refl }))

long_is : (c : List Rule) (again : Bool) (waiting : Waiting) (word : Text) (h : Held) → Each Plain c → IsFree waiting → (o : Option (Text × Option Text))
    → flag_word_fault c again o word h ≡ [] → IsPlainMet h (long_or_other c waiting word o h)
long_is c again waiting word h each free None e = short_is c again waiting word h each free (short_of word) e
long_is c again waiting word h each free (Some p) e = absurd (long_fails c again p.0 p.1 h each e)

two_dashes : (s : Shape) (waiting : Waiting) (position : ℕ) (word : Text) (h : Held) → Each Plain s.rules → IsFree waiting
    → (b : Bool) → cond b [] (flag_word_fault s.rules s.args_override_self (long_of word) word h) ≡ []
    → IsPlainMet h (cond b (h, trailing position) (long_or_other s.rules waiting word (long_of word) h))
two_dashes s waiting position word h each free true e = (record { rows = refl; pending = refl }, tt)
two_dashes s waiting position word h each free false e = long_is s.rules s.args_override_self waiting word h each free (long_of word) e

word_is : (s : Shape) (is_trailing : Bool) (waiting : Waiting) (position : ℕ) (word : Text) (h : Held) → Each Plain s.rules → IsFree waiting
    → word_fault s [] is_trailing waiting word h ≡ [] → IsPlainMet h (word_met s.rules [] is_trailing waiting position word h)
word_is s true waiting position word h each free e = (record { rows = refl; pending = refl }, tt)
word_is s false (option id) position word h each free e = absurd free
word_is s false idle position word h each free e = two_dashes s idle position word h each tt (bytes_eq word (45 ∷ 45 ∷ [])) e
word_is s false positional position word h each free e = two_dashes s positional position word h each tt (bytes_eq word (45 ∷ 45 ∷ [])) e

-- ---- rows

-- the first of the values passes
abbrev pub Passes : Rule → List Text → Type 0
Passes a [] = ⊥
Passes a (v ∷ vs) = value_passes a v ≡ true

-- the row of an argument has a value that passes
abbrev pub IsSound : List Rule → Row → Type 0
IsSound c r = IfSome (arg_by_id c r.id) (λ a. Passes a r.values)

more_pass : (o : Option Rule) (xs ys : List Text) → IfSome o (λ a. Passes a xs) → IfSome o (λ a. Passes a (xs ++ ys))
more_pass None xs ys h = tt
more_pass (Some a) [] ys h = absurd h
more_pass (Some a) (x ∷ xs) ys h = h

sound_with : (c : List Rule) (a : Rule) (id : Text) (how : Reading) (source : ValueSource) (v : Text) (vs : List Text) → arg_by_id c id ≡ Some a → value_passes a v ≡ true
    → (rows : List Row) → Each (IsSound c) rows → Each (IsSound c) (with_values id how source (v ∷ vs) rows)
sound_with c a id how source v vs is pass [] each = (subst (λ (o : Option Rule). IfSome o (λ b. Passes b (v ∷ vs))) (sym is) pass, tt)
sound_with c a id how source v vs is pass (r ∷ rs) each = go (bytes_eq r.id id) (sound_with c a id how source v vs is pass rs each.1)
  where
    go : (b : Bool) → Each (IsSound c) (with_values id how source (v ∷ vs) rs)
        → Each (IsSound c) (cond b (more_values source (v ∷ vs) r ++ rs) (r ∷ with_values id how source (v ∷ vs) rs))
    go true more = (more_pass (arg_by_id c r.id) r.values (v ∷ vs) each.0, each.1)
    go false more = (each.0, more)

sound_without : (c : List Rule) (id : Text) (rows : List Row) → Each (IsSound c) rows → Each (IsSound c) (without id rows)
sound_without c id [] each = tt
sound_without c id (r ∷ rs) each = go (bytes_eq r.id id) (sound_without c id rs each.1)
  where
    go : (b : Bool) → Each (IsSound c) (without id rs) → Each (IsSound c) (cond b ([] ++ rs) (r ∷ without id rs))
    go true more = each.1
    go false more = (each.0, more)

-- a use without a fault
sound_used : (c : List Rule) (a : Rule) (id : Text) (again : Bool) (values : List Text) (rows : List Row) → Plain a → arg_by_id c id ≡ Some a → bytes_eq a.id id ≡ true
    → use_fault again a values rows ≡ [] → Each (IsSound c) rows → Each (IsSound c) (used a values rows)
sound_used c a id again values rows (inr help) is same e each = absurd (help_fails again a values rows help e)
sound_used c a id again [] rows (inl val) is same e each =
    absurd (some_kind _ _ (subst (λ (r : Option ValueRange). range_kinds (unwrap_or_range r).start_inclusive (unwrap_or_range r).end_inclusive 0 ≡ []) val.range (none_else _ _ e).0))
sound_used c a id again (v ∷ vs) rows (inl val) is same e each =
    let tested : set_fault again a (v ∷ vs) rows ≡ [] = subst (λ (x : ArgAction). action_fault x again a (v ∷ vs) rows ≡ []) val.action (none_else _ _ e).1 in
    let known : arg_by_id c a.id ≡ Some a = subst (λ (t : Text). arg_by_id c t ≡ Some a) (sym ((bytes_eq-Decides a.id id).0 same)) is in
    let pass : value_passes a v ≡ true = passes (value_passes a v) (none_else _ _ (none_else _ _ tested).1).0 in
    subst (λ (x : ArgAction). Each (IsSound c) (used_as x a.id (reading_by a) (v ∷ vs) rows)) (sym val.action)
    (sound_with c a a.id (reading_by a) _ v vs known pass (without a.id rows) (sound_without c a.id rows each))
  where
    passes : (b : Bool) → cond b [] (refused_kind (parser_of_value a.parser) ∷ []) ≡ [] → b ≡ true
    passes true h = refl
    passes false h = cc

-- the pending argument is used without a fault
sound_settled : (c : List Rule) (again : Bool) (h : Held) → Each Plain c → settle_fault c again h ≡ [] → Each (IsSound c) h.rows → Each (IsSound c) (settled c h).rows
sound_settled c again h simple e each = go h.pending e
  where
    by : (values : List Text) (id : Text) (o : Option Rule) → arg_by_id c id ≡ o → option_map_or (λ a. use_fault again a values h.rows) o [] ≡ [] → Each (IsSound c) (used_by_id o values h.rows)
    by values id None is e = each
    by values id (Some a) is e =
        let at = found_at Plain (λ (b : Rule). bytes_eq b.id id) c a simple is in
        sound_used c a id again values h.rows at.0 is at.1 e each

    go : (o : Option (Text × List Text)) → option_map_or (λ p. option_map_or (λ a. use_fault again a p.1 h.rows) (arg_by_id c p.0) []) o [] ≡ [] → Each (IsSound c) (settled_rows c o h.rows)
    go None e = each
    go (Some p) e = by p.1 p.0 (arg_by_id c p.0) refl e

-- ---- the walk of a line

-- where a walk stands that met no fault
pub record IsFine (c : List Rule) (w : Walk) : Type 0 where
  pub going : w.stopped ≡ None
  pub free : IsFree w.waiting
  pub sound : Each (IsSound c) w.held.rows

stray_fails : (b : Bool) → cond b (kind.UnknownArgument ∷ []) (kind.UnknownArgument ∷ kind.InvalidSubcommand ∷ []) ≡ [] → ⊥
stray_fails true e = some_kind _ _ e
stray_fails false e = some_kind _ _ e

free_after : (b : Bool) → IsFree (cond b positional idle)
free_after true = tt
free_after false = tt

-- a value goes to the next argument
fine_value : (s : Shape) (w : Walk) (word : Text) (h : Held) → Each Plain s.rules → IsFine s.rules w → Same w.held h → (o : Option Rule)
    → option_map_or (λ a. cond (is_pending a h.pending && takes_several a) [] (settle_fault s.rules s.args_override_self h)) o (stray_fault s) ≡ []
    → IsFine s.rules (to_positional s.rules o word w h)
fine_value s w word h simple fine same None e = absurd (stray_fails s.is_leaf e)
fine_value s w word h simple fine same (Some a) e = record {
  going = refl;
  free = free_after (is_multiple a);
  sound = go (is_pending a h.pending && takes_several a) e;
}
  where
    sound : Each (IsSound s.rules) h.rows
    sound = subst (λ (rows : List Row). Each (IsSound s.rules) rows) (sym same.rows) fine.sound

    go : (b : Bool) → cond b [] (settle_fault s.rules s.args_override_self h) ≡ [] → Each (IsSound s.rules) (cond b h (settled s.rules h)).rows
    go true e = sound
    go false e = sound_settled s.rules s.args_override_self h simple e sound

fine_step : (s : Shape) (w : Walk) (word : Text) (h : Held) (step : Step) → Each Plain s.rules → IsFine s.rules w → Same w.held h → IsPlainStep step
    → step_fault s w.position h step ≡ [] → IsFine s.rules (after_step s.rules word w h step)
fine_step s w word h (next waiting) simple fine same is e = absurd is
fine_step s w word h (subcommand name) simple fine same is e = absurd is
fine_step s w word h (trailing position) simple fine same is e = record {
  going = fine.going;
  free = fine.free;
  sound = subst (λ (rows : List Row). Each (IsSound s.rules) rows) (sym same.rows) fine.sound;
}
fine_step s w word h value simple fine same is e = fine_value s w word h simple fine same (arg_by_index s.rules w.position) e

fine_turn : (s : Shape) (w : Walk) (word : Text) → Each Plain s.rules → IsFine s.rules w → turn_fault s [] w word ≡ [] → IsFine s.rules (walked s.rules [] w word)
unfolding walked
fine_turn s w word simple fine e =
    let met : Held × Step = word_met s.rules [] w.is_trailing w.waiting w.position word w.held in
    let both : or_else (word_fault s [] w.is_trailing w.waiting word w.held) (step_fault s w.position met.0 met.1) ≡ [] =
    subst (λ (o : Option (Text × List Text)). cond (is_some o) [] (or_else (word_fault s [] w.is_trailing w.waiting word w.held) (step_fault s w.position met.0 met.1)) ≡ []) fine.going e in
    let parts = none_else _ _ both in
    let is = word_is s w.is_trailing w.waiting w.position word w.held simple fine.free parts.0 in
    subst (λ (o : Option (Text × List Text)). IsFine s.rules (walked_from s.rules [] o w word)) (sym fine.going) (fine_step s w word met.0 met.1 simple fine is.0 is.1 parts.1)

fine_walk : (s : Shape) (w : Walk) (words : List Text) → Each Plain s.rules → IsFine s.rules w → walk_fault s [] w words ≡ [] → IsFine s.rules (fold (walked s.rules []) w words)
unfolding walk_fault
fine_walk s w [] simple fine e = fine
fine_walk s w (word ∷ rest) simple fine e =
    let parts = none_else _ _ e in
    fine_walk s (walked s.rules [] w word) rest simple (fine_turn s w word simple fine parts.0) parts.1

-- ---- the end of a line

no_defaults : (c : List Rule) (rows : List Row) → Each (λ a. a.defaults ≡ []) c → fold with_default rows c ≡ rows
no_defaults [] rows none = refl
no_defaults (a ∷ c) rows none = ap (λ (r : List Row). fold with_default r c) (one (has_row a.id rows)) ∙ no_defaults c rows none.1
  where
    one : (b : Bool) → cond b rows (default_rows a.id (reading_by a) a.defaults rows) ≡ rows
    one true = refl
    one false = ap (λ (vs : List Text). default_rows a.id (reading_by a) vs rows) none.0

none_wanted : (x y z : Bool) → check_kinds x y z ≡ [] → z ≡ false
none_wanted true y z e = cc
none_wanted false true z e = cc
none_wanted false false true e = cc
none_wanted false false false e = refl

second_half : (n b : Bool) → (not (n && false) && b) ≡ false → b ≡ false
second_half true b e = e
second_half false b e = e

none_any : {X : Type 0} (p : X → Bool) (Q : X → Type 0) → ((x : X) → p x ≡ false → Q x) → (xs : List X) → list_any p xs ≡ false → Each Q xs
none_any p Q each [] e = tt
none_any p Q each (x ∷ xs) e = go (p x) refl (λ h. none_any p Q each xs h) e
  where
    go : (b : Bool) → p x ≡ b → (list_any p xs ≡ false → Each Q xs) → (b || list_any p xs) ≡ false → Q x × Each Q xs
    go true is more e = cc
    go false is more e = (each x is, more e)

-- the value of an argument that was given
given_value : (c : List Rule) (a : Rule) (id : Text) (rows : List Row) → arg_by_id c id ≡ Some a → Each (IsSound c) rows → is_given id rows ≡ true
    → IsSomeAnd (first_of id rows) (λ v. value_passes a v ≡ true)
given_value c a id rows known each e = go (find (λ (r : Row). bytes_eq r.id id) rows) refl e
  where
    first : (vs : List Text) → Passes a vs → IsSomeAnd (slice_get vs 0) (λ v. value_passes a v ≡ true)
    first [] h = absurd h
    first (v ∷ vs) h = h

    go : (o : Option Row) → find (λ (r : Row). bytes_eq r.id id) rows ≡ o → option_map_or (λ (r : Row). explicit_source r.source) o false ≡ true
        → IsSomeAnd (option_and_then (λ (r : Row). slice_get r.values 0) o) (λ v. value_passes a v ≡ true)
    go None is e = cc
    go (Some r) is e =
        let at = found_at (IsSound c) (λ (x : Row). bytes_eq x.id id) rows r each is in
        let here : arg_by_id c r.id ≡ Some a = subst (λ (t : Text). arg_by_id c t ≡ Some a) (sym ((bytes_eq-Decides r.id id).0 at.1)) known in
        first r.values (subst (λ (o : Option Rule). IfSome o (λ b. Passes b r.values)) here at.0)

-- the same of one that need not be given
value_sound : (c : List Rule) (a : Rule) (id : Text) (rows : List Row) → arg_by_id c id ≡ Some a → Each (IsSound c) rows → IfSome (first_of id rows) (λ v. value_passes a v ≡ true)
value_sound c a id rows known each = go (find (λ (r : Row). bytes_eq r.id id) rows) refl
  where
    first : (vs : List Text) → Passes a vs → IfSome (slice_get vs 0) (λ v. value_passes a v ≡ true)
    first [] h = tt
    first (v ∷ vs) h = h

    go : (o : Option Row) → find (λ (r : Row). bytes_eq r.id id) rows ≡ o → IfSome (option_and_then (λ (r : Row). slice_get r.values 0) o) (λ v. value_passes a v ≡ true)
    go None is = tt
    go (Some r) is =
        let at = found_at (IsSound c) (λ (x : Row). bytes_eq x.id id) rows r each is in
        let here : arg_by_id c r.id ≡ Some a = subst (λ (t : Text). arg_by_id c t ≡ Some a) (sym ((bytes_eq-Decides r.id id).0 at.1)) known in
        first r.values (subst (λ (o : Option Rule). IfSome o (λ b. Passes b r.values)) here at.0)

-- an argument has a value that passes the parser of its id, or, where none is required, none
abbrev pub HasValue : Shape → List Row → Rule → Type 0
HasValue s rows a = (b : Rule) → arg_by_id s.rules a.id ≡ Some b → HasOne a.required (first_of a.id rows) (λ v. value_passes b v ≡ true)

-- a value that is required is given, and any that is given passes
one_if_required : (b g : Bool) (o : Option Text) (P : Text → Type 0) → (b && not g) ≡ false → (g ≡ true → IsSomeAnd o P) → IfSome o P → HasOne b o P
one_if_required true true o P h has may = has refl
one_if_required true false o P h has may = absurd (let e : true ≡ false = h in cc)
one_if_required false g o P h has may = may

-- words of a line without a fault
pub line_values : (s : Shape) (words : List Text) → Each Plain s.rules → Each (λ a. a.defaults ≡ []) s.rules → level_fault s [] nothing_held words false [] ≡ []
    → Each (HasValue s (rows_after s.rules [] words)) s.rules
line_values s words simple none e =
    let end : Held = (walk s.rules [] nothing_held words).held in
    let walked_well = none_else _ _ e in
    let settled_well = none_else _ _ walked_well.1 in
    let checked_well = none_else _ _ settled_well.1 in
    let fine = fine_walk s (walk_from nothing_held) words simple (record { going = refl; free = tt; sound = tt }) walked_well.0 in
    let sound : Each (IsSound s.rules) (settled s.rules end).rows = sound_settled s.rules s.args_override_self end simple settled_well.0 fine.sound in
    let ends : Each (IsSound s.rules) (finished s.rules end) = subst (λ (rows : List Row). Each (IsSound s.rules) rows) (sym (no_defaults s.rules (settled s.rules end).rows none)) sound in
    let given : list_any (λ (a : Rule). a.required && not (is_given a.id (finished s.rules end))) s.rules ≡ false = second_half s.subcommand_negates_reqs _ (none_wanted _ _ _ checked_well.1) in
    none_any (λ (a : Rule). a.required && not (is_given a.id (finished s.rules end))) (HasValue s (finished s.rules end))
    (λ a h b known. one_if_required a.required (is_given a.id (finished s.rules end)) (first_of a.id (finished s.rules end)) (λ v. value_passes b v ≡ true) h
    (given_value s.rules b a.id (finished s.rules end) known ends) (value_sound s.rules b a.id (finished s.rules end) known ends)) s.rules given

-- ---- the subcommand

-- the name is not `help`
abbrev IsOther : Text → Type 0
IsOther name = bytes_eq name (codes "help") ≡ false

-- a step that enters a subcommand other than `help`, or none
abbrev EntersOther : Step → Type 0
EntersOther (subcommand name) = IsOther name
EntersOther _ = Unit {0}

plain_enters : (c : List Rule) (waiting : Waiting) (word : Text) (h : Held) → EntersOther (plain_word c waiting word h).1
plain_enters c idle word h = tt
plain_enters c positional word h = tt
plain_enters c (option id) word h = tt

flag_enters : (c : List Rule) (waiting : Waiting) (word : Text) (h : Held) (o : Outcome) → EntersOther (after_flag c waiting word h o).1
flag_enters c waiting word h done = tt
flag_enters c waiting word h (waits id) = tt
flag_enters c waiting word h plain = plain_enters c waiting word h
flag_enters c waiting word h refused = plain_enters c waiting word h

long_enters : (c : List Rule) (waiting : Waiting) (word : Text) (h : Held) (o : Option (Text × Option Text)) (p : Option Text)
    → EntersOther (option_map_or (λ (q : Text × Option Text). long_word c waiting word q.0 q.1 h) o (short_or_plain c waiting word p h)).1
long_enters c waiting word h (Some q) p = flag_enters c waiting word _ _
long_enters c waiting word h None (Some flags) = flag_enters c waiting word _ _
long_enters c waiting word h None None = plain_enters c waiting word h

word_enters : (s : Shape) (names : Names) (is_trailing : Bool) (waiting : Waiting) (position : ℕ) (word : Text) (h : Held) → s.disable_help_subcommand ≡ false
    → word_fault s names is_trailing waiting word h ≡ [] → EntersOther (word_met s.rules names is_trailing waiting position word h).1
word_enters s names true waiting position word h has_help e = tt
word_enters s names false waiting position word h has_help e = go (subcommand_met names waiting word) e
  where
    other : (b d : Bool) → d ≡ false → cond (b && not d) (kind.DisplayHelp ∷ kind.InvalidSubcommand ∷ []) [] ≡ [] → b ≡ false
    other false d is e = refl
    other true true is e = cc
    other true false is e = absurd (some_kind _ _ e)

    met : (b : Bool) → EntersOther (cond b (h, trailing position) (long_or_other s.rules waiting word (long_of word) h)).1
    met true = tt
    met false = by (long_of word)
      where
        by : (o : Option (Text × Option Text)) → EntersOther (long_or_other s.rules waiting word o h).1
        by (Some q) = flag_enters s.rules waiting word _ _
        by None = long_enters s.rules waiting word h None (short_of word)

    go : (o : Option Text) → other_fault s o word h ≡ [] → EntersOther (subcommand_or_other s.rules o waiting position word h).1
    go (Some name) e = other (bytes_eq name (codes "help")) s.disable_help_subcommand has_help e
    go None e = met (bytes_eq word (45 ∷ 45 ∷ []))

-- ---- the walk of the program

-- a subcommand that a walk met is not `help`
abbrev pub IsNamed : Option (Text × List Text) → Type 0
IsNamed o = IfSome o (λ p. IsOther p.0)

step_names : (c : List Rule) (w : Walk) (word : Text) (h : Held) (step : Step) → EntersOther step → IsNamed w.stopped → IsNamed (after_step c word w h step).stopped
step_names c w word h (next waiting) is named = named
step_names c w word h (trailing position) is named = named
step_names c w word h (subcommand name) is named = is
step_names c w word h value is named = go (arg_by_index c w.position)
  where
    go : (o : Option Rule) → IsNamed (to_positional c o word w h).stopped
    go None = named
    go (Some a) = tt

turn_names : (s : Shape) (names : Names) (w : Walk) (word : Text) → s.disable_help_subcommand ≡ false → IsNamed w.stopped → turn_fault s names w word ≡ []
    → IsNamed (walked s.rules names w word).stopped
unfolding walked
turn_names s names w word has_help named e = go w.stopped named e
  where
    go : (o : Option (Text × List Text)) → IsNamed o
        → cond (is_some o) [] (or_else (word_fault s names w.is_trailing w.waiting word w.held) (step_fault s w.position (word_met s.rules names w.is_trailing w.waiting w.position word w.held).0 (word_met s.rules names w.is_trailing w.waiting w.position word w.held).1)) ≡ []
        → IsNamed (walked_from s.rules names o w word).stopped
    go (Some p) is e = is
    go None is e = step_names s.rules w word _ _ (word_enters s names w.is_trailing w.waiting w.position word w.held has_help (none_else _ _ e).0) named

walk_names : (s : Shape) (names : Names) (w : Walk) (words : List Text) → s.disable_help_subcommand ≡ false → IsNamed w.stopped → walk_fault s names w words ≡ []
    → IsNamed (fold (walked s.rules names) w words).stopped
unfolding walk_fault
walk_names s names w [] has_help named e = named
walk_names s names w (word ∷ rest) has_help named e =
    let parts = none_else _ _ e in
    walk_names s names (walked s.rules names w word) rest has_help (turn_names s names w word has_help named parts.0) parts.1

-- words that this line takes have what is asked of its name and its values
abbrev pub IsLeaf : (Text → List Row → Type 0) → Shape → Type 0
IsLeaf Q s = (word : Text) → answers_to word (label_of s) ≡ true → IsOther word → (words : List Text) → level_fault s [] nothing_held words false [] ≡ [] → Q s.name (rows_after s.rules [] words)

entered_values : (Q : Text → List Row → Type 0) (a : App) (stop : Option (Text × List Text)) → IsNamed stop → Each (IsLeaf Q) a.subs → is_some (entered a stop) ≡ true
    → entered_fault a stop ≡ [] → IsSomeAnd (entered a stop) (λ s. Q s.0 s.1)
entered_values Q a None named each some e = cc
entered_values Q a (Some p) named each some e = go (find (λ (s : Shape). answers_to p.0 (label_of s)) a.subs) refl some e
  where
    go : (o : Option Shape) → find (λ (s : Shape). answers_to p.0 (label_of s)) a.subs ≡ o → is_some (option_map (λ (s : Shape). rows_at s p.1) o) ≡ true
        → option_map_or (λ (s : Shape). level_fault s [] nothing_held p.1 false []) o [] ≡ [] → IsSomeAnd (option_map (λ (s : Shape). rows_at s p.1) o) (λ s. Q s.0 s.1)
    go None is some e = cc
    go (Some s) is some e =
        let at = found_at (IsLeaf Q) (λ (x : Shape). answers_to p.0 (label_of x)) a.subs s each is in
        at.0 p.0 at.1 named p.1 e

-- a subcommand is there where one is required
has_one : (has r w z : Bool) → r ≡ true → check_kinds (not has && w) (not has && r) z ≡ [] → has ≡ true
has_one true r w z is e = refl
has_one false true true z is e = absurd (some_kind _ _ e)
has_one false true false z is e = absurd (some_kind _ _ e)
has_one false false w z is e = cc

-- words in which a built command finds no fault name a line, and have what is asked of it
pub app_values : (Q : Text → List Row → Type 0) (a : App) (words : List Text) → a.top.disable_help_subcommand ≡ false → a.top.subcommand_required ≡ true → Each (IsLeaf Q) a.subs
    → built_fault a nothing_held words ≡ [] → IsSomeAnd (entered a (walk a.top.rules (names_of a) nothing_held words).stopped) (λ s. Q s.0 s.1)
app_values Q a words has_help required each e =
    let stop : Option (Text × List Text) = (walk a.top.rules (names_of a) nothing_held words).stopped in
    let walked_well = none_else _ _ e in
    let entered_well = none_else _ _ walked_well.1 in
    let settled_well = none_else _ _ entered_well.1 in
    let checked_well = none_else _ _ settled_well.1 in
    let named = walk_names a.top (names_of a) (walk_from nothing_held) words has_help tt walked_well.0 in
    entered_values Q a stop named each (has_one (is_some (entered a stop)) a.top.subcommand_required _ _ required checked_well.1) entered_well.0
